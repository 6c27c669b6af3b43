-- What a client has got, where it got a beginning of the packets that were sent: a beginning of their payloads, up to its
-- end.
use Rattle.std.proofs.Common.{◌≡◌, refl, ap, sym, ◌∙◌, ℕ, List, [], ◌∷◌, ◌++◌, Some}
use Rattle.packet_frame.specs.Front.{Front, Whole, Part, Fault}
use Rattle.packet_frame.specs.Packets.{id_after}
use Rattle.packet_frame.specs.declared.packets.FrameFault.{FrameFault}
use Rattle.packet_stream.specs.Sent.{Sent, id_behind}
use Rattle.packet_stream.specs.Streams.{Stream, behind_of, front_of}
use Rattle.login_client.specs.Heard.{heard_of}
use Rattle.login_client.specs.Talk.{Talk, Hears, Says, Over, Leads, result_of}
use Rattle.login_client.specs.declared.ends.LoginEnd.{LoginEnd}
use Rattle.login_client.specs.declared.ends.LoginEnd.TheVariants.{Framing}
use Rattle.login_client.specs.declared.hearing.Heard.{Heard}
use Rattle.login_client.proofs.HeardOf.{heard_of_is}
use Rattle.client_wire.specs.Getting.{getting}
use Rattle.packet_stream.specs.Packing.{packet_text, packets_text}
use Rattle.client_wire.proofs.Fronted.{at_front}
use Rattle.both_ends.specs.Meeting.{IsBeginning, payloads_of}
use Rattle.session_world.proofs.Wanted.{first_read, none_read}

-- it isn't a fault of framing
abbrev pub IsUnframed : LoginEnd → Type 0
IsUnframed how = (fault : FrameFault) → how ≡ Framing fault → ⊥

-- a talk came to its end by some of these payloads, in order and from the first one on
abbrev pub Reaches : Talk → LoginEnd → List Sent → Type 0
Reaches t how sent = (got written : List (List ℕ)) × Leads t got written (Over how) × IsBeginning got (payloads_of sent)

abbrev Comes : (next : ℕ) → Talk → Stream → LoginEnd → Type 0
Comes next t stream how = result_of (getting next t stream).at ≡ Some how

some_end : (a b : LoginEnd) → Some a ≡ Some b → b ≡ a
some_end a b e = cc

over_reaches : (end how : LoginEnd) (sent : List Sent) → Some end ≡ Some how → Reaches (Over end) how sent
over_reaches end how sent e = ([], [], (refl, ap (λ (x : LoginEnd). Over x) (some_end end how e)), (payloads_of sent, refl))

module _ (how : LoginEnd) (unframed : IsUnframed how) (next : ℕ) (k : Heard → Talk) (stream : Stream) (more : List ℕ) where
  abbrev At : Front → Type 0
  At f = result_of (at_front next k stream f).at ≡ Some how

  no_part : (missing : ℕ) → At (Part missing) → ⊥
  no_part missing at = absurd (cc)

  no_fault : (fault : FrameFault) → At (Fault fault) → ⊥
  no_fault fault at = unframed fault (some_end (Framing fault) how at)

  by_none : stream.bytes ++ more ≡ [] → (f : Front) → front_of next stream ≡ f → At f → ⊥
  by_none split (Whole first last payload behind) e at = none_read next stream.place first last payload behind stream.bytes more split e
  by_none split (Part missing) e at = no_part missing at
  by_none split (Fault fault) e at = no_fault fault at

  abbrev Again : List Sent → Type 0
  Again sent = (next' : ℕ) (t : Talk) (s : Stream) → s.bytes ++ more ≡ packets_text sent → Comes next' t s how → Reaches t how sent

  heard_first : (payload : List ℕ) (first : Sent) (sent : List Sent) → payload ≡ first.payload →
      Reaches (k (heard_of payload)) how sent → Reaches (Hears k) how (first ∷ sent)
  heard_first payload first sent same (got, written, leads, (rest, split)) = (
    payload ∷ got,
    written,
    (heard_of payload, heard_of_is payload, leads),
    (rest, ap (λ (p : List ℕ). p ∷ payloads_of sent) (sym same) ∙ ap (λ (ps : List (List ℕ)). payload ∷ ps) split),
  )

  by_shown : (first : Sent) (sent : List Sent) → Again sent → stream.bytes ++ more ≡ packet_text first.first first.payload ++ packets_text sent →
      (f : Front) → front_of next stream ≡ f → At f → Reaches (Hears k) how (first ∷ sent)
  by_shown first sent again split (Whole id last payload behind) e at =
      let (same, fits, is, next_is, left) = first_read next stream.place first.first id last first.payload payload (packets_text sent) behind stream.bytes more split e in
      heard_first payload first sent is (again (id_after last) (k (heard_of payload)) (behind_of stream behind) left at)
  by_shown first sent again split (Part missing) e at = absurd (no_part missing at)
  by_shown first sent again split (Fault fault) e at = absurd (no_fault fault at)

  pub nothing_reaches : stream.bytes ++ more ≡ [] → At (front_of next stream) → ⊥
  nothing_reaches split at = by_none split (front_of next stream) refl at

  pub hears_reaches : (first : Sent) (sent : List Sent) → Again sent → stream.bytes ++ more ≡ packet_text first.first first.payload ++ packets_text sent →
      At (front_of next stream) → Reaches (Hears k) how (first ∷ sent)
  hears_reaches first sent again split at = by_shown first sent again split (front_of next stream) refl at

says_reaches : (said : List ℕ) (k : Heard → Talk) (how : LoginEnd) (first : Sent) (sent : List Sent) → Reaches (Hears k) how (first ∷ sent) → Reaches (Says said k) how (first ∷ sent)
says_reaches said k how first sent ([], written, leads, beginning) = absurd (let e = ap result_of leads.1 in cc)
says_reaches said k how first sent (payload ∷ got, written, (heard, is, leads), beginning) = (payload ∷ got, said ∷ written, (written, refl, heard, is, leads), beginning)

pub reaches : (how : LoginEnd) → IsUnframed how → (sent : List Sent) (more : List ℕ) (next : ℕ) (t : Talk) (stream : Stream) → stream.bytes ++ more ≡ packets_text sent →
    Comes next t stream how → Reaches t how sent
unfolding getting
reaches how unframed sent more next (Over end) stream split comes = over_reaches end how sent comes
reaches how unframed [] more next (Hears k) stream split comes = absurd (nothing_reaches how unframed next k stream more split comes)
reaches how unframed [] more next (Says said k) stream split comes = absurd (nothing_reaches how unframed (id_behind next said) k stream more split comes)
reaches how unframed (first ∷ sent) more next (Hears k) stream split comes =
    hears_reaches how unframed next k stream more first sent (λ next' t s. reaches how unframed sent more next' t s) split comes
reaches how unframed (first ∷ sent) more next (Says said k) stream split comes =
    says_reaches said k how first sent
    (hears_reaches how unframed (id_behind next said) k stream more first sent (λ next' t s. reaches how unframed sent more next' t s) split comes)
