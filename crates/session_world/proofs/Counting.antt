-- Both ends of a connection count packets alike. So a client that gets all that a session sends, up to the reply to its
-- first attempt and any payloads after that, reads all payloads in it.
use Rattle.std.proofs.Common.{◌≡◌, refl, ap, sym, ◌∙◌, subst, ◌⊎◌, inl, inr, ℕ, ◌+◌, ◌-◌, ◌≤◌, true, false, List, [], ◌∷◌, ◌++◌, length, append_assoc, Some}
use Rattle.packet_frame.specs.Front.{Front, Whole, Part, Fault}
use Rattle.packet_frame.specs.Packets.{id_after}
use Rattle.packet_frame.specs.declared.packets.FrameFault.{FrameFault}
use Rattle.packet_frame.specs.declared.packets.FrameFault.TheVariants.{TooLarge, OutOfOrder, Memory as NoMemory}
use Rattle.factor_chain.specs.CheckedOf.{CheckedOf}
use Rattle.factor_chain.specs.declared.credentials.Look.{Look}
use Rattle.factor_chain.specs.declared.evidence_list.Evidence.{Evidence}
use Rattle.account_history.specs.declared.entries.Reply.{Reply}
use Rattle.session_talk.specs.declared.actions.Ask.TheVariants as ask
use Rattle.session_talk.specs.declared.inputs.Input.{Input}
use Rattle.session_talk.specs.declared.inputs.Input.TheVariants as input
use Rattle.packet_stream.specs.Sent.{Sent, id_behind}
use Rattle.interaction.specs.Talk as reading
use Rattle.interaction.specs.Talk.{Says, Hears, Asks, Over}
use Rattle.session_talk.specs.Talk.{Begins, Own, SessionTalk}
use Rattle.session_talk.specs.Logins.{faulted}
use Rattle.session_talk.specs.Turns.{wanted}
use Rattle.session_talk.specs.Wired as wiring
use Rattle.session_talk.specs.Wired.{Wired, said_from, wired}
use Rattle.packet_stream.specs.Streams.{Stream, behind_of, by_front, front_of}
use Rattle.packet_stream.specs.declared.limits.TheConstants.{MAX_PAYLOAD}
use Rattle.login_client.specs.Heard.{heard_of}
use Rattle.login_client.specs.Hearing.{IsHeard}
use Rattle.login_client.specs.Talk as client
use Rattle.login_client.specs.Talk.{Leads, result_of}
use Rattle.login_client.specs.declared.ends.LoginEnd.{LoginEnd}
use Rattle.login_client.specs.declared.hearing.Heard.{Heard}
use Rattle.login_client.proofs.HeardOf.{heard_of_is}
use Rattle.login_client.proofs.Meaning.{one-meaning}
use Rattle.client_wire.specs.Getting.{Got, getting}
use Rattle.packet_stream.specs.Packing.{packet_text, packets_text}
use Rattle.client_wire.proofs.Fronted.{at_front}
use Rattle.both_ends.specs.Meeting.{AreNonces, first_reply, payloads_of}
use Rattle.session_world.specs.BothEnds.{HasWords}
use Rattle.session_world.proofs.Wanted.{first_read, is_whole}

abbrev pub IsShort : List ℕ → Type 0
IsShort payload = length payload ≤ MAX_PAYLOAD

-- ## A client beside a session

-- a session that ends here
abbrev pub EndsHere : SessionTalk → Type 0
EndsHere (Over how) = Unit {0}
EndsHere t = ⊥

-- what is said of a reply is short, and ends the client
abbrev pub TellsEnd : client.Talk → SessionTalk → Type 0
TellsEnd (client.Hears k) (Says payload t) = IsShort payload × (heard : Heard) × IsHeard payload heard × (how : LoginEnd) × (k heard ≡ client.Over how)
TellsEnd _ _ = ⊥

-- Whatever the session is answered, it says something short where the client hears, and the client hears it; and it hears
-- where the client says something. That goes on until a reply ends the client.
abbrev pub Fits : SessionTalk → client.Talk → Type 0
Fits (Says payload t) (client.Hears k) = EndsHere t ⊎ (IsShort payload × (heard : Heard) × IsHeard payload heard × Fits t (k heard))
Fits (Says payload t) (client.Says said k) = ⊥
Fits (Says payload t) (client.Over how) = Unit {0}
Fits (Hears true k) c = ⊥
Fits (Hears false k) (client.Hears k') = ⊥
Fits (Hears false k) (client.Says said k') = (payload : List ℕ) → Fits (k (reading.Got payload)) (client.Hears k')
Fits (Hears false k) (client.Over how) = ⊥
Fits (Asks Begins k) c = (nonce : List ℕ) → length nonce ≡ 20 → Fits (k (input.Start nonce)) c
Fits (Asks (Own ask.Draw) k) c = (nonce : List ℕ) → length nonce ≡ 20 → Fits (k (input.Drawn nonce)) c
Fits (Asks (Own (ask.Observe who)) k) c = (look : Look) → Fits (k (input.Looked look)) c
Fits (Asks (Own (ask.Renew who)) k) c = (look : Look) → Fits (k (input.Looked look)) c
Fits (Asks (Own (ask.Check look evidences)) k) c = (checked : CheckedOf) → Fits (k (input.Checked checked)) c
Fits (Asks (Own (ask.Settle checked flags)) k) c =
    ((evidences : List Evidence) → Fits (k (input.Stale evidences)) c) × ((reply : Reply) → HasWords reply → TellsEnd c (k (input.Settled reply)))
Fits (Asks (Own (ask.SettleLocked user evidences flags)) k) c = (reply : Reply) → HasWords reply → TellsEnd c (k (input.Settled reply))
Fits (Asks _ k) c = ⊥
Fits (Over how) c = Unit {0}

-- ## What the client reads

abbrev pub stream_at : (place : ℕ) → List Sent → Stream
stream_at place sent = record { place = place; bytes = packets_text sent }

-- it read all the payloads, or ended before
abbrev pub ReadsAll : (next : ℕ) → client.Talk → (place : ℕ) → List Sent → Type 0
ReadsAll next c place sent =
    (written : List (List ℕ)) × (now : client.Talk) × Leads c (payloads_of sent) written now × (result_of (getting next c (stream_at place sent)).at ≡ result_of now)

over_reads : (next : ℕ) (how : LoginEnd) (place : ℕ) (sent : List Sent) → ReadsAll next (client.Over how) place sent
unfolding getting
over_reads next how place sent = ([], client.Over how, (refl, refl), refl)

module _ (next : ℕ) (k : Heard → client.Talk) (place : ℕ) (payload : List ℕ) (heard : Heard) (sent : List Sent) (short : IsShort payload) (is : IsHeard payload heard) where
  abbrev foremost : Sent
  foremost = record { first = next; payload = payload }

  abbrev laid : Stream
  laid = stream_at place (foremost ∷ sent)

  -- where the bytes behind the first packet stand
  abbrev place_behind : ℕ
  place_behind = place + (length laid.bytes - length (packets_text sent))

  -- the first packet is read
  pub first_got : getting next (client.Hears k) laid ≡ getting (id_behind next payload) (k heard) (stream_at place_behind sent)
  unfolding getting
  first_got =
      let (same, fits, last, next_is, shown) = is_whole next place next payload (packets_text sent) refl short in
      ap (λ (f : Front). at_front next k laid f) shown
      ∙ (ap (λ (id : ℕ). getting id (k (heard_of payload)) (stream_at place_behind sent)) next_is
      ∙ ap (λ (h : Heard). getting (id_behind next payload) (k h) (stream_at place_behind sent)) (one-meaning payload (heard_of payload) heard (heard_of_is payload) is))

  pub first_reads : ReadsAll (id_behind next payload) (k heard) place_behind sent → ReadsAll next (client.Hears k) place (foremost ∷ sent)
  first_reads (written, now, leads, result) = (written, now, (heard, is, leads), ap (λ (g : Got). result_of g.at) first_got ∙ result)

-- what it says is written first
says_reads : (next : ℕ) (said : List ℕ) (k : Heard → client.Talk) (place : ℕ) (sent : List Sent) → ReadsAll (id_behind next said) (client.Hears k) place sent →
    ReadsAll next (client.Says said k) place sent
unfolding getting
says_reads next said k place [] (written, now, (none, at), result) = (said ∷ [], client.Hears k, (refl, refl), result ∙ ap result_of at)
says_reads next said k place (first ∷ sent) (written, now, (heard, is, leads), result) = (said ∷ written, now, (written, refl, heard, is, leads), result)

told_reads : (c : client.Talk) (next place : ℕ) (t : SessionTalk) (stream : Stream) (owns : List Input) → TellsEnd c t → ReadsAll next c place (wired next t stream owns).sent
unfolding wired
told_reads (client.Hears k) next place (Says payload t) stream owns (short, heard, is, how, over) =
    let sent : List Sent = (wired (id_behind next payload) t stream owns).sent in
    first_reads next k place payload heard sent short is
    (subst (λ (c : client.Talk). ReadsAll (id_behind next payload) c (place_behind next k place payload heard sent short is) sent) (sym over)
    (over_reads (id_behind next payload) how (place_behind next k place payload heard sent short is) sent))
told_reads _ next place _ stream owns told = absurd told

-- ## What the session reads

-- Of what the client writes for what the session sends, the session has a beginning in its stream; commands may follow.
abbrev pub IsTied : (next : ℕ) → client.Talk → (place : ℕ) → List Sent → (bytes rest commands : List ℕ) → Type 0
IsTied next c place sent bytes rest commands = bytes ++ rest ≡ (getting next c (stream_at place sent)).sent ++ commands

no_reply : (owns : List Input) (reply : Reply) → owns ≡ [] → first_reply owns ≡ Some reply → ⊥
no_reply owns reply none found = absurd (let e = ap first_reply none in cc)

some_reply : (found reply : Reply) → Some found ≡ Some reply → reply ≡ found
some_reply found reply e = cc

pub fault_unused : (next : ℕ) (fault : FrameFault) (stream : Stream) (owns : List Input) → (said_from next (faulted fault) stream owns).unused ≡ owns
unfolding said_from
fault_unused next (TooLarge at) stream owns = refl
fault_unused next (OutOfOrder at want got) stream owns = refl
fault_unused next NoMemory stream owns = refl

end_unused : (next : ℕ) (t : SessionTalk) (stream : Stream) (owns : List Input) → EndsHere t → (wired next t stream owns).unused ≡ owns
unfolding wired
end_unused next (Over how) stream owns ends = refl
end_unused next _ stream owns ends = absurd ends

-- a session that hears, while the client says something
module _ (next : ℕ) (k : reading.Reading → SessionTalk) (said : List ℕ) (k' : Heard → client.Talk) (place : ℕ) (stream : Stream) (owns : List Input) (rest commands : List ℕ) (reply : Reply)
    (found : first_reply owns ≡ Some reply) where
  abbrev wired_by : Front → Wired
  wired_by f = by_front (λ last payload behind. wired (id_after last) (k (reading.Got payload)) (behind_of stream behind) owns)
      (wiring.stops next (Hears false k) stream owns) (λ fault. said_from (id_after (wanted false next)) (faulted fault) stream owns) f

  abbrev Again : Type 0
  Again = (last : ℕ) (payload : List ℕ) (s : Stream) → (wired (id_after last) (k (reading.Got payload)) s owns).unused ≡ [] →
      IsTied (id_after last) (client.Hears k') place (wired (id_after last) (k (reading.Got payload)) s owns).sent s.bytes rest commands →
      ReadsAll (id_after last) (client.Hears k') place (wired (id_after last) (k (reading.Got payload)) s owns).sent

  -- what the client writes behind what it says
  abbrev later : List Sent → List ℕ
  later sent = (getting (id_behind next said) (client.Hears k') (stream_at place sent)).sent

  tied_said : (sent : List Sent) → IsTied next (client.Says said k') place sent stream.bytes rest commands → stream.bytes ++ rest ≡ packet_text next said ++ (later sent ++ commands)
  unfolding getting
  tied_said sent tied = tied ∙ append_assoc (packet_text next said) (later sent) commands

  by_shown : Again → (f : Front) → front_of next stream ≡ f → (wired_by f).unused ≡ [] → IsTied next (client.Says said k') place (wired_by f).sent stream.bytes rest commands →
      ReadsAll next (client.Says said k') place (wired_by f).sent
  by_shown again (Whole first last payload behind) e used tied =
      let sent : List Sent = (wired (id_after last) (k (reading.Got payload)) (behind_of stream behind) owns).sent in
      let (same, fits, is, next_is, left) = first_read next stream.place next first last said payload (later sent ++ commands) behind stream.bytes rest (tied_said sent tied) e in
      says_reads next said k' place sent
      (subst (λ (id : ℕ). ReadsAll id (client.Hears k') place sent) next_is
      (again last payload (behind_of stream behind) used (subst (λ (id : ℕ). IsTied id (client.Hears k') place sent behind rest commands) (sym next_is) left)))
  by_shown again (Part missing) e used tied = absurd (no_reply owns reply used found)
  by_shown again (Fault fault) e used tied = absurd (no_reply owns reply (sym (fault_unused (id_after next) fault stream owns) ∙ used) found)

  pub hears_reads : Again → (wired_by (front_of next stream)).unused ≡ [] → IsTied next (client.Says said k') place (wired_by (front_of next stream)).sent stream.bytes rest commands →
      ReadsAll next (client.Says said k') place (wired_by (front_of next stream)).sent
  hears_reads again used tied = by_shown again (front_of next stream) refl used tied

pub reads_all : (reply : Reply) → HasWords reply → (rest commands : List ℕ) (t : SessionTalk) (c : client.Talk) (next place : ℕ) (stream : Stream) (owns : List Input) →
    Fits t c → AreNonces owns → (wired next t stream owns).unused ≡ [] → first_reply owns ≡ Some reply →
    IsTied next c place (wired next t stream owns).sent stream.bytes rest commands → ReadsAll next c place (wired next t stream owns).sent
unfolding wired
reads_all reply words rest commands (Says payload t) (client.Hears k) next place stream owns (inl ends) nonces used found tied =
    absurd (no_reply owns reply (sym (end_unused (id_behind next payload) t stream owns ends) ∙ used) found)
reads_all reply words rest commands (Says payload t) (client.Hears k) next place stream owns (inr (short, heard, is, fits)) nonces used found tied =
    let sent : List Sent = (wired (id_behind next payload) t stream owns).sent in
    first_reads next k place payload heard sent short is
    (reads_all reply words rest commands t (k heard) (id_behind next payload) (place_behind next k place payload heard sent short is) stream owns fits nonces used found
    (tied ∙ ap (λ (g : Got). g.sent ++ commands) (first_got next k place payload heard sent short is)))
reads_all reply words rest commands (Says payload t) (client.Over how) next place stream owns fits nonces used found tied =
    over_reads next how place (wired next (Says payload t) stream owns).sent
reads_all reply words rest commands (Hears false k) (client.Says said k') next place stream owns fits nonces used found tied =
    hears_reads next k said k' place stream owns rest commands reply found
    (λ last payload s used' tied'. reads_all reply words rest commands (k (reading.Got payload)) (client.Hears k') (id_after last) place s owns (fits payload) nonces used' found tied') used tied
reads_all reply words rest commands (Asks Begins k) c next place stream (input.Start nonce ∷ owns) fits nonces used found tied =
    reads_all reply words rest commands (k (input.Start nonce)) c next place stream owns (fits nonce nonces.0) nonces.1 used found tied
reads_all reply words rest commands (Asks (Own ask.Draw) k) c next place stream (input.Drawn nonce ∷ owns) fits nonces used found tied =
    reads_all reply words rest commands (k (input.Drawn nonce)) c next place stream owns (fits nonce nonces.0) nonces.1 used found tied
reads_all reply words rest commands (Asks (Own (ask.Observe who)) k) c next place stream (input.Looked look ∷ owns) fits nonces used found tied =
    reads_all reply words rest commands (k (input.Looked look)) c next place stream owns (fits look) nonces.1 used found tied
reads_all reply words rest commands (Asks (Own (ask.Renew who)) k) c next place stream (input.Looked look ∷ owns) fits nonces used found tied =
    reads_all reply words rest commands (k (input.Looked look)) c next place stream owns (fits look) nonces.1 used found tied
reads_all reply words rest commands (Asks (Own (ask.Check look evidences)) k) c next place stream (input.Checked checked ∷ owns) fits nonces used found tied =
    reads_all reply words rest commands (k (input.Checked checked)) c next place stream owns (fits checked) nonces.1 used found tied
reads_all reply words rest commands (Asks (Own (ask.Settle checked flags)) k) c next place stream (input.Stale evidences ∷ owns) fits nonces used found tied =
    reads_all reply words rest commands (k (input.Stale evidences)) c next place stream owns (fits.0 evidences) nonces.1 used found tied
reads_all reply words rest commands (Asks (Own (ask.Settle checked flags)) k) c next place stream (input.Settled replied ∷ owns) fits nonces used found tied =
    told_reads c next place (k (input.Settled replied)) stream owns (fits.1 replied (subst (λ (r : Reply). HasWords r) (some_reply replied reply found) words))
reads_all reply words rest commands (Asks (Own (ask.SettleLocked user evidences flags)) k) c next place stream (input.Settled replied ∷ owns) fits nonces used found tied =
    told_reads c next place (k (input.Settled replied)) stream owns (fits replied (subst (λ (r : Reply). HasWords r) (some_reply replied reply found) words))
reads_all reply words rest commands (Says payload t) (client.Says said k) next place stream owns fits nonces used found tied = absurd fits
reads_all reply words rest commands (Hears true k) c next place stream owns fits nonces used found tied = absurd fits
reads_all reply words rest commands (Hears false k) (client.Hears k') next place stream owns fits nonces used found tied = absurd fits
reads_all reply words rest commands (Hears false k) (client.Over how) next place stream owns fits nonces used found tied = absurd fits
reads_all reply words rest commands (Asks (Own (ask.Read want)) k) c next place stream owns fits nonces used found tied = absurd fits
reads_all reply words rest commands (Asks (Own (ask.Ended how)) k) c next place stream owns fits nonces used found tied = absurd fits
reads_all reply words rest commands (Asks (Own (ask.Prepare look statement salt actor)) k) c next place stream owns fits nonces used found tied = absurd fits
reads_all reply words rest commands (Asks (Own (ask.Commit prepared actor)) k) c next place stream owns fits nonces used found tied = absurd fits
reads_all reply words rest commands (Asks (Own (ask.CommitLocked statement salt actor)) k) c next place stream owns fits nonces used found tied = absurd fits
reads_all reply words rest commands (Asks (Own (ask.CommitPlain statement actor)) k) c next place stream owns fits nonces used found tied = absurd fits
reads_all reply words rest commands _ c next place stream owns fits nonces used found tied = absurd (no_reply owns reply used found)
