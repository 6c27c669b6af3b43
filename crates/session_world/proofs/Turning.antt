-- How a session goes on with each kind of answer.
use Rattle.std.proofs.Common.{◌≡◌, ◌≢◌, refl, ap, sym, ◌∙◌, ℕ, ◌+◌, Bool, true, false, if◌then◌else◌, List}
use Rattle.packet_frame.specs.Front.{Front, Whole, Part, Fault}
use Rattle.packet_frame.specs.Packets.{id_after}
use Rattle.packet_frame.specs.declared.packets.FrameFault.{FrameFault}
use Rattle.packet_frame.specs.declared.packets.FrameFault.TheVariants.{TooLarge, OutOfOrder, Memory as NoMemory}
use Rattle.packet_frame.specs.declared.packets.Packet.{Packet}
use Rattle.factor_chain.specs.CheckedOf.{CheckedOf}
use Rattle.factor_chain.specs.declared.credentials.Look.{Look}
use Rattle.factor_chain.specs.declared.evidence_list.Evidence.{Evidence}
use Rattle.account_history.specs.declared.entries.Entry.TheVariants.{Observed}
use Rattle.account_history.specs.declared.entries.Who.{Who}
use Rattle.packet_stream.specs.Sent.{id_behind, id_behind_all, sent_from}
use Rattle.interaction.specs.Talk.{Reading, Got, Says, Hears, Asks, Over}
use Rattle.session_talk.specs.Talk.{Begins, Own, SessionTalk}
use Rattle.session_talk.specs.Logins.{faulted}
use Rattle.session_talk.specs.Turns.{IsBegun, asked, first_id, heard, question, rest, said, wanted, wanted_by}
use Rattle.packet_stream.specs.Streams.{Stream, behind_of, by_front, front_of}
use Rattle.session_talk.specs.declared.actions.Ask.TheVariants as ask
use Rattle.session_talk.specs.declared.ends.SessionEnd.{SessionEnd}
use Rattle.session_talk.specs.declared.inputs.Input.{Input}
use Rattle.session_talk.specs.declared.inputs.Input.TheVariants as input
use Rattle.session_world.specs.declared.calls.Calls.{Calls}
use Rattle.session_world.specs.declared.calls.Calls.TheVariants.{Nothing, One, All}
use Rattle.session_world.specs.declared.calls.Peer.{Peer}
use Rattle.world_table.specs.Drawing.{drawn_nonce}
use Rattle.session_world.specs.Going.{Gone, adding, after_line, closing, going, if_allowed, over, spent, unread_by}
use Rattle.world_table.specs.Table.{Common, attempted, is_stale, next_number, replied, seen, with_draw, with_entry}
use Rattle.world_table.specs.Printing.{Adds, Sends, Stale}
use Rattle.session_world.specs.Leading.{after_lines}
use Rattle.world_table.specs.Printing.{send_lines}

-- what a talk says first is sent first
pub going_said : (peer : Peer) (calls : Calls) (c : Common) (next : ℕ) (t : SessionTalk) (stream : Stream) →
    going peer calls c next t stream
    ≡ after_lines (send_lines (sent_from next (said t))) (going peer calls c (id_behind_all next (said t)) (rest t) stream)
unfolding going said rest
going_said peer calls c next (Says payload t) stream =
    ap (after_line (Sends (record { first = next; payload = payload }))) (going_said peer calls c (id_behind next payload) t stream)
going_said peer calls c next _ stream = refl

module _ (peer : Peer) (calls : Calls) (c : Common) (next : ℕ) (stream : Stream) where
  -- a session goes on with an input, where these are what is common, the calls and the bytes from then on
  abbrev pub with_input : Calls → Common → Stream → SessionTalk → Input → Gone
  with_input more d s t given = going peer more d (first_id next t given) (heard t given) s

  abbrev at_front : (anew : Bool) → (Reading → SessionTalk) → Front → Gone
  at_front anew k f = by_front (λ last payload behind. going peer calls c (id_after last) (k (Got payload)) (behind_of stream behind))
      (unread_by peer c next (Hears anew k) stream) (λ fault. closing c (id_after (wanted anew next)) (faulted fault) stream) f

  same_want : (m n : ℕ) → ask.Read m ≡ ask.Read n → m ≡ n
  same_want m n e = cc

  -- a packet is read
  pub on_packet : (t : SessionTalk) (want : ℕ) (packet : Packet) (behind : List ℕ) → IsBegun t → asked next t ≡ ask.Read want →
      front_of want stream ≡ Whole packet.first packet.last packet.payload behind →
      going peer calls c next t stream ≡ with_input calls c (behind_of stream behind) t (input.Packet packet)
  unfolding going question heard wanted_by
  on_packet (Hears anew k) want packet behind begun asks is =
      ap (λ (f : Front). at_front anew k f) (ap (λ (n : ℕ). front_of n stream) (same_want _ _ asks) ∙ is)
  on_packet (Says payload t) want packet behind begun asks is = absurd begun
  on_packet (Asks (Own (ask.Read want')) k) want packet behind begun asks is = absurd begun
  on_packet _ want packet behind begun asks is = absurd (cc)

  -- a fault of framing is told, and ends the session
  fault_closes : (first : ℕ) (fault : FrameFault) → closing c first (faulted fault) stream ≡ going peer calls c first (faulted fault) stream
  unfolding going closing
  fault_closes first (TooLarge at) = refl
  fault_closes first (OutOfOrder at want got) = refl
  fault_closes first NoMemory = refl

  pub on_fault : (t : SessionTalk) (want : ℕ) (fault : FrameFault) → IsBegun t → asked next t ≡ ask.Read want →
      front_of want stream ≡ Fault fault → going peer calls c next t stream ≡ with_input calls c stream t (input.Frame fault)
  unfolding going question heard wanted_by
  on_fault (Hears anew k) want fault begun asks is =
      ap (λ (f : Front). at_front anew k f) (ap (λ (n : ℕ). front_of n stream) (same_want _ _ asks) ∙ is) ∙ fault_closes (id_after (wanted anew next)) fault
  on_fault (Says payload t) want fault begun asks is = absurd begun
  on_fault (Asks (Own (ask.Read want')) k) want fault begun asks is = absurd begun
  on_fault _ want fault begun asks is = absurd (cc)

  -- nothing is read: the session waits, or is told that the peer has closed or that the link has failed
  pub on_nothing : (t : SessionTalk) (want missing : ℕ) → IsBegun t → asked next t ≡ ask.Read want → front_of want stream ≡ Part missing →
      going peer calls c next t stream ≡ unread_by peer c next t stream
  unfolding going question wanted_by
  on_nothing (Hears anew k) want missing begun asks is =
      ap (λ (f : Front). at_front anew k f) (ap (λ (n : ℕ). front_of n stream) (same_want _ _ asks) ∙ is)
  on_nothing (Says payload t) want missing begun asks is = absurd begun
  on_nothing (Asks (Own (ask.Read want')) k) want missing begun asks is = absurd begun
  on_nothing _ want missing begun asks is = absurd (cc)

  -- a nonce is drawn
  pub on_draw : (t : SessionTalk) (nonce : List ℕ) → IsBegun t → asked next t ≡ ask.Draw → nonce ≡ drawn_nonce (c.drawn + 1) →
      going peer calls c next t stream ≡ with_input calls (with_draw c) stream t (input.Drawn nonce)
  unfolding going question heard wanted_by
  on_draw (Asks (Own ask.Draw) k) nonce begun asks is = ap (λ (n : List ℕ). going peer calls (with_draw c) next (k (input.Drawn n)) stream) (sym is)
  on_draw (Asks Begins k) nonce begun asks is = absurd begun
  on_draw (Says payload t) nonce begun asks is = absurd begun
  on_draw _ nonce begun asks is = absurd (cc)

  -- evidence is checked
  abbrev checked_on : (Input → SessionTalk) → Look → List Evidence → Gone
  checked_on k look evidences = going peer calls c next (k (input.Checked (record { look = look; evidences = evidences }))) stream

  pub on_check : (t : SessionTalk) (look : Look) (evidences : List Evidence) (checked : CheckedOf) → IsBegun t → asked next t ≡ ask.Check look evidences →
      checked ≡ record { look = look; evidences = evidences } → going peer calls c next t stream ≡ with_input calls c stream t (input.Checked checked)
  unfolding going question heard wanted_by
  on_check (Asks (Own (ask.Check look' evidences')) k) look evidences checked begun asks is =
      ap (λ (l : Look). checked_on k l evidences') (same_look asks)
      ∙ (ap (λ (e : List Evidence). checked_on k look e) (same_evidences asks)
      ∙ ap (λ (x : CheckedOf). going peer calls c next (k (input.Checked x)) stream) (sym is))
    where
      same_look : ask.Check look' evidences' ≡ ask.Check look evidences → look' ≡ look
      same_look e = cc

      same_evidences : ask.Check look' evidences' ≡ ask.Check look evidences → evidences' ≡ evidences
      same_evidences e = cc
  on_check (Says payload t) look evidences checked begun asks is = absurd begun
  on_check _ look evidences checked begun asks is = absurd (cc)

  -- the session has ended
  pub on_over : (t : SessionTalk) (how : SessionEnd) → IsBegun t → asked next t ≡ ask.Ended how → going peer calls c next t stream ≡ over c next how stream
  unfolding going question wanted_by
  on_over (Over how') how begun asks = ap (λ (h : SessionEnd). over c next h stream) (same asks)
    where
      same : ask.Ended how' ≡ ask.Ended how → how' ≡ how
      same e = cc
  on_over (Says payload t) how begun asks = absurd begun
  on_over (Asks (Own (ask.Ended how')) k) how begun asks = absurd begun
  on_over _ how begun asks = absurd (cc)

  -- ## Calls of the account store

  pub allowed : (more : Calls) (done otherwise : Gone) → more ≢ Nothing → if_allowed more done otherwise ≡ done
  allowed Nothing done otherwise some = absurd (some refl)
  allowed One done otherwise some = refl
  allowed All done otherwise some = refl

  -- an account is looked at, for the first time or again
  pub on_observe : (t : SessionTalk) (who : Who) → calls ≢ Nothing → IsBegun t → asked next t ≡ ask.Observe who →
      going peer calls c next t stream
      ≡ after_line (Adds (next_number c) (Observed who (seen c who)))
      (with_input (spent calls) (with_entry c (Observed who (seen c who))) stream t (input.Looked (seen c who)))
  unfolding going question heard wanted_by
  on_observe (Asks (Own (ask.Observe who')) k) who some begun asks =
      allowed calls _ _ some
      ∙ ap (λ (w : Who). after_line (Adds (next_number c) (Observed w (seen c w))) (going peer (spent calls) (with_entry c (Observed w (seen c w))) next (k (input.Looked (seen c w))) stream)) (same asks)
    where
      same : ask.Observe who' ≡ ask.Observe who → who' ≡ who
      same e = cc
  on_observe (Says payload t) who some begun asks = absurd begun
  on_observe _ who some begun asks = absurd (cc)

  pub on_renew : (t : SessionTalk) (who : Who) → calls ≢ Nothing → IsBegun t → asked next t ≡ ask.Renew who →
      going peer calls c next t stream
      ≡ after_line (Adds (next_number c) (Observed who (seen c who)))
      (with_input (spent calls) (with_entry c (Observed who (seen c who))) stream t (input.Looked (seen c who)))
  unfolding going question heard wanted_by
  on_renew (Asks (Own (ask.Renew who')) k) who some begun asks =
      allowed calls _ _ some
      ∙ ap (λ (w : Who). after_line (Adds (next_number c) (Observed w (seen c w))) (going peer (spent calls) (with_entry c (Observed w (seen c w))) next (k (input.Looked (seen c w))) stream)) (same asks)
    where
      same : ask.Renew who' ≡ ask.Renew who → who' ≡ who
      same e = cc
  on_renew (Says payload t) who some begun asks = absurd begun
  on_renew _ who some begun asks = absurd (cc)

  -- what a settling leads to
  abbrev settled : CheckedOf → ℕ → (Input → SessionTalk) → Bool → Gone
  settled checked flags k late =
      if late then after_line Stale (going peer (spent calls) c next (k (input.Stale checked.evidences)) stream)
      else adding c (attempted c checked.look.user checked.evidences flags)
      (λ d. going peer (spent calls) d next (k (input.Settled (replied c checked.look.user checked.evidences flags))) stream)

  abbrev attempt_at : CheckedOf → ℕ → SessionTalk → Gone
  attempt_at checked flags t =
      after_line (Adds (next_number c) (attempted c checked.look.user checked.evidences flags))
      (with_input (spent calls) (with_entry c (attempted c checked.look.user checked.evidences flags)) stream t
      (input.Settled (replied c checked.look.user checked.evidences flags)))

  -- a stale answer, and one that settles
  pub on_stale : (t : SessionTalk) (checked : CheckedOf) (flags : ℕ) → calls ≢ Nothing → IsBegun t → asked next t ≡ ask.Settle checked flags →
      is_stale c checked.look ≡ true →
      going peer calls c next t stream ≡ after_line Stale (with_input (spent calls) c stream t (input.Stale checked.evidences))
  unfolding going question heard wanted_by
  on_stale (Asks (Own (ask.Settle checked' flags')) k) checked flags some begun asks late =
      allowed calls _ _ some
      ∙ (ap (λ (b : Bool). settled checked' flags' k b) (ap (λ (x : CheckedOf). is_stale c x.look) (same asks) ∙ late)
      ∙ ap (λ (x : CheckedOf). after_line Stale (going peer (spent calls) c next (k (input.Stale x.evidences)) stream)) (same asks))
    where
      same : ask.Settle checked' flags' ≡ ask.Settle checked flags → checked' ≡ checked
      same e = cc
  on_stale (Says payload t) checked flags some begun asks late = absurd begun
  on_stale _ checked flags some begun asks late = absurd (cc)

  pub on_settle : (t : SessionTalk) (checked : CheckedOf) (flags : ℕ) → calls ≢ Nothing → IsBegun t → asked next t ≡ ask.Settle checked flags →
      is_stale c checked.look ≡ false → going peer calls c next t stream ≡ attempt_at checked flags t
  unfolding going question heard wanted_by
  on_settle (Asks (Own (ask.Settle checked' flags')) k) checked flags some begun asks fresh =
      allowed calls _ _ some
      ∙ (ap (λ (b : Bool). settled checked' flags' k b) (ap (λ (x : CheckedOf). is_stale c x.look) (same asks) ∙ fresh)
      ∙ (ap (λ (x : CheckedOf). attempt_at x flags' (Asks (Own (ask.Settle checked' flags')) k)) (same asks)
      ∙ ap (λ (f : ℕ). attempt_at checked f (Asks (Own (ask.Settle checked' flags')) k)) (same_flags asks)))
    where
      same : ask.Settle checked' flags' ≡ ask.Settle checked flags → checked' ≡ checked
      same e = cc

      same_flags : ask.Settle checked' flags' ≡ ask.Settle checked flags → flags' ≡ flags
      same_flags e = cc
  on_settle (Says payload t) checked flags some begun asks fresh = absurd begun
  on_settle _ checked flags some begun asks fresh = absurd (cc)

  abbrev locked_at : List ℕ → List Evidence → ℕ → SessionTalk → Gone
  locked_at user evidences flags t =
      after_line (Adds (next_number c) (attempted c user evidences flags))
      (with_input (spent calls) (with_entry c (attempted c user evidences flags)) stream t (input.Settled (replied c user evidences flags)))

  pub on_locked : (t : SessionTalk) (user : List ℕ) (evidences : List Evidence) (flags : ℕ) → calls ≢ Nothing → IsBegun t →
      asked next t ≡ ask.SettleLocked user evidences flags → going peer calls c next t stream ≡ locked_at user evidences flags t
  unfolding going question heard wanted_by
  on_locked (Asks (Own (ask.SettleLocked user' evidences' flags')) k) user evidences flags some begun asks =
      allowed calls _ _ some
      ∙ (ap (λ (u : List ℕ). locked_at u evidences' flags' t') (same_user asks)
      ∙ (ap (λ (e : List Evidence). locked_at user e flags' t') (same_evidences asks)
      ∙ ap (λ (f : ℕ). locked_at user evidences f t') (same_flags asks)))
    where
      t' : SessionTalk
      t' = Asks (Own (ask.SettleLocked user' evidences' flags')) k

      same_user : ask.SettleLocked user' evidences' flags' ≡ ask.SettleLocked user evidences flags → user' ≡ user
      same_user e = cc

      same_evidences : ask.SettleLocked user' evidences' flags' ≡ ask.SettleLocked user evidences flags → evidences' ≡ evidences
      same_evidences e = cc

      same_flags : ask.SettleLocked user' evidences' flags' ≡ ask.SettleLocked user evidences flags → flags' ≡ flags
      same_flags e = cc
  on_locked (Says payload t) user evidences flags some begun asks = absurd begun
  on_locked _ user evidences flags some begun asks = absurd (cc)
