-- What each turn leads to, as the code takes it.
use Rattle.std.proofs.Common.{◌≡◌, ◌≢◌, refl, ap, sym, ◌∙◌, subst, ℕ, ◌+◌, ◌==◌, Bool, true, false, not, List, [], ◌∷◌, ◌++◌, length}
use Rattle.packet_frame.specs.Front.{Part}
use Rattle.packet_frame.specs.declared.packets.FrameFault.{FrameFault}
use Rattle.packet_frame.specs.declared.packets.Packet.{Packet}
use Rattle.factor_chain.specs.CheckedOf.{CheckedOf}
use Rattle.factor_chain.specs.declared.credentials.Look.{Look}
use Rattle.factor_chain.specs.declared.evidence_list.Evidence.{Evidence}
use Rattle.account_history.specs.declared.entries.Entry.TheVariants.{Observed}
use Rattle.account_history.specs.declared.entries.Reply.{Reply}
use Rattle.account_history.specs.declared.entries.Who.{Who}
use Rattle.interaction.specs.Talk.{Says, Hears, Asks, Over}
use Rattle.session_talk.specs.Talk.{Begins, Own, SessionTalk}
use Rattle.session_talk.specs.Turns.{IsBegun, asked, first_id, heard, question, wanted_by}
use Rattle.packet_stream.specs.Streams.{Stream, front_of}
use Rattle.session_talk.specs.declared.actions.Ask.{Ask}
use Rattle.session_talk.specs.declared.actions.Ask.TheVariants as ask
use Rattle.session_talk.specs.declared.ends.SessionEnd.{SessionEnd}
use Rattle.session_talk.specs.declared.inputs.Input.{Input}
use Rattle.session_talk.specs.declared.inputs.Input.TheVariants as input
use Rattle.session_world.specs.declared.calls.Calls.{Calls}
use Rattle.session_world.specs.declared.calls.Calls.TheVariants.{Nothing, One, All}
use Rattle.session_world.specs.declared.calls.Peer.{Peer}
use Rattle.session_world.specs.declared.calls.Peer.TheVariants.{Open, Closed, Failed}
use Rattle.packet_stream.specs.declared.inbox.Found.TheVariants as found
use Rattle.world_table.specs.Drawing.{drawn_nonce}
use Rattle.session_world.specs.Going.{Gone, after_line, going, spent, stops}
use Rattle.world_table.specs.Table.{Common, attempted, is_stale, next_number, replied, seen, with_draw, with_entry}
use Rattle.world_table.specs.Printing.{Adds, Ends, Line, Stale}
use Rattle.packet_stream.specs.Inbox.{Takes}
use Rattle.session_world.specs.Lines.{sends_in}
use Rattle.session_world.specs.declared.output.Output.{Output}
use Rattle.session_world.specs.Leading.{Acted, IsCall, IsLookAsked, Leads, LeadsTo, Rests}
use Rattle.world_table.specs.Printing.{entry_line, line_text}
use Rattle.session_world.proofs.Giving.{acted, leads_on, one_line, printed_first}
use Rattle.session_world.proofs.Turning.{on_check, on_draw, on_fault, on_locked, on_nothing, on_observe, on_over, on_packet, on_renew, on_settle, on_stale}

module _ (session : ℕ) (peer : Peer) (next : ℕ) (t : SessionTalk) (here now_here : Output) (next_after : ℕ) (after : SessionTalk) where
  -- a turn on which nothing is printed but what is sent
  pub quietly : (calls more : Calls) (c d : Common) (given : Input) (stream unread : Stream) → Acted session next t given here now_here next_after after →
      going peer calls c next t stream ≡ going peer more d (first_id next t given) (heard t given) unread →
      Leads session peer now_here more d next_after after unread here calls c next t stream
  quietly calls more c d given stream unread a is =
      subst (λ (g : Gone). LeadsTo session now_here (going peer more d next_after after unread) here g) (sym is)
      (acted session peer more d next t given unread here now_here next_after after a.printed a.stands a.next_is)

  pub packet_leads : (calls : Calls) (c : Common) (stream unread : Stream) (want : ℕ) (packet : Packet) → IsBegun t → asked next t ≡ ask.Read want →
      Takes want stream unread (found.Packet packet) → Acted session next t (input.Packet packet) here now_here next_after after →
      Leads session peer now_here calls c next_after after unread here calls c next t stream
  packet_leads calls c stream unread want packet begun asks takes a =
      quietly calls calls c c (input.Packet packet) stream unread a
      (on_packet peer calls c next stream t want packet unread.bytes begun asks takes.0
      ∙ ap (λ (s : Stream). going peer calls c (first_id next t (input.Packet packet)) (heard t (input.Packet packet)) s) (sym takes.2))

  pub fault_leads : (calls : Calls) (c : Common) (stream unread : Stream) (want : ℕ) (fault : FrameFault) → IsBegun t → asked next t ≡ ask.Read want →
      Takes want stream unread (found.Fault fault) → Acted session next t (input.Frame fault) here now_here next_after after →
      Leads session peer now_here calls c next_after after unread here calls c next t stream
  fault_leads calls c stream unread want fault begun asks takes a =
      quietly calls calls c c (input.Frame fault) stream unread a
      (on_fault peer calls c next stream t want fault begun asks takes.1
      ∙ ap (λ (s : Stream). going peer calls c (first_id next t (input.Frame fault)) (heard t (input.Frame fault)) s) (sym takes.0))

  pub draw_leads : (calls : Calls) (c d : Common) (stream : Stream) (nonce : List ℕ) → IsBegun t → asked next t ≡ ask.Draw →
      nonce ≡ drawn_nonce (c.drawn + 1) → d ≡ with_draw c → Acted session next t (input.Drawn nonce) here now_here next_after after →
      Leads session peer now_here calls d next_after after stream here calls c next t stream
  draw_leads calls c d stream nonce begun asks is common a =
      quietly calls calls c d (input.Drawn nonce) stream stream a
      (on_draw peer calls c next stream t nonce begun asks is
      ∙ ap (λ (x : Common). going peer calls x (first_id next t (input.Drawn nonce)) (heard t (input.Drawn nonce)) stream) (sym common))

  pub check_leads : (calls : Calls) (c : Common) (stream : Stream) (look : Look) (evidences : List Evidence) (checked : CheckedOf) → IsBegun t →
      asked next t ≡ ask.Check look evidences → checked ≡ record { look = look; evidences = evidences } →
      Acted session next t (input.Checked checked) here now_here next_after after →
      Leads session peer now_here calls c next_after after stream here calls c next t stream
  check_leads calls c stream look evidences checked begun asks is a =
      quietly calls calls c c (input.Checked checked) stream stream a (on_check peer calls c next stream t look evidences checked begun asks is)

-- nothing was read, and the session waits
pub waits_rests : (session : ℕ) (calls : Calls) (c : Common) (next : ℕ) (t : SessionTalk) (stream unread : Stream) (want : ℕ) (here : Output) → IsBegun t →
    asked next t ≡ ask.Read want → Takes want stream unread found.Nothing → Rests session Open here c next t unread here calls c next t stream
waits_rests session calls c next t stream unread want here begun asks takes =
    subst (λ (s : Stream). LeadsTo session here (stops c next t s) here (going Open calls c next t stream)) (sym takes.0)
    (subst (λ (g : Gone). LeadsTo session here (stops c next t stream) here g)
    (sym (on_nothing Open calls c next stream t want takes.1.0 begun asks takes.1.1))
    (record { printed = refl; common = refl; next = refl; at = refl; unread = refl }))

module _ (calls : Calls) (c : Common) (next : ℕ) (stream : Stream) where
  -- the peer has closed the connection, or the link has failed
  on_closed : (t : SessionTalk) (want missing : ℕ) → IsBegun t → asked next t ≡ ask.Read want → front_of want stream ≡ Part missing →
      going Closed calls c next t stream
      ≡ going Closed calls c (first_id next t (input.End (not (length stream.bytes == 0)))) (heard t (input.End (not (length stream.bytes == 0)))) stream
  unfolding going heard question wanted_by
  on_closed (Hears anew k) want missing begun asks is = on_nothing Closed calls c next stream (Hears anew k) want missing begun asks is
  on_closed (Says payload t) want missing begun asks is = absurd begun
  on_closed (Asks (Own (ask.Read want')) k) want missing begun asks is = absurd begun
  on_closed _ want missing begun asks is = absurd (cc)

  on_failed : (t : SessionTalk) (want missing : ℕ) → IsBegun t → asked next t ≡ ask.Read want → front_of want stream ≡ Part missing →
      going Failed calls c next t stream ≡ going Failed calls c (first_id next t input.LinkFailed) (heard t input.LinkFailed) stream
  unfolding going heard question wanted_by
  on_failed (Hears anew k) want missing begun asks is = on_nothing Failed calls c next stream (Hears anew k) want missing begun asks is
  on_failed (Says payload t) want missing begun asks is = absurd begun
  on_failed (Asks (Own (ask.Read want')) k) want missing begun asks is = absurd begun
  on_failed _ want missing begun asks is = absurd (cc)

module _ (session : ℕ) (next : ℕ) (t : SessionTalk) (here now_here : Output) (next_after : ℕ) (after : SessionTalk) where
  pub closed_leads : (calls : Calls) (c : Common) (stream unread : Stream) (want : ℕ) (cut : Bool) → IsBegun t → asked next t ≡ ask.Read want →
      Takes want stream unread found.Nothing → cut ≡ not (length unread.bytes == 0) →
      Acted session next t (input.End cut) here now_here next_after after →
      Leads session Closed now_here calls c next_after after unread here calls c next t stream
  closed_leads calls c stream unread want cut begun asks takes is_cut a =
      subst (λ (s : Stream). Leads session Closed now_here calls c next_after after s here calls c next t stream) (sym takes.0)
      (quietly session Closed next t here now_here next_after after calls calls c c (input.End cut) stream stream a
      (on_closed calls c next stream t want takes.1.0 begun asks takes.1.1
      ∙ ap (λ (b : Bool). going Closed calls c (first_id next t (input.End b)) (heard t (input.End b)) stream)
      (sym (is_cut ∙ ap (λ (s : Stream). not (length s.bytes == 0)) takes.0))))

  pub failed_leads : (calls : Calls) (c : Common) (stream unread : Stream) (want : ℕ) → IsBegun t → asked next t ≡ ask.Read want →
      Takes want stream unread found.Nothing → Acted session next t input.LinkFailed here now_here next_after after →
      Leads session Failed now_here calls c next_after after unread here calls c next t stream
  failed_leads calls c stream unread want begun asks takes a =
      subst (λ (s : Stream). Leads session Failed now_here calls c next_after after s here calls c next t stream) (sym takes.0)
      (quietly session Failed next t here now_here next_after after calls calls c c input.LinkFailed stream stream a
      (on_failed calls c next stream t want takes.1.0 begun asks takes.1.1))

  -- a line is printed, an input is given, and what is sent because of it is printed
  told : (peer : Peer) (more : Calls) (d : Common) (line : Line) (given : Input) (stream : Stream) (middle : Output) → sends_in (line ∷ []) ≡ [] →
      middle ≡ record here { lines = here.lines ++ line_text session line } → Acted session next t given middle now_here next_after after →
      LeadsTo session now_here (going peer more d next_after after stream) here (after_line line (going peer more d (first_id next t given) (heard t given) stream))
  told peer more d line given stream middle quiet printed a =
      leads_on session now_here middle here _ _ _
      (acted session peer more d next t given stream middle now_here next_after after a.printed a.stands a.next_is)
      (printed_first session here middle (line ∷ []) _ (printed ∙ one_line session line here quiet))

  pub leads_by : (peer : Peer) (calls more : Calls) (c d : Common) (line : Line) (given : Input) (stream : Stream) (middle : Output) → sends_in (line ∷ []) ≡ [] →
      middle ≡ record here { lines = here.lines ++ line_text session line } → Acted session next t given middle now_here next_after after →
      going peer calls c next t stream ≡ after_line line (going peer more d (first_id next t given) (heard t given) stream) →
      Leads session peer now_here more d next_after after stream here calls c next t stream
  leads_by peer calls more c d line given stream middle quiet printed a is =
      subst (λ (g : Gone). LeadsTo session now_here (going peer more d next_after after stream) here g) (sym is)
      (told peer more d line given stream middle quiet printed a)

  -- an account was looked at, for the first time or again
  pub observe_leads : (peer : Peer) (calls : Calls) (c d : Common) (stream : Stream) (who : Who) (look : Look) (middle : Output) → calls ≢ Nothing →
      IsBegun t → asked next t ≡ ask.Observe who → look ≡ seen c who → d ≡ with_entry c (Observed who (seen c who)) →
      middle ≡ record here { lines = here.lines ++ entry_line (next_number c) (Observed who (seen c who)) } →
      Acted session next t (input.Looked look) middle now_here next_after after →
      Leads session peer now_here (spent calls) d next_after after stream here calls c next t stream
  unfolding line_text
  observe_leads peer calls c d stream who look middle some begun asks is common printed a =
      leads_by peer calls (spent calls) c d (Adds (next_number c) (Observed who (seen c who))) (input.Looked look) stream middle refl printed a
      (on_observe peer calls c next stream t who some begun asks ∙ same)
    where
      same : after_line (Adds (next_number c) (Observed who (seen c who))) (going peer (spent calls) (with_entry c (Observed who (seen c who))) (first_id next t (input.Looked (seen c who))) (heard t (input.Looked (seen c who))) stream)
          ≡ after_line (Adds (next_number c) (Observed who (seen c who))) (going peer (spent calls) d (first_id next t (input.Looked look)) (heard t (input.Looked look)) stream)
      same = cc

  pub renew_leads : (peer : Peer) (calls : Calls) (c d : Common) (stream : Stream) (who : Who) (look : Look) (middle : Output) → calls ≢ Nothing →
      IsBegun t → asked next t ≡ ask.Renew who → look ≡ seen c who → d ≡ with_entry c (Observed who (seen c who)) →
      middle ≡ record here { lines = here.lines ++ entry_line (next_number c) (Observed who (seen c who)) } →
      Acted session next t (input.Looked look) middle now_here next_after after →
      Leads session peer now_here (spent calls) d next_after after stream here calls c next t stream
  unfolding line_text
  renew_leads peer calls c d stream who look middle some begun asks is common printed a =
      leads_by peer calls (spent calls) c d (Adds (next_number c) (Observed who (seen c who))) (input.Looked look) stream middle refl printed a
      (on_renew peer calls c next stream t who some begun asks ∙ same)
    where
      same : after_line (Adds (next_number c) (Observed who (seen c who))) (going peer (spent calls) (with_entry c (Observed who (seen c who))) (first_id next t (input.Looked (seen c who))) (heard t (input.Looked (seen c who))) stream)
          ≡ after_line (Adds (next_number c) (Observed who (seen c who))) (going peer (spent calls) d (first_id next t (input.Looked look)) (heard t (input.Looked look)) stream)
      same = cc

  pub look_leads : (asks : Ask) (peer : Peer) (calls : Calls) (c d : Common) (stream : Stream) (who : Who) (look : Look) (middle : Output) → calls ≢ Nothing →
      IsBegun t → asked next t ≡ asks → IsLookAsked asks who → look ≡ seen c who → d ≡ with_entry c (Observed who (seen c who)) →
      middle ≡ record here { lines = here.lines ++ entry_line (next_number c) (Observed who (seen c who)) } →
      Acted session next t (input.Looked look) middle now_here next_after after →
      Leads session peer now_here (spent calls) d next_after after stream here calls c next t stream
  look_leads (ask.Observe whose) peer calls c d stream who look middle some begun asks is_asked is common printed a =
      observe_leads peer calls c d stream who look middle some begun (asks ∙ ap ask.Observe is_asked) is common printed a
  look_leads (ask.Renew whose) peer calls c d stream who look middle some begun asks is_asked is common printed a =
      renew_leads peer calls c d stream who look middle some begun (asks ∙ ap ask.Renew is_asked) is common printed a
  look_leads _ peer calls c d stream who look middle some begun asks is_asked is common printed a = absurd is_asked

  -- a stale answer
  pub stale_leads : (peer : Peer) (calls : Calls) (c : Common) (stream : Stream) (checked : CheckedOf) (flags : ℕ) (evidences : List Evidence) (middle : Output) →
      calls ≢ Nothing → IsBegun t → asked next t ≡ ask.Settle checked flags → is_stale c checked.look ≡ true → evidences ≡ checked.evidences →
      middle ≡ record here { lines = here.lines ++ line_text session Stale } → Acted session next t (input.Stale evidences) middle now_here next_after after →
      Leads session peer now_here (spent calls) c next_after after stream here calls c next t stream
  stale_leads peer calls c stream checked flags evidences middle some begun asks late is printed a =
      leads_by peer calls (spent calls) c c Stale (input.Stale evidences) stream middle refl printed a
      (on_stale peer calls c next stream t checked flags some begun asks late
      ∙ ap (λ (e : List Evidence). after_line Stale (going peer (spent calls) c (first_id next t (input.Stale e)) (heard t (input.Stale e)) stream)) (sym is))

  -- an attempt is settled
  settled_so : (peer : Peer) (calls : Calls) (c d : Common) (stream : Stream) (user : List ℕ) (evidences : List Evidence) (flags : ℕ) (reply : Reply) (middle : Output) →
      reply ≡ replied c user evidences flags → d ≡ with_entry c (attempted c user evidences flags) →
      middle ≡ record here { lines = here.lines ++ entry_line (next_number c) (attempted c user evidences flags) } →
      Acted session next t (input.Settled reply) middle now_here next_after after →
      going peer calls c next t stream ≡ after_line (Adds (next_number c) (attempted c user evidences flags))
      (going peer (spent calls) (with_entry c (attempted c user evidences flags)) (first_id next t (input.Settled (replied c user evidences flags)))
      (heard t (input.Settled (replied c user evidences flags))) stream) →
      Leads session peer now_here (spent calls) d next_after after stream here calls c next t stream
  unfolding line_text
  settled_so peer calls c d stream user evidences flags reply middle is common printed a goes =
      leads_by peer calls (spent calls) c d (Adds (next_number c) (attempted c user evidences flags)) (input.Settled reply) stream middle refl printed a (goes ∙ same)
    where
      same : after_line (Adds (next_number c) (attempted c user evidences flags))
          (going peer (spent calls) (with_entry c (attempted c user evidences flags)) (first_id next t (input.Settled (replied c user evidences flags)))
          (heard t (input.Settled (replied c user evidences flags))) stream)
          ≡ after_line (Adds (next_number c) (attempted c user evidences flags)) (going peer (spent calls) d (first_id next t (input.Settled reply)) (heard t (input.Settled reply)) stream)
      same = cc

  pub settle_leads : (peer : Peer) (calls : Calls) (c d : Common) (stream : Stream) (checked : CheckedOf) (flags : ℕ) (reply : Reply) (middle : Output) →
      calls ≢ Nothing → IsBegun t → asked next t ≡ ask.Settle checked flags → is_stale c checked.look ≡ false →
      reply ≡ replied c checked.look.user checked.evidences flags → d ≡ with_entry c (attempted c checked.look.user checked.evidences flags) →
      middle ≡ record here { lines = here.lines ++ entry_line (next_number c) (attempted c checked.look.user checked.evidences flags) } →
      Acted session next t (input.Settled reply) middle now_here next_after after →
      Leads session peer now_here (spent calls) d next_after after stream here calls c next t stream
  settle_leads peer calls c d stream checked flags reply middle some begun asks fresh is common printed a =
      settled_so peer calls c d stream checked.look.user checked.evidences flags reply middle is common printed a
      (on_settle peer calls c next stream t checked flags some begun asks fresh)

  pub locked_leads : (peer : Peer) (calls : Calls) (c d : Common) (stream : Stream) (user : List ℕ) (evidences : List Evidence) (flags : ℕ) (reply : Reply) (middle : Output) →
      calls ≢ Nothing → IsBegun t → asked next t ≡ ask.SettleLocked user evidences flags →
      reply ≡ replied c user evidences flags → d ≡ with_entry c (attempted c user evidences flags) →
      middle ≡ record here { lines = here.lines ++ entry_line (next_number c) (attempted c user evidences flags) } →
      Acted session next t (input.Settled reply) middle now_here next_after after →
      Leads session peer now_here (spent calls) d next_after after stream here calls c next t stream
  locked_leads peer calls c d stream user evidences flags reply middle some begun asks is common printed a =
      settled_so peer calls c d stream user evidences flags reply middle is common printed a
      (on_locked peer calls c next stream t user evidences flags some begun asks)

-- the end is printed, and nothing more comes
pub over_rests : (session : ℕ) (peer : Peer) (calls : Calls) (c : Common) (next : ℕ) (t : SessionTalk) (stream : Stream) (how : SessionEnd) (here now_here : Output) →
    IsBegun t → asked next t ≡ ask.Ended how → now_here ≡ record here { lines = here.lines ++ line_text session (Ends how) } → t ≡ Over how →
    Rests session peer now_here c next t stream here calls c next t stream
over_rests session peer calls c next t stream how here now_here begun asks printed is =
    subst (λ (g : Gone). LeadsTo session now_here (stops c next t stream) here g) (sym (on_over peer calls c next stream t how begun asks))
    (subst (λ (u : SessionTalk). LeadsTo session now_here (stops c next t stream) here (after_line (Ends how) (stops c next u stream))) is
    (printed_first session here now_here (Ends how ∷ []) (stops c next t stream)
    (printed ∙ one_line session (Ends how) here refl)))

-- no call is allowed, and the session waits for one
module _ (session : ℕ) (peer : Peer) (c : Common) (next : ℕ) (stream : Stream) (here : Output) where
  abbrev Waits : SessionTalk → Type 0
  Waits t = Rests session peer here c next t stream here Nothing c next t stream

  rests : (t : SessionTalk) → going peer Nothing c next t stream ≡ stops c next t stream → Waits t
  rests t is = subst (λ (g : Gone). LeadsTo session here (stops c next t stream) here g) (sym is)
      (record { printed = refl; common = refl; next = refl; at = refl; unread = refl })

  pub call_rests : (t : SessionTalk) → IsBegun t → IsCall (asked next t) → Waits t
  unfolding going question wanted_by
  call_rests (Asks (Own (ask.Observe who)) k) begun is_call = rests (Asks (Own (ask.Observe who)) k) refl
  call_rests (Asks (Own (ask.Renew who)) k) begun is_call = rests (Asks (Own (ask.Renew who)) k) refl
  call_rests (Asks (Own (ask.Settle checked flags)) k) begun is_call = rests (Asks (Own (ask.Settle checked flags)) k) refl
  call_rests (Asks (Own (ask.SettleLocked user evidences flags)) k) begun is_call = rests (Asks (Own (ask.SettleLocked user evidences flags)) k) refl
  call_rests (Asks (Own (ask.Commit prepared actor)) k) begun is_call = rests (Asks (Own (ask.Commit prepared actor)) k) refl
  call_rests (Asks (Own (ask.CommitLocked statement salt actor)) k) begun is_call = rests (Asks (Own (ask.CommitLocked statement salt actor)) k) refl
  call_rests (Asks (Own (ask.CommitPlain statement actor)) k) begun is_call = rests (Asks (Own (ask.CommitPlain statement actor)) k) refl
  call_rests (Says payload t) begun is_call = absurd begun
  call_rests _ begun is_call = absurd is_call

-- a session that asks for nothing has ended
pub over_is : (next : ℕ) (t : SessionTalk) (how : SessionEnd) → IsBegun t → asked next t ≡ ask.Ended how → t ≡ Over how
unfolding question wanted_by
over_is next (Over how') how begun asks = ap Over (same asks)
  where
    same : ask.Ended how' ≡ ask.Ended how → how' ≡ how
    same e = cc
over_is next (Says payload t) how begun asks = absurd begun
over_is next (Asks (Own (ask.Ended how')) k) how begun asks = absurd begun
over_is next _ how begun asks = absurd (cc)

pub ended_rests : (session : ℕ) (peer : Peer) (calls : Calls) (c : Common) (next : ℕ) (t : SessionTalk) (stream : Stream) (how : SessionEnd) (here now_here : Output) →
    IsBegun t → asked next t ≡ ask.Ended how → now_here ≡ record here { lines = here.lines ++ line_text session (Ends how) } →
    Rests session peer now_here c next t stream here calls c next t stream
ended_rests session peer calls c next t stream how here now_here begun asks printed =
    over_rests session peer calls c next t stream how here now_here begun asks printed (over_is next t how begun asks)

-- the same, where a test has told that no call is allowed
pub none_rests : (calls : Calls) (session : ℕ) (peer : Peer) (c : Common) (next : ℕ) (t : SessionTalk) (stream : Stream) (here : Output) →
    (calls ≢ Nothing → false ≡ true) → IsBegun t → (asks : Ask) → asks ≡ asked next t → IsCall asks →
    Rests session peer here c next t stream here calls c next t stream
none_rests Nothing session peer c next t stream here not_allowed begun asks is is_call =
    call_rests session peer c next stream here t begun (subst IsCall is is_call)
none_rests One session peer c next t stream here not_allowed begun asks is is_call = absurd (untrue (not_allowed differs))
  where
    untrue : false ≡ true → ⊥
    untrue e = absurd (cc)

    differs : One ≡ Nothing → ⊥
    differs e = absurd (cc)
none_rests All session peer c next t stream here not_allowed begun asks is is_call = absurd (untrue (not_allowed differs))
  where
    untrue : false ≡ true → ⊥
    untrue e = absurd (cc)

    differs : All ≡ Nothing → ⊥
    differs e = absurd (cc)

-- a new session begins
pub begin_leads : (session : ℕ) (peer : Peer) (next : ℕ) (k : Input → SessionTalk) (here now_here : Output) (next_after : ℕ) (after : SessionTalk)
    (calls : Calls) (c d : Common) (stream : Stream) (nonce : List ℕ) → nonce ≡ drawn_nonce (c.drawn + 1) → d ≡ with_draw c →
    Acted session next (Asks Begins k) (input.Start nonce) here now_here next_after after →
    Leads session peer now_here calls d next_after after stream here calls c next (Asks Begins k) stream
unfolding going heard
begin_leads session peer next k here now_here next_after after calls c d stream nonce is common a =
    quietly session peer next (Asks Begins k) here now_here next_after after calls calls c d (input.Start nonce) stream stream a same
  where
    same : going peer calls (with_draw c) next (k (input.Start (drawn_nonce (c.drawn + 1)))) stream ≡ going peer calls d next (k (input.Start nonce)) stream
    same = cc
