-- A client to which all has come down that its session sent has ended as the reply to the first attempt tells.
use Rattle.std.proofs.Common.{◌≡◌, ◌≢◌, refl, ap, sym, ◌∙◌, subst, IsTrue, ℕ, ◌<◌, ◌^◌, Bool, true, List, [], ◌++◌, append-nil, Option, Some, None}
use Rattle.packet_frame.specs.declared.packets.FrameFault.{FrameFault}
use Rattle.account_history.specs.Failures.{opens}
use Rattle.account_history.specs.declared.entries.Entry.{Entry}
use Rattle.account_history.specs.declared.entries.Opening.{Opening}
use Rattle.account_history.specs.declared.entries.Reply.{Reply}
use Rattle.account_history.specs.declared.entries.Reply.TheVariants.{Opened, Sandbox, Blocked, Denied, Locked, MustChange}
use Rattle.account_rules.specs.declared.accounts.Settings.{Settings}
use Rattle.packet_stream.specs.Streams.{Stream, with_more}
use Rattle.session_talk.specs.Logins.{session}
use Rattle.session_talk.specs.Owed.{Owed, owed}
use Rattle.packet_stream.specs.Sent.{Sent}
use Rattle.session_talk.specs.Transcript as told
use Rattle.session_talk.specs.Transcript.{Transcript, fault_at, read_of, told_fault, wanted_at}
use Rattle.session_talk.specs.Wired.{Wired, wired}
use Rattle.packet_frame.specs.Packets.{id_after}
use Rattle.session_talk.specs.declared.ends.SessionEnd.{SessionEnd}
use Rattle.session_talk.proofs.Tying.{wired_is_owed}
use Rattle.login_client.specs.Conversation.{ClientTalk, conversation}
use Rattle.login_client.specs.Talk.{Talk, Hears, Says, Over, result_of}
use Rattle.login_client.specs.declared.claims.Claim.{Claim}
use Rattle.login_client.specs.declared.ends.LoginEnd.{LoginEnd}
use Rattle.login_client.specs.declared.ends.LoginEnd.TheVariants as end
use Rattle.client_wire.specs.Getting.{Got, after_written, getting, rests}
use Rattle.packet_stream.specs.Packing.{packets_text}
use Rattle.client_wire.proofs.GoingOn.{getting_goes_on}
use Rattle.script_text.specs.declared.event.Event.{Event}
use Rattle.both_ends.specs.Meeting.{AreNonces, end_told, first_entered, first_reply, payloads_of}
use Rattle.both_ends.proofs.Closing.{ended-by-reply}
use Rattle.both_ends.proofs.OverBytes.{AreEntered, entered}
use Rattle.world_table.specs.Printing.{Line}
use Rattle.session_world.specs.BothEnds.{EndedOnceTold, HasWords, OpenedOnceTold, lines_over}
use Rattle.session_world.specs.Events.{EventsAreDone, all_doings}
use Rattle.session_world.specs.Lines.{sends_in}
use Rattle.session_world.specs.Replays.{new_replay}
use Rattle.client_wire.specs.UnderWay.{Client}
use Rattle.session_world.specs.Transcripts.{peer_at}
use Rattle.session_world.specs.Worlds.{Doing, after_all}
use Rattle.session_world.proofs.Alike.{session_fits}
use Rattle.session_world.proofs.Counting.{IsTied, ReadsAll, fault_unused, reads_all}
use Rattle.session_world.proofs.Following.{IsNonced, nonced_transcripts}
use Rattle.session_world.proofs.Meetings.{bytes_over, peer_after}
use Rattle.session_world.proofs.Peering.{IsPeer, IsResult, cut, ends, got_of, stream_of, waits}

-- ## Over all that a session sends

none_left : (fault : Option FrameFault) (o : Owed) (stream : Stream) → (told_fault fault o stream).unused ≡ o.unused
none_left None o stream = refl
none_left (Some fault) o stream = fault_unused (id_after (wanted_at o.next o.at)) fault stream o.unused

module _ (id : ℕ) (peer : told.Peer) (bytes : List ℕ) (entries : List Entry) (sent : List Sent) (how : Option SessionEnd) (t : Transcript id peer bytes entries sent how)
    (reply : Reply) (found : first_entered entries ≡ Some reply) where
  abbrev all_owed : Wired
  all_owed = wired 0 (session id) (stream_of bytes) t.owns

  are_entered : AreEntered (owed 0 (session id) (read_of 0 (session id) (stream_of bytes) t.owns).packets t.owns) t.owns entries
  are_entered = entered (session id) 0 (read_of 0 (session id) (stream_of bytes) t.owns).packets t.owns entries t.entered

  used : all_owed.unused ≡ []
  used =
      let left : Stream = (read_of 0 (session id) (stream_of bytes) t.owns).left in
      let o : Owed = owed 0 (session id) (read_of 0 (session id) (stream_of bytes) t.owns).packets t.owns in
      ap (λ (w : Wired). w.unused) (wired_is_owed 0 (session id) (stream_of bytes) t.owns)
      ∙ (none_left (fault_at o.next o.at left) o left ∙ are_entered.1)

  replied : first_reply t.owns ≡ Some reply
  replied = sym are_entered.0 ∙ found

  module _ (claim : Claim) (local : claim.local ≡ true) (small : id < 2 ^ 32) (nonces : AreNonces t.owns) (words : HasWords reply)
      (rest commands : List ℕ) (tied : bytes ++ rest ≡ (got_of claim (packets_text sent)).sent ++ commands) where
    all_read : ReadsAll 0 (conversation claim) 0 sent
    all_read =
        subst (λ (s : List Sent). ReadsAll 0 (conversation claim) 0 s) (sym t.sends)
        (reads_all reply words rest commands (session id) (conversation claim) 0 0 (stream_of bytes) t.owns (session_fits claim local id small) nonces used replied
        (subst (λ (s : List Sent). IsTied 0 (conversation claim) 0 s bytes rest commands) t.sends tied))

    pub told_ends : result_of (got_of claim (packets_text sent)).at ≡ Some (end_told reply)
    told_ends = by all_read where
      by : ReadsAll 0 (conversation claim) 0 sent → result_of (got_of claim (packets_text sent)).at ≡ Some (end_told reply)
      by (written, now, leads, result) =
          let talk : ClientTalk claim (payloads_of sent) written (result_of now) = record { now = now; leads = leads; result_is = refl } in
          result
          ∙ (ended-by-reply.over_bytes id peer bytes entries sent how reply claim [] t small nonces found).local local written (result_of now)
          (subst (λ (got : List (List ℕ)). ClientTalk claim got written (result_of now)) (sym (append-nil (payloads_of sent))) talk)

-- ## A client that got all

over_rests : (next : ℕ) (t : Talk) (stream : Stream) (how : LoginEnd) → result_of t ≡ Some how → getting next t stream ≡ rests next t stream
unfolding getting
over_rests next (Hears k) stream how e = absurd (cc)
over_rests next (Says said k) stream how e = absurd (cc)
over_rests next (Over end) stream how e = refl

module _ (over : Bool) (client : Client) (sent : List Sent) (bytes : List ℕ) (p : IsPeer over client sent bytes []) (all : client.coming ≡ []) where
  abbrev stood : Got
  stood = got_of p.claim p.got

  abbrev whole : Got
  whole = got_of p.claim (packets_text sent)

  -- bytes that it dropped change nothing
  abbrev IsSame : Got → Type 0
  IsSame g = (g.sent ≡ stood.sent) × (result_of g.at ≡ result_of stood.at)

  with_dropped : (dropped : List ℕ) (how : LoginEnd) → result_of stood.at ≡ Some how → IsSame (got_of p.claim (p.got ++ dropped))
  with_dropped dropped how is = subst IsSame (sym
      (getting_goes_on 0 (conversation p.claim) (stream_of p.got) dropped
      ∙ ap (λ (g : Got). after_written stood.sent g) (over_rests stood.next stood.at (with_more stood.unread dropped) how is)))
      (append-nil stood.sent, refl)

  got_all : packets_text sent ≡ p.got ++ p.dropped
  got_all = p.came ∙ ap (λ (text : List ℕ). p.got ++ text) (ap (λ (text : List ℕ). p.dropped ++ text) all ∙ append-nil p.dropped)

  none_dropped : p.dropped ≡ [] → IsSame whole
  none_dropped none = subst IsSame
      (sym (ap (λ (text : List ℕ). got_of p.claim text) (got_all ∙ (ap (λ (text : List ℕ). p.got ++ text) none ∙ append-nil p.got)))) (refl, refl)

  by_result : IsResult over stood.at p.dropped p.commands client.coming client.result → IsSame whole
  by_result (waits none waiting kept plain) = none_dropped kept
  by_result (ends how is by) = subst IsSame (sym (ap (λ (text : List ℕ). got_of p.claim text) got_all)) (with_dropped p.dropped how by)
  by_result (cut is waiting kept plain none is-over) = none_dropped kept

  pub is_same : IsSame whole
  is_same = by_result p.result_is

  -- it has the result of its talk
  pub has_result : (how : LoginEnd) → IsResult over stood.at p.dropped p.commands client.coming client.result → result_of stood.at ≡ Some how → client.result ≡ Some how
  has_result how (waits none waiting kept plain) e = absurd (cc)
  has_result how (ends how' is by) e = cc
  has_result how (cut is waiting kept plain none is-over) e = absurd (cc)

-- ## After all events

module _ (done : EventsAreDone) (openings : List Opening) (settings : Settings) (events : List Event) (number : ℕ) (is_session : number ≢ 0) where
  abbrev doings_over : List Doing
  doings_over = all_doings (new_replay openings settings) events

  nonced : IsNonced number (peer_at ((after_all (new_replay openings settings).world doings_over).places number))
      (bytes_over openings settings events number) (lines_over openings settings events number)
  nonced = subst (λ (lines : List Line). IsNonced number (peer_at ((after_all (new_replay openings settings).world doings_over).places number)) (bytes_over openings settings events number) lines)
      (sym ((done (new_replay openings settings) events).each_is number)) (nonced_transcripts openings settings doings_over number is_session)

pub ended_once_told : EventsAreDone → EndedOnceTold
ended_once_told done openings settings events number client reply is_session small is found words all =
    let p = peer_after openings settings events number done client is in
    let sent : List Sent = sends_in (lines_over openings settings events number) in
    let bytes : List ℕ = bytes_over openings settings events number in
    let n = nonced done openings settings events number is_session in
    let (same_sent, same_result) = is_same _ client sent bytes p all in
    has_result _ client sent bytes p all (end_told reply) p.result_is
    (sym same_result
    ∙ told_ends number _ bytes _ sent _ n.transcript.is reply found p.claim p.local small n.nonces words client.leaving p.commands
    (p.wrote ∙ ap (λ (text : List ℕ). text ++ p.commands) (sym same_sent)))

-- ## A reply that opens

opens_words : (reply : Reply) → IsTrue (opens reply) → HasWords reply
opens_words (Opened account host) opened = tt
opens_words (Sandbox account host) opened = tt
opens_words (Blocked rule left) opened = absurd (cc)
opens_words (Denied using_password) opened = tt
opens_words Locked opened = tt
opens_words MustChange opened = tt

told_opened : (reply : Reply) → IsTrue (opens reply) → end_told reply ≡ end.Opened
told_opened (Opened account host) opened = refl
told_opened (Sandbox account host) opened = refl
told_opened (Blocked rule left) opened = absurd (cc)
told_opened (Denied using_password) opened = absurd (cc)
told_opened Locked opened = absurd (cc)
told_opened MustChange opened = absurd (cc)

pub opened_once_told : EventsAreDone → OpenedOnceTold
opened_once_told done openings settings events number client reply is_session small is found opened all =
    ended_once_told done openings settings events number client reply is_session small is found (opens_words reply opened) all
    ∙ ap (λ (e : LoginEnd). Some e) (told_opened reply opened)
