-- How a session's client ends, by what the session sends and by the reply to its first attempt.
use Rattle.std.proofs.Common.{◌≡◌, refl, sym, ◌∙◌, subst, ℕ, Bool, List, [], ◌++◌, Contains, Option, Some}
use Rattle.std.proofs.lemmas.List.Elements.{Contains-append_left}
use Rattle.account_history.specs.declared.entries.Opening.{Opening}
use Rattle.account_rules.specs.declared.accounts.Settings.{Settings}
use Rattle.packet_stream.specs.Sent.{Sent}
use Rattle.session_talk.specs.Texts.{error_payload}
use Rattle.login_client.specs.Conversation.{ClientTalk, conversation}
use Rattle.login_client.specs.Talk.{Talk, Over, result_of}
use Rattle.login_client.specs.declared.ends.LoginEnd.{LoginEnd}
use Rattle.login_client.specs.declared.ends.LoginEnd.TheVariants as end
use Rattle.script_text.specs.declared.event.Event.{Event}
use Rattle.both_ends.specs.Meeting.{IsBeginning, payloads_of}
use Rattle.both_ends.proofs.Closing.{opened-by-reply, refused-by-error}
use Rattle.world_table.specs.Printing.{Line}
use Rattle.session_world.specs.BothEnds.{OpenedByItsReply, RefusedByItsError, client_over, lines_over}
use Rattle.session_world.specs.Events.{EventsAreDone, SessionsAreTranscripts, all_doings}
use Rattle.session_world.specs.Lines.{sends_in}
use Rattle.session_world.specs.Replays.{Replay, after_events, new_replay}
use Rattle.client_wire.specs.UnderWay.{Client}
use Rattle.session_world.specs.Transcripts.{session_bytes}
use Rattle.session_world.specs.Worlds.{is_over_at}
use Rattle.session_world.proofs.Accompanied.{HoldsIn, keeps_events}
use Rattle.session_world.proofs.Peering.{IsPeer, IsResult, cut, ends, got_of, stream_of, waits}
use Rattle.session_world.proofs.Reaching.{IsUnframed, Reaches, reaches}

-- ## A client after all events

module _ (openings : List Opening) (settings : Settings) (events : List Event) (number : ℕ) where
  abbrev begun : Replay
  begun = new_replay openings settings

  abbrev after : Replay
  after = after_events begun events

  abbrev lines : List Line
  lines = lines_over openings settings events number

  -- the bytes that came to the session
  abbrev pub bytes_over : List ℕ
  bytes_over = session_bytes number begun.world (all_doings begun events)

  nothing_yet : HoldsIn number begun [] []
  nothing_yet = record { unplaced = λ e. (refl, refl); peer = λ c e. absurd (cc) }

  pub peer_after : EventsAreDone → (client : Client) → client_over openings settings events number ≡ Some client →
      IsPeer (is_over_at (after.world.places number)) client (sends_in lines) bytes_over []
  peer_after done client is =
      subst (λ (all : List Line). IsPeer (is_over_at (after.world.places number)) client (sends_in all) bytes_over [])
      (sym ((done begun events).each_is number))
      (((keeps_events number begun events).holds [] [] nothing_yet).peer client is)

-- ## How it ended

-- a client that wasn't cut off ended as its talk did
ended_so : (over : Bool) (at : Talk) (dropped commands coming : List ℕ) (result : Option LoginEnd) (how : LoginEnd) → (how ≡ end.PeerClosed → ⊥) →
    IsResult over at dropped commands coming result → result ≡ Some how → result_of at ≡ Some how
ended_so over at dropped commands coming result how not-cut (waits none waiting kept plain) e = absurd (cc)
ended_so over at dropped commands coming result how not-cut (ends how' is by) e = cc
ended_so over at dropped commands coming result how not-cut (cut is waiting kept plain all is-over) e = absurd (not-cut (same (sym e ∙ is))) where
  same : Some how ≡ Some end.PeerClosed → how ≡ end.PeerClosed
  same f = cc

module _ (over : Bool) (client : Client) (sent : List Sent) (bytes : List ℕ) (p : IsPeer over client sent bytes []) (how : LoginEnd)
    (unframed : IsUnframed how) (not-cut : how ≡ end.PeerClosed → ⊥) (is : client.result ≡ Some how) where
  reached : Reaches (conversation p.claim) how sent
  reached = reaches how unframed sent (p.dropped ++ client.coming) 0 (conversation p.claim) (stream_of p.got) (sym p.came)
      (ended_so over (got_of p.claim p.got).at p.dropped p.commands client.coming client.result how not-cut p.result_is is)

  -- it had a talk over a beginning of what was sent
  pub talked : (got written : List (List ℕ)) × IsBeginning got (payloads_of sent) × ClientTalk p.claim got written (Some how)
  talked = of reached where
    of : Reaches (conversation p.claim) how sent → (got written : List (List ℕ)) × IsBeginning got (payloads_of sent) × ClientTalk p.claim got written (Some how)
    of (got, written, leads, beginning) = (got, written, beginning, record { now = Over how; leads = leads; result_is = refl })

pub opened_by_its_reply : EventsAreDone → SessionsAreTranscripts → OpenedByItsReply
opened_by_its_reply done transcribed openings settings events number client is_session is opened =
    let t = transcribed openings settings events number is_session in
    let p = peer_after openings settings events number done client is in
    let (got, written, beginning, talk) = talked _ client (sends_in (lines_over openings settings events number)) _ p end.Opened (λ fault e. absurd (cc)) (λ e. absurd (cc)) opened in
    opened-by-reply.over_bytes number _ _ _ _ _ p.claim got written t.is beginning talk

-- what is among the payloads got is among those sent
among_sent : (got sent : List (List ℕ)) (payload : List ℕ) → IsBeginning got sent → Contains got payload → Contains sent payload
among_sent got sent payload (rest, split) among =
    subst (λ (all : List (List ℕ)). Contains all payload) (sym split) (Contains-append_left got rest payload among)

pub refused_by_its_error : EventsAreDone → SessionsAreTranscripts → RefusedByItsError
refused_by_its_error done transcribed openings settings events number client refusal is_session is refused =
    let t = transcribed openings settings events number is_session in
    let p = peer_after openings settings events number done client is in
    let (got, written, beginning, talk) = talked _ client (sends_in (lines_over openings settings events number)) _ p (end.Refused refusal) (λ fault e. absurd (cc)) (λ e. absurd (cc)) refused in
    let (error, among, number_is) = refused-by-error.over_bytes number _ _ _ _ _ p.claim got written refusal t.is beginning talk in
    (error, among_sent got (payloads_of (sends_in (lines_over openings settings events number))) (error_payload error) beginning among, number_is)
