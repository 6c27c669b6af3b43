-- What holds of both ends together.
use Rattle.std.specs.Prelude.{◌≡◌, ℕ, ◌<◌, ◌^◌, List, [], ◌∷◌, ◌++◌, length, Contains, Option, Some}
use Rattle.lg_base.specs.declared.errors.Code.{Code}
use Rattle.lg_base.specs.Errors.{number_of}
use Rattle.factor_chain.specs.declared.credentials.Method.{Method}
use Rattle.packet_frame.specs.declared.packets.Packet.{Packet}
use Rattle.account_history.specs.declared.entries.Entry.{Entry}
use Rattle.account_history.specs.declared.entries.Reply.{Reply}
use Rattle.session_talk.specs.Logins.{session}
use Rattle.session_talk.specs.Owed.{owed}
use Rattle.packet_stream.specs.Sent.{Sent}
use Rattle.session_talk.specs.Transcript.{Peer, Transcript}
use Rattle.session_talk.specs.declared.ends.SessionEnd.{SessionEnd}
use Rattle.session_talk.specs.declared.inputs.Input.{Input}
use Rattle.session_talk.specs.Texts.{error_payload, fast_payload, full_payload, greeting_of, greeting_payload, method_name, ok_payload, switch_payload}
use Rattle.login_client.specs.Conversation.{ClientTalk}
use Rattle.login_client.specs.declared.claims.Claim.{Claim}
use Rattle.login_client.specs.declared.ends.LoginEnd.TheVariants as end
use Rattle.login_client.specs.Hearing.{IsHeard}
use Rattle.login_client.specs.declared.hearing.Heard.TheVariants.{Greets, Switches, Fast, Full, Accepts, Refuses}
use Rattle.both_ends.specs.Meeting.{AreNonces, EndsOver, IsBeginning, Opens, Tells, end_told, first_entered, first_reply, payloads_of, sent_by}

-- What the payloads that a session sends say to a client. A payload says one thing alone, by a law of the client.
pub record PayloadsAreHeard : Type 0 where
  pub greeting : (id : ℕ) (nonce : List ℕ) → id < 2 ^ 32 → length nonce ≡ 20 → IsHeard (greeting_payload id nonce) (Greets (greeting_of id nonce))
  pub switch : (method : Method) (nonce : List ℕ) →
      IsHeard (switch_payload method nonce) (Switches (record { plugin = method_name method; body = nonce ++ 0 ∷ [] }) 23)
  pub fast : IsHeard fast_payload Fast
  pub full : IsHeard full_payload Full
  pub ok : IsHeard ok_payload Accepts
  pub error : (error : Code) → IsHeard (error_payload error) (Refuses (number_of error))

-- A client that got the first of the payloads that a session sends has opened only where the reply to the session's first
-- attempt opens.
pub record OpenedByReply : Type 0 where
  -- for packets and answers
  pub over_packets : (id : ℕ) (packets : List Packet) (owns : List Input) (claim : Claim) (got written : List (List ℕ)) →
      IsBeginning got (sent_by id packets owns) → ClientTalk claim got written (Some end.Opened) → Opens (first_reply owns)
  -- and over the bytes and entries of a session
  pub over_bytes : (id : ℕ) (peer : Peer) (bytes : List ℕ) (entries : List Entry) (sent : List Sent) (how : Option SessionEnd)
      (claim : Claim) (got written : List (List ℕ)) → Transcript id peer bytes entries sent how →
      IsBeginning got (payloads_of sent) → ClientTalk claim got written (Some end.Opened) → Opens (first_entered entries)

-- It was refused with a number only where it got an error with that number.
pub record RefusedByError : Type 0 where
  pub over_packets : (id : ℕ) (packets : List Packet) (owns : List Input) (claim : Claim) (got written : List (List ℕ)) (number : ℕ) →
      IsBeginning got (sent_by id packets owns) → ClientTalk claim got written (Some (end.Refused number)) →
      (error : Code) × Contains got (error_payload error) × (number_of error ≡ number)
  pub over_bytes : (id : ℕ) (peer : Peer) (bytes : List ℕ) (entries : List Entry) (sent : List Sent) (how : Option SessionEnd)
      (claim : Claim) (got written : List (List ℕ)) (number : ℕ) → Transcript id peer bytes entries sent how →
      IsBeginning got (payloads_of sent) → ClientTalk claim got written (Some (end.Refused number)) →
      (error : Code) × Contains got (error_payload error) × (number_of error ≡ number)

-- A client that got all payloads that a session sends up to the end of its first attempt, and any after them, has ended
-- by the reply to that attempt.
pub record EndedByReply : Type 0 where
  pub over_packets : (id : ℕ) (packets : List Packet) (owns : List Input) (reply : Reply) (claim : Claim) (more : List (List ℕ)) →
      id < 2 ^ 32 → AreNonces owns → (owed 0 (session id) packets owns).unused ≡ [] → first_reply owns ≡ Some reply →
      EndsOver claim reply (sent_by id packets owns ++ more)
  pub over_bytes : (id : ℕ) (peer : Peer) (bytes : List ℕ) (entries : List Entry) (sent : List Sent) (how : Option SessionEnd)
      (reply : Reply) (claim : Claim) (more : List (List ℕ)) (t : Transcript id peer bytes entries sent how) →
      id < 2 ^ 32 → AreNonces t.owns → first_entered entries ≡ Some reply → EndsOver claim reply (payloads_of sent ++ more)

-- A client that got the first of the payloads that a session sends, with an OK or an ERR among them, has ended by the
-- reply to the session's first attempt.
pub record EndedAtOnce : Type 0 where
  pub over_packets : (id : ℕ) (packets : List Packet) (owns : List Input) (reply : Reply) (claim : Claim) (got : List (List ℕ)) →
      id < 2 ^ 32 → AreNonces owns → (owed 0 (session id) packets owns).unused ≡ [] → first_reply owns ≡ Some reply →
      IsBeginning got (sent_by id packets owns) → Tells got → EndsOver claim reply got
  pub over_bytes : (id : ℕ) (peer : Peer) (bytes : List ℕ) (entries : List Entry) (sent : List Sent) (how : Option SessionEnd)
      (reply : Reply) (claim : Claim) (got : List (List ℕ)) (t : Transcript id peer bytes entries sent how) →
      id < 2 ^ 32 → AreNonces t.owns → first_entered entries ≡ Some reply →
      IsBeginning got (payloads_of sent) → Tells got → EndsOver claim reply got

-- Where the first attempt has a reply, a client that was refused was refused with the number that the reply tells.
pub record RefusedByReply : Type 0 where
  pub over_packets : (id : ℕ) (packets : List Packet) (owns : List Input) (reply : Reply) (claim : Claim) (got written : List (List ℕ)) (number : ℕ) →
      id < 2 ^ 32 → AreNonces owns → (owed 0 (session id) packets owns).unused ≡ [] → first_reply owns ≡ Some reply →
      IsBeginning got (sent_by id packets owns) → ClientTalk claim got written (Some (end.Refused number)) → end_told reply ≡ end.Refused number
  pub over_bytes : (id : ℕ) (peer : Peer) (bytes : List ℕ) (entries : List Entry) (sent : List Sent) (how : Option SessionEnd)
      (reply : Reply) (claim : Claim) (got written : List (List ℕ)) (number : ℕ) (t : Transcript id peer bytes entries sent how) →
      id < 2 ^ 32 → AreNonces t.owns → first_entered entries ≡ Some reply →
      IsBeginning got (payloads_of sent) → ClientTalk claim got written (Some (end.Refused number)) → end_told reply ≡ end.Refused number
