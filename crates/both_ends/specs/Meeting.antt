-- A session, and a client that gets the payloads that the session sends.
use Rattle.std.specs.Prelude.{◌≡◌, ◌⊎◌, IsTrue, ℕ, true, false, List, [], ◌∷◌, ◌++◌, length, map, Contains, Option, Some, None}
use Rattle.lg_base.specs.declared.errors.Code.{Code}
use Rattle.packet_frame.specs.declared.packets.Packet.{Packet}
use Rattle.account_history.specs.Failures.{opens}
use Rattle.account_history.specs.declared.entries.Entry.{Entry}
use Rattle.account_history.specs.declared.entries.Entry.TheVariants.{Attempted}
use Rattle.account_history.specs.declared.entries.Reply.{Reply}
use Rattle.account_history.specs.declared.entries.Reply.TheVariants.{Opened, Sandbox, Blocked, Denied, Locked, MustChange}
use Rattle.session_talk.specs.Logins.{session}
use Rattle.session_talk.specs.Owed.{owed}
use Rattle.packet_stream.specs.Sent.{Sent}
use Rattle.session_talk.specs.Texts.{error_payload, ok_payload}
use Rattle.session_talk.specs.declared.inputs.Input.{Input}
use Rattle.session_talk.specs.declared.inputs.Input.TheVariants as input
use Rattle.login_client.specs.Conversation.{ClientTalk}
use Rattle.login_client.specs.declared.claims.Claim.{Claim}
use Rattle.login_client.specs.declared.ends.LoginEnd.{LoginEnd}
use Rattle.login_client.specs.declared.ends.LoginEnd.TheVariants as end
use Rattle.login_client.specs.declared.ends.Reason.TheVariants as reason

-- ## What is sent, and what is got of it

abbrev pub payloads_of : List Sent → List (List ℕ)
payloads_of sent = map (λ s. s.payload) sent

-- the payloads that a session of this number sends, for the packets that it got and for what its own side was answered
abbrev pub sent_by : (id : ℕ) → List Packet → List Input → List (List ℕ)
sent_by id packets owns = payloads_of (owed 0 (session id) packets owns).sent

-- some of them were got, in order and from the first one on
abbrev pub IsBeginning : (got sent : List (List ℕ)) → Type 0
IsBeginning got sent = (rest : List (List ℕ)) × (sent ≡ got ++ rest)

-- an OK or an ERR is among them
abbrev pub Tells : (got : List (List ℕ)) → Type 0
Tells got = Contains got ok_payload ⊎ ((error : Code) × Contains got (error_payload error))

-- ## The reply to the first attempt

-- by what the server's side was answered
abbrev pub first_reply : List Input → Option Reply
first_reply [] = None
first_reply (input.Settled reply ∷ owns) = Some reply
first_reply (_ ∷ owns) = first_reply owns

-- by the entries that a session added to the history
abbrev pub first_entered : List Entry → Option Reply
first_entered [] = None
first_entered (Attempted attempt ∷ entries) = Some attempt.reply
first_entered (_ ∷ entries) = first_entered entries

-- there is one, and the session opened, in full or for a new password alone
abbrev pub Opens : Option Reply → Type 0
Opens (Some reply) = IsTrue (opens reply)
Opens None = ⊥

-- how a reply ends the login of a client that is told it
abbrev pub end_told : Reply → LoginEnd
end_told (Opened account host) = end.Opened
end_told (Sandbox account host) = end.Opened
end_told (Blocked rule left) = end.Refused 3955
end_told (Denied using_password) = end.Refused 1045
end_told Locked = end.Refused 3118
end_told MustChange = end.Refused 1862

-- How a login ends whose session got a reply: as the reply tells, or earlier, since the password was asked for in the
-- clear and the server isn't on the client's machine.
abbrev pub EndsBy : Claim → Reply → LoginEnd → Type 0
EndsBy claim reply how = (how ≡ end_told reply) ⊎ ((claim.local ≡ false) × (how ≡ end.WontSend reason.NotLocal))

-- a nonce that is given has 20 bytes
abbrev pub HasWholeNonce : Input → Type 0
HasWholeNonce (input.Start nonce) = length nonce ≡ 20
HasWholeNonce (input.Drawn nonce) = length nonce ≡ 20
HasWholeNonce _ = Unit {0}

abbrev pub AreNonces : List Input → Type 0
AreNonces [] = Unit {0}
AreNonces (given ∷ owns) = HasWholeNonce given × AreNonces owns

-- A client that gets these payloads, from a session whose first attempt got this reply, ends by it: it has a talk over
-- them, and each such talk ends so. On the server's machine it ends as the reply tells.
pub record EndsOver (claim : Claim) (reply : Reply) (got : List (List ℕ)) : Type 0 where
  pub there_is : (written : List (List ℕ)) × (how : LoginEnd) × ClientTalk claim got written (Some how)
  pub each : (written : List (List ℕ)) (result : Option LoginEnd) → ClientTalk claim got written result →
      (how : LoginEnd) × (result ≡ Some how) × EndsBy claim reply how
  pub local : claim.local ≡ true → (written : List (List ℕ)) (result : Option LoginEnd) → ClientTalk claim got written result →
      result ≡ Some (end_told reply)
