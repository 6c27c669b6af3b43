-- The order of a session's calls on shared accounts, and how many there are.
use Rattle.std.specs.Prelude.{◌≡◌, ℕ, zero, suc, ◌+◌, Bool, true, false, IsTrue, List, Option, Some, None}
use Rattle.factor_chain.specs.declared.credentials.Look.{Look}
use Rattle.account_history.specs.Preparing.{is_preparable, who_of}
use Rattle.account_history.specs.declared.entries.Reply.{Reply}
use Rattle.account_history.specs.declared.entries.Reply.TheVariants.{Opened, Sandbox, Blocked, Denied, Locked, MustChange}
use Rattle.account_history.specs.declared.entries.Who.{Who}
use Rattle.account_history.specs.declared.entries.Who.TheVariants.{Login, Account, Own}
use Rattle.interaction.specs.Talk.{Got, Says, Hears, Asks, Over}
use Rattle.session_talk.specs.Logins.{session}
use Rattle.session_talk.specs.Talk.{SessionTalk}
use Rattle.session_talk.specs.Turns.{answers, ask_of}
use Rattle.session_talk.specs.declared.actions.Ask.{Ask}
use Rattle.session_talk.specs.declared.actions.Ask.TheVariants as ask
use Rattle.session_talk.specs.declared.ends.SessionEnd.{SessionEnd}
use Rattle.session_talk.specs.declared.ends.SessionEnd.TheVariants as end
use Rattle.session_talk.specs.declared.inputs.Input.{Input}
use Rattle.session_talk.specs.declared.inputs.Input.TheVariants as input

-- what a session has of its last call: nothing, the ticket of a look with the number of stale answers before it, or a stale
-- answer with its number
pub data Paper : Type 0 where
  Nothing : Paper
  OnLook : (who : Who) (look : Look) (number : ℕ) → Paper
  Late : (who : Who) (number : ℕ) → Paper

-- and the number of the account that it opened on
pub record Held : Type 0 where
  pub paper : Paper
  pub account : Option ℕ

abbrev pub nothing_held : Held
nothing_held = record { paper = Nothing; account = None }

-- ## What may be asked

-- a look at one's own account is at the one that the session opened on
abbrev pub MayLook : Option ℕ → Who → Type 0
MayLook account (Login user) = Unit {0}
MayLook account (Account name) = Unit {0}
MayLook account (Own id) = account ≡ Some id

-- a call has what it needs: the ticket of the very look that was checked or prepared on, the first stale answer to look again,
-- and the second one to do everything in one turn
abbrev pub MayAsk : Held → Ask → Type 0
MayAsk h (ask.Observe who) = MayLook h.account who
MayAsk h (ask.Renew who) = (h.paper ≡ Late who 1) × MayLook h.account who
MayAsk h (ask.Settle checked flags) = (user : List ℕ) × (number : ℕ) × (h.paper ≡ OnLook (Login user) checked.look number)
MayAsk h (ask.SettleLocked user evidences flags) = h.paper ≡ Late (Login user) 2
MayAsk h (ask.Commit prepared actor) = (number : ℕ) × (h.paper ≡ OnLook (who_of actor prepared.statement) prepared.look number)
MayAsk h (ask.CommitLocked statement salt actor) = (who : Who) × (h.paper ≡ Late who 2)
MayAsk h (ask.CommitPlain statement actor) = is_preparable statement ≡ false
MayAsk h _ = Unit {0}

-- ## What is held then

abbrev pub opened_by : Reply → Option ℕ
opened_by (Opened account host) = Some account
opened_by (Sandbox account host) = Some account
opened_by (Blocked rule left) = None
opened_by (Denied using_password) = None
opened_by Locked = None
opened_by MustChange = None

-- a stale answer comes for a ticket
abbrev pub late_of : Paper → Paper
late_of Nothing = Nothing
late_of (OnLook who look number) = Late who (number + 1)
late_of (Late who number) = Nothing

abbrev pub held_after : Held → Ask → Input → Held
held_after h (ask.Observe who) (input.Looked look) = record h { paper = OnLook who look 0 }
held_after h (ask.Renew who) (input.Looked look) = record h { paper = OnLook who look 1 }
held_after h (ask.Settle checked flags) (input.Stale evidences) = record h { paper = late_of h.paper }
held_after h (ask.Settle checked flags) (input.Settled reply) = record { paper = Nothing; account = opened_by reply }
held_after h (ask.SettleLocked user evidences flags) (input.Settled reply) = record { paper = Nothing; account = opened_by reply }
held_after h (ask.Commit prepared actor) (input.StaleStatement statement) = record h { paper = late_of h.paper }
held_after h (ask.Commit prepared actor) (input.Ran reply) = record h { paper = Nothing }
held_after h (ask.CommitLocked statement salt actor) (input.Ran reply) = record h { paper = Nothing }
held_after h _ _ = h

-- ## Counting

-- an ask is a call on the shared accounts
abbrev pub is_call : Ask → Bool
is_call (ask.Observe who) = true
is_call (ask.Renew who) = true
is_call (ask.Settle checked flags) = true
is_call (ask.SettleLocked user evidences flags) = true
is_call (ask.Commit prepared actor) = true
is_call (ask.CommitLocked statement salt actor) = true
is_call (ask.CommitPlain statement actor) = true
is_call _ = false

-- a call takes one of those that are left
abbrev pub Spending : Bool → (calls : ℕ) → (ℕ → Type 0) → Type 0
Spending false calls goes_on = goes_on calls
Spending true zero goes_on = ⊥
Spending true (suc calls) goes_on = goes_on calls

-- an end that a talk comes to by what it was sent and answered: the peer's close, a failed link and want of memory come from
-- outside
abbrev pub IsDecided : SessionEnd → Type 0
IsDecided (end.PeerClosed cut) = ⊥
IsDecided end.LinkFault = ⊥
IsDecided end.Memory = ⊥
IsDecided _ = Unit {0}

-- From here a talk reads at most so many packets, makes at most so many calls before the next packet and at most five after
-- each, each call has what it needs, and the talk ends by what it was sent and answered.
abbrev pub Fits : (packets calls : ℕ) → Held → SessionTalk → Type 0
Fits m n h (Says payload t) = Fits m n h t
Fits zero n h (Hears anew k) = ⊥
Fits (suc m) n h (Hears anew k) = (payload : List ℕ) → Fits m 5 h (k (Got payload))
Fits m n h (Asks q k) =
    MayAsk h (ask_of q)
    × Spending (is_call (ask_of q)) n (λ left. (given : Input) → IsTrue (answers q given) → Fits m left (held_after h (ask_of q) given) (k given))
Fits m n h (Over how) = IsDecided how

-- the response to the greeting, the answer to a switch, the password, and the commands
abbrev pub most_packets : ℕ
most_packets = 1048579

abbrev pub SessionsFit : Type 0
SessionsFit = (id : ℕ) → Fits most_packets 0 nothing_held (session id)
