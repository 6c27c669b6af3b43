-- The server's end of a session as a talk: what it asks its own side, and how it goes on with each answer.
use Rattle.std.specs.Prelude.{ℕ, List}
use Rattle.factor_chain.specs.CheckedOf.{CheckedOf}
use Rattle.factor_chain.specs.declared.credentials.Look.{Look}
use Rattle.factor_chain.specs.declared.evidence_list.Evidence.{Evidence}
use Rattle.account_history.specs.Preparing.{PreparedOf}
use Rattle.account_history.specs.declared.entries.Reply.{Reply}
use Rattle.account_history.specs.declared.entries.StmtReply.{StmtReply}
use Rattle.account_history.specs.declared.entries.Who.{Who}
use Rattle.interaction.specs.Talk.{Talk, Asks, Over}
use Rattle.session_talk.specs.declared.actions.Ask.{Ask}
use Rattle.session_talk.specs.declared.actions.Ask.TheVariants as ask
use Rattle.session_talk.specs.declared.ends.SessionEnd.{SessionEnd}
use Rattle.session_talk.specs.declared.ends.SessionEnd.TheVariants as end
use Rattle.session_talk.specs.declared.inputs.Input.{Input}
use Rattle.session_talk.specs.declared.inputs.Input.TheVariants as input
use Rattle.stmt_rules.specs.declared.statement.Statement.{Statement}

-- what a session asks its own side
pub data Question : Type 0 where
  -- a new session waits for the nonce that it begins with
  Begins : Question
  Own : Ask → Question

abbrev pub SessionTalk : Type 0
SessionTalk = Talk Question Input SessionEnd

-- ## How a talk goes on with each kind of answer

-- a session that is given what it didn't ask for has failed
abbrev pub unasked : SessionTalk
unasked = Over end.Memory

unfoldable pub on_start : ((nonce : List ℕ) → SessionTalk) → Input → SessionTalk
on_start k (input.Start nonce) = k nonce
on_start k _ = unasked

unfoldable pub on_drawn : ((nonce : List ℕ) → SessionTalk) → Input → SessionTalk
on_drawn k (input.Drawn nonce) = k nonce
on_drawn k _ = unasked

unfoldable pub on_look : (Look → SessionTalk) → Input → SessionTalk
on_look k (input.Looked look) = k look
on_look k _ = unasked

-- a check has one outcome
unfoldable pub on_checked : SessionTalk → Input → SessionTalk
on_checked t (input.Checked checked) = t
on_checked t _ = unasked

unfoldable pub on_settled : (stale : SessionTalk) → (Reply → SessionTalk) → Input → SessionTalk
on_settled stale k (input.Stale evidences) = stale
on_settled stale k (input.Settled reply) = k reply
on_settled stale k _ = unasked

unfoldable pub on_locked : (Reply → SessionTalk) → Input → SessionTalk
on_locked k (input.Settled reply) = k reply
on_locked k _ = unasked

-- the preparing of a statement has one outcome
unfoldable pub on_prepared : SessionTalk → Input → SessionTalk
on_prepared t (input.Prepared prepared) = t
on_prepared t _ = unasked

unfoldable pub on_ran : (stale : SessionTalk) → (StmtReply → SessionTalk) → Input → SessionTalk
on_ran stale k (input.StaleStatement statement) = stale
on_ran stale k (input.Ran reply) = k reply
on_ran stale k _ = unasked

unfoldable pub on_ran_locked : (StmtReply → SessionTalk) → Input → SessionTalk
on_ran_locked k (input.Ran reply) = k reply
on_ran_locked k _ = unasked

-- ## Asking

-- the nonce that a new session begins with is waited for
abbrev pub starts : ((nonce : List ℕ) → SessionTalk) → SessionTalk
starts k = Asks Begins (on_start k)

-- a fresh nonce is drawn
abbrev pub draws : ((nonce : List ℕ) → SessionTalk) → SessionTalk
draws k = Asks (Own ask.Draw) (on_drawn k)

-- an account is looked at
abbrev pub looks : Who → (Look → SessionTalk) → SessionTalk
looks who k = Asks (Own (ask.Observe who)) (on_look k)

-- and again, after a stale answer
abbrev pub renews : Who → (Look → SessionTalk) → SessionTalk
renews who k = Asks (Own (ask.Renew who)) (on_look k)

-- evidence is checked on a look
abbrev pub checks : Look → List Evidence → SessionTalk → SessionTalk
checks look evidences t = Asks (Own (ask.Check look evidences)) (on_checked t)

-- an attempt is settled by what was checked: the answer is stale, or it is a reply
abbrev pub settles : CheckedOf → (flags : ℕ) → (stale : SessionTalk) → (Reply → SessionTalk) → SessionTalk
settles checked flags stale k = Asks (Own (ask.Settle checked flags)) (on_settled stale k)

-- an attempt is settled whose evidence is checked in the same step: no answer is stale
abbrev pub settles_locked : (user : List ℕ) → List Evidence → (flags : ℕ) → (Reply → SessionTalk) → SessionTalk
settles_locked user evidences flags k = Asks (Own (ask.SettleLocked user evidences flags)) (on_locked k)

-- a statement is prepared on a look
abbrev pub prepares : Look → Statement → (salt : List ℕ) → (actor : ℕ) → SessionTalk → SessionTalk
prepares look statement salt actor t = Asks (Own (ask.Prepare look statement salt actor)) (on_prepared t)

-- a statement that was prepared is executed: the answer is stale, or it is a reply
abbrev pub commits : PreparedOf → (actor : ℕ) → (stale : SessionTalk) → (StmtReply → SessionTalk) → SessionTalk
commits prepared actor stale k = Asks (Own (ask.Commit prepared actor)) (on_ran stale k)

-- a statement is prepared and executed in one step: no answer is stale
abbrev pub commits_locked : Statement → (salt : List ℕ) → (actor : ℕ) → (StmtReply → SessionTalk) → SessionTalk
commits_locked statement salt actor k = Asks (Own (ask.CommitLocked statement salt actor)) (on_ran_locked k)

-- a statement that has nothing to prepare is executed
abbrev pub commits_plain : Statement → (actor : ℕ) → (StmtReply → SessionTalk) → SessionTalk
commits_plain statement actor k = Asks (Own (ask.CommitPlain statement actor)) (on_ran_locked k)
