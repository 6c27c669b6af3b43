-- What holds of a talk on each answer, where it holds on each answer of the kind that was asked for.
use Rattle.std.proofs.Common.{IsTrue, ℕ, List}
use Rattle.factor_chain.specs.CheckedOf.{CheckedOf}
use Rattle.factor_chain.specs.declared.credentials.Look.{Look}
use Rattle.factor_chain.specs.declared.evidence_list.Evidence.{Evidence}
use Rattle.account_history.specs.Preparing.{PreparedOf}
use Rattle.account_history.specs.declared.entries.Reply.{Reply}
use Rattle.account_history.specs.declared.entries.StmtReply.{StmtReply}
use Rattle.account_history.specs.declared.entries.Who.{Who}
use Rattle.interaction.specs.Talk.{Says}
use Rattle.session_talk.specs.Logins.{method_of, switched}
use Rattle.session_talk.specs.Talk.{Begins, Own, SessionTalk, on_checked, on_drawn, on_locked, on_look, on_prepared, on_ran, on_ran_locked, on_settled, on_start, unasked}
use Rattle.session_talk.specs.Texts.{switch_payload}
use Rattle.session_talk.specs.Turns.{takes}
use Rattle.session_talk.specs.declared.actions.Ask.TheVariants as ask
use Rattle.session_talk.specs.declared.attempts.Attempting.{Attempting}
use Rattle.session_talk.specs.declared.inputs.Input.{Input}
use Rattle.session_talk.specs.declared.inputs.Input.TheVariants as input
use Rattle.stmt_rules.specs.declared.statement.Statement.{Statement}
use Rattle.session_talk.proofs.Asking.{untrue}

-- what a client that is told to switch is sent, and what follows
abbrev pub switched_to : Attempting → Look → (nonce : List ℕ) → SessionTalk
switched_to a look nonce = Says (switch_payload (method_of look) nonce) (switched a look nonce)

-- ## On any answer, where it also holds of a session that is given what it didn't ask for

module _ (P : SessionTalk → Type 0) (none : P unasked) where
  pub start_all : (k : List ℕ → SessionTalk) → ((nonce : List ℕ) → P (k nonce)) → (given : Input) → P (on_start k given)
  unfolding on_start
  start_all k all (input.Start nonce) = all nonce
  start_all k all _ = none

  pub drawn_all : (k : List ℕ → SessionTalk) → ((nonce : List ℕ) → P (k nonce)) → (given : Input) → P (on_drawn k given)
  unfolding on_drawn
  drawn_all k all (input.Drawn nonce) = all nonce
  drawn_all k all _ = none

  pub look_all : (k : Look → SessionTalk) → ((look : Look) → P (k look)) → (given : Input) → P (on_look k given)
  unfolding on_look
  look_all k all (input.Looked look) = all look
  look_all k all _ = none

  pub checked_all : (t : SessionTalk) → P t → (given : Input) → P (on_checked t given)
  unfolding on_checked
  checked_all t is (input.Checked checked) = is
  checked_all t is _ = none

  pub settled_all : (stale : SessionTalk) (k : Reply → SessionTalk) → P stale → ((reply : Reply) → P (k reply)) → (given : Input) → P (on_settled stale k given)
  unfolding on_settled
  settled_all stale k is all (input.Stale evidences) = is
  settled_all stale k is all (input.Settled reply) = all reply
  settled_all stale k is all _ = none

  pub locked_all : (k : Reply → SessionTalk) → ((reply : Reply) → P (k reply)) → (given : Input) → P (on_locked k given)
  unfolding on_locked
  locked_all k all (input.Settled reply) = all reply
  locked_all k all _ = none

  pub prepared_all : (t : SessionTalk) → P t → (given : Input) → P (on_prepared t given)
  unfolding on_prepared
  prepared_all t is (input.Prepared prepared) = is
  prepared_all t is _ = none

  pub ran_all : (stale : SessionTalk) (k : StmtReply → SessionTalk) → P stale → ((reply : StmtReply) → P (k reply)) → (given : Input) → P (on_ran stale k given)
  unfolding on_ran
  ran_all stale k is all (input.StaleStatement statement) = is
  ran_all stale k is all (input.Ran reply) = all reply
  ran_all stale k is all _ = none

  pub ran_locked_all : (k : StmtReply → SessionTalk) → ((reply : StmtReply) → P (k reply)) → (given : Input) → P (on_ran_locked k given)
  unfolding on_ran_locked
  ran_locked_all k all (input.Ran reply) = all reply
  ran_locked_all k all _ = none

-- ## On each answer that the question takes

module _ (P : Input → SessionTalk → Type 0) where
  pub start_taken : (k : List ℕ → SessionTalk) → ((nonce : List ℕ) → P (input.Start nonce) (k nonce)) →
      (given : Input) → IsTrue (takes Begins given) → P given (on_start k given)
  unfolding on_start
  start_taken k all (input.Start nonce) is = all nonce
  start_taken k all _ is = absurd (untrue is)

  pub drawn_taken : (k : List ℕ → SessionTalk) → ((nonce : List ℕ) → P (input.Drawn nonce) (k nonce)) →
      (given : Input) → IsTrue (takes (Own ask.Draw) given) → P given (on_drawn k given)
  unfolding on_drawn
  drawn_taken k all (input.Drawn nonce) is = all nonce
  drawn_taken k all _ is = absurd (untrue is)

  pub look_taken : (who : Who) (k : Look → SessionTalk) → ((look : Look) → P (input.Looked look) (k look)) →
      (given : Input) → IsTrue (takes (Own (ask.Observe who)) given) → P given (on_look k given)
  unfolding on_look
  look_taken who k all (input.Looked look) is = all look
  look_taken who k all _ is = absurd (untrue is)

  pub renewed_taken : (who : Who) (k : Look → SessionTalk) → ((look : Look) → P (input.Looked look) (k look)) →
      (given : Input) → IsTrue (takes (Own (ask.Renew who)) given) → P given (on_look k given)
  unfolding on_look
  renewed_taken who k all (input.Looked look) is = all look
  renewed_taken who k all _ is = absurd (untrue is)

  pub checked_taken : (look : Look) (evidences : List Evidence) (t : SessionTalk) → ((checked : CheckedOf) → P (input.Checked checked) t) →
      (given : Input) → IsTrue (takes (Own (ask.Check look evidences)) given) → P given (on_checked t given)
  unfolding on_checked
  checked_taken look evidences t all (input.Checked checked) is = all checked
  checked_taken look evidences t all _ is = absurd (untrue is)

  pub settled_taken : (checked : CheckedOf) (flags : ℕ) (stale : SessionTalk) (k : Reply → SessionTalk) →
      ((evidences : List Evidence) → P (input.Stale evidences) stale) → ((reply : Reply) → P (input.Settled reply) (k reply)) →
      (given : Input) → IsTrue (takes (Own (ask.Settle checked flags)) given) → P given (on_settled stale k given)
  unfolding on_settled
  settled_taken checked flags stale k late all (input.Stale evidences) is = late evidences
  settled_taken checked flags stale k late all (input.Settled reply) is = all reply
  settled_taken checked flags stale k late all _ is = absurd (untrue is)

  pub locked_taken : (user : List ℕ) (evidences : List Evidence) (flags : ℕ) (k : Reply → SessionTalk) →
      ((reply : Reply) → P (input.Settled reply) (k reply)) →
      (given : Input) → IsTrue (takes (Own (ask.SettleLocked user evidences flags)) given) → P given (on_locked k given)
  unfolding on_locked
  locked_taken user evidences flags k all (input.Settled reply) is = all reply
  locked_taken user evidences flags k all _ is = absurd (untrue is)

  pub prepared_taken : (look : Look) (statement : Statement) (salt : List ℕ) (actor : ℕ) (t : SessionTalk) →
      ((prepared : PreparedOf) → P (input.Prepared prepared) t) →
      (given : Input) → IsTrue (takes (Own (ask.Prepare look statement salt actor)) given) → P given (on_prepared t given)
  unfolding on_prepared
  prepared_taken look statement salt actor t all (input.Prepared prepared) is = all prepared
  prepared_taken look statement salt actor t all _ is = absurd (untrue is)

  pub ran_taken : (prepared : PreparedOf) (actor : ℕ) (stale : SessionTalk) (k : StmtReply → SessionTalk) →
      ((statement : Statement) → P (input.StaleStatement statement) stale) → ((reply : StmtReply) → P (input.Ran reply) (k reply)) →
      (given : Input) → IsTrue (takes (Own (ask.Commit prepared actor)) given) → P given (on_ran stale k given)
  unfolding on_ran
  ran_taken prepared actor stale k late all (input.StaleStatement statement) is = late statement
  ran_taken prepared actor stale k late all (input.Ran reply) is = all reply
  ran_taken prepared actor stale k late all _ is = absurd (untrue is)

  pub ran_locked_taken : (statement : Statement) (salt : List ℕ) (actor : ℕ) (k : StmtReply → SessionTalk) →
      ((reply : StmtReply) → P (input.Ran reply) (k reply)) →
      (given : Input) → IsTrue (takes (Own (ask.CommitLocked statement salt actor)) given) → P given (on_ran_locked k given)
  unfolding on_ran_locked
  ran_locked_taken statement salt actor k all (input.Ran reply) is = all reply
  ran_locked_taken statement salt actor k all _ is = absurd (untrue is)

  pub ran_plain_taken : (statement : Statement) (actor : ℕ) (k : StmtReply → SessionTalk) →
      ((reply : StmtReply) → P (input.Ran reply) (k reply)) →
      (given : Input) → IsTrue (takes (Own (ask.CommitPlain statement actor)) given) → P given (on_ran_locked k given)
  unfolding on_ran_locked
  ran_plain_taken statement actor k all (input.Ran reply) is = all reply
  ran_plain_taken statement actor k all _ is = absurd (untrue is)
