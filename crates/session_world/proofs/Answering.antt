-- What a session is given is of the kind that it waits for.
use Rattle.std.proofs.Common.{◌≡◌, refl, ap, sym, ◌∙◌, subst, ℕ, zero, suc, ◌+◌, ◌/◌, ◌%◌, ◌<◌, true, IsTrue, List, [], ◌∷◌, arith}
use Rattle.std.specs.List.{list_all}
use Rattle.std.proofs.lemmas.Bool.{le-leb}
use Rattle.std.proofs.lemmas.List.Folds.{list_all-append}
use Rattle.factor_chain.specs.CheckedOf.{CheckedOf}
use Rattle.factor_chain.specs.declared.credentials.Look.{Look}
use Rattle.factor_chain.specs.declared.evidence_list.Evidence.{Evidence}
use Rattle.account_history.specs.declared.entries.Reply.{Reply}
use Rattle.account_history.specs.declared.entries.StmtReply.{StmtReply}
use Rattle.account_history.specs.Preparing.{PreparedOf}
use Rattle.stmt_rules.specs.declared.statement.Statement.{Statement}
use Rattle.account_history.specs.declared.entries.Who.{Who}
use Rattle.session_talk.proofs.Asking.{asks_are_answered}
use Rattle.session_talk.specs.Logins as login
use Rattle.session_talk.specs.Talk.{SessionTalk}
use Rattle.session_talk.specs.Turns.{Answers, IsBegun, asked, has_few_labels, is_answer, is_nonce, is_read, is_salt_byte}
use Rattle.session_talk.specs.declared.actions.Ask.{Ask}
use Rattle.session_talk.specs.declared.actions.Ask.TheVariants as ask
use Rattle.session_talk.specs.declared.inputs.Input.{Input}
use Rattle.session_talk.specs.declared.inputs.Input.TheVariants as input
use Rattle.world_table.specs.Drawing.{digits, drawn_nonce}
use Rattle.session_world.specs.Leading.{IsExecutionAsked, IsLookAsked}

-- ## Nonces and looks

digit_is_salt : (m : ℕ) → m < 10 → is_salt_byte (48 + m) ≡ true
digit_is_salt m h = rw (le-leb 46 (48 + m) (omega arith), le-leb (48 + m) 57 (omega arith)) refl

digits_are_salt : (size n : ℕ) → list_all is_salt_byte (digits size n) ≡ true
digits_are_salt zero n = refl
digits_are_salt (suc size) n =
    list_all-append is_salt_byte (digits size (n / 10)) ((48 + n % 10) ∷ [])
    ∙ rw (digits_are_salt size (n / 10), digit_is_salt (n % 10) (omega arith)) refl

-- the nonce of a draw is one
pub drawn_is_nonce : (nonce : List ℕ) (n : ℕ) → nonce ≡ drawn_nonce n → IsTrue (is_nonce nonce)
unfolding drawn_nonce
drawn_is_nonce nonce n is = ap is_nonce is ∙ digits_are_salt 20 n

-- ## Answers

answers_so : (next : ℕ) (t : SessionTalk) (a : Ask) (given : Input) → IsBegun t → asked next t ≡ a → Answers a given → IsTrue (is_answer t given)
answers_so next t a given begun asks answers =
    (asks_are_answered next t given begun (subst (λ (x : Ask). Answers x given) (sym asks) answers)).0

pub start_answers : (t : SessionTalk) (number : ℕ) (nonce : List ℕ) → t ≡ login.session number → IsTrue (is_answer t (input.Start nonce))
unfolding is_answer
start_answers t number nonce is = ap (λ (u : SessionTalk). is_answer u (input.Start nonce)) is

pub read_answers : (next : ℕ) (t : SessionTalk) (want : ℕ) (given : Input) → IsBegun t → asked next t ≡ ask.Read want → IsTrue (is_read given) →
    IsTrue (is_answer t given)
read_answers next t want given begun asks read = answers_so next t (ask.Read want) given begun asks read

pub draw_answers : (next : ℕ) (t : SessionTalk) (nonce : List ℕ) (n : ℕ) → IsBegun t → asked next t ≡ ask.Draw → nonce ≡ drawn_nonce n →
    IsTrue (is_answer t (input.Drawn nonce))
draw_answers next t nonce n begun asks is = answers_so next t ask.Draw (input.Drawn nonce) begun asks (drawn_is_nonce nonce n is, tt)

pub check_answers : (next : ℕ) (t : SessionTalk) (look : Look) (evidences : List Evidence) (checked : CheckedOf) → IsBegun t → asked next t ≡ ask.Check look evidences →
    checked ≡ record { look = look; evidences = evidences } → IsTrue (is_answer t (input.Checked checked))
check_answers next t look evidences checked begun asks is = answers_so next t (ask.Check look evidences) (input.Checked checked) begun asks (refl, is)

pub look_answers : (next : ℕ) (t : SessionTalk) (who : Who) (look : Look) → IsBegun t → IsLookAsked (asked next t) who → IsTrue (has_few_labels look.in_force) →
    IsTrue (is_answer t (input.Looked look))
look_answers next t who look begun is_asked few = by_ask (asked next t) refl is_asked where
  by_ask : (a : Ask) → asked next t ≡ a → IsLookAsked a who → IsTrue (is_answer t (input.Looked look))
  by_ask (ask.Observe whose) asks is = answers_so next t (ask.Observe whose) (input.Looked look) begun asks (few, tt)
  by_ask (ask.Renew whose) asks is = answers_so next t (ask.Renew whose) (input.Looked look) begun asks (few, tt)
  by_ask _ asks is = absurd is

pub stale_answers : (next : ℕ) (t : SessionTalk) (checked : CheckedOf) (flags : ℕ) (evidences : List Evidence) → IsBegun t → asked next t ≡ ask.Settle checked flags →
    evidences ≡ checked.evidences → IsTrue (is_answer t (input.Stale evidences))
stale_answers next t checked flags evidences begun asks is = answers_so next t (ask.Settle checked flags) (input.Stale evidences) begun asks (refl, is)

pub settled_answers : (next : ℕ) (t : SessionTalk) (checked : CheckedOf) (flags : ℕ) (reply : Reply) → IsBegun t → asked next t ≡ ask.Settle checked flags →
    IsTrue (is_answer t (input.Settled reply))
settled_answers next t checked flags reply begun asks = answers_so next t (ask.Settle checked flags) (input.Settled reply) begun asks (refl, tt)

pub locked_answers : (next : ℕ) (t : SessionTalk) (user : List ℕ) (evidences : List Evidence) (flags : ℕ) (reply : Reply) → IsBegun t →
    asked next t ≡ ask.SettleLocked user evidences flags → IsTrue (is_answer t (input.Settled reply))
locked_answers next t user evidences flags reply begun asks = answers_so next t (ask.SettleLocked user evidences flags) (input.Settled reply) begun asks (refl, tt)

-- ## Statements

pub prepared_answers : (next : ℕ) (t : SessionTalk) (look : Look) (statement : Statement) (salt : List ℕ) (actor : ℕ) (prepared : PreparedOf) → IsBegun t →
    asked next t ≡ ask.Prepare look statement salt actor → prepared ≡ record { look = look; statement = statement; salt = salt; actor = actor } →
    IsTrue (is_answer t (input.Prepared prepared))
prepared_answers next t look statement salt actor prepared begun asks is =
    answers_so next t (ask.Prepare look statement salt actor) (input.Prepared prepared) begun asks (refl, is)

pub stale_statement_answers : (next : ℕ) (t : SessionTalk) (prepared : PreparedOf) (actor : ℕ) (statement : Statement) → IsBegun t →
    asked next t ≡ ask.Commit prepared actor → statement ≡ prepared.statement → IsTrue (is_answer t (input.StaleStatement statement))
stale_statement_answers next t prepared actor statement begun asks is =
    answers_so next t (ask.Commit prepared actor) (input.StaleStatement statement) begun asks (refl, is)

pub committed_answers : (next : ℕ) (t : SessionTalk) (prepared : PreparedOf) (actor : ℕ) (reply : StmtReply) → IsBegun t →
    asked next t ≡ ask.Commit prepared actor → IsTrue (is_answer t (input.Ran reply))
committed_answers next t prepared actor reply begun asks = answers_so next t (ask.Commit prepared actor) (input.Ran reply) begun asks (refl, tt)

pub executed_answers : (next : ℕ) (t : SessionTalk) (statement : Statement) (salt : List ℕ) (actor : ℕ) (reply : StmtReply) → IsBegun t →
    IsExecutionAsked (asked next t) statement salt actor → IsTrue (is_answer t (input.Ran reply))
executed_answers next t statement salt actor reply begun is_asked = by_ask (asked next t) refl is_asked where
  by_ask : (a : Ask) → asked next t ≡ a → IsExecutionAsked a statement salt actor → IsTrue (is_answer t (input.Ran reply))
  by_ask (ask.CommitLocked what salted asking) asks is = answers_so next t (ask.CommitLocked what salted asking) (input.Ran reply) begun asks (refl, tt)
  by_ask (ask.CommitPlain what asking) asks is = answers_so next t (ask.CommitPlain what asking) (input.Ran reply) begun asks (refl, tt)
  by_ask _ asks is = absurd is
