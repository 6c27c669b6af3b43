-- No refusal of a statement is the keeper's fault, so a reply tells whether the keeper was called, and whether it failed.
use Rattle.std.proofs.Common.{◌≡◌, refl, ap, sym, ◌∙◌, ℕ, Bool, true, false, not, ◌&&◌, ◌||◌, if◌then◌else◌, List, [], ◌∷◌, Option, Some, None}
use Rattle.std.specs.Prelude.{find, max, option_map}
use Rattle.lg_base.specs.declared.errors.Code.{Code}
use Rattle.lg_base.specs.declared.errors.Code.TheVariants as code
use Rattle.stmt_rules.specs.declared.statement.Statement.{Statement}
use Rattle.stmt_rules.specs.declared.statement.Statement.TheVariants.{Create, Alter, Drop, Flush, Grant, Revoke}
use Rattle.stmt_rules.specs.declared.statement.Target.TheVariants.{Own, Named}
use Rattle.account_rules.specs.declared.accounts.Account.{Account}
use Rattle.account_rules.specs.declared.accounts.Settings.{Settings}
use Rattle.account_history.specs.declared.entries.StmtReply.{StmtReply}
use Rattle.account_history.specs.declared.entries.StmtReply.TheVariants.{Done, Refused}
use Rattle.account_history.specs.Answers.{reply_to, statement_refusal}
use Rattle.account_history.specs.Histories.{History, moment, start_of}
use Rattle.account_history.specs.Legal.{calls_keeper, changes_accounts}
use Rattle.account_history.specs.Naming.{has_id, or_else}
use Rattle.account_history.specs.Records.{records}
use Rattle.account_history.specs.Targets.{of_account, target_of}
use Rattle.factor_chain.specs.Checking.{is_empty}
use Rattle.account_history.specs.Privileges.{Need, Nothing_needed, Either_needed, Create_user_needed, lacking, need}
use Rattle.account_history.specs.Refusals.{auth_of, changes_method, first_of, has_bad_label, has_bad_user, is_bad_password, is_overfull, is_reused, misfits_target, misplaced, new_password, options_fit, options_of, refusals, retains, unknown_method, unprivileged, when}
use Rattle.account_machine.specs.Committing.{is_fault}
use Rattle.world_table.specs.Statements.{is_keeper_fault, was_called}

-- it isn't the keeper's fault
abbrev pub IsPlain : Option Code → Type 0
IsPlain None = Unit {0}
IsPlain (Some c) = is_keeper_fault (Refused c) ≡ false

plain-when : (holds : Bool) (c : Code) → is_keeper_fault (Refused c) ≡ false → IsPlain (when holds c)
plain-when true c e = e
plain-when false c e = tt

plain-method : (name : Option (List ℕ)) → IsPlain (option_map code.NoMethod name)
plain-method None = tt
plain-method (Some name) = refl

plain-if : (test : Bool) (c : Code) → is_keeper_fault (Refused c) ≡ false → IsPlain (if test then None else Some c)
plain-if true c e = tt
plain-if false c e = e

plain-lacking : (a : Account) (n : Need) → IsPlain (lacking a n)
plain-lacking a Nothing_needed = tt
plain-lacking a Either_needed = plain-if (a.create_user || a.password_admin) code.NeedPasswordAdmin refl
plain-lacking a Create_user_needed = plain-if a.create_user code.NeedCreateUser refl

plain-unprivileged : (actor : ℕ) (own target : Option Account) (st : Statement) → IsPlain (unprivileged actor own target st)
plain-unprivileged actor None target st = refl
plain-unprivileged actor (Some own) target st = plain-lacking own (need (of_account (has_id actor) target) st)

plain-misplaced : (st : Statement) (target : Option Account) → IsPlain (misplaced st target)
plain-misplaced (Create name auth factors options) None = tt
plain-misplaced (Create name auth factors options) (Some a) = refl
plain-misplaced (Alter Own change options) None = refl
plain-misplaced (Alter (Named name) change options) None = refl
plain-misplaced (Alter target change options) (Some a) = tt
plain-misplaced (Drop name) None = refl
plain-misplaced (Drop name) (Some a) = tt
plain-misplaced Flush None = tt
plain-misplaced Flush (Some a) = tt
plain-misplaced (Grant privileges name) None = refl
plain-misplaced (Grant privileges name) (Some a) = tt
plain-misplaced (Revoke privileges name) None = refl
plain-misplaced (Revoke privileges name) (Some a) = tt

plain-or : (first rest : Option Code) → IsPlain first → IsPlain rest → IsPlain (or_else first rest)
plain-or None rest f r = r
plain-or (Some c) rest f r = f

abbrev ArePlain : List (Option Code) → Type 0
ArePlain [] = Unit {0}
ArePlain (refusal ∷ refusals) = IsPlain refusal × ArePlain refusals

plain-first : (all : List (Option Code)) → ArePlain all → IsPlain (first_of all)
plain-first [] plain = tt
plain-first (refusal ∷ more) (plain, rest) = plain-or refusal (first_of more) plain (plain-first more rest)

plain-refusals : (actor : ℕ) (own target : Option Account) (st : Statement) (settings : Settings) (now : ℕ) →
    ArePlain (refusals actor own target st settings now)
plain-refusals actor own target st settings now = (
  plain-unprivileged actor own target st,
  (
    plain-misplaced st target,
    (
      plain-when (has_bad_user st) code.NameLength refl,
      (
        plain-method (unknown_method st),
        (
          plain-when (misfits_target st target) code.FactorNumber refl,
          (
            plain-when (has_bad_label st) code.LabelLength refl,
            (
              plain-when (retains (auth_of st) && of_account (changes_method (auth_of st)) target) code.RetainMethod refl,
              (
                plain-when (retains (auth_of st) && of_account (λ a. is_empty a.primary) target) code.RetainEmpty refl,
                (
                  plain-when (is_bad_password (new_password st)) code.PasswordForm refl,
                  (
                    plain-when (not (options_fit (options_of st))) code.OutOfRange refl,
                    (
                      plain-when (of_account (is_reused st settings now) target) code.Reused refl,
                      (
                        plain-when (of_account (is_overfull st settings now) target) code.HistoryFull refl,
                        tt,
                      ),
                    ),
                  ),
                ),
              ),
            ),
          ),
        ),
      ),
    ),
  ),
)

plain-refusal : (h : History) (st : Statement) (actor reading : ℕ) → IsPlain (statement_refusal h st actor reading)
plain-refusal h st actor reading =
    let own : Option Account = find (has_id actor) (records h) in
    let target : Option Account = target_of (records h) st actor in
    let now : ℕ = max reading (moment h) in
    plain-first (refusals actor own target st (start_of h).settings now) (plain-refusals actor own target st (start_of h).settings now)

-- what a reply tells, where the statement is refused so
pub record Tells (refusal : Option Code) (st : Statement) (reply : StmtReply) : Type 0 where
  pub called : was_called reply st ≡ calls_keeper refusal st
  pub failed : is_keeper_fault reply ≡ is_fault refusal reply

refused-tells : (c : Code) (st : Statement) (reply : StmtReply) → is_keeper_fault (Refused c) ≡ false → reply ≡ Refused c → Tells (Some c) st reply
refused-tells c st reply plain e = record {
  called = ap (λ (r : StmtReply). was_called r st) e ∙ ap (λ (b : Bool). (false || b) && changes_accounts st) plain;
  failed = ap is_keeper_fault e ∙ plain;
}

unrefused-tells : (st : Statement) (reply : StmtReply) → reply ≡ reply_to None (is_fault None reply) → Tells None st reply
unrefused-tells st Done e = record { called = refl; failed = refl }
unrefused-tells st (Refused c) e = record {
  called = ap (λ (r : StmtReply). was_called r st) e;
  failed = ap is_keeper_fault e;
}

tells-by : (refusal : Option Code) (st : Statement) (reply : StmtReply) → IsPlain refusal → reply ≡ reply_to refusal (is_fault refusal reply) → Tells refusal st reply
tells-by None st reply plain e = unrefused-tells st reply e
tells-by (Some c) st reply plain e = refused-tells c st reply plain e

pub reply-tells : (h : History) (st : Statement) (actor reading : ℕ) (reply : StmtReply) →
    reply ≡ reply_to (statement_refusal h st actor reading) (is_fault (statement_refusal h st actor reading) reply) →
    Tells (statement_refusal h st actor reading) st reply
reply-tells h st actor reading reply e = tells-by (statement_refusal h st actor reading) st reply (plain-refusal h st actor reading) e
