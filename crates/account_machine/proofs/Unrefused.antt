-- What is known of a statement that isn't refused.
use Rattle.std.proofs.Common.{◌≡◌, refl, ap, sym, ◌∙◌, ℕ, zero, suc, ◌≤◌, List, [], ◌∷◌, find, length, drop, Bool, true, false, not, ◌||◌, nat_le, leb-true, max, Option, Some, None, is_some}
use Rattle.lg_base.specs.declared.errors.Code.{Code}
use Rattle.lg_base.specs.declared.errors.Code.TheVariants as code
use Rattle.account_rules.specs.declared.accounts.Account.{Account}
use Rattle.stmt_rules.specs.declared.statement.Statement.{Statement}
use Rattle.stmt_rules.specs.declared.statement.Statement.TheVariants.{Create, Alter, Drop, Flush, Grant, Revoke}
use Rattle.account_history.specs.Answers.{statement_refusal}
use Rattle.account_history.specs.Histories.{History, moment, start_of}
use Rattle.account_history.specs.Naming.{has_id, or_else}
use Rattle.account_history.specs.Records.{records}
use Rattle.account_history.specs.Refusals.{first_of, has_zero, is_bad_password, misplaced, new_password, options_fit, options_of, refusals, when}
use Rattle.account_history.specs.Targets.{is_named_by, target_of}
use Rattle.account_machine.specs.Looks.{account_at, accounts_of}
use Rattle.account_machine.specs.Targets.{place_of_target}
use Rattle.account_machine.specs.declared.rows.Row.{Row}
use Rattle.account_machine.proofs.Found.{found-in}

none-first : (a b : Option Code) → or_else a b ≡ None → a ≡ None
none-first None b e = refl
none-first (Some x) b e = absurd (cc)

none-rest : (a b : Option Code) → or_else a b ≡ None → b ≡ None
none-rest None b e = e
none-rest (Some x) b e = absurd (cc)

fails : (holds : Bool) (x : Code) → when holds x ≡ None → holds ≡ false
fails true x e = absurd (cc)
fails false x e = refl

-- where none of the refusals holds, none of those behind the first ones does
rest-none : (n : ℕ) (xs : List (Option Code)) → first_of xs ≡ None → first_of (drop n xs) ≡ None
rest-none zero xs e = e
rest-none (suc n) [] e = e
rest-none (suc n) (x ∷ xs) e = rest-none n xs (none-rest x (first_of xs) e)

not-false : (b : Bool) → not b ≡ false → b ≡ true
not-false true e = refl
not-false false e = absurd (cc)

neither : (b c : Bool) → (b || c) ≡ false → b ≡ false
neither true c e = absurd (cc)
neither false c e = refl

abbrev all-of : History → Statement → (actor reading : ℕ) → List (Option Code)
all-of h st actor reading =
    refusals actor (find (has_id actor) (records h)) (target_of (records h) st actor) st (start_of h).settings (max reading (moment h))

good-password : (password : List ℕ) → is_bad_password password ≡ false → length password ≤ 256
good-password password e = leb-true (length password) 256 (not-false (nat_le (length password) 256) (neither (not (nat_le (length password) 256)) (has_zero password) e))

-- the new password has at most 256 bytes
pub short-password : (h : History) (st : Statement) (actor reading : ℕ) → statement_refusal h st actor reading ≡ None → length (new_password st) ≤ 256
short-password h st actor reading e =
    let rest : first_of (drop 8 (all-of h st actor reading)) ≡ None = rest-none 8 (all-of h st actor reading) e in
    good-password (new_password st) (fails (is_bad_password (new_password st)) code.PasswordForm (none-first _ (first_of (drop 9 (all-of h st actor reading))) rest))

-- the numbers of the options are in their ranges
pub fitting-options : (h : History) (st : Statement) (actor reading : ℕ) → statement_refusal h st actor reading ≡ None → options_fit (options_of st) ≡ true
fitting-options h st actor reading e =
    let rest : first_of (drop 9 (all-of h st actor reading)) ≡ None = rest-none 9 (all-of h st actor reading) e in
    not-false (options_fit (options_of st)) (fails (not (options_fit (options_of st))) code.OutOfRange (none-first _ (first_of (drop 10 (all-of h st actor reading))) rest))

-- a new account has no other of its name, and each other statement has an account that it is about
pub well-placed : (h : History) (st : Statement) (actor reading : ℕ) → statement_refusal h st actor reading ≡ None
    → misplaced st (target_of (records h) st actor) ≡ None
well-placed h st actor reading e =
    let rest : first_of (drop 1 (all-of h st actor reading)) ≡ None = rest-none 1 (all-of h st actor reading) e in
    none-first (misplaced st (target_of (records h) st actor)) (first_of (drop 2 (all-of h st actor reading))) rest

-- ## The account that a statement is about

-- the statement changes or drops an account that stands
abbrev pub is_about_one : Statement → Bool
is_about_one (Create name auth factors options) = false
is_about_one (Alter target change options) = true
is_about_one (Drop name) = true
is_about_one Flush = false
is_about_one (Grant privileges name) = true
is_about_one (Revoke privileges name) = true

pub one-found : (st : Statement) (found : Option Account) → is_about_one st ≡ true → misplaced st found ≡ None → is_some found ≡ true
one-found st (Some a) about e = refl
one-found (Create name auth factors options) None about e = absurd (cc)
one-found (Alter target change options) None about e = absurd (cc)
one-found (Drop name) None about e = absurd (cc)
one-found Flush None about e = absurd (cc)
one-found (Grant privileges name) None about e = absurd (cc)
one-found (Revoke privileges name) None about e = absurd (cc)

-- so it has a place
pub no-place : (rows : List Row) (st : Statement) (actor : ℕ) → is_some (target_of (accounts_of rows) st actor) ≡ true
    → place_of_target rows st actor ≡ None → ⊥
no-place rows st actor found e =
    let none : target_of (accounts_of rows) st actor ≡ None =
    sym (found-in rows (is_named_by st actor)) ∙ ap (λ (place : Option ℕ). account_at rows place) e in
    let same : false ≡ true = ap (λ (a : Option Account). is_some a) (sym none) ∙ found in
    cc
