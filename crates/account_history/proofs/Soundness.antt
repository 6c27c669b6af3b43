-- A legal history keeps sound accounts: names, passwords and further factors, each by the effect of one statement.
use Rattle.std.proofs.Common.{◌≡◌, refl, ap, sym, ◌∙◌, ℕ, ◌+◌, ◌-◌, ◌<◌, ◌≤◌, max, ◌==◌, List, [], ◌∷◌, ◌++◌, length, map, take, slice_set, find, cond, Bool, true, false, not, ◌&&◌, ◌||◌, if◌then◌else◌, Option, Some, None, IfSome, All, subst, arith, eqb-true, ne_eqb, length-append, length-set}
use Rattle.std.specs.List.{AllByRecursion}
use Rattle.std.specs.Str.{bytes_eq}
use Rattle.std.proofs.lemmas.List.{length-map, length-take}
use Rattle.std.proofs.lemmas.List.Elements.{All-from_recursion, All-push, recursion_from_All}
use Rattle.std.proofs.lemmas.Slice.Eq.{bytes_eq-Decides}
use Rattle.lg_base.specs.declared.names.Host.{Host}
use Rattle.lg_base.specs.declared.names.Host.TheVariants as host
use Rattle.lg_base.specs.declared.names.Name.{Name}
use Rattle.factor_chain.specs.Checking.{is_empty}
use Rattle.factor_chain.specs.declared.credentials.Stored.{Stored}
use Rattle.account_rules.specs.declared.accounts.Account.{Account}
use Rattle.account_rules.specs.declared.accounts.Settings.{Settings}
use Rattle.stmt_rules.specs.declared.statement.Auth.{Auth}
use Rattle.stmt_rules.specs.declared.statement.Change.{Change}
use Rattle.stmt_rules.specs.declared.statement.Change.TheVariants.{Nothing, Password, Discard, Add, Modify, DropFactor}
use Rattle.stmt_rules.specs.declared.statement.FactorAuth.{FactorAuth}
use Rattle.stmt_rules.specs.declared.statement.Options.{Options}
use Rattle.stmt_rules.specs.declared.statement.Statement.{Statement}
use Rattle.stmt_rules.specs.declared.statement.Statement.TheVariants.{Create, Alter, Drop, Flush, Grant, Revoke}
use Rattle.account_history.specs.declared.entries.Entry.{Entry}
use Rattle.account_history.specs.declared.entries.Entry.TheVariants.{Observed, Attempted, Executed}
use Rattle.account_history.specs.Effects.{altered, auth_or_none, begun_account, changed, created, effect_of, expired_without, granted, revoked, with_changed, without}
use Rattle.account_history.specs.Given.{Given, given, given_after, given_in_change, greatest_given, is_done, secondary_id}
use Rattle.account_history.specs.Histories.{History, From, ◌▹◌, after_entries, moment, start_of}
use Rattle.account_history.specs.Legal.{IsLegal}
use Rattle.account_history.specs.Naming.{has_id, is_named, same_host}
use Rattle.account_history.specs.Numbers.{Rise, RiseTo}
use Rattle.account_history.specs.Passwords.{same_method, secondary_after, with_password}
use Rattle.account_history.specs.Records.{records}
use Rattle.account_history.specs.Refusals.{misfits, misfits_target, misplaced, retains}
use Rattle.account_history.specs.Sound.{AccountsAreSound, AddsAtMostThird, AreSound, AreUpTo, AreWritten, HasFewLabels, IsWritten, NamesDiffer, PasswordsStayGone, has_password, once_if, uses, uses_in}
use Rattle.account_history.specs.Targets.{is_target, of_account, target_of}
use Rattle.account_history.proofs.Accepted.{IsAccepted, done-accepted}
use Rattle.account_history.proofs.Numbered.{given-more-in, gone-changed, gone-created, gone-without, numbers-rise, passed, rise-effect, rise-of}
use Rattle.account_history.proofs.Unchanged.{same-name}

-- ## What holds of each account, through a change of one

pub all-changed : (P : Account → Type 0) (test : Account → Bool) (change : Account → Account) (accounts : List Account) → AllByRecursion P accounts
    → IfSome (find test accounts) (λ a. P a → P (change a)) → AllByRecursion P (with_changed test change accounts)
all-changed P test change [] all keeps = tt
all-changed P test change (a ∷ accounts) all keeps = cases (test a) keeps (all-changed P test change accounts all.1) where
  cases : (b : Bool) → IfSome (cond b (Some a) (find test accounts)) (λ x. P x → P (change x))
      → (IfSome (find test accounts) (λ x. P x → P (change x)) → AllByRecursion P (with_changed test change accounts))
      → AllByRecursion P (cond b (change a ∷ accounts) (a ∷ with_changed test change accounts))
  cases true keeps later = (keeps all.0, all.1)
  cases false keeps later = (all.0, later keeps)

pub all-without : (P : Account → Type 0) (test : Account → Bool) (accounts : List Account) → AllByRecursion P accounts → AllByRecursion P (without test accounts)
all-without P test [] all = tt
all-without P test (a ∷ accounts) all = cases (test a) (all-without P test accounts all.1) where
  cases : (b : Bool) → AllByRecursion P (without test accounts) → AllByRecursion P (cond b accounts (a ∷ without test accounts))
  cases true later = all.1
  cases false later = (all.0, later)

-- what a test of the account that is found excludes
pub if-found : (P : Account → Type 0) (refused : Account → Bool) (change : Account → Account) (found : Option Account) → of_account refused found ≡ false
    → ((a : Account) → refused a ≡ false → P a → P (change a)) → IfSome found (λ a. P a → P (change a))
if-found P refused change None e keeps = tt
if-found P refused change (Some a) e keeps = keeps a e

-- ## Names

same-bytes : (x y : List ℕ) → bytes_eq x y ≡ bytes_eq y x
same-bytes x y = cases (bytes_eq x y) (bytes_eq y x) refl refl where
  cases : (b c : Bool) → bytes_eq x y ≡ b → bytes_eq y x ≡ c → b ≡ c
  cases true true e f = refl
  cases false false e f = refl
  cases true false e f = let back : bytes_eq y x ≡ true = (bytes_eq-Decides y x).1 (sym ((bytes_eq-Decides x y).0 e)) in absurd (cc)
  cases false true e f = let there : bytes_eq x y ≡ true = (bytes_eq-Decides x y).1 (sym ((bytes_eq-Decides y x).0 f)) in absurd (cc)

hosts-same : (h k : Host) → same_host h k ≡ same_host k h
hosts-same host.Localhost host.Localhost = refl
hosts-same host.Localhost host.Any = refl
hosts-same host.Any host.Localhost = refl
hosts-same host.Any host.Any = refl

-- an account has the name of another where the other has its name
pub named-back : (a b : Account) → is_named a.name b ≡ is_named b.name a
named-back a b =
    ap (λ x. x && same_host b.name.host a.name.host) (same-bytes b.name.user a.name.user)
    ∙ ap (λ x. bytes_eq a.name.user b.name.user && x) (hosts-same b.name.host a.name.host)

pub names-created : (a : Account) (accounts : List Account) → find (is_named a.name) accounts ≡ None → NamesDiffer accounts
    → NamesDiffer (accounts ++ a ∷ [])
names-created a [] e n = (refl, tt)
names-created a (b ∷ accounts) e n =
    let p = passed (is_named a.name) b accounts e in
    (gone-created (is_named b.name) a accounts (named-back b a ∙ p.0) n.0, names-created a accounts p.1 n.1)

names-changed : (test : Account → Bool) (change : Account → Account) → ((a : Account) → (change a).name ≡ a.name)
    → (accounts : List Account) → NamesDiffer accounts → NamesDiffer (with_changed test change accounts)
names-changed test change same [] n = tt
names-changed test change same (a ∷ accounts) n = cases (test a) (names-changed test change same accounts n.1) where
  renamed : (b : Account) → is_named a.name (change b) ≡ is_named a.name b
  renamed b = ap (λ (m : Name). bytes_eq m.user a.name.user && same_host m.host a.name.host) (same b)

  cases : (b : Bool) → NamesDiffer (with_changed test change accounts) → NamesDiffer (cond b (change a ∷ accounts) (a ∷ with_changed test change accounts))
  cases true later = (ap (λ (m : Name). find (is_named m) accounts) (same a) ∙ n.0, n.1)
  cases false later = (gone-changed (is_named a.name) test change renamed accounts n.0, later)

names-without : (test : Account → Bool) (accounts : List Account) → NamesDiffer accounts → NamesDiffer (without test accounts)
names-without test [] n = tt
names-without test (a ∷ accounts) n = cases (test a) (names-without test accounts n.1) where
  cases : (b : Bool) → NamesDiffer (without test accounts) → NamesDiffer (cond b accounts (a ∷ without test accounts))
  cases true later = n.1
  cases false later = (gone-without (is_named a.name) test accounts n.0, later)

-- a new account stands nowhere yet
not-placed : (name : Name) (auth : Option Auth) (factors : List FactorAuth) (options : Options) (found : Option Account)
    → misplaced (Create name auth factors options) found ≡ None → found ≡ None
not-placed name auth factors options None e = refl
not-placed name auth factors options (Some a) e = absurd (cc)

names-effect : (statement : Statement) (g : Given) (actor : ℕ) (salt : List ℕ) (now : ℕ) (accounts : List Account)
    → misplaced statement (target_of accounts statement actor) ≡ None → NamesDiffer accounts → NamesDiffer (effect_of statement g actor salt now accounts)
names-effect (Create name auth factors options) g actor salt now accounts e n =
    names-created (created g salt now name auth factors options) accounts (not-placed name auth factors options (find (is_named name) accounts) e) n
names-effect (Alter target change options) g actor salt now accounts e n =
    names-changed (is_target actor target) (altered g salt now change options) (same-name change (g.credential + 1) salt now) accounts n
names-effect (Drop name) g actor salt now accounts e n = names-without (is_named name) accounts n
names-effect Flush g actor salt now accounts e n = n
names-effect (Grant privileges name) g actor salt now accounts e n = names-changed (is_named name) (granted privileges) (λ a. refl) accounts n
names-effect (Revoke privileges name) g actor salt now accounts e n = names-changed (is_named name) (revoked privileges) (λ a. refl) accounts n

-- ## Passwords

uses-append : (id : ℕ) (accounts : List Account) (a : Account) → uses id (accounts ++ a ∷ []) ≡ uses id accounts + uses_in id a
uses-append id [] a = omega arith
uses-append id (b ∷ accounts) a = let later = uses-append id accounts a in omega arith

-- a change after which an account has a number so many times more often at most
uses-changed : (id more : ℕ) (test : Account → Bool) (change : Account → Account) → ((a : Account) → uses_in id (change a) ≤ uses_in id a + more)
    → (accounts : List Account) → uses id (with_changed test change accounts) ≤ uses id accounts + more
uses-changed id more test change few [] = omega arith
uses-changed id more test change few (a ∷ accounts) = cases (test a) (few a) (uses-changed id more test change few accounts) where
  cases : (b : Bool) → uses_in id (change a) ≤ uses_in id a + more → uses id (with_changed test change accounts) ≤ uses id accounts + more
      → uses id (cond b (change a ∷ accounts) (a ∷ with_changed test change accounts)) ≤ uses_in id a + uses id accounts + more
  cases true one later = omega arith
  cases false one later = omega arith

uses-without : (id : ℕ) (test : Account → Bool) (accounts : List Account) → uses id (without test accounts) ≤ uses id accounts
uses-without id test [] = omega arith
uses-without id test (a ∷ accounts) = cases (test a) (uses-without id test accounts) where
  cases : (b : Bool) → uses id (without test accounts) ≤ uses id accounts → uses id (cond b accounts (a ∷ without test accounts)) ≤ uses_in id a + uses id accounts
  cases true later = omega arith
  cases false later = omega arith

-- the secondary password after a new one is an old one or none
uses-secondary : (id : ℕ) (retain : Bool) (old a : Account) → once_if (has_password id (secondary_after retain old a)) ≤ uses_in id old
uses-secondary id retain old a = cases (is_empty a.primary || not (same_method a.method old.method)) retain where
  cases : (removed r : Bool) → once_if (has_password id (if removed then None else if r then Some (old.primary, old.primary_id) else old.secondary)) ≤ uses_in id old
  cases true r = omega arith
  cases false true = omega arith
  cases false false = omega arith

uses-password : (id new : ℕ) (salt : List ℕ) (now : ℕ) (auth : Auth) (a : Account) → uses_in id (with_password new salt now auth a) ≤ uses_in id a + once_if (new == id)
uses-password id new salt now auth a = let second = uses-secondary id auth.retain a (with_password new salt now auth a) in omega arith

-- one that isn't the new number
not-new : (new id : ℕ) → (new ≡ id → ⊥) → once_if (new == id) ≡ 0
not-new new id differ = ap once_if (ne_eqb new id differ)

uses-more : (id : ℕ) (change : Change) (g : Given) (salt : List ℕ) (now : ℕ) (a : Account)
    → uses_in id (changed change (g.credential + 1) salt now a) ≤ uses_in id a + once_if (g.credential + 1 == id)
uses-more id Nothing g salt now a = omega arith
uses-more id (Password auth) g salt now a = by auth.password (uses-password id (g.credential + 1) salt now auth a) where
  by : (password : Option (List ℕ)) → uses_in id (with_password (g.credential + 1) salt now auth a) ≤ uses_in id a + once_if (g.credential + 1 == id)
      → uses_in id (expired_without password (with_password (g.credential + 1) salt now auth a)) ≤ uses_in id a + once_if (g.credential + 1 == id)
  by None e = e
  by (Some password) e = e
uses-more id Discard g salt now a = omega arith
uses-more id (Add n factor) g salt now a = omega arith
uses-more id (Modify n factor) g salt now a = omega arith
uses-more id (DropFactor n) g salt now a = omega arith

uses-old : (id : ℕ) (change : Change) (g : Given) (salt : List ℕ) (now : ℕ) (a : Account) → (g.credential + 1 ≡ id → (given_in_change g change).credential < id)
    → uses_in id (changed change (g.credential + 1) salt now a) ≤ uses_in id a
uses-old id Nothing g salt now a old = omega arith
uses-old id (Password auth) g salt now a old =
    let most = uses-more id (Password auth) g salt now a in
    let none = not-new (g.credential + 1) id (λ e. let h = old e in absurd (omega arith)) in
    omega arith
uses-old id Discard g salt now a old = omega arith
uses-old id (Add n factor) g salt now a old = omega arith
uses-old id (Modify n factor) g salt now a old = omega arith
uses-old id (DropFactor n) g salt now a old = omega arith

-- without RETAIN an account that had no secondary password has none
secondary-none : (retain : Bool) (old a : Account) → retain ≡ false → old.secondary ≡ None → secondary_after retain old a ≡ None
secondary-none retain old a e none = cases (is_empty a.primary || not (same_method a.method old.method)) retain e where
  cases : (removed r : Bool) → r ≡ false → (if removed then None else if r then Some (old.primary, old.primary_id) else old.secondary) ≡ None
  cases true r e = refl
  cases false true e = absurd (cc)
  cases false false e = none

-- the secondary password of a new account
no-second : (auth : Option Auth) (g : Given) (salt : List ℕ) (now : ℕ) (name : Name) → retains auth ≡ false
    → secondary_after (auth_or_none auth).retain (begun_account (g.account + 1) name)
    (with_password (g.credential + 1) salt now (auth_or_none auth) (begun_account (g.account + 1) name)) ≡ None
no-second None g salt now name e =
    let begun : Account = begun_account (g.account + 1) name in
    secondary-none false begun (with_password (g.credential + 1) salt now (auth_or_none None) begun) refl refl
no-second (Some auth) g salt now name e =
    let begun : Account = begun_account (g.account + 1) name in
    secondary-none auth.retain begun (with_password (g.credential + 1) salt now auth begun) e refl

-- a new account has the next number of a password once at most, and no other
abbrev Creates : ℕ → Given → List ℕ → ℕ → Statement → Type 0
Creates id g salt now (Create name auth factors options) = uses_in id (created g salt now name auth factors options) ≤ once_if (g.credential + 1 == id)
Creates id g salt now (Alter target change options) = Unit {0}
Creates id g salt now (Drop name) = Unit {0}
Creates id g salt now Flush = Unit {0}
Creates id g salt now (Grant privileges name) = Unit {0}
Creates id g salt now (Revoke privileges name) = Unit {0}

creates-written : (id : ℕ) (g : Given) (salt : List ℕ) (now : ℕ) (statement : Statement) → IsWritten statement → Creates id g salt now statement
creates-written id g salt now (Create name auth factors options) w =
    let none = ap (λ second. once_if (has_password id second)) (no-second auth g salt now name w.0) in omega arith
creates-written id g salt now (Alter target change options) w = tt
creates-written id g salt now (Drop name) w = tt
creates-written id g salt now Flush w = tt
creates-written id g salt now (Grant privileges name) w = tt
creates-written id g salt now (Revoke privileges name) w = tt

creates-above : (id : ℕ) (g : Given) (salt : List ℕ) (now : ℕ) (statement : Statement) → 0 < id → Creates id g salt now statement
creates-above id g salt now (Create name auth factors options) above =
    let most = uses-password id (g.credential + 1) salt now (auth_or_none auth) (begun_account (g.account + 1) name) in
    let none = not-new 0 id (λ e. absurd (omega arith)) in omega arith
creates-above id g salt now (Alter target change options) above = tt
creates-above id g salt now (Drop name) above = tt
creates-above id g salt now Flush above = tt
creates-above id g salt now (Grant privileges name) above = tt
creates-above id g salt now (Revoke privileges name) above = tt

module _ (id : ℕ) (g : Given) (actor : ℕ) (salt : List ℕ) (now : ℕ) (accounts : List Account) where
  -- a statement gives the next number once at most
  uses-next : (statement : Statement) → Creates id g salt now statement
      → uses id (effect_of statement g actor salt now accounts) ≤ uses id accounts + once_if (g.credential + 1 == id)
  uses-next (Create name auth factors options) c =
      let one = uses-append id accounts (created g salt now name auth factors options) in omega arith
  uses-next (Alter target change options) c =
      uses-changed id (once_if (g.credential + 1 == id)) (is_target actor target) (altered g salt now change options) (uses-more id change g salt now) accounts
  uses-next (Drop name) c = let less = uses-without id (is_named name) accounts in omega arith
  uses-next Flush c = omega arith
  uses-next (Grant privileges name) c =
      let same = uses-changed id 0 (is_named name) (granted privileges) (λ a. omega arith) accounts in omega arith
  uses-next (Revoke privileges name) c =
      let same = uses-changed id 0 (is_named name) (revoked privileges) (λ a. omega arith) accounts in omega arith

  -- and no number that isn't the next, or where the next isn't given
  uses-effect : (statement : Statement) → Creates id g salt now statement
      → (g.credential + 1 ≡ id → (given_after g statement).credential < id)
      → uses id (effect_of statement g actor salt now accounts) ≤ uses id accounts
  uses-effect (Create name auth factors options) c old =
      let one = uses-append id accounts (created g salt now name auth factors options) in
      let none = not-new (g.credential + 1) id (λ e. let h = old e in absurd (omega arith)) in omega arith
  uses-effect (Alter target change options) c old =
      let same = uses-changed id 0 (is_target actor target) (altered g salt now change options) (λ a. let h = uses-old id change g salt now a old in omega arith) accounts in
      omega arith
  uses-effect (Drop name) c old = uses-without id (is_named name) accounts
  uses-effect Flush c old = omega arith
  uses-effect (Grant privileges name) c old =
      let same = uses-changed id 0 (is_named name) (granted privileges) (λ a. omega arith) accounts in omega arith
  uses-effect (Revoke privileges name) c old =
      let same = uses-changed id 0 (is_named name) (revoked privileges) (λ a. omega arith) accounts in omega arith

once-bound : (b : Bool) → once_if b ≤ 1
once-bound true = omega arith
once-bound false = omega arith

credential-more : (g : Given) (statement : Statement) → g.credential ≤ (given_after g statement).credential
credential-more g (Create name auth factors options) = omega arith
credential-more g (Alter target Nothing options) = omega arith
credential-more g (Alter target (Password auth) options) = omega arith
credential-more g (Alter target Discard options) = omega arith
credential-more g (Alter target (Add n factor) options) = omega arith
credential-more g (Alter target (Modify n factor) options) = omega arith
credential-more g (Alter target (DropFactor n) options) = omega arith
credential-more g (Drop name) = omega arith
credential-more g Flush = omega arith
credential-more g (Grant privileges name) = omega arith
credential-more g (Revoke privileges name) = omega arith

once-effect : (statement : Statement) (g : Given) (actor : ℕ) (salt : List ℕ) (now : ℕ) (accounts : List Account) → IsWritten statement
    → ((id : ℕ) → uses id accounts ≤ 1) → ((id : ℕ) → g.credential < id → uses id accounts ≡ 0)
    → (id : ℕ) → uses id (effect_of statement g actor salt now accounts) ≤ 1
once-effect statement g actor salt now accounts w once above id = cases (g.credential + 1 == id) refl where
  created-few : Creates id g salt now statement
  created-few = creates-written id g salt now statement w

  cases : (b : Bool) → (g.credential + 1 == id) ≡ b → uses id (effect_of statement g actor salt now accounts) ≤ 1
  cases true e =
      let same = eqb-true (g.credential + 1) id e in
      let none = above id (omega arith) in
      let more = uses-next id g actor salt now accounts statement created-few in
      let most = once-bound (g.credential + 1 == id) in omega arith
  cases false e =
      let more = uses-next id g actor salt now accounts statement created-few in
      let none = ap once_if e in let one = once id in omega arith

upto-effect : (statement : Statement) (g : Given) (actor : ℕ) (salt : List ℕ) (now : ℕ) (accounts : List Account) → IsWritten statement
    → ((id : ℕ) → g.credential < id → uses id accounts ≡ 0)
    → (id : ℕ) → (given_after g statement).credential < id → uses id (effect_of statement g actor salt now accounts) ≡ 0
upto-effect statement g actor salt now accounts w above id h =
    let grows = credential-more g statement in
    let none = above id (omega arith) in
    let more = uses-effect id g actor salt now accounts statement (creates-written id g salt now statement w) (λ e. h) in omega arith

-- ## Further factors

pub few-changed : (change : Change) (new : ℕ) (salt : List ℕ) (now : ℕ) (a : Account) → AddsAtMostThird change → misfits change a ≡ false
    → HasFewLabels a → HasFewLabels (changed change new salt now a)
few-changed Nothing new salt now a w e few = few
few-changed (Password auth) new salt now a w e few = by auth.password where
  by : (password : Option (List ℕ)) → HasFewLabels (expired_without password (with_password new salt now auth a))
  by None = few
  by (Some password) = few
few-changed Discard new salt now a w e few = few
few-changed (Add n factor) new salt now a w e few = cases (n == length a.labels + 2) refl e where
  cases : (b : Bool) → (n == length a.labels + 2) ≡ b → not b ≡ false → length (a.labels ++ factor.label ∷ []) ≤ 2
  cases true f e = let next = eqb-true n (length a.labels + 2) f in let long = length-append a.labels (factor.label ∷ []) in omega arith
  cases false f e = absurd (cc)
few-changed (Modify n factor) new salt now a w e few = let same = length-set a.labels (n - 2) factor.label in omega arith
few-changed (DropFactor n) new salt now a w e few = let less = length-take (n - 2) a.labels in omega arith

pub keeps-all : (P : Account → Type 0) (change : Account → Account) (found : Option Account) → ((a : Account) → P a → P (change a))
    → IfSome found (λ a. P a → P (change a))
keeps-all P change None keeps = tt
keeps-all P change (Some a) keeps = keeps a

few-effect : (statement : Statement) (g : Given) (actor : ℕ) (salt : List ℕ) (now : ℕ) (accounts : List Account) → IsWritten statement
    → misfits_target statement (target_of accounts statement actor) ≡ false → All HasFewLabels accounts → All HasFewLabels (effect_of statement g actor salt now accounts)
few-effect (Create name auth factors options) g actor salt now accounts w e few =
    All-push HasFewLabels accounts (created g salt now name auth factors options) few
    (let same = length-map factors (λ (factor : FactorAuth). factor.label) in let short = w.1 in omega arith)
few-effect (Alter target change options) g actor salt now accounts w e few =
    All-from_recursion HasFewLabels (with_changed (is_target actor target) (altered g salt now change options) accounts)
    (all-changed HasFewLabels (is_target actor target) (altered g salt now change options) accounts (recursion_from_All HasFewLabels accounts few)
    (if-found HasFewLabels (misfits change) (altered g salt now change options) (find (is_target actor target) accounts) e
    (λ a fits few. few-changed change (g.credential + 1) salt now a w fits few)))
few-effect (Drop name) g actor salt now accounts w e few =
    All-from_recursion HasFewLabels (without (is_named name) accounts)
    (all-without HasFewLabels (is_named name) accounts (recursion_from_All HasFewLabels accounts few))
few-effect Flush g actor salt now accounts w e few = few
few-effect (Grant privileges name) g actor salt now accounts w e few =
    All-from_recursion HasFewLabels (with_changed (is_named name) (granted privileges) accounts)
    (all-changed HasFewLabels (is_named name) (granted privileges) accounts (recursion_from_All HasFewLabels accounts few)
    (keeps-all HasFewLabels (granted privileges) (find (is_named name) accounts) (λ a few. few)))
few-effect (Revoke privileges name) g actor salt now accounts w e few =
    All-from_recursion HasFewLabels (with_changed (is_named name) (revoked privileges) accounts)
    (all-changed HasFewLabels (is_named name) (revoked privileges) accounts (recursion_from_All HasFewLabels accounts few)
    (keeps-all HasFewLabels (revoked privileges) (find (is_named name) accounts) (λ a few. few)))

-- ## Histories

effect-sound : (statement : Statement) (g : Given) (actor : ℕ) (salt : List ℕ) (now : ℕ) (accounts : List Account) → IsWritten statement
    → misplaced statement (target_of accounts statement actor) ≡ None → misfits_target statement (target_of accounts statement actor) ≡ false
    → AreSound accounts × AreUpTo g accounts
    → AreSound (effect_of statement g actor salt now accounts) × AreUpTo (given_after g statement) (effect_of statement g actor salt now accounts)
effect-sound statement g actor salt now accounts w placed fits before =
    let rise = rise-effect statement g actor salt now accounts before.1.numbers in (
      record {
        numbers = rise-of 0 (given_after g statement).account (effect_of statement g actor salt now accounts) rise;
        names = names-effect statement g actor salt now accounts placed before.0.names;
        passwords = once-effect statement g actor salt now accounts w before.0.passwords before.1.passwords;
        labels = few-effect statement g actor salt now accounts w fits before.0.labels;
      },
      record { numbers = rise; passwords = upto-effect statement g actor salt now accounts w before.1.passwords },
    )

-- a number above the greatest is no password's
uses-above : (accounts : List Account) (id : ℕ) → (greatest_given accounts).credential < id → uses id accounts ≡ 0
uses-above [] id h = refl
uses-above (a ∷ accounts) id h =
    let later = uses-above accounts id (omega arith) in
    let primary = not-new a.primary_id id (λ e. absurd (omega arith)) in
    let secondary = second a.secondary (omega arith) in omega arith where
      second : (kept : Option (Stored × ℕ)) → secondary_id kept < id → once_if (has_password id kept) ≡ 0
      second None h = refl
      second (Some kept) h = not-new kept.1 id (λ e. absurd (omega arith))

pub accounts-sound : AccountsAreSound
accounts-sound (From start) sound legal written =
    (sound, record { numbers = numbers-rise (From start) sound.numbers; passwords = uses-above start.accounts })
accounts-sound (h ▹ Observed who look) sound legal written = accounts-sound h sound legal.0 written.0
accounts-sound (h ▹ Attempted attempt) sound legal written = accounts-sound h sound legal.0 written.0
accounts-sound (h ▹ Executed x) sound legal written = cases (is_done x.reply) refl (accounts-sound h sound legal.0 written.0) where
  cases : (b : Bool) → is_done x.reply ≡ b → AreSound (records h) × AreUpTo (given h) (records h)
      → AreSound (if b then effect_of x.statement (given h) x.actor x.salt (max x.reading (moment h)) (records h) else records h)
      × AreUpTo (if b then given_after (given h) x.statement else given h)
      (if b then effect_of x.statement (given h) x.actor x.salt (max x.reading (moment h)) (records h) else records h)
  cases true done before =
      let accepted = done-accepted h x legal.1 done in
      effect-sound x.statement (given h) x.actor x.salt (max x.reading (moment h)) (records h) written.1 accepted.placed accepted.factors before
  cases false done before = before

-- ## No number of a password is given twice

gone-more : (h : History) (entry : Entry) (id : ℕ) → 0 < id → id ≤ (given h).credential → uses id (records h) ≡ 0
    → (id ≤ (given (h ▹ entry)).credential) × (uses id (records (h ▹ entry)) ≡ 0)
gone-more h (Observed who look) id above le none = (le, none)
gone-more h (Attempted attempt) id above le none = (le, none)
gone-more h (Executed x) id above le none = cases (is_done x.reply) where
  cases : (b : Bool) → (id ≤ (if b then given_after (given h) x.statement else given h).credential)
      × (uses id (if b then effect_of x.statement (given h) x.actor x.salt (max x.reading (moment h)) (records h) else records h) ≡ 0)
  cases true =
      let more = credential-more (given h) x.statement in
      let few = uses-effect id (given h) x.actor x.salt (max x.reading (moment h)) (records h) x.statement
      (creates-above id (given h) x.salt (max x.reading (moment h)) x.statement above) (λ e. absurd (omega arith)) in
      (omega arith, omega arith)
  cases false = (le, none)

pub passwords-stay-gone : PasswordsStayGone
passwords-stay-gone h [] id above le none = none
passwords-stay-gone h (entry ∷ entries) id above le none =
    let next = gone-more h entry id above le none in passwords-stay-gone (h ▹ entry) entries id above next.0 next.1
