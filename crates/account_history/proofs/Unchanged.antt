-- An entry that clears no account of a user leaves what the user logs in with.
use Rattle.std.proofs.Common.{◌≡◌, refl, ap, sym, ◌∙◌, ℕ, ◌+◌, ◌≤◌, max, List, [], ◌∷◌, ◌++◌, map, filter, find, cond, Bool, true, false, ◌&&◌, if◌then◌else◌, Option, Some, None, option_map, arith}
use Rattle.std.specs.Str.{bytes_eq}
use Rattle.std.proofs.lemmas.Slice.Eq.{bytes_eq-Decides}
use Rattle.std.proofs.lemmas.List.{append-nil, map-append}
use Rattle.std.proofs.lemmas.List.Elements.{filter-append}
use Rattle.lg_base.specs.declared.names.Host.{Host}
use Rattle.lg_base.specs.declared.names.Host.TheVariants as host
use Rattle.lg_base.specs.declared.names.Name.{Name}
use Rattle.account_rules.specs.declared.accounts.Account.{Account}
use Rattle.stmt_rules.specs.declared.statement.Change.{Change}
use Rattle.stmt_rules.specs.declared.statement.Change.TheVariants.{Nothing, Password, Discard, Add, Modify, DropFactor}
use Rattle.stmt_rules.specs.declared.statement.Statement.{Statement}
use Rattle.stmt_rules.specs.declared.statement.Statement.TheVariants.{Create, Alter, Drop, Flush, Grant, Revoke}
use Rattle.account_history.specs.declared.entries.Entry.{Entry}
use Rattle.account_history.specs.declared.entries.Entry.TheVariants.{Observed, Attempted, Executed}
use Rattle.account_history.specs.Effects.{altered, created, changed, effect_of, expired_without, granted, revoked, with_changed, without}
use Rattle.account_history.specs.Given.{Given, given, is_done}
use Rattle.account_history.specs.Histories.{History, ◌▹◌, after_entries, moment}
use Rattle.account_history.specs.Naming.{in_force, is_at, is_named, or_else, same_host}
use Rattle.account_history.specs.Passwords.{with_password}
use Rattle.account_history.specs.Records.{records}
use Rattle.account_history.specs.Stamps.{clears, clears_user, is_of_user, stamp}
use Rattle.account_history.specs.Targets.{is_target, of_account}
use Rattle.account_history.specs.Telling.{Kept, is_of, kept}
use Rattle.account_history.proofs.OneMore.{stamp-more}

-- what a user's accounts are, but for options and privileges
abbrev pub own : List ℕ → List Account → List Kept
own user accounts = filter (is_of user) (map kept accounts)

-- ## The account in force is one of the user's own

abbrev pub is_kept_at : List ℕ → Host → Kept → Bool
is_kept_at user host k = is_of user k && same_host k.name.host host

find-own : (user : List ℕ) (host : Host) (accounts : List Account)
    → option_map kept (find (is_at user host) accounts) ≡ find (is_kept_at user host) (own user accounts)
find-own user host [] = refl
find-own user host (a ∷ accounts) =
    cases (bytes_eq a.name.user user) (same_host a.name.host host) refl refl (find-own user host accounts) where
      cases : (his at : Bool) → bytes_eq a.name.user user ≡ his → same_host a.name.host host ≡ at
          → option_map kept (find (is_at user host) accounts) ≡ find (is_kept_at user host) (own user accounts)
          → option_map kept (cond (his && at) (Some a) (find (is_at user host) accounts))
          ≡ find (is_kept_at user host) (if his then kept a ∷ own user accounts else own user accounts)
      cases true true e f later = rw (e, f) refl
      cases true false e f later = rw (e, f) later
      cases false at e f later = later

or-else-map : (x y : Option Account) → option_map kept (or_else x y) ≡ or_else (option_map kept x) (option_map kept y)
or-else-map None y = refl
or-else-map (Some x) y = refl

abbrev pub own_force : List ℕ → List Kept → Option Kept
own_force user ks = or_else (find (is_kept_at user host.Localhost) ks) (find (is_kept_at user host.Any) ks)

pub force-own : (user : List ℕ) (accounts : List Account) → option_map kept (in_force accounts user) ≡ own_force user (own user accounts)
force-own user accounts =
    or-else-map (find (is_at user host.Localhost) accounts) (find (is_at user host.Any) accounts)
    ∙ ap (λ x. or_else x (option_map kept (find (is_at user host.Any) accounts))) (find-own user host.Localhost accounts)
    ∙ ap (λ y. or_else (find (is_kept_at user host.Localhost) (own user accounts)) y) (find-own user host.Any accounts)

-- ## Effects

-- a change that keeps what is kept
changed-kept : (user : List ℕ) (test : Account → Bool) (change : Account → Account) → ((a : Account) → kept (change a) ≡ kept a)
    → (accounts : List Account) → own user (with_changed test change accounts) ≡ own user accounts
changed-kept user test change same [] = refl
changed-kept user test change same (a ∷ accounts) = cases (test a) (changed-kept user test change same accounts) where
  cases : (b : Bool) → own user (with_changed test change accounts) ≡ own user accounts
      → own user (cond b (change a ∷ accounts) (a ∷ with_changed test change accounts)) ≡ own user (a ∷ accounts)
  cases true later = ap (λ k. filter (is_of user) (k ∷ map kept accounts)) (same a)
  cases false later = ap (λ ks. if bytes_eq a.name.user user then kept a ∷ ks else ks) later

-- a change of another user's account
changed-other : (user : List ℕ) (test : Account → Bool) (change : Account → Account) → ((a : Account) → (change a).name ≡ a.name)
    → (accounts : List Account) → of_account (is_of_user user) (find test accounts) ≡ false
    → own user (with_changed test change accounts) ≡ own user accounts
changed-other user test change same [] e = refl
changed-other user test change same (a ∷ accounts) e = cases (test a) e (λ f. changed-other user test change same accounts f) where
  cases : (b : Bool) → of_account (is_of_user user) (cond b (Some a) (find test accounts)) ≡ false
      → (of_account (is_of_user user) (find test accounts) ≡ false → own user (with_changed test change accounts) ≡ own user accounts)
      → own user (cond b (change a ∷ accounts) (a ∷ with_changed test change accounts)) ≡ own user (a ∷ accounts)
  cases true e later =
      let new : bytes_eq (change a).name.user user ≡ false = ap (λ (n : Name). bytes_eq n.user user) (same a) ∙ e in
      rw (new, e) refl
  cases false e later = ap (λ ks. if bytes_eq a.name.user user then kept a ∷ ks else ks) (later e)

-- without another user's account
without-other : (user : List ℕ) (test : Account → Bool) → ((a : Account) → test a ≡ true → bytes_eq a.name.user user ≡ false)
    → (accounts : List Account) → own user (without test accounts) ≡ own user accounts
without-other user test other [] = refl
without-other user test other (a ∷ accounts) = cases (test a) refl (without-other user test other accounts) where
  cases : (b : Bool) → test a ≡ b → own user (without test accounts) ≡ own user accounts → own user (cond b accounts (a ∷ without test accounts)) ≡ own user (a ∷ accounts)
  cases true e later = let his = other a e in rw his refl
  cases false e later = ap (λ ks. if bytes_eq a.name.user user then kept a ∷ ks else ks) later

pub same-name : (change : Change) (id : ℕ) (salt : List ℕ) (now : ℕ) (a : Account) → (changed change id salt now a).name ≡ a.name
same-name Nothing id salt now a = refl
same-name (Password auth) id salt now a = without-by auth.password where
  without-by : (password : Option (List ℕ)) → (expired_without password (with_password id salt now auth a)).name ≡ a.name
  without-by None = refl
  without-by (Some password) = refl
same-name Discard id salt now a = refl
same-name (Add n factor) id salt now a = refl
same-name (Modify n factor) id salt now a = refl
same-name (DropFactor n) id salt now a = refl

pub named-other : (user : List ℕ) (name : Name) → bytes_eq name.user user ≡ false → (a : Account) → is_named name a ≡ true
    → bytes_eq a.name.user user ≡ false
named-other user name e a f =
    let same : a.name.user ≡ name.user = (bytes_eq-Decides a.name.user name.user).0 (and-left (bytes_eq a.name.user name.user) (same_host a.name.host name.host) f) in
    ap (λ u. bytes_eq u user) same ∙ e where
      and-left : (x y : Bool) → (x && y) ≡ true → x ≡ true
      and-left true y g = refl
      and-left false y g = g

effect-own : (statement : Statement) (g : Given) (actor : ℕ) (salt : List ℕ) (now : ℕ) (accounts : List Account) (user : List ℕ)
    → clears_user accounts actor statement user ≡ false → own user (effect_of statement g actor salt now accounts) ≡ own user accounts
effect-own (Create name auth factors options) g actor salt now accounts user e =
    ap (λ ks. filter (is_of user) ks) (map-append kept accounts (created g salt now name auth factors options ∷ []))
    ∙ filter-append (is_of user) (map kept accounts) (kept (created g salt now name auth factors options) ∷ [])
    ∙ ap (λ (b : Bool). own user accounts ++ (if b then kept (created g salt now name auth factors options) ∷ [] else [])) e
    ∙ append-nil (own user accounts)
effect-own (Alter target Nothing options) g actor salt now accounts user e =
    changed-kept user (is_target actor target) (altered g salt now Nothing options) (λ a. refl) accounts
effect-own (Alter target (Password auth) options) g actor salt now accounts user e =
    changed-other user (is_target actor target) (altered g salt now (Password auth) options) (same-name (Password auth) _ salt now) accounts e
effect-own (Alter target Discard options) g actor salt now accounts user e =
    changed-other user (is_target actor target) (altered g salt now Discard options) (λ a. refl) accounts e
effect-own (Alter target (Add n factor) options) g actor salt now accounts user e =
    changed-other user (is_target actor target) (altered g salt now (Add n factor) options) (λ a. refl) accounts e
effect-own (Alter target (Modify n factor) options) g actor salt now accounts user e =
    changed-other user (is_target actor target) (altered g salt now (Modify n factor) options) (λ a. refl) accounts e
effect-own (Alter target (DropFactor n) options) g actor salt now accounts user e =
    changed-other user (is_target actor target) (altered g salt now (DropFactor n) options) (λ a. refl) accounts e
effect-own (Drop name) g actor salt now accounts user e = without-other user (is_named name) (named-other user name e) accounts
effect-own Flush g actor salt now accounts user e = absurd (cc)
effect-own (Grant privileges name) g actor salt now accounts user e = changed-kept user (is_named name) (granted privileges) (λ a. refl) accounts
effect-own (Revoke privileges name) g actor salt now accounts user e = changed-kept user (is_named name) (revoked privileges) (λ a. refl) accounts

pub entry-own : (h : History) (entry : Entry) (user : List ℕ) → clears h entry user ≡ false → own user (records (h ▹ entry)) ≡ own user (records h)
entry-own h (Observed who look) user e = refl
entry-own h (Attempted t) user e = refl
entry-own h (Executed x) user e = cases (is_done x.reply) e where
  cases : (b : Bool) → (b && clears_user (records h) x.actor x.statement user) ≡ false
      → own user (if b then effect_of x.statement (given h) x.actor x.salt (max x.reading (moment h)) (records h) else records h) ≡ own user (records h)
  cases true e = effect-own x.statement (given h) x.actor x.salt _ (records h) user e
  cases false e = refl

-- ## Stamps

stamp-rises : (h : History) (entries : List Entry) (user : List ℕ) → stamp h user ≤ stamp (after_entries h entries) user
stamp-rises h [] user = omega arith
stamp-rises h (entry ∷ entries) user =
    let one = stamp-more h entry user in let rest = stamp-rises (h ▹ entry) entries user in omega arith

pub not-cleared : (h : History) (entry : Entry) (entries : List Entry) (user : List ℕ) → stamp (after_entries (h ▹ entry) entries) user ≡ stamp h user
    → clears h entry user ≡ false
not-cleared h entry entries user e = cases (clears h entry user) (stamp-rises (h ▹ entry) entries user) where
  cases : (b : Bool) → (if b then stamp h user + 1 else stamp h user) ≤ stamp (after_entries (h ▹ entry) entries) user → b ≡ false
  cases true f = absurd (omega (arith, e, f))
  cases false f = refl

pub own-same : (h : History) (entries : List Entry) (user : List ℕ) → stamp (after_entries h entries) user ≡ stamp h user
    → own user (records (after_entries h entries)) ≡ own user (records h)
own-same h [] user e = refl
own-same h (entry ∷ entries) user e =
    let still = not-cleared h entry entries user e in
    let same : stamp (h ▹ entry) user ≡ stamp h user = ap (λ (b : Bool). if b then stamp h user + 1 else stamp h user) still in
    own-same (h ▹ entry) entries user (e ∙ sym same) ∙ entry-own h entry user still
