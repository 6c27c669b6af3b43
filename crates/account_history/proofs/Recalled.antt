-- What one more entry does to what is known of a password, and that an entry which clears no account of a user leaves what is
-- known of the user's passwords.
use Rattle.std.proofs.Common.{◌≡◌, refl, ap, sym, ◌∙◌, ℕ, ◌+◌, ◌≤◌, List, [], ◌∷◌, ◌++◌, map, filter, find, cond, ◌==◌, Bool, true, false, ◌&&◌, ◌||◌, if◌then◌else◌, Option, Some, None, arith}
use Rattle.std.specs.List.{list_any}
use Rattle.std.specs.Str.{bytes_eq}
use Rattle.account_rules.specs.declared.accounts.Account.{Account}
use Rattle.stmt_rules.specs.declared.statement.Statement.{Statement}
use Rattle.stmt_rules.specs.declared.statement.Statement.TheVariants.{Create, Alter, Drop, Flush, Grant, Revoke}
use Rattle.lg_base.specs.declared.names.Name.{Name}
use Rattle.account_history.specs.declared.entries.Attempt.{Attempt}
use Rattle.account_history.specs.declared.entries.Entry.{Entry}
use Rattle.account_history.specs.declared.entries.Entry.TheVariants.{Observed, Attempted, Executed}
use Rattle.account_history.specs.declared.entries.Execution.{Execution}
use Rattle.account_history.specs.Given.{is_done}
use Rattle.account_history.specs.Histories.{History, ◌▹◌, after_entries, start_of}
use Rattle.account_history.specs.Known.{Sight, clears_known, clears_password, first_shown, known, shown_to, sight_of, sights}
use Rattle.account_history.specs.Legal.{IsLegal}
use Rattle.account_history.specs.Naming.{has_password, holds_password, in_force, is_named, or_else}
use Rattle.account_history.specs.Records.{records}
use Rattle.account_history.specs.Searching.{after_last}
use Rattle.account_history.specs.Sound.{AreSound, AreWritten, once_if, uses, uses_in}
use Rattle.account_history.specs.Stamps.{clears, clears_user, is_change, is_of_user, stamp}
use Rattle.account_history.specs.Targets.{is_target, of_account, target_of}
use Rattle.account_history.specs.Telling.{Kept, StampsTell, is_of, is_own_password, keeps_password, kept}
use Rattle.account_history.proofs.Running.{after_last-more}
use Rattle.account_history.proofs.Soundness.{accounts-sound}
use Rattle.account_history.proofs.Unchanged.{entry-own, force-own, named-other, not-cleared, own, own-same, own_force}

-- ## One more entry

or-none : (x : Option (List ℕ)) → or_else x None ≡ x
or-none None = refl
or-none (Some digest) = refl

or-assoc : (x y z : Option (List ℕ)) → or_else x (or_else y z) ≡ or_else (or_else x y) z
or-assoc None y z = refl
or-assoc (Some digest) y z = refl

first-shown-more : (xs : List Sight) (y : Sight) → first_shown (xs ++ y ∷ []) ≡ or_else (first_shown xs) y.shows
first-shown-more [] y = or-none y.shows
first-shown-more (x ∷ xs) y = ap (λ rest. or_else x.shows rest) (first-shown-more xs y) ∙ or-assoc x.shows (first_shown xs) y.shows

pub known-more : (h : History) (entry : Entry) (id : ℕ)
    → known (h ▹ entry) id ≡ (if (sight_of h entry id).clears then None else or_else (known h id) (sight_of h entry id).shows)
known-more h entry id = ap first_shown (after_last-more (λ (s : Sight). s.clears) (sights h id) (sight_of h entry id)) ∙ cases (sight_of h entry id).clears where
  cases : (b : Bool)
      → first_shown (if b then [] else after_last (λ (s : Sight). s.clears) (sights h id) ++ sight_of h entry id ∷ [])
      ≡ (if b then None else or_else (known h id) (sight_of h entry id).shows)
  cases true = refl
  cases false = first-shown-more (after_last (λ (s : Sight). s.clears) (sights h id)) (sight_of h entry id)

pub known-observed : (h : History) (entry : Entry) (id : ℕ) → (sight_of h entry id).clears ≡ false → (sight_of h entry id).shows ≡ None
    → known (h ▹ entry) id ≡ known h id
known-observed h entry id c s =
    known-more h entry id
    ∙ ap (λ (b : Bool). if b then None else or_else (known h id) (sight_of h entry id).shows) c
    ∙ ap (λ x. or_else (known h id) x) s ∙ or-none (known h id)

pub known-attempted : (h : History) (t : Attempt) (id : ℕ)
    → known (h ▹ Attempted t) id ≡ or_else (known h id) (shown_to (in_force (records h) t.user) t id)
known-attempted h t id = known-more h (Attempted t) id

pub known-executed : (h : History) (e : Execution) (id : ℕ) → known (h ▹ Executed e) id ≡ (if clears_known h e id then None else known h id)
known-executed h e id = known-more h (Executed e) id ∙ ap (λ x. if clears_known h e id then None else x) (or-none (known h id))

-- ## The account that has a password

holds-uses : (id : ℕ) (a : Account) → holds_password id a ≡ true → 1 ≤ uses_in id a
holds-uses id a e = cases (a.primary_id == id) (has_password id a.secondary) e where
  cases : (first second : Bool) → (first || second) ≡ true → 1 ≤ once_if first + once_if second
  cases true second e = omega arith
  cases false true e = omega arith
  cases false false e = absurd (cc)

abbrev is_own : List ℕ → ℕ → Account → Bool
is_own user id a = is_of_user user a && holds_password id a

both : (x y : Bool) → (x && y) ≡ true → (x ≡ true) × (y ≡ true)
both true y e = (refl, e)
both false y e = absurd (cc)

any-uses : (user : List ℕ) (id : ℕ) (accounts : List Account) → list_any (is_own user id) accounts ≡ true → 1 ≤ uses id accounts
any-uses user id [] e = absurd (cc)
any-uses user id (a ∷ accounts) e = cases (is_own user id a) refl e (any-uses user id accounts) where
  cases : (b : Bool) → is_own user id a ≡ b → (b || list_any (is_own user id) accounts) ≡ true
      → (list_any (is_own user id) accounts ≡ true → 1 ≤ uses id accounts) → 1 ≤ uses id (a ∷ accounts)
  cases true f e later = let one = holds-uses id a (both (is_of_user user a) (holds_password id a) f).1 in omega arith
  cases false f e later = let rest = later e in omega arith

found-uses : (id : ℕ) (test : Account → Bool) (accounts : List Account) → of_account (holds_password id) (find test accounts) ≡ true → 1 ≤ uses id accounts
found-uses id test [] e = absurd (cc)
found-uses id test (a ∷ accounts) e = cases (test a) e (found-uses id test accounts) where
  cases : (b : Bool) → of_account (holds_password id) (cond b (Some a) (find test accounts)) ≡ true
      → (of_account (holds_password id) (find test accounts) ≡ true → 1 ≤ uses id accounts) → 1 ≤ uses id (a ∷ accounts)
  cases true e later = let one = holds-uses id a e in omega arith
  cases false e later = let rest = later e in omega arith

-- where no two passwords have one number, an account that is found and has the number of a user's password is the user's
one-owner : (user : List ℕ) (id : ℕ) (test : Account → Bool) (accounts : List Account) → uses id accounts ≤ 1
    → list_any (is_own user id) accounts ≡ true → of_account (holds_password id) (find test accounts) ≡ true
    → of_account (is_of_user user) (find test accounts) ≡ true
one-owner user id test [] few his found = absurd (cc)
one-owner user id test (a ∷ accounts) few his found = cases (test a) found (one-owner user id test accounts) where
  rest : (uses id accounts ≤ 1 → list_any (is_own user id) accounts ≡ true → of_account (holds_password id) (find test accounts) ≡ true
      → of_account (is_of_user user) (find test accounts) ≡ true)
      → uses_in id a + uses id accounts ≤ 1 → (b : Bool) → is_own user id a ≡ b → (b || list_any (is_own user id) accounts) ≡ true
      → of_account (holds_password id) (find test accounts) ≡ true → of_account (is_of_user user) (find test accounts) ≡ true
  rest later few true f his found =
      let one = holds-uses id a (both (is_of_user user a) (holds_password id a) f).1 in
      let other = found-uses id test accounts found in absurd (omega arith)
  rest later few false f his found = later (omega arith) his found

  here : (b : Bool) → is_of_user user a ≡ b → ((b && holds_password id a) || list_any (is_own user id) accounts) ≡ true → holds_password id a ≡ true
      → is_of_user user a ≡ true
  here true f his holds = f
  here false f his holds =
      let one = holds-uses id a holds in let other = any-uses user id accounts his in absurd (omega arith)

  cases : (b : Bool) → of_account (holds_password id) (cond b (Some a) (find test accounts)) ≡ true
      → (uses id accounts ≤ 1 → list_any (is_own user id) accounts ≡ true → of_account (holds_password id) (find test accounts) ≡ true
      → of_account (is_of_user user) (find test accounts) ≡ true)
      → of_account (is_of_user user) (cond b (Some a) (find test accounts)) ≡ true
  cases true found later = here (is_of_user user a) refl his found
  cases false found later = rest later few (is_own user id a) refl his found

-- a named account of another user
named-else : (user : List ℕ) (name : Name) (accounts : List Account) → bytes_eq name.user user ≡ false
    → of_account (is_of_user user) (find (is_named name) accounts) ≡ false
named-else user name [] e = refl
named-else user name (a ∷ accounts) e = cases (is_named name a) refl (named-else user name accounts e) where
  cases : (b : Bool) → is_named name a ≡ b → of_account (is_of_user user) (find (is_named name) accounts) ≡ false
      → of_account (is_of_user user) (cond b (Some a) (find (is_named name) accounts)) ≡ false
  cases true f later = named-other user name e a f
  cases false f later = later

-- ## Statements that clear no account of a user

contradicts : (x y : Bool) → (x ≡ true → y ≡ true) → y ≡ false → x ≡ false
contradicts true y f e = absurd (let g = f refl in cc)
contradicts false y f e = refl

still-known : (accounts : List Account) (actor : ℕ) (statement : Statement) (user : List ℕ) (id : ℕ) → uses id accounts ≤ 1
    → list_any (is_own user id) accounts ≡ true → clears_user accounts actor statement user ≡ false → clears_password accounts actor statement id ≡ false
still-known accounts actor (Create name auth factors options) user id few his e =
    contradicts (of_account (holds_password id) (find (is_named name) accounts)) (of_account (is_of_user user) (find (is_named name) accounts))
    (one-owner user id (is_named name) accounts few his) (named-else user name accounts e)
still-known accounts actor (Alter target change options) user id few his e = cases (is_change change) e where
  cases : (b : Bool) → (b && of_account (is_of_user user) (find (is_target actor target) accounts)) ≡ false
      → (b && of_account (holds_password id) (find (is_target actor target) accounts)) ≡ false
  cases true e =
      contradicts (of_account (holds_password id) (find (is_target actor target) accounts)) (of_account (is_of_user user) (find (is_target actor target) accounts))
      (one-owner user id (is_target actor target) accounts few his) e
  cases false e = refl
still-known accounts actor (Drop name) user id few his e =
    contradicts (of_account (holds_password id) (find (is_named name) accounts)) (of_account (is_of_user user) (find (is_named name) accounts))
    (one-owner user id (is_named name) accounts few his) (named-else user name accounts e)
still-known accounts actor Flush user id few his e = absurd (cc)
still-known accounts actor (Grant privileges name) user id few his e = refl
still-known accounts actor (Revoke privileges name) user id few his e = refl

-- ## The user's own passwords

own-any : (user : List ℕ) (id : ℕ) (accounts : List Account) → is_own_password user accounts id ≡ list_any (is_own user id) accounts
own-any user id [] = refl
own-any user id (a ∷ accounts) = ap (λ b. is_own user id a || b) (own-any user id accounts)

own-filtered : (user : List ℕ) (id : ℕ) (ks : List Kept)
    → list_any (λ k. is_of user k && keeps_password id k) ks ≡ list_any (keeps_password id) (filter (is_of user) ks)
own-filtered user id [] = refl
own-filtered user id (k ∷ ks) = cases (is_of user k) (own-filtered user id ks) where
  cases : (b : Bool) → list_any (λ k. is_of user k && keeps_password id k) ks ≡ list_any (keeps_password id) (filter (is_of user) ks)
      → ((b && keeps_password id k) || list_any (λ k. is_of user k && keeps_password id k) ks)
      ≡ list_any (keeps_password id) (if b then k ∷ filter (is_of user) ks else filter (is_of user) ks)
  cases true later = ap (λ b. keeps_password id k || b) later
  cases false later = later

own-still : (user : List ℕ) (id : ℕ) (before after : List Account) → own user after ≡ own user before → is_own_password user before id ≡ true
    → is_own_password user after id ≡ true
own-still user id before after same e =
    own-filtered user id (map kept after) ∙ ap (λ ks. list_any (keeps_password id) ks) same ∙ sym (own-filtered user id (map kept before)) ∙ e

known-kept : (h : History) (entry : Entry) (user : List ℕ) (id : ℕ) (digest : List ℕ) → uses id (records h) ≤ 1 → clears h entry user ≡ false
    → is_own_password user (records h) id ≡ true → known h id ≡ Some digest → known (h ▹ entry) id ≡ Some digest
known-kept h (Observed who look) user id digest few e his d = known-observed h (Observed who look) id refl refl ∙ d
known-kept h (Attempted t) user id digest few e his d =
    known-attempted h t id ∙ ap (λ x. or_else x (shown_to (in_force (records h) t.user) t id)) d
known-kept h (Executed x) user id digest few e his d =
    known-executed h x id ∙ ap (λ (b : Bool). if b then None else known h id) (cases (is_done x.reply) e) ∙ d where
      cases : (b : Bool) → (b && clears_user (records h) x.actor x.statement user) ≡ false
          → (b && clears_password (records h) x.actor x.statement id) ≡ false
      cases true e = still-known (records h) x.actor x.statement user id few (sym (own-any user id (records h)) ∙ his) e
      cases false e = refl

-- ## Histories

legal-before : (h : History) (entries : List Entry) → IsLegal (after_entries h entries) → IsLegal h
legal-before h [] legal = legal
legal-before h (entry ∷ entries) legal = (legal-before (h ▹ entry) entries legal).0

written-before : (h : History) (entries : List Entry) → AreWritten (after_entries h entries) → AreWritten h
written-before h [] written = written
written-before h (entry ∷ entries) written = (written-before (h ▹ entry) entries written).0

known-same : (h : History) (entries : List Entry) (user : List ℕ) (id : ℕ) (digest : List ℕ) → AreSound (start_of h).accounts
    → IsLegal (after_entries h entries) → AreWritten (after_entries h entries) → stamp (after_entries h entries) user ≡ stamp h user
    → is_own_password user (records h) id ≡ true → known h id ≡ Some digest → known (after_entries h entries) id ≡ Some digest
known-same h [] user id digest sound legal written e his d = d
known-same h (entry ∷ entries) user id digest sound legal written e his d =
    let still = not-cleared h entry entries user e in
    let same : stamp (h ▹ entry) user ≡ stamp h user = ap (λ (b : Bool). if b then stamp h user + 1 else stamp h user) still in
    let few = (accounts-sound h sound (legal-before h (entry ∷ entries) legal) (written-before h (entry ∷ entries) written)).0.passwords id in
    known-same (h ▹ entry) entries user id digest sound legal written (e ∙ sym same)
    (own-still user id (records h) (records (h ▹ entry)) (entry-own h entry user still) his)
    (known-kept h entry user id digest few still his d)

pub stamps-tell : StampsTell
stamps-tell h entries user sound legal written e =
    let same = own-same h entries user e in
    record {
      accounts = same;
      stands = force-own user (records (after_entries h entries)) ∙ ap (own_force user) same ∙ sym (force-own user (records h));
      digests = λ id digest his d. known-same h entries user id digest sound legal written e his d;
    }
