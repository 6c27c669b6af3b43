-- The accounts of every start are sound.
use Rattle.std.proofs.Common.{◌≡◌, refl, ap, sym, ◌∙◌, subst, ℕ, ◌+◌, ◌<◌, ◌≤◌, ◌==◌, ◌&&◌, List, [], ◌∷◌, codes, find, Bool, true, false, not, Option, Some, None, arith, eqb-true, ne_eqb}
use Rattle.std.specs.List.{AllByRecursion, AllZip, list_any}
use Rattle.std.specs.Str.{bytes_eq}
use Rattle.std.proofs.lemmas.List.Elements.{All-from_recursion}
use Rattle.lg_base.specs.declared.names.Name.{Name}
use Rattle.lg_outside.specs.Keeping.{RiseAbove}
use Rattle.lg_outside.specs.declared.keepers.Row.{Row as Kept}
use Rattle.factor_chain.specs.declared.credentials.Method.TheVariants as method
use Rattle.factor_chain.specs.declared.credentials.Stored.{Stored}
use Rattle.account_rules.specs.declared.accounts.Account.{Account}
use Rattle.account_history.specs.declared.entries.Opening.{Opening}
use Rattle.account_history.specs.Naming.{is_named}
use Rattle.account_history.specs.Numbers.{Rise}
use Rattle.account_history.specs.Sound.{HasFewLabels, NamesDiffer, has_password, once_if, uses}
use Rattle.account_history.proofs.Numbered.{passed, passing}
use Rattle.account_history.proofs.Soundness.{named-back}
use Rattle.account_machine.specs.Loading.{IsRowOf, numbered, numbered_account, numbered_secondary, passwords_of}
use Rattle.account_machine.specs.Openings.{are_openings, is_opening, is_opening_password, is_opening_user, native_accounts, native_stored, opening_accounts, plain_account, root_account}
use Rattle.account_machine.specs.SoundStarts.{LoadedAreSound, OpenedAreSound}
use Rattle.account_machine.proofs.Fitted.{and-both, not-false, or-neither}
use Rattle.account_machine.proofs.Starts.{native-rise}

-- ## Accounts of an opening

-- a native account of an opening
native : (id : ℕ) → Opening → Account
native id x = plain_account id x.user method.Native (native_stored x.password) false

fresh-native : (first id : ℕ) (x : Opening) (xs : List Opening) → list_any (λ (other : Opening). bytes_eq x.user other.user) xs ≡ false
    → find (is_named (plain_account first x.user method.Native (native_stored x.password) false).name) (native_accounts id xs) ≡ None
fresh-native first id x [] e = refl
fresh-native first id x (y ∷ xs) e =
    let both = or-neither (bytes_eq x.user y.user) (list_any (λ (other : Opening). bytes_eq x.user other.user) xs) e in
    let a : Account = plain_account first x.user method.Native (native_stored x.password) false in
    let b : Account = plain_account id y.user method.Native (native_stored y.password) false in
    passing (is_named a.name) b (native_accounts (id + 1) xs) (named-back a b ∙ ap (λ same. same && true) both.0) (fresh-native first (id + 1) x xs both.1)

names-native : (id : ℕ) (xs : List Opening) → are_openings xs ≡ true → NamesDiffer (native_accounts id xs)
names-native id [] e = tt
names-native id (x ∷ xs) e =
    let first = and-both (is_opening x && not (list_any (λ (other : Opening). bytes_eq x.user other.user) xs)) (are_openings xs) e in
    let second = and-both (is_opening x) (not (list_any (λ (other : Opening). bytes_eq x.user other.user) xs)) first.0 in
    (fresh-native id (id + 1) x xs (not-false (list_any (λ (other : Opening). bytes_eq x.user other.user) xs) second.1), names-native (id + 1) xs first.1)

not-root : (user : List ℕ) (rest : Bool) → (rest && not (bytes_eq user (codes "root"))) ≡ true → bytes_eq user (codes "root") ≡ false
not-root user rest e = not-false (bytes_eq user (codes "root")) (and-both rest (not (bytes_eq user (codes "root"))) e).1

root-fresh : (id : ℕ) (xs : List Opening) → are_openings xs ≡ true → find (is_named root_account.name) (native_accounts id xs) ≡ None
root-fresh id [] e = refl
root-fresh id (x ∷ xs) e =
    let first = and-both (is_opening x && not (list_any (λ (other : Opening). bytes_eq x.user other.user) xs)) (are_openings xs) e in
    let second = and-both (is_opening x) (not (list_any (λ (other : Opening). bytes_eq x.user other.user) xs)) first.0 in
    let third = and-both (is_opening_user x.user) (is_opening_password x.password) second.0 in
    passing (is_named root_account.name) (plain_account id x.user method.Native (native_stored x.password) false) (native_accounts (id + 1) xs)
    (ap (λ same. same && true) (not-root x.user _ third.0)) (root-fresh (id + 1) xs first.1)

-- a number below theirs is none of their passwords'
unused : (n id : ℕ) (xs : List Opening) → n < id → uses n (native_accounts id xs) ≡ 0
unused n id [] h = refl
unused n id (x ∷ xs) h =
    let own : once_if (id == n) ≡ 0 = ap once_if (ne_eqb id n (λ e. omega (arith, e, h))) in
    let later = unused n (id + 1) xs (omega arith) in omega (arith, own, later)

used-once : (n id : ℕ) (xs : List Opening) → uses n (native_accounts id xs) ≤ 1
used-once n id [] = omega arith
used-once n id (x ∷ xs) = by (id == n) refl (used-once n (id + 1) xs) where
  by : (b : Bool) → (id == n) ≡ b → uses n (native_accounts (id + 1) xs) ≤ 1 → uses n (native_accounts id (x ∷ xs)) ≤ 1
  by true is later =
      let same : id ≡ n = eqb-true id n is in let one : once_if (id == n) ≡ 1 = ap once_if is in
      let none = unused n (id + 1) xs (omega (arith, same)) in omega (arith, one, none)
  by false is later = let none : once_if (id == n) ≡ 0 = ap once_if is in omega (arith, none, later)

-- the root account has the number before theirs
root-once : (n : ℕ) (xs : List Opening) → uses n (opening_accounts xs) ≤ 1
root-once n xs = by (1 == n) refl where
  by : (b : Bool) → (1 == n) ≡ b → uses n (opening_accounts xs) ≤ 1
  by true is =
      let same : 1 ≡ n = eqb-true 1 n is in let one : once_if (1 == n) ≡ 1 = ap once_if is in
      let none = unused n 2 xs (omega (arith, same)) in omega (arith, one, none)
  by false is = let none : once_if (1 == n) ≡ 0 = ap once_if is in let later = used-once n 2 xs in omega (arith, none, later)

few-native : (id : ℕ) (xs : List Opening) → AllByRecursion HasFewLabels (native_accounts id xs)
few-native id [] = tt
few-native id (x ∷ xs) = (omega arith, few-native (id + 1) xs)

pub opened-sound : OpenedAreSound
opened-sound xs e = record {
  numbers = (omega arith, native-rise 1 2 xs (omega arith));
  names = (root-fresh 2 xs e, names-native 2 xs e);
  passwords = λ n. root-once n xs;
  labels = All-from_recursion HasFewLabels (opening_accounts xs) (omega arith, few-native 2 xs);
}

-- ## Accounts that are loaded

loaded-rise : (low last : ℕ) (rows : List Kept) (accounts : List Account) → RiseAbove low rows → AllZip IsRowOf rows accounts → Rise low (numbered last accounts)
loaded-rise low last [] [] r z = tt
loaded-rise low last [] (a ∷ accounts) r z = absurd z
loaded-rise low last (row ∷ rows) [] r z = absurd z
loaded-rise low last (row ∷ rows) (a ∷ accounts) r z =
    let at : a.id ≡ row.key = z.0.ids.id in let above : low < row.key = r.0 in
    (omega (arith, at, above), subst (λ k. Rise k (numbered (last + passwords_of a.secondary) accounts)) (sym at) (loaded-rise row.key (last + passwords_of a.secondary) rows accounts r.1 z.1))

named-loaded : (name : Name) (last : ℕ) (accounts : List Account) → find (is_named name) accounts ≡ None → find (is_named name) (numbered last accounts) ≡ None
named-loaded name last [] e = refl
named-loaded name last (a ∷ accounts) e =
    let p = passed (is_named name) a accounts e in
    passing (is_named name) (numbered_account last a) (numbered (last + passwords_of a.secondary) accounts) p.0
    (named-loaded name (last + passwords_of a.secondary) accounts p.1)

names-loaded : (last : ℕ) (accounts : List Account) → NamesDiffer accounts → NamesDiffer (numbered last accounts)
names-loaded last [] n = tt
names-loaded last (a ∷ accounts) n =
    (named-loaded a.name (last + passwords_of a.secondary) accounts n.0, names-loaded (last + passwords_of a.secondary) accounts n.1)

other-number : (m n : ℕ) → (m ≡ n → ⊥) → once_if (m == n) ≡ 0
other-number m n differ = ap once_if (ne_eqb m n differ)

-- a number up to the last that was given is none of theirs
unused-loaded : (n last : ℕ) (accounts : List Account) → n ≤ last → uses n (numbered last accounts) ≡ 0
unused-loaded n last [] h = refl
unused-loaded n last (a ∷ accounts) h = by a.secondary (unused-loaded n (last + passwords_of a.secondary) accounts (omega arith)) where
  by : (second : Option (Stored × ℕ)) → uses n (numbered (last + passwords_of second) accounts) ≡ 0
      → once_if (last + 1 == n) + once_if (has_password n (numbered_secondary (last + 2) second)) + uses n (numbered (last + passwords_of second) accounts) ≡ 0
  by None later = let own = other-number (last + 1) n (λ e. omega (arith, e, h)) in omega (arith, own, later)
  by (Some second) later =
      let own = other-number (last + 1) n (λ e. omega (arith, e, h)) in
      let other = other-number (last + 2) n (λ e. omega (arith, e, h)) in omega (arith, own, other, later)

once-loaded : (n last : ℕ) (accounts : List Account) → uses n (numbered last accounts) ≤ 1
once-loaded n last [] = omega arith
once-loaded n last (a ∷ accounts) =
    by a.secondary (last + 1 == n) (last + 2 == n) refl refl (once-loaded n (last + passwords_of a.secondary) accounts) where
      by : (second : Option (Stored × ℕ)) (b c : Bool) → (last + 1 == n) ≡ b → (last + 2 == n) ≡ c
          → uses n (numbered (last + passwords_of second) accounts) ≤ 1
          → once_if (last + 1 == n) + once_if (has_password n (numbered_secondary (last + 2) second)) + uses n (numbered (last + passwords_of second) accounts) ≤ 1
      by None true c is it later =
          let same : last + 1 ≡ n = eqb-true (last + 1) n is in let one : once_if (last + 1 == n) ≡ 1 = ap once_if is in
          let none = unused-loaded n (last + 1) accounts (omega (arith, same)) in omega (arith, one, none)
      by None false c is it later = let none : once_if (last + 1 == n) ≡ 0 = ap once_if is in omega (arith, none, later)
      by (Some second) true c is it later =
          let same : last + 1 ≡ n = eqb-true (last + 1) n is in let one : once_if (last + 1 == n) ≡ 1 = ap once_if is in
          let other = other-number (last + 2) n (λ e. omega (arith, e, same)) in
          let none = unused-loaded n (last + 2) accounts (omega (arith, same)) in omega (arith, one, other, none)
      by (Some second) false true is it later =
          let same : last + 2 ≡ n = eqb-true (last + 2) n it in let one : once_if (last + 2 == n) ≡ 1 = ap once_if it in
          let none : once_if (last + 1 == n) ≡ 0 = ap once_if is in
          let gone = unused-loaded n (last + 2) accounts (omega (arith, same)) in omega (arith, one, none, gone)
      by (Some second) false false is it later =
          let none : once_if (last + 1 == n) ≡ 0 = ap once_if is in let other : once_if (last + 2 == n) ≡ 0 = ap once_if it in
          omega (arith, none, other, later)

few-loaded : (last : ℕ) (rows : List Kept) (accounts : List Account) → AllZip IsRowOf rows accounts → AllByRecursion HasFewLabels (numbered last accounts)
few-loaded last [] [] z = tt
few-loaded last [] (a ∷ accounts) z = absurd z
few-loaded last (row ∷ rows) [] z = absurd z
few-loaded last (row ∷ rows) (a ∷ accounts) z = (z.0.fits.labels.0, few-loaded (last + passwords_of a.secondary) rows accounts z.1)

pub loaded-sound : LoadedAreSound
loaded-sound rows [] r l = opened-sound [] refl
loaded-sound [] (a ∷ accounts) r l = absurd l.records
loaded-sound (row ∷ rows) (a ∷ accounts) r l =
    let at : a.id ≡ row.key = l.records.0.ids.id in let least : 1 ≤ row.key = l.records.0.is_key.least in
    let second = passwords_of a.secondary in
    record {
      numbers = (omega (arith, at, least), subst (λ k. Rise k (numbered (0 + second) accounts)) (sym at) (loaded-rise row.key (0 + second) rows accounts r l.records.1));
      names = names-loaded 0 (a ∷ accounts) l.names;
      passwords = λ n. once-loaded n 0 (a ∷ accounts);
      labels = All-from_recursion HasFewLabels (numbered 0 (a ∷ accounts)) (few-loaded 0 (row ∷ rows) (a ∷ accounts) l.records);
    }
