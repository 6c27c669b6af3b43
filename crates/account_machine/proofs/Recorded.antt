-- Rows that are records, read from the front on.
use Rattle.std.proofs.Common.{◌≡◌, ◌≢◌, refl, ap, sym, ◌∙◌, ℕ, zero, suc, ◌+◌, ◌<◌, ◌≤◌, max, List, [], ◌∷◌, ◌++◌, length, take, drop, find, Bool, true, false, nat_lt, ltb-true, ltb-false, length-append, Option, Some, None, slice_get, slice_set, slice_index_or, option_map, Result, Ok, Err, IfErr, IsErrAnd, subst, arith, drop-cons}
use Rattle.std.specs.List.{AllZip}
use Rattle.std.proofs.lemmas.List.{length-take, map-append, take-append-drop, take-append-le, take_all, take_more}
use Rattle.std.proofs.lemmas.Option.{get_or_from_slice_get}
use Rattle.factor_chain.specs.declared.credentials.Stored.{Stored}
use Rattle.lg_outside.specs.declared.keepers.Row.{Row as Kept}
use Rattle.lg_base.specs.declared.names.Name.{Name}
use Rattle.account_rules.specs.declared.accounts.Account.{Account}
use Rattle.account_history.specs.Given.{greatest_given, secondary_id}
use Rattle.account_history.specs.Histories.{latest_moment, latest_past}
use Rattle.account_history.specs.Naming.{is_named}
use Rattle.account_history.specs.Sound.{NamesDiffer}
use Rattle.account_history.proofs.Numbered.{passed, passing}
use Rattle.account_history.proofs.Soundness.{names-created, named-back}
use Rattle.account_machine.specs.Loading.{AreLoadable, IsFault, IsFirstBad, IsRowFault, IsRowOf, Loads, Names, Refuses, last_number, loaded_accounts, numbered, numbered_account, numbered_rows, numbered_secondary, passwords_of}
use Rattle.account_machine.specs.Looks.{account_at, accounts_of, place_named}
use Rattle.account_machine.specs.Openings.{root_account}
use Rattle.account_machine.specs.Rows.{new_rows}
use Rattle.account_machine.specs.declared.loading.MachineFault.{MachineFault}
use Rattle.account_machine.specs.declared.loading.MachineFault.TheVariants.{BadRow, Memory}
use Rattle.account_machine.specs.declared.rows.Row.{Row}
use Rattle.account_machine.proofs.Found.{found-in}
use Rattle.account_machine.proofs.Places.{item-at}
use Rattle.account_machine.proofs.Replaced.{place-within}

-- ## Rows and accounts, one by one

zip-push : {A B : Type 0} (R : A → B → Type 0) (xs : List A) (ys : List B) (x : A) (y : B) → AllZip R xs ys → R x y
    → AllZip R (xs ++ x ∷ []) (ys ++ y ∷ [])
zip-push R [] [] x y all one = (one, tt)
zip-push R [] (b ∷ ys) x y all one = absurd all
zip-push R (a ∷ xs) [] x y all one = absurd all
zip-push R (a ∷ xs) (b ∷ ys) x y all one = (all.0, zip-push R xs ys x y all.1 one)

zip-take : {A B : Type 0} (R : A → B → Type 0) (n : ℕ) (xs : List A) (ys : List B) → AllZip R xs ys → AllZip R (take n xs) (take n ys)
zip-take R zero xs ys all = tt
zip-take R (suc n) [] [] all = tt
zip-take R (suc n) [] (b ∷ ys) all = absurd all
zip-take R (suc n) (a ∷ xs) [] all = absurd all
zip-take R (suc n) (a ∷ xs) (b ∷ ys) all = (all.0, zip-take R n xs ys all.1)

zip-split : {A B : Type 0} (R : A → B → Type 0) (xs : List A) (x : A) (ys : List B) → AllZip R (xs ++ x ∷ []) ys
    → (zs : List B) × (z : B) × (ys ≡ zs ++ z ∷ []) × AllZip R xs zs × R x z
zip-split R [] x [] all = absurd all
zip-split R [] x (b ∷ []) all = ([], b, refl, tt, all.0)
zip-split R [] x (b ∷ c ∷ ys) all = absurd all.1
zip-split R (a ∷ xs) x [] all = absurd all
zip-split {A} {B} R (a ∷ xs) x (b ∷ ys) all =
    let later = zip-split R xs x ys all.1 in
    (b ∷ later.0, later.1, ap (λ (zs : List B). b ∷ zs) later.2, (all.0, later.3), later.4)

-- the element behind a front, and one in it
at-end : {A : Type 0} (front : List A) (x d : A) (rest : List A) → slice_index_or (front ++ x ∷ rest) (length front) d ≡ x
at-end [] x d rest = refl
at-end (a ∷ front) x d rest = at-end front x d rest

in-front : {A : Type 0} (front more : List A) (i : ℕ) (d : A) → i < length front → slice_index_or (front ++ more) i d ≡ slice_index_or front i d
in-front [] more i d h = absurd (omega arith)
in-front (a ∷ front) more zero d h = refl
in-front (a ∷ front) more (suc i) d h = in-front front more i d (omega arith)

in-taken : {A : Type 0} (n : ℕ) (xs : List A) (i : ℕ) (d : A) → i < n → slice_index_or (take n xs) i d ≡ slice_index_or xs i d
in-taken zero xs i d h = absurd (omega arith)
in-taken (suc n) [] i d h = refl
in-taken (suc n) (x ∷ xs) zero d h = refl
in-taken (suc n) (x ∷ xs) (suc i) d h = in-taken n xs i d (omega arith)

-- one more row with a record whose name is new
pub loadable-more : (rows : List Kept) (accounts : List Account) (row : Kept) (a : Account) → AreLoadable rows accounts → IsRowOf row a
    → find (is_named a.name) accounts ≡ None → AreLoadable (rows ++ row ∷ []) (accounts ++ a ∷ [])
loadable-more rows accounts row a good one new = record {
  records = zip-push IsRowOf rows accounts row a good.records one;
  names = names-created a accounts new good.names;
}

-- an account at a place isn't one that a test found nowhere
none-at : (sought : Account → Bool) (accounts : List Account) (i : ℕ) (a : Account) → find sought accounts ≡ None → slice_get accounts i ≡ Some a
    → sought a ≡ false
none-at sought [] i a e f = absurd (cc)
none-at sought (b ∷ accounts) zero a e f = let same : b ≡ a = cc in subst (λ (x : Account). sought x ≡ false) same (passed sought b accounts e).0
none-at sought (b ∷ accounts) (suc i) a e f = none-at sought accounts i a (passed sought b accounts e).1 f

-- the account of the row at a place, whose name is new there
pub next-loadable : (rows : List Kept) (accounts : List Account) (i : ℕ) (d : Kept) → AllZip IsRowOf rows accounts → NamesDiffer accounts → i < length rows
    → (a : Account) × IsRowOf (slice_index_or rows i d) a × (find (is_named a.name) (take i accounts) ≡ None) × (slice_get accounts i ≡ Some a) × (i < length accounts)
next-loadable [] accounts i d all names h = absurd (omega arith)
next-loadable (row ∷ rows) [] i d all names h = absurd all
next-loadable (row ∷ rows) (b ∷ accounts) zero d all names h = (b, all.0, refl, refl, omega arith)
next-loadable (row ∷ rows) (b ∷ accounts) (suc i) d all names h =
    let later = next-loadable rows accounts i d all.1 names.1 (omega arith) in
    let a : Account = later.0 in
    let other : is_named a.name b ≡ false = named-back a b ∙ none-at (is_named b.name) accounts i a names.0 later.3 in
    (a, later.1, passing (is_named a.name) b (take i accounts) other later.2, later.3, (let k = later.4 in omega arith))

pub taken-more : (accounts : List Account) (i : ℕ) (a : Account) → i < length accounts → slice_get accounts i ≡ Some a
    → take (i + 1) accounts ≡ take i accounts ++ a ∷ []
taken-more accounts i a h e =
    take_more accounts i a h ∙ ap (λ (x : Account). take i accounts ++ x ∷ []) (get_or_from_slice_get accounts i a a e)

-- the accounts of new rows
pub accounts-new : (accounts : List Account) → accounts_of (new_rows accounts) ≡ accounts
accounts-new [] = refl
accounts-new (a ∷ accounts) = ap (λ rest. a ∷ rest) (accounts-new accounts)

zip-length : (rows : List Kept) (accounts : List Account) → AllZip IsRowOf rows accounts → length accounts ≡ length rows
zip-length [] [] all = refl
zip-length [] (a ∷ accounts) all = absurd all
zip-length (row ∷ rows) [] all = absurd all
zip-length (row ∷ rows) (a ∷ accounts) all = let later = zip-length rows accounts all.1 in omega arith

-- ## Rows that were read

-- as many rows as this were read, from the front on
pub record IsRead (kept : List Kept) (i : ℕ) (rows : List Row) : Type 0 where
  pub good : AreLoadable (take i kept) (accounts_of rows)
  pub new : rows ≡ new_rows (accounts_of rows)
  pub found : (accounts : List Account) → AreLoadable kept accounts → accounts_of rows ≡ take i accounts
  pub only : (n : ℕ) (accounts : List Account) → n ≤ i → AllZip IsRowOf (take n kept) accounts → accounts ≡ take n (accounts_of rows)

no-account : (n : ℕ) (kept : List Kept) (accounts : List Account) → n ≤ 0 → AllZip IsRowOf (take n kept) accounts → accounts ≡ take n []
no-account zero kept [] h all = refl
no-account zero kept (a ∷ accounts) h all = absurd all
no-account (suc n) kept accounts h all = absurd (omega arith)

pub none-read : (kept : List Kept) → IsRead kept 0 []
none-read kept = record {
  good = record { records = tt; names = tt };
  new = refl;
  found = λ accounts good. refl;
  only = λ n accounts h all. no-account n kept accounts h all;
}

module _ (kept : List Kept) (i : ℕ) (item : Kept) (rows : List Row) (h : i < length kept) (is : item ≡ slice_index_or kept i item) (read : IsRead kept i rows) where
  -- the next account of rows that can be loaded
  next-account : (accounts : List Account) → AreLoadable kept accounts
      → (a : Account) × IsRowOf item a × (find (is_named a.name) (accounts_of rows) ≡ None) × (take (i + 1) accounts ≡ accounts_of rows ++ a ∷ [])
  next-account accounts good =
      let next = next-loadable kept accounts i item good.records good.names h in
      let a : Account = next.0 in
      let same = read.found accounts good in (
        a,
        subst (λ (row : Kept). IsRowOf row a) (sym is) next.1,
        ap (λ (before : List Account). find (is_named a.name) before) same ∙ next.2,
        taken-more accounts i a next.4 next.3 ∙ ap (λ (before : List Account). before ++ a ∷ []) (sym same),
      )

  front : take (i + 1) kept ≡ take i kept ++ item ∷ []
  front = take_more kept i item h ∙ ap (λ (x : Kept). take i kept ++ x ∷ []) (sym is)

  long : length (accounts_of rows) ≡ i
  long = let same = zip-length (take i kept) (accounts_of rows) read.good.records in let taken = length-take i kept in omega arith

  -- the accounts of as many rows and one more
  only-more : (account : Account) → ((a : Account) → IsRowOf item a → account ≡ a) → (n : ℕ) (accounts : List Account) → n ≤ i + 1
      → AllZip IsRowOf (take n kept) accounts → accounts ≡ take n (accounts_of rows ++ account ∷ [])
  only-more account every n accounts few all = cases (nat_lt i n) refl where
    last : n ≡ i + 1 → accounts ≡ take n (accounts_of rows ++ account ∷ [])
    last e =
        let split = zip-split IsRowOf (take i kept) item accounts (subst (λ (ks : List Kept). AllZip IsRowOf ks accounts) (ap (λ m. take m kept) e ∙ front) all) in
        let before : split.0 ≡ accounts_of rows = read.only i split.0 (omega arith) split.3 ∙ take_all i (accounts_of rows) (omega (arith, long)) in
        let more = length-append (accounts_of rows) (account ∷ []) in
        split.2 ∙ ap (λ (xs : List Account). xs ++ split.1 ∷ []) before ∙ ap (λ (x : Account). accounts_of rows ++ x ∷ []) (sym (every split.1 split.4))
        ∙ sym (take_all n (accounts_of rows ++ account ∷ []) (omega (arith, long, more, e)))

    cases : (b : Bool) → nat_lt i n ≡ b → accounts ≡ take n (accounts_of rows ++ account ∷ [])
    cases true e = last (let above = ltb-true i n e in omega arith)
    cases false e =
        let below = ltb-false i n e in
        read.only n accounts (omega arith) all ∙ sym (take-append-le n (accounts_of rows) (account ∷ []) (omega (arith, long, below)))

  -- one more row is read
  pub read-more : (account : Account) (row : Row) (more : List Row) → IsRowOf item account → find (is_named account.name) (accounts_of rows) ≡ None
      → ((a : Account) → IsRowOf item a → account ≡ a)
      → row ≡ record { account = account; tally = record { count = 0; locked = None } } → more ≡ rows ++ row ∷ [] → IsRead kept (i + 1) more
  read-more account row more one new every r m =
      let added : accounts_of more ≡ accounts_of rows ++ account ∷ [] =
      ap accounts_of m ∙ map-append (λ (x : Row). x.account) rows (row ∷ []) ∙ ap (λ (x : Row). accounts_of rows ++ x.account ∷ []) r in
      record {
        good = subst (λ (ks : List Kept). AreLoadable ks (accounts_of more)) (sym front)
            (subst (λ (accounts : List Account). AreLoadable (take i kept ++ item ∷ []) accounts) (sym added)
            (loadable-more (take i kept) (accounts_of rows) item account read.good one new));
        new = m ∙ ap (λ (x : Row). rows ++ x ∷ []) r
            ∙ ap (λ (rs : List Row). rs ++ record { account = account; tally = record { count = 0; locked = None } } ∷ []) read.new
            ∙ sym (map-append _ (accounts_of rows) (account ∷ []))
            ∙ ap new_rows (sym added);
        found = λ accounts good.
            let next = next-account accounts good in
            added ∙ ap (λ (x : Account). accounts_of rows ++ x ∷ []) (every next.0 next.1) ∙ sym next.3;
        only = λ n accounts few all. only-more account every n accounts few all ∙ ap (λ (xs : List Account). take n xs) (sym added);
      }

  -- a row that isn't read is the first bad one, unless memory was wanting
  pub first-bad : (fault : MachineFault) → IsRowFault (accounts_of rows) item fault → IsFault kept fault
  first-bad (BadRow key) bad = record {
    before = take i kept;
    row = item;
    rest = drop (suc i) kept;
    accounts = accounts_of rows;
    stands = sym (take-append-drop i kept) ∙ ap (λ (ks : List Kept). take i kept ++ ks) (drop-cons kept i item h ∙ ap (λ (x : Kept). x ∷ drop (suc i) kept) (sym is));
    good = read.good;
    bad = bad.0;
    its_key = bad.1;
  }
  first-bad Memory bad = tt

  -- and where the rows can be loaded, memory was wanting
  pub wanting : (fault : MachineFault) → ((a : Account) → IsRowOf item a → find (is_named a.name) (accounts_of rows) ≡ None → fault ≡ Memory)
      → (accounts : List Account) → AreLoadable kept accounts → fault ≡ Memory
  wanting fault only accounts good = let next = next-account accounts good in only next.0 next.1 next.2

-- ## The first bad row

module _ (kept : List Kept) (i : ℕ) (rows : List Row) (h : i ≤ length kept) (read : IsRead kept i rows) (key : ℕ) (first : IsFirstBad kept key) where
  taken-front : (n : ℕ) → n ≤ length first.before → take n kept ≡ take n first.before
  taken-front n few = ap (λ (ks : List Kept). take n ks) first.stands ∙ take-append-le n first.before (first.row ∷ first.rest) few

  -- it isn't read
  unread : length first.before < i → ⊥
  unread behind =
      let n : ℕ = length first.before in
      let same : first.accounts ≡ take n (accounts_of rows) =
      read.only n first.accounts (omega arith)
      (subst (λ (ks : List Kept). AllZip IsRowOf ks first.accounts) (sym (taken-front n (omega arith) ∙ take_all n first.before (omega arith))) first.good.records) in
      let taken = length-take i kept in
      let next = next-loadable (take i kept) (accounts_of rows) n first.row read.good.records read.good.names (omega arith) in
      let row : slice_index_or (take i kept) n first.row ≡ first.row =
      in-taken i kept n first.row behind ∙ ap (λ (ks : List Kept). slice_index_or ks n first.row) first.stands ∙ at-end first.before first.row first.row first.rest in
      first.bad next.0 (subst (λ (k : Kept). IsRowOf k next.0) row next.1)
      (ap (λ (accounts : List Account). find (is_named next.0.name) accounts) same ∙ next.2)

  -- where all rows are read there is none
  pub all-good : length kept ≤ i → ⊥
  all-good whole =
      let long : length kept ≡ length first.before + suc (length first.rest) =
      ap (λ (ks : List Kept). length ks) first.stands ∙ length-append first.before (first.row ∷ first.rest) in
      unread (omega (arith, long))

  -- and a row that isn't read is it, unless memory was wanting
  pub refused-first : (item : Kept) → item ≡ slice_index_or kept i item → (fault : MachineFault) → IsRowFault (accounts_of rows) item fault
      → ((a : Account) → IsRowOf item a → find (is_named a.name) (accounts_of rows) ≡ None → fault ≡ Memory) → Names key fault
  refused-first item is fault bad wants = cases (nat_lt i (length first.before)) refl (nat_lt (length first.before) i) refl where
    earlier : i < length first.before → fault ≡ Memory
    earlier before =
        let next = next-loadable first.before first.accounts i item first.good.records first.good.names before in
        let row : slice_index_or first.before i item ≡ item =
        sym (in-front first.before (first.row ∷ first.rest) i item before) ∙ ap (λ (ks : List Kept). slice_index_or ks i item) (sym first.stands) ∙ sym is in
        let same : take i first.accounts ≡ take i (accounts_of rows) =
        read.only i (take i first.accounts) (omega arith)
        (subst (λ (ks : List Kept). AllZip IsRowOf ks (take i first.accounts)) (sym (taken-front i (omega arith)))
        (zip-take IsRowOf i first.before first.accounts first.good.records)) in
        let long = zip-length (take i kept) (accounts_of rows) read.good.records in let taken = length-take i kept in
        let whole : take i (accounts_of rows) ≡ accounts_of rows = take_all i (accounts_of rows) (omega arith) in
        wants next.0 (subst (λ (k : Kept). IsRowOf k next.0) row next.1)
        (ap (λ (accounts : List Account). find (is_named next.0.name) accounts) (sym (same ∙ whole)) ∙ next.2)

    here : i ≡ length first.before → (f : MachineFault) → IsRowFault (accounts_of rows) item f → Names key f
    here e (BadRow named) bad =
        let row : item ≡ first.row =
        is ∙ ap (λ (ks : List Kept). slice_index_or ks i item) first.stands ∙ ap (λ n. slice_index_or (first.before ++ first.row ∷ first.rest) n item) e
        ∙ at-end first.before first.row item first.rest in
        sym bad.1 ∙ ap (λ (k : Kept). k.key) row ∙ first.its_key
    here e Memory bad = tt

    cases : (b : Bool) → nat_lt i (length first.before) ≡ b → (c : Bool) → nat_lt (length first.before) i ≡ c → Names key fault
    cases true e c f = subst (λ (x : MachineFault). Names key x) (sym (earlier (ltb-true i (length first.before) e))) tt
    cases false e true f = absurd (unread (ltb-true (length first.before) i f))
    cases false e false f = here (let above = ltb-false i (length first.before) e in let below = ltb-false (length first.before) i f in omega arith) fault bad

-- a fault that is handed on
pub handed-first : {A : Type 0} (result : Result A MachineFault) (key : ℕ) (fault : MachineFault) → IsErrAnd result (λ given. given ≡ fault)
    → Names key fault → Refuses key result
handed-first (Err given) key fault is names = subst (λ (x : MachineFault). Names key x) (sym is) names
handed-first (Ok made) key fault is names = absurd is

pub handed-bad : {A : Type 0} (result : Result A MachineFault) (kept : List Kept) (fault : MachineFault) → IsErrAnd result (λ given. given ≡ fault)
    → IsFault kept fault → IfErr result (IsFault kept)
handed-bad (Err given) kept fault is bad = subst (IsFault kept) (sym is) bad
handed-bad (Ok made) kept fault is bad = absurd is

pub handed-memory : {A : Type 0} (Is : A → Type 0) (result : Result A MachineFault) (fault : MachineFault) → IsErrAnd result (λ given. given ≡ fault)
    → fault ≡ Memory → Loads Is result
handed-memory Is (Err given) fault is e = is ∙ e
handed-memory Is (Ok made) fault is e = absurd is

-- an account of this name stands among the rows, or none does
pub name-taken : (rows : List Row) (name : Name) (place : ℕ) → place_named rows name ≡ Some place → find (is_named name) (accounts_of rows) ≡ None → ⊥
name-taken rows name place p e =
    let found = item-at rows place (place-within (λ (row : Row). is_named name row.account) rows place p) in
    let there : find (is_named name) (accounts_of rows) ≡ Some found.0.account =
    sym (found-in rows (is_named name)) ∙ ap (λ q. account_at rows q) p ∙ ap (λ r. option_map (λ (x : Row). x.account) r) found.1 in
    cc

pub name-new : (rows : List Row) (name : Name) → place_named rows name ≡ None → find (is_named name) (accounts_of rows) ≡ None
name-new rows name p = sym (found-in rows (is_named name)) ∙ ap (λ q. account_at rows q) p

pub all-read : (kept : List Kept) (i : ℕ) (rows : List Row) → length kept ≤ i → IsRead kept i rows → AreLoadable kept (accounts_of rows)
all-read kept i rows h read = subst (λ (ks : List Kept). AreLoadable ks (accounts_of rows)) (take_all i kept h) read.good

pub all-found : (kept : List Kept) (i : ℕ) (rows : List Row) → length kept ≤ i → IsRead kept i rows
    → (accounts : List Account) → AreLoadable kept accounts → accounts_of rows ≡ accounts
all-found kept i rows h read accounts good =
    let same = zip-length kept accounts good.records in read.found accounts good ∙ take_all i accounts (omega arith)

-- where there is a row there is an account
pub loaded-some : (rows : List Row) → length rows ≢ 0 → loaded_accounts (accounts_of rows) ≡ numbered 0 (accounts_of rows)
loaded-some [] h = absurd (h refl)
loaded-some (row ∷ rows) h = refl

pub loaded-none : (rows : List Row) → length rows ≡ 0 → loaded_accounts (accounts_of rows) ≡ root_account ∷ []
loaded-none [] h = refl
loaded-none (row ∷ rows) h = absurd (omega arith)

-- ## Numbers of passwords

pub numbered-more : (last : ℕ) (rows : List Row) (i : ℕ) (d : Row) → i < length rows
    → slice_set (numbered_rows last (take i rows) ++ drop i rows) i
    (record (slice_index_or (numbered_rows last (take i rows) ++ drop i rows) i d) {
      account = numbered_account (last_number last (accounts_of (take i rows))) (slice_index_or (numbered_rows last (take i rows) ++ drop i rows) i d).account;
    })
    ≡ numbered_rows last (take (suc i) rows) ++ drop (suc i) rows
numbered-more last [] i d h = absurd (omega arith)
numbered-more last (row ∷ rows) zero d h = refl
numbered-more last (row ∷ rows) (suc i) d h =
    ap (λ (rest : List Row). record row { account = numbered_account last row.account } ∷ rest)
    (numbered-more (last + passwords_of row.account.secondary) rows i d (omega arith))

-- the row at the place that comes next is still the one that stood there
pub still-there : (last : ℕ) (rows : List Row) (i : ℕ) (d : Row) → i < length rows
    → slice_index_or (numbered_rows last (take i rows) ++ drop i rows) i d ≡ slice_index_or rows i d
still-there last [] i d h = absurd (omega arith)
still-there last (row ∷ rows) zero d h = refl
still-there last (row ∷ rows) (suc i) d h = still-there (last + passwords_of row.account.secondary) rows i d (omega arith)

pub last-more : (last : ℕ) (rows : List Row) (i : ℕ) (d : Row) → i < length rows
    → last_number last (accounts_of (take (suc i) rows)) ≡ last_number last (accounts_of (take i rows)) + passwords_of (slice_index_or rows i d).account.secondary
last-more last [] i d h = absurd (omega arith)
last-more last (row ∷ rows) zero d h = refl
last-more last (row ∷ rows) (suc i) d h = last-more (last + passwords_of row.account.secondary) rows i d (omega arith)

pub few-passwords : (secondary : Option (Stored × ℕ)) → (1 ≤ passwords_of secondary) × (passwords_of secondary ≤ 2)
few-passwords None = (omega arith, omega arith)
few-passwords (Some second) = (omega arith, omega arith)

-- rows of accounts, numbered, are the rows of the numbered accounts
pub numbered-new : (last : ℕ) (accounts : List Account) → numbered_rows last (new_rows accounts) ≡ new_rows (numbered last accounts)
numbered-new last [] = refl
numbered-new last (a ∷ accounts) =
    ap (λ (rest : List Row). record { account = numbered_account last a; tally = record { count = 0; locked = None } } ∷ rest)
    (numbered-new (last + passwords_of a.secondary) accounts)

-- numbering keeps the greatest number of an account and the latest moment, and gives the last number as the greatest
pub numbered-greatest : (last : ℕ) (accounts : List Account) → (greatest_given (numbered last accounts)).account ≡ (greatest_given accounts).account
numbered-greatest last [] = refl
numbered-greatest last (a ∷ accounts) = ap (λ n. max a.id n) (numbered-greatest (last + passwords_of a.secondary) accounts)

pub numbered-moment : (last : ℕ) (accounts : List Account) → latest_moment (numbered last accounts) ≡ latest_moment accounts
numbered-moment last [] = refl
numbered-moment last (a ∷ accounts) =
    ap (λ n. max (max a.changed (latest_past a.past)) n) (numbered-moment (last + passwords_of a.secondary) accounts)

own-last : (last : ℕ) (secondary : Option (Stored × ℕ)) → max (last + 1) (secondary_id (numbered_secondary (last + 2) secondary)) ≡ last + passwords_of secondary
own-last last None = omega arith
own-last last (Some second) = omega arith

pub numbered-last : (last : ℕ) (accounts : List Account) → max last (greatest_given (numbered last accounts)).credential ≡ last_number last accounts
numbered-last last [] = omega arith
numbered-last last (a ∷ accounts) =
    let later = numbered-last (last + passwords_of a.secondary) accounts in
    let own = own-last last a.secondary in
    let some = (few-passwords a.secondary).0 in omega arith
