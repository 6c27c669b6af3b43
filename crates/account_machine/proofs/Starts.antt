-- The accounts of a start, without entries.
use Rattle.std.proofs.Common.{◌≡◌, refl, ap, sym, ◌∙◌, ℕ, ◌+◌, ◌<◌, max, List, [], ◌∷◌, ◌++◌, length, map, subst, arith, Bool, true, false, not, ◌&&◌, ◌==◌, nat_le, codes, if◌then◌else◌, take, get_or, None, All, length-take-le}
use Rattle.std.specs.List.{list_any}
use Rattle.std.specs.Str.{bytes_eq}
use Rattle.std.proofs.lemmas.List.{map-append, take_more}
use Rattle.account_rules.specs.declared.accounts.Account.{Account}
use Rattle.account_rules.specs.declared.accounts.Settings.{Settings}
use Rattle.account_history.specs.declared.entries.Opening.{Opening}
use Rattle.account_history.specs.declared.entries.Log.{Log}
use Rattle.account_history.specs.declared.entries.Start.{Start}
use Rattle.account_history.specs.Histories.{From, history, latest_moment}
use Rattle.factor_chain.specs.declared.credentials.Method.{Method}
use Rattle.factor_chain.specs.declared.credentials.Method.TheVariants as method
use Rattle.factor_chain.specs.declared.credentials.Stored.{Stored}
use Rattle.factor_chain.specs.declared.credentials.Stored.TheVariants as stored
use Rattle.native_scramble.specs.Native.{native_stage2}
use Rattle.account_keeper.specs.Record.{FitsRecord, LabelFits, PasswordFits, PastFits, UserFits}
use Rattle.account_history.specs.Refusals.{has_zero}
use Rattle.account_machine.specs.Openings.{are_openings, is_opening, is_opening_password, is_opening_user, native_accounts, native_stored, opening_accounts, opening_start, plain_account, root_account}
use Rattle.account_machine.specs.Rows.{Rise, new_rows, row_of}
use Rattle.account_machine.specs.Counting.{stamp_in}
use Rattle.account_machine.specs.declared.executing.Numbers.{Numbers}
use Rattle.account_machine.specs.declared.stamps.Stamps.{Stamps}
use Rattle.account_machine.specs.Stands.{Stands}
use Rattle.account_machine.specs.declared.rows.Row.{Row}
use Rattle.std.proofs.lemmas.List.Elements.{All-cons, All-from_recursion, All-nil, recursion_from_All}
use Rattle.account_history.specs.Given.{greatest_given}
use Rattle.account_history.proofs.Numbered.{numbers-rise}
use Rattle.account_machine.specs.Fitting.{FitsAt}
use Rattle.account_machine.proofs.Fitted.{and-both, at-most, no-zero, not-false, stage2-digest}
use Rattle.account_machine.proofs.Holding.{begun-holds}

-- the native accounts with one more
pub native-more : (id : ℕ) (xs : List Opening) (x : Opening)
    → native_accounts id (xs ++ x ∷ []) ≡ native_accounts id xs ++ plain_account (id + length xs) x.user method.Native (native_stored x.password) false ∷ []
native-more id [] x = ap (λ (n : ℕ). plain_account n x.user method.Native (native_stored x.password) false ∷ []) (omega arith)
native-more id (first ∷ xs) x =
    ap (λ rest. plain_account id first.user method.Native (native_stored first.password) false ∷ rest)
    (native-more (id + 1) xs x
    ∙ ap (λ (n : ℕ). native_accounts (id + 1) xs ++ plain_account n x.user method.Native (native_stored x.password) false ∷ []) (omega arith))

native-moment : (id : ℕ) (xs : List Opening) → latest_moment (native_accounts id xs) ≡ 0
native-moment id [] = refl
native-moment id (x ∷ xs) = ap (λ (n : ℕ). max 0 n) (native-moment (id + 1) xs)

pub native-rise : (low id : ℕ) (xs : List Opening) → low < id → Rise low (native_accounts id xs)
native-rise low id [] h = tt
native-rise low id (x ∷ xs) h = (h, native-rise id (id + 1) xs (omega arith))

-- the greatest numbers of native accounts behind a lower one
native-given : (low : ℕ) (xs : List Opening)
    → (max low (greatest_given (native_accounts (low + 1) xs)).account ≡ low + length xs)
    × (max low (greatest_given (native_accounts (low + 1) xs)).credential ≡ low + length xs)
native-given low [] = (omega arith, omega arith)
native-given low (x ∷ xs) =
    let more = native-given (low + 1) xs in let a = more.0 in let c = more.1 in
    (omega (arith, a), omega (arith, c))

plain-fits : (id : ℕ) (user : List ℕ) (m : Method) (kept : Stored) (privileged : Bool) → UserFits user → PasswordFits m kept
    → FitsRecord (plain_account id user m kept privileged)
plain-fits id user m kept privileged u p = record {
  user = u;
  primary = p;
  secondary = tt;
  labels = (omega arith, All-nil LabelFits);
  changed = omega arith;
  lifetime = tt;
  history = tt;
  reuse = tt;
  attempts = omega arith;
  lock_time = omega arith;
  past = (omega arith, All-nil PastFits, tt);
}

pub root-fits : FitsRecord root_account
root-fits = plain-fits 1 (codes "root") method.CachingSha2 stored.Empty true (omega arith, omega arith, no-zero (codes "root") refl) (tt, tt)

native-password : (password : List ℕ) → PasswordFits method.Native (native_stored password)
native-password password = cases (length password == 0) where
  cases : (b : Bool) → PasswordFits method.Native (if b then stored.Empty else stored.Native (native_stage2 password))
  cases true = (tt, tt)
  cases false = (tt, stage2-digest password)

opening-user : (user : List ℕ) → is_opening_user user ≡ true → UserFits user
opening-user user e =
    let first = and-both (nat_le 1 (length user) && nat_le (length user) 32 && not (has_zero user)) (not (bytes_eq user (codes "root"))) e in
    let second = and-both (nat_le 1 (length user) && nat_le (length user) 32) (not (has_zero user)) first.0 in
    let third = and-both (nat_le 1 (length user)) (nat_le (length user) 32) second.0 in
    (at-most 1 (length user) third.0, at-most (length user) 32 third.1, no-zero user (not-false (has_zero user) second.1))

native-fits : (id : ℕ) (xs : List Opening) → are_openings xs ≡ true → All FitsRecord (native_accounts id xs)
native-fits id [] e = All-nil FitsRecord
native-fits id (x ∷ xs) e =
    let first = and-both (is_opening x && not (list_any (λ (other : Opening). bytes_eq x.user other.user) xs)) (are_openings xs) e in
    let second = and-both (is_opening x) (not (list_any (λ (other : Opening). bytes_eq x.user other.user) xs)) first.0 in
    let third = and-both (is_opening_user x.user) (is_opening_password x.password) second.0 in
    All-cons FitsRecord (plain_account id x.user method.Native (native_stored x.password) false) (native_accounts (id + 1) xs)
    (plain-fits id x.user method.Native (native_stored x.password) false (opening-user x.user third.0) (native-password x.password))
    (native-fits (id + 1) xs first.1)

pub opening-fits : (extra : List Opening) → are_openings extra ≡ true → All FitsRecord (opening_accounts extra)
opening-fits extra e = All-cons FitsRecord root_account (native_accounts 2 extra) root-fits (native-fits 2 extra e)

-- each account of a start fits at the newest of their moments
pub start-fits : (accounts : List Account) → All FitsRecord accounts → All (FitsAt (latest_moment accounts)) accounts
start-fits accounts fits =
    All-from_recursion (FitsAt (latest_moment accounts)) accounts
    (begun-holds (latest_moment accounts) accounts (omega arith) (recursion_from_All FitsRecord accounts fits))

pub rows-new : (log : Log) (accounts : List Account) → new_rows accounts ≡ map (row_of (From log.start)) accounts
rows-new log [] = refl
rows-new log (account ∷ accounts) = ap (λ (rows : List Row). row_of (From log.start) account ∷ rows) (rows-new log accounts)

pub stands-opening : (extra : List Opening) (settings : Settings) (rows : List Row) (numbers : Numbers) (stamps : Stamps) (log : Log) → are_openings extra ≡ true → rows ≡ new_rows (opening_accounts extra)
    → ((user : List ℕ) → stamp_in stamps user ≡ 0)
    → numbers.account ≡ length extra + 1 → numbers.credential ≡ length extra + 1 → log ≡ record { start = opening_start extra settings; entries = [] } → Stands rows settings 0 numbers stamps 0 (history log)
stands-opening extra settings rows numbers stamps log o r z m n e =
    let P : Log → Type 0 = λ l. Stands rows settings 0 numbers stamps 0 (history l) in
    let first : Log = record { start = opening_start extra settings; entries = [] } in
    subst P (sym e) (record {
      same_rows = r ∙ rows-new first (opening_accounts extra);
      same_settings = refl;
      same_moment = sym (ap (λ (n : ℕ). max 0 n) (native-moment 2 extra));
      same_stamps = record { same = z; most = λ user. omega arith };
      same_numbers =
          let a = (native-given 1 extra).0 in let c = (native-given 1 extra).1 in
          let account : numbers.account ≡ max 1 (greatest_given (native_accounts 2 extra)).account = omega (arith, a, m) in
          let credential : numbers.credential ≡ max 1 (greatest_given (native_accounts 2 extra)).credential = omega (arith, c, n) in
          λ i. record { account = account i; credential = credential i };
      rising = (omega arith, native-rise 1 2 extra (omega arith));
      up_to = numbers-rise (From (opening_start extra settings)) (omega arith, native-rise 1 2 extra (omega arith));
      fits = start-fits (opening_accounts extra) (opening-fits extra o);
      legal = tt;
    })

-- the rows of a start with one account more
pub rows-more : (extra : List Opening) (i : ℕ) (item : Opening) (rows new : List Row) (id : ℕ) (row : Row) → i < length extra → item ≡ get_or extra i item
    → rows ≡ new_rows (opening_accounts (take i extra)) → id ≡ 2 + i
    → row ≡ record { account = plain_account id item.user method.Native (native_stored item.password) false; tally = record { count = 0; locked = None } }
    → new ≡ rows ++ row ∷ [] → new ≡ new_rows (opening_accounts (take (i + 1) extra))
rows-more extra i item rows new id row h is r e w n =
    let shorter : List Opening = take i extra in
    let fresh : ℕ → List Row = λ k. record { account = plain_account k item.user method.Native (native_stored item.password) false; tally = record { count = 0; locked = None } } ∷ [] in
    let number : id ≡ 2 + length (take i extra) = let long = length-take-le i extra (omega arith) in omega arith in
    n
    ∙ ap (λ (rs : List Row). rs ++ row ∷ []) r
    ∙ ap (λ (x : Row). new_rows (opening_accounts shorter) ++ x ∷ []) w
    ∙ ap (λ k. new_rows (opening_accounts shorter) ++ fresh k) number
    ∙ ap (λ rest. new_rows (opening_accounts []) ++ rest) (sym (map-append _ (native_accounts 2 shorter) (plain_account (2 + length (take i extra)) item.user method.Native (native_stored item.password) false ∷ [])))
    ∙ ap (λ accounts. new_rows (opening_accounts [] ++ accounts)) (sym (native-more 2 shorter item))
    ∙ ap (λ (os : List Opening). new_rows (opening_accounts os)) (ap (λ (x : Opening). take i extra ++ x ∷ []) is ∙ sym (take_more extra i item h))

-- another count of the keeper's faults at the start changes nothing that is kept
pub stands-counted : (rows : List Row) (settings : Settings) (now : ℕ) (numbers : Numbers) (stamps : Stamps) (changes : ℕ) (log log' : Log) (count : ℕ)
    → log.entries ≡ [] → Stands rows settings now numbers stamps changes (history log)
    → log' ≡ record { start = record log.start { count = count }; entries = [] } → Stands rows settings now numbers stamps changes (history log')
stands-counted rows settings now numbers stamps changes log log' count e s f =
    let P : Log → Type 0 = λ l. Stands rows settings now numbers stamps changes (history l) in
    let begun : Log = record { start = log.start; entries = [] } in
    let same : log ≡ begun = λ i. record { start = log.start; entries = e i } in
    let t : Stands rows settings now numbers stamps changes (history begun) = subst P same s in
    subst P (sym f) (record {
      same_rows = t.same_rows ∙ rows-counted log.start count log.start.accounts;
      same_settings = t.same_settings;
      same_moment = t.same_moment;
      same_stamps = record { same = t.same_stamps.same; most = t.same_stamps.most };
      same_numbers = t.same_numbers;
      rising = t.rising;
      up_to = t.up_to;
      fits = t.fits;
      legal = tt;
    }) where
      rows-counted : (start : Start) (count : ℕ) (accounts : List Account)
          → map (row_of (From start)) accounts ≡ map (row_of (From (record start { count = count }))) accounts
      rows-counted start count [] = refl
      rows-counted start count (a ∷ accounts) = ap (λ (rows : List Row). row_of (From start) a ∷ rows) (rows-counted start count accounts)
