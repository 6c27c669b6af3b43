-- The rows that a keeper tells after a run are the records of the accounts.
use Rattle.std.proofs.Common.{◌≡◌, refl, ap, sym, ◌∙◌, ℕ, ◌+◌, ◌<◌, ◌≤◌, max, List, [], ◌∷◌, ◌++◌, find, cond, Bool, true, false, if◌then◌else◌, Option, Some, None, arith}
use Rattle.std.proofs.lemmas.List.{map-append}
use Rattle.lg_outside.specs.Keeping.{RiseAbove, put_row}
use Rattle.lg_outside.specs.declared.keepers.Row.{Row as Kept}
use Rattle.account_rules.specs.declared.accounts.Account.{Account}
use Rattle.account_keeper.specs.Record.{record_text}
use Rattle.account_keeper.proofs.RowLaws.{above_all, below_first, below_none, not_above_first, not_below_first}
use Rattle.stmt_rules.specs.declared.statement.Statement.{Statement}
use Rattle.stmt_rules.specs.declared.statement.Statement.TheVariants.{Create, Alter, Drop, Flush, Grant, Revoke}
use Rattle.account_history.specs.declared.entries.Entry.TheVariants.{Observed, Attempted, Executed}
use Rattle.account_history.specs.Effects.{altered, created, effect_of, granted, revoked, with_changed, without}
use Rattle.account_history.specs.Given.{Given, given, is_done}
use Rattle.account_history.specs.Histories.{From, ◌▹◌, moment}
use Rattle.account_history.specs.Naming.{is_named}
use Rattle.account_history.specs.Numbers.{Rise, RiseTo}
use Rattle.account_history.specs.Records.{records}
use Rattle.account_history.specs.Targets.{is_target}
use Rattle.account_history.proofs.Numbered.{numbers-rise, rise-of, same-id}
use Rattle.account_machine.specs.Executing.{kept_after, put_account, put_target, remove_target}
use Rattle.account_machine.specs.Restarts.{RowsAreRecords, row_kept, rows_kept, rows_after}
use Rattle.account_machine.proofs.Executed.{found-above}

-- the rows of accounts whose numbers rise have keys that rise
pub kept-rise : (low : ℕ) (accounts : List Account) → Rise low accounts → RiseAbove low (rows_kept accounts)
kept-rise low [] r = tt
kept-rise low (a ∷ accounts) r = (r.0, kept-rise a.id accounts r.1)

-- a row behind the last
put-last : (low high : ℕ) (a : Account) (accounts : List Account) → RiseTo low high accounts → high < a.id
    → put_account a (rows_kept accounts) ≡ rows_kept accounts ++ row_kept a ∷ []
put-last low high a [] r h = refl
put-last low high a (b ∷ accounts) r h =
    let later = put-last b.id high a accounts r.1 h in
    let lower = below-top b.id high accounts r.1 in
    let below = below_first a.id (row_kept b) (rows_kept accounts) (omega arith) in
    let above = not_above_first a.id (row_kept b) (rows_kept accounts) (omega arith) in
    rw (below, above) (ap (λ (rows : List Kept). row_kept b ∷ rows) later) where
      below-top : (low high : ℕ) (accounts : List Account) → RiseTo low high accounts → low ≤ high
      below-top low high [] r = r
      below-top low high (a ∷ accounts) r = let k = below-top a.id high accounts r.1 in let l : low < a.id = r.0 in omega arith

-- a row in place of the first
put-first : (key : ℕ) (bytes : List ℕ) (a : Account) (accounts : List Account) → key ≡ a.id → Rise a.id accounts
    → put_row key bytes (row_kept a ∷ rows_kept accounts) ≡ record { key = key; bytes = bytes } ∷ rows_kept accounts
put-first key bytes a accounts e r =
    let rise = kept-rise a.id accounts r in
    let below = not_below_first key (row_kept a) (rows_kept accounts) (omega arith) ∙ below_none key a.id (rows_kept accounts) (omega arith) rise in
    let above = not_above_first key (row_kept a) (rows_kept accounts) (omega arith) ∙ above_all key a.id (rows_kept accounts) (omega arith) rise in
    rw (below, above) refl

-- a row behind the first
put-later : (key : ℕ) (bytes : List ℕ) (a : Account) (accounts : List Account) → a.id < key
    → put_row key bytes (row_kept a ∷ rows_kept accounts) ≡ row_kept a ∷ put_row key bytes (rows_kept accounts)
put-later key bytes a accounts h =
    let below = below_first key (row_kept a) (rows_kept accounts) h in
    let above = not_above_first key (row_kept a) (rows_kept accounts) (omega arith) in
    rw (below, above) refl

put-changed : (test : Account → Bool) (change : Account → Account) → ((a : Account) → (change a).id ≡ a.id) → (low : ℕ) (accounts : List Account)
    → Rise low accounts → put_target change (find test accounts) (rows_kept accounts) ≡ rows_kept (with_changed test change accounts)
put-changed test change same low [] r = refl
put-changed test change same low (a ∷ accounts) r = cases (test a) (put-changed test change same a.id accounts r.1) where
  later : (found : Option Account) → find test accounts ≡ found
      → put_target change found (rows_kept accounts) ≡ rows_kept (with_changed test change accounts)
      → put_target change found (row_kept a ∷ rows_kept accounts) ≡ row_kept a ∷ rows_kept (with_changed test change accounts)
  later None e rest = ap (λ (rows : List Kept). row_kept a ∷ rows) rest
  later (Some b) e rest =
      let above = found-above test a.id accounts b r.1 e in
      let key = same b in
      put-later (change b).id (record_text (change b)) a accounts (omega arith) ∙ ap (λ (rows : List Kept). row_kept a ∷ rows) rest

  cases : (b : Bool) → put_target change (find test accounts) (rows_kept accounts) ≡ rows_kept (with_changed test change accounts)
      → put_target change (cond b (Some a) (find test accounts)) (row_kept a ∷ rows_kept accounts)
      ≡ rows_kept (cond b (change a ∷ accounts) (a ∷ with_changed test change accounts))
  cases true rest = put-first (change a).id (record_text (change a)) a accounts (same a) r.1
  cases false rest = later (find test accounts) refl rest

removed : (test : Account → Bool) (low : ℕ) (accounts : List Account) → Rise low accounts
    → remove_target (find test accounts) (rows_kept accounts) ≡ rows_kept (without test accounts)
removed test low [] r = refl
removed test low (a ∷ accounts) r = cases (test a) (removed test a.id accounts r.1) where
  later : (found : Option Account) → find test accounts ≡ found → remove_target found (rows_kept accounts) ≡ rows_kept (without test accounts)
      → remove_target found (row_kept a ∷ rows_kept accounts) ≡ row_kept a ∷ rows_kept (without test accounts)
  later None e rest = ap (λ (rows : List Kept). row_kept a ∷ rows) rest
  later (Some b) e rest =
      let higher = found-above test a.id accounts b r.1 e in
      let below = below_first b.id (row_kept a) (rows_kept accounts) (omega arith) in
      let above = not_above_first b.id (row_kept a) (rows_kept accounts) (omega arith) in
      rw (below, above) (ap (λ (rows : List Kept). row_kept a ∷ rows) rest)

  first : remove_target (Some a) (row_kept a ∷ rows_kept accounts) ≡ rows_kept accounts
  first =
      let rise = kept-rise a.id accounts r.1 in
      let below = not_below_first a.id (row_kept a) (rows_kept accounts) (omega arith) ∙ below_none a.id a.id (rows_kept accounts) (omega arith) rise in
      let above = not_above_first a.id (row_kept a) (rows_kept accounts) (omega arith) ∙ above_all a.id a.id (rows_kept accounts) (omega arith) rise in
      rw (below, above) refl

  cases : (b : Bool) → remove_target (find test accounts) (rows_kept accounts) ≡ rows_kept (without test accounts)
      → remove_target (cond b (Some a) (find test accounts)) (row_kept a ∷ rows_kept accounts) ≡ rows_kept (cond b accounts (a ∷ without test accounts))
  cases true rest = first
  cases false rest = later (find test accounts) refl rest

-- what a statement does to the rows of accounts is what it does to the accounts
pub kept-effect : (statement : Statement) (g : Given) (actor : ℕ) (salt : List ℕ) (now : ℕ) (accounts : List Account) → RiseTo 0 g.account accounts
    → kept_after statement g actor salt now accounts (rows_kept accounts) ≡ rows_kept (effect_of statement g actor salt now accounts)
kept-effect (Create name auth factors options) g actor salt now accounts r =
    let a : Account = created g salt now name auth factors options in
    put-last 0 g.account a accounts r (omega arith) ∙ sym (map-append row_kept accounts (a ∷ []))
kept-effect (Alter target change options) g actor salt now accounts r =
    put-changed (is_target actor target) (altered g salt now change options) (same-id change (g.credential + 1) salt now) 0 accounts (rise-of 0 g.account accounts r)
kept-effect (Drop name) g actor salt now accounts r = removed (is_named name) 0 accounts (rise-of 0 g.account accounts r)
kept-effect Flush g actor salt now accounts r = refl
kept-effect (Grant privileges name) g actor salt now accounts r =
    put-changed (is_named name) (granted privileges) (λ a. refl) 0 accounts (rise-of 0 g.account accounts r)
kept-effect (Revoke privileges name) g actor salt now accounts r =
    put-changed (is_named name) (revoked privileges) (λ a. refl) 0 accounts (rise-of 0 g.account accounts r)

pub rows-are-records : RowsAreRecords
rows-are-records (From start) r = refl
rows-are-records (h ▹ Observed who look) r = rows-are-records h r
rows-are-records (h ▹ Attempted attempt) r = rows-are-records h r
rows-are-records (h ▹ Executed e) r = cases (is_done e.reply) (rows-are-records h r) where
  cases : (b : Bool) → rows_after h ≡ rows_kept (records h)
      → (if b then kept_after e.statement (given h) e.actor e.salt (max e.reading (moment h)) (records h) (rows_after h) else rows_after h)
      ≡ rows_kept (if b then effect_of e.statement (given h) e.actor e.salt (max e.reading (moment h)) (records h) else records h)
  cases true before =
      ap (λ (rows : List Kept). kept_after e.statement (given h) e.actor e.salt (max e.reading (moment h)) (records h) rows) before
      ∙ kept-effect e.statement (given h) e.actor e.salt (max e.reading (moment h)) (records h) (numbers-rise h r)
  cases false before = before
