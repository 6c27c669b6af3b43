-- The accounts of a history fit records, and what a keeper tells of them is loaded again.
use Rattle.std.proofs.Common.{◌≡◌, refl, sym, ◌∙◌, ℕ, ◌<◌, ◌≤◌, ◌^◌, max, List, [], ◌∷◌, map, find, Bool, true, false, if◌then◌else◌, None, All, subst, arith}
use Rattle.std.specs.List.{AllByRecursion, AllZip}
use Rattle.std.proofs.lemmas.List.Elements.{All-from_recursion, recursion_from_All}
use Rattle.lg_outside.specs.Keeping.{Ascend}
use Rattle.account_rules.specs.declared.accounts.Account.{Account}
use Rattle.account_keeper.specs.Record.{FitsRecord, record_text}
use Rattle.account_keeper.proofs.Whole.{is_kept}
use Rattle.account_history.specs.declared.entries.Entry.TheVariants.{Observed, Attempted, Executed}
use Rattle.account_history.specs.Effects.{effect_of}
use Rattle.account_history.specs.Given.{given, is_done}
use Rattle.account_history.specs.Histories.{History, From, ◌▹◌, latest_moment, moment, start_of}
use Rattle.account_history.specs.Legal.{IsLegal}
use Rattle.account_history.specs.Naming.{has_id, is_named}
use Rattle.account_history.specs.Numbers.{Rise, RiseTo}
use Rattle.account_history.specs.Records.{records}
use Rattle.account_history.specs.Sound.{AreWritten, NamesDiffer}
use Rattle.account_history.proofs.Accepted.{done-accepted}
use Rattle.account_history.proofs.Numbered.{passed, passing, rise-of}
use Rattle.account_history.proofs.Soundness.{accounts-sound}
use Rattle.account_machine.specs.Loading.{IsRowOf}
use Rattle.account_machine.specs.Fitting.{FitsAt}
use Rattle.account_machine.specs.Restarts.{AreLoadedAgain, HaveRanges, RecordsFit, RestartsKeepAccounts, as_read, rows_kept, rows_after}
use Rattle.account_machine.proofs.Holding.{begun-holds, effect-holds, later-holds, moments-below}
use Rattle.account_machine.proofs.Told.{kept-rise, rows-are-records}

-- ## Histories

records-hold : (h : History) → All FitsRecord (start_of h).accounts → IsLegal h → AreWritten h → HaveRanges h
    → All (FitsAt (moment h)) (records h) × (moment h < 2 ^ 64)
records-hold (From start) fits legal written ranges =
    let all = recursion_from_All FitsRecord start.accounts fits in (
      All-from_recursion (FitsAt (latest_moment start.accounts)) start.accounts (begun-holds (latest_moment start.accounts) start.accounts (omega arith) all),
      moments-below start.accounts all,
    )
records-hold (h ▹ Observed who look) fits legal written ranges = records-hold h fits legal.0 written.0 ranges.0
records-hold (h ▹ Attempted t) fits legal written ranges =
    let before = records-hold h fits legal.0 written.0 ranges.0 in
    let reading = ranges.1 in let bound = before.1 in
    (later-holds (moment h) (max t.reading (moment h)) (records h) (omega arith) before.0, omega arith)
records-hold (h ▹ Executed e) fits legal written ranges =
    let before = records-hold h fits legal.0 written.0 ranges.0 in
    let reading = ranges.1.0 in let bound = before.1 in
    let top : max e.reading (moment h) < 2 ^ 64 = omega arith in
    (cases (is_done e.reply) refl top (later-holds (moment h) (max e.reading (moment h)) (records h) (omega arith) before.0), top) where
      cases : (b : Bool) → is_done e.reply ≡ b → max e.reading (moment h) < 2 ^ 64 → All (FitsAt (max e.reading (moment h))) (records h)
          → All (FitsAt (max e.reading (moment h)))
          (if b then effect_of e.statement (given h) e.actor e.salt (max e.reading (moment h)) (records h) else records h)
      cases true done top all =
          effect-holds (given h) e.actor e.salt (max e.reading (moment h)) ranges.1.1 top e.statement (find (has_id e.actor) (records h))
          (start_of h).settings (records h) written.1 (done-accepted h e legal.1 done) all
      cases false done top all = all

pub records-fit : RecordsFit
records-fit h fits legal written ranges = λ k d lt. ((records-hold h fits legal written ranges).0 k d lt).0

-- ## Restarts

named-read : (sought : Account → Bool) → ((a : Account) → sought (as_read a) ≡ sought a) → (accounts : List Account) → find sought accounts ≡ None
    → find sought (map as_read accounts) ≡ None
named-read sought same [] e = refl
named-read sought same (a ∷ accounts) e =
    let p = passed sought a accounts e in passing sought (as_read a) (map as_read accounts) (same a ∙ p.0) (named-read sought same accounts p.1)

names-read : (accounts : List Account) → NamesDiffer accounts → NamesDiffer (map as_read accounts)
names-read [] n = tt
names-read (a ∷ accounts) n = (named-read (is_named a.name) (λ b. refl) accounts n.0, names-read accounts n.1)

rows-read : (low high : ℕ) (accounts : List Account) → RiseTo low high accounts → high ≤ 2 ^ 62 → AllByRecursion FitsRecord accounts
    → AllZip IsRowOf (rows_kept accounts) (map as_read accounts)
rows-read low high [] r h all = tt
rows-read low high (a ∷ accounts) r h all = (
  is_kept a.id a (record_text a) (record { least = (let l : low < a.id = r.0 in omega arith); most = (let top = below-top a.id high accounts r.1 in omega arith) }) all.0 refl,
  rows-read a.id high accounts r.1 h all.1,
) where
  below-top : (low high : ℕ) (accounts : List Account) → RiseTo low high accounts → low ≤ high
  below-top low high [] r = r
  below-top low high (a ∷ accounts) r = let k = below-top a.id high accounts r.1 in let l : low < a.id = r.0 in omega arith

rows-ascend : (low : ℕ) (accounts : List Account) → Rise low accounts → Ascend (rows_kept accounts)
rows-ascend low [] r = tt
rows-ascend low (a ∷ accounts) r = kept-rise a.id accounts r.1

kept-again : (high : ℕ) (accounts : List Account) → RiseTo 0 high accounts → high ≤ 2 ^ 62 → NamesDiffer accounts → All FitsRecord accounts
    → AreLoadedAgain (rows_kept accounts) accounts
kept-again high accounts r h names fits = record {
  ascend = rows-ascend 0 accounts (rise-of 0 high accounts r);
  loadable = record {
    records = rows-read 0 high accounts r h (recursion_from_All FitsRecord accounts fits);
    names = names-read accounts names;
  };
}

pub restarts-keep : RestartsKeepAccounts
restarts-keep h fits sound legal written ranges top =
    let after = accounts-sound h sound legal written in
    let told : rows_after h ≡ rows_kept (records h) = rows-are-records h sound.numbers in
    subst (λ rows. AreLoadedAgain rows (records h)) (sym told)
    (kept-again (given h).account (records h) after.1.numbers top after.0.names (records-fit h fits legal written ranges))
