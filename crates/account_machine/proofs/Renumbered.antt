-- The accounts that are loaded are a start on which the machine stands.
use Rattle.std.proofs.Common.{◌≡◌, refl, ap, sym, ◌∙◌, ℕ, ◌+◌, ◌<◌, List, [], ◌∷◌, Option, Some, None, All, subst, arith}
use Rattle.std.specs.List.{AllByRecursion, AllZip}
use Rattle.std.proofs.lemmas.List.Elements.{All-cons, All-from_recursion, All-nil}
use Rattle.lg_outside.specs.Keeping.{Ascend, RiseAbove}
use Rattle.lg_outside.specs.declared.keepers.Row.{Row as Kept}
use Rattle.factor_chain.specs.declared.credentials.Method.{Method}
use Rattle.factor_chain.specs.declared.credentials.Stored.{Stored}
use Rattle.account_rules.specs.declared.accounts.Account.{Account}
use Rattle.account_rules.specs.declared.accounts.Settings.{Settings}
use Rattle.account_keeper.specs.Record.{FitsRecord, SecondaryFits}
use Rattle.account_history.specs.declared.entries.Log.{Log}
use Rattle.account_history.specs.Histories.{From, history}
use Rattle.account_history.specs.Numbers.{Rise}
use Rattle.account_history.proofs.Numbered.{numbers-rise}
use Rattle.account_machine.specs.Counting.{stamp_in}
use Rattle.account_machine.specs.Loading.{AreLoadable, IsRowOf, Keeps, loaded, loaded_accounts, numbered, numbered_secondary, passwords_of}
use Rattle.account_machine.specs.Looks.{accounts_of}
use Rattle.account_machine.specs.Openings.{root_account}
use Rattle.account_machine.specs.Stands.{Stands}
use Rattle.account_machine.specs.declared.loading.Loaded.{Loaded}
use Rattle.account_machine.specs.declared.rows.Row.{Row}
use Rattle.account_machine.specs.declared.stamps.Stamps.{Stamps}
use Rattle.account_machine.proofs.Recorded.{accounts-new}
use Rattle.account_machine.proofs.Starts.{root-fits, rows-new, start-fits}

-- ## Accounts that were read, numbered

numbered-rise : (low last : ℕ) (rows : List Kept) (accounts : List Account) → RiseAbove low rows → AllZip IsRowOf rows accounts
    → Rise low (numbered last accounts)
numbered-rise low last [] [] r all = tt
numbered-rise low last [] (a ∷ accounts) r all = absurd all
numbered-rise low last (row ∷ rows) [] r all = absurd all
numbered-rise low last (row ∷ rows) (a ∷ accounts) r all =
    let key : a.id ≡ row.key = all.0.ids.id in
    let later = numbered-rise row.key (last + passwords_of a.secondary) rows accounts r.1 all.1 in (
      (let above : low < row.key = r.0 in omega arith),
      subst (λ (n : ℕ). Rise n (numbered (last + passwords_of a.secondary) accounts)) (sym key) later,
    )

numbered-second : (last : ℕ) (m : Method) (primary : Stored) (second : Option (Stored × ℕ)) → SecondaryFits m primary second
    → SecondaryFits m primary (numbered_secondary last second)
numbered-second last m primary None fits = tt
numbered-second last m primary (Some second) fits = fits

numbered-fits : (last : ℕ) (rows : List Kept) (accounts : List Account) → AllZip IsRowOf rows accounts → AllByRecursion FitsRecord (numbered last accounts)
numbered-fits last [] [] all = tt
numbered-fits last [] (a ∷ accounts) all = absurd all
numbered-fits last (row ∷ rows) [] all = absurd all
numbered-fits last (row ∷ rows) (a ∷ accounts) all =
    let fits = all.0.fits in (
      record {
        user = fits.user;
        primary = fits.primary;
        secondary = numbered-second (last + 2) a.method a.primary a.secondary fits.secondary;
        labels = fits.labels;
        changed = fits.changed;
        lifetime = fits.lifetime;
        history = fits.history;
        reuse = fits.reuse;
        attempts = fits.attempts;
        lock_time = fits.lock_time;
        past = fits.past;
      },
      numbered-fits (last + passwords_of a.secondary) rows accounts all.1,
    )

-- ## The accounts of a start

pub record IsStart (accounts : List Account) : Type 0 where
  pub rising : Rise 0 accounts
  pub fits : All FitsRecord accounts

pub loaded-start : (rows : List Kept) (accounts : List Account) → Ascend rows → AllZip IsRowOf rows accounts → IsStart (loaded_accounts accounts)
loaded-start [] [] r all = record {
  rising = (omega arith, tt);
  fits = All-cons FitsRecord root_account [] root-fits (All-nil FitsRecord);
}
loaded-start [] (a ∷ accounts) r all = absurd all
loaded-start (row ∷ rows) [] r all = absurd all
loaded-start (row ∷ rows) (a ∷ accounts) r all =
    let above = all.0.is_key.least in record {
      rising = numbered-rise 0 0 (row ∷ rows) (a ∷ accounts) (omega arith, r) all;
      fits = All-from_recursion FitsRecord (numbered 0 (a ∷ accounts)) (numbered-fits 0 (row ∷ rows) (a ∷ accounts) all);
    }

stands-start : (accounts : List Account) (settings : Settings) (made : Loaded) (stamps : Stamps) (log : Log) → IsStart accounts → Keeps made accounts
    → ((user : List ℕ) → stamp_in stamps user ≡ 0)
    → log ≡ record { start = record { accounts = accounts; settings = settings; count = 0 }; entries = [] }
    → Stands made.rows.items settings made.moment made.numbers stamps 0 (history log)
stands-start accounts settings made stamps log start keeps none e =
    let first : Log = record { start = record { accounts = accounts; settings = settings; count = 0 }; entries = [] } in
    subst (λ (l : Log). Stands made.rows.items settings made.moment made.numbers stamps 0 (history l)) (sym e) (record {
      same_rows = keeps.rows ∙ rows-new first accounts;
      same_settings = refl;
      same_moment = keeps.moment;
      same_stamps = record { same = none; most = λ user. omega arith };
      same_numbers = keeps.numbers;
      rising = start.rising;
      up_to = numbers-rise (From first.start) start.rising;
      fits = start-fits accounts start.fits;
      legal = tt;
    })

-- what was loaded stands for the history without entries
pub stands-loaded : (rows : List Kept) (accounts : List Account) (settings : Settings) (made : Loaded) (stamps : Stamps) (log : Log) → Ascend rows
    → AreLoadable rows accounts → Keeps made (loaded_accounts accounts) → ((user : List ℕ) → stamp_in stamps user ≡ 0) → log ≡ loaded accounts settings
    → Stands made.rows.items settings made.moment made.numbers stamps 0 (history log)
stands-loaded rows accounts settings made stamps log r good keeps none e =
    stands-start (loaded_accounts accounts) settings made stamps log (loaded-start rows accounts r good.records) keeps none e

-- the history that starts with the rows that were loaded
pub log-loaded : (accounts : List Account) (settings : Settings) (made : Loaded) (rows : List Row) (log : Log) → Keeps made (loaded_accounts accounts)
    → rows ≡ made.rows.items → log ≡ record { start = record { accounts = accounts_of rows; settings = settings; count = 0 }; entries = [] }
    → log ≡ loaded accounts settings
log-loaded accounts settings made rows log keeps r e =
    e
    ∙ ap (λ (all : List Account). record { start = record { accounts = all; settings = settings; count = 0 }; entries = [] })
    (ap accounts_of (r ∙ keeps.rows) ∙ accounts-new (loaded_accounts accounts))
