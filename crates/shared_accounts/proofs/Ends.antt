-- What a book of accounts begins with, and what comes back when it is closed.
use Rattle.std.proofs.Common.{◌≡◌, refl, ap, sym, ◌∙◌, List, [], ◌∷◌, ◌++◌, map, Option, Some, subst}
use Rattle.lg_outside.specs.declared.keepers.Row.{Row}
use Rattle.account_history.specs.Histories.{history}
use Rattle.account_history.specs.Legal.{IsLegal}
use Rattle.account_history.specs.Records.{records}
use Rattle.account_history.specs.declared.entries.Entry.{Entry}
use Rattle.account_history.specs.declared.entries.Log.{Log}
use Rattle.account_machine.specs.Restarts.{rows_kept}
use Rattle.turn_book.specs.Views.{entries_seen, entry_of, first_view, unsigned}
use Rattle.shared_accounts.specs.Beginnings.{BeganRecorded, history_of, log_of}
use Rattle.shared_accounts.specs.Sharing.{AccountsView, Extends}
use Rattle.shared_accounts.specs.declared.desk.Begun.{Begun}

unsigned-entries : (entries : List Entry) → map entry_of (map unsigned entries) ≡ entries
unsigned-entries [] = refl
unsigned-entries (e ∷ entries) = ap (λ (l : List Entry). e ∷ l) (unsigned-entries entries)

-- the first seat has seen the history of the accounts
pub first-seen : (begun : Begun) (v : AccountsView) (accounts : Log) → begun.log ≡ accounts → v ≡ first_view begun accounts.entries
    → log_of begun (entries_seen v) ≡ accounts
first-seen begun v accounts b e i = record {
  start = (b i).start;
  entries = (ap (λ (x : AccountsView). entries_seen x) e ∙ unsigned-entries accounts.entries) i;
}

pub first-legal : (begun : Begun) (v : AccountsView) (accounts : Log) → begun.log ≡ accounts → v ≡ first_view begun accounts.entries
    → IsLegal (history accounts) → IsLegal (history_of begun (entries_seen v))
first-legal begun v accounts b e l = subst IsLegal (sym (ap history (first-seen begun v accounts b e))) l

-- the accounts that come back, by what the desk keeps
module _ (begun desk : Begun) (v : AccountsView) (log : Log) (start : log.start ≡ desk.log.start) (is : desk ≡ begun) where
  start-is : log.start ≡ begun.log.start
  start-is = start ∙ ap (λ (b : Begun). b.log.start) is

  pub closed-extends : ((rest : List Entry) × (log.entries ≡ entries_seen v ++ rest)) → Extends (log_of begun (entries_seen v)) log
  closed-extends more = (more.0, λ i. record { start = start-is i; entries = more.1 i })

  pub closed-all : log.entries ≡ entries_seen v → log ≡ log_of begun (entries_seen v)
  closed-all e i = record { start = start-is i; entries = e i }

pub closed-rows : (begun desk : Begun) (log : Log) (told : Option (List Row)) → desk ≡ begun
    → (BeganRecorded desk → told ≡ Some (rows_kept (records (history log)))) → BeganRecorded begun → told ≡ Some (rows_kept (records (history log)))
closed-rows begun desk log told is kept began = kept (subst BeganRecorded (sym is) began)
