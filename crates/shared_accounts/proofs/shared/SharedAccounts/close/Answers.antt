use Rattle.std.proofs.Common.{refl, ap, sym, ◌∙◌, Some, subst}
use Rattle.account_history.specs.Histories.{history}
use Rattle.account_history.specs.Records.{records}
use Rattle.account_history.specs.declared.entries.Log.{Log}
use Rattle.account_machine.specs.Restarts.{rows_kept}
use Rattle.turn_book.specs.Book.{began, view}
use Rattle.turn_book.specs.Views.{entries_seen}
use Rattle.shared_accounts.specs.Beginnings.{log_of}
use Rattle.shared_accounts.specs.Desks.{desk_start}
use Rattle.shared_accounts.specs.Sharing.{Extends}
use Rattle.shared_accounts.proofs.Ends.{closed-all, closed-extends, closed-rows}
use Rattle.shared_accounts.proofs.shared.SharedAccounts.close.Goals as goal

pub returns-clause-some : goal.returns-clause-some
returns-clause-some g c =
    let e = c.in_ok-desk.ensures in
    let desk = c.in_ok-desk.desk in
    let begun = began desk_start c.args.self.book in
    let v = view c.args.seat.now in
    subst (λ (l : Log). Extends (log_of begun (entries_seen v)) l) (sym c.into_parts.ensures.0)
    (closed-extends begun desk.begun.value v desk.accounts desk.start e.some.1 e.some.0)

pub returns-clause-all : goal.returns-clause-all
returns-clause-all g c = λ all.
    let e = c.in_ok-desk.ensures in
    let desk = c.in_ok-desk.desk in
    c.into_parts.ensures.0 ∙ closed-all (began desk_start c.args.self.book) desk.begun.value (view c.args.seat.now) desk.accounts desk.start e.some.1 (e.all all).1

pub returns-clause-never : goal.returns-clause-never
returns-clause-never g c = λ all. refl

pub returns-clause-rows : goal.returns-clause-rows
returns-clause-rows g c = λ recorded.
    let e = c.in_ok-desk.ensures in
    let desk = c.in_ok-desk.desk in
    ap g.K.Keeper.told_rows c.into_parts.ensures.1
    ∙ (closed-rows (began desk_start c.args.self.book) desk.begun.value desk.accounts (g.K.Keeper.told_rows desk.keeper) e.some.1 desk.recorded recorded
    ∙ ap (λ (l : Log). Some (rows_kept (records (history l)))) (sym c.into_parts.ensures.0))
