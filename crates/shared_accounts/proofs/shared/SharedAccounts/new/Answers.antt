use Rattle.std.proofs.Common.{◌≡◌, ap, sym, ◌∙◌}
use Rattle.account_history.specs.declared.entries.Log.{Log}
use Rattle.turn_book.specs.Book.{began, view}
use Rattle.turn_book.specs.Views.{first_view}
use Rattle.shared_accounts.specs.Desks.{desk_start}
use Rattle.shared_accounts.specs.Sharing.{AccountsView}
use Rattle.shared_accounts.specs.declared.desk.Begun.{Begun}
use Rattle.shared_accounts.proofs.Ends.{first-legal, first-seen}
use Rattle.shared_accounts.proofs.shared.SharedAccounts.new.Goals as goal

pub returns-clause-own : goal.returns-clause-own
returns-clause-own g c =
    let e = c.in_ok-book.ensures in
    let begun : Begun = began desk_start c.in_ok-book.book in
    let v : AccountsView = view c.in_ok-book.seat in
    let accounts : Log = c.args.accounts in
    let log-is : begun.log ≡ accounts = ap (λ (b : Begun). b.log) (e.began ∙ c.new.ensures.begun) in
    let first : v ≡ first_view begun accounts.entries =
    e.seat ∙ (ap (λ (s : Begun). first_view s c.new.result.accounts.entries) (sym e.began) ∙ ap (λ (a : Log). first_view begun a.entries) c.new.ensures.accounts) in
    (e.own, first-legal begun v accounts log-is first c.is_legal.ensures.legal)

pub returns-clause-seen : goal.returns-clause-seen
returns-clause-seen g c =
    let e = c.in_ok-book.ensures in
    let begun : Begun = began desk_start c.in_ok-book.book in
    let v : AccountsView = view c.in_ok-book.seat in
    let accounts : Log = c.args.accounts in
    let log-is : begun.log ≡ accounts = ap (λ (b : Begun). b.log) (e.began ∙ c.new.ensures.begun) in
    let first : v ≡ first_view begun accounts.entries =
    e.seat ∙ (ap (λ (s : Begun). first_view s c.new.result.accounts.entries) (sym e.began) ∙ ap (λ (a : Log). first_view begun a.entries) c.new.ensures.accounts) in
    first-seen begun v accounts log-is first
