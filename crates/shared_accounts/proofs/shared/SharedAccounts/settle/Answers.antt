use Rattle.std.proofs.Common.{sym, subst, option_to_list}
use Rattle.turn_book.specs.Book.{TookTurn, began, view}
use Rattle.shared_accounts.specs.Desks.{desk_start}
use Rattle.turn_book.specs.Views.{entries_seen}
use Rattle.shared_accounts.specs.Calls.{added_by, attempt_on}
use Rattle.shared_accounts.proofs.Answering.{goes-timely, later-than, settled-done, was-late}
use Rattle.shared_accounts.proofs.Placed.{login-came}
use Rattle.shared_accounts.proofs.shared.SharedAccounts.settle.Goals as goal

pub turn-requires-clause-can : goal.turn-requires-clause-can
turn-requires-clause-can g c =
    login-came (began desk_start c.args.self.now.book) (entries_seen (view c.args.seat.now)) c.args.ticket c.args.checked.look c.requires.login.0 c.requires.look c.requires.login.1 c.requires.own.1 c.requires.seen

pub returns-in-Ok-Done-clause-own : goal.returns-in-Ok-Done-clause-own
returns-in-Ok-Done-clause-own g c =
    let s = c.in-Ok-Done.ensures.ok in (
      c.turn.ensures.own,
      (goes-timely (began desk_start c.args.self.now.book) (view c.args.seat.now) (view c.turn.new.seat) s.0 c.args.checked.look (attempt_on c.args.checked c.args.flags c.args.reading) c.in-Ok-Done.field-0
          (subst (λ k. TookTurn (view c.args.seat.now) s.0 (option_to_list (added_by (attempt_on k.checked.now k.flags k.reading) c.in-Ok-Done.field-0)) (view c.turn.new.seat)) s.2.0 s.1) s.2.1).legal,
    )

pub returns-in-Ok-Done-clause-number : goal.returns-in-Ok-Done-clause-number
returns-in-Ok-Done-clause-number g c =
    let s = c.in-Ok-Done.ensures.ok in
    (goes-timely (began desk_start c.args.self.now.book) (view c.args.seat.now) (view c.turn.new.seat) s.0 c.args.checked.look (attempt_on c.args.checked c.args.flags c.args.reading) c.in-Ok-Done.field-0
    (subst (λ k. TookTurn (view c.args.seat.now) s.0 (option_to_list (added_by (attempt_on k.checked.now k.flags k.reading) c.in-Ok-Done.field-0)) (view c.turn.new.seat)) s.2.0 s.1) s.2.1).carried

pub returns-in-Ok-Done-clause-settled : goal.returns-in-Ok-Done-clause-settled
returns-in-Ok-Done-clause-settled g c =
    let s = c.in-Ok-Done.ensures.ok in
    settled-done (began desk_start c.args.self.now.book) (view c.args.seat.now) (view c.turn.new.seat) s.0 c.args.ticket c.args.checked c.args.flags c.args.reading c.in-Ok-Done.field-0
    (subst (λ k. TookTurn (view c.args.seat.now) s.0 (option_to_list (added_by (attempt_on k.checked.now k.flags k.reading) c.in-Ok-Done.field-0)) (view c.turn.new.seat)) s.2.0 s.1) s.2.1 c.in-Ok-Done.reply c.in-Ok-Done.field-0-is c.requires.look

pub returns-in-Ok-Stale-clause-own : goal.returns-in-Ok-Stale-clause-own
returns-in-Ok-Stale-clause-own g c =
    let s = c.in-Ok-Stale.ensures.ok in (
      c.turn.ensures.own,
      (goes-timely (began desk_start c.args.self.now.book) (view c.args.seat.now) (view c.turn.new.seat) s.0 c.args.checked.look (attempt_on c.args.checked c.args.flags c.args.reading) c.in-Ok-Stale.field-0
          (subst (λ k. TookTurn (view c.args.seat.now) s.0 (option_to_list (added_by (attempt_on k.checked.now k.flags k.reading) c.in-Ok-Stale.field-0)) (view c.turn.new.seat)) s.2.0 s.1) s.2.1).legal,
    )

pub returns-in-Ok-Stale-clause-number : goal.returns-in-Ok-Stale-clause-number
returns-in-Ok-Stale-clause-number g c =
    let s = c.in-Ok-Stale.ensures.ok in
    (goes-timely (began desk_start c.args.self.now.book) (view c.args.seat.now) (view c.turn.new.seat) s.0 c.args.checked.look (attempt_on c.args.checked c.args.flags c.args.reading) c.in-Ok-Stale.field-0
    (subst (λ k. TookTurn (view c.args.seat.now) s.0 (option_to_list (added_by (attempt_on k.checked.now k.flags k.reading) c.in-Ok-Stale.field-0)) (view c.turn.new.seat)) s.2.0 s.1) s.2.1).carried

pub into_late-requires : goal.into_late-requires
into_late-requires g c =
    let s = c.in-Ok-Stale.ensures.ok in
    later-than (began desk_start c.args.self.now.book) (view c.args.seat.now) (view c.turn.new.seat) s.0 c.args.checked.look (attempt_on c.args.checked c.args.flags c.args.reading) c.in-Ok-Stale.field-0
    (subst (λ k. TookTurn (view c.args.seat.now) s.0 (option_to_list (added_by (attempt_on k.checked.now k.flags k.reading) c.in-Ok-Stale.field-0)) (view c.turn.new.seat)) s.2.0 s.1) s.2.1 c.args.ticket c.in-Ok-Stale.stamp c.in-Ok-Stale.field-0-is (sym c.requires.look)

pub returns-in-Ok-Stale-clause-settled : goal.returns-in-Ok-Stale-clause-settled
returns-in-Ok-Stale-clause-settled g c =
    let s = c.in-Ok-Stale.ensures.ok in (
      was-late (began desk_start c.args.self.now.book) (view c.args.seat.now) (view c.turn.new.seat) s.0 c.args.checked.look (attempt_on c.args.checked c.args.flags c.args.reading) c.in-Ok-Stale.field-0
          (subst (λ k. TookTurn (view c.args.seat.now) s.0 (option_to_list (added_by (attempt_on k.checked.now k.flags k.reading) c.in-Ok-Stale.field-0)) (view c.turn.new.seat)) s.2.0 s.1) s.2.1 c.args.ticket c.into_late.result c.in-Ok-Stale.stamp c.in-Ok-Stale.field-0-is (sym c.requires.look) c.into_late.ensures,
      c.into_evidences.ensures,
    )
