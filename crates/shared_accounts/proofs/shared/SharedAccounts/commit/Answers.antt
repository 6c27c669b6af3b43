use Rattle.std.proofs.Common.{ap, Err, sym, subst, option_to_list}
use Rattle.turn_book.specs.Book.{TookTurn, began, view}
use Rattle.shared_accounts.specs.Desks.{desk_start}
use Rattle.turn_book.specs.Views.{entries_seen}
use Rattle.account_history.specs.Preparing.{who_of}
use Rattle.shared_accounts.specs.Beginnings.{history_of}
use Rattle.shared_accounts.specs.Calls.{added_by, run_on}
use Rattle.shared_accounts.proofs.Answering.{committed-done, goes-passed, goes-timely, later-than, was-late}
use Rattle.shared_accounts.proofs.Placed.{statement-came}
use Rattle.shared_accounts.proofs.Turning.{entries_then, passed}
use Rattle.shared_accounts.proofs.shared.SharedAccounts.commit.Goals as goal

pub turn-requires-clause-can : goal.turn-requires-clause-can
turn-requires-clause-can g c = (
  statement-came (began desk_start c.args.self.now.book) (entries_seen (view c.args.seat.now)) c.args.ticket c.args.prepared.look (who_of c.args.actor c.args.prepared.statement) c.requires.look c.requires.whose c.requires.own.1 c.requires.seen c.requires.stood,
  c.requires.actor,
)

pub returns-in-Ok-Done-clause-own : goal.returns-in-Ok-Done-clause-own
returns-in-Ok-Done-clause-own g c =
    let s = c.in-Ok-Done.ensures.ok in
    let h = (history_of (began desk_start c.args.self.now.book) (entries_then (began desk_start c.args.self.now.book) (view c.args.seat.now) (view c.turn.new.seat) s.0)) in (
      c.turn.ensures.own,
      (goes-timely (began desk_start c.args.self.now.book) (view c.args.seat.now) (view c.turn.new.seat) s.0 c.args.prepared.look (run_on h c.args.prepared c.args.actor c.args.reading) c.in-Ok-Done.field-0
          (subst (λ k. TookTurn (view c.args.seat.now) s.0 (option_to_list (added_by (run_on h k.prepared.now k.actor k.reading) c.in-Ok-Done.field-0)) (view c.turn.new.seat)) s.2.0 s.1) s.2.1).legal,
    )

pub returns-in-Ok-Done-clause-number : goal.returns-in-Ok-Done-clause-number
returns-in-Ok-Done-clause-number g c =
    let s = c.in-Ok-Done.ensures.ok in
    let h = (history_of (began desk_start c.args.self.now.book) (entries_then (began desk_start c.args.self.now.book) (view c.args.seat.now) (view c.turn.new.seat) s.0)) in
    (goes-timely (began desk_start c.args.self.now.book) (view c.args.seat.now) (view c.turn.new.seat) s.0 c.args.prepared.look (run_on h c.args.prepared c.args.actor c.args.reading) c.in-Ok-Done.field-0
    (subst (λ k. TookTurn (view c.args.seat.now) s.0 (option_to_list (added_by (run_on h k.prepared.now k.actor k.reading) c.in-Ok-Done.field-0)) (view c.turn.new.seat)) s.2.0 s.1) s.2.1).carried

pub returns-in-Ok-Done-clause-committed : goal.returns-in-Ok-Done-clause-committed
returns-in-Ok-Done-clause-committed g c =
    let s = c.in-Ok-Done.ensures.ok in
    let h = (history_of (began desk_start c.args.self.now.book) (entries_then (began desk_start c.args.self.now.book) (view c.args.seat.now) (view c.turn.new.seat) s.0)) in
    committed-done (began desk_start c.args.self.now.book) (view c.args.seat.now) (view c.turn.new.seat) s.0 c.args.ticket c.args.prepared c.args.actor c.args.reading c.in-Ok-Done.field-0
    (subst (λ k. TookTurn (view c.args.seat.now) s.0 (option_to_list (added_by (run_on h k.prepared.now k.actor k.reading) c.in-Ok-Done.field-0)) (view c.turn.new.seat)) s.2.0 s.1) s.2.1 c.in-Ok-Done.ran c.in-Ok-Done.field-0-is c.requires.look

pub returns-in-Ok-Stale-clause-own : goal.returns-in-Ok-Stale-clause-own
returns-in-Ok-Stale-clause-own g c =
    let s = c.in-Ok-Stale.ensures.ok in
    let h = (history_of (began desk_start c.args.self.now.book) (entries_then (began desk_start c.args.self.now.book) (view c.args.seat.now) (view c.turn.new.seat) s.0)) in (
      c.turn.ensures.own,
      (goes-timely (began desk_start c.args.self.now.book) (view c.args.seat.now) (view c.turn.new.seat) s.0 c.args.prepared.look (run_on h c.args.prepared c.args.actor c.args.reading) c.in-Ok-Stale.field-0
          (subst (λ k. TookTurn (view c.args.seat.now) s.0 (option_to_list (added_by (run_on h k.prepared.now k.actor k.reading) c.in-Ok-Stale.field-0)) (view c.turn.new.seat)) s.2.0 s.1) s.2.1).legal,
    )

pub returns-in-Ok-Stale-clause-number : goal.returns-in-Ok-Stale-clause-number
returns-in-Ok-Stale-clause-number g c =
    let s = c.in-Ok-Stale.ensures.ok in
    let h = (history_of (began desk_start c.args.self.now.book) (entries_then (began desk_start c.args.self.now.book) (view c.args.seat.now) (view c.turn.new.seat) s.0)) in
    (goes-timely (began desk_start c.args.self.now.book) (view c.args.seat.now) (view c.turn.new.seat) s.0 c.args.prepared.look (run_on h c.args.prepared c.args.actor c.args.reading) c.in-Ok-Stale.field-0
    (subst (λ k. TookTurn (view c.args.seat.now) s.0 (option_to_list (added_by (run_on h k.prepared.now k.actor k.reading) c.in-Ok-Stale.field-0)) (view c.turn.new.seat)) s.2.0 s.1) s.2.1).carried

pub into_late-requires : goal.into_late-requires
into_late-requires g c =
    let s = c.in-Ok-Stale.ensures.ok in
    let h = (history_of (began desk_start c.args.self.now.book) (entries_then (began desk_start c.args.self.now.book) (view c.args.seat.now) (view c.turn.new.seat) s.0)) in
    later-than (began desk_start c.args.self.now.book) (view c.args.seat.now) (view c.turn.new.seat) s.0 c.args.prepared.look (run_on h c.args.prepared c.args.actor c.args.reading) c.in-Ok-Stale.field-0
    (subst (λ k. TookTurn (view c.args.seat.now) s.0 (option_to_list (added_by (run_on h k.prepared.now k.actor k.reading) c.in-Ok-Stale.field-0)) (view c.turn.new.seat)) s.2.0 s.1) s.2.1 c.args.ticket c.in-Ok-Stale.stamp c.in-Ok-Stale.field-0-is (sym c.requires.look)

pub returns-in-Ok-Stale-clause-committed : goal.returns-in-Ok-Stale-clause-committed
returns-in-Ok-Stale-clause-committed g c =
    let s = c.in-Ok-Stale.ensures.ok in
    let h = (history_of (began desk_start c.args.self.now.book) (entries_then (began desk_start c.args.self.now.book) (view c.args.seat.now) (view c.turn.new.seat) s.0)) in (
      was-late (began desk_start c.args.self.now.book) (view c.args.seat.now) (view c.turn.new.seat) s.0 c.args.prepared.look (run_on h c.args.prepared c.args.actor c.args.reading) c.in-Ok-Stale.field-0
          (subst (λ k. TookTurn (view c.args.seat.now) s.0 (option_to_list (added_by (run_on h k.prepared.now k.actor k.reading) c.in-Ok-Stale.field-0)) (view c.turn.new.seat)) s.2.0 s.1) s.2.1 c.args.ticket c.into_late.result c.in-Ok-Stale.stamp c.in-Ok-Stale.field-0-is (sym c.requires.look) c.into_late.ensures,
      c.into_statement.ensures.statement,
    )

pub returns-in-Err-Memory-clause-own : goal.returns-in-Err-Memory-clause-own
returns-in-Err-Memory-clause-own g c =
    let d = c.in-Err-Memory.ensures.memory (ap (λ e. Err e) c.in-Err-Memory.field-0-is) in
    (c.turn.ensures.own, (goes-passed (began desk_start c.args.self.now.book) (view c.args.seat.now) (view c.turn.new.seat) d.0 d.1 d.2).legal)

pub returns-in-Err-Memory-clause-number : goal.returns-in-Err-Memory-clause-number
returns-in-Err-Memory-clause-number g c =
    let d = c.in-Err-Memory.ensures.memory (ap (λ e. Err e) c.in-Err-Memory.field-0-is) in
    (goes-passed (began desk_start c.args.self.now.book) (view c.args.seat.now) (view c.turn.new.seat) d.0 d.1 d.2).carried

pub returns-in-Err-Memory-clause-committed : goal.returns-in-Err-Memory-clause-committed
returns-in-Err-Memory-clause-committed g c =
    let d = c.in-Err-Memory.ensures.memory (ap (λ e. Err e) c.in-Err-Memory.field-0-is) in
    passed (began desk_start c.args.self.now.book) (view c.args.seat.now) (view c.turn.new.seat) d.0 d.1
