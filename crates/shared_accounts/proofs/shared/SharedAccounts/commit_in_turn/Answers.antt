use Rattle.std.proofs.Common.{ap, Err, subst, [], ◌∷◌}
use Rattle.turn_book.specs.Book.{TookTurn, began, view}
use Rattle.shared_accounts.specs.Desks.{desk_start}
use Rattle.shared_accounts.specs.Beginnings.{history_of}
use Rattle.shared_accounts.specs.Calls.{run_of}
use Rattle.shared_accounts.proofs.Answering.{goes-entered, goes-passed, ran}
use Rattle.shared_accounts.proofs.Turning.{entries_then, passed}
use Rattle.shared_accounts.proofs.shared.SharedAccounts.commit_in_turn.Goals as goal

pub returns-in-Ok-clause-own : goal.returns-in-Ok-clause-own
returns-in-Ok-clause-own g c =
    let s = c.in-Ok.ensures.ok in
    let h = (history_of (began desk_start c.args.self.now.book) (entries_then (began desk_start c.args.self.now.book) (view c.args.seat.now) (view c.turn.new.seat) s.0)) in (
      c.turn.ensures.own,
      (goes-entered (began desk_start c.args.self.now.book) (view c.args.seat.now) (view c.turn.new.seat) s.0 (run_of h c.args.statement.now c.args.salt.now c.args.actor c.args.reading c.in-Ok.ran)
          (subst (λ k. TookTurn (view c.args.seat.now) s.0 (run_of h k.statement.now k.salt.now k.actor k.reading c.in-Ok.ran ∷ []) (view c.turn.new.seat)) s.2.0 s.1) s.2.1).legal,
    )

pub returns-in-Ok-clause-number : goal.returns-in-Ok-clause-number
returns-in-Ok-clause-number g c =
    let s = c.in-Ok.ensures.ok in
    let h = (history_of (began desk_start c.args.self.now.book) (entries_then (began desk_start c.args.self.now.book) (view c.args.seat.now) (view c.turn.new.seat) s.0)) in
    (goes-entered (began desk_start c.args.self.now.book) (view c.args.seat.now) (view c.turn.new.seat) s.0 (run_of h c.args.statement.now c.args.salt.now c.args.actor c.args.reading c.in-Ok.ran)
    (subst (λ k. TookTurn (view c.args.seat.now) s.0 (run_of h k.statement.now k.salt.now k.actor k.reading c.in-Ok.ran ∷ []) (view c.turn.new.seat)) s.2.0 s.1) s.2.1).carried

pub returns-in-Ok-clause-committed : goal.returns-in-Ok-clause-committed
returns-in-Ok-clause-committed g c =
    let s = c.in-Ok.ensures.ok in
    let h = (history_of (began desk_start c.args.self.now.book) (entries_then (began desk_start c.args.self.now.book) (view c.args.seat.now) (view c.turn.new.seat) s.0)) in
    ran (began desk_start c.args.self.now.book) (view c.args.seat.now) (view c.turn.new.seat) s.0 c.args.statement.now c.args.salt.now c.args.actor c.args.reading c.in-Ok.ran
    (subst (λ k. TookTurn (view c.args.seat.now) s.0 (run_of h k.statement.now k.salt.now k.actor k.reading c.in-Ok.ran ∷ []) (view c.turn.new.seat)) s.2.0 s.1) s.2.1

pub returns-in-Err-Memory-clause-own : goal.returns-in-Err-Memory-clause-own
returns-in-Err-Memory-clause-own g c =
    let d = c.in-Err-Memory.ensures.memory (ap (λ e. Err e) c.in-Err-Memory.field-0-is) in
    (c.turn.ensures.own, (goes-passed (began desk_start c.args.self.now.book) (view c.args.seat.now) (view c.turn.new.seat) d.0 d.1 d.2).legal)

pub returns-in-Err-Memory-clause-number : goal.returns-in-Err-Memory-clause-number
returns-in-Err-Memory-clause-number g c =
    let d = c.in-Err-Memory.ensures.memory (ap (λ e. Err e) c.in-Err-Memory.field-0-is) in
    (goes-passed (began desk_start c.args.self.now.book) (view c.args.seat.now) (view c.turn.new.seat) d.0 d.1 d.2).carried

pub returns-in-Err-Memory-clause-committed : goal.returns-in-Err-Memory-clause-committed
returns-in-Err-Memory-clause-committed g c =
    let d = c.in-Err-Memory.ensures.memory (ap (λ e. Err e) c.in-Err-Memory.field-0-is) in
    passed (began desk_start c.args.self.now.book) (view c.args.seat.now) (view c.turn.new.seat) d.0 d.1
