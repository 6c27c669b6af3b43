use Rattle.std.proofs.Common.{subst, [], ◌∷◌}
use Rattle.turn_book.specs.Book.{TookTurn, began, view}
use Rattle.shared_accounts.specs.Desks.{desk_start}
use Rattle.shared_accounts.specs.Calls.{attempt_of}
use Rattle.shared_accounts.proofs.Answering.{attempted, goes-entered}
use Rattle.shared_accounts.proofs.shared.SharedAccounts.settle_locked.Goals as goal

pub returns-in-Ok-clause-own : goal.returns-in-Ok-clause-own
returns-in-Ok-clause-own g c =
    let s = c.in-Ok.ensures.ok in (
      c.turn.ensures.own,
      (goes-entered (began desk_start c.args.self.now.book) (view c.args.seat.now) (view c.turn.new.seat) s.0 (attempt_of c.args.user.now c.args.evidences c.args.flags c.args.reading c.in-Ok.reply)
          (subst (λ k. TookTurn (view c.args.seat.now) s.0 (attempt_of k.user.now k.evidences.now k.flags k.reading c.in-Ok.reply ∷ []) (view c.turn.new.seat)) s.2.0 s.1) s.2.1).legal,
    )

pub returns-in-Ok-clause-number : goal.returns-in-Ok-clause-number
returns-in-Ok-clause-number g c =
    let s = c.in-Ok.ensures.ok in
    (goes-entered (began desk_start c.args.self.now.book) (view c.args.seat.now) (view c.turn.new.seat) s.0 (attempt_of c.args.user.now c.args.evidences c.args.flags c.args.reading c.in-Ok.reply)
    (subst (λ k. TookTurn (view c.args.seat.now) s.0 (attempt_of k.user.now k.evidences.now k.flags k.reading c.in-Ok.reply ∷ []) (view c.turn.new.seat)) s.2.0 s.1) s.2.1).carried

pub returns-in-Ok-clause-settled : goal.returns-in-Ok-clause-settled
returns-in-Ok-clause-settled g c =
    let s = c.in-Ok.ensures.ok in
    attempted (began desk_start c.args.self.now.book) (view c.args.seat.now) (view c.turn.new.seat) s.0 c.args.user.now c.args.evidences c.args.flags c.args.reading c.in-Ok.reply
    (subst (λ k. TookTurn (view c.args.seat.now) s.0 (attempt_of k.user.now k.evidences.now k.flags k.reading c.in-Ok.reply ∷ []) (view c.turn.new.seat)) s.2.0 s.1) s.2.1
