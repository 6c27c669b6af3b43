use Rattle.std.proofs.Common.{ap, Err, subst, [], ◌∷◌}
use Rattle.account_history.specs.declared.entries.Entry.TheVariants.{Observed}
use Rattle.turn_book.specs.Book.{TookTurn, began, view}
use Rattle.shared_accounts.specs.Desks.{desk_start}
use Rattle.shared_accounts.proofs.Answering.{goes-entered, goes-passed, looked, looked-here}
use Rattle.shared_accounts.proofs.Turning.{passed}
use Rattle.shared_accounts.proofs.shared.SharedAccounts.look.Goals as goal

pub returns-in-Ok-clause-own : goal.returns-in-Ok-clause-own
returns-in-Ok-clause-own g c =
    let s = c.in-Ok.ensures.ok in
    (c.turn.ensures.own, (goes-entered (began desk_start c.args.self.now.book) (view c.args.seat.now) (view c.turn.new.seat) s.0 (Observed c.args.who.now c.in-Ok.look) (subst (λ k. TookTurn (view c.args.seat.now) s.0 (Observed k.who.now c.in-Ok.look ∷ []) (view c.turn.new.seat)) s.2.0 s.1) s.2.1.0).legal)

pub returns-in-Ok-clause-number : goal.returns-in-Ok-clause-number
returns-in-Ok-clause-number g c =
    let s = c.in-Ok.ensures.ok in
    (goes-entered (began desk_start c.args.self.now.book) (view c.args.seat.now) (view c.turn.new.seat) s.0 (Observed c.args.who.now c.in-Ok.look) (subst (λ k. TookTurn (view c.args.seat.now) s.0 (Observed k.who.now c.in-Ok.look ∷ []) (view c.turn.new.seat)) s.2.0 s.1) s.2.1.0).carried

pub returns-in-Ok-clause-look : goal.returns-in-Ok-clause-look
returns-in-Ok-clause-look g c =
    let s = c.in-Ok.ensures.ok in
    looked (began desk_start c.args.self.now.book) (view c.args.seat.now) (view c.turn.new.seat) s.0 c.args.who.now c.in-Ok.look
    (subst (λ k. TookTurn (view c.args.seat.now) s.0 (Observed k.who.now c.in-Ok.look ∷ []) (view c.turn.new.seat)) s.2.0 s.1) s.2.1

pub returns-in-Ok-clause-here : goal.returns-in-Ok-clause-here
returns-in-Ok-clause-here g c =
    let s = c.in-Ok.ensures.ok in
    looked-here (began desk_start c.args.self.now.book) (view c.args.seat.now) (view c.turn.new.seat) s.0 c.args.who.now c.in-Ok.look
    (subst (λ k. TookTurn (view c.args.seat.now) s.0 (Observed k.who.now c.in-Ok.look ∷ []) (view c.turn.new.seat)) s.2.0 s.1)

pub returns-in-Err-Memory-clause-own : goal.returns-in-Err-Memory-clause-own
returns-in-Err-Memory-clause-own g c =
    let d = c.in-Err-Memory.ensures.memory (ap (λ e. Err e) c.in-Err-Memory.field-0-is) in
    (c.turn.ensures.own, (goes-passed (began desk_start c.args.self.now.book) (view c.args.seat.now) (view c.turn.new.seat) d.0 d.1 d.2).legal)

pub returns-in-Err-Memory-clause-number : goal.returns-in-Err-Memory-clause-number
returns-in-Err-Memory-clause-number g c =
    let d = c.in-Err-Memory.ensures.memory (ap (λ e. Err e) c.in-Err-Memory.field-0-is) in
    (goes-passed (began desk_start c.args.self.now.book) (view c.args.seat.now) (view c.turn.new.seat) d.0 d.1 d.2).carried

pub returns-in-Err-Memory-clause-fault : goal.returns-in-Err-Memory-clause-fault
returns-in-Err-Memory-clause-fault g c =
    let d = c.in-Err-Memory.ensures.memory (ap (λ e. Err e) c.in-Err-Memory.field-0-is) in
    passed (began desk_start c.args.self.now.book) (view c.args.seat.now) (view c.turn.new.seat) d.0 d.1
