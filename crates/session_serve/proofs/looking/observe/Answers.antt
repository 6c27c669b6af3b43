use Rattle.std.proofs.Common.{refl, subst}
use Rattle.session_talk.specs.declared.actions.Ask.TheVariants as ask
use Rattle.shared_accounts.specs.Desks.{desk_start}
use Rattle.shared_accounts.specs.Sharing.{FailedLook}
use Rattle.turn_book.specs.Book.{began, view}
use Rattle.turn_book.specs.declared.object.TurnFault.{TurnFault}
use Rattle.session_serve.proofs.Owning.{end_fell_unread, holds_called, holds_paper, memory_fell_unread, observed_answered}
use Rattle.session_serve.proofs.looking.observe.Goals as goal

pub returns-in-Ok-clause-answered : goal.returns-in-Ok-clause-answered
returns-in-Ok-clause-answered g c draws clock =
    observed_answered (began desk_start c.args.accounts.now.book) (view c.args.seat.now) (view c.observe.new.seat) c.args.held.now c.looked.new.self draws clock c.args.who c.in-Ok.look c.in-Ok.ticket
    c.in-Ok.ensures.look c.in-Ok.ensures.here c.in-Ok.ensures.ticket
    (holds_paper c.args.held.now c.call.new.self c.looked.new.self c.args.held.now.paper _ (holds_called c.args.held.now c.call.new.self c.call.ensures) c.looked.ensures)
    c.requires.may c.requires.keeps

pub returns-in-Err-Memory-clause-fell : goal.returns-in-Err-Memory-clause-fell
returns-in-Err-Memory-clause-fell g c draws clock =
    memory_fell_unread (began desk_start c.args.accounts.now.book) (view c.args.seat.now) (view c.observe.new.seat) c.args.held.now c.call.new.self draws clock (ask.Observe c.args.who) refl
    (subst (λ (f : TurnFault). FailedLook (began desk_start c.args.accounts.now.book) (view c.args.seat.now) (view c.observe.new.seat) f) c.in-Err-Memory.field-0-is c.in-Err-Memory.ensures.fault)

pub returns-clause-fell : goal.returns-clause-fell
returns-clause-fell g c draws clock =
    end_fell_unread (began desk_start c.args.accounts.now.book) (view c.args.seat.now) (view c.observe.new.seat) c.args.held.now c.call.new.self draws clock (ask.Observe c.args.who) refl
    (subst (λ (f : TurnFault). FailedLook (began desk_start c.args.accounts.now.book) (view c.args.seat.now) (view c.observe.new.seat) f) c.in-Err-BookEnd.field-0-is c.in-Err-BookEnd.ensures.fault)
