use Rattle.std.proofs.Common.{refl, subst}
use Rattle.session_serve.specs.declared.holding.Paper.TheVariants as paper
use Rattle.session_talk.specs.declared.actions.Ask.TheVariants as ask
use Rattle.shared_accounts.specs.Desks.{desk_start}
use Rattle.shared_accounts.specs.Sharing.{FailedLook}
use Rattle.turn_book.specs.Book.{began, view}
use Rattle.turn_book.specs.declared.object.TurnFault.{TurnFault}
use Rattle.session_serve.proofs.Owning.{end_fell_unread, holds_paper, holds_taken, memory_fell_unread, renewed_answered}
use Rattle.session_serve.proofs.looking.renew.Goals as goal

pub returns-in-Ok-clause-answered : goal.returns-in-Ok-clause-answered
returns-in-Ok-clause-answered g c draws clock =
    renewed_answered (began desk_start c.args.accounts.now.book) (view c.args.seat.now) (view c.renew.new.seat) c.args.held.now c.looked.new.self draws clock c.args.who c.in-Ok.look c.in-Ok.ticket
    c.in-Ok.ensures.look c.in-Ok.ensures.here c.in-Ok.ensures.ticket
    (holds_paper c.args.held.now c.take_late-late.new.self c.looked.new.self paper.Nothing _ (holds_taken c.args.held.now c.take_late-late.new.self c.take_late-late.ensures.left) c.looked.ensures)
    c.requires.may.1 c.requires.keeps

pub returns-in-Err-Memory-clause-fell : goal.returns-in-Err-Memory-clause-fell
returns-in-Err-Memory-clause-fell g c draws clock =
    memory_fell_unread (began desk_start c.args.accounts.now.book) (view c.args.seat.now) (view c.renew.new.seat) c.args.held.now c.take_late-late.new.self draws clock (ask.Renew c.args.who) refl
    (subst (λ (f : TurnFault). FailedLook (began desk_start c.args.accounts.now.book) (view c.args.seat.now) (view c.renew.new.seat) f) c.in-Err-Memory.field-0-is c.in-Err-Memory.ensures.fault)

pub returns-clause-fell : goal.returns-clause-fell
returns-clause-fell g c draws clock =
    end_fell_unread (began desk_start c.args.accounts.now.book) (view c.args.seat.now) (view c.renew.new.seat) c.args.held.now c.take_late-late.new.self draws clock (ask.Renew c.args.who) refl
    (subst (λ (f : TurnFault). FailedLook (began desk_start c.args.accounts.now.book) (view c.args.seat.now) (view c.renew.new.seat) f) c.in-Err-BookEnd.field-0-is c.in-Err-BookEnd.ensures.fault)
