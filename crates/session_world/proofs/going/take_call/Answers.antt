use Rattle.std.proofs.Common.{refl, sym, subst}
use Rattle.session_engine.specs.Standing.{next_of, talk_of_session}
use Rattle.session_world.specs.Leading.{Leads}
use Rattle.session_world.specs.declared.calls.Calls.{Calls}
use Rattle.session_world.proofs.Turned.{none_rests}
use Rattle.session_world.proofs.going.take_call.Goals as goal

-- src/going.rt:131:9
pub returns-then-not-may_call-clause-leads : goal.returns-then-not-may_call-clause-leads
returns-then-not-may_call-clause-leads c =
    none_rests c.args.calls _ _ _ _ _ _ _ (c.if-not-may_call.ensures {u = tt}).1 c.requires.begun c.args.asks c.requires.asked c.requires.call

-- the calls that are left are those after one
pub returns-in_ok-execute-in-CommitLocked-clause-leads : goal.returns-in_ok-execute-in-CommitLocked-clause-leads
returns-in_ok-execute-in-CommitLocked-clause-leads c =
    let new = c.execute.new in
    subst (λ (left : Calls). Leads new.seat.number new.seat.peer new.out left new.table (next_of new.seat.session) (talk_of_session new.seat.session) new.seat.inbox
    c.args.out.now c.args.calls c.args.table.now (next_of c.args.seat.now.session) (talk_of_session c.args.seat.now.session) c.args.seat.now.inbox)
    (sym c.spend-left.ensures)
    ((c.in_ok-execute-in-CommitLocked.ensures {u = tt}).leads c.args.calls ((c.if-not-may_call.ensures {u = tt}).0 refl))

pub returns-in_ok-execute-in-CommitPlain-clause-leads : goal.returns-in_ok-execute-in-CommitPlain-clause-leads
returns-in_ok-execute-in-CommitPlain-clause-leads c =
    let new = c.execute-in-CommitPlain.new in
    subst (λ (left : Calls). Leads new.seat.number new.seat.peer new.out left new.table (next_of new.seat.session) (talk_of_session new.seat.session) new.seat.inbox
    c.args.out.now c.args.calls c.args.table.now (next_of c.args.seat.now.session) (talk_of_session c.args.seat.now.session) c.args.seat.now.inbox)
    (sym c.spend-left.ensures)
    ((c.in_ok-execute-in-CommitPlain.ensures {u = tt}).leads c.args.calls ((c.if-not-may_call.ensures {u = tt}).0 refl))
