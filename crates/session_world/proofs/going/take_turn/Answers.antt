use Rattle.std.proofs.Common.{sym, ◌∙◌}
use Rattle.session_world.proofs.Giving.{of_some, printed_so}
use Rattle.session_world.proofs.Turned.{ended_rests}
use Rattle.session_world.proofs.going.take_turn.Goals as goal

-- src/going.rt:53:1
pub returns-in-Some-clause-leads : goal.returns-in-Some-clause-leads
returns-in-Some-clause-leads c =
    of_some _ _ _ ((c.in_ok-next-in-Read.ensures {u = tt}).leads c.args.calls c.args.table.now) c.in-Some.is

-- src/going.rt:53:1
pub returns-in_ok-print_end-in-Ended-clause-leads :
    goal.returns-in_ok-print_end-in-Ended-clause-leads
returns-in_ok-print_end-in-Ended-clause-leads c =
    ended_rests _ _ c.args.calls _ _ _ _ c.in-Ended.how c.args.out.now _ c.requires.begun (sym c.requires.asked ∙ c.in-Ended.is)
    (printed_so c.args.out.now _ _ (c.in_ok-print_end-in-Ended.ensures {u = tt}))
