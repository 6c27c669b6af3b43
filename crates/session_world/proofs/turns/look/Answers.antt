use Rattle.std.proofs.Common.{refl}
use Rattle.session_world.proofs.Giving.{on_ok, printed_so}
use Rattle.session_world.proofs.Turned.{look_leads}
use Rattle.session_world.proofs.turns.look.Goals as goal

pub returns-clause-leads : goal.returns-clause-leads
returns-clause-leads c calls some = on_ok c.act.result c.act.ensures.acted
    (λ acted. look_leads _ _ _ _ _ _ _ _ _ calls _ _ _ c.args.who.now c.in_ok-look.look (record { lines = c.look.new.out; sent = c.args.out.now.sent }) some c.requires.begun refl c.requires.asked
    (c.in_ok-look.ensures {u = tt}).look (c.in_ok-look.ensures {u = tt}).entry (printed_so c.args.out.now _ _ (c.in_ok-look.ensures {u = tt}).printed) acted)
