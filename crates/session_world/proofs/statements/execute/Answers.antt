use Rattle.std.proofs.Common.{refl}
use Rattle.session_world.proofs.Committing.{execute_leads}
use Rattle.session_world.proofs.Giving.{on_ok, printed_so}
use Rattle.session_world.proofs.statements.execute.Goals as goal

pub returns-clause-leads : goal.returns-clause-leads
returns-clause-leads c calls some = on_ok c.act.result c.act.ensures.acted
    (λ acted. execute_leads _ _ _ _ _ _ _ _ _ calls _ _ _ c.args.statement.now c.args.salt.now c.args.actor c.in_ok-reply.reply (record { lines = c.execute.new.out; sent = c.args.out.now.sent }) some c.requires.begun refl c.requires.asked
    (c.in_ok-reply.ensures {u = tt}).reply (c.in_ok-reply.ensures {u = tt}).entry (printed_so c.args.out.now _ _ (c.in_ok-reply.ensures {u = tt}).printed) acted)
