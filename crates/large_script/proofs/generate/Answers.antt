use Rattle.large_script.proofs.Given.{given-as}
use Rattle.large_script.proofs.generate.Goals as goal

pub new-requires : goal.new-requires
new-requires c = given-as c.no_setup.result c.in_ok-events.events c.args.number c.no_setup.ensures (c.in_ok-events.ensures {u = tt})
