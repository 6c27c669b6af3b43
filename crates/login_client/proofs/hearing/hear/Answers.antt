use Rattle.std.proofs.Common.{arith, rules}
use Rattle.std.proofs.lemmas.Grind.{common_steps}
use Rattle.login_client.specs.declared.hearing.Heard.TheVariants.{Fast, Full, Other}
use Rattle.login_client.proofs.HeardOf.{is_read}
use Rattle.login_client.proofs.hearing.hear.Goals as goal

pub returns-in-empty-clause-read : goal.returns-in-empty-clause-read
returns-in-empty-clause-read c = is_read c.args.payload.now Other (search rules)

pub returns-in-1-clause-read : goal.returns-in-1-clause-read
returns-in-1-clause-read c = is_read c.args.payload.now Fast (grind (arith, common_steps))

pub returns-in-1-2-clause-read : goal.returns-in-1-2-clause-read
returns-in-1-2-clause-read c = is_read c.args.payload.now Full (grind (arith, common_steps))

pub returns-in_default-clause-read : goal.returns-in_default-clause-read
returns-in_default-clause-read c = is_read c.args.payload.now Other (search rules)
