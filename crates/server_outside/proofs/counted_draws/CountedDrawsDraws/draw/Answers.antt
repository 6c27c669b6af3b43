use Rattle.server_outside.proofs.Letters.{number_is_salt}
use Rattle.server_outside.proofs.counted_draws.CountedDrawsDraws.draw.Goals as goal

pub returns-clause-letters : goal.returns-clause-letters
returns-clause-letters c = number_is_salt c.digits_of.result _ c.digits_of.ensures
