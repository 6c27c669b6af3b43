use Rattle.std.proofs.Common.{[], arith}
use Rattle.account_machine.proofs.clearing.raise_stamps.Goals as goal

pub raise_all-requires : goal.raise_all-requires
raise_all-requires c = let room = c.requires.room [] in omega (arith, room)
