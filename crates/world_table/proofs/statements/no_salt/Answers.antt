use Rattle.std.proofs.Common.{refl}
use Rattle.session_talk.specs.Statements.{no_salt}
use Rattle.world_table.proofs.Lettered.{no_salt_letters}
use Rattle.world_table.proofs.statements.no_salt.Goals as goal

pub returns-clause-letters : goal.returns-clause-letters
returns-clause-letters c = no_salt_letters no_salt refl
