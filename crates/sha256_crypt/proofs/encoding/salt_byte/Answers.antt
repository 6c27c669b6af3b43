use Rattle.sha256_crypt.proofs.SaltBytes.{IsSaltByte-at}
use Rattle.sha256_crypt.proofs.encoding.salt_byte.Goals as goal

pub returns-clause-salt : goal.returns-clause-salt
returns-clause-salt c = rw c.from.ensures (IsSaltByte-at c.args.number c.requires)
