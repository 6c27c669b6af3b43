use Rattle.std.proofs.Common.{arith}
use Rattle.std.proofs.lemmas.List.Elements.{All-replicate}
use Rattle.sha256_crypt.specs.Alphabet.{IsSaltByte}
use Rattle.sha256_crypt.proofs.SaltBytes.{IsSaltByte-at}
use Rattle.machine_probe.proofs.site.salt.Goals as goal

pub returns : goal.returns
returns c = All-replicate IsSaltByte 20 46 (IsSaltByte-at 0 (omega arith))
