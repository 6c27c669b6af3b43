use Rattle.std.proofs.Common.{refl}
use Rattle.sha256_crypt.specs.Crypt.{crypt_of}
use Rattle.sha256_crypt.proofs.SaltBytes.{All-encoded}
use Rattle.sha256_crypt.proofs.crypt.Goals as goal

pub returns-clause-value : goal.returns-clause-value
unfolding crypt_of
returns-clause-value c =
    rw (
      c.encoded.ensures,
      c.after_rounds-last.ensures,
      c.stretched-password_sequence.ensures,
      c.stretched-salt_sequence.ensures,
      c.digest_of_copies-password_digest.ensures,
      c.digest_of_copies-salt_digest.ensures,
      c.from.ensures,
      c.start_digest-start.ensures,
    ) refl

pub returns-clause-alphabet : goal.returns-clause-alphabet
returns-clause-alphabet c = rw (c.encoded.ensures) (All-encoded _)
