use Rattle.std.proofs.Common.{◌≡◌, rules}
use Rattle.caching_sha2.specs.Fast.{fast_answer}
use Rattle.caching_sha2.proofs.FastLaws.{fast_right-fast_answer}
use Rattle.caching_sha2.proofs.fast.fast_response.Goals as goal

pub returns-clause-right : goal.returns-clause-right
returns-clause-right c =
    let answer : c.xor_bytes.result ≡ fast_answer c.args.password.now c.args.nonce.now = search rules in
    rw answer (fast_right-fast_answer c.args.password.now c.args.nonce.now)
