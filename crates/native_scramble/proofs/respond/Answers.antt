use Rattle.std.proofs.Common.{◌≡◌, rules}
use Rattle.native_scramble.proofs.NativeLaws.{native_right-native_answer}
use Rattle.native_scramble.specs.Native.{native_answer}
use Rattle.native_scramble.proofs.respond.Goals as goal

pub returns-clause-right : goal.returns-clause-right
returns-clause-right c =
    let answer : c.xor.result ≡ native_answer c.args.password.now c.args.nonce.now = search rules in
    rw answer (native_right-native_answer c.args.password.now c.args.nonce.now)
