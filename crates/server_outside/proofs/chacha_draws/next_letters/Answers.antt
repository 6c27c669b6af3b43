use Rattle.std.proofs.Common.{rules, refl, ◌<◌, length, arith}
use Rattle.server_outside.proofs.Drawing.{next_drawn}
use Rattle.server_outside.specs.Streams.{stream_letters}
use Rattle.server_outside.proofs.chacha_draws.next_letters.Goals as goal

pub letters-init : goal.letters-init
unfolding stream_letters
letters-init c = record { within = omega arith; long = refl; drawn = refl }

pub letters-preserved : goal.letters-preserved
letters-preserved c =
    let below : c.letters.count < length c.letters.letters = search rules in
    record {
      within = search rules;
      long = search rules;
      drawn = next_drawn c.letters.letters c.letters.count c.salt_byte.result c.next_word.result c.args.words.now c.letters.words c.next_word.new.self
          c.letters.invariant.drawn c.next_word.ensures c.salt_byte.ensures.value below;
    }
