use Rattle.std.proofs.Common.{◌≡◌, ◌∷◌, ◌<◌, Some, length, arith, rules}
use Rattle.script_text.specs.Reading.{after_line}
use Rattle.script_text.specs.Words.{parts}
use Rattle.script_text.proofs.Standing.{stands-more}
use Rattle.script_text.proofs.read_lines.Goals as goal

pub lines-preserved : goal.lines-preserved
lines-preserved c =
    let cut : parts 10 c.lines.rest.now ≡ c.cut.result.0.now ∷ parts 10 c.in-Some.behind.now = search rules in
    let fits : after_line c.cut.result.0.now c.lines.said ≡ Some c.take.new.self = search rules in
    let shorter : length c.in-Some.behind.now < length c.lines.rest.now = search rules in
    record {
      stands = stands-more c.args.text.now c.lines.rest.now c.cut.result.0.now c.in-Some.behind.now c.lines.said c.take.new.self c.lines.number c.lines.invariant.stands cut fits;
      bound = omega arith;
    }
