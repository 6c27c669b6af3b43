use Rattle.std.proofs.Common.{ap, ◌∙◌}
use Rattle.server_outside.proofs.Drawing.{drawn_are_salt, drawn_go_on}
use Rattle.server_outside.specs.Streams.{made_from}
use Rattle.server_outside.proofs.chacha_draws.ChaChaDrawsDraws.draw.Goals as goal

pub returns-clause-letters : goal.returns-clause-letters
returns-clause-letters c = drawn_are_salt c.next_letters.result 20 c.self.inside.words c.next_letters.new.words c.next_letters.ensures.drawn

pub returns-clause-made : goal.returns-clause-made
returns-clause-made c =
    drawn_go_on c.next_letters.result 20 c.self.inside.words c.next_letters.new.words c.next_letters.ensures.drawn
    ∙ ap made_from c.self.view_is
