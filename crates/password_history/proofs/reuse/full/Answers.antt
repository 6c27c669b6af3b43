use Rattle.std.proofs.Common.{◌∙◌}
use Rattle.password_history.proofs.Records.{is_full-by_oldest}
use Rattle.password_history.proofs.reuse.full.Goals as goal

pub returns-in-len1-up : goal.returns-in-len1-up
returns-in-len1-up c =
    c.is_young.ensures ∙ is_full-by_oldest c.args.past.now c.args.reuse c.args.now _ c.if-past-ne-MOST_PAST.false
