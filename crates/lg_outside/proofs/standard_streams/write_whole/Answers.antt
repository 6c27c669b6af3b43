use Rattle.lg_outside.proofs.Writers.{fell_short, one_more}
use Rattle.lg_outside.proofs.standard_streams.write_whole.Goals as goal

pub returns-in-Err : goal.returns-in-Err
returns-in-Err g c =
    let (done, split, before) = c.loop-left.invariant in
    fell_short _ _ _ _ done _ split before c.in-Err.ensures.writer

pub loop-left-preserved : goal.loop-left-preserved
loop-left-preserved g c =
    let (done, split, before) = c.loop-left.invariant in
    one_more _ _ _ _ done _ _ split before c.in-Ok.ensures.writer
