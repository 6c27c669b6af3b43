use Rattle.std.proofs.KnownBytes.{Keeps-refl, Keeps-trans}
use Rattle.lg_outside.proofs.Writers.{kept-appends, kept-nothing}
use Rattle.lg_outside.proofs.standard_streams.write_once.Goals as goal

pub loop-init : goal.loop-init
loop-init g c = Keeps-refl (g.W.Write.contents c.args.writer.now)

pub returns-in-Ok-clause-writer : goal.returns-in-Ok-clause-writer
returns-in-Ok-clause-writer g c =
    kept-appends (g.W.Write.contents c.args.writer.now) (g.W.Write.contents c.loop.writer) (g.W.Write.contents c.write.new.self) _ c.loop.invariant c.in-Ok.ensures.bytes

pub returns-then-ne-clause-writer : goal.returns-then-ne-clause-writer
returns-then-ne-clause-writer g c =
    kept-nothing (g.W.Write.contents c.args.writer.now) (g.W.Write.contents c.write.new.self) c.args.bytes.now
    (Keeps-trans (g.W.Write.contents c.args.writer.now) (g.W.Write.contents c.loop.writer) (g.W.Write.contents c.write.new.self) c.loop.invariant c.in-Err.ensures.bytes)

pub loop-preserved : goal.loop-preserved
loop-preserved g c =
    Keeps-trans (g.W.Write.contents c.args.writer.now) (g.W.Write.contents c.loop.writer) (g.W.Write.contents c.write.new.self) c.loop.invariant c.in-Err.ensures.bytes

pub returns-clause-writer : goal.returns-clause-writer
returns-clause-writer g c = kept-nothing (g.W.Write.contents c.args.writer.now) (g.W.Write.contents c.loop.writer) c.args.bytes.now c.loop.invariant
