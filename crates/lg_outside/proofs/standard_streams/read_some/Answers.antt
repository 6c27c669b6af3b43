use Rattle.std.proofs.KnownBytes.{Keeps-refl, Keeps-trans}
use Rattle.lg_outside.proofs.Writers.{kept-consumes}
use Rattle.lg_outside.proofs.standard_streams.read_some.Goals as goal

pub loop-init : goal.loop-init
loop-init g c = Keeps-refl (g.R.Read.remaining c.args.reader.now)

pub returns-in-Ok-clause-reader : goal.returns-in-Ok-clause-reader
returns-in-Ok-clause-reader g c =
    let read = c.in-Ok.ensures.bytes in
    (kept-consumes (g.R.Read.remaining c.args.reader.now) (g.R.Read.remaining c.loop.reader) (g.R.Read.remaining c.read.new.self) _ c.loop.invariant read.0, read.1)

pub returns-then-ne-clause-reader : goal.returns-then-ne-clause-reader
returns-then-ne-clause-reader g c =
    Keeps-trans (g.R.Read.remaining c.args.reader.now) (g.R.Read.remaining c.loop.reader) (g.R.Read.remaining c.read.new.self) c.loop.invariant c.in-Err.ensures.bytes

pub loop-preserved : goal.loop-preserved
loop-preserved g c =
    Keeps-trans (g.R.Read.remaining c.args.reader.now) (g.R.Read.remaining c.loop.reader) (g.R.Read.remaining c.read.new.self) c.loop.invariant c.in-Err.ensures.bytes

pub returns-clause-reader : goal.returns-clause-reader
returns-clause-reader g c = c.loop.invariant
