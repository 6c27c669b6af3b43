-- The link isn't finished.
use Rattle.std.proofs.Common.{◌≡◌, false}
use Rattle.socket_probe.proofs.serving.write_back.Given as goal

abbrev pub invariant-reads : goal.invariant-reads
invariant-reads g l = g.L.Link.finished l.link ≡ false
