-- A write that succeeds takes at least one of the bytes that are left.
use Rattle.std.proofs.Common.{length}
use Rattle.server_sockets.proofs.waits.write_until.Given as goal

abbrev pub decreases-loop-left : goal.decreases-loop-left
decreases-loop-left g l = length l.left
