-- What was read is within the room.
use Rattle.std.proofs.Common.{◌≤◌, length}
use Rattle.server_sockets.proofs.signals.read_status.Given as goal

abbrev pub invariant-loop : goal.invariant-loop
invariant-loop g l = l.count ≤ length l.room
