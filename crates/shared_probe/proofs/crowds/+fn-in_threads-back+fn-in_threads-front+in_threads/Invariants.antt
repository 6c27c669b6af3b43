use Rattle.std.proofs.Common.{◌+◌, ◌*◌}
use Rattle.shared_probe.proofs.crowds.+fn-in_threads-back+fn-in_threads-front+in_threads.Given as goal

abbrev pub decreases-in_threads : goal.decreases-in_threads
decreases-in_threads g l = 2 * l.threads

abbrev pub decreases-front : goal.decreases-front
decreases-front g l = 2 * l.low + 1

abbrev pub decreases-back : goal.decreases-back
decreases-back g l = 2 * l.high + 1
