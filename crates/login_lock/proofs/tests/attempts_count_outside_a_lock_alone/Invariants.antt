use Rattle.login_lock.specs.Lock.{IsTally}
use Rattle.login_lock.proofs.tests.attempts_count_outside_a_lock_alone.Given as goal

abbrev pub invariant-loop-now : goal.invariant-loop-now
invariant-loop-now g l = IsTally l.rule l.tally
