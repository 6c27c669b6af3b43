use Rattle.std.proofs.Common.{◌≡◌, ◌++◌, drop}
use Rattle.password_history.specs.Reuse.{used_of}
use Rattle.password_history.proofs.reuse.used.Given as goal

-- what was told of records and what is left to tell are all
abbrev pub invariant-records : goal.invariant-records
invariant-records l = l.used ++ used_of (drop l.record-index l.fn.past) l.fn.password ≡ used_of l.fn.past l.fn.password
