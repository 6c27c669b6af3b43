use Rattle.std.proofs.Common.{◌≡◌, ◌++◌, take}
use Rattle.std.specs.List.{flat_map}
use Rattle.account_keeper.specs.Record.{past_text}
use Rattle.account_keeper.proofs.writing.write_each_past.Given as goal

abbrev pub invariant-loop-record : goal.invariant-loop-record
invariant-loop-record l = l.out ≡ l.initial.out ++ flat_map past_text (take l.record-index l.past)
