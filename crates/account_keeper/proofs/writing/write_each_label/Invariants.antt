use Rattle.std.proofs.Common.{◌≡◌, ◌++◌, take}
use Rattle.std.specs.List.{flat_map}
use Rattle.account_keeper.specs.Record.{counted_text}
use Rattle.account_keeper.proofs.writing.write_each_label.Given as goal

abbrev pub invariant-loop-label : goal.invariant-loop-label
invariant-loop-label l = l.out ≡ l.initial.out ++ flat_map counted_text (take l.label-index l.labels)
