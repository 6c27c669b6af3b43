use Rattle.std.proofs.Common.{◌≡◌, take}
use Rattle.result_sets.proofs.Reached.{Reached}
use Rattle.result_sets.proofs.reading.read_table.Given as goal

abbrev pub invariant-loop-payload : goal.invariant-loop-payload
invariant-loop-payload l = record { reached : Reached l.progress (take l.payload-index l.payloads); counted : l.index ≡ l.payload-index }
