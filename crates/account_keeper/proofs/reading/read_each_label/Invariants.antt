use Rattle.account_keeper.specs.Record.{LabelFits, counted_text}
use Rattle.account_keeper.proofs.Each.{ReadSoFar}
use Rattle.account_keeper.proofs.reading.read_each_label.Given as goal

abbrev pub invariant-loop : goal.invariant-loop
invariant-loop l = ReadSoFar counted_text LabelFits l.count l.initial.reader.rest l.labels l.reader.rest l.counter
