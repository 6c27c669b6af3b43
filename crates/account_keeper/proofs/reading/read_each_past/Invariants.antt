use Rattle.account_keeper.specs.Record.{PastFits, past_text}
use Rattle.account_keeper.proofs.Each.{ReadSoFar}
use Rattle.account_keeper.proofs.reading.read_each_past.Given as goal

abbrev pub invariant-loop : goal.invariant-loop
invariant-loop l = ReadSoFar past_text PastFits l.count l.initial.reader.rest l.pasts l.reader.rest l.counter
