use Rattle.account_keeper.proofs.Found.{eight_little}
use Rattle.account_keeper.proofs.reading.number_of.Goals as goal

pub returns-in-len8-clause-ok : goal.returns-in-len8-clause-ok
returns-in-len8-clause-ok c = eight_little c.args.text.now c.from_le_bytes.result c.in-len8.len_at_least c.in-len8.len_below c.from_le_bytes.ensures
