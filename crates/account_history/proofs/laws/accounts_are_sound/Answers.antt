use Rattle.account_history.proofs.Grammatical.{grammar-written}
use Rattle.account_history.proofs.Soundness.{accounts-sound, passwords-stay-gone}
use Rattle.account_history.proofs.laws.accounts_are_sound.Goals as goal

pub returns-clause-sound : goal.returns-clause-sound
returns-clause-sound c = accounts-sound

pub returns-clause-gone : goal.returns-clause-gone
returns-clause-gone c = passwords-stay-gone

pub returns-clause-grammar : goal.returns-clause-grammar
returns-clause-grammar c = grammar-written
