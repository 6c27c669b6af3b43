use Rattle.shared_accounts.proofs.Salts.{dots-are-salt}
use Rattle.shared_accounts.proofs.shared.SharedAccounts.commit_plain.Goals as goal

pub commit_in_turn-requires-clause-letters : goal.commit_in_turn-requires-clause-letters
commit_in_turn-requires-clause-letters g c = dots-are-salt
