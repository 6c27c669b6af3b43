use Rattle.std.proofs.Common.{refl}
use Rattle.account_history.proofs.laws.examples_hold.Goals as goal

pub returns-clause-lock : goal.returns-clause-lock
returns-clause-lock c = record { first = refl; second = refl; third = refl; still = refl; over = refl; anew = refl }

pub returns-clause-expiry : goal.returns-clause-expiry
returns-clause-expiry c = record { young = refl; old = refl; sandbox = refl; wrong_first = refl; back = refl; nobody = refl }
