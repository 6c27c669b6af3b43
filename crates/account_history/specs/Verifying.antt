-- Which attempts verify: MySQL 8.0 Reference Manual, "Multifactor Authentication". Every factor of the account
-- in force has its evidence, and each piece fits what is in force.
use Rattle.std.specs.Prelude.{ℕ, List, Bool, false, Option, Some, None}
use Rattle.factor_chain.specs.declared.evidence_list.Evidence.{Evidence}
use Rattle.factor_chain.specs.Checking.{verifies_on}
use Rattle.account_rules.specs.declared.accounts.Account.{Account}
use Rattle.account_history.specs.Histories.{History}
use Rattle.account_history.specs.Known.{known, primary_of, secondary_of}

-- evidence on an account, with the digests that are known
abbrev pub account_verifies : (ℕ → Option (List ℕ)) → Account → List Evidence → Bool
account_verifies digests account evidences =
    verifies_on (primary_of digests account) (secondary_of digests account) account.labels evidences

-- evidence on the account in force for a user, after a history: where there is none, nothing verifies
abbrev pub verifies : History → Option Account → List Evidence → Bool
verifies h None evidences = false
verifies h (Some account) evidences = account_verifies (known h) account evidences
