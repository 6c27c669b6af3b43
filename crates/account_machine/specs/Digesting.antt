-- The digests that the machine keeps, and the room for those that it may have to keep.
use Rattle.std.specs.Prelude.{◌≡◌, ℕ, ◌+◌, ◌≤◌, ◌==◌, ◌||◌, Bool, true, false, if◌then◌else◌, List, [], ◌∷◌, Option, Some, None}
use Rattle.digest_cache.specs.Cache.{Cache, digest_of, room_for}
use Rattle.factor_chain.specs.Checking.{first_fit}
use Rattle.factor_chain.specs.declared.credentials.Credential.{Credential}
use Rattle.factor_chain.specs.declared.credentials.Stored.{Stored}
use Rattle.factor_chain.specs.declared.evidence_list.Evidence.{Evidence}
use Rattle.factor_chain.specs.declared.evidence_list.Fit.{Fit}
use Rattle.factor_chain.specs.declared.evidence_list.Fit.TheVariants as fit
use Rattle.account_rules.specs.declared.accounts.Account.{Account}
use Rattle.stmt_rules.specs.declared.statement.Statement.{Statement}
use Rattle.stmt_rules.specs.declared.statement.Statement.TheVariants.{Create, Alter, Drop, Flush, Grant, Revoke}
use Rattle.account_history.specs.Histories.{History}
use Rattle.account_history.specs.Known.{is_number, known, primary_of, secondary_of}
use Rattle.account_history.specs.Records.{records}
use Rattle.account_history.specs.Stamps.{is_change}
use Rattle.account_history.specs.Verifying.{account_verifies}
use Rattle.account_machine.specs.Clearing.{is_flush}

-- ## Room

-- how many of an account's passwords have no digest
abbrev pub missing_second : (digests : ℕ → Option (List ℕ)) → Option (Stored × ℕ) → ℕ
missing_second digests None = 0
missing_second digests (Some second) = room_for (digests second.1)

abbrev pub missing_in : (digests : ℕ → Option (List ℕ)) → Account → ℕ
missing_in digests a = room_for (digests a.primary_id) + missing_second digests a.secondary

-- how many of the passwords of all accounts
abbrev pub missing : (digests : ℕ → Option (List ℕ)) → List Account → ℕ
missing digests [] = 0
missing digests (a ∷ accounts) = missing_in digests a + missing digests accounts

-- The digests that are kept are those that are known after a history, and there is room for one of each password without.
pub record AreDigests (cache : Cache) (h : History) : Type 0 where
  pub same : (id : ℕ) → digest_of cache id ≡ known h id
  pub room : missing (digest_of cache) (records h) ≤ cache.spare

-- ## What an attempt shows

-- what the first piece of evidence fits
abbrev pub first_of_all : Credential → Option Credential → List Evidence → Fit
first_of_all primary secondary [] = fit.Nothing
first_of_all primary secondary (given ∷ _) = first_fit given primary secondary

abbrev pub first_on : (digests : ℕ → Option (List ℕ)) → Account → List Evidence → Fit
first_on digests a evidences = first_of_all (primary_of digests a) (secondary_of digests a) evidences

-- the same where all evidence fits, and else nothing
abbrev pub verdict_on : (digests : ℕ → Option (List ℕ)) → Account → List Evidence → Fit
verdict_on digests a evidences = if account_verifies digests a evidences then first_on digests a evidences else fit.Nothing

abbrev pub second_number : Option (Stored × ℕ) → Option ℕ
second_number None = None
second_number (Some second) = Some second.1

-- the number of the account's password that a first piece fits
abbrev pub number_of : Account → Fit → Option ℕ
number_of a fit.Nothing = None
number_of a fit.Primary = Some a.primary_id
number_of a fit.Secondary = second_number a.secondary
number_of a fit.Factor = None

-- ## What a statement clears

-- the numbers of the passwords of the account that a statement is about, where it clears the account
abbrev pub numbers_of : Option Account → Option (ℕ × Option ℕ)
numbers_of None = None
numbers_of (Some a) = Some (a.primary_id, second_number a.secondary)

abbrev pub cleared_numbers : Statement → Option Account → Option (ℕ × Option ℕ)
cleared_numbers (Create name auth factors options) target = numbers_of target
cleared_numbers (Alter t change options) target = if is_change change then numbers_of target else None
cleared_numbers (Drop name) target = numbers_of target
cleared_numbers Flush target = None
cleared_numbers (Grant privileges name) target = None
cleared_numbers (Revoke privileges name) target = None

abbrev pub is_among : Option (ℕ × Option ℕ) → ℕ → Bool
is_among None id = false
is_among (Some numbers) id = (numbers.0 == id) || is_number id numbers.1

-- the digest of the password with this number is taken out
abbrev pub forgets : Statement → Option (ℕ × Option ℕ) → ℕ → Bool
forgets statement cleared id = if is_flush statement then true else is_among cleared id
