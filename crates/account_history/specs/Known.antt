-- The digests that are known: MySQL 8.0 Reference Manual, "Caching SHA-2 Pluggable Authentication", the server's cache of
-- digests.
--
-- A user that has logged in with a password in clear can log in by the password's digest from then on, until the account
-- is made, dropped or given other ways of authentication, or the privileges are flushed. What is known of a password is a
-- search over the entries since the last one that clears it, and no cache.
use Rattle.std.specs.Prelude.{ℕ, ◌==◌, List, [], ◌∷◌, ◌++◌, Bool, true, false, ◌&&◌, if◌then◌else◌, Option, Some, None, option_map}
use Rattle.caching_sha2.specs.Fast.{digest_of}
use Rattle.factor_chain.specs.Checking.{full_fits}
use Rattle.factor_chain.specs.declared.credentials.Credential.{Credential}
use Rattle.factor_chain.specs.declared.credentials.Stored.{Stored}
use Rattle.factor_chain.specs.declared.evidence_list.Evidence.{Evidence}
use Rattle.factor_chain.specs.declared.evidence_list.Evidence.TheVariants as evidence
use Rattle.account_rules.specs.declared.accounts.Account.{Account}
use Rattle.stmt_rules.specs.declared.statement.Statement.{Statement}
use Rattle.stmt_rules.specs.declared.statement.Statement.TheVariants.{Create, Alter, Drop, Flush, Grant, Revoke}
use Rattle.account_history.specs.declared.entries.Attempt.{Attempt}
use Rattle.account_history.specs.declared.entries.Entry.{Entry}
use Rattle.account_history.specs.declared.entries.Entry.TheVariants.{Observed, Attempted, Executed}
use Rattle.account_history.specs.declared.entries.Execution.{Execution}
use Rattle.account_history.specs.Given.{is_done}
use Rattle.account_history.specs.Histories.{History, From, ◌▹◌}
use Rattle.account_history.specs.Naming.{holds_password, in_force, or_else}
use Rattle.account_history.specs.Records.{records}
use Rattle.account_history.specs.Replies.{opens}
use Rattle.account_history.specs.Searching.{after_last}
use Rattle.account_history.specs.Stamps.{is_change}
use Rattle.account_history.specs.Targets.{of_account, target_of}

-- ## Which entries show a digest

-- the number of a secondary password that a password in clear fits
abbrev pub fitted_second : Option (Stored × ℕ) → (password : List ℕ) → Option ℕ
fitted_second None password = None
fitted_second (Some second) password = if full_fits second.0 password then Some second.1 else None

-- the number of an account's password that a password in clear fits: the primary is tried, then the secondary
abbrev pub fitted : Account → (password : List ℕ) → Option ℕ
fitted a password = if full_fits a.primary password then Some a.primary_id else fitted_second a.secondary password

abbrev pub is_number : ℕ → Option ℕ → Bool
is_number id None = false
is_number id (Some n) = n == id

abbrev pub shown_of : ℕ → (password : List ℕ) → Option ℕ → Option (List ℕ)
shown_of id password number = if is_number id number then Some (digest_of password) else None

-- the password in clear that evidence begins with
abbrev pub clear_password : List Evidence → Option (List ℕ)
clear_password [] = None
clear_password (evidence.Native _ _ ∷ _) = None
clear_password (evidence.Fast _ _ ∷ _) = None
clear_password (evidence.Full password ∷ _) = Some password
clear_password (evidence.Empty ∷ _) = None
clear_password (evidence.External _ _ ∷ _) = None

-- a password in clear shows the digest of the account's password that it fits
abbrev pub shown_by : Account → (clear : Option (List ℕ)) → (id : ℕ) → Option (List ℕ)
shown_by a None id = None
shown_by a (Some password) id = shown_of id password (fitted a password)

abbrev pub shown_on : Option Account → List Evidence → (id : ℕ) → Option (List ℕ)
shown_on None evidences id = None
shown_on (Some a) evidences id = shown_by a (clear_password evidences) id

-- an attempt on the account that is in force shows one only where a session opened
abbrev pub shown_to : Option Account → Attempt → (id : ℕ) → Option (List ℕ)
shown_to account attempt id = if opens attempt.reply then shown_on account attempt.evidences id else None

-- ## Which entries clear it

-- A statement clears the account that it is about: it makes or drops it, or changes its ways of authentication. FLUSH
-- PRIVILEGES clears every account. What is cleared is the password with a number of an account that is cleared.
abbrev pub clears_password : List Account → (actor : ℕ) → Statement → (id : ℕ) → Bool
clears_password accounts actor (Create name auth factors options) id =
    of_account (holds_password id) (target_of accounts (Create name auth factors options) actor)
clears_password accounts actor (Alter target change options) id =
    is_change change && of_account (holds_password id) (target_of accounts (Alter target change options) actor)
clears_password accounts actor (Drop name) id = of_account (holds_password id) (target_of accounts (Drop name) actor)
clears_password accounts actor Flush id = true
clears_password accounts actor (Grant privileges name) id = false
clears_password accounts actor (Revoke privileges name) id = false

abbrev pub clears_known : History → Execution → (id : ℕ) → Bool
clears_known h e id = is_done e.reply && clears_password (records h) e.actor e.statement id

-- ## What is known

-- what an entry is to the password with a number: whether it clears it, and the digest that it shows
pub record Sight : Type 0 where
  pub clears : Bool
  pub shows : Option (List ℕ)

abbrev pub sight_of : History → Entry → (id : ℕ) → Sight
sight_of h (Observed who look) id = record { clears = false; shows = None }
sight_of h (Attempted attempt) id = record { clears = false; shows = shown_to (in_force (records h) attempt.user) attempt id }
sight_of h (Executed execution) id = record { clears = clears_known h execution id; shows = None }

-- the entries of a history, oldest first
abbrev pub sights : History → (id : ℕ) → List Sight
sights (From start) id = []
sights (h ▹ entry) id = sights h id ++ sight_of h entry id ∷ []

-- the first digest that is shown
abbrev pub first_shown : List Sight → Option (List ℕ)
first_shown [] = None
first_shown (x ∷ xs) = or_else x.shows (first_shown xs)

-- what is known of the password with a number: the first digest that is shown after the last entry that clears it
abbrev pub known : History → ℕ → Option (List ℕ)
known h id = first_shown (after_last (λ sight. sight.clears) (sights h id))

-- ## Credentials

-- a stored password as a credential, with what is known of it
abbrev pub credential : (ℕ → Option (List ℕ)) → ℕ → Stored → Credential
credential digests id stored = record { id = id; stored = stored; digest = digests id }

abbrev pub primary_of : (ℕ → Option (List ℕ)) → Account → Credential
primary_of digests account = credential digests account.primary_id account.primary

abbrev pub secondary_of : (ℕ → Option (List ℕ)) → Account → Option Credential
secondary_of digests account = option_map (λ kept. credential digests kept.1 kept.0) account.secondary
