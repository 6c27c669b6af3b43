-- What an equal stamp tells of a user.
use Rattle.std.specs.Prelude.{◌≡◌, ℕ, ◌==◌, List, map, filter, Bool, true, false, ◌&&◌, ◌||◌, Option, Some, None, option_map}
use Rattle.std.specs.List.{list_any}
use Rattle.std.specs.Str.{bytes_eq}
use Rattle.lg_base.specs.declared.names.Name.{Name}
use Rattle.factor_chain.specs.declared.credentials.Method.{Method}
use Rattle.factor_chain.specs.declared.credentials.Stored.{Stored}
use Rattle.factor_chain.specs.declared.credentials.PastRecord.{PastRecord}
use Rattle.account_rules.specs.declared.accounts.Account.{Account}
use Rattle.account_history.specs.declared.entries.Entry.{Entry}
use Rattle.account_history.specs.Histories.{History, after_entries, start_of}
use Rattle.account_history.specs.Known.{known}
use Rattle.account_history.specs.Records.{in_force, records}
use Rattle.account_history.specs.Legal.{IsLegal}
use Rattle.account_history.specs.Naming.{has_password}
use Rattle.account_history.specs.Sound.{AreSound, AreWritten}
use Rattle.account_history.specs.Stamps.{stamp}

-- what a user logs in with: an account but for its options and privileges
pub record Kept : Type 0 where
  pub id : ℕ
  pub name : Name
  pub method : Method
  pub primary : Stored
  pub primary_id : ℕ
  pub secondary : Option (Stored × ℕ)
  pub labels : List (List ℕ)
  pub past : List PastRecord

abbrev pub kept : Account → Kept
kept account = record {
  id = account.id;
  name = account.name;
  method = account.method;
  primary = account.primary;
  primary_id = account.primary_id;
  secondary = account.secondary;
  labels = account.labels;
  past = account.past;
}

abbrev pub is_of : List ℕ → Kept → Bool
is_of user account = bytes_eq account.name.user user

-- one of the account's passwords has this number
abbrev pub keeps_password : ℕ → Kept → Bool
keeps_password id account = (account.primary_id == id) || has_password id account.secondary

-- one of the passwords that the user's accounts have
abbrev pub is_own_password : List ℕ → List Account → ℕ → Bool
is_own_password user accounts id = list_any (λ account. is_of user account && keeps_password id account) (map kept accounts)

-- A user logs in with the same after two histories, and what was known of the user's passwords after the first is known
-- after the second.
pub record SameFor (user : List ℕ) (h k : History) : Type 0 where
  pub accounts : filter (is_of user) (map kept (records k)) ≡ filter (is_of user) (map kept (records h))
  pub stands : option_map kept (in_force (records k) user) ≡ option_map kept (in_force (records h) user)
  pub digests : (id : ℕ) (digest : List ℕ) → is_own_password user (records h) id ≡ true → known h id ≡ Some digest
      → known k id ≡ Some digest

-- From sound accounts an equal stamp after further entries tells that nothing has changed for the user.
abbrev pub StampsTell : Type 0
StampsTell =
    (h : History) (entries : List Entry) (user : List ℕ) → AreSound (start_of h).accounts → IsLegal (after_entries h entries)
    → AreWritten (after_entries h entries) → stamp (after_entries h entries) user ≡ stamp h user
    → SameFor user h (after_entries h entries)
