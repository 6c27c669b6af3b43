-- Which bytes are the record of which account, under which key.
use Rattle.std.specs.Prelude.{◌≡◌, ℕ, ◌≤◌, ◌^◌, List, Option, Some, None, Result, Ok, Err}
use Rattle.factor_chain.specs.declared.credentials.Stored.{Stored}
use Rattle.account_rules.specs.declared.accounts.Account.{Account}
use Rattle.account_keeper.specs.Record.{FitsRecord, record_text}
use Rattle.account_keeper.specs.declared.reading.RecordFault.{RecordFault}
use Rattle.account_keeper.specs.declared.reading.RecordFault.TheVariants as fault

-- a secondary password without an id
abbrev pub HasNoId : Option (Stored × ℕ) → Type 0
HasNoId None = Unit {0}
HasNoId (Some second) = second.1 ≡ 0

-- the account has the key for its id, and its credentials have none
pub record HasNoIds (key : ℕ) (a : Account) : Type 0 where
  pub id : a.id ≡ key
  pub primary_id : a.primary_id ≡ 0
  pub secondary_id : HasNoId a.secondary

-- an account has such a key
pub record IsKey (key : ℕ) : Type 0 where
  pub least : 1 ≤ key
  pub most : key ≤ 2 ^ 62

-- Under this key, which an account can have, these bytes are the record of an account, whose credentials
-- have no ids.
pub record IsRecord (key : ℕ) (a : Account) (bytes : List ℕ) : Type 0 where
  pub is_key : IsKey key
  pub fits : FitsRecord a
  pub text : record_text a ≡ bytes
  pub ids : HasNoIds key a

-- a call gives this account, unless memory was wanting
abbrev pub Gives : Result Account RecordFault → Account → Type 0
Gives (Ok account) a = account ≡ a
Gives (Err e) a = e ≡ fault.Memory

-- ## What a record keeps of an account

abbrev pub without_id : Option (Stored × ℕ) → Option (Stored × ℕ)
without_id None = None
without_id (Some second) = Some (second.0, 0)

-- all but the ids: the account's own becomes the key, and its credentials have none
abbrev pub as_kept : ℕ → Account → Account
as_kept key a = record a { id = key; primary_id = 0; secondary = without_id a.secondary }
