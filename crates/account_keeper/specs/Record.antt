-- The record of an account, version 1: its bytes, and the accounts that have one. Numbers stand with the
-- lowest byte first, and passwords as their methods' stored texts.
use Rattle.std.specs.Prelude.{◌≡◌, ℕ, ◌+◌, ◌*◌, ◌<◌, ◌≤◌, ◌^◌, Bool, true, false, List, [], ◌∷◌, ◌++◌, length, Contains, Option, Some, None}
use Rattle.std.specs.List.{All, flat_map}
use Rattle.lg_base.specs.Fields.{little_text}
use Rattle.lg_base.specs.declared.names.Host.{Host}
use Rattle.lg_base.specs.declared.names.Host.TheVariants.{Localhost, Any}
use Rattle.native_scramble.specs.Native.{native_text}
use Rattle.caching_sha2.specs.Stored.{IsStorable, text_of}
use Rattle.caching_sha2.specs.declared.stored.Sha2Stored.{Sha2Stored}
use Rattle.login_lock.specs.declared.LockTime.{LockTime}
use Rattle.login_lock.specs.declared.LockTime.TheVariants as lock
use Rattle.factor_chain.specs.declared.credentials.Method.{Method}
use Rattle.factor_chain.specs.declared.credentials.Method.TheVariants as method
use Rattle.factor_chain.specs.declared.credentials.Stored.{Stored}
use Rattle.factor_chain.specs.declared.credentials.Stored.TheVariants as stored
use Rattle.factor_chain.specs.declared.credentials.PastRecord.{PastRecord}
use Rattle.account_rules.specs.declared.accounts.Lifetime.{Lifetime}
use Rattle.account_rules.specs.declared.accounts.Lifetime.TheVariants as lifetime
use Rattle.account_rules.specs.declared.accounts.Limit.{Limit}
use Rattle.account_rules.specs.declared.accounts.Limit.TheVariants as limit
use Rattle.account_rules.specs.declared.accounts.Account.{Account}

-- ## The bytes of single fields

abbrev pub host_byte : Host → ℕ
host_byte Localhost = 0
host_byte Any = 1

abbrev pub method_byte : Method → ℕ
method_byte method.Native = 0
method_byte method.CachingSha2 = 1

abbrev pub flag_byte : Bool → ℕ
flag_byte false = 0
flag_byte true = 1

-- 00 for the empty password, 01 and the native method's 41 bytes, or 02 and the caching method's 70
abbrev pub stored_text : Stored → List ℕ
stored_text stored.Empty = 0 ∷ []
stored_text (stored.Native digest) = 1 ∷ native_text digest
stored_text (stored.Sha2 value) = 2 ∷ text_of value

abbrev pub secondary_text : Option (Stored × ℕ) → List ℕ
secondary_text None = 0 ∷ []
secondary_text (Some second) = 1 ∷ stored_text second.0

abbrev pub counted_text : List ℕ → List ℕ
counted_text text = length text ∷ text

abbrev pub lifetime_text : Lifetime → List ℕ
lifetime_text lifetime.Default = 0 ∷ []
lifetime_text lifetime.Never = 1 ∷ []
lifetime_text (lifetime.Days days) = 2 ∷ little_text 2 days

abbrev pub limit_text : Limit → List ℕ
limit_text limit.Default = 0 ∷ []
limit_text (limit.Count count) = 1 ∷ little_text 2 count

abbrev pub lock_time_text : LockTime → List ℕ
lock_time_text (lock.Days days) = 0 ∷ little_text 2 days
lock_time_text lock.Unbounded = 1 ∷ []

-- CREATE USER in bit 0, APPLICATION_PASSWORD_ADMIN in bit 1
abbrev pub privileges_byte : Bool → Bool → ℕ
privileges_byte create_user password_admin = flag_byte create_user + 2 * flag_byte password_admin

abbrev pub past_text : PastRecord → List ℕ
past_text past = little_text 8 past.moment ++ stored_text past.stored

-- ## The bytes of a record

-- version, user behind its length, host, method
unfoldable pub head_text : Account → List ℕ
head_text a = 1 ∷ [] ++ counted_text a.name.user ++ host_byte a.name.host ∷ [] ++ method_byte a.method ∷ []

-- primary, secondary
unfoldable pub passwords_text : Account → List ℕ
passwords_text a = stored_text a.primary ++ secondary_text a.secondary

-- how many labels, and each behind its length
unfoldable pub labels_text : List (List ℕ) → List ℕ
labels_text labels = length labels ∷ [] ++ flat_map counted_text labels

-- changed, expired, lifetime, history, reuse
unfoldable pub terms_text : Account → List ℕ
terms_text a =
    little_text 8 a.changed ++ flag_byte a.expired ∷ [] ++ lifetime_text a.lifetime ++ limit_text a.history ++ limit_text a.reuse

-- attempts, lock time, locked, privileges
unfoldable pub guard_text : Account → List ℕ
guard_text a =
    little_text 2 a.lock.attempts ++ lock_time_text a.lock.time ++ flag_byte a.locked ∷ [] ++ privileges_byte a.create_user a.password_admin ∷ []

-- how many past passwords, and each with its moment, newest first
unfoldable pub pasts_text : List PastRecord → List ℕ
pasts_text past = little_text 2 (length past) ++ flat_map past_text past

unfoldable pub record_text : Account → List ℕ
record_text a =
    head_text a ++ passwords_text a ++ labels_text a.labels ++ terms_text a ++ guard_text a ++ pasts_text a.past

-- ## The accounts that have a record

-- the native method's digest: 20 bytes
abbrev pub IsDigest : List ℕ → Type 0
IsDigest digest = (length digest ≡ 20) × All (λ x. x < 256) digest

-- the caching method's salted sum: 20 bytes of salt and 43 of sum
abbrev pub IsSaltedSum : Sha2Stored → Type 0
IsSaltedSum value = IsStorable value × (length value.salt ≡ 20) × (length value.sum ≡ 43)

-- what is stored has a text
abbrev pub StoredFits : Stored → Type 0
StoredFits stored.Empty = Unit {0}
StoredFits (stored.Native digest) = IsDigest digest
StoredFits (stored.Sha2 value) = IsSaltedSum value

-- an account's password is empty or of the account's method
abbrev pub IsOf : Method → Stored → Type 0
IsOf m stored.Empty = Unit {0}
IsOf method.Native (stored.Native _) = Unit {0}
IsOf method.Native (stored.Sha2 _) = ⊥
IsOf method.CachingSha2 (stored.Native _) = ⊥
IsOf method.CachingSha2 (stored.Sha2 _) = Unit {0}

abbrev pub PasswordFits : Method → Stored → Type 0
PasswordFits m password = IsOf m password × StoredFits password

-- one that isn't empty
abbrev pub IsSet : Stored → Type 0
IsSet stored.Empty = ⊥
IsSet (stored.Native _) = Unit {0}
IsSet (stored.Sha2 _) = Unit {0}

-- a secondary password isn't empty, and stands only beside a primary that isn't
abbrev pub SecondaryFits : Method → Stored → Option (Stored × ℕ) → Type 0
SecondaryFits m primary None = Unit {0}
SecondaryFits m primary (Some second) = PasswordFits m second.0 × IsSet second.0 × IsSet primary

abbrev pub UserFits : List ℕ → Type 0
UserFits user = (1 ≤ length user) × (length user ≤ 32) × (¬ Contains user 0)

abbrev pub LabelFits : List ℕ → Type 0
LabelFits label = (1 ≤ length label) × (length label ≤ 64)

abbrev pub LabelsFit : List (List ℕ) → Type 0
LabelsFit labels = (length labels ≤ 2) × All LabelFits labels

abbrev pub LifetimeFits : Lifetime → Type 0
LifetimeFits lifetime.Default = Unit {0}
LifetimeFits lifetime.Never = Unit {0}
LifetimeFits (lifetime.Days days) = (1 ≤ days) × (days < 2 ^ 16)

-- a limit up to a greatest number
abbrev pub LimitFits : ℕ → Limit → Type 0
LimitFits most limit.Default = Unit {0}
LimitFits most (limit.Count count) = count ≤ most

abbrev pub LockTimeFits : LockTime → Type 0
LockTimeFits (lock.Days days) = days ≤ 32767
LockTimeFits lock.Unbounded = Unit {0}

abbrev pub PastFits : PastRecord → Type 0
PastFits past = (past.moment < 2 ^ 64) × StoredFits past.stored × IsSet past.stored

-- the moments don't rise from one to the next, the first of them at most this one
abbrev pub FallFrom : ℕ → List PastRecord → Type 0
FallFrom latest [] = Unit {0}
FallFrom latest (past ∷ older) = (past.moment ≤ latest) × FallFrom past.moment older

-- newest first
abbrev pub Fall : List PastRecord → Type 0
Fall [] = Unit {0}
Fall (past ∷ older) = FallFrom past.moment older

abbrev pub PastsFit : List PastRecord → Type 0
PastsFit past = (length past ≤ 256) × All PastFits past × Fall past

-- the fields fit the layout, but for the ids, which aren't in it
pub record FitsRecord (a : Account) : Type 0 where
  pub user : UserFits a.name.user
  pub primary : PasswordFits a.method a.primary
  pub secondary : SecondaryFits a.method a.primary a.secondary
  pub labels : LabelsFit a.labels
  pub changed : a.changed < 2 ^ 64
  pub lifetime : LifetimeFits a.lifetime
  pub history : LimitFits 256 a.history
  pub reuse : LimitFits 65535 a.reuse
  pub attempts : a.lock.attempts ≤ 32767
  pub lock_time : LockTimeFits a.lock.time
  pub past : PastsFit a.past
