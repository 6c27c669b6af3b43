-- A new password of an account: IDENTIFIED [WITH method] [BY password] [RETAIN CURRENT PASSWORD].
--
-- MySQL 8.0 Reference Manual, "ALTER USER Statement", "Password Management" (dual password support, password reuse).
use Rattle.std.specs.Prelude.{ℕ, Bool, true, false, if◌then◌else◌, ◌||◌, not, List, [], ◌∷◌, Option, Some, None, codes}
use Rattle.native_scramble.specs.Native.{native_stage2}
use Rattle.sha256_crypt.specs.Crypt.{crypt_of}
use Rattle.factor_chain.specs.Checking.{is_empty}
use Rattle.factor_chain.specs.declared.credentials.Method.{Method}
use Rattle.factor_chain.specs.declared.credentials.Method.TheVariants as method
use Rattle.factor_chain.specs.declared.credentials.PastRecord.{PastRecord}
use Rattle.factor_chain.specs.declared.credentials.Stored.{Stored}
use Rattle.factor_chain.specs.declared.credentials.Stored.TheVariants as stored
use Rattle.password_history.specs.Reuse.{with_latest}
use Rattle.account_rules.specs.declared.accounts.Account.{Account}
use Rattle.stmt_rules.specs.declared.statement.Auth.{Auth}
use Rattle.stmt_tokens.specs.Patterns.{is_same}

-- the method of a name, in any case of its letters
abbrev pub method_named : List ℕ → Option Method
method_named name =
    if is_same name (codes "mysql_native_password") then Some method.Native
    else if is_same name (codes "caching_sha2_password") then Some method.CachingSha2
    else None

abbrev pub method_or : Method → Option Method → Method
method_or standing None = standing
method_or standing (Some m) = m

-- the method after a statement: the one behind WITH, or else the one that stands
abbrev pub method_after : Option (List ℕ) → Method → Method
method_after None standing = standing
method_after (Some name) standing = method_or standing (method_named name)

abbrev pub same_method : Method → Method → Bool
same_method method.Native method.Native = true
same_method method.Native method.CachingSha2 = false
same_method method.CachingSha2 method.Native = false
same_method method.CachingSha2 method.CachingSha2 = true

-- what is stored of a password that isn't empty: the caching method takes 5000 rounds and the salt that was drawn
abbrev pub stored_by : Method → (salt password : List ℕ) → Stored
stored_by method.Native salt password = stored.Native (native_stage2 password)
stored_by method.CachingSha2 salt password =
    stored.Sha2 (record { thousands = 5; salt = salt; sum = crypt_of password salt 5000 })

abbrev pub stored_of : Method → (salt password : List ℕ) → Stored
stored_of m salt [] = stored.Empty
stored_of m salt (b ∷ password) = stored_by m salt (b ∷ password)

-- the new password; without BY it is empty
abbrev pub password_of : Option (List ℕ) → List ℕ
password_of None = []
password_of (Some password) = password

-- the newest password is recorded, unless it is empty
abbrev pub recorded : (now : ℕ) → Stored → List PastRecord → List PastRecord
recorded now kept past = if is_empty kept then past else with_latest (record { moment = now; stored = kept }) past

-- The account with a new password, which has a number of its own, begins to age and isn't expired.
abbrev pub identified : (id : ℕ) → (salt : List ℕ) → (now : ℕ) → Auth → Account → Account
identified id salt now auth a =
    let m = method_after auth.method a.method in
    let kept = stored_of m salt (password_of auth.password) in
    record a { method = m; primary = kept; primary_id = id; changed = now; expired = false; past = recorded now kept a.past }

-- The secondary password after a change from the one account to the other: a new empty password and a change of method
-- remove it, and else RETAIN puts the old primary in its place.
abbrev pub secondary_after : Bool → Account → Account → Option (Stored × ℕ)
secondary_after retain old a =
    if is_empty a.primary || not (same_method a.method old.method) then None
    else if retain then Some (old.primary, old.primary_id)
    else old.secondary

abbrev pub with_password : (id : ℕ) → (salt : List ℕ) → (now : ℕ) → Auth → Account → Account
with_password id salt now auth a =
    let new = identified id salt now auth a in record new { secondary = secondary_after auth.retain a new }
