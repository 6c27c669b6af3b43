-- A statement that is prepared on a look, before it is committed: what is stored of its new password, and which of the past
-- passwords that are seen it fits.
use Rattle.std.specs.Prelude.{◌≡◌, ℕ, nat_le, Bool, true, false, if◌then◌else◌, List, [], length, Option, Some, None}
use Rattle.std.specs.List.{All}
use Rattle.sha256_crypt.specs.Alphabet.{IsSaltByte}
use Rattle.factor_chain.specs.declared.credentials.InForce.{InForce}
use Rattle.factor_chain.specs.declared.credentials.Look.{Look}
use Rattle.factor_chain.specs.declared.credentials.Method.{Method}
use Rattle.factor_chain.specs.declared.credentials.Method.TheVariants as method
use Rattle.factor_chain.specs.declared.credentials.PastRecord.{PastRecord}
use Rattle.factor_chain.specs.declared.credentials.Stored.{Stored}
use Rattle.stmt_rules.specs.declared.statement.Auth.{Auth}
use Rattle.stmt_rules.specs.declared.statement.Statement.{Statement}
use Rattle.stmt_rules.specs.declared.statement.Statement.TheVariants.{Create, Alter, Drop, Flush, Grant, Revoke}
use Rattle.stmt_rules.specs.declared.statement.Target.{Target}
use Rattle.stmt_rules.specs.declared.statement.Target.TheVariants.{Own, Named}
use Rattle.password_history.specs.Reuse.{used_of}
use Rattle.account_history.specs.declared.entries.Who.{Who}
use Rattle.account_history.specs.declared.entries.Who.TheVariants as who
use Rattle.account_history.specs.Effects.{auth_or_none}
use Rattle.account_history.specs.Passwords.{method_after, password_of, stored_of}
use Rattle.account_history.specs.Refusals.{auth_in, new_password}

pub record PreparedOf : Type 0 where
  pub look : Look
  pub statement : Statement
  pub salt : List ℕ
  pub actor : ℕ

-- 20 bytes of the alphabet of salts
abbrev pub IsSalt : List ℕ → Type 0
IsSalt salt = (length salt ≡ 20) × All IsSaltByte salt

-- the statements that may set a password
abbrev pub is_preparable : Statement → Bool
is_preparable (Create name auth factors options) = true
is_preparable (Alter target change options) = true
is_preparable (Drop name) = false
is_preparable Flush = false
is_preparable (Grant privileges name) = false
is_preparable (Revoke privileges name) = false

-- whose account such a statement is about
abbrev pub who_of_target : (actor : ℕ) → Target → Who
who_of_target actor Own = who.Own actor
who_of_target actor (Named name) = who.Account name

abbrev pub who_of : (actor : ℕ) → Statement → Who
who_of actor (Create name auth factors options) = who.Account name
who_of actor (Alter target change options) = who_of_target actor target
who_of actor (Drop name) = who.Account name
who_of actor Flush = who.Own actor
who_of actor (Grant privileges name) = who.Account name
who_of actor (Revoke privileges name) = who.Account name

-- the password that is set, with its method: CREATE USER always sets one
abbrev pub auth_set : Statement → Option Auth
auth_set (Create name auth factors options) = Some (auth_or_none auth)
auth_set (Alter target change options) = auth_in change
auth_set (Drop name) = None
auth_set Flush = None
auth_set (Grant privileges name) = None
auth_set (Revoke privileges name) = None

abbrev pub method_seen : Option InForce → Method
method_seen None = method.CachingSha2
method_seen (Some account) = account.method

-- the method that stands without WITH: a new account begins with the caching one
abbrev pub method_before : Statement → Option InForce → Method
method_before (Create name auth factors options) seen = method.CachingSha2
method_before (Alter target change options) seen = method_seen seen
method_before (Drop name) seen = method_seen seen
method_before Flush seen = method_seen seen
method_before (Grant privileges name) seen = method_seen seen
method_before (Revoke privileges name) seen = method_seen seen

-- nothing is stored of a password that is longer than any may be
abbrev pub stored_for : (salt : List ℕ) → Method → Auth → Option Stored
stored_for salt m auth =
    if nat_le (length (password_of auth.password)) 256
    then Some (stored_of (method_after auth.method m) salt (password_of auth.password))
    else None

abbrev pub stored_by_auth : (salt : List ℕ) → Method → Option Auth → Option Stored
stored_by_auth salt m None = None
stored_by_auth salt m (Some auth) = stored_for salt m auth

-- what is stored of the new password
abbrev pub stored_set : PreparedOf → Option Stored
stored_set p = stored_by_auth p.salt (method_before p.statement p.look.in_force) (auth_set p.statement)

abbrev pub past_seen : Option InForce → List PastRecord
past_seen None = []
past_seen (Some account) = account.past

-- which of the past passwords that are seen the new one fits
abbrev pub fits_set : PreparedOf → List Bool
fits_set p = used_of (past_seen p.look.in_force) (new_password p.statement)
