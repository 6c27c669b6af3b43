-- The text that a statement is printed as: keywords in upper case, one space between tokens, names and
-- strings in ', options in the order of their fields.
use Rattle.std.specs.Prelude.{ℕ, Bool, true, false, List, [], ◌++◌, flat_map, codes, decimal, Option, Some, None}
use Rattle.lg_base.specs.declared.names.Host.{Host}
use Rattle.lg_base.specs.declared.names.Host.TheVariants.{Localhost, Any}
use Rattle.lg_base.specs.declared.names.Name.{Name}
use Rattle.stmt_tokens.specs.Quoting.{quoted}
use Rattle.stmt_rules.specs.declared.statement.Auth.{Auth}
use Rattle.stmt_rules.specs.declared.statement.Bound.{Bound}
use Rattle.stmt_rules.specs.declared.statement.Bound.TheVariants as bounds
use Rattle.stmt_rules.specs.declared.statement.Change.{Change}
use Rattle.stmt_rules.specs.declared.statement.Change.TheVariants.{Nothing, Password, Discard, Add, Modify, DropFactor}
use Rattle.stmt_rules.specs.declared.statement.Expire.{Expire}
use Rattle.stmt_rules.specs.declared.statement.Expire.TheVariants as expires
use Rattle.stmt_rules.specs.declared.statement.FactorAuth.{FactorAuth}
use Rattle.stmt_rules.specs.declared.statement.Options.{Options}
use Rattle.stmt_rules.specs.declared.statement.Privileges.{Privileges}
use Rattle.stmt_rules.specs.declared.statement.Statement.{Statement}
use Rattle.stmt_rules.specs.declared.statement.Statement.TheVariants.{Create, Alter, Drop, Flush, Grant, Revoke}
use Rattle.stmt_rules.specs.declared.statement.Target.{Target}
use Rattle.stmt_rules.specs.declared.statement.Target.TheVariants.{Own, Named}
use Rattle.stmt_rules.specs.declared.statement.Time.{Time}
use Rattle.stmt_rules.specs.declared.statement.Time.TheVariants as time

abbrev pub host_text : Host → List ℕ
host_text Localhost = codes "@'localhost'"
host_text Any = codes "@'%'"

unfoldable pub name_text : Name → List ℕ
name_text n = quoted n.user ++ host_text n.host

abbrev pub method_text : Option (List ℕ) → List ℕ
method_text None = []
method_text (Some method) = codes " WITH " ++ quoted method

abbrev pub password_text : Option (List ℕ) → List ℕ
password_text None = []
password_text (Some password) = codes " BY " ++ quoted password

abbrev pub retain_text : Bool → List ℕ
retain_text true = codes " RETAIN CURRENT PASSWORD"
retain_text false = []

unfoldable pub auth_text : Auth → List ℕ
auth_text a = codes " IDENTIFIED" ++ method_text a.method ++ password_text a.password ++ retain_text a.retain

unfoldable pub optional_auth_text : Option Auth → List ℕ
optional_auth_text None = []
optional_auth_text (Some a) = auth_text a

unfoldable pub factor_text : FactorAuth → List ℕ
factor_text f = codes " IDENTIFIED WITH " ++ quoted f.method ++ codes " AS " ++ quoted f.label

abbrev pub and_factor_text : FactorAuth → List ℕ
and_factor_text f = codes " AND" ++ factor_text f

unfoldable pub expire_text : Option Expire → List ℕ
expire_text None = []
expire_text (Some expires.Now) = codes " PASSWORD EXPIRE"
expire_text (Some expires.Default) = codes " PASSWORD EXPIRE DEFAULT"
expire_text (Some expires.Never) = codes " PASSWORD EXPIRE NEVER"
expire_text (Some (expires.Days n)) = codes " PASSWORD EXPIRE INTERVAL " ++ decimal n ++ codes " DAY"

unfoldable pub history_text : Option Bound → List ℕ
history_text None = []
history_text (Some bounds.Default) = codes " PASSWORD HISTORY DEFAULT"
history_text (Some (bounds.Count n)) = codes " PASSWORD HISTORY " ++ decimal n

unfoldable pub reuse_text : Option Bound → List ℕ
reuse_text None = []
reuse_text (Some bounds.Default) = codes " PASSWORD REUSE INTERVAL DEFAULT"
reuse_text (Some (bounds.Count n)) = codes " PASSWORD REUSE INTERVAL " ++ decimal n ++ codes " DAY"

unfoldable pub attempts_text : Option ℕ → List ℕ
attempts_text None = []
attempts_text (Some n) = codes " FAILED_LOGIN_ATTEMPTS " ++ decimal n

unfoldable pub lock_time_text : Option Time → List ℕ
lock_time_text None = []
lock_time_text (Some (time.Days n)) = codes " PASSWORD_LOCK_TIME " ++ decimal n
lock_time_text (Some time.Unbounded) = codes " PASSWORD_LOCK_TIME UNBOUNDED"

unfoldable pub lock_text : Option Bool → List ℕ
lock_text None = []
lock_text (Some true) = codes " ACCOUNT LOCK"
lock_text (Some false) = codes " ACCOUNT UNLOCK"

unfoldable pub options_text : Options → List ℕ
options_text o =
    expire_text o.expire ++ history_text o.history ++ reuse_text o.reuse ++ attempts_text o.attempts
    ++ lock_time_text o.lock_time ++ lock_text o.lock

unfoldable pub target_text : Target → List ℕ
target_text Own = codes "USER()"
target_text (Named n) = name_text n

unfoldable pub change_text : Change → List ℕ
change_text Nothing = []
change_text (Password a) = auth_text a
change_text Discard = codes " DISCARD OLD PASSWORD"
change_text (Add n f) = codes " ADD " ++ decimal n ++ codes " FACTOR" ++ factor_text f
change_text (Modify n f) = codes " MODIFY " ++ decimal n ++ codes " FACTOR" ++ factor_text f
change_text (DropFactor n) = codes " DROP " ++ decimal n ++ codes " FACTOR"

abbrev pub privileges_words : Bool → Bool → List ℕ
privileges_words true true = codes "CREATE USER, APPLICATION_PASSWORD_ADMIN"
privileges_words true false = codes "CREATE USER"
privileges_words false _ = codes "APPLICATION_PASSWORD_ADMIN"

unfoldable pub privileges_text : Privileges → List ℕ
privileges_text p = privileges_words p.create_user p.password_admin

unfoldable pub printed : Statement → List ℕ
printed (Create n a fs o) =
    codes "CREATE USER " ++ name_text n ++ optional_auth_text a ++ flat_map and_factor_text fs ++ options_text o
printed (Alter t c o) = codes "ALTER USER " ++ target_text t ++ change_text c ++ options_text o
printed (Drop n) = codes "DROP USER " ++ name_text n
printed Flush = codes "FLUSH PRIVILEGES"
printed (Grant p n) = codes "GRANT " ++ privileges_text p ++ codes " ON *.* TO " ++ name_text n
printed (Revoke p n) = codes "REVOKE " ++ privileges_text p ++ codes " ON *.* FROM " ++ name_text n
