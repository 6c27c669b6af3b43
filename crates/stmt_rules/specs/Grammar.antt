-- The grammar of the account statements: MySQL 8.0 Reference Manual, "Account Management Statements".
use Rattle.std.specs.Prelude.{◌≡◌, refl, Ok, ℕ, Bool, true, false, List, [], ◌∷◌, codes, Option, Some, None}
use Rattle.lg_base.specs.declared.names.Host.{Host}
use Rattle.lg_base.specs.declared.names.Host.TheVariants.{Localhost, Any}
use Rattle.lg_base.specs.declared.names.Name.{Name}
use Rattle.stmt_rules.specs.Forms.{Form, gives, refused, ends, next, seq, many, either, Repeats, Shortens, none_shortens, next_shortens}
use Rattle.stmt_tokens.specs.Patterns.{Pattern, Word, Sign, Part, PartLike, InQuotes, Text, Number, number_of}
use Rattle.stmt_rules.specs.declared.statement.Auth.{Auth}
use Rattle.stmt_rules.specs.declared.statement.Bound.{Bound}
use Rattle.stmt_rules.specs.declared.statement.Bound.TheVariants as bounds
use Rattle.stmt_rules.specs.declared.statement.Change.{Change}
use Rattle.stmt_rules.specs.declared.statement.Change.TheVariants.{Nothing, Password, Discard, Add, Modify, DropFactor}
use Rattle.stmt_rules.specs.declared.statement.Expire.{Expire}
use Rattle.stmt_rules.specs.declared.statement.Expire.TheVariants as expires
use Rattle.stmt_rules.specs.declared.statement.FactorAuth.{FactorAuth}
use Rattle.stmt_rules.specs.declared.statement.Options.{Options}
use Rattle.stmt_rules.specs.declared.statement.Privileges.{Privileges}
use Rattle.stmt_rules.specs.declared.statement.Statement.{Statement}
use Rattle.stmt_rules.specs.declared.statement.Statement.TheVariants.{Create, Alter, Drop, Flush, Grant, Revoke}
use Rattle.stmt_rules.specs.declared.statement.Target.{Target}
use Rattle.stmt_rules.specs.declared.statement.Target.TheVariants.{Own, Named}
use Rattle.stmt_rules.specs.declared.statement.Time.{Time}
use Rattle.stmt_rules.specs.declared.statement.Time.TheVariants as time

-- one token that must stand
abbrev pub just : {A : Type 0} → Pattern → Form A → Form A
just p f = next p (λ _. f) refused

-- ['@' host], where % is quoted; without a host %
unfoldable pub host : Form Host
host = next (Sign 64)
    (λ _. next (PartLike (codes "localhost")) (λ _. gives Localhost)
    (next (InQuotes (codes "%")) (λ _. gives Any) refused))
    (gives Any)

-- the rest of a name behind its user
abbrev pub name_of : List ℕ → Form Name
name_of user = seq host (λ h. gives (record { user = user; host = h }))

-- part ['@' host]
unfoldable pub name : Form Name
name = next Part (λ user. name_of user) refused

-- [RETAIN CURRENT PASSWORD], where it may stand
unfoldable pub retained : Bool → Form Bool
retained keeps =
    either keeps
    (next (Word (codes "RETAIN"))
    (λ _. just (Word (codes "CURRENT")) (just (Word (codes "PASSWORD")) (gives true)))
    (gives false))
    (gives false)

-- string [RETAIN CURRENT PASSWORD], behind BY
unfoldable pub password : Bool → Option (List ℕ) → Form Auth
password keeps method = next Text
    (λ x. seq (retained keeps) (λ retain. gives (record { method = method; password = Some x; retain = retain })))
    refused

-- BY string [RETAIN CURRENT PASSWORD] | WITH word [BY string [RETAIN CURRENT PASSWORD]]
unfoldable pub auth : Bool → Form Auth
auth keeps =
    next (Word (codes "BY")) (λ _. password keeps None)
    (just (Word (codes "WITH")) (next Part
    (λ method. next (Word (codes "BY")) (λ _. password keeps (Some method))
    (gives (record { method = Some method; password = None; retain = false })))
    refused))

-- IDENTIFIED WITH word AS string
unfoldable pub factor : Form FactorAuth
factor =
    just (Word (codes "IDENTIFIED")) (just (Word (codes "WITH")) (next Part
    (λ method. just (Word (codes "AS")) (next Text
    (λ label. gives (record { method = method; label = label }))
    refused))
    refused))

-- {AND IDENTIFIED WITH word AS string}, at most twice
unfoldable pub factors : Form (List FactorAuth)
factors = next (Word (codes "AND"))
    (λ _. seq factor (λ second. next (Word (codes "AND"))
    (λ _. seq factor (λ third. gives (second ∷ third ∷ [])))
    (gives (second ∷ []))))
    (gives [])

-- DEFAULT | number
unfoldable pub bound : Form Bound
bound = next (Word (codes "DEFAULT")) (λ _. gives bounds.Default)
    (next Number (λ n. gives (bounds.Count (number_of n))) refused)

-- DEFAULT | number DAY
unfoldable pub bound_in_days : Form Bound
bound_in_days = next (Word (codes "DEFAULT")) (λ _. gives bounds.Default)
    (next Number (λ n. just (Word (codes "DAY")) (gives (bounds.Count (number_of n)))) refused)

-- number | UNBOUNDED
unfoldable pub lock_time : Form Time
lock_time = next (Word (codes "UNBOUNDED")) (λ _. gives time.Unbounded)
    (next Number (λ n. gives (time.Days (number_of n))) refused)

-- [DEFAULT | NEVER | INTERVAL number DAY]
unfoldable pub expire : Form Expire
expire = next (Word (codes "DEFAULT")) (λ _. gives expires.Default)
    (next (Word (codes "NEVER")) (λ _. gives expires.Never)
    (next (Word (codes "INTERVAL"))
    (λ _. next Number (λ n. just (Word (codes "DAY")) (gives (expires.Days (number_of n)))) refused)
    (gives expires.Now)))

-- the options that begin with PASSWORD
unfoldable pub password_option : Options → Form Options
password_option o =
    next (Word (codes "EXPIRE")) (λ _. seq expire (λ e. gives (record o { expire = Some e })))
    (next (Word (codes "HISTORY")) (λ _. seq bound (λ b. gives (record o { history = Some b })))
    (just (Word (codes "REUSE")) (just (Word (codes "INTERVAL"))
    (seq bound_in_days (λ b. gives (record o { reuse = Some b }))))))

-- LOCK | UNLOCK
unfoldable pub account_option : Options → Form Options
account_option o =
    next (Word (codes "LOCK")) (λ _. gives (record o { lock = Some true }))
    (just (Word (codes "UNLOCK")) (gives (record o { lock = Some false })))

-- an option behind the options so far, behind its first word
abbrev pub password_clause : Options → Form (Option Options)
password_clause o = seq (password_option o) (λ made. gives (Some made))

abbrev pub attempts_clause : Options → Form (Option Options)
attempts_clause o = next Number (λ n. gives (Some (record o { attempts = Some (number_of n) }))) refused

abbrev pub lock_time_clause : Options → Form (Option Options)
lock_time_clause o = seq lock_time (λ t. gives (Some (record o { lock_time = Some t })))

abbrev pub account_clause : Options → Form (Option Options)
account_clause o = seq (account_option o) (λ made. gives (Some made))

-- an option behind the options so far; or none, where none is needed
unfoldable pub option : Bool → Options → Form (Option Options)
option needed o =
    next (Word (codes "PASSWORD")) (λ _. password_clause o)
    (next (Word (codes "FAILED_LOGIN_ATTEMPTS")) (λ _. attempts_clause o)
    (next (Word (codes "PASSWORD_LOCK_TIME")) (λ _. lock_time_clause o)
    (next (Word (codes "ACCOUNT")) (λ _. account_clause o)
    (either needed refused (gives None)))))

option_ends : (o : Options) → (option false o).read [] ≡ Ok (None, [])
unfolding option
option_ends o = refl

option_shortens : (o : Options) → Shortens (option false o)
unfolding option
option_shortens o =
    next_shortens (Word (codes "PASSWORD")) (λ _. password_clause o)
    (next (Word (codes "FAILED_LOGIN_ATTEMPTS")) (λ _. attempts_clause o)
    (next (Word (codes "PASSWORD_LOCK_TIME")) (λ _. lock_time_clause o)
    (next (Word (codes "ACCOUNT")) (λ _. account_clause o) (gives None))))
    (next_shortens (Word (codes "FAILED_LOGIN_ATTEMPTS")) (λ _. attempts_clause o)
    (next (Word (codes "PASSWORD_LOCK_TIME")) (λ _. lock_time_clause o)
    (next (Word (codes "ACCOUNT")) (λ _. account_clause o) (gives None)))
    (next_shortens (Word (codes "PASSWORD_LOCK_TIME")) (λ _. lock_time_clause o)
    (next (Word (codes "ACCOUNT")) (λ _. account_clause o) (gives None))
    (next_shortens (Word (codes "ACCOUNT")) (λ _. account_clause o) (gives None) none_shortens)))

pub option_repeats : Repeats (option false)
option_repeats = record { at_the_end = option_ends; shorter = λ o further ts mid h. option_shortens o further ts mid h }

abbrev pub no_options : Options
no_options = record { expire = None; history = None; reuse = None; attempts = None; lock_time = None; lock = None }

abbrev pub further_options : Option Options → Form Options
further_options None = gives no_options
further_options (Some o) = many (option false) option_repeats o

-- {option}, with one at least where one is needed
unfoldable pub options : Bool → Form Options
options needed = seq (option needed no_options) further_options

-- [';'] and the end
unfoldable pub over : Form (Unit {0})
over = next (Sign 59) (λ _. ends tt) (ends tt)

-- (2 | 3) FACTOR
unfoldable pub numbered : Form ℕ
numbered =
    next (Word (codes "2")) (λ _. just (Word (codes "FACTOR")) (gives 2))
    (just (Word (codes "3")) (just (Word (codes "FACTOR")) (gives 3)))

-- OLD PASSWORD, behind DISCARD
unfoldable pub discarded : Form Change
discarded = just (Word (codes "OLD")) (just (Word (codes "PASSWORD")) (gives Discard))

-- what is done to an account's ways of authentication, or nothing
unfoldable pub change : Form Change
change =
    next (Word (codes "IDENTIFIED")) (λ _. seq (auth true) (λ a. gives (Password a)))
    (next (Word (codes "DISCARD")) (λ _. discarded)
    (next (Word (codes "ADD")) (λ _. seq numbered (λ n. seq factor (λ f. gives (Add n f))))
    (next (Word (codes "MODIFY")) (λ _. seq numbered (λ n. seq factor (λ f. gives (Modify n f))))
    (next (Word (codes "DROP")) (λ _. seq numbered (λ n. gives (DropFactor n)))
    (gives Nothing)))))

-- IDENTIFIED BY string [RETAIN CURRENT PASSWORD] | DISCARD OLD PASSWORD
unfoldable pub own_change : Form Change
own_change =
    next (Word (codes "IDENTIFIED"))
    (λ _. just (Word (codes "BY")) (seq (password true None) (λ a. gives (Password a))))
    (just (Word (codes "DISCARD")) discarded)

-- USER '(' ')' | name, where the word USER with ( behind it is no name
unfoldable pub target : Form Target
target =
    next (Word (codes "USER"))
    (λ user. next (Sign 40) (λ _. just (Sign 41) (gives Own)) (seq (name_of user) (λ n. gives (Named n))))
    (seq name (λ n. gives (Named n)))

-- [IDENTIFIED auth {AND factor}]
unfoldable pub ways : Form (Option Auth × List FactorAuth)
ways = next (Word (codes "IDENTIFIED"))
    (λ _. seq (auth false) (λ a. seq factors (λ fs. gives (Some a, fs))))
    (gives (None, []))

-- behind CREATE USER
unfoldable pub create : Form Statement
create = seq name (λ n. seq ways (λ w. seq (options false) (λ o. seq over
    (λ _. gives (Create n w.0 w.1 o)))))

abbrev pub is_nothing : Change → Bool
is_nothing Nothing = true
is_nothing _ = false

-- behind ALTER USER and its target
unfoldable pub alter_own : Form Statement
alter_own = seq own_change (λ c. seq over (λ _. gives (Alter Own c no_options)))

unfoldable pub alter_named : Name → Form Statement
alter_named n = seq change (λ c. seq (options (is_nothing c)) (λ o. seq over (λ _. gives (Alter (Named n) c o))))

abbrev pub alter_of : Target → Form Statement
alter_of Own = alter_own
alter_of (Named n) = alter_named n

-- behind ALTER USER
unfoldable pub alter : Form Statement
alter = seq target alter_of

-- CREATE USER | APPLICATION_PASSWORD_ADMIN, beside those so far
unfoldable pub privilege : Privileges → Form Privileges
privilege p =
    next (Word (codes "CREATE")) (λ _. just (Word (codes "USER")) (gives (record p { create_user = true })))
    (just (Word (codes "APPLICATION_PASSWORD_ADMIN")) (gives (record p { password_admin = true })))

-- one more privilege, if a comma stands
unfoldable pub further_privilege : Privileges → Form (Option Privileges)
further_privilege p = next (Sign 44) (λ _. seq (privilege p) (λ made. gives (Some made))) (gives None)

further_ends : (p : Privileges) → (further_privilege p).read [] ≡ Ok (None, [])
unfolding further_privilege
further_ends p = refl

further_shortens : (p : Privileges) → Shortens (further_privilege p)
unfolding further_privilege
further_shortens p = next_shortens (Sign 44) (λ _. seq (privilege p) (λ made. gives (Some made))) (gives None) none_shortens

pub privilege_repeats : Repeats further_privilege
privilege_repeats = record { at_the_end = further_ends; shorter = λ p further ts mid h. further_shortens p further ts mid h }

-- privilege {',' privilege}
unfoldable pub privileges : Form Privileges
privileges = seq (privilege (record { create_user = false; password_admin = false })) (many further_privilege privilege_repeats)

-- ON *.*
unfoldable pub on_all : Form (Unit {0})
on_all = just (Word (codes "ON")) (just (Sign 42) (just (Sign 46) (just (Sign 42) (gives tt))))

-- behind GRANT
unfoldable pub grant : Form Statement
grant = seq privileges (λ p. seq on_all (λ _. just (Word (codes "TO"))
    (seq name (λ n. seq over (λ _. gives (Grant p n))))))

-- behind REVOKE
unfoldable pub revoke : Form Statement
revoke = seq privileges (λ p. seq on_all (λ _. just (Word (codes "FROM"))
    (seq name (λ n. seq over (λ _. gives (Revoke p n))))))

-- behind DROP USER
unfoldable pub dropped : Form Statement
dropped = seq name (λ n. seq over (λ _. gives (Drop n)))

-- behind FLUSH
unfoldable pub flushed : Form Statement
flushed = just (Word (codes "PRIVILEGES")) (seq over (λ _. gives Flush))

-- a statement
unfoldable pub statement : Form Statement
statement =
    next (Word (codes "CREATE")) (λ _. just (Word (codes "USER")) create)
    (next (Word (codes "ALTER")) (λ _. just (Word (codes "USER")) alter)
    (next (Word (codes "DROP")) (λ _. just (Word (codes "USER")) dropped)
    (next (Word (codes "FLUSH")) (λ _. flushed)
    (next (Word (codes "GRANT")) (λ _. grant)
    (just (Word (codes "REVOKE")) revoke)))))
