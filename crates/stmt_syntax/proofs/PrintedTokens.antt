-- The tokens of the text that a statement is printed as, part by part.
use Rattle.std.proofs.Common.{◌≡◌, ℕ, Bool, true, false, List, [], ◌∷◌, ◌++◌, flat_map, codes, refl, Option, Some, None, arith}
use Rattle.std.specs.Fmt.{decimal}
use Rattle.lg_base.specs.declared.names.Host.{Host}
use Rattle.lg_base.specs.declared.names.Host.TheVariants.{Localhost, Any}
use Rattle.lg_base.specs.declared.names.Name.{Name}
use Rattle.stmt_rules.proofs.Fit.{FitBound, FitCount, FitExpire, FitNumber, FitOptions, FitPlace, FitTime}
use Rattle.stmt_tokens.proofs.Lexing.{Body, IsFresh, Lead, Tail, Whole, at_parts, blank_parts, body_of, body_then, lead_after, lead_of, lead_then, scanned, shapes, tail_none, tail_of, tail_then, whole_lead, whole_of, whole_then}
use Rattle.stmt_tokens.proofs.Written.{decimal_body, quoted_body}
use Rattle.stmt_tokens.proofs.Lexing.{sign, text, word}
use Rattle.stmt_syntax.specs.Printing.{and_factor_text, attempts_text, auth_text, change_text, expire_text, factor_text, history_text, host_text, lock_text, lock_time_text, method_text, name_text, optional_auth_text, options_text, password_text, printed, privileges_text, privileges_words, retain_text, reuse_text, target_text}
use Rattle.stmt_tokens.specs.Quoting.{quoted}
use Rattle.stmt_tokens.specs.Tokens.{finished, opened, stepped}
use Rattle.stmt_rules.specs.declared.statement.Auth.{Auth}
use Rattle.stmt_rules.specs.declared.statement.Bound.{Bound}
use Rattle.stmt_rules.specs.declared.statement.Bound.TheVariants as bounds
use Rattle.stmt_rules.specs.declared.statement.Change.{Change}
use Rattle.stmt_rules.specs.declared.statement.Change.TheVariants.{Nothing, Password, Discard, Add, Modify, DropFactor}
use Rattle.stmt_rules.specs.declared.statement.Expire.{Expire}
use Rattle.stmt_rules.specs.declared.statement.Expire.TheVariants as expires
use Rattle.stmt_rules.specs.declared.statement.FactorAuth.{FactorAuth}
use Rattle.stmt_rules.specs.declared.statement.Options.{Options}
use Rattle.stmt_rules.specs.declared.statement.Privileges.{Privileges}
use Rattle.stmt_rules.specs.declared.statement.Statement.{Statement}
use Rattle.stmt_rules.specs.declared.statement.Statement.TheVariants.{Create, Alter, Drop, Flush, Grant, Revoke}
use Rattle.stmt_rules.specs.declared.statement.Target.{Target}
use Rattle.stmt_rules.specs.declared.statement.Target.TheVariants.{Own, Named}
use Rattle.stmt_rules.specs.declared.statement.Time.{Time}
use Rattle.stmt_rules.specs.declared.statement.Time.TheVariants as time
use Rattle.stmt_tokens.specs.declared.token.Token.{Token}

abbrev pub host_tokens : Host → List Token
host_tokens Localhost = sign 64 ∷ text (codes "localhost") ∷ []
host_tokens Any = sign 64 ∷ text (codes "%") ∷ []

host_tail : (h : Host) → Tail (host_text h) (host_tokens h)
unfolding finished opened stepped
host_tail Localhost = tail_of 64 (codes "'localhost'") at_parts (record { rests = (refl, refl) })
host_tail Any = tail_of 64 (codes "'%'") at_parts (record { rests = (refl, refl) })

abbrev pub name_tokens : Name → List Token
name_tokens n = text n.user ∷ host_tokens n.host

name_body : (n : Name) → Body (name_text n) (name_tokens n)
unfolding name_text
name_body n = body_then (quoted n.user) (host_text n.host) (text n.user ∷ []) (host_tokens n.host) (quoted_body n.user) (host_tail n.host)

abbrev pub method_tokens : Option (List ℕ) → List Token
method_tokens None = []
method_tokens (Some method) = word (codes "WITH") ∷ text method ∷ []

with_lead : Lead (codes " WITH ") (word (codes "WITH") ∷ [])
unfolding finished opened stepped
with_lead = lead_of 32 (codes "WITH ") blank_parts (record { modes = refl; helds = refl })

method_tail : (m : Option (List ℕ)) → Tail (method_text m) (method_tokens m)
method_tail None = tail_none
method_tail (Some method) = lead_then (codes " WITH ") (quoted method) (word (codes "WITH") ∷ []) (text method ∷ []) with_lead (quoted_body method)

abbrev pub password_tokens : Option (List ℕ) → List Token
password_tokens None = []
password_tokens (Some password) = word (codes "BY") ∷ text password ∷ []

by_lead : Lead (codes " BY ") (word (codes "BY") ∷ [])
unfolding finished opened stepped
by_lead = lead_of 32 (codes "BY ") blank_parts (record { modes = refl; helds = refl })

password_tail : (p : Option (List ℕ)) → Tail (password_text p) (password_tokens p)
password_tail None = tail_none
password_tail (Some password) = lead_then (codes " BY ") (quoted password) (word (codes "BY") ∷ []) (text password ∷ []) by_lead (quoted_body password)

abbrev pub retain_tokens : Bool → List Token
retain_tokens true = word (codes "RETAIN") ∷ word (codes "CURRENT") ∷ word (codes "PASSWORD") ∷ []
retain_tokens false = []

retain_tail : (retain : Bool) → Tail (retain_text retain) (retain_tokens retain)
unfolding finished opened stepped
retain_tail true = tail_of 32 (codes "RETAIN CURRENT PASSWORD") blank_parts (record { rests = tt })
retain_tail false = tail_none

abbrev pub auth_tokens : Auth → List Token
auth_tokens a = (word (codes "IDENTIFIED") ∷ []) ++ method_tokens a.method ++ password_tokens a.password ++ retain_tokens a.retain

identified_tail : Tail (codes " IDENTIFIED") (word (codes "IDENTIFIED") ∷ [])
unfolding finished opened stepped
identified_tail = tail_of 32 (codes "IDENTIFIED") blank_parts (record { rests = tt })

auth_tail : (a : Auth) → Tail (auth_text a) (auth_tokens a)
unfolding auth_text
auth_tail a =
    tail_then (codes " IDENTIFIED" ++ method_text a.method ++ password_text a.password) (retain_text a.retain)
    ((word (codes "IDENTIFIED") ∷ []) ++ method_tokens a.method ++ password_tokens a.password) (retain_tokens a.retain)
    (tail_then (codes " IDENTIFIED" ++ method_text a.method) (password_text a.password)
    ((word (codes "IDENTIFIED") ∷ []) ++ method_tokens a.method) (password_tokens a.password)
    (tail_then (codes " IDENTIFIED") (method_text a.method) (word (codes "IDENTIFIED") ∷ []) (method_tokens a.method)
    identified_tail (method_tail a.method))
    (password_tail a.password))
    (retain_tail a.retain)

abbrev pub optional_auth_tokens : Option Auth → List Token
optional_auth_tokens None = []
optional_auth_tokens (Some a) = auth_tokens a

optional_auth_tail : (a : Option Auth) → Tail (optional_auth_text a) (optional_auth_tokens a)
unfolding optional_auth_text
optional_auth_tail None = tail_none
optional_auth_tail (Some a) = auth_tail a

abbrev pub factor_tokens : FactorAuth → List Token
factor_tokens f = word (codes "IDENTIFIED") ∷ word (codes "WITH") ∷ text f.method ∷ word (codes "AS") ∷ text f.label ∷ []

identified_with_lead : Lead (codes " IDENTIFIED WITH ") (word (codes "IDENTIFIED") ∷ word (codes "WITH") ∷ [])
unfolding finished opened stepped
identified_with_lead = lead_of 32 (codes "IDENTIFIED WITH ") blank_parts (record { modes = refl; helds = refl })

as_lead : Lead (codes " AS ") (word (codes "AS") ∷ [])
unfolding finished opened stepped
as_lead = lead_of 32 (codes "AS ") blank_parts (record { modes = refl; helds = refl })

factor_tail : (f : FactorAuth) → Tail (factor_text f) (factor_tokens f)
unfolding factor_text
factor_tail f =
    let first : Tail (codes " IDENTIFIED WITH " ++ quoted f.method) (word (codes "IDENTIFIED") ∷ word (codes "WITH") ∷ text f.method ∷ []) =
    lead_then (codes " IDENTIFIED WITH ") (quoted f.method) (word (codes "IDENTIFIED") ∷ word (codes "WITH") ∷ []) (text f.method ∷ [])
    identified_with_lead (quoted_body f.method) in
    lead_then (codes " IDENTIFIED WITH " ++ quoted f.method ++ codes " AS ") (quoted f.label)
    (word (codes "IDENTIFIED") ∷ word (codes "WITH") ∷ text f.method ∷ word (codes "AS") ∷ []) (text f.label ∷ [])
    (lead_after (codes " IDENTIFIED WITH " ++ quoted f.method) (codes " AS ")
    (word (codes "IDENTIFIED") ∷ word (codes "WITH") ∷ text f.method ∷ []) (word (codes "AS") ∷ []) first as_lead)
    (quoted_body f.label)

abbrev pub and_factor_tokens : FactorAuth → List Token
and_factor_tokens f = word (codes "AND") ∷ factor_tokens f

and_tail : Tail (codes " AND") (word (codes "AND") ∷ [])
unfolding finished opened stepped
and_tail = tail_of 32 (codes "AND") blank_parts (record { rests = tt })

abbrev pub factors_tokens : List FactorAuth → List Token
factors_tokens [] = []
factors_tokens (f ∷ fs) = and_factor_tokens f ++ factors_tokens fs

factors_tail : (fs : List FactorAuth) → Tail (flat_map and_factor_text fs) (factors_tokens fs)
factors_tail [] = tail_none
factors_tail (f ∷ fs) =
    tail_then (and_factor_text f) (flat_map and_factor_text fs) (and_factor_tokens f) (factors_tokens fs)
    (tail_then (codes " AND") (factor_text f) (word (codes "AND") ∷ []) (factor_tokens f) and_tail (factor_tail f))
    (factors_tail fs)

day_tail : Tail (codes " DAY") (word (codes "DAY") ∷ [])
unfolding finished opened stepped
day_tail = tail_of 32 (codes "DAY") blank_parts (record { rests = tt })

-- a number of days behind some words
days_tail : (x : List ℕ) (ts : List Token) (n : ℕ) → FitNumber n → Lead x ts
    → Tail (x ++ decimal n ++ codes " DAY") (ts ++ (word (decimal n) ∷ []) ++ (word (codes "DAY") ∷ []))
days_tail x ts n h lead =
    tail_then (x ++ decimal n) (codes " DAY") (ts ++ (word (decimal n) ∷ [])) (word (codes "DAY") ∷ [])
    (lead_then x (decimal n) ts (word (decimal n) ∷ []) lead (decimal_body n h)) day_tail

abbrev pub expire_tokens : Option Expire → List Token
expire_tokens None = []
expire_tokens (Some expires.Now) = word (codes "PASSWORD") ∷ word (codes "EXPIRE") ∷ []
expire_tokens (Some expires.Default) = word (codes "PASSWORD") ∷ word (codes "EXPIRE") ∷ word (codes "DEFAULT") ∷ []
expire_tokens (Some expires.Never) = word (codes "PASSWORD") ∷ word (codes "EXPIRE") ∷ word (codes "NEVER") ∷ []
expire_tokens (Some (expires.Days n)) =
    word (codes "PASSWORD") ∷ word (codes "EXPIRE") ∷ word (codes "INTERVAL") ∷ word (decimal n) ∷ word (codes "DAY") ∷ []

expire_lead : Lead (codes " PASSWORD EXPIRE INTERVAL ") (word (codes "PASSWORD") ∷ word (codes "EXPIRE") ∷ word (codes "INTERVAL") ∷ [])
unfolding finished opened stepped
expire_lead = lead_of 32 (codes "PASSWORD EXPIRE INTERVAL ") blank_parts (record { modes = refl; helds = refl })

expire_tail : (e : Option Expire) → FitExpire e → Tail (expire_text e) (expire_tokens e)
unfolding expire_text finished opened stepped
expire_tail None h = tail_none
expire_tail (Some expires.Now) h = tail_of 32 (codes "PASSWORD EXPIRE") blank_parts (record { rests = tt })
expire_tail (Some expires.Default) h = tail_of 32 (codes "PASSWORD EXPIRE DEFAULT") blank_parts (record { rests = tt })
expire_tail (Some expires.Never) h = tail_of 32 (codes "PASSWORD EXPIRE NEVER") blank_parts (record { rests = tt })
expire_tail (Some (expires.Days n)) h =
    days_tail (codes " PASSWORD EXPIRE INTERVAL ") (word (codes "PASSWORD") ∷ word (codes "EXPIRE") ∷ word (codes "INTERVAL") ∷ []) n h expire_lead

abbrev pub history_tokens : Option Bound → List Token
history_tokens None = []
history_tokens (Some bounds.Default) = word (codes "PASSWORD") ∷ word (codes "HISTORY") ∷ word (codes "DEFAULT") ∷ []
history_tokens (Some (bounds.Count n)) = word (codes "PASSWORD") ∷ word (codes "HISTORY") ∷ word (decimal n) ∷ []

history_lead : Lead (codes " PASSWORD HISTORY ") (word (codes "PASSWORD") ∷ word (codes "HISTORY") ∷ [])
unfolding finished opened stepped
history_lead = lead_of 32 (codes "PASSWORD HISTORY ") blank_parts (record { modes = refl; helds = refl })

history_tail : (b : Option Bound) → FitBound b → Tail (history_text b) (history_tokens b)
unfolding history_text finished opened stepped
history_tail None h = tail_none
history_tail (Some bounds.Default) h = tail_of 32 (codes "PASSWORD HISTORY DEFAULT") blank_parts (record { rests = tt })
history_tail (Some (bounds.Count n)) h =
    lead_then (codes " PASSWORD HISTORY ") (decimal n) (word (codes "PASSWORD") ∷ word (codes "HISTORY") ∷ []) (word (decimal n) ∷ []) history_lead (decimal_body n h)

abbrev pub reuse_tokens : Option Bound → List Token
reuse_tokens None = []
reuse_tokens (Some bounds.Default) = word (codes "PASSWORD") ∷ word (codes "REUSE") ∷ word (codes "INTERVAL") ∷ word (codes "DEFAULT") ∷ []
reuse_tokens (Some (bounds.Count n)) =
    word (codes "PASSWORD") ∷ word (codes "REUSE") ∷ word (codes "INTERVAL") ∷ word (decimal n) ∷ word (codes "DAY") ∷ []

reuse_lead : Lead (codes " PASSWORD REUSE INTERVAL ") (word (codes "PASSWORD") ∷ word (codes "REUSE") ∷ word (codes "INTERVAL") ∷ [])
unfolding finished opened stepped
reuse_lead = lead_of 32 (codes "PASSWORD REUSE INTERVAL ") blank_parts (record { modes = refl; helds = refl })

reuse_tail : (b : Option Bound) → FitBound b → Tail (reuse_text b) (reuse_tokens b)
unfolding reuse_text finished opened stepped
reuse_tail None h = tail_none
reuse_tail (Some bounds.Default) h = tail_of 32 (codes "PASSWORD REUSE INTERVAL DEFAULT") blank_parts (record { rests = tt })
reuse_tail (Some (bounds.Count n)) h =
    days_tail (codes " PASSWORD REUSE INTERVAL ") (word (codes "PASSWORD") ∷ word (codes "REUSE") ∷ word (codes "INTERVAL") ∷ []) n h reuse_lead

abbrev pub attempts_tokens : Option ℕ → List Token
attempts_tokens None = []
attempts_tokens (Some n) = word (codes "FAILED_LOGIN_ATTEMPTS") ∷ word (decimal n) ∷ []

attempts_lead : Lead (codes " FAILED_LOGIN_ATTEMPTS ") (word (codes "FAILED_LOGIN_ATTEMPTS") ∷ [])
unfolding finished opened stepped
attempts_lead = lead_of 32 (codes "FAILED_LOGIN_ATTEMPTS ") blank_parts (record { modes = refl; helds = refl })

attempts_tail : (a : Option ℕ) → FitCount a → Tail (attempts_text a) (attempts_tokens a)
unfolding attempts_text
attempts_tail None h = tail_none
attempts_tail (Some n) h =
    lead_then (codes " FAILED_LOGIN_ATTEMPTS ") (decimal n) (word (codes "FAILED_LOGIN_ATTEMPTS") ∷ []) (word (decimal n) ∷ []) attempts_lead (decimal_body n h)

abbrev pub lock_time_tokens : Option Time → List Token
lock_time_tokens None = []
lock_time_tokens (Some (time.Days n)) = word (codes "PASSWORD_LOCK_TIME") ∷ word (decimal n) ∷ []
lock_time_tokens (Some time.Unbounded) = word (codes "PASSWORD_LOCK_TIME") ∷ word (codes "UNBOUNDED") ∷ []

lock_time_lead : Lead (codes " PASSWORD_LOCK_TIME ") (word (codes "PASSWORD_LOCK_TIME") ∷ [])
unfolding finished opened stepped
lock_time_lead = lead_of 32 (codes "PASSWORD_LOCK_TIME ") blank_parts (record { modes = refl; helds = refl })

lock_time_tail : (t : Option Time) → FitTime t → Tail (lock_time_text t) (lock_time_tokens t)
unfolding lock_time_text finished opened stepped
lock_time_tail None h = tail_none
lock_time_tail (Some (time.Days n)) h =
    lead_then (codes " PASSWORD_LOCK_TIME ") (decimal n) (word (codes "PASSWORD_LOCK_TIME") ∷ []) (word (decimal n) ∷ []) lock_time_lead (decimal_body n h)
lock_time_tail (Some time.Unbounded) h = tail_of 32 (codes "PASSWORD_LOCK_TIME UNBOUNDED") blank_parts (record { rests = tt })

abbrev pub lock_tokens : Option Bool → List Token
lock_tokens None = []
lock_tokens (Some true) = word (codes "ACCOUNT") ∷ word (codes "LOCK") ∷ []
lock_tokens (Some false) = word (codes "ACCOUNT") ∷ word (codes "UNLOCK") ∷ []

lock_tail : (l : Option Bool) → Tail (lock_text l) (lock_tokens l)
unfolding lock_text finished opened stepped
lock_tail None = tail_none
lock_tail (Some true) = tail_of 32 (codes "ACCOUNT LOCK") blank_parts (record { rests = tt })
lock_tail (Some false) = tail_of 32 (codes "ACCOUNT UNLOCK") blank_parts (record { rests = tt })

abbrev pub options_tokens : Options → List Token
options_tokens o =
    expire_tokens o.expire ++ history_tokens o.history ++ reuse_tokens o.reuse ++ attempts_tokens o.attempts
    ++ lock_time_tokens o.lock_time ++ lock_tokens o.lock

options_tail : (o : Options) → FitOptions o → Tail (options_text o) (options_tokens o)
unfolding options_text
options_tail o h =
    tail_then _ (lock_text o.lock) _ (lock_tokens o.lock)
    (tail_then _ (lock_time_text o.lock_time) _ (lock_time_tokens o.lock_time)
    (tail_then _ (attempts_text o.attempts) _ (attempts_tokens o.attempts)
    (tail_then _ (reuse_text o.reuse) _ (reuse_tokens o.reuse)
    (tail_then (expire_text o.expire) (history_text o.history) (expire_tokens o.expire) (history_tokens o.history)
    (expire_tail o.expire h.expire) (history_tail o.history h.history))
    (reuse_tail o.reuse h.reuse))
    (attempts_tail o.attempts h.attempts))
    (lock_time_tail o.lock_time h.lock_time))
    (lock_tail o.lock)

abbrev pub target_tokens : Target → List Token
target_tokens Own = word (codes "USER") ∷ sign 40 ∷ sign 41 ∷ []
target_tokens (Named n) = name_tokens n

target_body : (t : Target) → Body (target_text t) (target_tokens t)
unfolding target_text finished opened stepped
target_body Own = body_of (codes "USER()") (record { rests = refl })
target_body (Named n) = name_body n

abbrev pub numbered_tokens : ℕ → List Token
numbered_tokens n = word (decimal n) ∷ word (codes "FACTOR") ∷ []

factor_word_tail : Tail (codes " FACTOR") (word (codes "FACTOR") ∷ [])
unfolding finished opened stepped
factor_word_tail = tail_of 32 (codes "FACTOR") blank_parts (record { rests = tt })

place_fits : (n : ℕ) → FitPlace n → FitNumber n
place_fits n h = grind arith

-- (2 | 3) FACTOR behind a word
numbered_tail : (x : List ℕ) (ts : List Token) (n : ℕ) → FitPlace n → Lead x ts
    → Tail (x ++ decimal n ++ codes " FACTOR") (ts ++ (word (decimal n) ∷ []) ++ (word (codes "FACTOR") ∷ []))
numbered_tail x ts n h lead =
    tail_then (x ++ decimal n) (codes " FACTOR") (ts ++ (word (decimal n) ∷ [])) (word (codes "FACTOR") ∷ [])
    (lead_then x (decimal n) ts (word (decimal n) ∷ []) lead (decimal_body n (place_fits n h))) factor_word_tail

-- a way of a second or third factor behind a word
placed_tail : (x : List ℕ) (ts : List Token) (n : ℕ) (f : FactorAuth) → FitPlace n → Lead x ts
    → Tail (x ++ decimal n ++ codes " FACTOR" ++ factor_text f) (ts ++ (word (decimal n) ∷ []) ++ (word (codes "FACTOR") ∷ []) ++ factor_tokens f)
placed_tail x ts n f h lead =
    tail_then (x ++ decimal n ++ codes " FACTOR") (factor_text f)
    (ts ++ (word (decimal n) ∷ []) ++ (word (codes "FACTOR") ∷ [])) (factor_tokens f) (numbered_tail x ts n h lead) (factor_tail f)

abbrev pub change_tokens : Change → List Token
change_tokens Nothing = []
change_tokens (Password a) = auth_tokens a
change_tokens Discard = word (codes "DISCARD") ∷ word (codes "OLD") ∷ word (codes "PASSWORD") ∷ []
change_tokens (Add n f) = word (codes "ADD") ∷ word (decimal n) ∷ word (codes "FACTOR") ∷ factor_tokens f
change_tokens (Modify n f) = word (codes "MODIFY") ∷ word (decimal n) ∷ word (codes "FACTOR") ∷ factor_tokens f
change_tokens (DropFactor n) = word (codes "DROP") ∷ numbered_tokens n

add_lead : Lead (codes " ADD ") (word (codes "ADD") ∷ [])
unfolding finished opened stepped
add_lead = lead_of 32 (codes "ADD ") blank_parts (record { modes = refl; helds = refl })

modify_lead : Lead (codes " MODIFY ") (word (codes "MODIFY") ∷ [])
unfolding finished opened stepped
modify_lead = lead_of 32 (codes "MODIFY ") blank_parts (record { modes = refl; helds = refl })

drop_lead : Lead (codes " DROP ") (word (codes "DROP") ∷ [])
unfolding finished opened stepped
drop_lead = lead_of 32 (codes "DROP ") blank_parts (record { modes = refl; helds = refl })

discard_tail : Tail (codes " DISCARD OLD PASSWORD") (word (codes "DISCARD") ∷ word (codes "OLD") ∷ word (codes "PASSWORD") ∷ [])
unfolding finished opened stepped
discard_tail = tail_of 32 (codes "DISCARD OLD PASSWORD") blank_parts (record { rests = tt })

-- the numbers that a change names
abbrev pub FitNumbers : Change → Type 0
FitNumbers (Add n f) = FitPlace n
FitNumbers (Modify n f) = FitPlace n
FitNumbers (DropFactor n) = FitPlace n
FitNumbers _ = Unit {0}

change_tail : (c : Change) → FitNumbers c → Tail (change_text c) (change_tokens c)
unfolding change_text
change_tail Nothing h = tail_none
change_tail (Password a) h = auth_tail a
change_tail Discard h = discard_tail
change_tail (Add n f) h = placed_tail (codes " ADD ") (word (codes "ADD") ∷ []) n f h add_lead
change_tail (Modify n f) h = placed_tail (codes " MODIFY ") (word (codes "MODIFY") ∷ []) n f h modify_lead
change_tail (DropFactor n) h = numbered_tail (codes " DROP ") (word (codes "DROP") ∷ []) n h drop_lead

abbrev pub privileges_tokens : Bool → Bool → List Token
privileges_tokens true true = word (codes "CREATE") ∷ word (codes "USER") ∷ sign 44 ∷ word (codes "APPLICATION_PASSWORD_ADMIN") ∷ []
privileges_tokens true false = word (codes "CREATE") ∷ word (codes "USER") ∷ []
privileges_tokens false _ = word (codes "APPLICATION_PASSWORD_ADMIN") ∷ []

privileges_body : (create_user password_admin : Bool) → Body (privileges_words create_user password_admin) (privileges_tokens create_user password_admin)
unfolding finished opened stepped
privileges_body true true = body_of (codes "CREATE USER, APPLICATION_PASSWORD_ADMIN") (record { rests = tt })
privileges_body true false = body_of (codes "CREATE USER") (record { rests = tt })
privileges_body false true = body_of (codes "APPLICATION_PASSWORD_ADMIN") (record { rests = tt })
privileges_body false false = body_of (codes "APPLICATION_PASSWORD_ADMIN") (record { rests = tt })

to_lead : Lead (codes " ON *.* TO ") (word (codes "ON") ∷ sign 42 ∷ sign 46 ∷ sign 42 ∷ word (codes "TO") ∷ [])
unfolding finished opened stepped
to_lead = lead_of 32 (codes "ON *.* TO ") blank_parts (record { modes = refl; helds = refl })

from_lead : Lead (codes " ON *.* FROM ") (word (codes "ON") ∷ sign 42 ∷ sign 46 ∷ sign 42 ∷ word (codes "FROM") ∷ [])
unfolding finished opened stepped
from_lead = lead_of 32 (codes "ON *.* FROM ") blank_parts (record { modes = refl; helds = refl })

abbrev pub to_tokens : List Token
to_tokens = word (codes "ON") ∷ sign 42 ∷ sign 46 ∷ sign 42 ∷ word (codes "TO") ∷ []

abbrev pub from_tokens : List Token
from_tokens = word (codes "ON") ∷ sign 42 ∷ sign 46 ∷ sign 42 ∷ word (codes "FROM") ∷ []

abbrev pub statement_tokens : Statement → List Token
statement_tokens (Create n a fs o) =
    (word (codes "CREATE") ∷ word (codes "USER") ∷ []) ++ name_tokens n ++ optional_auth_tokens a ++ factors_tokens fs ++ options_tokens o
statement_tokens (Alter t c o) = (word (codes "ALTER") ∷ word (codes "USER") ∷ []) ++ target_tokens t ++ change_tokens c ++ options_tokens o
statement_tokens (Drop n) = word (codes "DROP") ∷ word (codes "USER") ∷ name_tokens n
statement_tokens Flush = word (codes "FLUSH") ∷ word (codes "PRIVILEGES") ∷ []
statement_tokens (Grant p n) = (word (codes "GRANT") ∷ []) ++ privileges_tokens p.create_user p.password_admin ++ to_tokens ++ name_tokens n
statement_tokens (Revoke p n) = (word (codes "REVOKE") ∷ []) ++ privileges_tokens p.create_user p.password_admin ++ from_tokens ++ name_tokens n

create_fresh : IsFresh (scanned (codes "CREATE USER "))
unfolding opened stepped
create_fresh = record { modes = refl; helds = refl }

alter_fresh : IsFresh (scanned (codes "ALTER USER "))
unfolding opened stepped
alter_fresh = record { modes = refl; helds = refl }

drop_fresh : IsFresh (scanned (codes "DROP USER "))
unfolding opened stepped
drop_fresh = record { modes = refl; helds = refl }

grant_fresh : IsFresh (scanned (codes "GRANT "))
unfolding opened stepped
grant_fresh = record { modes = refl; helds = refl }

revoke_fresh : IsFresh (scanned (codes "REVOKE "))
unfolding opened stepped
revoke_fresh = record { modes = refl; helds = refl }

create_whole : (n : Name) (a : Option Auth) (fs : List FactorAuth) (o : Options) → FitOptions o
    → Whole (codes "CREATE USER " ++ name_text n ++ optional_auth_text a ++ flat_map and_factor_text fs ++ options_text o)
    (shapes (codes "CREATE USER ") ++ name_tokens n ++ optional_auth_tokens a ++ factors_tokens fs ++ options_tokens o)
create_whole n a fs o h =
    whole_then _ (options_text o) _ (options_tokens o)
    (whole_then _ (flat_map and_factor_text fs) _ (factors_tokens fs)
    (whole_then _ (optional_auth_text a) _ (optional_auth_tokens a)
    (whole_of (codes "CREATE USER ") (name_text n) (name_tokens n) create_fresh (name_body n))
    (optional_auth_tail a))
    (factors_tail fs))
    (options_tail o h)

alter_whole : (t : Target) (c : Change) (o : Options) → FitNumbers c → FitOptions o
    → Whole (codes "ALTER USER " ++ target_text t ++ change_text c ++ options_text o)
    (shapes (codes "ALTER USER ") ++ target_tokens t ++ change_tokens c ++ options_tokens o)
alter_whole t c o k h =
    whole_then _ (options_text o) _ (options_tokens o)
    (whole_then _ (change_text c) _ (change_tokens c)
    (whole_of (codes "ALTER USER ") (target_text t) (target_tokens t) alter_fresh (target_body t))
    (change_tail c k))
    (options_tail o h)

grant_whole : (p : Privileges) (n : Name)
    → Whole (codes "GRANT " ++ privileges_words p.create_user p.password_admin ++ codes " ON *.* TO " ++ name_text n)
    (shapes (codes "GRANT ") ++ privileges_tokens p.create_user p.password_admin ++ to_tokens ++ name_tokens n)
grant_whole p n =
    whole_lead (codes "GRANT " ++ privileges_words p.create_user p.password_admin) (codes " ON *.* TO ") (name_text n)
    (shapes (codes "GRANT ") ++ privileges_tokens p.create_user p.password_admin) to_tokens (name_tokens n)
    (whole_of (codes "GRANT ") (privileges_words p.create_user p.password_admin) (privileges_tokens p.create_user p.password_admin)
    grant_fresh (privileges_body p.create_user p.password_admin))
    to_lead (name_body n)

revoke_whole : (p : Privileges) (n : Name)
    → Whole (codes "REVOKE " ++ privileges_words p.create_user p.password_admin ++ codes " ON *.* FROM " ++ name_text n)
    (shapes (codes "REVOKE ") ++ privileges_tokens p.create_user p.password_admin ++ from_tokens ++ name_tokens n)
revoke_whole p n =
    whole_lead (codes "REVOKE " ++ privileges_words p.create_user p.password_admin) (codes " ON *.* FROM ") (name_text n)
    (shapes (codes "REVOKE ") ++ privileges_tokens p.create_user p.password_admin) from_tokens (name_tokens n)
    (whole_of (codes "REVOKE ") (privileges_words p.create_user p.password_admin) (privileges_tokens p.create_user p.password_admin)
    revoke_fresh (privileges_body p.create_user p.password_admin))
    from_lead (name_body n)

-- what the parts of a statement need for its text to have these tokens
abbrev pub FitText : Statement → Type 0
FitText (Create n a fs o) = FitOptions o
FitText (Alter t c o) = FitNumbers c × FitOptions o
FitText _ = Unit {0}

pub printed_shapes : (v : Statement) → FitText v → shapes (printed v) ≡ statement_tokens v
unfolding printed privileges_text finished opened stepped
printed_shapes (Create n a fs o) h = (create_whole n a fs o h).tokens
printed_shapes (Alter t c o) h = (alter_whole t c o h.0 h.1).tokens
printed_shapes (Drop n) h = (name_body n (codes "DROP USER ") drop_fresh).tokens
printed_shapes Flush h = refl
printed_shapes (Grant p n) h = (grant_whole p n).tokens
printed_shapes (Revoke p n) h = (revoke_whole p n).tokens
