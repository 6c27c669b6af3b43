-- What is printed of a statement is read back.
use Rattle.std.proofs.Common.{◌≡◌, ℕ, zero, suc, ◌==◌, ◌<◌, ◌≤◌, ◌||◌, Bool, true, false, List, [], ◌∷◌, ◌++◌, length, map, codes, Option, Some, None, Ok, Err, refl, sym, ap, ◌∙◌, inl, inr, append_assoc, arith, if◌then◌else◌, drop}
use Rattle.std.proofs.lemmas.Bool.Decides.{nat_tests}
use Rattle.std.proofs.lemmas.Fmt.{decimal_digit}
use Rattle.std.proofs.lemmas.List.{append-nil}
use Rattle.std.specs.Char.{is_ascii_digit, to_ascii_lowercase}
use Rattle.std.specs.Fmt.{decimal}
use Rattle.std.specs.List.{list_all}
use Rattle.lg_base.specs.declared.names.Host.{Host}
use Rattle.lg_base.specs.declared.names.Host.TheVariants.{Localhost, Any}
use Rattle.lg_base.specs.declared.names.Name.{Name}
use Rattle.stmt_rules.proofs.Fit.{FitBound, FitChange, FitCount, FitExpire, FitNumber, FitOptions, FitOwn, FitParts, FitPassword, FitPlace, FitStatement, FitTime, FitWays}
use Rattle.stmt_syntax.proofs.PrintedTokens.{FitNumbers, FitText, attempts_tokens, auth_tokens, change_tokens, expire_tokens, factor_tokens, factors_tokens, from_tokens, history_tokens, host_tokens, lock_time_tokens, lock_tokens, method_tokens, name_tokens, numbered_tokens, optional_auth_tokens, options_tokens, password_tokens, printed_shapes, privileges_tokens, retain_tokens, reuse_tokens, statement_tokens, target_tokens, to_tokens}
use Rattle.stmt_rules.proofs.Values.{statement_fits}
use Rattle.stmt_tokens.proofs.Written.{both, decimal_digits}
use Rattle.stmt_tokens.proofs.Lexing.{sign, text, word}
use Rattle.stmt_rules.specs.Forms.{Form, Read, Repeats, begins, first_text, gives, gives_sound, many, many_complete, many_sound, TimesSpell, and_then, next, read_ok, read_unplaced, refused}
use Rattle.stmt_rules.specs.Grammar.{account_clause, account_option, alter, alter_named, alter_own, attempts_clause, auth, bound, bound_in_days, change, create, discarded, dropped, expire, factor, factors, flushed, further_options, further_privilege, grant, host, is_nothing, lock_time, lock_time_clause, name, no_options, numbered, on_all, option, option_repeats, options, over, own_change, password, password_clause, password_option, privilege, privilege_repeats, privileges, retained, revoke, statement, target, ways}
use Rattle.stmt_tokens.specs.Patterns.{Pattern, Word, Sign, Number, digits_from, fits, is_same, number_of}
use Rattle.stmt_syntax.specs.Printing.{printed}
use Rattle.stmt_syntax.specs.Reading.{IsReadable, IsText}
use Rattle.stmt_tokens.specs.Tokens.{tokens, unplaced}
use Rattle.stmt_rules.specs.declared.statement.Auth.{Auth}
use Rattle.stmt_rules.specs.declared.statement.Bound.{Bound}
use Rattle.stmt_rules.specs.declared.statement.Bound.TheVariants as bounds
use Rattle.stmt_rules.specs.declared.statement.Change.{Change}
use Rattle.stmt_rules.specs.declared.statement.Change.TheVariants.{Nothing, Password, Discard, Add, Modify, DropFactor}
use Rattle.stmt_rules.specs.declared.statement.Expire.{Expire}
use Rattle.stmt_rules.specs.declared.statement.Expire.TheVariants as expires
use Rattle.stmt_rules.specs.declared.statement.FactorAuth.{FactorAuth}
use Rattle.stmt_rules.specs.declared.statement.Options.{Options}
use Rattle.stmt_rules.specs.declared.statement.Privileges.{Privileges}
use Rattle.stmt_rules.specs.declared.statement.Statement.{Statement}
use Rattle.stmt_rules.specs.declared.statement.Statement.TheVariants.{Create, Alter, Drop, Flush, Grant, Revoke}
use Rattle.stmt_rules.specs.declared.statement.Target.{Target}
use Rattle.stmt_rules.specs.declared.statement.Target.TheVariants.{Own, Named}
use Rattle.stmt_rules.specs.declared.statement.Time.{Time}
use Rattle.stmt_rules.specs.declared.statement.Time.TheVariants as time
use Rattle.stmt_tokens.specs.declared.token.Token.{Token}

-- no such word begins these tokens
abbrev Lacks : List ℕ → List Token → Type 0
Lacks w ts = begins (Word w) ts ≡ false

begins_append : (p : Pattern) (ts us : List Token) → begins p ts ≡ false → begins p us ≡ false → begins p (ts ++ us) ≡ false
begins_append p [] us h k = k
begins_append p (t ∷ ts) us h k = h

host_back : (h : Host) (u : List Token) → host.read (host_tokens h ++ u) ≡ Ok (h, u)
unfolding host is_same
host_back Localhost u = refl
host_back Any u = refl

name_back : (n : Name) (u : List Token) → name.read (name_tokens n ++ u) ≡ Ok (n, u)
unfolding name
name_back n u = rw (host_back n.host u) refl

password_back : (keeps : Bool) (method : Option (List ℕ)) (x : List ℕ) (retain : Bool) (u : List Token)
    → (keeps ≡ false → retain ≡ false) → Lacks (codes "RETAIN") u
    → (password keeps method).read (text x ∷ (retain_tokens retain ++ u)) ≡ Ok (record { method = method; password = Some x; retain = retain }, u)
unfolding password retained is_same
password_back true method x true u h e = refl
password_back true method x false u h e = rw e refl
password_back false method x true u h e = let k : true ≡ false = h refl in cc
password_back false method x false u h e = refl

-- behind IDENTIFIED
abbrev way_tokens : Option (List ℕ) → Option (List ℕ) → Bool → List Token
way_tokens method password retain = method_tokens method ++ password_tokens password ++ retain_tokens retain

auth_back : (keeps : Bool) (method password : Option (List ℕ)) (retain : Bool) (u : List Token)
    → FitParts keeps method password retain → Lacks (codes "BY") u → Lacks (codes "RETAIN") u
    → (auth keeps).read (way_tokens method password retain ++ u) ≡ Ok (record { method = method; password = password; retain = retain }, u)
unfolding auth is_same
auth_back keeps None (Some x) retain u h b r = password_back keeps None x retain u h r
auth_back keeps (Some m) (Some x) retain u h b r = password_back keeps (Some m) x retain u h r
auth_back keeps (Some m) None true u h b r = let k : true ≡ false = h in cc
auth_back keeps (Some m) None false u h b r = rw b refl
auth_back keeps None None retain u h b r = absurd h

factor_back : (f : FactorAuth) (u : List Token) → factor.read (factor_tokens f ++ u) ≡ Ok (f, u)
unfolding factor is_same
factor_back f u = refl

factors_back : (fs : List FactorAuth) (u : List Token) → length fs ≤ 2 → Lacks (codes "AND") u → factors.read (factors_tokens fs ++ u) ≡ Ok (fs, u)
unfolding factors factor is_same
factors_back [] u h e = rw e refl
factors_back (f ∷ []) u h e = rw e refl
factors_back (f ∷ g ∷ []) u h e = refl
factors_back (f ∷ g ∷ k ∷ fs) u h e = absurd (omega arith)

number_begins : (n : ℕ) → FitNumber n → fits Number (word (decimal n)) ≡ true
number_begins n h = (decimal_digits n h).digits

number_value : (n : ℕ) → FitNumber n → number_of (decimal n) ≡ n
unfolding number_of
number_value n h = let e : digits_from 0 (decimal n) ≡ n = (decimal_digits n h).value in omega arith

-- no digit is a letter in any case
digit_below : (d m : ℕ) → is_ascii_digit d ≡ true → 57 < m → (to_ascii_lowercase d == m) ≡ false
digit_below d m h k = grind (arith, nat_tests)

digits_apart : (ds : List ℕ) (c : ℕ) (w : List ℕ) → list_all is_ascii_digit ds ≡ true → 0 < length ds → 57 < to_ascii_lowercase c
    → is_same ds (c ∷ w) ≡ false
unfolding is_same
digits_apart [] c w h some k = absurd (omega arith)
digits_apart (d ∷ ds) c w h some k =
    let e : (to_ascii_lowercase d == to_ascii_lowercase c) ≡ false = digit_below d (to_ascii_lowercase c) (both (is_ascii_digit d) (list_all is_ascii_digit ds) h).0 k in
    rw e refl

number_apart : (n : ℕ) (c : ℕ) (w : List ℕ) → FitNumber n → 57 < to_ascii_lowercase c → fits (Word (c ∷ w)) (word (decimal n)) ≡ false
number_apart n c w h k = let d = decimal_digits n h in digits_apart (decimal n) c w d.digits d.some k

default_apart_number : (n : ℕ) → FitNumber n → fits (Word (codes "DEFAULT")) (word (decimal n)) ≡ false
default_apart_number n h = number_apart n 68 (codes "EFAULT") h (omega arith)

unbounded_apart_number : (n : ℕ) → FitNumber n → fits (Word (codes "UNBOUNDED")) (word (decimal n)) ≡ false
unbounded_apart_number n h = number_apart n 85 (codes "NBOUNDED") h (omega arith)

-- one more time of a loop, and the last one
many_step : {S : Type 0} (f : S → Form (Option S)) (ok : Repeats f) (s further v : S) (ts u rest : List Token)
    → (f s).read ts ≡ Ok (Some further, u) → (many f ok further).read u ≡ Ok (v, rest) → (many f ok s).read ts ≡ Ok (v, rest)
many_step f ok s further v ts u rest h k =
    let times = many_sound f ok further v u rest k in
    many_complete f ok s v ts rest (suc times.0, (further, u, (f s).sound (Some further) ts u h, times.1))

many_stop : {S : Type 0} (f : S → Form (Option S)) (ok : Repeats f) (s : S) (ts : List Token)
    → (f s).read ts ≡ Ok (None, ts) → (many f ok s).read ts ≡ Ok (s, ts)
many_stop f ok s ts h = many_complete f ok s s ts ts (zero, (refl, (f s).sound None ts ts h))

-- a word with which no option begins
pub record Apart (w : List ℕ) : Type 0 where
  pub password : fits (Word w) (word (codes "PASSWORD")) ≡ false
  pub attempts : fits (Word w) (word (codes "FAILED_LOGIN_ATTEMPTS")) ≡ false
  pub lock_time : fits (Word w) (word (codes "PASSWORD_LOCK_TIME")) ≡ false
  pub account : fits (Word w) (word (codes "ACCOUNT")) ≡ false

expire_lacks : (w : List ℕ) (e : Option Expire) → Apart w → Lacks w (expire_tokens e)
expire_lacks w None h = refl
expire_lacks w (Some expires.Now) h = h.password
expire_lacks w (Some expires.Default) h = h.password
expire_lacks w (Some expires.Never) h = h.password
expire_lacks w (Some (expires.Days n)) h = h.password

history_lacks : (w : List ℕ) (b : Option Bound) → Apart w → Lacks w (history_tokens b)
history_lacks w None h = refl
history_lacks w (Some bounds.Default) h = h.password
history_lacks w (Some (bounds.Count n)) h = h.password

reuse_lacks : (w : List ℕ) (b : Option Bound) → Apart w → Lacks w (reuse_tokens b)
reuse_lacks w None h = refl
reuse_lacks w (Some bounds.Default) h = h.password
reuse_lacks w (Some (bounds.Count n)) h = h.password

attempts_lacks : (w : List ℕ) (a : Option ℕ) → Apart w → Lacks w (attempts_tokens a)
attempts_lacks w None h = refl
attempts_lacks w (Some n) h = h.attempts

lock_time_lacks : (w : List ℕ) (t : Option Time) → Apart w → Lacks w (lock_time_tokens t)
lock_time_lacks w None h = refl
lock_time_lacks w (Some (time.Days n)) h = h.lock_time
lock_time_lacks w (Some time.Unbounded) h = h.lock_time

lock_lacks : (w : List ℕ) (l : Option Bool) → Apart w → Lacks w (lock_tokens l)
lock_lacks w None h = refl
lock_lacks w (Some true) h = h.account
lock_lacks w (Some false) h = h.account

-- the options from each one on
abbrev from_lock_time : Options → List Token
from_lock_time o = lock_time_tokens o.lock_time ++ lock_tokens o.lock

abbrev from_attempts : Options → List Token
from_attempts o = attempts_tokens o.attempts ++ from_lock_time o

abbrev from_reuse : Options → List Token
from_reuse o = reuse_tokens o.reuse ++ from_attempts o

abbrev from_history : Options → List Token
from_history o = history_tokens o.history ++ from_reuse o

abbrev from_expire : Options → List Token
from_expire o = expire_tokens o.expire ++ from_history o

in_order : (o : Options) → options_tokens o ≡ from_expire o
in_order o = simp append_assoc

history_on_lacks : (w : List ℕ) (o : Options) → Apart w → Lacks w (from_history o)
history_on_lacks w o h =
    begins_append (Word w) (history_tokens o.history) (from_reuse o) (history_lacks w o.history h)
    (begins_append (Word w) (reuse_tokens o.reuse) (from_attempts o) (reuse_lacks w o.reuse h)
    (begins_append (Word w) (attempts_tokens o.attempts) (from_lock_time o) (attempts_lacks w o.attempts h)
    (begins_append (Word w) (lock_time_tokens o.lock_time) (lock_tokens o.lock) (lock_time_lacks w o.lock_time h) (lock_lacks w o.lock h))))

options_lack : (w : List ℕ) (o : Options) → Apart w → Lacks w (options_tokens o)
options_lack w o h =
    rw (in_order o) (begins_append (Word w) (expire_tokens o.expire) (from_history o) (expire_lacks w o.expire h) (history_on_lacks w o h))

-- the options that stand from these on
abbrev Chain : Options → List Token → Options → Type 0
Chain s ts o = (many (option false) option_repeats s).read ts ≡ Ok (o, [])

step : (s further o : Options) (ts u : List Token) → (option false s).read ts ≡ Ok (Some further, u) → Chain further u o → Chain s ts o
step s further o ts u h k = many_step (option false) option_repeats s further o ts u [] h k

lock_chain : (s o : Options) (l : Option Bool) → s ≡ record o { lock = None } → o.lock ≡ l → Chain s (lock_tokens l) o
unfolding option account_option is_same
lock_chain s o None e f = let same : s ≡ o = e ∙ ap (λ (l : Option Bool). record o { lock = l }) (sym f) in rw same refl
lock_chain s o (Some true) e f =
    let same : record s { lock = Some true } ≡ o = ap (λ (p : Options). record p { lock = Some true }) e ∙ ap (λ (l : Option Bool). record o { lock = l }) (sym f) in
    step s (record s { lock = Some true }) o (lock_tokens (Some true)) [] refl (rw same refl)
lock_chain s o (Some false) e f =
    let same : record s { lock = Some false } ≡ o = ap (λ (p : Options). record p { lock = Some false }) e ∙ ap (λ (l : Option Bool). record o { lock = l }) (sym f) in
    step s (record s { lock = Some false }) o (lock_tokens (Some false)) [] refl (rw same refl)

lock_time_chain : (s o : Options) (t : Option Time) (u : List Token) → FitTime t → s.lock_time ≡ None
    → Chain (record s { lock_time = t }) u o → Chain s (lock_time_tokens t ++ u) o
unfolding option lock_time is_same
lock_time_chain s o None u h e k = let same : record s { lock_time = None } ≡ s = ap (λ (t : Option Time). record s { lock_time = t }) (sym e) in rw same at k
lock_time_chain s o (Some (time.Days n)) u h e k =
    step s (record s { lock_time = Some (time.Days n) }) o (lock_time_tokens (Some (time.Days n)) ++ u) u
    (rw (unbounded_apart_number n h, number_begins n h, number_value n h) refl) k
lock_time_chain s o (Some time.Unbounded) u h e k =
    step s (record s { lock_time = Some time.Unbounded }) o (lock_time_tokens (Some time.Unbounded) ++ u) u refl k

attempts_chain : (s o : Options) (a : Option ℕ) (u : List Token) → FitCount a → s.attempts ≡ None
    → Chain (record s { attempts = a }) u o → Chain s (attempts_tokens a ++ u) o
unfolding option is_same
attempts_chain s o None u h e k = let same : record s { attempts = None } ≡ s = ap (λ (t : Option ℕ). record s { attempts = t }) (sym e) in rw same at k
attempts_chain s o (Some n) u h e k =
    step s (record s { attempts = Some n }) o (attempts_tokens (Some n) ++ u) u
    (rw (number_begins n h, number_value n h) refl) k

reuse_chain : (s o : Options) (b : Option Bound) (u : List Token) → FitBound b → s.reuse ≡ None
    → Chain (record s { reuse = b }) u o → Chain s (reuse_tokens b ++ u) o
unfolding option password_option bound_in_days is_same
reuse_chain s o None u h e k = let same : record s { reuse = None } ≡ s = ap (λ (t : Option Bound). record s { reuse = t }) (sym e) in rw same at k
reuse_chain s o (Some bounds.Default) u h e k =
    step s (record s { reuse = Some bounds.Default }) o (reuse_tokens (Some bounds.Default) ++ u) u refl k
reuse_chain s o (Some (bounds.Count n)) u h e k =
    step s (record s { reuse = Some (bounds.Count n) }) o (reuse_tokens (Some (bounds.Count n)) ++ u) u
    (rw (default_apart_number n h, number_begins n h, number_value n h) refl) k

history_chain : (s o : Options) (b : Option Bound) (u : List Token) → FitBound b → s.history ≡ None
    → Chain (record s { history = b }) u o → Chain s (history_tokens b ++ u) o
unfolding option password_option bound is_same
history_chain s o None u h e k = let same : record s { history = None } ≡ s = ap (λ (t : Option Bound). record s { history = t }) (sym e) in rw same at k
history_chain s o (Some bounds.Default) u h e k =
    step s (record s { history = Some bounds.Default }) o (history_tokens (Some bounds.Default) ++ u) u refl k
history_chain s o (Some (bounds.Count n)) u h e k =
    step s (record s { history = Some (bounds.Count n) }) o (history_tokens (Some (bounds.Count n)) ++ u) u
    (rw (default_apart_number n h, number_begins n h, number_value n h) refl) k

expire_chain : (s o : Options) (x : Option Expire) (u : List Token) → FitExpire x → s.expire ≡ None
    → Lacks (codes "DEFAULT") u → Lacks (codes "NEVER") u → Lacks (codes "INTERVAL") u
    → Chain (record s { expire = x }) u o → Chain s (expire_tokens x ++ u) o
unfolding option password_option expire is_same
expire_chain s o None u h e d v i k = let same : record s { expire = None } ≡ s = ap (λ (t : Option Expire). record s { expire = t }) (sym e) in rw same at k
expire_chain s o (Some expires.Now) u h e d v i k =
    step s (record s { expire = Some expires.Now }) o (expire_tokens (Some expires.Now) ++ u) u (rw (d, v, i) refl) k
expire_chain s o (Some expires.Default) u h e d v i k =
    step s (record s { expire = Some expires.Default }) o (expire_tokens (Some expires.Default) ++ u) u refl k
expire_chain s o (Some expires.Never) u h e d v i k =
    step s (record s { expire = Some expires.Never }) o (expire_tokens (Some expires.Never) ++ u) u refl k
expire_chain s o (Some (expires.Days n)) u h e d v i k =
    step s (record s { expire = Some (expires.Days n) }) o (expire_tokens (Some (expires.Days n)) ++ u) u
    (rw (number_begins n h, number_value n h) refl) k

default_apart : Apart (codes "DEFAULT")
unfolding is_same
default_apart = record { password = refl; attempts = refl; lock_time = refl; account = refl }

never_apart : Apart (codes "NEVER")
unfolding is_same
never_apart = record { password = refl; attempts = refl; lock_time = refl; account = refl }

interval_apart : Apart (codes "INTERVAL")
unfolding is_same
interval_apart = record { password = refl; attempts = refl; lock_time = refl; account = refl }

options_chain : (o : Options) → FitOptions o → Chain no_options (options_tokens o) o
options_chain o h =
    rw (in_order o)
    (expire_chain no_options o o.expire (from_history o) h.expire refl
    (history_on_lacks (codes "DEFAULT") o default_apart) (history_on_lacks (codes "NEVER") o never_apart) (history_on_lacks (codes "INTERVAL") o interval_apart)
    (history_chain (record no_options { expire = o.expire }) o o.history (from_reuse o) h.history refl
    (reuse_chain (record no_options { expire = o.expire; history = o.history }) o o.reuse (from_attempts o) h.reuse refl
    (attempts_chain (record no_options { expire = o.expire; history = o.history; reuse = o.reuse }) o o.attempts (from_lock_time o) h.attempts refl
    (lock_time_chain (record no_options { expire = o.expire; history = o.history; reuse = o.reuse; attempts = o.attempts }) o o.lock_time (lock_tokens o.lock) h.lock_time refl
    (lock_chain (record no_options { expire = o.expire; history = o.history; reuse = o.reuse; attempts = o.attempts; lock_time = o.lock_time }) o o.lock refl refl))))))

-- a form with another end behind the same beginnings
next_onward_at : {A : Type 0} (p : Pattern) (goes : List ℕ → Form A) (f g : Form A) (ts rest : List Token) (v : A) (b : Bool)
    → begins p ts ≡ b → (f.read ts ≡ read_ok v rest → g.read ts ≡ read_ok v rest)
    → (if b then (goes (first_text ts)).read (drop 1 ts) else f.read ts) ≡ read_ok v rest → (next p goes g).read ts ≡ read_ok v rest
next_onward_at p goes f g ts rest v true e h k = rw e k
next_onward_at p goes f g ts rest v false e h k = rw e (h k)

next_onward : {A : Type 0} (p : Pattern) (goes : List ℕ → Form A) (f g : Form A) (ts rest : List Token) (v : A)
    → (f.read ts ≡ read_ok v rest → g.read ts ≡ read_ok v rest) → (next p goes f).read ts ≡ read_ok v rest → (next p goes g).read ts ≡ read_ok v rest
next_onward p goes f g ts rest v h k = next_onward_at p goes f g ts rest v (begins p ts) refl h k

no_some : (s : Options) (ts rest : List Token) → read_ok {A = Option Options} None ts ≡ read_ok (Some s) rest → (refused {A = Option Options}).read ts ≡ read_ok (Some s) rest
no_some s ts rest h = let e : Some s ≡ None = (gives_sound None (Some s) ts rest h).0 in absurd (cc)

option_needed : (o s : Options) (ts rest : List Token) → (option false o).read ts ≡ read_ok (Some s) rest → (option true o).read ts ≡ read_ok (Some s) rest
unfolding option
option_needed o s ts rest h =
    next_onward (Word (codes "PASSWORD")) (λ x. password_clause o)
    (next (Word (codes "FAILED_LOGIN_ATTEMPTS")) (λ x. attempts_clause o)
    (next (Word (codes "PASSWORD_LOCK_TIME")) (λ x. lock_time_clause o)
    (next (Word (codes "ACCOUNT")) (λ x. account_clause o) (gives None))))
    (next (Word (codes "FAILED_LOGIN_ATTEMPTS")) (λ x. attempts_clause o)
    (next (Word (codes "PASSWORD_LOCK_TIME")) (λ x. lock_time_clause o)
    (next (Word (codes "ACCOUNT")) (λ x. account_clause o) refused))) ts rest (Some s)
    (next_onward (Word (codes "FAILED_LOGIN_ATTEMPTS")) (λ x. attempts_clause o)
    (next (Word (codes "PASSWORD_LOCK_TIME")) (λ x. lock_time_clause o)
    (next (Word (codes "ACCOUNT")) (λ x. account_clause o) (gives None)))
    (next (Word (codes "PASSWORD_LOCK_TIME")) (λ x. lock_time_clause o)
    (next (Word (codes "ACCOUNT")) (λ x. account_clause o) refused)) ts rest (Some s)
    (next_onward (Word (codes "PASSWORD_LOCK_TIME")) (λ x. lock_time_clause o)
    (next (Word (codes "ACCOUNT")) (λ x. account_clause o) (gives None))
    (next (Word (codes "ACCOUNT")) (λ x. account_clause o) refused) ts rest (Some s)
    (next_onward (Word (codes "ACCOUNT")) (λ x. account_clause o) (gives None) refused ts rest (Some s) (no_some s ts rest))))
    h

option_kept : (needed : Bool) (o s : Options) (ts rest : List Token) → (option false o).read ts ≡ read_ok (Some s) rest → (option needed o).read ts ≡ read_ok (Some s) rest
option_kept true o s ts rest h = option_needed o s ts rest h
option_kept false o s ts rest h = h

option_none : (needed : Bool) (ts rest : List Token) → needed ≡ false → (option false no_options).read ts ≡ read_ok None rest → (option needed no_options).read ts ≡ read_ok None rest
option_none needed ts rest e h = rw e h

-- whether one is needed or not
not_needed : (needed : Bool) → (needed ≡ true → ⊥) → needed ≡ false
not_needed true h = absurd (h refl)
not_needed false h = refl

options_read : (needed : Bool) (o : Options) (ts : List Token) (n : ℕ) → (needed ≡ true → o ≡ no_options → ⊥)
    → TimesSpell (option false) n no_options o ts [] → and_then (λ r rest. (further_options r).read rest) ((option needed no_options).read ts) ≡ read_ok o []
options_read needed o ts zero some (e, none) =
    let read : (option needed no_options).read ts ≡ read_ok None [] =
    option_none needed ts [] (not_needed needed (λ t. some t e)) ((option false no_options).complete None ts [] none) in
    rw (read, e) refl
options_read needed o ts (suc n) some (further, mid, one, more) =
    let read : (option needed no_options).read ts ≡ read_ok (Some further) mid =
    option_kept needed no_options further ts mid ((option false no_options).complete (Some further) ts mid one) in
    let rest : (many (option false) option_repeats further).read mid ≡ read_ok o [] =
    many_complete (option false) option_repeats further o mid [] (n, more) in
    rw read rest

options_back : (needed : Bool) (o : Options) → FitOptions o → (needed ≡ true → o ≡ no_options → ⊥) → (options needed).read (options_tokens o) ≡ Ok (o, [])
unfolding options
options_back needed o h some =
    let times = many_sound (option false) option_repeats no_options o (options_tokens o) [] (options_chain o h) in
    options_read needed o (options_tokens o) times.0 some times.1

over_back : over.read [] ≡ Ok (tt, [])
unfolding over
over_back = refl

retain_apart : Apart (codes "RETAIN")
unfolding is_same
retain_apart = record { password = refl; attempts = refl; lock_time = refl; account = refl }

by_apart : Apart (codes "BY")
unfolding is_same
by_apart = record { password = refl; attempts = refl; lock_time = refl; account = refl }

and_apart : Apart (codes "AND")
unfolding is_same
and_apart = record { password = refl; attempts = refl; lock_time = refl; account = refl }

identified_apart : Apart (codes "IDENTIFIED")
unfolding is_same
identified_apart = record { password = refl; attempts = refl; lock_time = refl; account = refl }

discard_apart : Apart (codes "DISCARD")
unfolding is_same
discard_apart = record { password = refl; attempts = refl; lock_time = refl; account = refl }

add_apart : Apart (codes "ADD")
unfolding is_same
add_apart = record { password = refl; attempts = refl; lock_time = refl; account = refl }

modify_apart : Apart (codes "MODIFY")
unfolding is_same
modify_apart = record { password = refl; attempts = refl; lock_time = refl; account = refl }

drop_apart : Apart (codes "DROP")
unfolding is_same
drop_apart = record { password = refl; attempts = refl; lock_time = refl; account = refl }

-- the further factors begin with AND, if with any word
factors_lack : (w : List ℕ) (fs : List FactorAuth) (u : List Token) → fits (Word w) (word (codes "AND")) ≡ false → Lacks w u → Lacks w (factors_tokens fs ++ u)
factors_lack w [] u h k = k
factors_lack w (f ∷ fs) u h k = h

by_and : fits (Word (codes "BY")) (word (codes "AND")) ≡ false
unfolding is_same
by_and = refl

retain_and : fits (Word (codes "RETAIN")) (word (codes "AND")) ≡ false
unfolding is_same
retain_and = refl

ways_back : (a : Option Auth) (fs : List FactorAuth) (u : List Token) → FitWays a fs
    → Lacks (codes "IDENTIFIED") u → Lacks (codes "BY") u → Lacks (codes "RETAIN") u → Lacks (codes "AND") u
    → ways.read (optional_auth_tokens a ++ (factors_tokens fs ++ u)) ≡ Ok ((a, fs), u)
unfolding ways is_same
ways_back None fs u h i b r d = rw (h, i) refl
ways_back (Some a) fs u h i b r d =
    rw (
      auth_back false a.method a.password a.retain (factors_tokens fs ++ u) h.0.parts (factors_lack (codes "BY") fs u by_and b) (factors_lack (codes "RETAIN") fs u retain_and r),
      factors_back fs u h.1 d,
    ) refl

create_back : (n : Name) (a : Option Auth) (fs : List FactorAuth) (o : Options) → FitWays a fs → FitOptions o
    → create.read (name_tokens n ++ (optional_auth_tokens a ++ (factors_tokens fs ++ options_tokens o))) ≡ Ok (Create n a fs o, [])
unfolding create
create_back n a fs o h k =
    rw (
      name_back n (optional_auth_tokens a ++ (factors_tokens fs ++ options_tokens o)),
      ways_back a fs (options_tokens o) h (options_lack (codes "IDENTIFIED") o identified_apart) (options_lack (codes "BY") o by_apart)
          (options_lack (codes "RETAIN") o retain_apart) (options_lack (codes "AND") o and_apart),
      options_back false o k (λ e. cc),
      over_back,
    ) refl

numbered_back : (n : ℕ) (u : List Token) → FitPlace n → numbered.read (numbered_tokens n ++ u) ≡ Ok (n, u)
unfolding numbered is_same
numbered_back n u (inl e) = rw (e, decimal_digit 2 (omega arith)) refl
numbered_back n u (inr e) = rw (e, decimal_digit 3 (omega arith)) refl

change_back : (c : Change) (o : Options) → FitChange c → change.read (change_tokens c ++ options_tokens o) ≡ Ok (c, options_tokens o)
unfolding change discarded is_same
change_back Nothing o h =
    rw (
      options_lack (codes "IDENTIFIED") o identified_apart,
      options_lack (codes "DISCARD") o discard_apart,
      options_lack (codes "ADD") o add_apart,
      options_lack (codes "MODIFY") o modify_apart,
      options_lack (codes "DROP") o drop_apart,
    ) refl
change_back (Password a) o h =
    rw (auth_back true a.method a.password a.retain (options_tokens o) h.parts (options_lack (codes "BY") o by_apart) (options_lack (codes "RETAIN") o retain_apart)) refl
change_back Discard o h = refl
change_back (Add n f) o h = rw (numbered_back n (factor_tokens f ++ options_tokens o) h, factor_back f (options_tokens o)) refl
change_back (Modify n f) o h = rw (numbered_back n (factor_tokens f ++ options_tokens o) h, factor_back f (options_tokens o)) refl
change_back (DropFactor n) o h = rw (numbered_back n (options_tokens o) h) refl

own_password_back : (method password : Option (List ℕ)) (retain : Bool) → FitPassword method password
    → own_change.read (auth_tokens (record { method = method; password = password; retain = retain })) ≡ Ok (Password (record { method = method; password = password; retain = retain }), [])
unfolding own_change is_same
own_password_back None (Some x) true h = rw (password_back true None x true [] (λ e. cc) refl) refl
own_password_back None (Some x) false h = rw (password_back true None x false [] (λ e. cc) refl) refl
own_password_back None None retain h = absurd h
own_password_back (Some m) password retain h = absurd h

own_change_back : (c : Change) → FitOwn c → own_change.read (change_tokens c) ≡ Ok (c, [])
unfolding own_change discarded is_same
own_change_back Nothing h = absurd h
own_change_back (Password a) h = own_password_back a.method a.password a.retain h
own_change_back Discard h = refl
own_change_back (Add n f) h = absurd h
own_change_back (Modify n f) h = absurd h
own_change_back (DropFactor n) h = absurd h

target_back : (t : Target) (u : List Token) → target.read (target_tokens t ++ u) ≡ Ok (t, u)
unfolding target is_same
target_back Own u = refl
target_back (Named n) u = rw (name_back n u) refl

alter_back : (t : Target) (c : Change) (o : Options) → FitStatement (Alter t c o)
    → alter.read (target_tokens t ++ (change_tokens c ++ options_tokens o)) ≡ Ok (Alter t c o, [])
unfolding alter alter_own alter_named
alter_back Own c o (h, e) =
    let none : change_tokens c ++ options_tokens o ≡ change_tokens c = rw e (append-nil (change_tokens c)) in
    rw (target_back Own (change_tokens c ++ options_tokens o), none, own_change_back c h, over_back, e) refl
alter_back (Named n) c o (h, k, some) =
    rw (target_back (Named n) (change_tokens c ++ options_tokens o), change_back c o h, options_back (is_nothing c) o k some, over_back) refl

privileges_back : (create_user password_admin : Bool) (u : List Token) → (create_user || password_admin) ≡ true → begins (Sign 44) u ≡ false
    → privileges.read (privileges_tokens create_user password_admin ++ u) ≡ Ok (record { create_user = create_user; password_admin = password_admin }, u)
unfolding privileges privilege further_privilege is_same
privileges_back true true u h e =
    many_step further_privilege privilege_repeats (record { create_user = true; password_admin = false }) (record { create_user = true; password_admin = true })
    (record { create_user = true; password_admin = true }) (sign 44 ∷ word (codes "APPLICATION_PASSWORD_ADMIN") ∷ u) u u refl
    (many_stop further_privilege privilege_repeats (record { create_user = true; password_admin = true }) u (rw e refl))
privileges_back true false u h e = many_stop further_privilege privilege_repeats (record { create_user = true; password_admin = false }) u (rw e refl)
privileges_back false true u h e = many_stop further_privilege privilege_repeats (record { create_user = false; password_admin = true }) u (rw e refl)
privileges_back false false u h e = cc

on_all_back : (u : List Token) → on_all.read (word (codes "ON") ∷ sign 42 ∷ sign 46 ∷ sign 42 ∷ u) ≡ Ok (tt, u)
unfolding on_all is_same
on_all_back u = refl

name_ends : (n : Name) → name.read (name_tokens n) ≡ Ok (n, [])
name_ends n = rw (← append-nil (name_tokens n)) (name_back n [])

grant_back : (p : Privileges) (n : Name) → (p.create_user || p.password_admin) ≡ true
    → grant.read (privileges_tokens p.create_user p.password_admin ++ (to_tokens ++ name_tokens n)) ≡ Ok (Grant p n, [])
unfolding grant is_same
grant_back p n h =
    rw (privileges_back p.create_user p.password_admin (to_tokens ++ name_tokens n) h refl, on_all_back (word (codes "TO") ∷ name_tokens n), name_ends n, over_back) refl

revoke_back : (p : Privileges) (n : Name) → (p.create_user || p.password_admin) ≡ true
    → revoke.read (privileges_tokens p.create_user p.password_admin ++ (from_tokens ++ name_tokens n)) ≡ Ok (Revoke p n, [])
unfolding revoke is_same
revoke_back p n h =
    rw (privileges_back p.create_user p.password_admin (from_tokens ++ name_tokens n) h refl, on_all_back (word (codes "FROM") ∷ name_tokens n), name_ends n, over_back) refl

drop_back : (n : Name) → dropped.read (name_tokens n) ≡ Ok (Drop n, [])
unfolding dropped
drop_back n = rw (name_ends n, over_back) refl

flush_back : flushed.read (word (codes "PRIVILEGES") ∷ []) ≡ Ok (Flush, [])
unfolding flushed is_same
flush_back = rw over_back refl

statement_back : (v : Statement) → FitStatement v → statement.read (statement_tokens v) ≡ Ok (v, [])
unfolding statement is_same
statement_back (Create n a fs o) (h, k) =
    let e : name_tokens n ++ optional_auth_tokens a ++ factors_tokens fs ++ options_tokens o
    ≡ name_tokens n ++ (optional_auth_tokens a ++ (factors_tokens fs ++ options_tokens o)) =
    append_assoc (name_tokens n ++ optional_auth_tokens a) (factors_tokens fs) (options_tokens o)
    ∙ append_assoc (name_tokens n) (optional_auth_tokens a) (factors_tokens fs ++ options_tokens o) in
    rw e (create_back n a fs o h k)
statement_back (Alter t c o) h =
    let e : target_tokens t ++ change_tokens c ++ options_tokens o ≡ target_tokens t ++ (change_tokens c ++ options_tokens o) = append_assoc (target_tokens t) (change_tokens c) (options_tokens o) in
    rw e (alter_back t c o h)
statement_back (Drop n) h = drop_back n
statement_back Flush h = flush_back
statement_back (Grant p n) h =
    let e : privileges_tokens p.create_user p.password_admin ++ to_tokens ++ name_tokens n ≡ privileges_tokens p.create_user p.password_admin ++ (to_tokens ++ name_tokens n) =
    append_assoc (privileges_tokens p.create_user p.password_admin) to_tokens (name_tokens n) in
    rw e (grant_back p n h)
statement_back (Revoke p n) h =
    let e : privileges_tokens p.create_user p.password_admin ++ from_tokens ++ name_tokens n ≡ privileges_tokens p.create_user p.password_admin ++ (from_tokens ++ name_tokens n) =
    append_assoc (privileges_tokens p.create_user p.password_admin) from_tokens (name_tokens n) in
    rw e (revoke_back p n h)

fit_numbers : (c : Change) → FitChange c → FitNumbers c
fit_numbers Nothing h = tt
fit_numbers (Password a) h = tt
fit_numbers Discard h = tt
fit_numbers (Add n f) h = h
fit_numbers (Modify n f) h = h
fit_numbers (DropFactor n) h = h

own_numbers : (c : Change) → FitOwn c → FitNumbers c
own_numbers Nothing h = tt
own_numbers (Password a) h = tt
own_numbers Discard h = tt
own_numbers (Add n f) h = absurd h
own_numbers (Modify n f) h = absurd h
own_numbers (DropFactor n) h = absurd h

no_options_fit : FitOptions no_options
no_options_fit = record { expire = tt; history = tt; reuse = tt; attempts = tt; lock_time = tt }

fit_text : (v : Statement) → FitStatement v → FitText v
fit_text (Create n a fs o) h = h.1
fit_text (Alter Own c o) (h, e) = (own_numbers c h, rw e no_options_fit)
fit_text (Alter (Named n) c o) h = (fit_numbers c h.0, h.1)
fit_text (Drop n) h = tt
fit_text Flush h = tt
fit_text (Grant p n) h = tt
fit_text (Revoke p n) h = tt

no_tokens : (ts : List Token) → map unplaced ts ≡ [] → ts ≡ []
no_tokens [] h = refl
no_tokens (t ∷ ts) h = cc

placed_read : (v : Statement) (r : Read Statement) → read_unplaced r ≡ read_ok v [] → r ≡ read_ok v []
placed_read v (Ok (w, rest)) h =
    let e = gives_sound w v (map unplaced rest) [] h in
    let same : w ≡ v = sym e.0 in
    let none : rest ≡ [] = no_tokens rest (sym e.1) in
    rw (same, none) refl
placed_read v (Err rest) h = cc

pub read_back : (v : Statement) → IsReadable v → IsText v (printed v)
unfolding tokens
read_back v (x, h) =
    let fit : FitStatement v = statement_fits.holds v (tokens x) [] (statement.complete v (tokens x) [] h) in
    let shaped : map unplaced (tokens (printed v)) ≡ statement_tokens v = printed_shapes v (fit_text v fit) in
    let seen = statement.local.blind (tokens (printed v)) in
    let all : read_unplaced (statement.read (tokens (printed v))) ≡ read_ok v [] =
    sym seen ∙ ap statement.read shaped ∙ statement_back v fit in
    statement.sound v (tokens (printed v)) [] (placed_read v (statement.read (tokens (printed v))) all)
