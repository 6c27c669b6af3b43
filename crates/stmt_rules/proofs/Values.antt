-- Which values the forms of the grammar give.
use Rattle.std.proofs.Common.{◌≡◌, ℕ, zero, suc, ◌≤◌, ◌||◌, Bool, true, false, List, [], ◌∷◌, length, drop, if◌then◌else◌, codes, Option, Some, None, Ok, Err, refl, sym, ap, ◌∙◌, inl, inr, arith}
use Rattle.lg_base.specs.declared.names.Name.{Name}
use Rattle.stmt_rules.proofs.Fit.{FitAuth, FitBound, FitChange, FitExpire, FitNumber, FitOptions, FitOwn, FitPassword, FitPlace, FitStatement, FitTime, FitWays}
use Rattle.stmt_rules.specs.Forms.{Form, Read, Repeats, TimesSpell, and_then, begins, either, first_text, gives, gives_sound, many, many_sound, next, read_ok, refused, refused_sound, seq}
use Rattle.stmt_rules.specs.Grammar.{account_option, alter, alter_named, alter_of, alter_own, auth, bound, bound_in_days, change, create, discarded, dropped, expire, factor, factors, flushed, further_options, further_privilege, grant, is_nothing, just, lock_time, name, no_options, numbered, on_all, option, option_repeats, options, over, own_change, password, password_option, privilege, privilege_repeats, privileges, retained, revoke, statement, target, ways}
use Rattle.stmt_tokens.specs.Patterns.{Pattern, Word, Sign, Part, Text, Number, number_of}
use Rattle.stmt_rules.specs.declared.statement.Auth.{Auth}
use Rattle.stmt_rules.specs.declared.statement.Bound.{Bound}
use Rattle.stmt_rules.specs.declared.statement.Bound.TheVariants as bounds
use Rattle.stmt_rules.specs.declared.statement.Change.{Change}
use Rattle.stmt_rules.specs.declared.statement.Change.TheVariants.{Nothing, Password, Discard, Add, Modify, DropFactor}
use Rattle.stmt_rules.specs.declared.statement.Expire.{Expire}
use Rattle.stmt_rules.specs.declared.statement.Expire.TheVariants as expires
use Rattle.stmt_rules.specs.declared.statement.FactorAuth.{FactorAuth}
use Rattle.stmt_rules.specs.declared.statement.Options.{Options}
use Rattle.stmt_rules.specs.declared.statement.Privileges.{Privileges}
use Rattle.stmt_rules.specs.declared.statement.Statement.{Statement}
use Rattle.stmt_rules.specs.declared.statement.Statement.TheVariants.{Create, Alter, Drop, Flush, Grant, Revoke}
use Rattle.stmt_rules.specs.declared.statement.Target.{Target}
use Rattle.stmt_rules.specs.declared.statement.Target.TheVariants.{Own, Named}
use Rattle.stmt_rules.specs.declared.statement.Time.{Time}
use Rattle.stmt_rules.specs.declared.statement.Time.TheVariants as time
use Rattle.stmt_tokens.specs.declared.token.Token.{Token}

-- what the form gives is such a value
pub record Gives {A : Type 0} (V : A → Type 0) (f : Form A) : Type 0 where
  pub holds : (v : A) (ts rest : List Token) → f.read ts ≡ Ok (v, rest) → V v

abbrev pub Anything : {A : Type 0} → A → Type 0
Anything v = Unit {0}

pub anything : {A : Type 0} (f : Form A) → Gives Anything f
anything f = record { holds = λ v ts rest h. tt }

gives_holds : {A : Type 0} (V : A → Type 0) (a : A) → V a → (v : A) (ts rest : List Token) → read_ok a ts ≡ Ok (v, rest) → V v
gives_holds V a x v ts rest h = let e : v ≡ a = (gives_sound a v ts rest h).0 in rw e x

pub gives_gives : {A : Type 0} (V : A → Type 0) (a : A) → V a → Gives V (gives a)
gives_gives V a x = record { holds = gives_holds V a x }

pub refused_gives : {A : Type 0} (V : A → Type 0) → Gives V (refused {A = A})
refused_gives V = record { holds = λ v ts rest h. absurd (refused_sound v ts rest h) }

next_holds : {A : Type 0} (V : A → Type 0) (p : Pattern) (goes : List ℕ → Form A) (otherwise : Form A)
    → ((x : List ℕ) → Gives V (goes x)) → Gives V otherwise → (v : A) (ts rest : List Token) (b : Bool)
    → (if b then (goes (first_text ts)).read (drop 1 ts) else otherwise.read ts) ≡ Ok (v, rest) → V v
next_holds V p goes otherwise gg go v ts rest true h = (gg (first_text ts)).holds v (drop 1 ts) rest h
next_holds V p goes otherwise gg go v ts rest false h = go.holds v ts rest h

pub next_gives : {A : Type 0} (V : A → Type 0) (p : Pattern) (goes : List ℕ → Form A) (otherwise : Form A)
    → ((x : List ℕ) → Gives V (goes x)) → Gives V otherwise → Gives V (next p goes otherwise)
next_gives V p goes otherwise gg go = record { holds = λ v ts rest h. next_holds V p goes otherwise gg go v ts rest (begins p ts) h }

pub just_gives : {A : Type 0} (V : A → Type 0) (p : Pattern) (f : Form A) → Gives V f → Gives V (just p f)
just_gives V p f g = next_gives V p (λ _. f) refused (λ _. g) (refused_gives V)

seq_holds : {A B : Type 0} (W : A → Type 0) (V : B → Type 0) (f : Form A) (g : A → Form B)
    → Gives W f → ((a : A) → W a → Gives V (g a)) → (v : B) (ts rest : List Token) (r : Read A) → f.read ts ≡ r
    → and_then (λ a mid. (g a).read mid) r ≡ Ok (v, rest) → V v
seq_holds W V f g gf gg v ts rest (Ok (a, mid)) e h = (gg a (gf.holds a ts mid e)).holds v mid rest h
seq_holds W V f g gf gg v ts rest (Err mid) e h = absurd (refused_sound v mid rest h)

pub seq_gives : {A B : Type 0} (W : A → Type 0) (V : B → Type 0) (f : Form A) (g : A → Form B)
    → Gives W f → ((a : A) → W a → Gives V (g a)) → Gives V (seq f g)
seq_gives W V f g gf gg = record { holds = λ v ts rest h. seq_holds W V f g gf gg v ts rest (f.read ts) refl h }

-- of what goes on from a state
abbrev pub Further : {S : Type 0} → (S → Type 0) → Type 0 → Option S → Type 0
Further V none None = none
Further V none (Some s) = V s

times_hold : {S : Type 0} (V : S → Type 0) (f : S → Form (Option S)) → ((s : S) → V s → Gives (Further V (Unit {0})) (f s))
    → (n : ℕ) (s v : S) (ts rest : List Token) → V s → TimesSpell f n s v ts rest → V v
times_hold V f g zero s v ts rest h (e, none) = rw e h
times_hold V f g (suc n) s v ts rest h (further, mid, one, more) =
    times_hold V f g n further v mid rest ((g s h).holds (Some further) ts mid ((f s).complete (Some further) ts mid one)) more

many_holds : {S : Type 0} (V : S → Type 0) (f : S → Form (Option S)) (ok : Repeats f) → ((s : S) → V s → Gives (Further V (Unit {0})) (f s))
    → (s : S) → V s → (v : S) (ts rest : List Token) → (many f ok s).read ts ≡ Ok (v, rest) → V v
many_holds V f ok g s h v ts rest read =
    let times = many_sound f ok s v ts rest read in times_hold V f g times.0 s v ts rest h times.1

pub many_gives : {S : Type 0} (V : S → Type 0) (f : S → Form (Option S)) (ok : Repeats f) → ((s : S) → V s → Gives (Further V (Unit {0})) (f s))
    → (s : S) → V s → Gives V (many f ok s)
many_gives V f ok g s h = record { holds = many_holds V f ok g s h }

number_fits : (x : List ℕ) → FitNumber (number_of x)
unfolding number_of
number_fits x = omega arith

abbrev Keeps : Bool → Bool → Type 0
Keeps keeps retain = keeps ≡ false → retain ≡ false

retained_fits : (keeps : Bool) → Gives (Keeps keeps) (retained keeps)
unfolding retained
retained_fits true = record { holds = λ v ts rest h. λ (e : true ≡ false). cc }
retained_fits false = gives_gives (Keeps false) false (λ e. refl)

password_fits : (keeps : Bool) (method : Option (List ℕ)) → Gives (FitAuth keeps) (password keeps method)
unfolding password
password_fits keeps method =
    next_gives (FitAuth keeps) Text _ refused
    (λ x. seq_gives (Keeps keeps) (FitAuth keeps) (retained keeps) _ (retained_fits keeps)
    (λ retain r. gives_gives (FitAuth keeps) (record { method = method; password = Some x; retain = retain }) (record { parts = r })))
    (refused_gives (FitAuth keeps))

abbrev Plain : Auth → Type 0
Plain a = FitPassword a.method a.password

plain_fits : Gives Plain (password true None)
unfolding password
plain_fits =
    next_gives Plain Text _ refused
    (λ x. seq_gives Anything Plain (retained true) _ (anything (retained true))
    (λ retain r. gives_gives Plain (record { method = None; password = Some x; retain = retain }) tt))
    (refused_gives Plain)

auth_fits : (keeps : Bool) → Gives (FitAuth keeps) (auth keeps)
unfolding auth
auth_fits keeps =
    next_gives (FitAuth keeps) (Word (codes "BY")) _ _ (λ x. password_fits keeps None)
    (just_gives (FitAuth keeps) (Word (codes "WITH")) _
    (next_gives (FitAuth keeps) Part _ refused
    (λ method. next_gives (FitAuth keeps) (Word (codes "BY")) _ _ (λ x. password_fits keeps (Some method))
    (gives_gives (FitAuth keeps) (record { method = Some method; password = None; retain = false }) (record { parts = refl })))
    (refused_gives (FitAuth keeps))))

abbrev Few : List FactorAuth → Type 0
Few fs = length fs ≤ 2

factors_fit : Gives Few factors
unfolding factors
factors_fit =
    next_gives Few (Word (codes "AND")) _ _
    (λ x. seq_gives Anything Few factor _ (anything factor)
    (λ second r. next_gives Few (Word (codes "AND")) _ _
    (λ y. seq_gives Anything Few factor _ (anything factor)
    (λ third s. gives_gives Few (second ∷ third ∷ []) (omega arith)))
    (gives_gives Few (second ∷ []) (omega arith))))
    (gives_gives Few [] (omega arith))

abbrev Bounded : Bound → Type 0
Bounded b = FitBound (Some b)

bound_fits : Gives Bounded bound
unfolding bound
bound_fits =
    next_gives Bounded (Word (codes "DEFAULT")) _ _ (λ x. gives_gives Bounded bounds.Default tt)
    (next_gives Bounded Number _ refused (λ x. gives_gives Bounded (bounds.Count (number_of x)) (number_fits x)) (refused_gives Bounded))

bound_in_days_fits : Gives Bounded bound_in_days
unfolding bound_in_days
bound_in_days_fits =
    next_gives Bounded (Word (codes "DEFAULT")) _ _ (λ x. gives_gives Bounded bounds.Default tt)
    (next_gives Bounded Number _ refused
    (λ x. just_gives Bounded (Word (codes "DAY")) _ (gives_gives Bounded (bounds.Count (number_of x)) (number_fits x)))
    (refused_gives Bounded))

abbrev Timed : Time → Type 0
Timed t = FitTime (Some t)

lock_time_fits : Gives Timed lock_time
unfolding lock_time
lock_time_fits =
    next_gives Timed (Word (codes "UNBOUNDED")) _ _ (λ x. gives_gives Timed time.Unbounded tt)
    (next_gives Timed Number _ refused (λ x. gives_gives Timed (time.Days (number_of x)) (number_fits x)) (refused_gives Timed))

abbrev Expires : Expire → Type 0
Expires e = FitExpire (Some e)

expire_fits : Gives Expires expire
unfolding expire
expire_fits =
    next_gives Expires (Word (codes "DEFAULT")) _ _ (λ x. gives_gives Expires expires.Default tt)
    (next_gives Expires (Word (codes "NEVER")) _ _ (λ x. gives_gives Expires expires.Never tt)
    (next_gives Expires (Word (codes "INTERVAL")) _ _
    (λ x. next_gives Expires Number _ refused
    (λ n. just_gives Expires (Word (codes "DAY")) _ (gives_gives Expires (expires.Days (number_of n)) (number_fits n)))
    (refused_gives Expires))
    (gives_gives Expires expires.Now tt)))

-- options, of which one stands
pub record Chosen (o : Options) : Type 0 where
  pub fits : FitOptions o
  pub some : o ≡ no_options → ⊥

with_expire : (o : Options) → FitOptions o → (e : Expire) → Expires e → Chosen (record o { expire = Some e })
with_expire o h e f = record {
  fits = record { expire = f; history = h.history; reuse = h.reuse; attempts = h.attempts; lock_time = h.lock_time };
  some = λ q. let x : Some e ≡ None = ap (λ (p : Options). p.expire) q in cc;
}

with_history : (o : Options) → FitOptions o → (b : Bound) → Bounded b → Chosen (record o { history = Some b })
with_history o h b f = record {
  fits = record { expire = h.expire; history = f; reuse = h.reuse; attempts = h.attempts; lock_time = h.lock_time };
  some = λ q. let x : Some b ≡ None = ap (λ (p : Options). p.history) q in cc;
}

with_reuse : (o : Options) → FitOptions o → (b : Bound) → Bounded b → Chosen (record o { reuse = Some b })
with_reuse o h b f = record {
  fits = record { expire = h.expire; history = h.history; reuse = f; attempts = h.attempts; lock_time = h.lock_time };
  some = λ q. let x : Some b ≡ None = ap (λ (p : Options). p.reuse) q in cc;
}

with_attempts : (o : Options) → FitOptions o → (n : ℕ) → FitNumber n → Chosen (record o { attempts = Some n })
with_attempts o h n f = record {
  fits = record { expire = h.expire; history = h.history; reuse = h.reuse; attempts = f; lock_time = h.lock_time };
  some = λ q. let x : Some n ≡ None = ap (λ (p : Options). p.attempts) q in cc;
}

with_lock_time : (o : Options) → FitOptions o → (t : Time) → Timed t → Chosen (record o { lock_time = Some t })
with_lock_time o h t f = record {
  fits = record { expire = h.expire; history = h.history; reuse = h.reuse; attempts = h.attempts; lock_time = f };
  some = λ q. let x : Some t ≡ None = ap (λ (p : Options). p.lock_time) q in cc;
}

with_lock : (o : Options) → FitOptions o → (b : Bool) → Chosen (record o { lock = Some b })
with_lock o h b = record {
  fits = record { expire = h.expire; history = h.history; reuse = h.reuse; attempts = h.attempts; lock_time = h.lock_time };
  some = λ q. let x : Some b ≡ None = ap (λ (p : Options). p.lock) q in cc;
}

password_option_fits : (o : Options) → FitOptions o → Gives Chosen (password_option o)
unfolding password_option
password_option_fits o h =
    next_gives Chosen (Word (codes "EXPIRE")) _ _
    (λ x. seq_gives Expires Chosen expire _ expire_fits (λ e f. gives_gives Chosen (record o { expire = Some e }) (with_expire o h e f)))
    (next_gives Chosen (Word (codes "HISTORY")) _ _
    (λ x. seq_gives Bounded Chosen bound _ bound_fits (λ b f. gives_gives Chosen (record o { history = Some b }) (with_history o h b f)))
    (just_gives Chosen (Word (codes "REUSE")) _ (just_gives Chosen (Word (codes "INTERVAL")) _
    (seq_gives Bounded Chosen bound_in_days _ bound_in_days_fits
    (λ b f. gives_gives Chosen (record o { reuse = Some b }) (with_reuse o h b f))))))

account_option_fits : (o : Options) → FitOptions o → Gives Chosen (account_option o)
unfolding account_option
account_option_fits o h =
    next_gives Chosen (Word (codes "LOCK")) _ _ (λ x. gives_gives Chosen (record o { lock = Some true }) (with_lock o h true))
    (just_gives Chosen (Word (codes "UNLOCK")) _ (gives_gives Chosen (record o { lock = Some false }) (with_lock o h false)))

abbrev OneMore : Bool → Option Options → Type 0
OneMore needed r = Further Chosen (needed ≡ false) r

abbrev no_option : Bool → Form (Option Options)
no_option needed = either needed refused (gives None)

no_option_fits : (needed : Bool) → Gives (OneMore needed) (no_option needed)
no_option_fits true = refused_gives (OneMore true)
no_option_fits false = gives_gives (OneMore false) None refl

option_fits : (needed : Bool) (o : Options) → FitOptions o → Gives (OneMore needed) (option needed o)
unfolding option
option_fits needed o h =
    next_gives (OneMore needed) (Word (codes "PASSWORD")) _ _
    (λ x. seq_gives Chosen (OneMore needed) (password_option o) _ (password_option_fits o h)
    (λ made c. gives_gives (OneMore needed) (Some made) c))
    (next_gives (OneMore needed) (Word (codes "FAILED_LOGIN_ATTEMPTS")) _ _
    (λ x. next_gives (OneMore needed) Number _ refused
    (λ n. gives_gives (OneMore needed) (Some (record o { attempts = Some (number_of n) })) (with_attempts o h (number_of n) (number_fits n)))
    (refused_gives (OneMore needed)))
    (next_gives (OneMore needed) (Word (codes "PASSWORD_LOCK_TIME")) _ _
    (λ x. seq_gives Timed (OneMore needed) lock_time _ lock_time_fits
    (λ t f. gives_gives (OneMore needed) (Some (record o { lock_time = Some t })) (with_lock_time o h t f)))
    (next_gives (OneMore needed) (Word (codes "ACCOUNT")) _ _
    (λ x. seq_gives Chosen (OneMore needed) (account_option o) _ (account_option_fits o h)
    (λ made c. gives_gives (OneMore needed) (Some made) c))
    (no_option_fits needed))))

repeated_option : (r : Option Options) → OneMore false r → Further Chosen (Unit {0}) r
repeated_option None h = tt
repeated_option (Some o) h = h

-- options, where one is needed
pub record Enough (needed : Bool) (o : Options) : Type 0 where
  pub fits : FitOptions o
  pub some : needed ≡ true → o ≡ no_options → ⊥

none_fit : FitOptions no_options
none_fit = record { expire = tt; history = tt; reuse = tt; attempts = tt; lock_time = tt }

further_options_fit : (needed : Bool) (r : Option Options) → OneMore needed r → Gives (Enough needed) (further_options r)
further_options_fit needed None h = gives_gives (Enough needed) no_options (record { fits = none_fit; some = λ e q. let x : true ≡ false = sym e ∙ h in cc })
further_options_fit needed (Some o) h = record {
  holds = λ v ts rest read.
      let c : Chosen v = (many_gives Chosen (option false) option_repeats
      (λ s k. record { holds = λ w us mid one. repeated_option w ((option_fits false s k.fits).holds w us mid one) }) o h).holds v ts rest read in
      record { fits = c.fits; some = λ e q. c.some q };
}

options_fit : (needed : Bool) → Gives (Enough needed) (options needed)
unfolding options
options_fit needed =
    seq_gives (OneMore needed) (Enough needed) (option needed no_options) further_options (option_fits needed no_options none_fit)
    (λ r h. further_options_fit needed r h)

numbered_fits : Gives FitPlace numbered
unfolding numbered
numbered_fits =
    next_gives FitPlace (Word (codes "2")) _ _ (λ x. just_gives FitPlace (Word (codes "FACTOR")) _ (gives_gives FitPlace 2 (inl refl)))
    (just_gives FitPlace (Word (codes "3")) _ (just_gives FitPlace (Word (codes "FACTOR")) _ (gives_gives FitPlace 3 (inr refl))))

discarded_fits : (V : Change → Type 0) → V Discard → Gives V discarded
unfolding discarded
discarded_fits V h = just_gives V (Word (codes "OLD")) _ (just_gives V (Word (codes "PASSWORD")) _ (gives_gives V Discard h))

change_fits : Gives FitChange change
unfolding change
change_fits =
    next_gives FitChange (Word (codes "IDENTIFIED")) _ _
    (λ x. seq_gives (FitAuth true) FitChange (auth true) _ (auth_fits true) (λ a h. gives_gives FitChange (Password a) h))
    (next_gives FitChange (Word (codes "DISCARD")) _ _ (λ x. discarded_fits FitChange tt)
    (next_gives FitChange (Word (codes "ADD")) _ _
    (λ x. seq_gives FitPlace FitChange numbered _ numbered_fits
    (λ n h. seq_gives Anything FitChange factor _ (anything factor) (λ f k. gives_gives FitChange (Add n f) h)))
    (next_gives FitChange (Word (codes "MODIFY")) _ _
    (λ x. seq_gives FitPlace FitChange numbered _ numbered_fits
    (λ n h. seq_gives Anything FitChange factor _ (anything factor) (λ f k. gives_gives FitChange (Modify n f) h)))
    (next_gives FitChange (Word (codes "DROP")) _ _
    (λ x. seq_gives FitPlace FitChange numbered _ numbered_fits (λ n h. gives_gives FitChange (DropFactor n) h))
    (gives_gives FitChange Nothing tt)))))

own_change_fits : Gives FitOwn own_change
unfolding own_change
own_change_fits =
    next_gives FitOwn (Word (codes "IDENTIFIED")) _ _
    (λ x. just_gives FitOwn (Word (codes "BY")) _
    (seq_gives Plain FitOwn (password true None) _ plain_fits (λ a h. gives_gives FitOwn (Password a) h)))
    (just_gives FitOwn (Word (codes "DISCARD")) _ (discarded_fits FitOwn tt))

abbrev Ways : Option Auth × List FactorAuth → Type 0
Ways w = FitWays w.0 w.1

ways_fit : Gives Ways ways
unfolding ways
ways_fit =
    next_gives Ways (Word (codes "IDENTIFIED")) _ _
    (λ x. seq_gives (FitAuth false) Ways (auth false) _ (auth_fits false)
    (λ a h. seq_gives Few Ways factors _ factors_fit (λ fs k. gives_gives Ways (Some a, fs) (h, k))))
    (gives_gives Ways (None, []) refl)

abbrev Fits : Statement → Type 0
Fits v = FitStatement v

create_fits : Gives Fits create
unfolding create
create_fits =
    seq_gives Anything Fits name _ (anything name)
    (λ n h. seq_gives Ways Fits ways _ ways_fit
    (λ w k. seq_gives (Enough false) Fits (options false) _ (options_fit false)
    (λ o l. seq_gives Anything Fits over _ (anything over) (λ u r. gives_gives Fits (Create n w.0 w.1 o) (k, l.fits)))))

alter_own_fits : Gives Fits alter_own
unfolding alter_own
alter_own_fits =
    seq_gives FitOwn Fits own_change _ own_change_fits
    (λ c h. seq_gives Anything Fits over _ (anything over) (λ u r. gives_gives Fits (Alter Own c no_options) (h, refl)))

alter_named_fits : (n : Name) → Gives Fits (alter_named n)
unfolding alter_named
alter_named_fits n =
    seq_gives FitChange Fits change _ change_fits
    (λ c h. seq_gives (Enough (is_nothing c)) Fits (options (is_nothing c)) _ (options_fit (is_nothing c))
    (λ o l. seq_gives Anything Fits over _ (anything over) (λ u r. gives_gives Fits (Alter (Named n) c o) (h, l.fits, l.some))))

alter_of_fits : (t : Target) → Gives Fits (alter_of t)
alter_of_fits Own = alter_own_fits
alter_of_fits (Named n) = alter_named_fits n

alter_fits : Gives Fits alter
unfolding alter
alter_fits = seq_gives Anything Fits target alter_of (anything target) (λ t h. alter_of_fits t)

abbrev Named_privilege : Privileges → Type 0
Named_privilege p = (p.create_user || p.password_admin) ≡ true

or_true : (b : Bool) → (b || true) ≡ true
or_true true = refl
or_true false = refl

privilege_fits : (p : Privileges) → Gives Named_privilege (privilege p)
unfolding privilege
privilege_fits p =
    next_gives Named_privilege (Word (codes "CREATE")) _ _
    (λ x. just_gives Named_privilege (Word (codes "USER")) _ (gives_gives Named_privilege (record p { create_user = true }) refl))
    (just_gives Named_privilege (Word (codes "APPLICATION_PASSWORD_ADMIN")) _
    (gives_gives Named_privilege (record p { password_admin = true }) (or_true p.create_user)))

further_privilege_fits : (p : Privileges) → Gives (Further Named_privilege (Unit {0})) (further_privilege p)
unfolding further_privilege
further_privilege_fits p =
    next_gives (Further Named_privilege (Unit {0})) (Sign 44) _ _
    (λ x. seq_gives Named_privilege (Further Named_privilege (Unit {0})) (privilege p) _ (privilege_fits p)
    (λ made h. gives_gives (Further Named_privilege (Unit {0})) (Some made) h))
    (gives_gives (Further Named_privilege (Unit {0})) None tt)

privileges_fit : Gives Named_privilege privileges
unfolding privileges
privileges_fit =
    seq_gives Named_privilege Named_privilege (privilege (record { create_user = false; password_admin = false })) _
    (privilege_fits (record { create_user = false; password_admin = false }))
    (λ p h. many_gives Named_privilege further_privilege privilege_repeats (λ s k. further_privilege_fits s) p h)

grant_fits : Gives Fits grant
unfolding grant
grant_fits =
    seq_gives Named_privilege Fits privileges _ privileges_fit
    (λ p h. seq_gives Anything Fits on_all _ (anything on_all)
    (λ u k. just_gives Fits (Word (codes "TO")) _ (seq_gives Anything Fits name _ (anything name)
    (λ n l. seq_gives Anything Fits over _ (anything over) (λ w r. gives_gives Fits (Grant p n) h)))))

revoke_fits : Gives Fits revoke
unfolding revoke
revoke_fits =
    seq_gives Named_privilege Fits privileges _ privileges_fit
    (λ p h. seq_gives Anything Fits on_all _ (anything on_all)
    (λ u k. just_gives Fits (Word (codes "FROM")) _ (seq_gives Anything Fits name _ (anything name)
    (λ n l. seq_gives Anything Fits over _ (anything over) (λ w r. gives_gives Fits (Revoke p n) h)))))

dropped_fits : Gives Fits dropped
unfolding dropped
dropped_fits =
    seq_gives Anything Fits name _ (anything name)
    (λ n l. seq_gives Anything Fits over _ (anything over) (λ w r. gives_gives Fits (Drop n) tt))

flushed_fits : Gives Fits flushed
unfolding flushed
flushed_fits =
    just_gives Fits (Word (codes "PRIVILEGES")) _
    (seq_gives Anything Fits over _ (anything over) (λ w r. gives_gives Fits Flush tt))

pub statement_fits : Gives Fits statement
unfolding statement
statement_fits =
    next_gives Fits (Word (codes "CREATE")) _ _ (λ x. just_gives Fits (Word (codes "USER")) create create_fits)
    (next_gives Fits (Word (codes "ALTER")) _ _ (λ x. just_gives Fits (Word (codes "USER")) alter alter_fits)
    (next_gives Fits (Word (codes "DROP")) _ _ (λ x. just_gives Fits (Word (codes "USER")) dropped dropped_fits)
    (next_gives Fits (Word (codes "FLUSH")) _ _ (λ x. flushed_fits)
    (next_gives Fits (Word (codes "GRANT")) _ _ (λ x. grant_fits)
    (just_gives Fits (Word (codes "REVOKE")) revoke revoke_fits)))))
