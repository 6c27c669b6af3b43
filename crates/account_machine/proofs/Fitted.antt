-- What a statement does to an account leaves its fields in the ranges of a record.
use Rattle.std.proofs.Common.{◌≡◌, refl, ap, sym, ℕ, zero, suc, ◌+◌, ◌-◌, ◌^◌, ◌<◌, ◌≤◌, ◌==◌, List, [], ◌∷◌, ◌++◌, length, map, take, slice_set, Bool, true, false, not, ◌&&◌, ◌||◌, if◌then◌else◌, Option, Some, None, All, subst, arith, eq-eqb}
use Rattle.std.specs.Prelude.{nat_le, slice_index, slice_index_or, Contains}
use Rattle.std.specs.List.{list_any}
use Rattle.std.specs.Int.{bytes_high_first, byte_at, to_be_bytes, w32}
use Rattle.std.proofs.lemmas.Bool.{leb-true}
use Rattle.std.proofs.lemmas.List.{length-map, length-take}
use Rattle.std.proofs.lemmas.List.Elements.{All-append, All-cons, All-nil, All-push, All-set, All-take}
use Rattle.sha1.specs.Sha1.{digest_bytes, sha1}
use Rattle.native_scramble.specs.Native.{native_stage2}
use Rattle.native_scramble.proofs.NativeLaws.{length-sha1}
use Rattle.sha256_crypt.specs.Alphabet.{IsSaltByte as IsSumByte}
use Rattle.sha256_crypt.specs.Crypt.{crypt_of, encoded}
use Rattle.sha256_crypt.proofs.SaltBytes.{All-encoded}
use Rattle.caching_sha2.specs.Stored.{IsSaltByte}
use Rattle.lg_base.specs.declared.names.Name.{Name}
use Rattle.login_lock.specs.declared.LockTime.{LockTime}
use Rattle.factor_chain.specs.Checking.{is_empty}
use Rattle.factor_chain.specs.declared.credentials.Method.{Method}
use Rattle.factor_chain.specs.declared.credentials.Method.TheVariants as method
use Rattle.factor_chain.specs.declared.credentials.PastRecord.{PastRecord}
use Rattle.factor_chain.specs.declared.credentials.Stored.{Stored}
use Rattle.factor_chain.specs.declared.credentials.Stored.TheVariants as stored
use Rattle.password_history.specs.Reuse.{with_latest}
use Rattle.account_rules.specs.declared.accounts.Account.{Account}
use Rattle.account_rules.specs.declared.accounts.Lifetime.{Lifetime}
use Rattle.account_rules.specs.declared.accounts.Limit.{Limit}
use Rattle.stmt_rules.specs.declared.statement.Auth.{Auth}
use Rattle.stmt_rules.specs.declared.statement.Bound.{Bound}
use Rattle.stmt_rules.specs.declared.statement.Bound.TheVariants as bound
use Rattle.stmt_rules.specs.declared.statement.Change.{Change}
use Rattle.stmt_rules.specs.declared.statement.Change.TheVariants.{Nothing, Password, Discard, Add, Modify, DropFactor}
use Rattle.stmt_rules.specs.declared.statement.Expire.{Expire}
use Rattle.stmt_rules.specs.declared.statement.Expire.TheVariants as expire
use Rattle.stmt_rules.specs.declared.statement.FactorAuth.{FactorAuth}
use Rattle.stmt_rules.specs.declared.statement.Options.{Options}
use Rattle.stmt_rules.specs.declared.statement.Time.{Time}
use Rattle.stmt_rules.specs.declared.statement.Time.TheVariants as time
use Rattle.account_keeper.specs.Record.{Fall, FallFrom, FitsRecord, IsDigest, IsSet, LabelFits, LabelsFit, LifetimeFits, LimitFits, LockTimeFits, PasswordFits, PastFits, PastsFit, SecondaryFits, StoredFits}
use Rattle.account_history.specs.Effects.{auth_or_none, begun_account, changed, created, expired_without, with_labels}
use Rattle.account_history.specs.Given.{Given}
use Rattle.account_history.specs.Histories.{latest_past}
use Rattle.account_history.specs.Options.{attempts_after, lifetime_after, limit_after, time_after, with_options}
use Rattle.account_history.specs.Passwords.{method_after, password_of, recorded, same_method, stored_of, with_password}
use Rattle.account_history.specs.Preparing.{IsSalt}
use Rattle.account_history.specs.Refusals.{attempts_fit, auth_in, bound_fits, expire_fits, factors_in, has_zero, is_bad_label, is_bad_user, misfits, options_fit, retains, time_fits}
use Rattle.account_history.specs.Sound.{AddsAtMostThird}
use Rattle.account_history.proofs.Soundness.{few-changed}

-- ## Tests

pub and-both : (x y : Bool) → (x && y) ≡ true → (x ≡ true) × (y ≡ true)
and-both true y e = (refl, e)
and-both false y e = absurd (cc)

pub or-neither : (x y : Bool) → (x || y) ≡ false → (x ≡ false) × (y ≡ false)
or-neither false y e = (refl, e)
or-neither true y e = absurd (cc)

pub not-true : (x : Bool) → not x ≡ false → x ≡ true
not-true true e = refl
not-true false e = absurd (cc)

pub not-false : (x : Bool) → not x ≡ true → x ≡ false
not-false true e = absurd (cc)
not-false false e = refl

pub at-most : (n most : ℕ) → nat_le n most ≡ true → n ≤ most
at-most n most e = leb-true n most e

pub some-byte : (n : ℕ) → (n == 0) ≡ false → 1 ≤ n
some-byte zero e = absurd (cc)
some-byte (suc n) e = omega arith

pub no-zero : (bytes : List ℕ) → has_zero bytes ≡ false → Contains bytes 0 → ⊥
no-zero [] e c = absurd (let h = c.1 in omega arith)
no-zero (b ∷ bytes) e c =
    let both = or-neither (b == 0) (has_zero bytes) e in
    cases both.0 (no-zero bytes both.1) c.0 c.1 c.2 where
      cases : (b == 0) ≡ false → (Contains bytes 0 → ⊥) → (k : ℕ) → k < suc (length bytes) → slice_index_or (b ∷ bytes) k 0 ≡ 0 → ⊥
      cases other rest zero h is = let same = eq-eqb b 0 is in absurd (cc)
      cases other rest (suc k) h is = rest (k, omega arith, is)

-- ## What is stored of a password

byte-small : (k n : ℕ) → byte_at k n < 256
byte-small zero n = omega arith
byte-small (suc k) n = omega arith

word-bytes : (k n : ℕ) → All (λ x. x < 256) (bytes_high_first k n)
word-bytes zero n = All-nil (λ x. x < 256)
word-bytes (suc k) n = All-cons (λ x. x < 256) (byte_at k n) (bytes_high_first k n) (byte-small k n) (word-bytes k n)

digest-bytes : (h : List ℕ) (n : ℕ) → All (λ x. x < 256) (digest_bytes h n)
unfolding digest_bytes
digest-bytes h zero = All-nil (λ x. x < 256)
digest-bytes h (suc n) =
    All-append (λ x. x < 256) (digest_bytes h n) (to_be_bytes w32 (slice_index h n)) (digest-bytes h n) (word-bytes 4 (slice_index h n))

sha1-bytes : (m : List ℕ) → All (λ x. x < 256) (sha1 m)
unfolding sha1
sha1-bytes m = digest-bytes _ 5

pub stage2-digest : (password : List ℕ) → IsDigest (native_stage2 password)
stage2-digest password = (length-sha1 (sha1 password), sha1-bytes (sha1 password))

encoded-length : (c : List ℕ) → length (encoded c) ≡ 43
unfolding encoded
encoded-length c = refl

sum-byte : (b : ℕ) → IsSumByte b → IsSaltByte b
unfolding IsSumByte IsSaltByte
sum-byte b h = h

sum-fits : (password salt : List ℕ) (rounds : ℕ) → (length (crypt_of password salt rounds) ≡ 43) × All IsSaltByte (crypt_of password salt rounds)
unfolding crypt_of
sum-fits password salt rounds = (encoded-length _, λ k d h. sum-byte _ (All-encoded _ k d h))

stored-fits : (m : Method) (salt password : List ℕ) → IsSalt salt → PasswordFits m (stored_of m salt password)
stored-fits m salt [] s = (tt, tt)
stored-fits method.Native salt (b ∷ password) s = (tt, stage2-digest (b ∷ password))
stored-fits method.CachingSha2 salt (b ∷ password) s =
    let sum = sum-fits (b ∷ password) salt 5000 in
    (tt, (record { some_rounds = omega arith; most_rounds = omega arith; salt = λ k d h. sum-byte _ (s.1 k d h); sum = sum.1 }, s.0, sum.0))

set-stored : (kept : Stored) → is_empty kept ≡ false → IsSet kept
set-stored stored.Empty e = absurd (cc)
set-stored (stored.Native digest) e = tt
set-stored (stored.Sha2 value) e = tt

-- ## A new password

same-methods : (m n : Method) → same_method m n ≡ true → m ≡ n
same-methods method.Native method.Native e = refl
same-methods method.Native method.CachingSha2 e = absurd (cc)
same-methods method.CachingSha2 method.Native e = absurd (cc)
same-methods method.CachingSha2 method.CachingSha2 e = refl

old-second : (m : Method) (old new : Stored) (second : Option (Stored × ℕ)) → IsSet new → SecondaryFits m old second → SecondaryFits m new second
old-second m old new None set fits = tt
old-second m old new (Some second) set fits = (fits.0, fits.1, set)

secondary-fits : (retain : Bool) (m : Method) (new : Stored) (a : Account) → (retain && is_empty a.primary) ≡ false → FitsRecord a
    → SecondaryFits m new (if is_empty new || not (same_method m a.method) then None else if retain then Some (a.primary, a.primary_id) else a.secondary)
secondary-fits retain m new a kept fits = cases (is_empty new) refl (same_method m a.method) refl where
  second : (r : Bool) → (r && is_empty a.primary) ≡ false → IsSet new → m ≡ a.method
      → SecondaryFits m new (if r then Some (a.primary, a.primary_id) else a.secondary)
  second true kept set same = (subst (λ (n : Method). PasswordFits n a.primary) (sym same) fits.primary, set-stored a.primary kept, set)
  second false kept set same = subst (λ (n : Method). SecondaryFits n new a.secondary) (sym same) (old-second a.method a.primary new a.secondary set fits.secondary)

  cases : (e : Bool) → is_empty new ≡ e → (s : Bool) → same_method m a.method ≡ s
      → SecondaryFits m new (if e || not s then None else if retain then Some (a.primary, a.primary_id) else a.secondary)
  cases true e s f = tt
  cases false e false f = tt
  cases false e true f = second retain kept (set-stored new e) (same-methods m a.method f)

fall-take : (latest n : ℕ) (past : List PastRecord) → FallFrom latest past → FallFrom latest (take n past)
fall-take latest zero past f = tt
fall-take latest (suc n) [] f = tt
fall-take latest (suc n) (p ∷ past) f = (f.0, fall-take p.moment n past f.1)

fall-below : (now : ℕ) (past : List PastRecord) → Fall past → latest_past past ≤ now → FallFrom now past
fall-below now [] f h = tt
fall-below now (p ∷ past) f h = (omega arith, f)

fall-start : (latest : ℕ) (past : List PastRecord) → FallFrom latest past → Fall past
fall-start latest [] f = tt
fall-start latest (p ∷ past) f = f.1

recorded-fits : (now : ℕ) (kept : Stored) (past : List PastRecord) → now < 2 ^ 64 → StoredFits kept → latest_past past ≤ now → PastsFit past
    → PastsFit (recorded now kept past)
recorded-fits now kept past h fits below all = cases (is_empty kept) refl where
  latest : PastRecord
  latest = record { moment = now; stored = kept }

  cases : (e : Bool) → is_empty kept ≡ e → PastsFit (if e then past else with_latest latest past)
  cases true e = all
  cases false e = (
    (let short = length-take 256 (latest ∷ past) in omega arith),
    All-take PastFits 256 (latest ∷ past) (All-cons PastFits latest past (h, fits, set-stored kept e) all.1),
    fall-start now (take 256 (latest ∷ past)) (fall-take now 256 (latest ∷ past) (omega arith, fall-below now past all.2 below)),
  )

pub password-fits : (id : ℕ) (salt : List ℕ) (now : ℕ) (auth : Auth) (a : Account) → IsSalt salt → now < 2 ^ 64 → latest_past a.past ≤ now
    → (auth.retain && is_empty a.primary) ≡ false → FitsRecord a → FitsRecord (with_password id salt now auth a)
password-fits id salt now auth a s h below kept fits =
    let m : Method = method_after auth.method a.method in
    let new : Stored = stored_of m salt (password_of auth.password) in
    let one = stored-fits m salt (password_of auth.password) s in
    record {
      user = fits.user;
      primary = one;
      secondary = secondary-fits auth.retain m new a kept fits;
      labels = fits.labels;
      changed = h;
      lifetime = fits.lifetime;
      history = fits.history;
      reuse = fits.reuse;
      attempts = fits.attempts;
      lock_time = fits.lock_time;
      past = recorded-fits now new a.past h one.1 below fits.past;
    }

-- ## Options

lifetime-fits : (e : Option Expire) (standing : Lifetime) → expire_fits e ≡ true → LifetimeFits standing → LifetimeFits (lifetime_after e standing)
lifetime-fits None standing e fits = fits
lifetime-fits (Some expire.Now) standing e fits = fits
lifetime-fits (Some expire.Default) standing e fits = tt
lifetime-fits (Some expire.Never) standing e fits = tt
lifetime-fits (Some (expire.Days days)) standing e fits =
    let within = and-both (nat_le 1 days) (nat_le days 65535) e in
    let low = at-most 1 days within.0 in let high = at-most days 65535 within.1 in (low, omega arith)

limit-fits : (most : ℕ) (b : Option Bound) (standing : Limit) → bound_fits most b ≡ true → LimitFits most standing → LimitFits most (limit_after b standing)
limit-fits most None standing e fits = fits
limit-fits most (Some bound.Default) standing e fits = tt
limit-fits most (Some (bound.Count count)) standing e fits = at-most count most e

attempts-fits : (attempts : Option ℕ) (standing : ℕ) → attempts_fit attempts ≡ true → standing ≤ 32767 → attempts_after attempts standing ≤ 32767
attempts-fits None standing e fits = fits
attempts-fits (Some attempts) standing e fits = at-most attempts 32767 e

time-fits : (t : Option Time) (standing : LockTime) → time_fits t ≡ true → LockTimeFits standing → LockTimeFits (time_after t standing)
time-fits None standing e fits = fits
time-fits (Some (time.Days days)) standing e fits = at-most days 32767 e
time-fits (Some time.Unbounded) standing e fits = tt

pub options-fits : (o : Options) (a : Account) → options_fit o ≡ true → FitsRecord a → FitsRecord (with_options o a)
options-fits o a e fits =
    let first = and-both (expire_fits o.expire && bound_fits 256 o.history && bound_fits 65535 o.reuse && attempts_fit o.attempts) (time_fits o.lock_time) e in
    let second = and-both (expire_fits o.expire && bound_fits 256 o.history && bound_fits 65535 o.reuse) (attempts_fit o.attempts) first.0 in
    let third = and-both (expire_fits o.expire && bound_fits 256 o.history) (bound_fits 65535 o.reuse) second.0 in
    let fourth = and-both (expire_fits o.expire) (bound_fits 256 o.history) third.0 in
    record {
      user = fits.user;
      primary = fits.primary;
      secondary = fits.secondary;
      labels = fits.labels;
      changed = fits.changed;
      lifetime = lifetime-fits o.expire a.lifetime fourth.0 fits.lifetime;
      history = limit-fits 256 o.history a.history fourth.1 fits.history;
      reuse = limit-fits 65535 o.reuse a.reuse third.1 fits.reuse;
      attempts = attempts-fits o.attempts a.lock.attempts second.1 fits.attempts;
      lock_time = time-fits o.lock_time a.lock.time first.1 fits.lock_time;
      past = fits.past;
    }

-- ## Further factors

good-label : (factor : FactorAuth) → is_bad_label factor ≡ false → LabelFits factor.label
good-label factor e =
    let both = or-neither (length factor.label == 0) _ e in
    (some-byte (length factor.label) both.0, at-most (length factor.label) 64 (not-true _ both.1))

good-labels : (factors : List FactorAuth) → list_any is_bad_label factors ≡ false → All LabelFits (map (λ (factor : FactorAuth). factor.label) factors)
good-labels [] e = All-nil LabelFits
good-labels (factor ∷ factors) e =
    let both = or-neither (is_bad_label factor) (list_any is_bad_label factors) e in
    All-cons LabelFits factor.label (map (λ (f : FactorAuth). f.label) factors) (good-label factor both.0) (good-labels factors both.1)

with-labels : (labels : List (List ℕ)) (a : Account) → LabelsFit labels → FitsRecord a → FitsRecord (record a { labels = labels })
with-labels labels a l fits = record {
  user = fits.user;
  primary = fits.primary;
  secondary = fits.secondary;
  labels = l;
  changed = fits.changed;
  lifetime = fits.lifetime;
  history = fits.history;
  reuse = fits.reuse;
  attempts = fits.attempts;
  lock_time = fits.lock_time;
  past = fits.past;
}

without-secondary : (a : Account) → FitsRecord a → FitsRecord (record a { secondary = None })
without-secondary a fits = record {
  user = fits.user;
  primary = fits.primary;
  secondary = tt;
  labels = fits.labels;
  changed = fits.changed;
  lifetime = fits.lifetime;
  history = fits.history;
  reuse = fits.reuse;
  attempts = fits.attempts;
  lock_time = fits.lock_time;
  past = fits.past;
}

without-by : (password : Option (List ℕ)) (a : Account) → FitsRecord a → FitsRecord (expired_without password a)
without-by (Some password) a fits = fits
without-by None a fits = record {
  user = fits.user;
  primary = fits.primary;
  secondary = fits.secondary;
  labels = fits.labels;
  changed = fits.changed;
  lifetime = fits.lifetime;
  history = fits.history;
  reuse = fits.reuse;
  attempts = fits.attempts;
  lock_time = fits.lock_time;
  past = fits.past;
}

pub change-fits : (change : Change) (id : ℕ) (salt : List ℕ) (now : ℕ) (a : Account) → IsSalt salt → now < 2 ^ 64 → latest_past a.past ≤ now
    → AddsAtMostThird change → misfits change a ≡ false → list_any is_bad_label (factors_in change) ≡ false
    → (retains (auth_in change) && is_empty a.primary) ≡ false → FitsRecord a → FitsRecord (changed change id salt now a)
change-fits Nothing id salt now a s h below w places labels kept fits = fits
change-fits (Password auth) id salt now a s h below w places labels kept fits =
    without-by auth.password (with_password id salt now auth a) (password-fits id salt now auth a s h below kept fits)
change-fits Discard id salt now a s h below w places labels kept fits = without-secondary a fits
change-fits (Add n factor) id salt now a s h below w places labels kept fits =
    let good = or-neither (is_bad_label factor) false labels in
    with-labels (a.labels ++ factor.label ∷ []) a
    (few-changed (Add n factor) id salt now a w places fits.labels.0, All-push LabelFits a.labels factor.label fits.labels.1 (good-label factor good.0)) fits
change-fits (Modify n factor) id salt now a s h below w places labels kept fits =
    let good = or-neither (is_bad_label factor) false labels in
    with-labels (slice_set a.labels (n - 2) factor.label) a
    (few-changed (Modify n factor) id salt now a w places fits.labels.0, All-set LabelFits a.labels (n - 2) factor.label (good-label factor good.0) fits.labels.1) fits
change-fits (DropFactor n) id salt now a s h below w places labels kept fits =
    with-labels (take (n - 2) a.labels) a
    (few-changed (DropFactor n) id salt now a w places fits.labels.0, All-take LabelFits (n - 2) a.labels fits.labels.1) fits

-- ## A new account

begun-fits : (id : ℕ) (name : Name) → is_bad_user name.user ≡ false → FitsRecord (begun_account id name)
begun-fits id name e =
    let first = or-neither ((length name.user == 0) || not (nat_le (length name.user) 32)) (has_zero name.user) e in
    let second = or-neither (length name.user == 0) (not (nat_le (length name.user) 32)) first.0 in
    record {
      user = (some-byte (length name.user) second.0, at-most (length name.user) 32 (not-true _ second.1), no-zero name.user first.1);
      primary = (tt, tt);
      secondary = tt;
      labels = (omega arith, All-nil LabelFits);
      changed = omega arith;
      lifetime = tt;
      history = tt;
      reuse = tt;
      attempts = omega arith;
      lock_time = omega arith;
      past = (omega arith, All-nil PastFits, tt);
    }

no-retain : (auth : Option Auth) → retains auth ≡ false → (auth_or_none auth).retain ≡ false
no-retain None e = refl
no-retain (Some auth) e = e

pub created-fits : (g : Given) (salt : List ℕ) (now : ℕ) (name : Name) (auth : Option Auth) (factors : List FactorAuth) (options : Options)
    → IsSalt salt → now < 2 ^ 64 → is_bad_user name.user ≡ false → list_any is_bad_label factors ≡ false → options_fit options ≡ true
    → retains auth ≡ false → length factors ≤ 2 → FitsRecord (created g salt now name auth factors options)
created-fits g salt now name auth factors options s h user labels ranges kept few =
    let begun : Account = begun_account (g.account + 1) name in
    let set : Account = with_password (g.credential + 1) salt now (auth_or_none auth) begun in
    let set-fits = password-fits (g.credential + 1) salt now (auth_or_none auth) begun s h (omega arith)
    (ap (λ r. r && true) (no-retain auth kept)) (begun-fits (g.account + 1) name user) in
    let same = length-map factors (λ (factor : FactorAuth). factor.label) in
    options-fits options (with_labels factors set) ranges
    (with-labels (map (λ (factor : FactorAuth). factor.label) factors) set (omega arith, good-labels factors labels) set-fits)
