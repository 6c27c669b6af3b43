-- What readers find.
use Rattle.std.proofs.Common.{◌≡◌, ◌≢◌, ℕ, ◌+◌, ◌*◌, ◌≤◌, get_or, ◌^◌, ◌%◌, ◌/◌, Bool, true, false, length-append, take_at, drop_at, ◌<◌, List, [], ◌∷◌, ◌++◌, length, drop, Option, Some, None, Result, Ok, Err, IfOk, OnErr, refl, sym, ap, ⊎_elim, ◌∙◌, subst, add-zero, arith}
use Rattle.lg_base.specs.Fields.{little, little_text}
use Rattle.lg_base.specs.Reading.{Cursor, Read, number_at, bytes_at}
use Rattle.lg_base.specs.declared.input.ReadFault.{ReadFault}
use Rattle.lg_base.specs.declared.names.Host.{Host}
use Rattle.lg_base.specs.declared.names.Host.TheVariants.{Localhost, Any}
use Rattle.std.proofs.lemmas.Bool.{cases_lt}
use Rattle.std.proofs.lemmas.List.{get_or_past}
use Rattle.std.specs.List.{All}
use Rattle.hex.specs.Hex.{IsBytes, upper_digits}
use Rattle.hex.proofs.HexLemmas.{length-encode_with}
use Rattle.wire_form.proofs.Numbers.{number_at-long, bytes_at-long, length-little_text, little-little_text}
use Rattle.native_scramble.specs.Native.{native_text}
use Rattle.caching_sha2.specs.Stored.{IsStoredText, text_of}
use Rattle.caching_sha2.specs.declared.stored.Sha2Stored.{Sha2Stored}
use Rattle.factor_chain.specs.declared.credentials.Method.{Method}
use Rattle.factor_chain.specs.declared.credentials.Method.TheVariants as method
use Rattle.factor_chain.specs.declared.credentials.Stored.{Stored}
use Rattle.factor_chain.specs.declared.credentials.Stored.TheVariants as stored
use Rattle.account_rules.specs.declared.accounts.Lifetime.{Lifetime}
use Rattle.account_rules.specs.declared.accounts.Lifetime.TheVariants as lifetime
use Rattle.account_rules.specs.declared.accounts.Limit.{Limit}
use Rattle.account_rules.specs.declared.accounts.Limit.TheVariants as limit
use Rattle.login_lock.specs.declared.LockTime.{LockTime}
use Rattle.login_lock.specs.declared.LockTime.TheVariants as lock
use Rattle.account_keeper.specs.Finding.{Finds}
use Rattle.account_keeper.specs.declared.reading.RecordFault.{RecordFault}
use Rattle.account_keeper.specs.Record.{IsDigest, IsSaltedSum, StoredFits, lifetime_text, limit_text, lock_time_text, host_byte, method_byte, flag_byte, privileges_byte, secondary_text, stored_text}

abbrev as_read : ℕ → Cursor → Read ℕ
as_read x next = Ok (x, next)

byte_read : (c : Cursor) (b : ℕ) (more : List ℕ) → c.rest ≡ b ∷ more → number_at 1 c ≡ as_read b (record { at = c.at + 1; rest = more })
byte_read c b more e =
    subst (λ (w : List ℕ). number_at 1 (record { at = c.at; rest = w }) ≡ as_read b (record { at = c.at + 1; rest = more })) (sym e)
    (number_at-long 1 (record { at = c.at; rest = b ∷ more }) (omega arith)
    ∙ ap (λ (n : ℕ). as_read n (record { at = c.at + 1; rest = more })) (add-zero b))

same_read : (x y : ℕ) (c d : Cursor) → as_read x c ≡ as_read y d → (x ≡ y) × (c ≡ d)
same_read x y c d e =
    let p : (x, c) ≡ (y, d) = cc in
    (ap (λ (q : ℕ × Cursor). q.0) p, ap (λ (q : ℕ × Cursor). q.1) p)

no_fault : (x : ℕ) (c : Cursor) (fault : ReadFault) → as_read x c ≡ Err fault → ⊥
no_fault x c fault e = cc

pub byte_found : (c next : Cursor) (x b : ℕ) (more : List ℕ) → number_at 1 c ≡ Ok (x, next) → c.rest ≡ b ∷ more → (x ≡ b) × (next.rest ≡ more)
byte_found c next x b more read is =
    let same = same_read x b next (record { at = c.at + 1; rest = more }) (sym read ∙ byte_read c b more is) in
    (same.0, ap (λ (d : Cursor). d.rest) same.1)

pub byte_refused : (c : Cursor) (fault : ReadFault) (b : ℕ) (more : List ℕ) → number_at 1 c ≡ Err fault → c.rest ≡ b ∷ more → ⊥
byte_refused c fault b more read is = no_fault b (record { at = c.at + 1; rest = more }) fault (sym (byte_read c b more is) ∙ read)

pub host_found : (host : Host) (b : ℕ) → b ≡ host_byte host → (b ≡ 0 → host ≡ Localhost) × (b ≡ 1 → host ≡ Any)
host_found Localhost b e = (λ _. refl, λ is. absurd (omega (arith, e, is)))
host_found Any b e = (λ is. absurd (omega (arith, e, is)), λ _. refl)

pub method_found : (m : Method) (b : ℕ) → b ≡ method_byte m → (b ≡ 0 → m ≡ method.Native) × (b ≡ 1 → m ≡ method.CachingSha2)
method_found method.Native b e = (λ _. refl, λ is. absurd (omega (arith, e, is)))
method_found method.CachingSha2 b e = (λ is. absurd (omega (arith, e, is)), λ _. refl)

pub flag_found : (f : Bool) (b : ℕ) → b ≡ flag_byte f → (b ≡ 0 → f ≡ false) × (b ≡ 1 → f ≡ true)
flag_found false b e = (λ _. refl, λ is. absurd (omega (arith, e, is)))
flag_found true b e = (λ is. absurd (omega (arith, e, is)), λ _. refl)

-- a number of so many bytes that is read, or isn't
number_read : (size : ℕ) (c : Cursor) (v : ℕ) (more : List ℕ) → v < 256 ^ size → c.rest ≡ little_text size v ++ more →
    number_at size c ≡ as_read v (record { at = c.at + size; rest = more })
number_read size c v more fits e =
    subst (λ (w : List ℕ). number_at size (record { at = c.at; rest = w }) ≡ as_read v (record { at = c.at + size; rest = more })) (sym e)
    (number_at-long size (record { at = c.at; rest = little_text size v ++ more }) (omega (arith, length-append (little_text size v) more, length-little_text size v))
    ∙ ap (λ (w : List ℕ). as_read (little w) (record { at = c.at + size; rest = drop size (little_text size v ++ more) })) (take_at (little_text size v) more size (length-little_text size v))
    ∙ ap (λ (w : List ℕ). as_read (little (little_text size v)) (record { at = c.at + size; rest = w })) (drop_at (little_text size v) more size (length-little_text size v))
    ∙ ap (λ (n : ℕ). as_read n (record { at = c.at + size; rest = more })) (little-little_text size v fits))

pub number_found : (size : ℕ) (c next : Cursor) (x v : ℕ) (more : List ℕ) → number_at size c ≡ Ok (x, next) → v < 256 ^ size →
    c.rest ≡ little_text size v ++ more → (x ≡ v) × (next.rest ≡ more)
number_found size c next x v more read fits is =
    let same = same_read x v next (record { at = c.at + size; rest = more }) (sym read ∙ number_read size c v more fits is) in
    (same.0, ap (λ (d : Cursor). d.rest) same.1)

pub number_refused : (size : ℕ) (c : Cursor) (fault : ReadFault) (v : ℕ) (more : List ℕ) → number_at size c ≡ Err fault → v < 256 ^ size →
    c.rest ≡ little_text size v ++ more → ⊥
number_refused size c fault v more read fits is = no_fault v (record { at = c.at + size; rest = more }) fault (sym (number_read size c v more fits is) ∙ read)

-- in two bytes
pub two_found : (c next : Cursor) (x v : ℕ) (more : List ℕ) → number_at 2 c ≡ Ok (x, next) → v < 65536 →
    c.rest ≡ v % 256 ∷ v / 256 % 256 ∷ more → (x ≡ v) × (next.rest ≡ more)
two_found c next x v more read fits is = number_found 2 c next x v more read fits is

pub two_refused : (c : Cursor) (fault : ReadFault) (v : ℕ) (more : List ℕ) → number_at 2 c ≡ Err fault → v < 65536 →
    c.rest ≡ v % 256 ∷ v / 256 % 256 ∷ more → ⊥
two_refused c fault v more read fits is = number_refused 2 c fault v more read fits is

-- how long passwords last: the first byte tells which kind it is
abbrev pub lifetime_tag : Lifetime → ℕ
lifetime_tag lifetime.Default = 0
lifetime_tag lifetime.Never = 1
lifetime_tag (lifetime.Days days) = 2

abbrev pub lifetime_tail : Lifetime → List ℕ
lifetime_tail lifetime.Default = []
lifetime_tail lifetime.Never = []
lifetime_tail (lifetime.Days days) = little_text 2 days

pub lifetime_parts : (v : Lifetime) (more : List ℕ) → lifetime_text v ++ more ≡ lifetime_tag v ∷ (lifetime_tail v ++ more)
lifetime_parts lifetime.Default more = refl
lifetime_parts lifetime.Never more = refl
lifetime_parts (lifetime.Days days) more = refl

pub lifetime_found : (v : Lifetime) (b : ℕ) → b ≡ lifetime_tag v → (b ≡ 0 → v ≡ lifetime.Default) × (b ≡ 1 → v ≡ lifetime.Never)
lifetime_found lifetime.Default b e = (λ _. refl, λ is. absurd (omega (arith, e, is)))
lifetime_found lifetime.Never b e = (λ is. absurd (omega (arith, e, is)), λ _. refl)
lifetime_found (lifetime.Days days) b e = (λ is. absurd (omega (arith, e, is)), λ is. absurd (omega (arith, e, is)))

abbrev pub limit_tag : Limit → ℕ
limit_tag limit.Default = 0
limit_tag (limit.Count count) = 1

abbrev pub limit_tail : Limit → List ℕ
limit_tail limit.Default = []
limit_tail (limit.Count count) = little_text 2 count

pub limit_parts : (v : Limit) (more : List ℕ) → limit_text v ++ more ≡ limit_tag v ∷ (limit_tail v ++ more)
limit_parts limit.Default more = refl
limit_parts (limit.Count count) more = refl

pub limit_found : (v : Limit) (b : ℕ) → b ≡ limit_tag v → (b ≡ 0 → v ≡ limit.Default) × (b < 2)
limit_found limit.Default b e = (λ _. refl, omega (arith, e))
limit_found (limit.Count count) b e = (λ is. absurd (omega (arith, e, is)), omega (arith, e))

abbrev pub lock_time_tag : LockTime → ℕ
lock_time_tag (lock.Days days) = 0
lock_time_tag lock.Unbounded = 1

abbrev pub lock_time_tail : LockTime → List ℕ
lock_time_tail (lock.Days days) = little_text 2 days
lock_time_tail lock.Unbounded = []

pub lock_time_parts : (v : LockTime) (more : List ℕ) → lock_time_text v ++ more ≡ lock_time_tag v ∷ (lock_time_tail v ++ more)
lock_time_parts (lock.Days days) more = refl
lock_time_parts lock.Unbounded more = refl

pub lock_time_found : (v : LockTime) (b : ℕ) → b ≡ lock_time_tag v → (b ≡ 1 → v ≡ lock.Unbounded) × (b < 2)
lock_time_found (lock.Days days) b e = (λ is. absurd (omega (arith, e, is)), omega (arith, e))
lock_time_found lock.Unbounded b e = (λ _. refl, omega (arith, e))

abbrev as_bytes : List ℕ → Cursor → Read (List ℕ)
as_bytes x next = Ok (x, next)

same_bytes : (x y : List ℕ) (c d : Cursor) → as_bytes x c ≡ as_bytes y d → (x ≡ y) × (c ≡ d)
same_bytes x y c d e =
    let p : (x, c) ≡ (y, d) = cc in
    (ap (λ (q : List ℕ × Cursor). q.0) p, ap (λ (q : List ℕ × Cursor). q.1) p)

no_bytes_fault : (x : List ℕ) (c : Cursor) (fault : ReadFault) → as_bytes x c ≡ Err fault → ⊥
no_bytes_fault x c fault e = cc

-- so many bytes
bytes_read : (size : ℕ) (c : Cursor) (v more : List ℕ) → length v ≡ size → c.rest ≡ v ++ more →
    bytes_at size c ≡ as_bytes v (record { at = c.at + size; rest = more })
bytes_read size c v more fits e =
    subst (λ (w : List ℕ). bytes_at size (record { at = c.at; rest = w }) ≡ as_bytes v (record { at = c.at + size; rest = more })) (sym e)
    (bytes_at-long size (record { at = c.at; rest = v ++ more }) (omega (arith, length-append v more, fits))
    ∙ ap (λ (w : List ℕ). as_bytes w (record { at = c.at + size; rest = drop size (v ++ more) })) (take_at v more size fits)
    ∙ ap (λ (w : List ℕ). as_bytes v (record { at = c.at + size; rest = w })) (drop_at v more size fits))

pub bytes_found : (size : ℕ) (c next : Cursor) (x v more : List ℕ) → bytes_at size c ≡ Ok (x, next) → length v ≡ size →
    c.rest ≡ v ++ more → (x ≡ v) × (next.rest ≡ more)
bytes_found size c next x v more read fits is =
    let same = same_bytes x v next (record { at = c.at + size; rest = more }) (sym read ∙ bytes_read size c v more fits is) in
    (same.0, ap (λ (d : Cursor). d.rest) same.1)

pub bytes_refused : (size : ℕ) (c : Cursor) (fault : ReadFault) (v more : List ℕ) → bytes_at size c ≡ Err fault → length v ≡ size →
    c.rest ≡ v ++ more → ⊥
bytes_refused size c fault v more read fits is = no_bytes_fault v (record { at = c.at + size; rest = more }) fault (sym (bytes_read size c v more fits is) ∙ read)

pub privileges_found : (v : Bool × Bool) (b : ℕ) → b ≡ privileges_byte v.0 v.1 →
    (b < 4) × (b ≡ 0 → v ≡ (false, false)) × (b ≡ 1 → v ≡ (true, false)) × (b ≡ 2 → v ≡ (false, true)) × (b ≡ 3 → v ≡ (true, true))
privileges_found (false, false) b e =
    (omega (arith, e), λ _. refl, λ is. absurd (omega (arith, e, is)), λ is. absurd (omega (arith, e, is)), λ is. absurd (omega (arith, e, is)))
privileges_found (true, false) b e =
    (omega (arith, e), λ is. absurd (omega (arith, e, is)), λ _. refl, λ is. absurd (omega (arith, e, is)), λ is. absurd (omega (arith, e, is)))
privileges_found (false, true) b e =
    (omega (arith, e), λ is. absurd (omega (arith, e, is)), λ is. absurd (omega (arith, e, is)), λ _. refl, λ is. absurd (omega (arith, e, is)))
privileges_found (true, true) b e =
    (omega (arith, e), λ is. absurd (omega (arith, e, is)), λ is. absurd (omega (arith, e, is)), λ is. absurd (omega (arith, e, is)), λ _. refl)

-- a number in eight bytes, of the bytes that are read
pub eight_found : (result : Result ℕ RecordFault) (before after text : List ℕ) → IfOk result (λ n. n ≡ little text) → OnErr result (length text ≢ 8) →
    ((v more : List ℕ) → length v ≡ 8 → before ≡ v ++ more → (text ≡ v) × (after ≡ more)) →
    Finds (λ x v. x ≡ v) (λ n. little_text 8 n) (λ n. n < 256 ^ 8) before after result
eight_found (Ok n) before after text is other reads = λ v more fits at.
    let r = reads (little_text 8 v) more (length-little_text 8 v) at in
    (is ∙ ap little r.0 ∙ little-little_text 8 v fits, r.1)
eight_found (Err e) before after text is other reads = λ v more fits at.
    let r = reads (little_text 8 v) more (length-little_text 8 v) at in
    absurd (other (ap length r.0 ∙ length-little_text 8 v))

-- the stored texts of the methods
pub native_long : (digest : List ℕ) → length digest ≡ 20 → length (native_text digest) ≡ 41
native_long digest h = omega (arith, length-encode_with upper_digits digest, h)

pub native_bytes : (digest : List ℕ) → All (λ x. x < 256) digest → IsBytes digest
native_bytes digest h i = ⊎_elim (λ lt. h i 0 lt) (λ past. let e = get_or_past digest i 0 past in omega (arith, e)) (cases_lt i (length digest))

pub sha2_long : (value : Sha2Stored) → length value.salt ≡ 20 → length value.sum ≡ 43 → length (text_of value) ≡ 70
sha2_long value h k = omega (arith, length-append value.salt value.sum, h, k)

pub sha2_stored : (value : Sha2Stored) (text : List ℕ) → IsSaltedSum value → text ≡ text_of value → IsStoredText value text
sha2_stored value text h e = record { storable = h.0; salt_length = h.1; sum_length = h.2; bytes = e }

abbrev pub stored_tag : Stored → ℕ
stored_tag stored.Empty = 0
stored_tag (stored.Native digest) = 1
stored_tag (stored.Sha2 value) = 2

abbrev pub stored_tail : Stored → List ℕ
stored_tail stored.Empty = []
stored_tail (stored.Native digest) = native_text digest
stored_tail (stored.Sha2 value) = text_of value

pub stored_parts : (v : Stored) (more : List ℕ) → stored_text v ++ more ≡ stored_tag v ∷ (stored_tail v ++ more)
stored_parts stored.Empty more = refl
stored_parts (stored.Native digest) more = refl
stored_parts (stored.Sha2 value) more = refl

pub stored_found : (v : Stored) (b : ℕ) → b ≡ stored_tag v → (b ≡ 0 → v ≡ stored.Empty) × (b < 3)
stored_found stored.Empty b e = (λ _. refl, omega (arith, e))
stored_found (stored.Native digest) b e = (λ is. absurd (omega (arith, e, is)), omega (arith, e))
stored_found (stored.Sha2 value) b e = (λ is. absurd (omega (arith, e, is)), omega (arith, e))

abbrev pub secondary_tag : Option (Stored × ℕ) → ℕ
secondary_tag None = 0
secondary_tag (Some second) = 1

abbrev pub secondary_tail : Option (Stored × ℕ) → List ℕ
secondary_tail None = []
secondary_tail (Some second) = stored_text second.0

pub secondary_parts : (v : Option (Stored × ℕ)) (more : List ℕ) → secondary_text v ++ more ≡ secondary_tag v ∷ (secondary_tail v ++ more)
secondary_parts None more = refl
secondary_parts (Some second) more = refl

pub secondary_found : (v : Option (Stored × ℕ)) (b : ℕ) → b ≡ secondary_tag v → (b ≡ 0 → v ≡ None) × (b < 2)
secondary_found None b e = (λ _. refl, omega (arith, e))
secondary_found (Some second) b e = (λ is. absurd (omega (arith, e, is)), omega (arith, e))

pub eight_long : (n : ℕ) → length (little_text 8 n) ≡ 8
eight_long n = length-little_text 8 n

abbrev some_of : {A : Type 0} → A → Option A
some_of x = Some x

abbrev none_of : (A : Type 0) → Option A
none_of A = None

pub same_some : {A : Type 0} (x y : A) → some_of x ≡ some_of y → x ≡ y
same_some x y e = cc

pub not_none : {A : Type 0} (x : A) → none_of A ≡ some_of x → ⊥
not_none x e = cc

-- eight bytes, of which a number is made
pub eight_little : (text : List ℕ) (n : ℕ) → 8 ≤ length text → length text < 9 →
    n ≡ get_or text 0 0 + get_or text 1 0 * 256 + get_or text 2 0 * 65536 + get_or text 3 0 * 16777216 + get_or text 4 0 * 4294967296
    + get_or text 5 0 * 1099511627776 + get_or text 6 0 * 281474976710656 + get_or text 7 0 * 72057594037927936 → n ≡ little text
eight_little [] n least most is = absurd (omega (arith, least))
eight_little (a ∷ []) n least most is = absurd (omega (arith, least))
eight_little (a ∷ b ∷ []) n least most is = absurd (omega (arith, least))
eight_little (a ∷ b ∷ c ∷ []) n least most is = absurd (omega (arith, least))
eight_little (a ∷ b ∷ c ∷ d ∷ []) n least most is = absurd (omega (arith, least))
eight_little (a ∷ b ∷ c ∷ d ∷ e ∷ []) n least most is = absurd (omega (arith, least))
eight_little (a ∷ b ∷ c ∷ d ∷ e ∷ f ∷ []) n least most is = absurd (omega (arith, least))
eight_little (a ∷ b ∷ c ∷ d ∷ e ∷ f ∷ g ∷ []) n least most is = absurd (omega (arith, least))
eight_little (a ∷ b ∷ c ∷ d ∷ e ∷ f ∷ g ∷ h ∷ []) n least most is = omega (arith, is)
eight_little (a ∷ b ∷ c ∷ d ∷ e ∷ f ∷ g ∷ h ∷ more ∷ rest) n least most is = absurd (omega (arith, most))

-- behind the byte of the native method stands its text
pub native_there : (v : Stored) (b : ℕ) (before rest more : List ℕ) → b ≡ 1 → StoredFits v → before ≡ stored_text v ++ more →
    ((w : ℕ) (m : List ℕ) → Unit {0} → before ≡ w ∷ m → (b ≡ w) × (rest ≡ m)) →
    (digest : List ℕ) × (v ≡ stored.Native digest) × IsDigest digest × (rest ≡ native_text digest ++ more)
native_there stored.Empty b before rest more one fits at reads =
    let r = reads 0 more tt at in
    absurd (omega (arith, one, r.0))
native_there (stored.Native digest) b before rest more one fits at reads = (digest, refl, fits, (reads 1 (native_text digest ++ more) tt at).1)
native_there (stored.Sha2 value) b before rest more one fits at reads =
    let r = reads 2 (text_of value ++ more) tt at in
    absurd (omega (arith, one, r.0))
