-- The oldest record, the newest ones, and the records that a password fits.
use Rattle.std.proofs.Common.{◌≡◌, refl, sym, ap, ◌∙◌, ℕ, zero, suc, ◌-◌, ◌==◌, Bool, false, ◌&&◌, ◌||◌, List, [], ◌∷◌, length, take, map, min, arith, slice_index_or}
use Rattle.std.specs.List.{list_any}
use Rattle.std.proofs.Math.Bool.{and-false}
use Rattle.std.proofs.Math.Nat.{min_comm}
use Rattle.std.proofs.lemmas.List.{take_min}
use Rattle.std.proofs.lemmas.List.Elements.{All-take}
use Rattle.std.proofs.lemmas.List.Folds.{list_any_none}
use Rattle.factor_chain.specs.declared.credentials.PastRecord.{PastRecord}
use Rattle.factor_chain.specs.declared.credentials.Stored.{Stored}
use Rattle.factor_chain.specs.declared.credentials.Stored.TheVariants as stored
use Rattle.factor_chain.specs.Checking.{is_empty, password_fits}
use Rattle.password_history.specs.Reuse.{fits_record, is_any, is_full, is_young, is_young_used, last_is, most_past}
use Rattle.password_history.specs.Laws.{AreSet, ForbiddenByUse}

-- the last of a list stands at its last place
last_is-at : (test : PastRecord → Bool) (past : List PastRecord) (other : PastRecord) (place : ℕ) → length past ≡ suc place
    → test (slice_index_or past place other) ≡ last_is test past
last_is-at test [] other place h = absurd (omega (arith, h))
last_is-at test (record_ ∷ []) other zero h = refl
last_is-at test (record_ ∷ []) other (suc place) h = absurd (omega (arith, h))
last_is-at test (record_ ∷ next ∷ past) other zero h = absurd (omega (arith, h))
last_is-at test (record_ ∷ next ∷ past) other (suc place) h = last_is-at test (next ∷ past) other place (omega (arith, h))

-- of as many passwords as can be, the oldest tells
pub is_full-by_oldest : (past : List PastRecord) (reuse now : ℕ) (other : PastRecord) → length past ≡ most_past
    → is_young reuse now (slice_index_or past (length past - 1) other) ≡ is_full past reuse now
is_full-by_oldest past reuse now other full =
    last_is-at (is_young reuse now) past other (length past - 1) (omega (arith, full))
    ∙ ap (λ n. (n == most_past) && last_is (is_young reuse now) past) (sym full)

-- the first ones of a list, where it may be shorter
pub take_least : {X : Type 0} (n : ℕ) (xs : List X) → take (min (length xs) n) xs ≡ take n xs
take_least n xs = rw (min_comm (length xs) n) (take_min n xs)

-- the records that a password fits, told by themselves or by a list of what fits
is_any-used_of : (fits : PastRecord → Bool) (history : ℕ) (past : List PastRecord)
    → is_any (take history (map fits past)) ≡ list_any fits (take history past)
is_any-used_of fits zero past = refl
is_any-used_of fits (suc history) [] = refl
is_any-used_of fits (suc history) (record_ ∷ past) = ap (λ rest. fits record_ || rest) (is_any-used_of fits history past)

is_young_used-used_of : (fits : PastRecord → Bool) (reuse now : ℕ) (past : List PastRecord)
    → is_young_used reuse now past (map fits past) ≡ list_any (λ record_. is_young reuse now record_ && fits record_) past
is_young_used-used_of fits reuse now [] = refl
is_young_used-used_of fits reuse now (record_ ∷ past) =
    ap (λ rest. (is_young reuse now record_ && fits record_) || rest) (is_young_used-used_of fits reuse now past)

-- the empty password fits no set one
unfit : (stored : Stored) → is_empty stored ≡ false → password_fits stored [] ≡ false
unfit stored.Empty h = cc
unfit (stored.Native digest) h = refl
unfit (stored.Sha2 value) h = refl

unfit-young : (reuse now : ℕ) (record_ : PastRecord) → is_empty record_.stored ≡ false
    → (is_young reuse now record_ && fits_record [] record_) ≡ false
unfit-young reuse now record_ h = ap (λ fits. is_young reuse now record_ && fits) (unfit record_.stored h) ∙ and-false (is_young reuse now record_)

none_fit : (history : ℕ) (past : List PastRecord) → AreSet past → list_any (fits_record []) (take history past) ≡ false
none_fit history past set =
    list_any_none (fits_record []) (take history past)
    (λ k other within. unfit _ (All-take (λ record_. is_empty record_.stored ≡ false) history past set k other within))

none_young : (reuse now : ℕ) (past : List PastRecord) → AreSet past
    → list_any (λ record_. is_young reuse now record_ && fits_record [] record_) past ≡ false
none_young reuse now past set =
    list_any_none (λ record_. is_young reuse now record_ && fits_record [] record_) past
    (λ k other within. unfit-young reuse now _ (set k other within))

pub forbidden_by-use : ForbiddenByUse
forbidden_by-use past history reuse now [] set =
    rw (is_any-used_of (fits_record []) history past, is_young_used-used_of (fits_record []) reuse now past, none_fit history past set, none_young reuse now past set) refl
forbidden_by-use past history reuse now (b ∷ password) set =
    rw (is_any-used_of (fits_record (b ∷ password)) history past, is_young_used-used_of (fits_record (b ∷ password)) reuse now past) refl
