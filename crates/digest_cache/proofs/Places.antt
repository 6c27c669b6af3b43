-- Where a number stands among entries whose numbers rise, and what an entry that is put or taken out there makes of them.
use Rattle.std.proofs.Common.{◌≡◌, refl, sym, ap, ◌∙◌, subst, ℕ, zero, suc, ◌<◌, ◌≤◌, ◌⊎◌, ⊎_elim, Bool, true, false, cond, List, [], ◌∷◌, length, Some, None, Ok, Err, nat_lt, slice_get, slice_index_or, arith, eqb-true}
use Rattle.std.specs.Prelude.{nat_eq, Option, IsSome, is_some}
use Rattle.std.specs.List.{insert, remove, filter}
use Rattle.std.specs.List.Sorted.{IsNonDecreasingBy, IsPartitionedBy, IsPartitionPoint}
use Rattle.std.specs.Map.{lookup}
use Rattle.std.proofs.lemmas.Bool.{cases_lt, eq-eqb}
use Rattle.std.proofs.lemmas.List.Sorted.{IsPartitionedBy-ltb}
use Rattle.std.proofs.lemmas.Option.{slice_get_within}
use Rattle.std.proofs.lemmas.Cmp.{nat_eq_equiv}
use Rattle.std.proofs.lemmas.Map.{lookup-insert, none_passes_from_lookup}
use Rattle.digest_cache.specs.Cache.{IsPlace, Rise, RiseAbove, or_digest, place_of, put_in, taken_out}

abbrev Entries : Type 0
Entries = List (ℕ × List ℕ)

rise : (low : ℕ) (es : Entries) → RiseAbove low es → Rise es
rise low [] h = tt
rise low (e ∷ es) h = h.1

lower : (low first : ℕ) (es : Entries) → low ≤ first → RiseAbove first es → RiseAbove low es
lower low first [] le h = tt
lower low first (e ∷ es) le h = (omega (arith, le, h.0), h.1)

-- ## Tests of numbers

below : (a b : ℕ) → a < b → nat_lt a b ≡ true
below a b h = grind (arith, h)

not_below : (a b : ℕ) → b ≤ a → nat_lt a b ≡ false
not_below a b h = grind (arith, h)

other : (a b : ℕ) → a < b → nat_eq a b ≡ false
other a b h = grind (arith, h)

other_back : (a b : ℕ) → b < a → nat_eq a b ≡ false
other_back a b h = grind (arith, h)

-- ## The place

-- no number is below one that isn't above the first
none_below : (id low : ℕ) (es : Entries) → id ≤ low → RiseAbove low es → place_of id es ≡ 0
none_below id low [] le h = refl
none_below id low (e ∷ es) le h = rw (not_below e.0 id (omega (arith, le, h.0))) (none_below id e.0 es (omega (arith, le, h.0)) h.1)

place_first : (id : ℕ) (e : ℕ × List ℕ) (es : Entries) → id ≤ e.0 → RiseAbove e.0 es → place_of id (e ∷ es) ≡ 0
place_first id e es le h = rw (not_below e.0 id le) (none_below id e.0 es le h)

place_later : (id : ℕ) (e : ℕ × List ℕ) (es : Entries) → e.0 < id → place_of id (e ∷ es) ≡ suc (place_of id es)
place_later id e es lt = rw (below e.0 id lt) refl

-- what a search by halves finds is that place
pub counted : (id : ℕ) (es : Entries) (i : ℕ) → i ≤ length es →
    IsPartitionPoint (λ e. nat_lt e.0 id ≡ true) (λ e. nat_lt e.0 id ≡ false) es i → i ≡ place_of id es
counted id [] i le h = omega arith
counted id (e ∷ es) zero le h =
    rw (h.1 0 e (omega arith) (omega arith)) (counted id es 0 (omega arith) ((λ k d lo hi. absurd (omega (arith, hi))), (λ k d lo hi. h.1 (suc k) d (omega arith) (omega (arith, hi)))))
counted id (e ∷ es) (suc i) le h =
    rw (h.0 0 e (omega arith) (omega arith)) (ap suc (counted id es i (omega (arith, le)) ((λ k d lo hi. h.0 (suc k) d (omega arith) (omega (arith, hi))), (λ k d lo hi. h.1 (suc k) d (omega (arith, lo)) (omega (arith, hi))))))

above_first : (low : ℕ) (es : Entries) (j : ℕ) (d : ℕ × List ℕ) → RiseAbove low es → j < length es → low < (slice_index_or es j d).0
above_first low [] j d h lt = absurd (omega (arith, lt))
above_first low (e ∷ es) zero d h lt = h.0
above_first low (e ∷ es) (suc j) d h lt = let rest = above_first e.0 es j d h.1 (omega (arith, lt)) in omega (arith, rest, h.0)

above_at : (low i : ℕ) (es : Entries) → RiseAbove low es → (e : ℕ × List ℕ) → slice_get es i ≡ Some e → low < e.0
above_at low i [] h e at = absurd (cc)
above_at low zero (f ∷ es) h e at = let is : f ≡ e = cc in subst (λ (x : ℕ × List ℕ). low < x.0) is h.0
above_at low (suc i) (f ∷ es) h e at = let rest = above_at f.0 i es h.1 e at in omega (arith, rest, h.0)

never_fall : (es : Entries) → Rise es → IsNonDecreasingBy (λ e. e.0) es
never_fall [] h i j d le lt = absurd (omega (arith, lt))
never_fall (e ∷ es) h zero zero d le lt = omega arith
never_fall (e ∷ es) h zero (suc j) d le lt = let above = above_first e.0 es j d h (omega (arith, lt)) in omega (arith, above)
never_fall (e ∷ es) h (suc i) zero d le lt = absurd (omega (arith, le))
never_fall (e ∷ es) h (suc i) (suc j) d le lt = never_fall es (rise e.0 es h) i j d (omega (arith, le)) (omega (arith, lt))

pub is_partitioned : (id : ℕ) (es : Entries) → Rise es → IsPartitionedBy (λ e. nat_lt e.0 id) es
is_partitioned id es h = IsPartitionedBy-ltb (λ e. e.0) es id (never_fall es h)

pub within : (id : ℕ) (es : Entries) → place_of id es ≤ length es
within id [] = omega arith
within id (e ∷ es) = ⊎_elim (later (within id es)) (first (within id es)) (cases_lt e.0 id) where
  later : place_of id es ≤ length es → e.0 < id → place_of id (e ∷ es) ≤ length (e ∷ es)
  later rest lt = let p = place_later id e es lt in omega (arith, p, rest)

  first : place_of id es ≤ length es → id ≤ e.0 → place_of id (e ∷ es) ≤ length (e ∷ es)
  first rest le = rw (not_below e.0 id le) (omega (arith, rest))

-- ## What is found there

none_there : (id low : ℕ) (es : Entries) → id ≤ low → RiseAbove low es → lookup (nat_eq id) es ≡ None
none_there id low [] le h = refl
none_there id low (e ∷ es) le h = rw (other id e.0 (omega (arith, le, h.0))) (none_there id e.0 es (omega (arith, le, h.0)) h.1)

-- the digest of an entry that is found at a place, where it has the number
abbrev pub there : ℕ → Option (ℕ × List ℕ) → Option (List ℕ)
there id None = None
there id (Some e) = cond (nat_eq id e.0) (Some e.1) None

-- the entry with a number is the one at its place
pub found : (id : ℕ) (es : Entries) → Rise es → lookup (nat_eq id) es ≡ there id (slice_get es (place_of id es))
found id [] h = refl
found id (e ∷ es) h = ⊎_elim (later (found id es (rise e.0 es h))) first (cases_lt e.0 id) where
  later : lookup (nat_eq id) es ≡ there id (slice_get es (place_of id es)) → e.0 < id →
      lookup (nat_eq id) (e ∷ es) ≡ there id (slice_get (e ∷ es) (place_of id (e ∷ es)))
  later rest lt = rw (place_later id e es lt, other_back id e.0 lt) rest

  first : id ≤ e.0 → lookup (nat_eq id) (e ∷ es) ≡ there id (slice_get (e ∷ es) (place_of id (e ∷ es)))
  first le = rw (place_first id e es le h, none_there id e.0 es le h) refl

-- ## An entry that is put

some_is_none : (digest : List ℕ) → Some digest ≡ None → ⊥
some_is_none digest k = absurd (cc)

-- a number that has no entry isn't that of the first
apart : (id : ℕ) (e : ℕ × List ℕ) (es : Entries) → lookup (nat_eq id) (e ∷ es) ≡ None → id ≤ e.0 → id < e.0
apart id e es none le = ⊎_elim (λ lt. lt) (λ ge. absurd (same (omega (arith, le, ge)))) (cases_lt id e.0) where
  same : id ≡ e.0 → ⊥
  same is = some_is_none e.1 (subst (λ b. cond b (Some e.1) (lookup (nat_eq id) es) ≡ None) (eq-eqb id e.0 is) none)

-- nor is it among the others
none_behind : (id : ℕ) (e : ℕ × List ℕ) (es : Entries) → lookup (nat_eq id) (e ∷ es) ≡ None → e.0 < id → lookup (nat_eq id) es ≡ None
none_behind id e es none lt = subst (λ b. cond b (Some e.1) (lookup (nat_eq id) es) ≡ None) (other_back id e.0 lt) none

put_rise_above : (low id : ℕ) (digest : List ℕ) (es : Entries) → low < id → RiseAbove low es → lookup (nat_eq id) es ≡ None →
    RiseAbove low (insert es (place_of id es) (id, digest))
put_rise_above low id digest [] above h none = (above, tt)
put_rise_above low id digest (e ∷ es) above h none =
    ⊎_elim (later (λ lt. put_rise_above e.0 id digest es lt h.1 (none_behind id e es none lt))) first (cases_lt e.0 id)
  where
    later : (e.0 < id → RiseAbove e.0 (insert es (place_of id es) (id, digest))) → e.0 < id → RiseAbove low (insert (e ∷ es) (place_of id (e ∷ es)) (id, digest))
    later rest lt = rw (place_later id e es lt) (h.0, rest lt)

    first : id ≤ e.0 → RiseAbove low (insert (e ∷ es) (place_of id (e ∷ es)) (id, digest))
    first le = rw (place_first id e es le h.1) (above, (apart id e es none le, h.1))

pub put_rise : (id : ℕ) (digest : List ℕ) (es : Entries) → Rise es → lookup (nat_eq id) es ≡ None → Rise (insert es (place_of id es) (id, digest))
put_rise id digest [] h none = tt
put_rise id digest (e ∷ es) h none = ⊎_elim later first (cases_lt e.0 id) where
  later : e.0 < id → Rise (insert (e ∷ es) (place_of id (e ∷ es)) (id, digest))
  later lt = rw (place_later id e es lt) (put_rise_above e.0 id digest es lt h (none_behind id e es none lt))

  first : id ≤ e.0 → Rise (insert (e ∷ es) (place_of id (e ∷ es)) (id, digest))
  first le = rw (place_first id e es le h) (apart id e es none le, h)

-- and the other numbers keep their digests
pub put_looked : (id q : ℕ) (digest : List ℕ) (es : Entries) (i : ℕ) → lookup (nat_eq id) es ≡ None →
    lookup (nat_eq q) (insert es i (id, digest)) ≡ put_in id digest (λ n. lookup (nat_eq n) es) q
put_looked id q digest es i none =
    lookup-insert nat_eq_equiv id digest q es i (none_passes_from_lookup (nat_eq id) es none) ∙ cases (nat_eq id q) refl
  where
    cases : (b : Bool) → nat_eq id q ≡ b → cond b (Some digest) (lookup (nat_eq q) es) ≡ cond b (or_digest (lookup (nat_eq q) es) digest) (lookup (nat_eq q) es)
    cases true same = let is : id ≡ q = eqb-true id q same in rw (subst (λ n. lookup (nat_eq n) es ≡ None) is none) refl
    cases false differs = refl

-- ## An entry that is taken out

removed_above : (low i : ℕ) (es : Entries) → i < length es → RiseAbove low es → RiseAbove low (remove es i)
removed_above low i [] lt h = absurd (omega (arith, lt))
removed_above low zero (e ∷ es) lt h = lower low e.0 es (omega (arith, h.0)) h.1
removed_above low (suc i) (e ∷ es) lt h = (h.0, removed_above e.0 i es (omega (arith, lt)) h.1)

pub removed_rise : (i : ℕ) (es : Entries) → i < length es → Rise es → Rise (remove es i)
removed_rise i [] lt h = absurd (omega (arith, lt))
removed_rise zero (e ∷ es) lt h = rise e.0 es h
removed_rise (suc i) (e ∷ es) lt h = removed_above e.0 i es (omega (arith, lt)) h

-- the other numbers keep their digests
pub removed : (i id q : ℕ) (digest : List ℕ) (es : Entries) → Rise es → slice_get es i ≡ Some (id, digest) →
    lookup (nat_eq q) (remove es i) ≡ cond (nat_eq id q) None (lookup (nat_eq q) es)
removed i id q digest [] h at = absurd (cc)
removed zero id q digest (e ∷ es) h at = cases (nat_eq id q) refl where
  is : e ≡ (id, digest)
  is = cc

  cases : (b : Bool) → nat_eq id q ≡ b → lookup (nat_eq q) es ≡ cond b None (cond (nat_eq q e.0) (Some e.1) (lookup (nat_eq q) es))
  cases true same = none_there q e.0 es (omega (arith, eqb-true id q same, ap (λ (x : ℕ × List ℕ). x.0) is)) h
  cases false differs = let d : nat_eq q e.0 ≡ false = grind (arith, differs, ap (λ (x : ℕ × List ℕ). x.0) is) in rw d refl
removed (suc i) id q digest (e ∷ es) h at =
    behind (removed i id q digest es (rise e.0 es h) at) (above_at e.0 i es h (id, digest) at)
  where
    behind : lookup (nat_eq q) (remove es i) ≡ cond (nat_eq id q) None (lookup (nat_eq q) es) → e.0 < id →
        cond (nat_eq q e.0) (Some e.1) (lookup (nat_eq q) (remove es i)) ≡ cond (nat_eq id q) None (cond (nat_eq q e.0) (Some e.1) (lookup (nat_eq q) es))
    behind rest lt = cases (nat_eq id q) refl where
      cases : (b : Bool) → nat_eq id q ≡ b → cond (nat_eq q e.0) (Some e.1) (lookup (nat_eq q) (remove es i)) ≡ cond b None (cond (nat_eq q e.0) (Some e.1) (lookup (nat_eq q) es))
      cases true same =
          let d : nat_eq q e.0 ≡ false = grind (arith, eqb-true id q same, lt) in
          rw d (subst (λ b. lookup (nat_eq q) (remove es i) ≡ cond b None (lookup (nat_eq q) es)) same rest)
      cases false differs = ap (λ o. cond (nat_eq q e.0) (Some e.1) o) (subst (λ b. lookup (nat_eq q) (remove es i) ≡ cond b None (lookup (nat_eq q) es)) differs rest)

-- ## What a search comes to

pub found_at : (id : ℕ) (es : Entries) (i : ℕ) (e : ℕ × List ℕ) → Rise es → i ≡ place_of id es → slice_get es i ≡ Some e → e.0 ≡ id → IsPlace id es (Ok i)
found_at id es i e h is at same = (
  is,
  e.1,
  at ∙ ap Some (pair id e same),
  found id es h ∙ ap (there id) (subst (λ n. slice_get es n ≡ Some e) is at) ∙ rw (eq-eqb id e.0 (sym same)) refl,
)
  where
    pair : (n : ℕ) (x : ℕ × List ℕ) → x.0 ≡ n → x ≡ (n, x.1)
    pair n x p = ap (λ (m : ℕ). (m, x.1)) p

pub missed_at : (id : ℕ) (es : Entries) (i : ℕ) (e : ℕ × List ℕ) → Rise es → i ≡ place_of id es → slice_get es i ≡ Some e → nat_eq e.0 id ≡ false → IsPlace id es (Err i)
missed_at id es i e h is at differs =
    let d : nat_eq id e.0 ≡ false = grind (arith, differs) in
    let most = within id es in
    (is, omega (arith, is, most), found id es h ∙ ap (there id) (subst (λ n. slice_get es n ≡ Some e) is at) ∙ rw d refl)

pub missed_past : (id : ℕ) (es : Entries) (i : ℕ) → Rise es → i ≡ place_of id es → slice_get es i ≡ None → IsPlace id es (Err i)
missed_past id es i h is at =
    let most = within id es in
    (is, omega (arith, is, most), found id es h ∙ ap (there id) (subst (λ n. slice_get es n ≡ None) is at))

-- ## What the calls leave

pub put_rises : (id place : ℕ) (digest : List ℕ) (es now : Entries) → Rise es → IsPlace id es (Err place) → now ≡ insert es place (id, digest) → Rise now
put_rises id place digest es now h missed made =
    subst Rise (sym (made ∙ ap (λ n. insert es n (id, digest)) missed.0)) (put_rise id digest es h missed.2)

pub put_looks : (id place : ℕ) (digest : List ℕ) (es now : Entries) (q : ℕ) → IsPlace id es (Err place) → now ≡ insert es place (id, digest) →
    lookup (nat_eq q) now ≡ put_in id digest (λ n. lookup (nat_eq n) es) q
put_looks id place digest es now q missed made = ap (λ l. lookup (nat_eq q) l) made ∙ put_looked id q digest es place missed.2

pub taken_rises : (id place : ℕ) (es now : Entries) → Rise es → IsPlace id es (Ok place) → now ≡ remove es place → Rise now
taken_rises id place es now h at made = subst Rise (sym made) (removed_rise place es (slice_get_within es place (id, at.1) at.2) h)

pub taken_looks : (id place : ℕ) (es now : Entries) (q : ℕ) → Rise es → IsPlace id es (Ok place) → now ≡ remove es place →
    lookup (nat_eq q) now ≡ taken_out id (λ n. lookup (nat_eq n) es) q
taken_looks id place es now q h at made = ap (λ l. lookup (nat_eq q) l) made ∙ removed place id q at.1 es h at.2

-- what isn't there is left as it was
pub none_taken : (id place : ℕ) (es : Entries) (q : ℕ) → IsPlace id es (Err place) → lookup (nat_eq q) es ≡ taken_out id (λ n. lookup (nat_eq n) es) q
none_taken id place es q missed = cases (nat_eq id q) refl where
  cases : (b : Bool) → nat_eq id q ≡ b → lookup (nat_eq q) es ≡ cond b None (lookup (nat_eq q) es)
  cases true same = subst (λ n. lookup (nat_eq n) es ≡ None) (eqb-true id q same) missed.2
  cases false differs = refl

-- ## Room

pub has_room : (o : Option (List ℕ)) (spare : ℕ) → o ≡ None → IsSome o ⊎ (0 < spare) → 0 < spare
has_room o spare none room = ⊎_elim (λ is. absurd (not_true (sym (ap is_some none) ∙ is))) (λ k. k) room where
  not_true : false ≡ true → ⊥
  not_true k = absurd (cc)

pub when_done : (done : Bool) (now made old : Entries) → done ≡ true → now ≡ cond done made old → now ≡ made
when_done done now made old is e = subst (λ b. now ≡ cond b made old) is e
