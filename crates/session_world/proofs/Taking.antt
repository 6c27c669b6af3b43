-- A session is put where none of its number is.
use Rattle.std.proofs.Common.{◌≡◌, ap, sym, ◌∙◌, refl, subst, ℕ, ◌==◌, Bool, false, true, cond, Option, Some, arith}
use Rattle.std.specs.BTreeMap.{BTreeMap, get, is_at}
use Rattle.std.specs.Ordering.{nat_cmp}
use Rattle.std.proofs.lemmas.Bool.Decides.{nat_tests}
use Rattle.std.specs.Cmp.{unsigned_tied}
use Rattle.session_world.specs.declared.held.Held.{Held}
use Rattle.session_world.specs.Sessions.{AreBeside, ShowsBeside}
use Rattle.session_world.specs.Worlds.{AreAt, IsAt, Place, Shows, with_place}

swapped : (a b : ℕ) → (a == b) ≡ (b == a)
swapped a b = grind (arith, nat_tests)

at_is : (number other : ℕ) → is_at (nat_cmp number) other ≡ (other == number)
at_is number other = unsigned_tied number other ∙ swapped number other

pub same_number : (a b : ℕ) → (a == b) ≡ true → a ≡ b
same_number a b e = grind (arith, nat_tests, e)

kept_by : (b : Bool) (q number : ℕ) (held : Held) (old new : Option Held) (place : Place) (before : Option Place) → (q == number) ≡ b →
    new ≡ cond b (Some held) old → ShowsBeside b q old before → IsAt number place held →
    Shows q new (cond b (Some place) before)
kept_by true q number held old new place before here e beside at =
    subst (λ (h : Option Held). Shows q h (Some place)) (sym e) (subst (λ (n : ℕ). IsAt n place held) (sym (same_number q number here)) at)
kept_by false q number held old new place before here e beside at = subst (λ (h : Option Held). Shows q h before) (sym e) beside

pub kept : (number : ℕ) (held : Held) (old new : BTreeMap ℕ Held) →
    ((q : ℕ) → get nat_cmp new q ≡ cond (is_at (nat_cmp number) q) (Some held) (get nat_cmp old q)) →
    (places : ℕ → Option Place) (place : Place) → AreBeside number old places → IsAt number place held → AreAt new (with_place places number place)
kept number held old new updates places place beside at q =
    kept_by (q == number) q number held (get nat_cmp old q) (get nat_cmp new q) place (places q) refl
    (updates q ∙ ap (λ (b : Bool). cond b (Some held) (get nat_cmp old q)) (at_is number q)) (beside q) at
