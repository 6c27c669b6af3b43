-- One to three pieces of evidence all fit where each of the three places fits as far as there is evidence.
use Rattle.std.proofs.Common.{◌≡◌, refl, ℕ, ◌≤◌, ◌&&◌, ◌||◌, Bool, true, false, nat_lt, List, [], ◌∷◌, length, Option, Some, None, arith, slice_get, take}
use Rattle.factor_chain.specs.declared.credentials.InForce.{InForce}
use Rattle.factor_chain.specs.declared.evidence_list.Evidence.{Evidence}
use Rattle.factor_chain.specs.declared.evidence_list.Fit.{Fit}
use Rattle.std.specs.List.{list_all}
use Rattle.factor_chain.specs.Checking.{all_fit_of, fit_of, is_fit}

-- the fits at the three places
abbrev pub three_fits : Option InForce → List Evidence → List Fit
three_fits account evidences =
    fit_of account (slice_get evidences 0) 0 ∷ fit_of account (slice_get evidences 1) 1 ∷ fit_of account (slice_get evidences 2) 2 ∷ []

pub three_fits-all : (account : Option InForce) (evidences : List Evidence) → 1 ≤ length evidences → length evidences ≤ 3
    → list_all is_fit (take (length evidences) (three_fits account evidences)) ≡ all_fit_of account evidences
three_fits-all account [] some few = absurd (omega arith)
three_fits-all None (first ∷ []) some few = refl
three_fits-all None (first ∷ second ∷ []) some few = refl
three_fits-all None (first ∷ second ∷ third ∷ []) some few = refl
three_fits-all (Some account) (first ∷ []) some few = refl
three_fits-all (Some account) (first ∷ second ∷ []) some few = refl
three_fits-all (Some account) (first ∷ second ∷ third ∷ []) some few = refl
three_fits-all None (first ∷ second ∷ third ∷ fourth ∷ rest) some few = absurd (omega arith)
three_fits-all (Some account) (first ∷ second ∷ third ∷ fourth ∷ rest) some few = absurd (omega arith)
