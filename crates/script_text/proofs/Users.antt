-- Accounts with one more.
use Rattle.std.proofs.Common.{◌≡◌, ℕ, Bool, true, false, cond, not, ◌&&◌, ◌||◌, List, [], ◌∷◌, ◌++◌, Vec, refl, sym, ap, ◌∙◌, arith}
use Rattle.std.specs.declared.alloc.Global.{Global}
use Rattle.std.specs.BTreeSet.{BTreeSet, Updates, contains}
use Rattle.std.specs.Cmp.Lexicographic.{slice_cmp}
use Rattle.std.specs.Ordering.{nat_cmp}
use Rattle.std.specs.List.{list_any}
use Rattle.std.specs.Str.{bytes_eq}
use Rattle.std.specs.Prelude.{nat_eq}
use Rattle.std.proofs.lemmas.List.Folds.{list_any-append}
use Rattle.std.proofs.lemmas.Map.Text.{is_eq-slice_cmp}
use Rattle.std.proofs.lemmas.Bool.Decides.{nat_tests}
use Rattle.account_history.specs.declared.entries.Opening.{Opening}
use Rattle.account_machine.specs.Openings.{are_openings, is_opening}
use Rattle.script_text.specs.Reading.{is_used}
use Rattle.script_text.specs.Users.{HoldsUsers}

nat_eq-swap : (m n : ℕ) → nat_eq m n ≡ nat_eq n m
nat_eq-swap m n = grind (arith, nat_tests)

pub bytes_eq-swap : (xs ys : List ℕ) → bytes_eq xs ys ≡ bytes_eq ys xs
bytes_eq-swap [] [] = refl
bytes_eq-swap [] (y ∷ ys) = refl
bytes_eq-swap (x ∷ xs) [] = refl
bytes_eq-swap (x ∷ xs) (y ∷ ys) =
    ap (λ (b : Bool). b && bytes_eq xs ys) (nat_eq-swap x y) ∙ ap (λ (b : Bool). nat_eq y x && b) (bytes_eq-swap xs ys)

-- three tests that hold
pub all_three : (a b c : Bool) → (a && not b && c) ≡ true → (a ≡ true) × (b ≡ false) × (c ≡ true)
all_three true false true h = (refl, refl, refl)
all_three true false false h = cc
all_three true true c h = cc
all_three false b c h = cc

pub neither : (a b : Bool) → (a || b) ≡ false → (a ≡ false) × (b ≡ false)
neither true b h = cc
neither false b h = (refl, h)

absent : (b : Bool) → not b ≡ true → b ≡ false
absent true h = cc
absent false h = refl

-- a user that isn't in the set
pub fresh-user : (xs : List Opening) (user : List ℕ) (key : Vec ℕ Global) (users : BTreeSet (Vec ℕ Global))
    → HoldsUsers xs users → key.items ≡ user → not (contains (λ (x y : Vec ℕ Global). slice_cmp nat_cmp x.items y.items) users key) ≡ true → is_used user xs ≡ false
fresh-user xs user key users holds k n =
    sym (ap (λ (bytes : List ℕ). is_used bytes xs) k) ∙ sym (holds.same key)
    ∙ absent (contains (λ (x y : Vec ℕ Global). slice_cmp nat_cmp x.items y.items) users key) n

pub openings-more : (xs : List Opening) (x : Opening) → are_openings xs ≡ true → is_opening x ≡ true → is_used x.user xs ≡ false → are_openings (xs ++ x ∷ []) ≡ true
openings-more [] x h o u = ap (λ (b : Bool). b && true && true) o
openings-more (y ∷ ys) x h o u =
    let parts = all_three (is_opening y) (list_any (λ other. bytes_eq y.user other.user) ys) (are_openings ys) h in
    let apart = neither (bytes_eq x.user y.user) (is_used x.user ys) u in
    let fresh : list_any (λ other. bytes_eq y.user other.user) (ys ++ x ∷ []) ≡ false =
    list_any-append (λ (other : Opening). bytes_eq y.user other.user) ys (x ∷ [])
    ∙ ap (λ (b : Bool). b || (bytes_eq y.user x.user || false)) parts.1
    ∙ ap (λ (b : Bool). b || false) (bytes_eq-swap y.user x.user ∙ apart.0) in
    ap (λ (b : Bool). b && not (list_any (λ other. bytes_eq y.user other.user) (ys ++ x ∷ [])) && are_openings (ys ++ x ∷ [])) parts.0
    ∙ ap (λ (b : Bool). true && not b && are_openings (ys ++ x ∷ [])) fresh
    ∙ openings-more ys x parts.2 o apart.1

either : (b c : Bool) → cond b true c ≡ (c || (b || false))
either true true = refl
either true false = refl
either false true = refl
either false false = refl

-- the set of users with one more
pub users-more : (xs : List Opening) (x : Opening) (key : Vec ℕ Global) (old new : BTreeSet (Vec ℕ Global))
    → HoldsUsers xs old → Updates (λ (x y : Vec ℕ Global). slice_cmp nat_cmp x.items y.items) old new key true
    → key.items ≡ x.user → is_opening x ≡ true → is_used x.user xs ≡ false → HoldsUsers (xs ++ x ∷ []) new
users-more xs x key old new holds updates k o u = record {
  distinct = openings-more xs x holds.distinct o u;
  same = λ user.
      updates.0 user
      ∙ ap (λ (b : Bool). cond b true (contains (λ (x y : Vec ℕ Global). slice_cmp nat_cmp x.items y.items) old user))
      (is_eq-slice_cmp key.items user.items ∙ bytes_eq-swap key.items user.items ∙ ap (λ bytes. bytes_eq user.items bytes) k)
      ∙ ap (λ (b : Bool). cond (bytes_eq user.items x.user) true b) (holds.same user)
      ∙ either (bytes_eq user.items x.user) (is_used user.items xs)
      ∙ sym (list_any-append (λ (other : Opening). bytes_eq user.items other.user) xs (x ∷ []));
}
