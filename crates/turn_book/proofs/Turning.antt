-- A whole turn, put together of its steps; a meeting; and a seat at rest.
use Rattle.std.proofs.Common.{◌≡◌, ◌⊎◌, ℕ, ◌<◌, true, false, List, [], ◌∷◌, ◌++◌, map, length, drop, Option, Some, None, Result, Ok, Err, option_to_list, refl, sym, ap, ◌∙◌, subst, inl, inr, ⊎_elim, arith, append-nil}
use lib.ListN.{length-map}
use Rattle.lg_base.specs.declared.allocation.Memory.{Memory}
use Rattle.turn_book.specs.declared.view.Stage.{Stage}
use Rattle.turn_book.specs.declared.view.Stage.TheVariants.{Idle, Waiting, Holding}
use Rattle.turn_book.specs.declared.view.Made.{Made}
use Rattle.turn_book.specs.declared.view.View.{View}
use Rattle.turn_book.specs.Views.{is_idle, Extends, NoneBy, entry_of, made_from, mine, met, waiting, holding, resting, turned, both, longer}
use Rattle.turn_book.specs.Steps.{Sat, Took, Follows, Meeting}
use Rattle.turn_book.specs.Book.{TookTurn, Joined, IsPassed, Applied}
use Rattle.turn_book.proofs.Lists.{drop_front}
use Rattle.turn_book.proofs.Entries.{off, longer_left, longer_right, longer_extends, made_on, mine_turned}

pub idle_is : (s : Stage) → is_idle s ≡ true → s ≡ Idle
idle_is Idle e = refl
idle_is (Waiting t) e = absurd (off e)
idle_is (Holding t) e = absurd (off e)

pub is_idle_of : (s : Stage) → s ≡ Idle → is_idle s ≡ true
is_idle_of s e = ap is_idle e

pub empty_is : {A : Type 0} (xs : List A) → length xs ≡ 0 → xs ≡ []
empty_is [] e = refl
empty_is (x ∷ xs) e = absurd (omega arith)

module _ {S E : Type 0} where
  pub joined_of : (v u w : View S E) → w ≡ both v u → Meeting (both v u).one (both v u).two → Joined v u w
  joined_of v u w after meeting =
      let comparable : Extends v.seen u.seen ⊎ Extends u.seen v.seen =
      ⊎_elim (λ (f : Follows (met v) u.seen). inl (f.0, f.1)) (λ (f : Follows (met u) v.seen). inr (f.0, f.1)) meeting.0 in
      let facts = longer_extends v.seen u.seen comparable in
      let seen_is : w.seen ≡ longer v.seen u.seen = ap (λ (x : View S E). x.seen) after in
      let made : (made_from 0 v.carried (longer v.seen u.seen) ≡ mine v) × (made_from 0 u.carried (longer v.seen u.seen) ≡ mine u) =
      ⊎_elim
      (λ (f : Follows (met v) u.seen).
      let is : longer v.seen u.seen ≡ u.seen = ap (longer v.seen) f.1 ∙ (longer_left v.seen f.0 ∙ sym f.1) in
      (ap (made_from 0 v.carried) (is ∙ f.1) ∙ made_on v.carried v.seen f.0 f.2, ap (made_from 0 u.carried) is))
      (λ (f : Follows (met u) v.seen).
      let is : longer v.seen u.seen ≡ v.seen = ap (λ (l : List (Made E)). longer l u.seen) f.1 ∙ (longer_right u.seen f.0 ∙ sym f.1) in
      (ap (made_from 0 v.carried) is, ap (made_from 0 u.carried) (is ∙ f.1) ∙ made_on u.carried u.seen f.0 f.2))
      meeting.0 in
      record {
        after = after;
        one = (facts.0.0, seen_is ∙ facts.0.1);
        two = (facts.1.0, seen_is ∙ facts.1.1);
        longest = ⊎_elim (λ (e : longer v.seen u.seen ≡ v.seen). inl (seen_is ∙ e)) (λ (e : longer v.seen u.seen ≡ u.seen). inr (seen_is ∙ e)) facts.2;
        one_made = ap (made_from 0 v.carried) seen_is ∙ made.0;
        two_made = ap (made_from 0 u.carried) seen_is ∙ made.1;
        apart = meeting.1;
      }

module _ {O S E : Type 0} (start : O → S) (entries : O → List E) (open_as : S → List E → Type 0) where
  module _ {C R : Type 0} (makes : S → List E → C → R → Option E) (answers : S → List E → C → C → R → Type 0) (refused : S → List E → C → C → Type 0) (y : O) (call call' : C) (z : O) where
    -- the entry that a call added, or none
    pub applied_entry : (r : Result R Memory) → Applied start entries makes answers refused y call call' z r
        → (start z ≡ start y) × ((x : Option E) × (entries z ≡ entries y ++ option_to_list x))
    applied_entry (Ok r) a = (a.0, (makes (start y) (entries y) call' r, a.1))
    applied_entry (Err e) a = (a.0, (None, a.1 ∙ sym (append-nil (entries y))))

  module _ (t : ℕ) (v : View S E) (m n : Sat O S E) (drawn : m ≡ (waiting t v, [])) (took : Took start entries open_as t m n) (z : O) where
    view_is : n.0 ≡ holding t took.others (waiting t v)
    view_is = ap (λ (x : Sat O S E). x.0) took.now ∙ ap (λ (x : Sat O S E). holding t took.others x.0) drawn

    stands : entries took.object ≡ map entry_of (v.seen ++ took.others)
    stands = took.stands ∙ ap (λ (x : Sat O S E). map entry_of (x.0.seen ++ took.others)) drawn

    pub list_before : entries took.object ≡ map entry_of (v.seen ++ took.others)
    list_before = stands

    pub start_before : v.start ≡ Some (start took.object)
    start_before = ap (λ (x : Sat O S E). x.0.start) (sym drawn) ∙ took.begun

    -- the seat may pass its turn on
    pub may_pass : (p : View S E) → p ≡ n.0 → 0 < length v.carried → start z ≡ start took.object → (x : Option E) → entries z ≡ entries took.object ++ option_to_list x → IsPassed start entries t p z
    may_pass p is some_number same x grown =
        let p_is : p ≡ holding t took.others (waiting t v) = is ∙ view_is in (
          ap (λ (w : View S E). w.stage) p_is,
          (let l : length p.carried ≡ length v.carried = ap (λ (w : View S E). length w.carried) p_is in omega arith),
          ap (λ (w : View S E). w.start) p_is ∙ (start_before ∙ ap (λ (s : S). Some s) (sym same)),
          (x, grown ∙ ap (λ (l : List E). l ++ option_to_list x) (stands ∙ ap (λ (w : View S E). map entry_of w.seen) (sym p_is))),
        )

    pub turn_over : (p q : Sat O S E) → p.0 ≡ n.0 → (x : Option E) → entries z ≡ entries took.object ++ option_to_list x → q ≡ (resting (entries z) p.0, []) → 0 < length v.carried → v.ended ≡ false
        → TookTurn v took.others (option_to_list x) q.0
    turn_over p q is x grown passed some_number going =
        let before : List (Made E) = v.seen ++ took.others in
        let l : length before ≡ length (map entry_of before) = sym (length-map before entry_of) in
        let own : drop (length before) (entries z) ≡ option_to_list x =
        ap (drop (length before)) (grown ∙ ap (λ (k : List E). k ++ option_to_list x) stands)
        ∙ (ap (λ (k : ℕ). drop k (map entry_of before ++ option_to_list x)) l ∙ drop_front (map entry_of before) (option_to_list x)) in
        let after : q.0 ≡ turned took.others (option_to_list x) v =
        ap (λ (k : Sat O S E). k.0) passed
        ∙ (ap (resting (entries z)) (is ∙ view_is)
        ∙ ap (λ (k : List E). turned took.others k v) own) in
        let none_own : NoneBy v.carried took.others = subst (λ (k : Sat O S E). NoneBy k.0.carried took.others) drawn took.none_own in
        record {
          after = after;
          own = ap mine after ∙ mine_turned v took.others (option_to_list x) some_number none_own;
          none_own = none_own;
          open_book = going;
        }
