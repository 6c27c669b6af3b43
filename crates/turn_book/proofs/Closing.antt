-- What the rule says of a book that is taken apart, and of a seat that carries all numbers.
use Rattle.std.proofs.Common.{◌≡◌, ◌≢◌, ℕ, ◌+◌, ◌<◌, ◌^◌, Bool, true, false, List, [], ◌∷◌, ◌++◌, map, length, slice_index, Some, refl, sym, ap, ◌∙◌, subst, arith, append-nil}
use mathlib.Core.Logic.{dite}
use mathlib.Core.Option.{none, some, some-injective}
use mathlib.Core.Option as maybe
use mathlib.Core.List.{map-append}
use native.Mathlib.Decide.{ℕ_discrete}
use lib.ListN.{get_elem?}
use Rattle.atomic_table.specs.Table.{Final, Seen}
use Rattle.atomic_table.proofs.Lists.{at_map}
use Rattle.turn_book.specs.declared.view.Stage.{Stage}
use Rattle.turn_book.specs.declared.view.Stage.TheVariants.{Idle}
use Rattle.turn_book.specs.declared.view.Made.{Made}
use Rattle.turn_book.specs.declared.view.View.{View}
use Rattle.turn_book.specs.Views.{CarriesNumber, CarriesAll, entry_of}
use Rattle.turn_book.specs.Rule.{Turn, log_of, HasTicket, SeatCarries, carried_of, drawn_of, Books, Home, Kept}
use Rattle.turn_book.specs.Book.{HasOpenTurn}
use Rattle.turn_book.proofs.Lists.{at_same, at_shift, unmapped, total_only}
use Rattle.turn_book.proofs.Numbers.{carries_some, carries_longer, all_carried}
use Rattle.turn_book.proofs.Entries.{log_maker, not_true}
use Rattle.turn_book.proofs.Moves.{start_or}

module _ {S E : Type 0} (open_as : S → List E → Type 0) (next serving : ℕ) (first : S) (old : List E) (turns : List (Turn E)) (out : Bool) (owner : ℕ → ℕ) (views : List (View S E)) (k : Books open_as next serving first old turns out owner views) (i : ℕ) (v : View S E) (at : get_elem? views i ≡ some v) (all : CarriesAll v.carried) where
  -- a seat that carries a number is this one
  sole_seat : (j : ℕ) (u : View S E) (n : List ℕ) → get_elem? views j ≡ some u → CarriesNumber u.carried n → j ≡ i
  sole_seat j u n e c =
      let theirs : SeatCarries (map carried_of views) j n c.0 = (u.carried, at_map carried_of views j u e, c.1) in
      let mine = all_carried (map carried_of views) i v.carried (at_map carried_of views i v at) k.family all n j c.0 theirs in
      k.family.sole n j i c.0 mine.0 theirs (v.carried, at_map carried_of views i v at, mine.1)

  same_seat : (j : ℕ) (u : View S E) → get_elem? views j ≡ some u → j ≡ i → u ≡ v
  same_seat j u e is = at_same views i u v (ap (get_elem? views) (sym is) ∙ e) at

  some_number : 0 < length v.carried
  some_number = carries_longer v.carried [] all.0

  none_behind : (others : List (Made E)) → log_of old turns ≡ v.seen ++ others → others ≡ []
  none_behind [] e = refl
  none_behind (m ∷ ms) e =
      let place : get_elem? (log_of old turns) (length v.seen + 0) ≡ some m = ap (λ (l : List (Made E)). get_elem? l (length v.seen + 0)) e ∙ at_shift v.seen (m ∷ ms) 0 in
      let late = (k.each_seat i v at).opening_seen some_number in
      let by = log_maker old turns (length v.seen + 0) m place (omega arith) in
      let h = k.makers (length v.seen + 0) m by.0 place by.1 in
      let is = same_seat h.0 h.1 h.2 (sole_seat h.0 h.1 by.0 h.2 h.3) in
      let l : length h.1.seen ≡ length v.seen = ap (λ (x : View S E). length x.seen) is in
      let short = h.4 in
      absurd (omega arith)

  pub whole_seen : log_of old turns ≡ v.seen
  whole_seen =
      let s = (k.each_seat i v at).seen in
      s.1 ∙ (ap (λ (l : List (Made E)). v.seen ++ l) (none_behind s.0 s.1) ∙ append-nil v.seen)

  pub none_open : v.stage ≡ Idle → serving < next → ⊥
  none_open idle h =
      let u = k.tickets serving (omega arith) h in
      let n = carries_some u.0.carried u.3 in
      let is = same_seat (owner serving) u.0 u.1 (sole_seat (owner serving) u.0 n.0 u.1 n.1) in
      subst (λ (s : Stage). HasTicket s serving) (ap (λ (x : View S E). x.stage) is ∙ idle) u.2

  others_drawn : (j b : ℕ) → j ≢ i → get_elem? (map drawn_of views) j ≡ some b → b ≡ 0
  others_drawn j b ne e =
      let u = unmapped drawn_of views j b e in
      dite (ℕ_discrete (length u.0.carried) 0)
      (λ z. sym u.2 ∙ (k.each_seat j u.0 u.1).none_drawn z)
      (λ nz. let n = carries_some u.0.carried (omega arith) in absurd (ne (sole_seat j u.0 n.0 u.1 n.1)))

  pub all_drawn : v.drawn ≡ next
  all_drawn = sym (total_only (map drawn_of views) i v.drawn (at_map drawn_of views i v at) others_drawn) ∙ k.drawn

module _ {O S E : Type 0} (start : O → S) (entries : O → List E) (open_as : S → List E → Type 0) (id : ℕ) (v : View S E) (ws : List ℕ) (xs : List O) (end : Final (Seen (Kept start entries open_as) id v) ws xs) (a b : ℕ) (at_a : get_elem? ws 0 ≡ some a) (at_b : get_elem? ws 1 ≡ some b) where
  abbrev k : Kept start entries open_as end.0
  k = end.1.0

  abbrev at : get_elem? end.0.views id ≡ some v
  at = end.1.1

  list_is : ws ≡ k.next ∷ k.serving ∷ []
  list_is = sym end.2 ∙ k.words

  next_is : k.next ≡ a
  next_is = some-injective k.next a (ap (λ (l : List ℕ). get_elem? l 0) (sym list_is) ∙ at_a)

  serving_is : k.serving ≡ b
  serving_is = some-injective k.serving b (ap (λ (l : List ℕ). get_elem? l 1) (sym list_is) ∙ at_b)

  pub open_turn : a ≢ b → HasOpenTurn start entries open_as v
  open_turn ne =
      let word0 : slice_index end.0.words 0 ≡ k.next = ap (λ (l : List ℕ). slice_index l 0) k.words in
      let word1 : slice_index end.0.words 1 ≡ k.serving = ap (λ (l : List ℕ). slice_index l 1) k.words in
      let apart : k.serving ≢ k.next = (λ e. ne (sym next_is ∙ (sym e ∙ serving_is))) in
      let order = k.books.order in
      (end.0, id, k, at, omega arith)

  at_home : a ≡ b → (y : O) × (end.0.homes ≡ some y ∷ []) × (entries y ≡ map entry_of (log_of k.old k.turns)) × (start y ≡ k.first)
  at_home e =
      let home : k.out ≡ false = not_true k.out (λ o. let h = k.books.busy o in let n = next_is in let s = serving_is in omega arith) in
      subst (λ (o : Bool). Home start entries o k.first (log_of k.old k.turns) end.0.homes) home k.home

  object_is : (e : a ≡ b) (x : O) → get_elem? xs 0 ≡ some x → (at_home e).0 ≡ x
  object_is e x h =
      let y = (at_home e).0 in
      some-injective y x (sym (end.4 0 y (ap (λ (hs : List (maybe.Option O)). get_elem? hs 0) (at_home e).1)) ∙ h)

  pub object_stands : (x : O) → get_elem? xs 0 ≡ some x → a ≡ b → (rest : List E) × (entries x ≡ map entry_of v.seen ++ rest)
  object_stands x h e =
      let home = at_home e in
      let seen = (k.books.each_seat id v at).seen in
      (map entry_of seen.0, ap entries (sym (object_is e x h)) ∙ (home.2 ∙ (ap (map entry_of) seen.1 ∙ map-append entry_of v.seen seen.0)))

  pub object_began : (x : O) (s : S) → get_elem? xs 0 ≡ some x → a ≡ b → 0 < length v.carried → v.start ≡ Some s → start x ≡ s
  object_began x s h e some_number_ is =
      let home = at_home e in
      ap start (sym (object_is e x h)) ∙ (home.3 ∙ ap (start_or k.first) (sym ((k.books.each_seat id v at).start some_number_) ∙ is))

  pub object_whole : (x : O) → get_elem? xs 0 ≡ some x → a ≡ b → CarriesAll v.carried → entries x ≡ map entry_of v.seen
  object_whole x h e all =
      ap entries (sym (object_is e x h)) ∙ ((at_home e).2 ∙ ap (map entry_of) (whole_seen open_as k.next k.serving k.first k.old k.turns k.out k.owner end.0.views k.books id v at all))

  pub never_open : CarriesAll v.carried → v.stage ≡ Idle → a ≡ b
  never_open all idle =
      let closed = none_open open_as k.next k.serving k.first k.old k.turns k.out k.owner end.0.views k.books id v at all idle in
      let order = k.books.order in
      let n = next_is in
      let s = serving_is in
      dite (ℕ_discrete a b) (λ e. e) (λ ne. absurd (closed (omega arith)))

  pub ended_drawn : CarriesAll v.carried → v.ended ≡ true → v.drawn ≡ 2 ^ 62
  ended_drawn all e =
      all_drawn open_as k.next k.serving k.first k.old k.turns k.out k.owner end.0.views k.books id v at all ∙ (k.books.each_seat id v at).ended e
