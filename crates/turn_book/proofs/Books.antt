-- Each step keeps the books: lemmas on what the seats know, apart from the table.
use Rattle.std.proofs.Common.{◌≡◌, ◌≢◌, ◌⊎◌, ℕ, suc, ◌+◌, ◌<◌, ◌≤◌, ◌^◌, Bool, true, false, cond, eqb, List, [], ◌∷◌, ◌++◌, map, length, drop, set, Option, Some, None, refl, sym, ap, ◌∙◌, subst, inl, inr, ⊎_elim, arith, eq-eqb, ne_eqb, length-append, append_assoc, append-nil}
use mathlib.Core.Logic.{dite}
use mathlib.Core.Option.{some}
use mathlib.Core.List.{map-append}
use native.Mathlib.Decide.{ℕ_discrete}
use lib.ListN.{get_elem?, length-map}
use lib.Seq.{map-set}
use Rattle.atomic_table.proofs.Lists.{at_set, set_else, set_again, at_longer, at_last, at_map}
use Rattle.turn_book.specs.declared.view.Stage.{Stage}
use Rattle.turn_book.specs.declared.view.Stage.TheVariants.{Idle, Waiting, Holding}
use Rattle.turn_book.specs.declared.view.Branch.{Branch}
use Rattle.turn_book.specs.declared.view.Made.{Made}
use Rattle.turn_book.specs.declared.view.View.{View}
use Rattle.turn_book.specs.Views.{branch, number_of, Carries, CarriesNumber, Apart, split_once, next_number, unsigned, Extends, NoneBy, by_any, longer, nothing_met, first_view, opened_at, finished, waiting, holding, left, right, met, both, spent_view, left_behind}
use Rattle.turn_book.specs.Steps.{Follows, Meeting}
use Rattle.turn_book.specs.Rule.{Turn, a_turn, made_in, log_of, total, Distinct, SeatCarries, Family, HasTicket, carried_of, drawn_of, Makers, StageFits, SeatFits, Books}
use Rattle.turn_book.proofs.Lists.{at_same, at_here, at_bound, at_split, at_shift, at_one, comparable, total_set, total_snoc, drop_front}
use Rattle.turn_book.proofs.Numbers.{carries_left, carries_right, join_apart, join_family, hand_family, split_family}
use Rattle.turn_book.proofs.Entries.{not_true, off, or_either, by_any_is, none_by, own_is_carried, none_front, longer_extends, log_more, made_in_by, unsigned_maker, idle_turns, idle_made, idle_count}

-- the owners of tickets, where the seat i has drawn the ticket n
abbrev pub granted : (ℕ → ℕ) → ℕ → ℕ → ℕ → ℕ
granted owner n i t = cond (eqb t n) i (owner t)

granted_here : (owner : ℕ → ℕ) (n i t : ℕ) → t ≡ n → granted owner n i t ≡ i
granted_here owner n i t e = ap (λ (b : Bool). cond b i (owner t)) (eq-eqb t n e)

granted_else : (owner : ℕ → ℕ) (n i t : ℕ) → t ≢ n → granted owner n i t ≡ owner t
granted_else owner n i t ne = ap (λ (b : Bool). cond b i (owner t)) (ne_eqb t n ne)

no_meeting : {E : Type 0} → Meeting {E = E} nothing_met nothing_met
no_meeting = (inl ([], refl, tt {0}), λ n a b. a.1)

abbrev named_or : Option (List ℕ) → List ℕ
named_or None = []
named_or (Some n) = n

abbrev is_named : Option (List ℕ) → Bool
is_named None = false
is_named (Some n) = true

once_length : (bs : List Branch) → length (split_once bs) ≡ length bs
once_length [] = refl
once_length (b ∷ bs) = refl

carries_once : (bs : List Branch) (n : List ℕ) → CarriesNumber bs n → CarriesNumber (split_once bs) n
carries_once [] n c = c
carries_once (b ∷ bs) n c = ⊎_elim
    (λ (h : (b.number ≡ n) × (b.splits ≡ c.0)). (suc b.splits, inl (h.0, refl)))
    (λ (t : Carries bs n c.0). (c.0, inr t))
    c.1

-- a seat's fact after the view of one seat was changed
module _ {S E : Type 0} where
  pub seats_set : (K : ℕ → View S E → Type 0) (views : List (View S E)) (i : ℕ) (w : View S E)
      → K i w → ((j : ℕ) (u : View S E) → j ≢ i → get_elem? views j ≡ some u → K j u)
      → (j : ℕ) (u : View S E) → get_elem? (set views i w) j ≡ some u → K j u
  seats_set K views i w mine others j u e = ⊎_elim
      (λ (t : (j ≡ i) × (w ≡ u)). subst (λ (x : ℕ × View S E). K x.0 x.1) (λ k. (sym t.0 k, t.1 k)) mine)
      (λ (t : (j ≢ i) × (get_elem? views j ≡ some u)). others j u t.0 t.1)
      (at_set views i j w u e)

  pub seats_more : (K : ℕ → View S E → Type 0) (views : List (View S E)) (x : View S E)
      → ((j : ℕ) (u : View S E) → get_elem? views j ≡ some u → K j u) → K (length views) x
      → (j : ℕ) (u : View S E) → get_elem? (views ++ x ∷ []) j ≡ some u → K j u
  seats_more K views x old new j u e = ⊎_elim
      (λ (l : get_elem? views j ≡ some u). old j u l)
      (λ (r : (q : ℕ) × (j ≡ length views + q) × (get_elem? (x ∷ []) q ≡ some u)).
      let o = at_one x r.0 u r.2 in
      let last : length views ≡ j = (let a = r.1 in let b = o.0 in omega arith) in
      subst (λ (y : ℕ × View S E). K y.0 y.1) (λ z. (last z, o.1 z)) new)
      (at_split views (x ∷ []) j u e)

  -- a number that a seat carries goes on at a seat that has seen as much
  abbrev pub GoesOn : List (View S E) → List (View S E) → Type 0
  GoesOn views views' = (i : ℕ) (v : View S E) (n : List ℕ) → get_elem? views i ≡ some v → CarriesNumber v.carried n
      → (j : ℕ) × (w : View S E) × (get_elem? views' j ≡ some w) × CarriesNumber w.carried n × (length v.seen ≤ length w.seen)

  pub makers_on : (views views' : List (View S E)) (log : List (Made E)) → GoesOn views views' → Makers views log → Makers views' log
  makers_on views views' log on makers p m n e by =
      let h = makers p m n e by in
      let t = on h.0 h.1 n h.2 h.3 in
      (t.0, t.1, t.2, t.3, (let a = h.4 in let b = t.4 in omega arith))

  pub goes_set : (views : List (View S E)) (i : ℕ) (v w : View S E) → get_elem? views i ≡ some v → w.carried ≡ v.carried → length v.seen ≤ length w.seen → GoesOn views (set views i w)
  goes_set views i v w at same more j u n e c = dite (ℕ_discrete j i)
      (λ z. let is : u ≡ v = at_same views i u v (ap (get_elem? views) (sym z) ∙ e) at in
      (i, w, at_here views i v w at, subst (λ (bs : List Branch). CarriesNumber bs n) (ap carried_of is ∙ sym same) c, (let l : length u.seen ≡ length v.seen = ap (λ (x : View S E). length x.seen) is in omega arith)))
      (λ ne. (j, u, set_else views i j w ne ∙ e, c, omega arith))

  pub carried_set : (views : List (View S E)) (i : ℕ) (v w : View S E) → get_elem? views i ≡ some v → w.carried ≡ v.carried → map carried_of (set views i w) ≡ map carried_of views
  carried_set views i v w at same = map-set carried_of views i w ∙ (ap (set (map carried_of views) i) same ∙ set_again (map carried_of views) i v.carried (at_map carried_of views i v at))

  pub drawn_set : (views : List (View S E)) (i : ℕ) (v w : View S E) → get_elem? views i ≡ some v → total (map drawn_of (set views i w)) + v.drawn ≡ total (map drawn_of views) + w.drawn
  drawn_set views i v w at = ap (λ (l : List ℕ). total l + v.drawn) (map-set drawn_of views i w) ∙ total_set (map drawn_of views) i v.drawn w.drawn (at_map drawn_of views i v at)

  module _ (opening : S → List E → Type 0) (next serving : ℕ) (first : S) (old : List E) (turns : List (Turn E)) (out : Bool) (owner : ℕ → ℕ) (views : List (View S E)) (k : Books opening next serving first old turns out owner views) (i : ℕ) (v : View S E) (at : get_elem? views i ≡ some v) where
    abbrev pub log : List (Made E)
    log = log_of old turns

    abbrev pub Fits : ℕ → View S E → Type 0
    Fits = SeatFits next serving first old log out owner

    abbrev pub fits : Fits i v
    fits = k.each_seat i v at

    -- the seat's ticket, where the ticket's owner is the seat
    own_ticket : (t : ℕ) (u : View S E) → owner t ≡ i → get_elem? views (owner t) ≡ some u → HasTicket u.stage t → HasTicket v.stage t
    own_ticket t u e a h = subst (λ (s : Stage). HasTicket s t) (ap (λ (x : View S E). x.stage) (at_same views i u v (ap (get_elem? views) (sym e) ∙ a) at)) h

    no_ticket : v.stage ≡ Idle → (t : ℕ) (u : View S E) → get_elem? views (owner t) ≡ some u → HasTicket u.stage t → owner t ≢ i
    no_ticket idle t u a h e = subst (λ (s : Stage). HasTicket s t) idle (own_ticket t u e a h)

    -- what a ticket of another seat, or of this one, becomes
    abbrev pub Ticket : List (View S E) → ℕ → ℕ → Type 0
    Ticket vs j t = (u : View S E) × (get_elem? vs j ≡ some u) × HasTicket u.stage t × (0 < length u.carried)

    ticket_set : (w : View S E) (t : ℕ) → (HasTicket v.stage t → HasTicket w.stage t) → w.carried ≡ v.carried → Ticket views (owner t) t → Ticket (set views i w) (owner t) t
    ticket_set w t on same h = dite (ℕ_discrete (owner t) i)
        (λ e. let is : h.0 ≡ v = at_same views i h.0 v (ap (get_elem? views) (sym e) ∙ h.1) at in
        (w, ap (get_elem? (set views i w)) e ∙ at_here views i v w at, on (own_ticket t h.0 e h.1 h.2), (let a = h.3 in let b : length w.carried ≡ length h.0.carried = ap length same ∙ sym (ap (λ (x : View S E). length x.carried) is) in omega arith)))
        (λ ne. (h.0, set_else views i (owner t) w ne ∙ h.1, h.2, h.3))

    -- a step that changes nothing that others know of the seat
    pub quiet : (w : View S E) → w.carried ≡ v.carried → w.drawn ≡ v.drawn → w.seen ≡ v.seen → (HasTicket v.stage ≡ HasTicket w.stage) → Fits i w → Books opening next serving first old turns out owner (set views i w)
    quiet w carried drawn seen stage mine = record {
      order = k.order;
      low = k.low;
      busy = k.busy;
      opened = k.opened;
      counted = k.counted;
      drawn = (let a = drawn_set views i v w at in let b = k.drawn in let x : ℕ = total (map drawn_of (set views i w)) in let y : ℕ = total (map drawn_of views) in let a' : x + v.drawn ≡ y + w.drawn = a in let b' : y ≡ next = b in let goal : x ≡ next = omega arith in goal);
      tickets = λ t from to. ticket_set w t (λ h. subst (λ (P : ℕ → Type 0). P t) stage h) carried (k.tickets t from to);
      each_seat = seats_set Fits views i w mine (λ j u ne e. k.each_seat j u e);
      family = subst Family (sym (carried_set views i v w at carried)) k.family;
      makers = makers_on views (set views i w) log (goes_set views i v w at carried (let l : length w.seen ≡ length v.seen = ap length seen in omega arith)) k.makers;
    }

    -- the seat sees that no turn is left
    pub ends : next ≡ 2 ^ 62 → Books opening next serving first old turns out owner (set views i (finished v))
    ends e = quiet (finished v) refl refl refl refl record {
      seen = fits.seen;
      stage = fits.stage;
      ended = λ _. e;
      start = fits.start;
      opening_seen = fits.opening_seen;
      none_drawn = fits.none_drawn;
      meeting = fits.meeting;
    }

    -- the seat draws the next ticket
    stage_drawn : (j : ℕ) (seen : List (Made E)) (s : Stage) → StageFits next serving first old log out owner j seen s → StageFits (next + 1) serving first old log out (granted owner next i) j seen s
    stage_drawn j seen Idle h = tt {0}
    stage_drawn j seen (Waiting t) h = (h.0, (let a = h.1 in omega arith), granted_else owner next i t (λ e. let a = h.1 in omega arith) ∙ h.2, h.3)
    stage_drawn j seen (Holding t) h = (h.0, (let a = h.1 in omega arith), granted_else owner next i t (λ e. let a = h.1 in omega arith) ∙ h.2, h.3, h.4)

    drawn_fits : next < 2 ^ 62 → (j : ℕ) (u : View S E) → Fits j u → SeatFits (next + 1) serving first old log out (granted owner next i) j u
    drawn_fits low j u f = record {
      seen = f.seen;
      stage = stage_drawn j u.seen u.stage f.stage;
      ended = λ e. absurd (let h : next ≡ 2 ^ 62 = f.ended e in omega arith);
      start = f.start;
      opening_seen = f.opening_seen;
      none_drawn = f.none_drawn;
      meeting = f.meeting;
    }

    pub not_ended : next < 2 ^ 62 → v.ended ≡ false
    not_ended low = not_true v.ended (λ e. let h : next ≡ 2 ^ 62 = fits.ended e in omega arith)

    pub draws : next < 2 ^ 62 → v.stage ≡ Idle → 0 < length v.carried → Books opening (next + 1) serving first old turns out (granted owner next i) (set views i (waiting next v))
    draws low idle some_number =
        let w : View S E = waiting next v in record {
          order = (let a = k.order in omega arith);
          low = omega arith;
          busy = λ o. (let a = k.busy o in omega arith);
          opened = k.opened;
          counted = k.counted;
          drawn = (let a = drawn_set views i v w at in let x : ℕ = total (map drawn_of (set views i w)) in let y : ℕ = total (map drawn_of views) in let d : ℕ = v.drawn in let a' : x + d ≡ y + (d + 1) = a in let b' : y ≡ next = k.drawn in let goal : x ≡ next + 1 = omega arith in goal);
          tickets = λ t from to. dite (ℕ_discrete t next)
              (λ e. (w, ap (get_elem? (set views i w)) (granted_here owner next i t e) ∙ at_here views i v w at, sym e, some_number))
              (λ ne. let h = k.tickets t from (omega arith) in
              (h.0, ap (get_elem? (set views i w)) (granted_else owner next i t ne) ∙ (set_else views i (owner t) w (no_ticket idle t h.0 h.1 h.2) ∙ h.1), h.2, h.3));
          each_seat = seats_set (SeatFits (next + 1) serving first old log out (granted owner next i)) views i w
              record {
                seen = fits.seen;
                stage = (k.order, omega arith, granted_here owner next i next refl, λ e. not_true out (λ o. let a = k.busy o in omega arith));
                ended = λ e. absurd (let h : next ≡ 2 ^ 62 = fits.ended e in omega arith);
                start = fits.start;
                opening_seen = fits.opening_seen;
                none_drawn = λ z. absurd (omega arith);
                meeting = fits.meeting;
              }
              (λ j u ne e. drawn_fits low j u (k.each_seat j u e));
          family = subst Family (sym (carried_set views i v w at refl)) k.family;
          makers = makers_on views (set views i w) log (goes_set views i v w at refl (omega arith)) k.makers;
        }

    -- the seat takes the object: it has then seen the whole history
    others_own : (p : ℕ) (m : Made E) → get_elem? (fits.seen.0) p ≡ some m → (n : List ℕ) → m.by ≡ Some n → CarriesNumber v.carried n → ⊥
    others_own p m e n by c =
        let place : get_elem? log (length v.seen + p) ≡ some m = ap (λ (l : List (Made E)). get_elem? l (length v.seen + p)) fits.seen.1 ∙ (at_shift v.seen fits.seen.0 p ∙ e) in
        let h = k.makers (length v.seen + p) m n place by in
        let here : h.0 ≡ i = k.family.sole n h.0 i h.3.0 c.0 (h.1.carried, at_map carried_of views h.0 h.1 h.2, h.3.1) (v.carried, at_map carried_of views i v at, c.1) in
        let is : h.1 ≡ v = at_same views i h.1 v (ap (get_elem? views) (sym here) ∙ h.2) at in
        let l : length h.1.seen ≡ length v.seen = ap (λ (x : View S E). length x.seen) is in
        let short = h.4 in
        omega arith

    made_by_none : (p : ℕ) (m : Made E) → get_elem? (fits.seen.0) p ≡ some m → (by : Option (List ℕ)) → m.by ≡ by → by_any v.carried by ≡ false
    made_by_none p m e None is = refl
    made_by_none p m e (Some n) is = not_true (by_any v.carried (Some n)) (λ h. others_own p m e n is (by_any_is v.carried n h))

    pub none_own : NoneBy v.carried fits.seen.0
    none_own = none_by v.carried fits.seen.0 (λ p m e. made_by_none p m e m.by refl)

    stage_taken : out ≡ false → owner serving ≡ i → (j : ℕ) → j ≢ i → (seen : List (Made E)) (s : Stage) → StageFits next serving first old log out owner j seen s → StageFits next serving first old log true owner j seen s
    stage_taken home mine j ne seen Idle h = tt {0}
    stage_taken home mine j ne seen (Waiting t) h = (h.0, h.1, h.2, λ e. absurd (ne (sym h.2 ∙ (ap owner e ∙ mine))))
    stage_taken home mine j ne seen (Holding t) h = absurd (off (sym home ∙ h.3))

    taken_fits : out ≡ false → owner serving ≡ i → (j : ℕ) → j ≢ i → (u : View S E) → Fits j u → SeatFits next serving first old log true owner j u
    taken_fits home mine j ne u f = record {
      seen = f.seen;
      stage = stage_taken home mine j ne u.seen u.stage f.stage;
      ended = f.ended;
      start = f.start;
      opening_seen = f.opening_seen;
      none_drawn = f.none_drawn;
      meeting = f.meeting;
    }

    ticket_of : (t : ℕ) (s : Stage) → s ≡ Waiting t → StageFits next serving first old log out owner i v.seen s → (t < next) × (owner t ≡ i) × (t ≡ serving → out ≡ false)
    ticket_of t s is h = let h' = subst (λ (x : Stage). StageFits next serving first old log out owner i v.seen x) is h in (h'.1, h'.2, h'.3)

    pub waits : (t : ℕ) → v.stage ≡ Waiting t → (t < next) × (owner t ≡ i) × (t ≡ serving → out ≡ false)
    waits t is = ticket_of t v.stage is fits.stage

    pub takes_turn : v.stage ≡ Waiting serving → Books opening next serving first old turns true owner (set views i (holding serving fits.seen.0 v))
    takes_turn is =
        let w : View S E = holding serving fits.seen.0 v in
        let h = waits serving is in
        let home : out ≡ false = h.2 refl in record {
          order = k.order;
          low = k.low;
          busy = λ _. h.0;
          opened = k.opened;
          counted = k.counted;
          drawn = (let a = drawn_set views i v w at in let x : ℕ = total (map drawn_of (set views i w)) in let y : ℕ = total (map drawn_of views) in let d : ℕ = v.drawn in let a' : x + d ≡ y + d = a in let b' : y ≡ next = k.drawn in let goal : x ≡ next = omega arith in goal);
          tickets = λ t from to. ticket_set w t (λ z. subst (λ (s : Stage). HasTicket s t) is z) refl (k.tickets t from to);
          each_seat = seats_set (SeatFits next serving first old log true owner) views i w
              record {
                seen = ([], fits.seen.1 ∙ sym (append-nil (v.seen ++ fits.seen.0)));
                stage = (refl, h.0, h.1, refl, sym fits.seen.1);
                ended = fits.ended;
                start = fits.start;
                opening_seen = λ z. (let a = fits.opening_seen z in let b = length-append v.seen fits.seen.0 in omega arith);
                none_drawn = fits.none_drawn;
                meeting = no_meeting;
              }
              (λ j u ne e. taken_fits home h.1 j ne u (k.each_seat j u e));
          family = subst Family (sym (carried_set views i v w at refl)) k.family;
          makers = makers_on views (set views i w) log (goes_set views i v w at refl (let b = length-append v.seen fits.seen.0 in omega arith)) k.makers;
        }

    -- the seat passes its turn on, with an entry or none
    pub holds_turn : (t : ℕ) → v.stage ≡ Holding t → (t ≡ serving) × (t < next) × (owner t ≡ i) × (out ≡ true) × (v.seen ≡ log)
    holds_turn t is = subst (λ (x : Stage). StageFits next serving first old log out owner i v.seen x) is fits.stage

    stage_passed : (owner serving ≡ i) → (log' : List (Made E)) → (j : ℕ) → j ≢ i → (seen : List (Made E)) (s : Stage) → StageFits next serving first old log out owner j seen s → StageFits next (serving + 1) first old log' false owner j seen s
    stage_passed mine log' j ne seen Idle h = tt {0}
    stage_passed mine log' j ne seen (Waiting t) h = ((let a = h.0 in let b : t ≢ serving = (λ e. ne (sym h.2 ∙ (ap owner e ∙ mine))) in omega arith), h.1, h.2, λ _. refl)
    stage_passed mine log' j ne seen (Holding t) h = absurd (ne (sym h.2 ∙ (ap owner h.0 ∙ mine)))

    abbrev pub after_pass : Option E → View S E
    after_pass x = record v { stage = Idle; seen = v.seen ++ made_in (number_of v.carried) x }

    pub passes_turn : v.stage ≡ Holding serving → 0 < length v.carried → (x : Option E)
        → Books opening next (serving + 1) first old (turns ++ a_turn (number_of v.carried) x ∷ []) false owner (set views i (after_pass x))
    passes_turn is some_number x =
        let w : View S E = after_pass x in
        let own : List (Made E) = made_in (number_of v.carried) x in
        let turns' : List (Turn E) = turns ++ a_turn (number_of v.carried) x ∷ [] in
        let log' : List (Made E) = log_of old turns' in
        let grows : log' ≡ log ++ own = log_more old turns (number_of v.carried) x in
        let h = holds_turn serving is in
        let whole : w.seen ≡ log' = ap (λ (l : List (Made E)). l ++ own) h.4 ∙ sym grows in
        record {
          order = (let a = h.1 in omega arith);
          low = k.low;
          busy = λ o. absurd (off o);
          opened = k.opened;
          counted = (let a = length-append turns (a_turn (number_of v.carried) x ∷ []) in let b = k.counted in omega arith);
          drawn = (let a = drawn_set views i v w at in let y' : ℕ = total (map drawn_of (set views i w)) in let y : ℕ = total (map drawn_of views) in let d : ℕ = v.drawn in let a' : y' + d ≡ y + d = a in let b' : y ≡ next = k.drawn in let goal : y' ≡ next = omega arith in goal);
          tickets = λ t from to.
              let u = k.tickets t (omega arith) to in
              let apart : owner t ≢ i = (λ e. let z : serving ≡ t = subst (λ (s : Stage). HasTicket s t) is (own_ticket t u.0 e u.1 u.2) in omega arith) in
              (u.0, set_else views i (owner t) w apart ∙ u.1, u.2, u.3);
          each_seat = seats_set (SeatFits next (serving + 1) first old log' false owner) views i w
              record {
                seen = ([], sym whole ∙ sym (append-nil w.seen));
                stage = tt {0};
                ended = fits.ended;
                start = fits.start;
                opening_seen = λ z. (let a = fits.opening_seen z in let b = length-append v.seen own in omega arith);
                none_drawn = fits.none_drawn;
                meeting = fits.meeting;
              }
              (λ j u ne e. let f = k.each_seat j u e in record {
                seen = (f.seen.0 ++ own, grows ∙ (ap (λ (l : List (Made E)). l ++ own) f.seen.1 ∙ append_assoc u.seen f.seen.0 own));
                stage = stage_passed h.2 log' j ne u.seen u.stage f.stage;
                ended = f.ended;
                start = f.start;
                opening_seen = f.opening_seen;
                none_drawn = f.none_drawn;
                meeting = f.meeting;
              });
          family = subst Family (sym (carried_set views i v w at refl)) k.family;
          makers = λ p m n e by.
              ⊎_elim
              (λ (l : get_elem? log p ≡ some m). makers_on views (set views i w) log (goes_set views i v w at refl (let b = length-append v.seen own in omega arith)) k.makers p m n l by)
              (λ (r : (q : ℕ) × (p ≡ length log + q) × (get_elem? own q ≡ some m)).
              let named : n ≡ number_of v.carried = ap (λ (o : Option (List ℕ)). named_or o) (sym by ∙ made_in_by (number_of v.carried) x r.0 m r.2) in
              let carried : CarriesNumber v.carried n = subst (λ (b : List ℕ). CarriesNumber v.carried b) (sym named) (by_any_is v.carried (number_of v.carried) (own_is_carried v.carried some_number)) in
              let short : r.0 < length own = at_bound own r.0 m r.2 in
              let l1 : length w.seen ≡ length v.seen + length own = length-append v.seen own in
              let l2 : length v.seen ≡ length log = ap length h.4 in
              let place = r.1 in
              (i, w, at_here views i v w at, carried, omega arith))
              (at_split log own p m (ap (λ (l : List (Made E)). get_elem? l p) (sym grows) ∙ e));
        }

    -- tickets of other seats, where this one has none
    ticket_else : v.stage ≡ Idle → (vs : List (View S E)) → ((j : ℕ) (u : View S E) → j ≢ i → get_elem? views j ≡ some u → get_elem? vs j ≡ some u) → (t : ℕ) → Ticket views (owner t) t → Ticket vs (owner t) t
    ticket_else idle vs stay t h = (h.0, stay (owner t) h.0 (no_ticket idle t h.0 h.1 h.2) h.1, h.2, h.3)

    -- a seat is split off
    abbrev pub after_split : List (View S E)
    after_split = set views i (left v) ++ right v ∷ []

    split_carried : map carried_of after_split ≡ set (map carried_of views) i (split_once v.carried) ++ (branch (next_number v.carried) 0 ∷ []) ∷ []
    split_carried = map-append carried_of (set views i (left v)) (right v ∷ []) ∙ ap (λ (l : List (List Branch)). l ++ (branch (next_number v.carried) 0 ∷ []) ∷ []) (map-set carried_of views i (left v))

    family_split : (bs : List Branch) → v.carried ≡ bs → 0 < length bs → Family (set (map carried_of views) i (split_once bs) ++ (branch (next_number bs) 0 ∷ []) ∷ [])
    family_split [] is h = absurd (omega arith)
    family_split (b ∷ bs) is h = split_family (map carried_of views) i b bs (at_map carried_of views i v at ∙ ap (λ (l : List Branch). some l) is) k.family

    split_goes : GoesOn views after_split
    split_goes j u n e c = dite (ℕ_discrete j i)
        (λ z. let is : u ≡ v = at_same views i u v (ap (get_elem? views) (sym z) ∙ e) at in (
          i,
          left v,
          at_longer (set views i (left v)) (right v ∷ []) i (left v) (at_here views i v (left v) at),
          carries_once v.carried n (subst (λ (bs : List Branch). CarriesNumber bs n) (ap carried_of is) c),
          (let l : length u.seen ≡ length v.seen = ap (λ (x : View S E). length x.seen) is in omega arith),
        ))
        (λ ne. (j, u, at_longer (set views i (left v)) (right v ∷ []) j u (set_else views i j (left v) ne ∙ e), c, omega arith))

    pub splits_seat : v.stage ≡ Idle → 0 < length v.carried → Books opening next serving first old turns out owner after_split
    splits_seat idle some_number = record {
      order = k.order;
      low = k.low;
      busy = k.busy;
      opened = k.opened;
      counted = k.counted;
      drawn =
          ap total (map-append drawn_of (set views i (left v)) (right v ∷ []))
          ∙ (total_snoc (map drawn_of (set views i (left v))) 0
          ∙ (let a = drawn_set views i v (left v) at in let x : ℕ = total (map drawn_of (set views i (left v))) in let y : ℕ = total (map drawn_of views) in let d : ℕ = v.drawn in let a' : x + d ≡ y + d = a in let b' : y ≡ next = k.drawn in let goal : x + 0 ≡ next = omega arith in goal));
      tickets = λ t from to. ticket_else idle after_split (λ j u ne e. at_longer (set views i (left v)) (right v ∷ []) j u (set_else views i j (left v) ne ∙ e)) t (k.tickets t from to);
      each_seat = seats_more Fits (set views i (left v)) (right v)
          (seats_set Fits views i (left v)
          record {
            seen = fits.seen;
            stage = fits.stage;
            ended = fits.ended;
            start = λ z. fits.start some_number;
            opening_seen = λ z. fits.opening_seen some_number;
            none_drawn = λ z. absurd (let l = once_length v.carried in omega arith);
            meeting = fits.meeting;
          }
          (λ j u ne e. k.each_seat j u e))
          record {
            seen = fits.seen;
            stage = tt {0};
            ended = fits.ended;
            start = λ z. fits.start some_number;
            opening_seen = λ z. fits.opening_seen some_number;
            none_drawn = λ z. refl;
            meeting = no_meeting;
          };
      family = subst Family (sym split_carried) (family_split v.carried refl some_number);
      makers = makers_on views after_split log split_goes k.makers;
    }

    -- all numbers are handed over to a new seat
    abbrev pub after_hand : List (View S E)
    after_hand = set views i (left_behind v) ++ v ∷ []

    hand_carried : map carried_of after_hand ≡ set (map carried_of views) i [] ++ v.carried ∷ []
    hand_carried = map-append carried_of (set views i (left_behind v)) (v ∷ []) ∙ ap (λ (l : List (List Branch)). l ++ v.carried ∷ []) (map-set carried_of views i (left_behind v))

    hand_goes : GoesOn views after_hand
    hand_goes j u n e c = dite (ℕ_discrete j i)
        (λ z. let is : u ≡ v = at_same views i u v (ap (get_elem? views) (sym z) ∙ e) at in (
          length (set views i (left_behind v)),
          v,
          at_last (set views i (left_behind v)) v (length (set views i (left_behind v))) refl,
          subst (λ (bs : List Branch). CarriesNumber bs n) (ap carried_of is) c,
          (let l : length u.seen ≡ length v.seen = ap (λ (x : View S E). length x.seen) is in omega arith),
        ))
        (λ ne. (j, u, at_longer (set views i (left_behind v)) (v ∷ []) j u (set_else views i j (left_behind v) ne ∙ e), c, omega arith))

    idle_stage : (j : ℕ) (seen : List (Made E)) → v.stage ≡ Idle → StageFits next serving first old log out owner j seen v.stage
    idle_stage j seen idle = subst (λ (s : Stage). StageFits next serving first old log out owner j seen s) (sym idle) (tt {0})

    pub hands_over : v.stage ≡ Idle → Books opening next serving first old turns out owner after_hand
    hands_over idle = record {
      order = k.order;
      low = k.low;
      busy = k.busy;
      opened = k.opened;
      counted = k.counted;
      drawn =
          ap total (map-append drawn_of (set views i (left_behind v)) (v ∷ []))
          ∙ (total_snoc (map drawn_of (set views i (left_behind v))) v.drawn
          ∙ (let a = drawn_set views i v (left_behind v) at in let x : ℕ = total (map drawn_of (set views i (left_behind v))) in let y : ℕ = total (map drawn_of views) in let d : ℕ = v.drawn in let a' : x + d ≡ y + 0 = a in let b' : y ≡ next = k.drawn in let goal : x + d ≡ next = omega arith in goal));
      tickets = λ t from to. ticket_else idle after_hand (λ j u ne e. at_longer (set views i (left_behind v)) (v ∷ []) j u (set_else views i j (left_behind v) ne ∙ e)) t (k.tickets t from to);
      each_seat = seats_more Fits (set views i (left_behind v)) v
          (seats_set Fits views i (left_behind v)
          record {
            seen = fits.seen;
            stage = idle_stage i v.seen idle;
            ended = fits.ended;
            start = λ z. absurd (omega arith);
            opening_seen = λ z. absurd (omega arith);
            none_drawn = λ z. refl;
            meeting = fits.meeting;
          }
          (λ j u ne e. k.each_seat j u e))
          record {
            seen = fits.seen;
            stage = idle_stage (length (set views i (left_behind v))) v.seen idle;
            ended = fits.ended;
            start = fits.start;
            opening_seen = fits.opening_seen;
            none_drawn = fits.none_drawn;
            meeting = fits.meeting;
          };
      family = subst Family (sym hand_carried) (hand_family (map carried_of views) i v.carried (at_map carried_of views i v at) k.family);
      makers = makers_on views after_hand log hand_goes k.makers;
    }

  -- one seat takes in another
  module _ (opening : S → List E → Type 0) (next serving : ℕ) (first : S) (old : List E) (turns : List (Turn E)) (out : Bool) (owner : ℕ → ℕ) (views : List (View S E)) (k : Books opening next serving first old turns out owner views)
      (i : ℕ) (v : View S E) (at : get_elem? views i ≡ some v) (o : ℕ) (w : View S E) (at_o : get_elem? views o ≡ some w) (apart : o ≢ i) where
    abbrev pub after_join : List (View S E)
    after_join = set (set views i (both v w)) o spent_view

    abbrev v_fits : SeatFits next serving first old (log_of old turns) out owner i v
    v_fits = k.each_seat i v at

    abbrev w_fits : SeatFits next serving first old (log_of old turns) out owner o w
    w_fits = k.each_seat o w at_o

    pub comparable_seen : Extends v.seen w.seen ⊎ Extends w.seen v.seen
    comparable_seen = comparable v.seen w.seen v_fits.seen.0 w_fits.seen.0 (sym v_fits.seen.1 ∙ w_fits.seen.1)

    behind : (xs ys r s : List (Made E)) → log_of old turns ≡ xs ++ r → log_of old turns ≡ ys ++ s → (t : List (Made E)) → ys ≡ xs ++ t → r ≡ t ++ s
    behind xs ys r s e f t g =
        let both_ways : xs ++ r ≡ xs ++ (t ++ s) = sym e ∙ (f ∙ (ap (λ (l : List (Made E)). l ++ s) g ∙ append_assoc xs t s)) in
        sym (drop_front xs r) ∙ (ap (drop (length xs)) both_ways ∙ drop_front xs (t ++ s))

    pub followed : Follows (met v) w.seen ⊎ Follows (met w) v.seen
    followed = ⊎_elim
        (λ (t : Extends v.seen w.seen). inl (t.0, t.1, none_front v.carried t.0 w_fits.seen.0 (subst (NoneBy v.carried) (behind v.seen w.seen v_fits.seen.0 w_fits.seen.0 v_fits.seen.1 w_fits.seen.1 t.0 t.1) (none_own opening next serving first old turns out owner views k i v at))))
        (λ (t : Extends w.seen v.seen). inr (t.0, t.1, none_front w.carried t.0 v_fits.seen.0 (subst (NoneBy w.carried) (behind w.seen v.seen w_fits.seen.0 v_fits.seen.0 w_fits.seen.1 v_fits.seen.1 t.0 t.1) (none_own opening next serving first old turns out owner views k o w at_o))))
        comparable_seen

    pub none_common : Apart v.carried w.carried
    none_common = join_apart (map carried_of views) i o v.carried w.carried (at_map carried_of views i v at) (at_map carried_of views o w at_o) apart k.family

    there : get_elem? (set views i (both v w)) o ≡ some w
    there = set_else views i o (both v w) apart ∙ at_o

    join_carried : map carried_of after_join ≡ set (set (map carried_of views) i (v.carried ++ w.carried)) o []
    join_carried = map-set carried_of (set views i (both v w)) o spent_view ∙ ap (λ (l : List (List Branch)). set l o []) (map-set carried_of views i (both v w))

    join_at : get_elem? after_join i ≡ some (both v w)
    join_at = set_else (set views i (both v w)) o i spent_view (λ e. apart (sym e)) ∙ at_here views i v (both v w) at

    longer_facts : Extends v.seen (longer v.seen w.seen) × Extends w.seen (longer v.seen w.seen) × ((longer v.seen w.seen ≡ v.seen) ⊎ (longer v.seen w.seen ≡ w.seen))
    longer_facts = longer_extends v.seen w.seen comparable_seen

    v_short : length v.seen ≤ length (longer v.seen w.seen)
    v_short = let a = ap length longer_facts.0.1 in let b = length-append v.seen longer_facts.0.0 in omega arith

    w_short : length w.seen ≤ length (longer v.seen w.seen)
    w_short = let a = ap length longer_facts.1.1 in let b = length-append w.seen longer_facts.1.0 in omega arith

    join_goes : GoesOn views after_join
    join_goes j u n e c = dite (ℕ_discrete j i)
        (λ z. let is : u ≡ v = at_same views i u v (ap (get_elem? views) (sym z) ∙ e) at in
        let c' : CarriesNumber v.carried n = subst (λ (bs : List Branch). CarriesNumber bs n) (ap carried_of is) c in
        (i, both v w, join_at, (c'.0, carries_left v.carried w.carried n c'.0 c'.1), (let l : length u.seen ≡ length v.seen = ap (λ (x : View S E). length x.seen) is in let m = v_short in omega arith)))
        (λ ni. dite (ℕ_discrete j o)
        (λ z. let is : u ≡ w = at_same views o u w (ap (get_elem? views) (sym z) ∙ e) at_o in
        let c' : CarriesNumber w.carried n = subst (λ (bs : List Branch). CarriesNumber bs n) (ap carried_of is) c in
        (i, both v w, join_at, (c'.0, carries_right v.carried w.carried n c'.0 c'.1), (let l : length u.seen ≡ length w.seen = ap (λ (x : View S E). length x.seen) is in let m = w_short in omega arith)))
        (λ no_. (j, u, set_else (set views i (both v w)) o j spent_view no_ ∙ (set_else views i j (both v w) ni ∙ e), c, omega arith)))

    both_seen : Extends (longer v.seen w.seen) (log_of old turns)
    both_seen = ⊎_elim
        (λ (e : longer v.seen w.seen ≡ v.seen). subst (λ (l : List (Made E)). Extends l (log_of old turns)) (sym e) v_fits.seen)
        (λ (e : longer v.seen w.seen ≡ w.seen). subst (λ (l : List (Made E)). Extends l (log_of old turns)) (sym e) w_fits.seen)
        longer_facts.2

    both_length : length (v.carried ++ w.carried) ≡ length v.carried + length w.carried
    both_length = length-append v.carried w.carried

    pub joins_seats : v.stage ≡ Idle → w.stage ≡ Idle → 0 < length v.carried → Books opening next serving first old turns out owner after_join
    joins_seats idle idle_o some_number = record {
      order = k.order;
      low = k.low;
      busy = k.busy;
      opened = k.opened;
      counted = k.counted;
      drawn =
          (let a = drawn_set views i v (both v w) at in
          let b = drawn_set (set views i (both v w)) o w spent_view there in
          let x : ℕ = total (map drawn_of after_join) in
          let z : ℕ = total (map drawn_of (set views i (both v w))) in
          let y : ℕ = total (map drawn_of views) in
          let d : ℕ = v.drawn in
          let f : ℕ = w.drawn in
          let a' : z + d ≡ y + (d + f) = a in
          let b' : x + f ≡ z + 0 = b in
          let c' : y ≡ next = k.drawn in
          let goal : x ≡ next = omega arith in
          goal);
      tickets = λ t from to.
          let u = k.tickets t from to in
          let ni = no_ticket opening next serving first old turns out owner views k i v at idle t u.0 u.1 u.2 in
          let no_ = no_ticket opening next serving first old turns out owner views k o w at_o idle_o t u.0 u.1 u.2 in
          (u.0, set_else (set views i (both v w)) o (owner t) spent_view no_ ∙ (set_else views i (owner t) (both v w) ni ∙ u.1), u.2, u.3);
      each_seat = seats_set (SeatFits next serving first old (log_of old turns) out owner) (set views i (both v w)) o spent_view
          record {
            seen = (log_of old turns, refl);
            stage = tt {0};
            ended = λ e. absurd (off e);
            start = λ z. absurd (omega arith);
            opening_seen = λ z. absurd (omega arith);
            none_drawn = λ z. refl;
            meeting = no_meeting;
          }
          (λ j u ne e. seats_set (SeatFits next serving first old (log_of old turns) out owner) views i (both v w)
          record {
            seen = both_seen;
            stage = idle_stage opening next serving first old turns out owner views k i v at i (longer v.seen w.seen) idle;
            ended = λ z. ⊎_elim (λ (a : v.ended ≡ true). v_fits.ended a) (λ (a : w.ended ≡ true). w_fits.ended a) (or_either v.ended w.ended z);
            start = λ z. v_fits.start some_number;
            opening_seen = λ z. (let a = v_fits.opening_seen some_number in let b = v_short in omega arith);
            none_drawn = λ z. absurd (let b = both_length in omega arith);
            meeting = (followed, none_common);
          }
          (λ l x _ a. k.each_seat l x a)
          j u e);
      family = subst Family (sym join_carried) (join_family (map carried_of views) i o v.carried w.carried (at_map carried_of views i v at) (at_map carried_of views o w at_o) apart k.family);
      makers = makers_on views after_join (log_of old turns) join_goes k.makers;
    }

  -- the books of a new book, of which n turns count as drawn
  module _ (opening : S → List E → Type 0) (n : ℕ) (s : S) (xs : List E) (low : n ≤ 2 ^ 62) (opens : opening s xs) where
    abbrev pub new_view : View S E
    new_view = opened_at n (first_view s xs)

    abbrev pub new_log : List (Made E)
    new_log = log_of xs (idle_turns E n)

    pub new_log_is : new_log ≡ map unsigned xs
    new_log_is = ap (λ (l : List (Made E)). map unsigned xs ++ l) (idle_made E n) ∙ append-nil (map unsigned xs)

    only_first : (i : ℕ) (bs : List Branch) → get_elem? ((branch [] 0 ∷ []) ∷ []) i ≡ some bs → (i ≡ 0) × (branch [] 0 ∷ [] ≡ bs)
    only_first i bs e = at_one (branch [] 0 ∷ []) i bs e

    empty_alone : (i : ℕ) (m : List ℕ) (k : ℕ) → SeatCarries ((branch [] 0 ∷ []) ∷ []) i m k → (i ≡ 0) × ([] ≡ m)
    empty_alone i m k c =
        let o = only_first i c.0 c.1 in
        (o.0, ⊎_elim (λ (h : ([] ≡ m) × (0 ≡ k)). h.0) (λ (h : ⊥). absurd h) (subst (λ (l : List Branch). Carries l m k) (sym o.1) c.2))

    not_child : (k : ℕ) (m : List ℕ) → [] ≡ k ∷ m → ⊥
    not_child k m e = let l : 0 ≡ suc (length m) = ap length e in omega arith

    new_family : Family ((branch [] 0 ∷ []) ∷ [])
    new_family = record {
      sole = λ m i j k l a b. (empty_alone i m k a).0 ∙ sym (empty_alone j m l b).0;
      once = λ i bs e. subst Distinct (only_first i bs e).1 ((λ c. c.1), tt {0});
      parent = λ m i k j a. absurd (not_child k m (empty_alone i (k ∷ m) j a).1);
      below = λ m i k j p l a b. absurd (not_child k m (empty_alone i (k ∷ m) j a).1);
    }

    named : (o : Option (List ℕ)) (m : List ℕ) → o ≡ None → o ≡ Some m → ⊥
    named o m a b = let h : false ≡ true = ap is_named (sym a ∙ b) in off h

    new_fits : SeatFits n n s xs new_log false (λ t. t) 0 new_view
    new_fits = record {
      seen = ([], new_log_is ∙ sym (append-nil (map unsigned xs)));
      stage = tt {0};
      ended = λ e. absurd (off e);
      start = λ z. refl;
      opening_seen = λ z. (let l : length (map unsigned xs) ≡ length xs = length-map xs unsigned in omega arith);
      none_drawn = λ z. absurd (omega arith);
      meeting = no_meeting;
    }

    pub starts_books : Books opening n n s xs (idle_turns E n) false (λ t. t) (new_view ∷ [])
    starts_books = record {
      order = omega arith;
      low = low;
      busy = λ o. absurd (off o);
      opened = opens;
      counted = idle_count E n;
      drawn = (let goal : n + 0 ≡ n = omega arith in goal);
      tickets = λ t from to. absurd (omega arith);
      each_seat = λ i v e. let o = at_one new_view i v e in subst (λ (x : ℕ × View S E). SeatFits n n s xs new_log false (λ t. t) x.0 x.1) (λ z. (sym o.0 z, o.1 z)) new_fits;
      family = new_family;
      makers = λ p m b e by.
          let h = unsigned_maker xs p m (ap (λ (l : List (Made E)). get_elem? l p) (sym new_log_is) ∙ e) in
          absurd (named m.by b h.0 by);
    }
