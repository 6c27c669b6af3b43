-- What each step on the table asks: it keeps the rule, and tells what it says.
use Rattle.std.proofs.Common.{◌≡◌, ◌≢◌, ℕ, ◌+◌, ◌<◌, ◌≤◌, ◌^◌, Bool, true, false, eqb, List, [], ◌∷◌, ◌++◌, map, length, drop, set, slice_index, slice_set, Option, Some, None, option_to_list, refl, sym, ap, ◌∙◌, subst, ⊎_elim, arith, eq-eqb, ne_eqb}
use mathlib.Core.Logic.{dite}
use mathlib.Core.Option.{none, some, some-injective}
use mathlib.Core.Option as maybe
use mathlib.Core.List.{map-append}
use native.Mathlib.Decide.{ℕ_discrete}
use prog.Atomic.{either}
use lib.ListN.{get_elem?, length-map}
use Rattle.atomic_table.specs.Table.{State, step, rest, put_back, keeps, takes, gives, Allows, Splits, Joins, opening}
use Rattle.atomic_table.proofs.Lists.{at_set, set_again}
use Rattle.turn_book.specs.declared.view.Stage.{Stage}
use Rattle.turn_book.specs.declared.view.Stage.TheVariants.{Idle, Waiting, Holding}
use Rattle.turn_book.specs.declared.view.Made.{Made}
use Rattle.turn_book.specs.declared.view.View.{View}
use Rattle.turn_book.specs.Views.{number_of, entry_of, signed, first_view, opened_at, finished, waiting, holding, left, right, both, spent_view, left_behind}
use Rattle.turn_book.specs.Turns.{HasRoom}
use Rattle.turn_book.specs.Steps.{Sat, found, drew, told, looked, passed, unmade}
use Rattle.turn_book.specs.Rule.{Turn, a_turn, made_in, made_by, log_of, Books, Home, Kept}
use Rattle.turn_book.proofs.Lists.{drop_front}
use Rattle.turn_book.proofs.Seats.{next_unmade}
use Rattle.turn_book.proofs.Entries.{made_by_short, entries_unsigned, entries_signed, signed_list, entries_log, log_more, idle_turns}
use Rattle.turn_book.proofs.Books.{granted, fits, ends, draws, not_ended, none_own, waits, takes_turn, holds_turn, passes_turn, splits_seat, hands_over, joins_seats, new_log_is, starts_books}

abbrev ticket_in : Stage → ℕ
ticket_in Idle = 0
ticket_in (Waiting t) = t
ticket_in (Holding t) = t

abbrev pub start_or : {S : Type 0} → S → Option S → S
start_or d None = d
start_or d (Some s) = s

abbrev slot_or : {O : Type 0} → O → List (ℕ × O) → O
slot_or d [] = d
slot_or d (x ∷ xs) = x.1

put_both : {O : Type 0} (hs gs : List (maybe.Option O)) (c d : List (ℕ × O)) → hs ≡ gs → c ≡ d → put_back hs c ≡ put_back gs d
put_both hs gs c d e f = λ i. put_back (e i) (f i)

module _ {O S E : Type 0} (start : O → S) (entries : O → List E) (open_as : S → List E → Type 0) where
  abbrev Rule : State O (View S E) → Type 0
  Rule = Kept start entries open_as

  abbrev Table : Type 0
  Table = State O (View S E)

  -- the rule of a table with the same object at home
  abbrev kept_with : (s : Table) (k : Rule s) (next : ℕ) (words : List ℕ) (owner : ℕ → ℕ) (views : List (View S E)) → words ≡ next ∷ k.serving ∷ [] → Books open_as next k.serving k.first k.old k.turns k.out owner views
      → Rule (record { words = words; homes = s.homes; views = views })
  kept_with s k next words owner views is books = record {
    next = next;
    serving = k.serving;
    first = k.first;
    old = k.old;
    turns = k.turns;
    out = k.out;
    owner = owner;
    words = is;
    home = k.home;
    books = books;
  }

  next_word : (s : Table) (k : Rule s) → slice_index s.words 0 ≡ k.next
  next_word s k = ap (λ (ws : List ℕ). slice_index ws 0) k.words

  serving_word : (s : Table) (k : Rule s) → slice_index s.words 1 ≡ k.serving
  serving_word s k = ap (λ (ws : List ℕ). slice_index ws 1) k.words

  next_set : (s : Table) (k : Rule s) (n : ℕ) → slice_set s.words 0 n ≡ n ∷ k.serving ∷ []
  next_set s k n = ap (λ (ws : List ℕ). slice_set ws 0 n) k.words

  serving_set : (s : Table) (k : Rule s) (n : ℕ) → slice_set s.words 1 n ≡ k.next ∷ n ∷ []
  serving_set s k n = ap (λ (ws : List ℕ). slice_set ws 1 n) k.words

  module _ (slots id : ℕ) (m : Sat O S E) where
    pub finds : Allows Rule slots id m 0 (λ n. n) (found (step slots 0 0 0 none) m)
    finds s k h at small =
        let word = next_word s k in
        dite (ℕ_discrete (slice_index s.words 0) (2 ^ 62))
        (λ e. (
          finished m.0,
          keeps,
          tt {0},
          kept_with s k k.next (slice_set s.words 0 (slice_index s.words 0)) k.owner (set s.views id (finished m.0)) (next_set s k (slice_index s.words 0) ∙ ap (λ (n : ℕ). n ∷ k.serving ∷ []) word)
              (ends open_as k.next k.serving k.first k.old k.turns k.out k.owner s.views k.books id m.0 at (sym word ∙ e)),
          (refl, (let l = k.books.low in omega arith), (λ _. refl), λ ne. absurd (ne e)),
        ))
        (λ ne. (
          m.0,
          keeps,
          tt {0},
          kept_with s k k.next (slice_set s.words 0 (slice_index s.words 0)) k.owner (set s.views id m.0) (next_set s k (slice_index s.words 0) ∙ ap (λ (n : ℕ). n ∷ k.serving ∷ []) word)
              (subst (Books open_as k.next k.serving k.first k.old k.turns k.out k.owner) (sym (set_again s.views id m.0 at)) k.books),
          (refl, (let l = k.books.low in omega arith), (λ e. absurd (ne e)), λ _. refl),
        ))

    -- the seat draws the ticket that it found before, where that is still the next
    pub draws_ticket : (old new : ℕ) → old < 2 ^ 62 → new ≡ old + 1 → m.0.stage ≡ Idle → 0 < length m.0.carried
        → Allows Rule slots id m 0 (λ n. either (eqb n old) new n) (drew (step slots 0 old new none) m)
    draws_ticket old new low more idle some_number s k h at small =
        let word = next_word s k in
        let n : ℕ = slice_index s.words 0 in
        let after : ℕ = either (eqb n old) new n in
        dite (ℕ_discrete n old)
        (λ e.
        let next_is : k.next ≡ old = sym word ∙ e in
        let below : k.next < 2 ^ 62 = omega arith in
        let now : after ≡ k.next + 1 = ap (λ (b : Bool). either b new n) (eq-eqb n old e) ∙ (more ∙ ap (λ (z : ℕ). z + 1) (sym next_is)) in (
          waiting k.next m.0,
          keeps,
          tt {0},
          kept_with s k (k.next + 1) (slice_set s.words 0 after) (granted k.owner k.next id) (set s.views id (waiting k.next m.0)) (next_set s k after ∙ ap (λ (z : ℕ). z ∷ k.serving ∷ []) now)
              (draws open_as k.next k.serving k.first k.old k.turns k.out k.owner s.views k.books id m.0 at below idle some_number),
          (
            refl,
            (let l = k.books.low in omega arith),
            (λ _. (ap (λ (t : ℕ). waiting t m.0) (sym word), not_ended open_as k.next k.serving k.first k.old k.turns k.out k.owner s.views k.books id m.0 at below)),
            λ ne. absurd (ne e),
          ),
        ))
        (λ ne.
        let now : after ≡ k.next = ap (λ (b : Bool). either b new n) (ne_eqb n old ne) ∙ word in
        dite (ℕ_discrete n (2 ^ 62))
        (λ e. (
          finished m.0,
          keeps,
          tt {0},
          kept_with s k k.next (slice_set s.words 0 after) k.owner (set s.views id (finished m.0)) (next_set s k after ∙ ap (λ (z : ℕ). z ∷ k.serving ∷ []) now)
              (ends open_as k.next k.serving k.first k.old k.turns k.out k.owner s.views k.books id m.0 at (sym word ∙ e)),
          (refl, (let l = k.books.low in omega arith), (λ z. absurd (ne z)), λ _. ((λ _. refl), λ z. absurd (z e))),
        ))
        (λ nz. (
          m.0,
          keeps,
          tt {0},
          kept_with s k k.next (slice_set s.words 0 after) k.owner (set s.views id m.0) (next_set s k after ∙ ap (λ (z : ℕ). z ∷ k.serving ∷ []) now)
              (subst (Books open_as k.next k.serving k.first k.old k.turns k.out k.owner) (sym (set_again s.views id m.0 at)) k.books),
          (refl, (let l = k.books.low in omega arith), (λ z. absurd (ne z)), λ _. ((λ z. absurd (nz z)), λ _. refl)),
        )))

    -- the seat is told what its meeting showed
    pub tells : Allows Rule slots id m 0 (λ n. n) (told (step slots 0 0 0 none) m)
    tells s k h at small = (
      m.0,
      keeps,
      tt {0},
      kept_with s k k.next (slice_set s.words 0 (slice_index s.words 0)) k.owner (set s.views id m.0) (next_set s k (slice_index s.words 0) ∙ ap (λ (n : ℕ). n ∷ k.serving ∷ []) (next_word s k))
          (subst (Books open_as k.next k.serving k.first k.old k.turns k.out k.owner) (sym (set_again s.views id m.0 at)) k.books),
      (refl, (k.books.each_seat id m.0 at).meeting),
    )

    -- the seat is told that nothing was made by the number that is split off next
    pub unmakes : 0 < length m.0.carried → Allows Rule slots id m 0 (λ n. n) (unmade (step slots 0 0 0 none) m)
    unmakes some_number s k h at small = (
      m.0,
      keeps,
      tt {0},
      kept_with s k k.next (slice_set s.words 0 (slice_index s.words 0)) k.owner (set s.views id m.0) (next_set s k (slice_index s.words 0) ∙ ap (λ (n : ℕ). n ∷ k.serving ∷ []) (next_word s k))
          (subst (Books open_as k.next k.serving k.first k.old k.turns k.out k.owner) (sym (set_again s.views id m.0 at)) k.books),
      (refl, next_unmade open_as k.next k.serving k.first k.old k.turns k.out k.owner s.views k.books id m.0 at some_number),
    )

    -- the object is at home where the turn of a waiting seat has come
    abbrev AtHome : (s : Table) (k : Rule s) → Type 0
    AtHome s k = (y : O) × (s.homes ≡ some y ∷ []) × (entries y ≡ map entry_of (log_of k.old k.turns)) × (start y ≡ k.first)

    at_home : (s : Table) (k : Rule s) → k.out ≡ false → AtHome s k
    at_home s k e = subst (λ (b : Bool). Home start entries b k.first (log_of k.old k.turns) s.homes) e k.home

    room_left : (s : Table) (k : Rule s) (h : AtHome s k) → k.serving < k.next → HasRoom open_as (start h.0) (entries h.0)
    room_left s k h busy =
        let added : List E = map entry_of (made_by k.turns) in
        let short : length added ≡ length (made_by k.turns) = length-map (made_by k.turns) entry_of in
        let few : length (made_by k.turns) ≤ length k.turns = made_by_short k.turns in
        let count : length k.turns ≡ k.serving = k.books.counted in
        let low : k.next ≤ 2 ^ 62 = k.books.low in
        (k.old, added, h.2 ∙ entries_log k.old k.turns, subst (λ (z : S). open_as z k.old) (sym h.3) k.books.opened, omega arith)

    pub looks : (t : ℕ) → m.0.stage ≡ Waiting t → m.1 ≡ [] → 0 < length m.0.carried → Allows Rule slots id m 1 (λ n. n) (looked start entries open_as (step slots 1 0 0 none) m)
    looks t is bare some_number s k h at small =
        let word = serving_word s k in
        let n : ℕ = slice_index s.words 1 in
        dite (ℕ_discrete n t)
        (λ e.
        let now : t ≡ k.serving = sym e ∙ word in
        let is' : m.0.stage ≡ Waiting k.serving = is ∙ ap (λ (z : ℕ). Waiting z) now in
        let mine = waits open_as k.next k.serving k.first k.old k.turns k.out k.owner s.views k.books id m.0 at k.serving is' in
        let home = at_home s k (mine.2 refl) in
        let f = fits open_as k.next k.serving k.first k.old k.turns k.out k.owner s.views k.books id m.0 at in (
          holding k.serving f.seen.0 m.0,
          takes 0 home.0,
          ap (λ (hs : List (maybe.Option O)). get_elem? hs 0) home.1,
          record {
            next = k.next;
            serving = k.serving;
            first = k.first;
            old = k.old;
            turns = k.turns;
            out = true;
            owner = k.owner;
            words = serving_set s k n ∙ ap (λ (z : ℕ). k.next ∷ z ∷ []) word;
            home = ap (λ (hs : List (maybe.Option O)). slice_set hs 0 none) home.1;
            books = takes_turn open_as k.next k.serving k.first k.old k.turns k.out k.owner s.views k.books id m.0 at is';
          },
          λ t' is''. (
            (λ e'. record {
              object = home.0;
              others = f.seen.0;
              now = (let p : k.serving ≡ t' = sym word ∙ e' in λ i. (holding (p i) f.seen.0 m.0, (0, home.0) ∷ bare i));
              stands = home.2 ∙ ap (map entry_of) f.seen.1;
              begun = f.start some_number ∙ ap (λ (z : S). Some z) (sym home.3);
              none_own = none_own open_as k.next k.serving k.first k.old k.turns k.out k.owner s.views k.books id m.0 at;
              room = room_left s k home mine.0;
            }),
            λ ne. absurd (ne (e ∙ ap ticket_in (sym is ∙ is''))),
          ),
        ))
        (λ ne. (
          m.0,
          keeps,
          tt {0},
          record {
            next = k.next;
            serving = k.serving;
            first = k.first;
            old = k.old;
            turns = k.turns;
            out = k.out;
            owner = k.owner;
            words = serving_set s k n ∙ ap (λ (z : ℕ). k.next ∷ z ∷ []) word;
            home = k.home;
            books = subst (Books open_as k.next k.serving k.first k.old k.turns k.out k.owner) (sym (set_again s.views id m.0 at)) k.books;
          },
          λ t' is'. ((λ e'. absurd (ne (e' ∙ ap ticket_in (sym is' ∙ is)))), λ _. refl),
        ))

    -- what a seat that rests has seen
    rested_seen : (y : O) (x : Option E) → entries y ≡ map entry_of m.0.seen ++ option_to_list x
        → map (signed (number_of m.0.carried)) (drop (length m.0.seen) (entries y)) ≡ made_in (number_of m.0.carried) x
    rested_seen y x is =
        let l : length m.0.seen ≡ length (map entry_of m.0.seen) = sym (length-map m.0.seen entry_of) in
        ap (map (signed (number_of m.0.carried))) (ap (drop (length m.0.seen)) is ∙ (ap (λ (n : ℕ). drop n (map entry_of m.0.seen ++ option_to_list x)) l ∙ drop_front (map entry_of m.0.seen) (option_to_list x)))
        ∙ signed_list (number_of m.0.carried) x

    pub passes : (t : ℕ) (y : O) (x : Option E) → m.1 ≡ (0, y) ∷ [] → m.0.stage ≡ Holding t → 0 < length m.0.carried → m.0.start ≡ Some (start y) → entries y ≡ map entry_of m.0.seen ++ option_to_list x
        → Allows Rule slots id m 1 (λ _. t + 1) (λ _. passed entries (step slots 1 (t + 1) 0 none) m (t + 1))
    passes t y x held is some_number begun stands s k h at small =
        let f = fits open_as k.next k.serving k.first k.old k.turns k.out k.owner s.views k.books id m.0 at in
        let mine = holds_turn open_as k.next k.serving k.first k.old k.turns k.out k.owner s.views k.books id m.0 at t is in
        let is' : m.0.stage ≡ Holding k.serving = is ∙ ap (λ (z : ℕ). Holding z) mine.0 in
        let away : s.homes ≡ none ∷ [] = subst (λ (b : Bool). Home start entries b k.first (log_of k.old k.turns) s.homes) mine.3 k.home in
        let own : List (Made E) = made_in (number_of m.0.carried) x in
        let turns' : List (Turn E) = k.turns ++ a_turn (number_of m.0.carried) x ∷ [] in
        let w : View S E = record m.0 { stage = Idle; seen = m.0.seen ++ own } in
        let grown : entries y ≡ map entry_of (log_of k.old turns') =
        stands
        ∙ (ap (λ (l : List E). map entry_of m.0.seen ++ l) (sym (entries_signed (number_of m.0.carried) x))
        ∙ (sym (map-append entry_of m.0.seen own)
        ∙ (ap (λ (l : List (Made E)). map entry_of (l ++ own)) mine.4
        ∙ ap (map entry_of) (sym (log_more k.old k.turns (number_of m.0.carried) x))))) in
        let first_is : start y ≡ k.first = ap (start_or (start y)) (sym begun ∙ f.start some_number) in (
          w,
          gives,
          tt {0},
          record {
            next = k.next;
            serving = k.serving + 1;
            first = k.first;
            old = k.old;
            turns = turns';
            out = false;
            owner = k.owner;
            words = serving_set s k (t + 1) ∙ ap (λ (z : ℕ). k.next ∷ (z + 1) ∷ []) mine.0;
            home = (y, put_both s.homes (none ∷ []) m.1 ((0, y) ∷ []) away held, grown, first_is);
            books = passes_turn open_as k.next k.serving k.first k.old k.turns k.out k.owner s.views k.books id m.0 at is' some_number x;
          },
          λ y' held'.
              let same : y ≡ y' = ap (slot_or y) (sym held ∙ held') in
              let seen_is : own ≡ map (signed (number_of m.0.carried)) (drop (length m.0.seen) (entries y')) = sym (rested_seen y x stands) ∙ ap (λ (z : O). map (signed (number_of m.0.carried)) (drop (length m.0.seen) (entries z))) same in
              λ i. (
                (let z : View S E = record m.0 { stage = Idle; seen = m.0.seen ++ seen_is i } in z),
                rest (held i),
              ),
        )

    -- a seat is split off, two seats join, and all numbers are handed over
    pub splits : m.0.stage ≡ Idle → 0 < length m.0.carried → Splits Rule id m.0 (left m.0) (right m.0)
    splits idle some_number s k at = kept_with s k k.next s.words k.owner (set s.views id (left m.0) ++ right m.0 ∷ []) k.words
        (splits_seat open_as k.next k.serving k.first k.old k.turns k.out k.owner s.views k.books id m.0 at idle some_number)

    pub hands : m.0.stage ≡ Idle → Splits Rule id m.0 (left_behind m.0) m.0
    hands idle s k at = kept_with s k k.next s.words k.owner (set s.views id (left_behind m.0) ++ m.0 ∷ []) k.words
        (hands_over open_as k.next k.serving k.first k.old k.turns k.out k.owner s.views k.books id m.0 at idle)

    pub joins : (other : ℕ) (w : View S E) → m.0.stage ≡ Idle → w.stage ≡ Idle → 0 < length m.0.carried → Joins Rule id m.0 other w (both m.0 w) spent_view
    joins other w idle idle_w some_number s k at apart there =
        let there' = ⊎_elim (λ (t : (other ≡ id) × (both m.0 w ≡ w)). absurd (apart t.0)) (λ (t : (other ≢ id) × (get_elem? s.views other ≡ some w)). t.1) (at_set s.views id other (both m.0 w) w there) in
        kept_with s k k.next s.words k.owner (set (set s.views id (both m.0 w)) other spent_view) k.words
        (joins_seats open_as k.next k.serving k.first k.old k.turns k.out k.owner s.views k.books id m.0 at other w there' apart idle idle_w some_number)

  -- the table of a new book
  pub starts : (n : ℕ) (y : O) → n ≤ 2 ^ 62 → open_as (start y) (entries y) → Rule (opening (n ∷ n ∷ []) (y ∷ []) (opened_at n (first_view (start y) (entries y))))
  starts n y low opens = record {
    next = n;
    serving = n;
    first = start y;
    old = entries y;
    turns = idle_turns E n;
    out = false;
    owner = λ t. t;
    words = refl;
    home = (y, refl, sym (entries_unsigned (entries y)) ∙ ap (map entry_of) (sym (new_log_is open_as n (start y) (entries y) low opens)), refl);
    books = starts_books open_as n (start y) (entries y) low opens;
  }
