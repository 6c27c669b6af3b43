-- A run, turn by turn.
use Rattle.std.proofs.Common.{◌≡◌, ◌≢◌, refl, ap, sym, ◌∙◌, subst, ℕ, zero, suc, ◌+◌, ◌<◌, List, [], ◌∷◌, ◌++◌, length, take, drop, append_assoc, append-nil, arith, Some, None}
use Rattle.std.proofs.lemmas.List.{drop_all, take_all}
use Rattle.session_world.specs.Replays.{Came, Printed, Replay, brings, followed_by, gets, nothing, printed_line, printed_text, running, runs, task, turns}
use Rattle.client_wire.specs.UnderWay.{Client}
use Rattle.session_world.specs.Staged.{Leaves, Stands}
use Rattle.session_world.specs.Worlds.{Doing}
use Rattle.session_world.specs.declared.running.Task.{Task}
use Rattle.session_world.specs.declared.running.Task.TheVariants.{Answers, GoesDown, GoesUp, CutsOff, Rests}
use Rattle.session_world.specs.declared.stage.Stage.{Stage}

-- ## Turns

module _ (r : Replay) (number : ℕ) where
  pub turns_without : (t : Task) → t ≢ Answers → r.clients number ≡ None → turns r number t ≡ nothing r
  turns_without Answers other is = absurd (other refl)
  turns_without GoesDown other is = rw (is) refl
  turns_without GoesUp other is = rw (is) refl
  turns_without CutsOff other is = rw (is) refl
  turns_without Rests other is = refl

  module _ (client : Client) (is : r.clients number ≡ Some client) where
    pub turns_down : (t : Task) (most : ℕ) → t ≡ GoesDown → most ≡ length client.coming →
        turns r number t ≡ gets r number client (take most client.coming) (drop most client.coming)
    turns_down t most down whole =
        ap (turns r number) down ∙ (rw (is) refl
        ∙ (ap (λ (bytes : List ℕ). gets r number client bytes []) (sym (take_all most client.coming (omega (arith, whole))))
        ∙ ap (λ (rest : List ℕ). gets r number client (take most client.coming) rest) (sym (drop_all most client.coming (omega (arith, whole))))))

    pub turns_up : (t : Task) (most : ℕ) → t ≡ GoesUp → most ≡ length client.leaving →
        turns r number t ≡ brings r number client (take most client.leaving) (drop most client.leaving)
    turns_up t most up whole =
        ap (turns r number) up ∙ (rw (is) refl
        ∙ (ap (λ (bytes : List ℕ). brings r number client bytes []) (sym (take_all most client.leaving (omega (arith, whole))))
        ∙ ap (λ (rest : List ℕ). brings r number client (take most client.leaving) rest) (sym (drop_all most client.leaving (omega (arith, whole))))))

-- ## A run

joined : (before after : List Printed) → printed_text (before ++ after) ≡ printed_text before ++ printed_text after
joined [] after = refl
joined (first ∷ before) after =
    ap (λ (text : List ℕ). printed_line first ++ text) (joined before after)
    ∙ sym (append_assoc (printed_line first) (printed_text before) (printed_text after))

following : (a b c : Came) → followed_by a (followed_by b c) ≡ followed_by (followed_by a b) c
following a b c =
    ap (λ (printed : List Printed). record { replay = c.replay; printed = printed; doings = a.doings ++ (b.doings ++ c.doings) })
    (sym (append_assoc a.printed b.printed c.printed))
    ∙ ap (λ (doings : List Doing). record { replay = c.replay; printed = (a.printed ++ b.printed) ++ c.printed; doings = doings })
    (sym (append_assoc a.doings b.doings c.doings))

-- so many turns of a run were taken
pub record Went (r : Replay) (number turn : ℕ) (stage : Stage) (before after : List ℕ) : Type 0 where
  pub left : ℕ
  pub left_is : left + turn ≡ 24
  pub so_far : Came
  pub stands : Stands stage so_far.replay
  pub printed : after ≡ before ++ printed_text so_far.printed
  pub goes_on : runs 24 r number ≡ followed_by so_far (runs left so_far.replay number)

pub went_none : (r : Replay) (number : ℕ) (stage : Stage) (before : List ℕ) → Stands stage r → Went r number 0 stage before before
went_none r number stage before stands = record {
  left = 24;
  left_is = refl;
  so_far = nothing r;
  stands = stands;
  printed = sym (append-nil before);
  goes_on = refl;
}

module _ (r : Replay) (number turn : ℕ) (stage : Stage) (before after : List ℕ) where
  turn_goes : (so_far : Came) (left : ℕ) → runs 24 r number ≡ followed_by so_far (runs (suc left) so_far.replay number) →
      runs 24 r number ≡ followed_by (followed_by so_far (turns so_far.replay number (task so_far.replay number)))
      (runs left (turns so_far.replay number (task so_far.replay number)).replay number)
  unfolding runs
  turn_goes so_far left goes =
      goes ∙ following so_far (turns so_far.replay number (task so_far.replay number))
      (runs left (turns so_far.replay number (task so_far.replay number)).replay number)

  pub went_on : (now : Stage) (text : List ℕ) (w : Went r number turn stage before after) → turn < 24 →
      ((s : Replay) → Stands stage s → Leaves (turns s number (task s number)) now after text) →
      Went r number (turn + 1) now before text
  went_on now text w few goes = by_left w.left w.left_is w.goes_on where
    next : Leaves (turns w.so_far.replay number (task w.so_far.replay number)) now after text
    next = goes w.so_far.replay w.stands

    by_left : (left : ℕ) → left + turn ≡ 24 → runs 24 r number ≡ followed_by w.so_far (runs left w.so_far.replay number) →
        Went r number (turn + 1) now before text
    by_left zero is run = absurd (omega (arith, is, few))
    by_left (suc left) is run = record {
      left = left;
      left_is = omega (arith, is);
      so_far = followed_by w.so_far (turns w.so_far.replay number (task w.so_far.replay number));
      stands = next.stands;
      printed = next.printed ∙ (ap (λ (t : List ℕ). t ++ printed_text (turns w.so_far.replay number (task w.so_far.replay number)).printed) w.printed
          ∙ (append_assoc before (printed_text w.so_far.printed) (printed_text (turns w.so_far.replay number (task w.so_far.replay number)).printed)
          ∙ ap (λ (t : List ℕ). before ++ t) (sym (joined w.so_far.printed (turns w.so_far.replay number (task w.so_far.replay number)).printed))));
      goes_on = turn_goes w.so_far left run;
    }

  -- all turns were taken
  pub went_all : Went r number turn stage before after → (turn < 24 → ⊥) → Leaves (runs 24 r number) stage before after
  unfolding runs
  went_all w all = by_left w.left w.left_is w.goes_on where
    by_left : (left : ℕ) → left + turn ≡ 24 → runs 24 r number ≡ followed_by w.so_far (runs left w.so_far.replay number) → Leaves (runs 24 r number) stage before after
    by_left zero is run = subst (λ (c : Came). Leaves c stage before after) (sym run) (record {
      stands = w.stands;
      printed = w.printed ∙ ap (λ (p : List Printed). before ++ printed_text p) (sym (append-nil w.so_far.printed));
    })
    by_left (suc left) is run = absurd (all (omega (arith, is)))

-- a run of which something can be done
pub running_is : (r : Replay) (number : ℕ) (t : Task) → t ≢ Rests → running r number t ≡ runs 24 r number
running_is r number Rests other = absurd (other refl)
running_is r number _ other = refl
