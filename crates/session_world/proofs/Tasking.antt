-- What a session and its client go on with, each by its kind.
use Rattle.std.proofs.Common.{◌≡◌, refl, Bool, true, false, if◌then◌else◌, Option, Some, None}
use Rattle.session_world.specs.Replays.{is_cut_off, task_of, task_with}
use Rattle.client_wire.specs.UnderWay.{Client}
use Rattle.packet_stream.specs.Queue.{has_bytes}
use Rattle.session_world.specs.Worlds.{Place, is_over_at, is_there_at, waits_at}
use Rattle.session_world.specs.declared.running.Task.{Task}
use Rattle.session_world.specs.declared.running.Task.TheVariants.{Answers, GoesDown, GoesUp, CutsOff, Rests}

-- what holds of a task, where it holds of each kind
pub record Each (place : Option Place) (found : Option Client) (P : Task → Type 0) : Type 0 where
  pub answers : waits_at place ≡ true → P Answers
  pub goes_down : waits_at place ≡ false → (client : Client) → found ≡ Some client → has_bytes client.coming ≡ true → P GoesDown
  pub cuts_off : waits_at place ≡ false → (client : Client) → found ≡ Some client → has_bytes client.coming ≡ false →
      is_cut_off (is_over_at place) client.result ≡ true → P CutsOff
  pub goes_up : waits_at place ≡ false → (client : Client) → found ≡ Some client → has_bytes client.coming ≡ false →
      is_cut_off (is_over_at place) client.result ≡ false → is_there_at place ≡ true → has_bytes client.leaving ≡ true → P GoesUp
  pub rests : P Rests

either : (P : Task → Type 0) (test : Bool) (first second : Task) → (test ≡ true → P first) → (test ≡ false → P second) →
    P (if test then first else second)
either P true first second x y = x refl
either P false first second x y = y refl

module _ (place : Option Place) where
  of_client : (found : Option Client) (P : Task → Type 0) → Each place found P → waits_at place ≡ false → P (task_with place found)
  of_client None P each idle = each.rests
  of_client (Some client) P each idle =
      either P (has_bytes client.coming) GoesDown _ (λ coming. each.goes_down idle client refl coming)
      (λ none. either P (is_cut_off (is_over_at place) client.result) CutsOff _ (λ cut. each.cuts_off idle client refl none cut)
      (λ uncut. either P (is_there_at place) _ Rests
      (λ there. either P (has_bytes client.leaving) GoesUp Rests (λ leaving. each.goes_up idle client refl none uncut there leaving) (λ _. each.rests))
      (λ _. each.rests)))

  pub of_task : (found : Option Client) (P : Task → Type 0) → Each place found P → P (task_of place found)
  of_task found P each = either P (waits_at place) Answers (task_with place found) each.answers (λ idle. of_client found P each idle)
