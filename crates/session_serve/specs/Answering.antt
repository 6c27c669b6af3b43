-- What a session's own side answers to an ask.
use Rattle.std.specs.Prelude.{◌≡◌, ℕ, ◌+◌, ◌-◌, ◌≤◌, Bool, true, false, List, [], ◌∷◌}
use Rattle.account_history.specs.declared.entries.Entry.{Entry}
use Rattle.serve_talk.specs.Fitting.{held_after, is_call}
use Rattle.serve_talk.specs.Sides.{Grew, Side, nonces_in}
use Rattle.serve_talk.specs.declared.endings.Ending.{Ending}
use Rattle.serve_talk.specs.declared.endings.Ending.TheVariants.{Told, BookEnd}
use Rattle.session_talk.specs.Talk.{Own}
use Rattle.session_talk.specs.Turns.{Adds, Answers}
use Rattle.session_talk.specs.declared.actions.Ask.{Ask}
use Rattle.session_talk.specs.declared.actions.Ask.TheVariants as ask
use Rattle.session_talk.specs.declared.ends.SessionEnd.TheVariants as end
use Rattle.session_talk.specs.declared.inputs.Input.{Input}
use Rattle.session_serve.specs.Holding.{Keeps, held_of}
use Rattle.session_serve.specs.declared.holding.Held.{Held}
use Rattle.shared_accounts.specs.declared.desk.Begun.{Begun}

-- an ask of the own side
abbrev pub IsOwn : Ask → Type 0
IsOwn (ask.Read want) = ⊥
IsOwn (ask.Ended how) = ⊥
IsOwn _ = Unit {0}

abbrev pub once : Bool → ℕ
once true = 1
once false = 0

-- the ask was answered, by at most one turn of the book
pub record Answered (begun : Begun) (asked_for : Ask) (h : Held) (x : Side) (given : Input) (later : Held) (y : Side) : Type 0 where
  pub answers : Answers asked_for given
  pub added : List Entry
  pub adds : Adds (Own asked_for) given added
  pub grew : Grew x y added (nonces_in (given ∷ []))
  pub spent : y.drawn ≤ x.drawn + once (is_call asked_for)
  pub held_is : held_of later ≡ held_after (held_of h) asked_for given
  pub calls_is : later.calls ≡ h.calls - once (is_call asked_for)
  pub packets_is : later.packets ≡ h.packets
  pub keeps : Keeps begun y.seen.entries (held_of later)

-- no memory was to be had, or no turn was left for a call
abbrev pub IsFall : Ask → Side → Ending → Type 0
IsFall asked_for y (Told end.Memory) = Unit {0}
IsFall asked_for y BookEnd = (y.ended ≡ true) × (is_call asked_for ≡ true)
IsFall asked_for y _ = ⊥

-- the ask wasn't answered, and no entry was added
pub record Fell (asked_for : Ask) (x y : Side) (how : Ending) : Type 0 where
  pub grew : Grew x y [] []
  pub spent : y.drawn ≤ x.drawn + once (is_call asked_for)
  pub fall : IsFall asked_for y how
