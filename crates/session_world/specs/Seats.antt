-- Sessions in a world.
use Rattle.std.specs.Prelude.{◌≡◌}
use Rattle.session_engine.specs.Standing.{next_of, talk_of_session}
use Rattle.session_talk.specs.Turns.{asked}
use Rattle.session_world.specs.declared.calls.Calls.{Calls}
use Rattle.session_world.specs.declared.going.Turn.{Turn}
use Rattle.session_world.specs.declared.going.Turn.TheVariants as turn
use Rattle.world_table.specs.Table.{Common}
use Rattle.session_world.specs.Lasting.{ReadsOrSteps}
use Rattle.session_world.specs.Leading.{Leads, Rests}
use Rattle.session_world.specs.declared.output.Output.{Output}
use Rattle.session_world.specs.declared.turns.Seat.{Seat}

-- the session of this number, with this peer
pub record SameSeat (old new : Seat) : Type 0 where
  pub number : new.number ≡ old.number
  pub peer : new.peer ≡ old.peer

-- a turn goes on to another question, with the calls that are left, or nothing more comes
abbrev pub LeadsOn : Calls → Seat → Common → Output → Seat → Common → Output → Turn → Type 0
LeadsOn calls old before there new now here (turn.Goes asks left) =
    Leads new.number new.peer here left now (next_of new.session) (talk_of_session new.session) new.inbox
    there calls before (next_of old.session) (talk_of_session old.session) old.inbox
LeadsOn calls old before there new now here (turn.Rests asks) =
    Rests new.number new.peer here now (next_of new.session) (talk_of_session new.session) new.inbox
    there calls before (next_of old.session) (talk_of_session old.session) old.inbox

-- the question is the one that the session asks
abbrev pub AsksOn : Seat → Turn → Type 0
AsksOn seat (turn.Goes asks left) = asks ≡ asked (next_of seat.session) (talk_of_session seat.session)
AsksOn seat (turn.Rests asks) = asks ≡ asked (next_of seat.session) (talk_of_session seat.session)

-- a turn that goes on reads bytes, or is one of the turns that were left
abbrev pub NearsRest : Seat → Seat → Turn → Type 0
NearsRest old new (turn.Goes asks left) = ReadsOrSteps old.inbox (talk_of_session old.session) new.inbox (talk_of_session new.session)
NearsRest old new (turn.Rests asks) = Unit {0}
