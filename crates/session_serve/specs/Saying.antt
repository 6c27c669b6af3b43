-- What a session says over its link when it is given an input.
use Rattle.std.specs.Prelude.{◌≡◌, List, ℕ, [], ◌++◌, Option, Result, Ok, Err}
use Rattle.lg_outside.specs.Traffic.{Traffic}
use Rattle.link_packets.specs.Moving.{Moved}
use Rattle.packet_stream.specs.Packing.{packets_text}
use Rattle.serve_talk.specs.Serving.{IsCause}
use Rattle.serve_talk.specs.declared.endings.Ending.{Ending}
use Rattle.serve_talk.specs.declared.endings.Ending.TheVariants.{Told, BookEnd}
use Rattle.session_talk.specs.Runs.{IsLive, Standing, sent_on, stands_on}
use Rattle.session_talk.specs.Turns.{IsBegun, asked}
use Rattle.session_talk.specs.declared.actions.Ask.{Ask}
use Rattle.session_talk.specs.declared.actions.Ask.TheVariants as ask
use Rattle.session_talk.specs.declared.ends.SessionEnd.{SessionEnd}
use Rattle.session_talk.specs.declared.inputs.Input.{Input}

abbrev pub due_on : Standing → Input → List ℕ
due_on s given = packets_text (sent_on s given)

-- an ask that isn't the end of a session
abbrev pub IsOn : Ask → Type 0
IsOn (ask.Ended how) = ⊥
IsOn _ = Unit {0}

-- the ask itself, or the end that it tells
abbrev pub IsNext : Ask → Result Ask Ending → Type 0
IsNext asks (Ok next) = (next ≡ asks) × IsOn asks
IsNext asks (Err (Told how)) = asks ≡ ask.Ended how
IsNext asks (Err BookEnd) = ⊥

-- once the payloads were written
abbrev pub Finishes : Result (Unit {0}) Ending → Ask → Result Ask Ending → Type 0
Finishes (Ok _) asks next = IsNext asks next
Finishes (Err how) asks next = next ≡ Err how

-- of a text a part was written
pub data IsCut (due : List ℕ) (before after : Option Traffic) (Rises : Type 0) : Ending → Type 0 where
  cut : (how : SessionEnd) (text unwritten : List ℕ) → Moved before after [] text → due ≡ text ++ unwritten → IsCause Rises how → IsCut due before after Rises (Told how)

-- it says all that is due, and asks on
pub record Said (s : Standing) (given : Input) (t : Standing) (before after : Option Traffic) (next : Ask) : Type 0 where
  pub stands : t ≡ stands_on s given
  pub moved : Moved before after [] (due_on s given)
  pub asks : next ≡ asked t.next t.at
  pub begun : IsBegun t.at
  pub live : IsLive t.at

-- it says all that is due, and is over; or it says a part of it, or nothing
pub data Broke (s : Standing) (given : Input) (before after : Option Traffic) (Rises : Type 0) : Ending → Type 0 where
  over : (how : SessionEnd) → Moved before after [] (due_on s given) → asked (stands_on s given).next (stands_on s given).at ≡ ask.Ended how
      → Broke s given before after Rises (Told how)
  unsaid : (how : SessionEnd) (text unwritten : List ℕ) → Moved before after [] text → due_on s given ≡ text ++ unwritten → IsCause Rises how
      → Broke s given before after Rises (Told how)
