-- The one interpreter of talks: a handler gives what is read and what is answered, and a run does what the talk then
-- does, as far as the handler has something to give.
use Rattle.std.specs.Prelude.{ℕ, Bool, true, false, List, [], ◌∷◌, ◌++◌, Option, Some, None}
use Rattle.packet_stream.specs.Sent.{Sent, id_behind}
use Rattle.interaction.specs.Talk.{Reading, Talk, Says, Hears, Asks, Over}

-- ## Handlers

-- what was read, the sequence id of the next packet, and the handler's state after it
pub record Read (State : Type 0) : Type 0 where
  pub given : Reading
  pub next : ℕ
  pub later : State

-- an answer of the own side, with the entries that it added to a history
pub record Own (Answer Entry : Type 0) : Type 0 where
  pub given : Answer
  pub added : List Entry

-- what was answered, and the handler's state after it
pub record Answered (State Answer Entry : Type 0) : Type 0 where
  pub own : Own Answer Entry
  pub later : State

-- What reading gives, where the next packet has an id and the one that is waited for must have an id; and what a question
-- is answered. There may be nothing yet.
pub record Handler (State Question Answer Entry : Type 0) : Type 0 where
  pub read : State → (next wanted : ℕ) → Option (Read State)
  pub answer : State → Question → Option (Answered State Answer Entry)

-- ## Runs

-- what is done: a payload is sent, something is read where an id was wanted, with the id of the next packet after it, or
-- a question is answered
pub data Event (Question Answer Entry : Type 0) : Type 0 where
  Sends : Sent → Event Question Answer Entry
  Reads : (wanted : ℕ) → Reading → (next : ℕ) → Event Question Answer Entry
  Answers : Question → Own Answer Entry → Event Question Answer Entry

-- what was done, the handler's state after it, the id of the next packet, and where the talk stands
pub record Ran (State Question Answer Entry End : Type 0) : Type 0 where
  pub did : List (Event Question Answer Entry)
  pub state : State
  pub next : ℕ
  pub at : Talk Question Answer End

-- the id that is wanted of the packet that is waited for
abbrev pub wanted : (anew : Bool) → (next : ℕ) → ℕ
wanted true next = 0
wanted false next = next

module _ {State Question Answer Entry End : Type 0} where
  -- nothing is done
  abbrev pub stops : State → (next : ℕ) → Talk Question Answer End → Ran State Question Answer Entry End
  stops s next t = record { did = []; state = s; next = next; at = t }

  -- the same, where something is done first
  abbrev pub after : Event Question Answer Entry → Ran State Question Answer Entry End → Ran State Question Answer Entry End
  after event r = record r { did = event ∷ r.did }

  abbrev pub after_all : List (Event Question Answer Entry) → Ran State Question Answer Entry End → Ran State Question Answer Entry End
  after_all before r = record r { did = before ++ r.did }

-- by what a handler gives, if it gives anything

abbrev pub by_read : {State R : Type 0} → (Reading → (next : ℕ) → State → R) → R → Option (Read State) → R
by_read goes_on none (Some read) = goes_on read.given read.next read.later
by_read goes_on none None = none

abbrev pub by_answer : {State Answer Entry R : Type 0} → (Own Answer Entry → State → R) → R → Option (Answered State Answer Entry) → R
by_answer goes_on none (Some answered) = goes_on answered.own answered.later
by_answer goes_on none None = none

unfoldable pub run : {State Question Answer Entry End : Type 0} →
    Handler State Question Answer Entry → State → (next : ℕ) → Talk Question Answer End → Ran State Question Answer Entry End
run h s next (Says payload t) = after (Sends (record { first = next; payload = payload })) (run h s (id_behind next payload) t)
run h s next (Hears anew k) =
    by_read (λ given id later. after (Reads (wanted anew next) given id) (run h later id (k given)))
    (stops s next (Hears anew k)) (h.read s next (wanted anew next))
run h s next (Asks question k) =
    by_answer (λ own later. after (Answers question own) (run h later next (k own.given)))
    (stops s next (Asks question k)) (h.answer s question)
run h s next (Over end) = stops s next (Over end)
