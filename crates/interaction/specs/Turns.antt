-- A run turn by turn: in a turn something is read or a question is answered, and the talk says what it says before it
-- waits again.
use Rattle.std.specs.Prelude.{◌≡◌, ℕ, zero, suc, Bool, List, ◌∷◌, Option, Some, None}
use Rattle.packet_frame.specs.declared.packets.FrameFault.{FrameFault}
use Rattle.interaction.specs.Runs.{Answers, Event, Handler, Ran, Reads, after, after_all, by_answer, by_read, run, wanted}
use Rattle.interaction.specs.Talk.{Talk, Got, Faulty, PeerClosed, LinkFailed, Says, Hears, Asks, Over}

-- ## Rest

-- the talk waits, or has ended
abbrev pub IsAtRest : {Question Answer End : Type 0} → Talk Question Answer End → Type 0
IsAtRest (Says payload t) = ⊥
IsAtRest _ = Unit {0}

-- the talk waits, and the handler has nothing for it; or the talk has ended
abbrev pub HasNothing : {State Question Answer Entry End : Type 0} →
    Handler State Question Answer Entry → State → (next : ℕ) → Talk Question Answer End → Type 0
HasNothing h s next (Says payload t) = ⊥
HasNothing h s next (Hears anew k) = h.read s next (wanted anew next) ≡ None
HasNothing h s next (Asks question k) = h.answer s question ≡ None
HasNothing h s next (Over end) = Unit {0}

-- ## Turns

-- a handler that gives nothing: a run over it says what the talk says before it waits
abbrev pub silent : {State Question Answer Entry : Type 0} → Handler State Question Answer Entry
silent = record { read = λ s next wanted. None; answer = λ s question. None }

unfoldable pub turn : {State Question Answer Entry End : Type 0} →
    Handler State Question Answer Entry → State → (next : ℕ) → Talk Question Answer End → Option (Ran State Question Answer Entry End)
turn h s next (Says payload t) = None
turn h s next (Hears anew k) =
    by_read (λ given id later. Some (after (Reads (wanted anew next) given id) (run silent later id (k given)))) None (h.read s next (wanted anew next))
turn h s next (Asks question k) =
    by_answer (λ own later. Some (after (Answers question own) (run silent later next (k own.given)))) None (h.answer s question)
turn h s next (Over end) = None

-- a run that goes on behind a turn, if there is one
abbrev pub by_turn : {State Question Answer Entry End : Type 0} →
    Handler State Question Answer Entry → Ran State Question Answer Entry End → Option (Ran State Question Answer Entry End) → Ran State Question Answer Entry End
by_turn h stopped (Some r) = after_all r.did (run h r.state r.next r.at)
by_turn h stopped None = stopped

-- ## Bounds

module _ {Question Answer End : Type 0} where
  -- At most `left` turns are taken before a packet is read, and at most `all` after each packet.
  abbrev pub Within : (all left : ℕ) → Talk Question Answer End → Type 0
  Within all left (Says payload t) = Within all left t
  Within all zero (Hears anew k) = ⊥
  Within all (suc left) (Hears anew k) =
      ((payload : List ℕ) → Within all all (k (Got payload)))
      × ((fault : FrameFault) → Within all left (k (Faulty fault)))
      × ((cut : Bool) → Within all left (k (PeerClosed cut)))
      × Within all left (k LinkFailed)
  Within all zero (Asks question k) = ⊥
  Within all (suc left) (Asks question k) = (given : Answer) → Within all left (k given)
  Within all left (Over end) = Unit {0}

-- how many are left behind a turn that begins so: all after a packet, and else one less
abbrev pub left_behind : {Question Answer Entry : Type 0} → (all left : ℕ) → List (Event Question Answer Entry) → ℕ
left_behind all left (Reads wanted (Got payload) next ∷ did) = all
left_behind all (suc left) _ = left
left_behind all zero _ = zero
