-- How many questions a talk asks between two packets.
use Rattle.std.specs.Prelude.{ℕ, zero, suc, List}
use Rattle.interaction.specs.Talk.{Got, Says, Hears, Asks, Over}
use Rattle.session_talk.specs.Talk.{SessionTalk}
use Rattle.session_talk.specs.declared.inputs.Input.{Input}

-- at most so many questions that aren't for a packet come before the next packet, and at most eight after each
abbrev pub Within : ℕ → SessionTalk → Type 0
Within n (Says payload t) = Within n t
Within n (Hears anew k) = (payload : List ℕ) → Within 8 (k (Got payload))
Within n (Over how) = Unit {0}
Within zero (Asks q k) = ⊥
Within (suc n) (Asks q k) = (given : Input) → Within n (k given)
