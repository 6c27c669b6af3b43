-- What a session says over a list of inputs is what is owed for them.
use Rattle.std.proofs.Common.{◌≡◌, refl, ap, sym, ◌∙◌, ℕ, List, [], ◌∷◌, ◌++◌, append_assoc}
use Rattle.packet_frame.specs.declared.packets.Packet.{Packet}
use Rattle.packet_stream.specs.Sent.{Sent, id_behind, id_behind_all, sent_from}
use Rattle.interaction.specs.Talk.{Says, Hears, Asks, Over}
use Rattle.session_talk.specs.declared.inputs.Input.{Input}
use Rattle.session_talk.specs.declared.inputs.Input.TheVariants as input
use Rattle.session_talk.specs.Laws.{RunsAreOwed}
use Rattle.session_talk.specs.Owed.{Owed, after_all_sent, after_sent, owed}
use Rattle.session_talk.specs.Runs.{AllAnswer, Standing, owns_in, packets_in, sent_on, spoken, stands_after, stands_on}
use Rattle.session_talk.specs.Talk.{SessionTalk}
use Rattle.session_talk.specs.Turns.{first_id, heard, is_answer, rest, said}
use Rattle.session_talk.proofs.Asking.{own_answer, untrue}
use Rattle.session_talk.proofs.Taking.{taken_owed}

-- what a talk says first is owed first
said_owed : (next : ℕ) (t : SessionTalk) (packets : List Packet) (owns : List Input) →
    owed next t packets owns ≡ after_all_sent (sent_from next (said t)) (owed (id_behind_all next (said t)) (rest t) packets owns)
unfolding owed said rest
said_owed next (Says payload t) packets owns =
    ap (after_sent (record { first = next; payload = payload })) (said_owed (id_behind next payload) t packets owns)
said_owed next _ packets owns = refl

sent_twice : (a b : List Sent) (o : Owed) → after_all_sent a (after_all_sent b o) ≡ after_all_sent (a ++ b) o
sent_twice a b o = ap (λ (sent : List Sent). record o { sent = sent }) (sym (append_assoc a b o.sent))

-- the turns after one, and that one
turns : (s : Standing) (given : Input) (inputs : List Input) (packets : List Packet) (owns : List Input) →
    owed (stands_on s given).next (stands_on s given).at packets owns
    ≡ after_all_sent (spoken (stands_on s given) inputs) (owed (stands_after (stands_on s given) inputs).next (stands_after (stands_on s given) inputs).at [] []) →
    owed (first_id s.next s.at given) (heard s.at given) packets owns
    ≡ after_all_sent (spoken s (given ∷ inputs)) (owed (stands_after s (given ∷ inputs)).next (stands_after s (given ∷ inputs)).at [] [])
turns s given inputs packets owns later =
    said_owed (first_id s.next s.at given) (heard s.at given) packets owns
    ∙ (ap (after_all_sent (sent_on s given)) later ∙ sent_twice (sent_on s given) (spoken (stands_on s given) inputs) _)

-- a session at a talk
abbrev pub at : ℕ → SessionTalk → Standing
at next t = record { next = next; at = t }

abbrev Run : (next : ℕ) → SessionTalk → List Input → Type 0
Run next t inputs = AllAnswer (at next t) inputs →
    owed next t (packets_in inputs) (owns_in inputs)
    ≡ after_all_sent (spoken (at next t) inputs) (owed (stands_after (at next t) inputs).next (stands_after (at next t) inputs).at [] [])

run : (inputs : List Input) (next : ℕ) (t : SessionTalk) → Run next t inputs
unfolding owed heard is_answer
run [] next t all = refl
run (input.Packet packet ∷ inputs) next (Hears anew k) all =
    turns (at next (Hears anew k)) (input.Packet packet) inputs _ _ (run inputs _ _ all.4)
run (input.Packet packet ∷ inputs) next (Asks q k) all = absurd (untrue (own_answer q (input.Packet packet) all.2).1)
run (input.Frame fault ∷ inputs) next t all = absurd all.0
run (input.End cut ∷ inputs) next t all = absurd all.0
run (input.LinkFailed ∷ inputs) next t all = absurd all.0
run (given ∷ inputs) next (Asks q k) all =
    taken_owed next q k given (packets_in inputs) (owns_in inputs) (own_answer q given all.2).0
    ∙ turns (at next (Asks q k)) given inputs _ _ (run inputs _ _ all.4)
run (given ∷ inputs) next (Over how) all = absurd all.1
run (given ∷ inputs) next t all = absurd (untrue all.2)

pub runs_are_owed : RunsAreOwed
runs_are_owed s inputs all = run inputs s.next s.at all
