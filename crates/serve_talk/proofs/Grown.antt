-- What the own side gives in one turn after another.
use Rattle.std.proofs.Common.{◌≡◌, refl, sym, ap, ◌∙◌, subst, ℕ, ◌+◌, List, [], ◌∷◌, ◌++◌, length, Option, Some, None, append_assoc, append-nil, length-append}
use Rattle.account_history.specs.declared.entries.Entry.{Entry}
use Rattle.account_history.specs.declared.entries.Entry.TheVariants.{Observed, Attempted, Executed}
use Rattle.account_history.specs.declared.entries.Log.{Log}
use Rattle.packet_frame.specs.declared.packets.Packet.{Packet}
use Rattle.session_talk.specs.Runs.{owns_in, packets_in}
use Rattle.session_talk.specs.declared.inputs.Input.{Input}
use Rattle.session_talk.specs.declared.inputs.Input.TheVariants as input
use Rattle.serve_talk.specs.Sides.{AreAmong, Extends, GaveAll, Grew, Side, none, nonces_in, passed, readings_in, taken}

pub gave_none : {A : Type 0} → (a : Option (List A)) → GaveAll a a []
gave_none None = tt
gave_none (Some all) = sym (append-nil all)

pub gave_more : {A : Type 0} → (a b c : Option (List A)) (some more : List A) → GaveAll a b some → GaveAll b c more → GaveAll a c (some ++ more)
gave_more a b None some more first second = tt
gave_more None None (Some after) some more first second = second
gave_more None (Some between) (Some after) some more first second = absurd first
gave_more (Some before) None (Some after) some more first second = absurd second
gave_more (Some before) (Some between) (Some after) some more first second =
    second ∙ (ap (λ l. l ++ more) first ∙ append_assoc before some more)

pub extends_none : (log : Log) → Extends log log
extends_none log = ([], ap (λ (l : List Entry). let x : Log = record { start = log.start; entries = l } in x) (sym (append-nil log.entries)))

pub extends_more : (a b c : Log) → Extends a b → Extends b c → Extends a c
extends_more a b c (some, first) (more, second) = (
  some ++ more,
  second
      ∙ (ap (λ (l : Log). let x : Log = record { start = l.start; entries = l.entries ++ more } in x) first
      ∙ ap (λ (l : List Entry). let x : Log = record { start = a.start; entries = l } in x) (append_assoc a.entries some more)),
)

pub among_more : (a b c d : List ℕ) → AreAmong a b → AreAmong c d → AreAmong (a ++ c) (b ++ d)
among_more _ _ c d none more = more
among_more _ _ c d (taken n some all among) more = taken n (some ++ c) (all ++ d) (among_more some all c d among more)
among_more _ _ c d (passed n some all among) more = passed n (some ++ c) (all ++ d) (among_more some all c d among more)

pub readings-append : (a b : List Entry) → readings_in (a ++ b) ≡ readings_in a ++ readings_in b
readings-append [] b = refl
readings-append (Observed who look ∷ a) b = readings-append a b
readings-append (Attempted attempt ∷ a) b = ap (λ (l : List ℕ). attempt.reading ∷ l) (readings-append a b)
readings-append (Executed execution ∷ a) b = ap (λ (l : List ℕ). execution.reading ∷ l) (readings-append a b)

pub grew_more : (x y z : Side) (some more : List Entry) (first second : List (List ℕ)) → Grew x y some first → Grew y z more second
    → Grew x z (some ++ more) (first ++ second)
grew_more x y z some more first second one two = record {
  mine = two.mine ∙ (ap (λ (l : List Entry). l ++ more) one.mine ∙ append_assoc x.mine some more);
  grown = extends_more x.seen y.seen z.seen one.grown two.grown;
  drew = gave_more x.draws y.draws z.draws first second one.drew two.drew;
  times = one.times ++ two.times;
  read_times = gave_more x.clock y.clock z.clock one.times two.times one.read_times two.read_times;
  timed = subst (λ (l : List ℕ). AreAmong l (one.times ++ two.times)) (sym (readings-append some more))
      (among_more (readings_in some) one.times (readings_in more) two.times one.timed two.timed);
}

-- nothing was given and added
pub grew_none : (x : Side) → Grew x x [] []
grew_none x = record {
  mine = sym (append-nil x.mine);
  grown = extends_none x.seen;
  drew = gave_none x.draws;
  times = [];
  read_times = gave_none x.clock;
  timed = none;
}

-- ## Among inputs

pub nonces_first : (given : Input) (inputs : List Input) → nonces_in (given ∷ inputs) ≡ nonces_in (given ∷ []) ++ nonces_in inputs
nonces_first (input.Start nonce) inputs = refl
nonces_first (input.Drawn nonce) inputs = refl
nonces_first _ inputs = refl

pub packets_first : (given : Input) (inputs : List Input) → length (packets_in (given ∷ inputs)) ≡ length (packets_in (given ∷ [])) + length (packets_in inputs)
packets_first (input.Packet packet) inputs = length-append (packet ∷ []) (packets_in inputs)
packets_first _ inputs = length-append [] (packets_in inputs)

-- nonces and salts are own answers
pub nonces_of_owns : (inputs : List Input) → nonces_in (owns_in inputs) ≡ nonces_in inputs
nonces_of_owns [] = refl
nonces_of_owns (input.Start nonce ∷ inputs) = ap (λ (l : List (List ℕ)). nonce ∷ l) (nonces_of_owns inputs)
nonces_of_owns (input.Drawn nonce ∷ inputs) = ap (λ (l : List (List ℕ)). nonce ∷ l) (nonces_of_owns inputs)
nonces_of_owns (input.Packet packet ∷ inputs) = nonces_of_owns inputs
nonces_of_owns (input.Frame fault ∷ inputs) = nonces_of_owns inputs
nonces_of_owns (input.End cut ∷ inputs) = nonces_of_owns inputs
nonces_of_owns (input.LinkFailed ∷ inputs) = nonces_of_owns inputs
nonces_of_owns (input.Looked look ∷ inputs) = nonces_of_owns inputs
nonces_of_owns (input.Checked checked ∷ inputs) = nonces_of_owns inputs
nonces_of_owns (input.Stale evidences ∷ inputs) = nonces_of_owns inputs
nonces_of_owns (input.Settled reply ∷ inputs) = nonces_of_owns inputs
nonces_of_owns (input.Prepared prepared ∷ inputs) = nonces_of_owns inputs
nonces_of_owns (input.StaleStatement statement ∷ inputs) = nonces_of_owns inputs
nonces_of_owns (input.Ran reply ∷ inputs) = nonces_of_owns inputs
