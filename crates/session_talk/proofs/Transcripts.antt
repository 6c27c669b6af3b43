-- Runs are transcripts: of all the bytes once nothing more comes, and of those that were read at any time.
use Rattle.std.proofs.Common.{◌≡◌, refl, ap, sym, ◌∙◌, subst, ℕ, ◌+◌, ◌-◌, List, [], ◌∷◌, ◌++◌, length, arith, append_assoc, length-append}
use Rattle.packet_frame.specs.Front.{front}
use Rattle.packet_frame.specs.declared.packets.Packet.{Packet}
use Rattle.packet_frame.specs.declared.packets.Want.TheVariants.{Exactly}
use Rattle.packet_frame.proofs.Fronts.{front-nothing}
use Rattle.account_history.specs.declared.entries.Entry.{Entry}
use Rattle.session_talk.specs.declared.actions.Ask.{Ask}
use Rattle.session_talk.specs.declared.actions.Ask.TheVariants as ask
use Rattle.session_talk.specs.declared.inputs.Input.{Input}
use Rattle.session_talk.specs.declared.inputs.Input.TheVariants as input
use Rattle.session_talk.specs.Given.{Given, IsDone, Transcribes, asked_after, begins}
use Rattle.packet_stream.specs.Streams.{Stream, all_of}
use Rattle.session_talk.specs.Laws.{RunsAreTranscripts}
use Rattle.session_talk.specs.Logins.{session}
use Rattle.session_talk.specs.Runs.{AllAnswer, EachAnswers, Standing, owns_in, stands_on}
use Rattle.session_talk.specs.Transcript.{Open, Peer}
use Rattle.session_talk.specs.Turns.{wanted_by}
use Rattle.packet_stream.specs.declared.limits.TheConstants.{MAX_PAYLOAD}
use Rattle.packet_stream.proofs.Heads.{Cuts, front-cuts}
use Rattle.session_talk.proofs.Putting.{session_well}
use Rattle.session_talk.proofs.Transcribing.{run}

-- ## All the bytes

whole : (id : ℕ) (peer : Peer) (bytes : List ℕ) (entries : List Entry) (inputs : List Input) (left : Stream) →
    EachAnswers (begins id) inputs → Given peer (begins id) (all_of bytes) entries inputs left → IsDone peer (asked_after id inputs) left →
    Transcribes id peer bytes entries inputs
whole id peer bytes entries inputs left each given done =
    let s = run peer left inputs 0 (session id) (all_of bytes) entries tt (session_well id) each given done in
    record {
      transcript = record { owns = owns_in inputs; entered = s.entered; sends = s.sends; ends = s.ends };
      answers = refl;
      packets = s.reads;
    }

-- ## The bytes that were read

each_of : (inputs : List Input) (s : Standing) → AllAnswer s inputs → EachAnswers s inputs
each_of [] s all = tt
each_of (given ∷ inputs) s all = (all.1, all.2, all.3, each_of inputs (stands_on s given) all.4)

-- no bytes are left at a place
abbrev nothing_at : ℕ → Stream
nothing_at place = record { place = place; bytes = [] }

-- the bytes that were read are so many of them from the front, and they give the same inputs
abbrev ReadSoFar : Peer → Standing → Stream → List Entry → List Input → Stream → Type 0
ReadSoFar peer s stream entries inputs left =
    (read : List ℕ) × (stream.bytes ≡ read ++ left.bytes) × Given Open s (record { place = stream.place; bytes = read }) entries inputs (nothing_at left.place)

module _ (peer : Peer) (left : Stream) where
  -- a packet that was read
  reads_packet : (s : Standing) (stream : Stream) (entries : List Entry) (packet : Packet) (inputs : List Input) →
      (given : Given peer s stream entries (input.Packet packet ∷ inputs) left) →
      ReadSoFar peer (stands_on s (input.Packet packet)) given.0 given.2 inputs left → ReadSoFar peer s stream entries (input.Packet packet ∷ inputs) left
  reads_packet s stream entries packet inputs given later =
      let want = wanted_by s.next s.at in
      let behind = given.3.0 in
      let read = later.0 in
      let cut = subst (Cuts (front MAX_PAYLOAD (Exactly want) stream.place) stream.bytes) given.3.1
      (front-cuts (length stream.bytes) MAX_PAYLOAD (Exactly want) stream.place stream.bytes (omega arith)) in (
        cut.0 ++ read,
        cut.1 ∙ ap (λ (bytes : List ℕ). cut.0 ++ bytes) (sym (ap (λ (b : Stream). b.bytes) given.3.3) ∙ later.1) ∙ sym (append_assoc cut.0 read left.bytes),
        (
          record { place = given.0.place; bytes = read },
          given.1,
          given.2,
          (
            read,
            cut.2 read,
            given.3.2,
            ap (λ (place : ℕ). record { place = place; bytes = read }) (
                ap (λ (b : Stream). b.place) given.3.3
                ∙ same_place (length cut.0) (length behind) (length read) _ _ stream.place (ap length cut.1 ∙ length-append cut.0 behind) (length-append cut.0 read)),
          ),
          given.4,
          given.5,
          later.2,
        ),
      )
    where
      same_place : (head behind read all less place : ℕ) → all ≡ head + behind → less ≡ head + read → place + (all - behind) ≡ place + (less - read)
      same_place head behind read all less place e f = omega (arith, e, f)

  -- an answer of the own side, by which nothing is read
  reads_nothing : (s : Standing) (stream : Stream) (behind : Stream) (read : List ℕ) → behind ≡ stream → behind.bytes ≡ read ++ left.bytes → stream.bytes ≡ read ++ left.bytes
  reads_nothing s stream behind read e f = sym (ap (λ (b : Stream). b.bytes) e) ∙ f

  read_so_far : (inputs : List Input) (s : Standing) (stream : Stream) (entries : List Entry) → AllAnswer s inputs → Given peer s stream entries inputs left →
      ReadSoFar peer s stream entries inputs left
  read_so_far [] s stream entries all given =
      ([], ap (λ (b : Stream). b.bytes) (sym given.1), (given.0, ap (λ (b : Stream). nothing_at b.place) given.1))
  read_so_far (input.Packet packet ∷ inputs) s stream entries all given =
      reads_packet s stream entries packet inputs given (read_so_far inputs _ given.0 given.2 all.4 given.6)
  read_so_far (input.Frame fault ∷ inputs) s stream entries all given = absurd all.0
  read_so_far (input.End cut ∷ inputs) s stream entries all given = absurd all.0
  read_so_far (input.LinkFailed ∷ inputs) s stream entries all given = absurd all.0
  read_so_far (own ∷ inputs) s stream entries all given =
      let later = read_so_far inputs _ given.0 given.2 all.4 given.6 in (
        later.0,
        reads_nothing s stream given.0 later.0 given.3 later.1,
        (record { place = given.0.place; bytes = later.0 }, given.1, given.2, ap (λ (b : Stream). record { place = b.place; bytes = later.0 }) given.3, given.4, given.5, later.2),
      )

-- nothing more comes where no bytes are left and the peer is open
none_left : (place : ℕ) (a : Ask) → IsDone Open a (nothing_at place)
none_left place (ask.Read want) = (refl, (4, front-nothing MAX_PAYLOAD (Exactly want) place))
none_left place a = tt

pub runs_are_transcripts : RunsAreTranscripts
runs_are_transcripts = record {
  whole = whole;
  so_far = λ id peer bytes entries inputs left all given.
      let r = read_so_far peer left inputs (begins id) (all_of bytes) entries all given in
      (r.0, r.1, whole id Open r.0 entries inputs (nothing_at left.place) (each_of inputs (begins id) all) r.2 (none_left left.place (asked_after id inputs)));
}
