-- The entries that a session's own side makes go on with its bytes, however they are cut.
use Rattle.std.proofs.Common.{◌≡◌, ap, sym, ◌∙◌, subst, ℕ, Bool, if◌then◌else◌, List, [], ◌∷◌, ◌++◌, append_assoc}
use Rattle.packet_frame.specs.Front.{Front, Whole, Part, Fault, StaysWith}
use Rattle.packet_frame.specs.Packets.{id_after}
use Rattle.packet_frame.specs.declared.packets.FrameFault.{FrameFault}
use Rattle.packet_frame.specs.declared.packets.FrameFault.TheVariants.{TooLarge, OutOfOrder, Memory as NoMemory}
use Rattle.packet_stream.proofs.Longer.{behind_more, stays}
use Rattle.account_history.specs.declared.entries.Entry.{Entry}
use Rattle.packet_stream.specs.Streams.{Stream, behind_of, by_front, front_of, with_more}
use Rattle.session_talk.specs.declared.inputs.Input.{Input}
use Rattle.interaction.specs.Talk as talk
use Rattle.interaction.specs.Talk.{Got, Says, Hears, Asks}
use Rattle.session_talk.specs.Talk.{SessionTalk}
use Rattle.session_talk.specs.Transcript.{Enters, Reading, after_packet, by_packet, read_of}
use Rattle.session_talk.specs.Logins.{faulted}
use Rattle.session_talk.specs.Turns.{wanted}
use Rattle.packet_stream.specs.Sent.{id_behind}
use Rattle.session_talk.specs.Wired.{Wired, said_from, stops, wired}

-- what a session's own side was answered makes these entries, over bytes
abbrev pub EntersOver : (next : ℕ) → SessionTalk → Stream → List Input → List Entry → Type 0
EntersOver next t stream owns entries = Enters t (read_of next t stream owns).packets owns entries

-- the same, from where a session stands
abbrev pub EntersFrom : Wired → (more : List ℕ) → List Input → List Entry → Type 0
EntersFrom w more owns entries = EntersOver w.next w.at (with_more w.unread more) owns entries

-- where nothing is used and entered, what comes later is all
all_later : (P : List Input → List Entry → Type 0) (owns others : List Input) (entries later : List Entry) →
    (owns ≡ []) × (entries ≡ []) → P others later → P (owns ++ others) (entries ++ later)
all_later P owns others entries later e p =
    subst (λ (es : List Entry). P (owns ++ others) (es ++ later)) (sym e.1) (subst (λ (os : List Input). P (os ++ others) later) (sym e.0) p)

-- nothing, and nothing
none : (owns others : List Input) (entries later : List Entry) → (owns ≡ []) × (entries ≡ []) → (others ≡ []) × (later ≡ []) →
    (owns ++ others ≡ []) × (entries ++ later ≡ [])
none owns others entries later e f = all_later (λ os es. (os ≡ []) × (es ≡ [])) owns others entries later e f

-- the talk of a fault of framing enters nothing
faulted_enters : (next : ℕ) (fault : FrameFault) (stream : Stream) (more : List ℕ) (owns others : List Input) (later : List Entry) →
    EntersFrom (said_from next (faulted fault) stream owns) more others later → (others ≡ []) × (later ≡ [])
unfolding said_from read_of Enters
faulted_enters next (TooLarge at) stream more owns others later e = e
faulted_enters next (OutOfOrder at want got) stream more owns others later e = e
faulted_enters next NoMemory stream more owns others later e = e

module _ (next : ℕ) (anew : Bool) (k : talk.Reading → SessionTalk) (stream : Stream) (more : List ℕ) (owns others : List Input) (entries later : List Entry) where
  abbrev read_at : Stream → List Input → Front → Reading
  read_at s os f = by_packet (λ packet behind. after_packet packet (read_of (id_after packet.last) (k (Got packet.payload)) behind os)) s f

  abbrev wired_at : Front → Wired
  wired_at f = by_front (λ last payload behind. wired (id_after last) (k (Got payload)) (behind_of stream behind) owns)
      (stops next (Hears anew k) stream owns) (λ fault. said_from (id_after (wanted anew next)) (faulted fault) stream owns) f

  abbrev Again : Type 0
  Again = (last : ℕ) (payload : List ℕ) (s : Stream) → EntersOver (id_after last) (k (Got payload)) s owns entries →
      EntersFrom (wired (id_after last) (k (Got payload)) s owns) more others later →
      EntersOver (id_after last) (k (Got payload)) (with_more s more) (owns ++ others) (entries ++ later)

  abbrev Longer : Front → Type 0
  Longer f = Enters (Hears anew k) (read_at (with_more stream more) (owns ++ others) f).packets (owns ++ others) (entries ++ later)

  by_shown : Again → (f : Front) → StaysWith more f (front_of (wanted anew next) (with_more stream more)) →
      Enters (Hears anew k) (read_at stream owns f).packets owns entries → EntersFrom (wired_at f) more others later →
      Longer (front_of (wanted anew next) (with_more stream more))
  unfolding wired read_of Enters
  by_shown again (Whole first last payload behind) e entered then_entered =
      subst Longer (sym e)
      (subst (λ (s : Stream). EntersOver (id_after last) (k (Got payload)) s (owns ++ others) (entries ++ later)) (sym (behind_more stream behind more))
      (again last payload (behind_of stream behind) entered then_entered))
  by_shown again (Part missing) e entered then_entered =
      all_later (λ os es. EntersOver next (Hears anew k) (with_more stream more) os es) owns others entries later entered then_entered
  by_shown again (Fault fault) e entered then_entered =
      subst Longer (sym e) (none owns others entries later entered (faulted_enters (id_after (wanted anew next)) fault stream more owns others later then_entered))

pub enters_goes_on : (next : ℕ) (t : SessionTalk) (stream : Stream) (more : List ℕ) (owns others : List Input) (entries later : List Entry) →
    EntersOver next t stream owns entries → EntersFrom (wired next t stream owns) more others later →
    EntersOver next t (with_more stream more) (owns ++ others) (entries ++ later)
unfolding wired read_of Enters
enters_goes_on next (Says payload t) stream more os us es fs e f = enters_goes_on (id_behind next payload) t stream more os us es fs e f
enters_goes_on next (Hears anew k) stream more os us es fs e f =
    by_shown next anew k stream more os us es fs (λ last payload s. enters_goes_on (id_after last) (k (Got payload)) s more os us es fs)
    (front_of (wanted anew next) stream) (stays stream more (wanted anew next)) e f
enters_goes_on next (Asks q k) stream more (given ∷ os) us es fs (added, rest, is, fits, adds, joined, entered) f = (
  added,
  rest ++ fs,
  is,
  fits,
  adds,
  ap (λ (entries : List Entry). entries ++ fs) joined ∙ append_assoc added rest fs,
  subst (λ (b : Bool). Enters (k given) (read_by b (with_more stream more) (os ++ us)).packets (os ++ us) (rest ++ fs)) (sym is)
      (enters_goes_on next (k given) stream more os us rest fs
      (subst (λ (b : Bool). Enters (k given) (read_by b stream os).packets os rest) is entered)
      (subst (λ (b : Bool). EntersFrom (if b then wired next (k given) stream os else stops next (Asks q k) stream (given ∷ os)) more us fs) is f)),
)
  where
    read_by : (taken : Bool) → Stream → List Input → Reading
    read_by taken s owns = if taken then read_of next (k given) s owns else record { packets = []; left = s }
enters_goes_on next t stream more os us es fs e f =
    all_later (λ owns entries. EntersOver next t (with_more stream more) owns entries) os us es fs e f
