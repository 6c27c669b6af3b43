-- A session ends by what it was sent and answered, as long as its peer is open.
use Rattle.std.proofs.Common.{◌≡◌, refl, subst, IsTrue, ℕ, zero, suc, ◌-◌, ◌==◌, nat_lt, Bool, true, false, if◌then◌else◌, List, [], ◌∷◌, length, take, drop, Option, Some, None}
use Rattle.account_history.specs.declared.entries.Entry.{Entry}
use Rattle.interaction.specs.Talk.{Got, Says, Hears, Asks, Over}
use Rattle.packet_frame.specs.Front.{Front, Whole, Part, Fault, continued_front, front, front_within, headed_front, sized_front}
use Rattle.packet_frame.specs.Packets.{full_size}
use Rattle.packet_frame.specs.declared.packets.FrameFault.{FrameFault}
use Rattle.packet_frame.specs.declared.packets.FrameFault.TheVariants.{TooLarge, OutOfOrder, Memory as NoMemory}
use Rattle.packet_frame.specs.declared.packets.Want.{Want}
use Rattle.packet_frame.specs.declared.packets.Want.TheVariants.{Exactly, Any}
use Rattle.packet_stream.specs.Streams.{Stream, front_of}
use Rattle.packet_stream.specs.declared.limits.TheConstants.{MAX_PAYLOAD}
use Rattle.session_talk.specs.Doable.{AsksWell, IsQuestion}
use Rattle.session_talk.specs.Given.{Given, Reads}
use Rattle.session_talk.specs.Logins.{faulted, session}
use Rattle.session_talk.specs.Runs.{EachAnswers, Standing, stands_after, stands_on}
use Rattle.session_talk.specs.Talk.{Begins, Own, Question, SessionTalk}
use Rattle.session_talk.specs.Transcript.{Closed, Failed, Open, Peer}
use Rattle.session_talk.specs.Turns.{answers, ask_of, asked, heard, is_answer, or_read, question, rest, wanted_by}
use Rattle.session_talk.specs.declared.actions.Ask.{Ask}
use Rattle.session_talk.specs.declared.actions.Ask.TheVariants as ask
use Rattle.session_talk.specs.declared.ends.SessionEnd.{SessionEnd}
use Rattle.session_talk.specs.declared.inputs.Input.{Input}
use Rattle.session_talk.specs.declared.inputs.Input.TheVariants as input
use Rattle.session_talk.proofs.Asking.{untrue}
use Rattle.session_talk.proofs.Putting.{session_well}
use Rattle.serve_talk.specs.Fitting.{Fits, Held, IsDecided, Spending, held_after, is_call, most_packets, nothing_held}
use Rattle.serve_talk.proofs.Fitted.{sessions_fit}

-- ## Faults that bytes show

-- want of memory is no fault that bytes show
abbrev IsShown : FrameFault → Type 0
IsShown NoMemory = ⊥
IsShown _ = Unit {0}

abbrev Shows : Front → Type 0
Shows (Fault fault) = IsShown fault
Shows _ = Unit {0}

either_shows : (b : Bool) (x y : Front) → Shows x → Shows y → Shows (if b then x else y)
either_shows true x y first second = first
either_shows false x y first second = second

continued_shows : (id : ℕ) (payload : List ℕ) (f : Front) → Shows f → Shows (continued_front id payload f)
continued_shows id payload (Whole first last more behind) is = tt
continued_shows id payload (Part missing) is = tt
continued_shows id payload (Fault fault) is = is

sized_shows : (room size id place : ℕ) (behind : List ℕ) (f : Front) → Shows f → Shows (sized_front room size id place behind f)
sized_shows room size id place behind f is =
    let whole : Front = Whole id id (take size behind) (drop size behind) in
    let continued : Front = continued_front id (take size behind) f in
    let there : Front = if size == full_size then continued else whole in
    either_shows (nat_lt room size) (Fault (TooLarge place)) (if nat_lt (length behind) size then Part (size - length behind) else there) tt
    (either_shows (nat_lt (length behind) size) (Part (size - length behind)) there tt
    (either_shows (size == full_size) continued whole (continued_shows id (take size behind) f is) tt))

headed_shows : (room : ℕ) (want : Want) (size id place : ℕ) (behind : List ℕ) (f : Front) → Shows f → Shows (headed_front room want size id place behind f)
headed_shows room (Exactly wanted) size id place behind f is =
    either_shows (id == wanted) (sized_front room size id place behind f) (Fault (OutOfOrder place wanted id)) (sized_shows room size id place behind f is) tt
headed_shows room Any size id place behind f is = sized_shows room size id place behind f is

within_shows : (most room : ℕ) (want : Want) (place : ℕ) (bytes : List ℕ) → Shows (front_within most room want place bytes)
within_shows most room want place [] = tt
within_shows most room want place (_ ∷ []) = tt
within_shows most room want place (_ ∷ _ ∷ []) = tt
within_shows most room want place (_ ∷ _ ∷ _ ∷ []) = tt
within_shows zero room want place (_ ∷ _ ∷ _ ∷ _ ∷ _) = tt
within_shows (suc most) room want place (a ∷ b ∷ c ∷ id ∷ behind) =
    headed_shows room want _ id place behind _ (within_shows most _ _ _ _)

front_shows : (want : ℕ) (stream : Stream) → Shows (front_of want stream)
unfolding front
front_shows want stream = within_shows _ MAX_PAYLOAD (Exactly want) stream.place stream.bytes

-- ## Talks

-- from here a talk ends by what it was sent and answered
abbrev Decides : SessionTalk → Type 0
Decides (Says payload t) = Decides t
Decides (Hears anew k) = (payload : List ℕ) → Decides (k (Got payload))
Decides (Asks q k) = IsQuestion q × ((given : Input) → IsTrue (answers q given) → Decides (k given))
Decides (Over how) = IsDecided how

spent_one : (call : Bool) (n : ℕ) (P : ℕ → Type 0) → Spending call n P → (left : ℕ) × P left
spent_one false n P spends = (n, spends)
spent_one true zero P spends = absurd spends
spent_one true (suc n) P spends = (n, spends)

decides : (t : SessionTalk) (m n : ℕ) (h : Held) → Fits m n h t → AsksWell t → Decides t
decides (Says payload t) m n h fits well = decides t m n h fits well
decides (Hears anew k) zero n h fits well = absurd fits
decides (Hears anew k) (suc m) n h fits well = λ payload. decides (k (Got payload)) m 5 h (fits payload) (well payload)
decides (Asks q k) m n h fits well =
    let goes_on = spent_one (is_call (ask_of q)) n (λ left. (given : Input) → IsTrue (answers q given) → Fits m left (held_after h (ask_of q) given) (k given)) fits.1 in
    (well.0, λ given is. decides (k given) m goes_on.0 (held_after h (ask_of q) given) (goes_on.1 given is) (well.2 given is))
decides (Over how) m n h fits well = fits

session_decides : (id : ℕ) → Decides (session id)
session_decides id = decides (session id) most_packets 0 nothing_held (sessions_fit id) (session_well id)

-- ## Turns

decides_rest : (t : SessionTalk) → Decides t → Decides (rest t)
unfolding rest
decides_rest (Says payload t) d = decides_rest t d
decides_rest (Hears anew k) d = d
decides_rest (Asks q k) d = d
decides_rest (Over how) d = d

decides_faulted : (fault : FrameFault) → IsShown fault → Decides (faulted fault)
decides_faulted (TooLarge place) is = tt
decides_faulted (OutOfOrder place want got) is = tt
decides_faulted NoMemory is = absurd is

open_closed : Open ≡ Closed → ⊥
open_closed e = absurd (cc)

open_failed : Open ≡ Failed → ⊥
open_failed e = absurd (cc)

decides_heard : (t : SessionTalk) (given : Input) (want : ℕ) (stream left : Stream) → Decides t → IsTrue (is_answer t given) → Reads Open want stream given left →
    Decides (heard t given)
unfolding heard is_answer
decides_heard (Says payload t) given want stream left d is reads = absurd (untrue is)
decides_heard (Hears anew k) (input.Packet packet) want stream left d is reads = d packet.payload
decides_heard (Hears anew k) (input.Frame fault) want stream left d is reads =
    decides_faulted fault (subst (λ (f : Front). Shows f) reads.0 (front_shows want stream))
decides_heard (Hears anew k) (input.End cut) want stream left d is reads = absurd (open_closed reads.1)
decides_heard (Hears anew k) input.LinkFailed want stream left d is reads = absurd (open_failed reads.1)
decides_heard (Hears anew k) _ want stream left d is reads = absurd (untrue is)
decides_heard (Asks q k) given want stream left d is reads = d.1 given is
decides_heard (Over how) given want stream left d is reads = d

decides_after : (inputs : List Input) (s : Standing) (stream : Stream) (entries : List Entry) (left : Stream) → Decides s.at → EachAnswers s inputs →
    Given Open s stream entries inputs left → Decides (stands_after s inputs).at
decides_after [] s stream entries left d each given = d
decides_after (first ∷ inputs) s stream entries left d each given =
    decides_after inputs (stands_on s first) given.0 given.2 left
    (decides_rest (heard s.at first) (decides_heard s.at first (wanted_by s.next s.at) stream given.0 d each.1 given.3)) each.3 given.6

-- ## Ends

-- where an ask is an end, it is one that a talk comes to by what it was sent and answered
abbrev pub IsDecidedAsk : Ask → Type 0
IsDecidedAsk (ask.Ended how) = IsDecided how
IsDecidedAsk _ = Unit {0}

own_decided : (a : Ask) → IsQuestion (Own a) → IsDecidedAsk a
own_decided (ask.Ended how) is = absurd is
own_decided _ is = tt

question_decided : (want : ℕ) (t : SessionTalk) → Decides t → IsDecidedAsk (or_read want (question t))
unfolding question
question_decided want (Says payload t) d = question_decided want t d
question_decided want (Hears anew k) d = tt
question_decided want (Asks Begins k) d = tt
question_decided want (Asks (Own a) k) d = own_decided a d.0
question_decided want (Over how) d = d

-- what a session asks for after inputs that an open peer gave
pub asked_decided : (id : ℕ) (inputs : List Input) (stream : Stream) (entries : List Entry) (left : Stream) → let begun : Standing = record { next = 0; at = session id } in
    EachAnswers begun inputs → Given Open begun stream entries inputs left → IsDecidedAsk (asked (stands_after begun inputs).next (stands_after begun inputs).at)
asked_decided id inputs stream entries left each given =
    let begun : Standing = record { next = 0; at = session id } in
    question_decided _ _ (decides_after inputs begun stream entries left (session_decides id) each given)
