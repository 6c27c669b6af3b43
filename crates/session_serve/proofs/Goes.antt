-- How a session goes on, turn by turn.
use Rattle.std.proofs.Common.{◌≡◌, ◌≢◌, refl, sym, ap, ◌∙◌, subst, IsTrue, ℕ, suc, zero, ◌+◌, ◌-◌, ◌*◌, ◌≤◌, ◌^◌, ◌==◌, not, Bool, true, false, List, [], ◌∷◌, ◌++◌, length, Option, Result, Ok, Err, IfOk, IfErr, append-nil, length-append, arith}
use Rattle.lg_outside.specs.Faults.{Rose}
use Rattle.lg_outside.specs.Traffic.{Traffic}
use Rattle.account_history.specs.declared.entries.Entry.{Entry}
use Rattle.interaction.specs.Talk.{Got, Says, Hears, Asks, Over}
use Rattle.link_packets.specs.Moving.{IsAtEnd, Moved}
use Rattle.link_packets.specs.Reading as reading
use Rattle.link_packets.specs.Reading.{IsPartOf, ReadsPacket, Stops, between, longest_packet}
use Rattle.link_packets.specs.declared.reading.ReadEnd.{ReadEnd}
use Rattle.link_packets.specs.declared.reading.ReadEnd.TheVariants as read_end
use Rattle.link_packets.proofs.Moves.{moved-more, moved-none}
use Rattle.packet_frame.specs.Framing.{Framing, after_expect, front_of as framing_front, held_length, unfinished_length}
use Rattle.packet_frame.specs.Front.{Front, Whole, Part, Fault, StaysWith, front}
use Rattle.packet_frame.specs.Packets.{id_after}
use Rattle.packet_frame.specs.declared.packets.FrameFault.{FrameFault}
use Rattle.packet_frame.specs.declared.packets.FrameFault.TheVariants.{TooLarge, OutOfOrder, Memory as NoMemory}
use Rattle.packet_frame.specs.declared.packets.Packet.{Packet}
use Rattle.packet_frame.specs.declared.packets.Want.TheVariants.{Exactly}
use Rattle.packet_frame.proofs.Fronts.{front-nothing}
use Rattle.packet_stream.proofs.Longer.{stays}
use Rattle.packet_stream.specs.Streams.{IsShort, Stream, behind_of, front_of}
use Rattle.packet_stream.specs.declared.limits.TheConstants.{MAX_PAYLOAD}
use Rattle.serve_talk.specs.Fitting.{Fits, Held as Holding, MayAsk, Spending, held_after, is_call}
use Rattle.serve_talk.specs.Paths.{Anything, Halts, Loose, Point, Rested, Turned, Wrote, ahead, book_end, closed, nothing_loose, over, standing, stopped, unsaid}
use Rattle.serve_talk.specs.Serving.{IsCause}
use Rattle.serve_talk.specs.Sides.{Grew, Moment, Side, nonces_in}
use Rattle.serve_talk.specs.declared.endings.Ending.{Ending}
use Rattle.serve_talk.specs.declared.endings.Ending.TheVariants.{Told, BookEnd}
use Rattle.serve_talk.proofs.Grown.{grew_none}
use Rattle.session_talk.specs.Doable.{AsksWell, CanBeDone}
use Rattle.session_talk.specs.Given.{AddsAt, IsDone, Reads}
use Rattle.session_talk.specs.Logins.{faulted}
use Rattle.session_talk.specs.Runs.{IsLive, Standing, packets_in, stands_on}
use Rattle.session_talk.specs.Talk.{Begins, Own, SessionTalk}
use Rattle.session_talk.specs.Transcript.{Open, Peer}
use Rattle.session_talk.specs.Turns.{Adds, Answers, IsAsked, IsBegun, answers, asked, heard, is_answer, is_read, question, rest, said, wanted_by}
use Rattle.session_talk.specs.declared.actions.Ask.{Ask}
use Rattle.session_talk.specs.declared.actions.Ask.TheVariants as ask
use Rattle.session_talk.specs.declared.ends.SessionEnd.{SessionEnd}
use Rattle.session_talk.specs.declared.ends.SessionEnd.TheVariants as end
use Rattle.session_talk.specs.declared.inputs.Input.{Input}
use Rattle.session_talk.specs.declared.inputs.Input.TheVariants as input
use Rattle.session_talk.proofs.Asking.{asks_are_answered, own_answer, untrue}
use Rattle.session_talk.proofs.Putting.{asks_can_be_done}
use Rattle.session_engine.specs.Standing.{next_of, talk_of_session}
use Rattle.session_engine.specs.declared.session.Session.{Session}
use Rattle.session_serve.specs.Answering.{Answered, Fell, IsOwn, once}
use Rattle.session_serve.specs.Holding.{Keeps, held_of}
use Rattle.session_serve.specs.Saying.{Broke, IsOn, Said, due_on}
use Rattle.session_serve.specs.Saying as saying
use Rattle.session_serve.specs.Standing.{GoesOn, IsReady, point_of, stands_of}
use Rattle.session_serve.specs.declared.holding.Held.{Held}
use Rattle.shared_accounts.specs.declared.desk.Begun.{Begun}

-- ## What a talk may ask

-- a talk at an own question that fits goes on so
record GoesFitting (m n : ℕ) (h : Holding) (asks : Ask) (given : Input) (t : SessionTalk) : Type 0 where
  left : ℕ
  spent : n ≡ left + once (is_call asks)
  fits : Fits m left (held_after h asks given) t

spending : (calls : Bool) (n : ℕ) (P : ℕ → Type 0) → Spending calls n P → (left : ℕ) × (n ≡ left + once calls) × P left
spending false n P p = (n, omega arith, p)
spending true zero P p = absurd p
spending true (suc n) P p = (n, omega arith, p)

pub fits_rest : (m n : ℕ) (h : Holding) (t : SessionTalk) → Fits m n h t → Fits m n h (rest t)
unfolding rest
fits_rest m n h (Says payload t) fits = fits_rest m n h t fits
fits_rest m n h (Hears anew k) fits = fits
fits_rest m n h (Asks q k) fits = fits
fits_rest m n h (Over how) fits = fits

fits_own : (m n : ℕ) (h : Holding) (next : ℕ) (t : SessionTalk) (given : Input) → IsBegun t → IsOwn (asked next t) → Answers (asked next t) given → Fits m n h t →
    GoesFitting m n h (asked next t) given (rest (heard t given))
unfolding question heard
fits_own m n h next (Says payload t) given begun own answered fits = absurd begun
fits_own m n h next (Hears anew k) given begun own answered fits = absurd own
fits_own m n h next (Asks Begins k) given begun own answered fits = absurd begun
fits_own m n h next (Asks (Own (ask.Read want)) k) given begun own answered fits = absurd own
fits_own m n h next (Asks (Own (ask.Ended how)) k) given begun own answered fits = absurd own
fits_own m n h next (Asks (Own a) k) given begun own answered fits =
    let s = spending (is_call a) n (λ left. (g : Input) → IsTrue (answers (Own a) g) → Fits m left (held_after h a g) (k g)) fits.1 in
    record { left = s.0; spent = s.1; fits = fits_rest m s.0 (held_after h a given) (k given) (s.2 given answered.0) }
fits_own m n h next (Over how) given begun own answered fits = absurd own

fits_called : (m n : ℕ) (h : Holding) (next : ℕ) (t : SessionTalk) → IsBegun t → IsOwn (asked next t) → Fits m n h t → once (is_call (asked next t)) ≤ n
unfolding question
fits_called m n h next (Says payload t) begun own fits = absurd begun
fits_called m n h next (Hears anew k) begun own fits = absurd own
fits_called m n h next (Asks Begins k) begun own fits = absurd begun
fits_called m n h next (Asks (Own (ask.Read want)) k) begun own fits = absurd own
fits_called m n h next (Asks (Own (ask.Ended how)) k) begun own fits = absurd own
fits_called m n h next (Asks (Own a) k) begun own fits =
    let s = spending (is_call a) n (λ left. (g : Input) → IsTrue (answers (Own a) g) → Fits m left (held_after h a g) (k g)) fits.1 in
    omega (arith, s.1)
fits_called m n h next (Over how) begun own fits = absurd own

pub may_ask : (m n : ℕ) (h : Holding) (next : ℕ) (t : SessionTalk) → IsBegun t → Fits m n h t → MayAsk h (asked next t)
unfolding question
may_ask m n h next (Says payload t) begun fits = absurd begun
may_ask m n h next (Hears anew k) begun fits = tt
may_ask m n h next (Asks Begins k) begun fits = absurd begun
may_ask m n h next (Asks (Own a) k) begun fits = fits.0
may_ask m n h next (Over how) begun fits = tt

-- an ask that isn't for a packet is one of the own side, where the session goes on
pub asks_own : (next : ℕ) (t : SessionTalk) → IsBegun t → IsLive t → ((want : ℕ) → asked next t ≢ ask.Read want) → IsOwn (asked next t)
unfolding question wanted_by
asks_own next (Says payload t) begun live none = absurd begun
asks_own next (Hears anew k) begun live none = absurd (none _ refl)
asks_own next (Asks Begins k) begun live none = absurd begun
asks_own next (Asks (Own (ask.Read want)) k) begun live none = absurd begun
asks_own next (Asks (Own (ask.Ended how)) k) begun live none = absurd begun
asks_own next (Asks (Own a) k) begun live none = tt
asks_own next (Over how) begun live none = absurd live

-- what answers an own ask adds so at its talk
adds_at : (next : ℕ) (t : SessionTalk) (given : Input) (added : List Entry) → IsBegun t → IsOwn (asked next t) → Adds (Own (asked next t)) given added → AddsAt t given added
unfolding question
adds_at next (Says payload t) given added begun own adds = absurd begun
adds_at next (Hears anew k) given added begun own adds = absurd own
adds_at next (Asks Begins k) given added begun own adds = absurd begun
adds_at next (Asks (Own a) k) given added begun own adds = adds
adds_at next (Over how) given added begun own adds = absurd own

-- what answers an own ask isn't read
own_unread : (a : Ask) (given : Input) → IsOwn a → Answers a given → false ≡ is_read given
own_unread (ask.Read want) given own answered = absurd own
own_unread (ask.Ended how) given own answered = absurd own
own_unread a given own answered = (own_answer (Own a) given answered.0).1

unread_reads : (peer : Peer) (want : ℕ) (stream : Stream) (given : Input) → false ≡ is_read given → Reads peer want stream given stream
unread_reads peer want stream (input.Packet packet) unread = absurd (untrue unread)
unread_reads peer want stream (input.Frame fault) unread = absurd (untrue unread)
unread_reads peer want stream (input.End cut) unread = absurd (untrue unread)
unread_reads peer want stream input.LinkFailed unread = absurd (untrue unread)
unread_reads peer want stream _ unread = refl

unread_packets : (given : Input) → false ≡ is_read given → packets_in (given ∷ []) ≡ []
unread_packets (input.Packet packet) unread = absurd (untrue unread)
unread_packets (input.Frame fault) unread = refl
unread_packets (input.End cut) unread = refl
unread_packets input.LinkFailed unread = refl
unread_packets _ unread = refl

-- ## Nothing is left to be read

pub idle_nothing : (a : Ask) (place : ℕ) → IsDone Open a (record { place = place; bytes = [] })
idle_nothing (ask.Read want) place = (refl, (4, front-nothing MAX_PAYLOAD (Exactly want) place))
idle_nothing _ place = tt

-- ## What a session that is ready asks

pub ready_own : (session : Session) (frames : Framing) (h : Held) (asks : Ask) → IsReady session frames h asks → ((want : ℕ) → asks ≢ ask.Read want) → IsOwn asks
ready_own session frames h asks ready none =
    subst (λ (a : Ask). IsOwn a) (sym ready.asks_is)
    (asks_own (next_of session) (talk_of_session session) ready.begun ready.live (λ want same. none want (ready.asks_is ∙ same)))

pub ready_may : (session : Session) (frames : Framing) (h : Held) (asks : Ask) → IsReady session frames h asks → MayAsk (held_of h) asks
ready_may session frames h asks ready =
    subst (λ (a : Ask). MayAsk (held_of h) a) (sym ready.asks_is)
    (may_ask h.packets h.calls (held_of h) (next_of session) (talk_of_session session) ready.begun ready.fits)

pub ready_can : (session : Session) (frames : Framing) (h : Held) (asks : Ask) → IsReady session frames h asks → CanBeDone asks
ready_can session frames h asks ready =
    subst (λ (a : Ask). CanBeDone a) (sym ready.asks_is) (asks_can_be_done.asks (next_of session) (talk_of_session session) ready.begun ready.well)

-- ## By the ask

-- what answers an ask answers the same ask
pub as_asked : (begun : Begun) (a b : Ask) → a ≡ b → (h later : Held) (x y : Side) (r : Result Input Ending) → IfOk r (λ given. Answered begun b h x given later y) →
    IfOk r (λ given. Answered begun a h x given later y)
as_asked begun a b is h later x y r answered = subst (λ (c : Ask). IfOk r (λ given. Answered begun c h x given later y)) (sym is) answered

pub as_asked_one : (begun : Begun) (a b : Ask) → a ≡ b → (h later : Held) (x y : Side) (given : Input) → Answered begun b h x given later y → Answered begun a h x given later y
as_asked_one begun a b is h later x y given answered = subst (λ (c : Ask). Answered begun c h x given later y) (sym is) answered

-- ## Own turns

module _ (session later : Session) (frames : Framing) (h hold : Held) (before after : Option Traffic) (x y : Side) (begun : Begun) (asks : Ask) (ready : IsReady session frames h asks) (own : IsOwn asks) (given : Input) (a : Answered begun asks h x given hold y) where
  abbrev p : Point
  p = point_of session frames h before x

  own_asked : IsOwn (asked (next_of session) (talk_of_session session))
  own_asked = subst (λ (b : Ask). IsOwn b) ready.asks_is own

  answered_asked : Answers (asked (next_of session) (talk_of_session session)) given
  answered_asked = subst (λ (b : Ask). Answers b given) ready.asks_is a.answers

  unread : false ≡ is_read given
  unread = own_unread asks given own a.answers

  pub is_answered : IsTrue (is_answer (talk_of_session session) given) × IsAsked (talk_of_session session) given
  is_answered = asks_are_answered (next_of session) (talk_of_session session) given ready.begun answered_asked

  own_fitting : GoesFitting h.packets h.calls (held_of h) asks given (rest (heard (talk_of_session session) given))
  own_fitting =
      subst (λ (b : Ask). GoesFitting h.packets h.calls (held_of h) b given (rest (heard (talk_of_session session) given))) (sym ready.asks_is)
      (fits_own h.packets h.calls (held_of h) (next_of session) (talk_of_session session) given ready.begun own_asked answered_asked ready.fits)

  calls_left : own_fitting.left ≡ hold.calls
  calls_left = omega (arith, own_fitting.spent, a.calls_is)

  -- the session was given the answer, and stands there
  own_turned : (q : Point) (loose : Loose) → standing q ≡ stands_on (standing p) given → q.place ≡ p.place → q.held ≡ [] → q.side ≡ y → q.calls ≡ hold.calls →
      Wrote p q [] (due_on (standing p) given) loose → Turned Anything p given q loose
  own_turned q loose stands place held side calls wrote = record {
    live = ready.live;
    answers = is_answered.0;
    fits = is_answered.1;
    stands = stands;
    got = [];
    reads = λ peer more is.
        subst (λ (s : Stream). Reads peer (wanted_by p.next p.at) (ahead p ([] ++ more)) given s)
        (ap (λ (n : ℕ). let s : Stream = record { place = n; bytes = [] ++ more } in s) (sym place)
        ∙ ap (λ (l : List ℕ). let s : Stream = record { place = q.place; bytes = l ++ more } in s) (sym held))
        (unread_reads peer (wanted_by p.next p.at) (ahead p ([] ++ more)) given unread);
    added = a.added;
    adds = adds_at (next_of session) (talk_of_session session) given a.added ready.begun own_asked
        (subst (λ (b : Ask). Adds (Own b) given a.added) ready.asks_is a.adds);
    wrote = wrote;
    grew = subst (λ (s : Side). Grew x s a.added (nonces_in (given ∷ []))) (sym side) a.grew;
    spent = omega (arith, ap (λ (s : Side). s.drawn) side, a.spent, calls, own_fitting.spent, calls_left);
  }

  own_ready : (next : Ask) → stands_of later ≡ stands_on (stands_of session) given → next ≡ asked (next_of later) (talk_of_session later) → IsBegun (talk_of_session later) →
      IsLive (talk_of_session later) → IsReady later frames hold next
  own_ready next stands asks_is begun' live' = record {
    asks_is = asks_is;
    begun = begun';
    live = live';
    well = subst (λ (s : Standing). AsksWell s.at) (sym stands)
        (asks_can_be_done.goes_on (talk_of_session session) given ready.well is_answered.0);
    fits = subst (λ (s : Standing). Fits hold.packets hold.calls (held_of hold) s.at) (sym stands)
        (subst (λ (held : Holding). Fits hold.packets hold.calls held (rest (heard (talk_of_session session) given))) (sym a.held_is)
        (subst (λ (m : ℕ). Fits m hold.calls (held_after (held_of h) asks given) (rest (heard (talk_of_session session) given))) (sym a.packets_is)
        (subst (λ (n : ℕ). Fits h.packets n (held_after (held_of h) asks given) (rest (heard (talk_of_session session) given))) calls_left own_fitting.fits)));
    id = ready.id;
    reader = ready.reader;
    room = subst (λ (m : ℕ). frames.start + m * longest_packet ≤ 2 ^ 62) (sym a.packets_is) ready.room;
  }

  -- all was said
  pub own_goes_on : (next : Ask) → Said (stands_of session) given (stands_of later) before after next → GoesOn begun p later frames hold after y next
  own_goes_on next said = record {
    given = given;
    turned = own_turned (point_of later frames hold after y) nothing_loose said.stands refl refl refl refl
        (record { text = due_on (standing p) given; moved = said.moved; due_is = sym (append-nil (due_on (standing p) given)) });
    ready = own_ready next said.stands said.asks said.begun said.live;
    keeps = a.keeps;
  }

  abbrev broken_at : Point
  broken_at = record { next = (stands_on (standing p) given).next; at = (stands_on (standing p) given).at; place = p.place; held = []; calls = hold.calls; link = after; side = y }

  -- or not all
  pub own_broke : (Rises : Type 0) (how : Ending) → Broke (stands_of session) given before after Rises how → Halts p (record { link = after; side = y }) Rises how
  own_broke Rises _ (saying.over how moved is) =
      over given broken_at how
      (own_turned broken_at nothing_loose refl refl refl refl refl
      (record { text = due_on (standing p) given; moved = moved; due_is = sym (append-nil (due_on (standing p) given)) })) refl is
  own_broke Rises _ (saying.unsaid how text unwritten moved due cause) =
      let loose : Loose = record { over = []; unwritten = unwritten } in
      unsaid given broken_at loose how
      (own_turned broken_at loose refl refl refl refl refl (record { text = text; moved = moved; due_is = due })) refl cause
      (idle_nothing (asked broken_at.next broken_at.at) p.place)

-- ## The own side doesn't answer

module _ (session : Session) (frames : Framing) (h : Held) (link : Option Traffic) (x y : Side) (asks : Ask) (ready : IsReady session frames h asks) (own : IsOwn asks) where
  abbrev from_here : Point
  from_here = point_of session frames h link x

  abbrev fallen : Point
  fallen = record from_here { calls = h.calls - once (is_call asks); side = y }

  called_once : once (is_call asks) ≤ h.calls
  called_once =
      subst (λ (b : Ask). once (is_call b) ≤ h.calls) (sym ready.asks_is)
      (fits_called h.packets h.calls (held_of h) (next_of session) (talk_of_session session) ready.begun (subst (λ (b : Ask). IsOwn b) ready.asks_is own) ready.fits)

  fallen_rests : Grew x y [] [] → y.drawn ≤ x.drawn + once (is_call asks) → Rested from_here fallen nothing_loose
  fallen_rests grew spent = record {
    same = refl;
    got = [];
    held_is = λ more. refl;
    moved = moved-none link;
    none_due = refl;
    grew = grew;
    spent = omega (arith, spent, called_once);
  }

  pub fell_halts : (Rises : Type 0) (how : Ending) → Fell asks x y how → Halts from_here (record { link = link; side = y }) Rises how
  fell_halts Rises (Told end.Memory) fell =
      stopped fallen nothing_loose end.Memory (fallen_rests fell.grew fell.spent) refl tt
      (idle_nothing (asked fallen.next fallen.at) fallen.place)
  fell_halts Rises BookEnd fell =
      book_end fallen (fallen_rests fell.grew fell.spent) refl fell.fall.0
      (ap (λ (b : Ask). is_call b) (sym ready.asks_is) ∙ fell.fall.1)
  fell_halts Rises (Told _) fell = absurd fell.fall

-- ## Reading

-- a talk that waits for a packet
read_wanted : (next : ℕ) (t : SessionTalk) (want : ℕ) → IsBegun t → ask.Read want ≡ asked next t → wanted_by next t ≡ want
unfolding question wanted_by
read_wanted next (Says payload t) want begun is = absurd begun
read_wanted next (Hears anew k) want begun is = sym (same is)
  where
    same : {m n : ℕ} → ask.Read m ≡ ask.Read n → m ≡ n
    same e = cc
read_wanted next (Asks Begins k) want begun is = absurd begun
read_wanted next (Asks (Own (ask.Read other)) k) want begun is = absurd begun
read_wanted next (Asks (Own (ask.Ended how)) k) want begun is = absurd begun
read_wanted next (Asks (Own _) k) want begun is = absurd (cc)
read_wanted next (Over how) want begun is = absurd (cc)

read_adds : (next : ℕ) (t : SessionTalk) (want : ℕ) (given : Input) → IsBegun t → ask.Read want ≡ asked next t → AddsAt t given []
unfolding question wanted_by
read_adds next (Says payload t) want given begun is = absurd begun
read_adds next (Hears anew k) want given begun is = refl
read_adds next (Asks Begins k) want given begun is = absurd begun
read_adds next (Asks (Own (ask.Read other)) k) want given begun is = absurd begun
read_adds next (Asks (Own (ask.Ended how)) k) want given begun is = absurd begun
read_adds next (Asks (Own _) k) want given begun is = absurd (cc)
read_adds next (Over how) want given begun is = absurd (cc)

record ReadsFitting (m : ℕ) (h : Holding) (packet : Packet) (t : SessionTalk) : Type 0 where
  less : ℕ
  fewer : m ≡ suc less
  fits : Fits less 5 h (rest (heard t (input.Packet packet)))

fits_read : (m n : ℕ) (h : Holding) (next : ℕ) (t : SessionTalk) (want : ℕ) (packet : Packet) → IsBegun t → ask.Read want ≡ asked next t → Fits m n h t → ReadsFitting m h packet t
unfolding question wanted_by heard
fits_read m n h next (Says payload t) want packet begun is fits = absurd begun
fits_read zero n h next (Hears anew k) want packet begun is fits = absurd fits
fits_read (suc m) n h next (Hears anew k) want packet begun is fits =
    record { less = m; fewer = refl; fits = fits_rest m 5 h (k (Got packet.payload)) (fits packet.payload) }
fits_read m n h next (Asks Begins k) want packet begun is fits = absurd begun
fits_read m n h next (Asks (Own (ask.Read other)) k) want packet begun is fits = absurd begun
fits_read m n h next (Asks (Own (ask.Ended how)) k) want packet begun is fits = absurd begun
fits_read m n h next (Asks (Own _) k) want packet begun is fits = absurd (cc)
fits_read m n h next (Over how) want packet begun is fits = absurd (cc)

faulted_over : (f : FrameFault) → (how : SessionEnd) × (rest (faulted f) ≡ Over how)
unfolding rest
faulted_over (TooLarge at) = (_, refl)
faulted_over (OutOfOrder at want got) = (_, refl)
faulted_over NoMemory = (_, refl)

-- a fault ends it
pub frame_over : (t : SessionTalk) (fault : FrameFault) → IsLive t → IsTrue (is_answer t (input.Frame fault)) → (how : SessionEnd) × (rest (heard t (input.Frame fault)) ≡ Over how)
unfolding heard is_answer
frame_over (Says payload t) fault live is = absurd (untrue is)
frame_over (Hears anew k) fault live is = faulted_over fault
frame_over (Asks q k) fault live is = absurd (untrue (own_answer q (input.Frame fault) is).1)
frame_over (Over how) fault live is = absurd live

not_over : (t : SessionTalk) (how : SessionEnd) → t ≡ Over how → IsLive t → ⊥
not_over t how is live = subst (λ (u : SessionTalk). IsLive u) is live

-- a session that was given a fault doesn't go on
pub frame_ends : (s t : Standing) (fault : FrameFault) (before after : Option Traffic) (next : Ask) → IsLive s.at → IsTrue (is_answer s.at (input.Frame fault)) →
    Said s (input.Frame fault) t before after next → ⊥
frame_ends s t fault before after next live is said =
    let over_at = frame_over s.at fault live is in
    not_over t.at over_at.0 (ap (λ (u : Standing). u.at) said.stands ∙ over_at.1) said.live

-- the end of the connection says nothing
end_silent : (next : ℕ) (t : SessionTalk) (cut : Bool) → IsLive t → IsTrue (is_answer t (input.End cut)) → due_on (record { next = next; at = t }) (input.End cut) ≡ []
unfolding heard is_answer said
end_silent next (Says payload t) cut live is = absurd (untrue is)
end_silent next (Hears anew k) cut live is = refl
end_silent next (Asks q k) cut live is = absurd (untrue (own_answer q (input.End cut) is).1)
end_silent next (Over how) cut live is = absurd live

-- a reader between two packets takes another id
pub expected : (frames : Framing) (id want : ℕ) → frames ≡ between id frames.start →
    (held_length frames ≡ 0) × (after_expect (framing_front frames) frames (Exactly want) ≡ between want frames.start)
expected frames id want is =
    let part : framing_front (between id frames.start) ≡ Part 4 = front-nothing MAX_PAYLOAD (Exactly id) frames.start in (
      ap (λ (v : Framing). held_length v) is ∙ ap (λ (f : Front). unfinished_length f 0) part,
      ap (λ (v : Framing). after_expect (framing_front v) v (Exactly want)) is
          ∙ ap (λ (f : Front). after_expect f (between id frames.start) (Exactly want)) part,
    )

-- bytes were read, and then bytes were written
moved-two : (a b c : Option Traffic) (got text : List ℕ) → Moved a b got [] → Moved b c [] text → Moved a c (got ++ []) text
moved-two a b c got text first second = moved-more a b c got [] [] text first second

-- nothing more comes of a session that is over
done_at : (next : ℕ) (t : SessionTalk) (how : SessionEnd) → t ≡ Over how → (left : Stream) → IsDone Open (asked next t) left
unfolding question wanted_by
done_at next t how is left = subst (λ (u : SessionTalk). IsDone Open (asked next u) left) (sym is) tt

-- what is read answers a session that waits for a packet
pub ready_answered : (session : Session) (frames : Framing) (h : Held) (want : ℕ) → IsReady session frames h (ask.Read want) → (given : Input) → IsTrue (is_read given) →
    IsTrue (is_answer (talk_of_session session) given) × IsAsked (talk_of_session session) given
ready_answered session frames h want ready given is =
    asks_are_answered (next_of session) (talk_of_session session) given ready.begun (subst (λ (a : Ask). Answers a given) ready.asks_is is)

-- ## Faults of the link

pub rose_from : (before middle after : ℕ) → before ≤ middle → Rose middle after → Rose before after
rose_from before middle after less rose = omega (arith, less, rose)

cause_from : (R S : Type 0) → (R → S) → (how : SessionEnd) → IsCause R how → IsCause S how
cause_from R S weaker end.LinkFault cause = weaker cause
cause_from R S weaker end.Memory cause = tt
cause_from R S weaker _ cause = absurd cause

pub broke_from : (R S : Type 0) → (R → S) → (s : Standing) (given : Input) (before after : Option Traffic) (how : Ending) → Broke s given before after R how → Broke s given before after S how
broke_from R S weaker s given before after _ (saying.over how moved is) = saying.over how moved is
broke_from R S weaker s given before after _ (saying.unsaid how text unwritten moved due cause) =
    saying.unsaid how text unwritten moved due (cause_from R S weaker how cause)

pub halts_from : (R S : Type 0) → (R → S) → (p : Point) (y : Moment) (how : Ending) → Halts p y R how → Halts p y S how
halts_from R S weaker p y _ (over given z how turned same is) = over given z how turned same is
halts_from R S weaker p y _ (unsaid given z loose how turned same cause idle) = unsaid given z loose how turned same (cause_from R S weaker how cause) idle
halts_from R S weaker p y _ (closed cut z turned same at_end) = closed cut z turned same at_end
halts_from R S weaker p y _ (stopped z loose how rested same cause idle) = stopped z loose how rested same (cause_from R S weaker how cause) idle
halts_from R S weaker p y _ (book_end z rested same ended call) = book_end z rested same ended call

-- ## Results

pub if_ok : {A E : Type 0} → (P Q : A → Type 0) (r : Result A E) → ((a : A) → P a → Q a) → IfOk r P → IfOk r Q
if_ok P Q (Ok a) more is = more a is
if_ok P Q (Err e) more is = tt

pub if_err : {A E : Type 0} → (P Q : E → Type 0) (r : Result A E) → ((e : E) → P e → Q e) → IfErr r P → IfErr r Q
if_err P Q (Ok a) more is = tt
if_err P Q (Err e) more is = more e is

module _ (session : Session) (frames : Framing) (h : Held) (before : Option Traffic) (x : Side) (want : ℕ) (ready : IsReady session frames h (ask.Read want)) where
  abbrev here : Point
  here = point_of session frames h before x

  read_answered : (given : Input) → IsTrue (is_read given) → IsTrue (is_answer (talk_of_session session) given) × IsAsked (talk_of_session session) given
  read_answered given is = ready_answered session frames h want ready given is

  want_is : wanted_by here.next here.at ≡ want
  want_is = read_wanted (next_of session) (talk_of_session session) want ready.begun ready.asks_is

  -- what stands at the front of what is ahead
  found_whole : (head more : List ℕ) (first last : ℕ) (payload : List ℕ) → front MAX_PAYLOAD (Exactly want) frames.start head ≡ Whole first last payload [] →
      front_of want (ahead here (head ++ more)) ≡ Whole first last payload more
  found_whole head more first last payload is =
      subst (λ (f : Front). StaysWith more f (front_of want (ahead here (head ++ more)))) is
      (stays (record { place = frames.start; bytes = head }) more want)

  found_fault : (got more : List ℕ) (fault : FrameFault) → front MAX_PAYLOAD (Exactly want) frames.start got ≡ Fault fault →
      front_of want (ahead here (got ++ more)) ≡ Fault fault
  found_fault got more fault is =
      subst (λ (f : Front). StaysWith more f (front_of want (ahead here (got ++ more)))) is
      (stays (record { place = frames.start; bytes = got }) more want)

  -- nothing is given
  pub read_stops : (got over : List ℕ) (after : Option Traffic) (Rises : Type 0) (how : SessionEnd) → Moved before after (got ++ over) [] → IsPartOf want frames.start got →
      IsCause Rises how → Halts here (record { link = after; side = x }) Rises (Told how)
  read_stops got more after Rises how moved part cause =
      let z : Point = record here { held = got; link = after } in
      stopped z (record { over = more; unwritten = [] }) how (record {
        same = refl;
        got = got;
        held_is = λ rest. refl;
        moved = moved;
        none_due = refl;
        grew = grew_none x;
        spent = omega arith;
      }) refl cause
      (subst (λ (a : Ask). IsDone Open a (ahead z [])) ready.asks_is
      (refl, subst (λ (l : List ℕ). IsShort want (record { place = frames.start; bytes = l })) (sym (append-nil got)) (part.missing, part.found)))

  -- the peer has closed the connection
  pub read_closes : (got : List ℕ) (cut : Bool) (after : Option Traffic) (Rises : Type 0) → Moved before after got [] → IsPartOf want frames.start got → IsAtEnd after →
      cut ≡ not (length got == 0) → Halts here (record { link = after; side = x }) Rises (Told (end.PeerClosed cut))
  read_closes got cut after Rises moved part at_end cut_is =
      let stood : Standing = stands_on (standing here) (input.End cut) in
      let z : Point = record { next = stood.next; at = stood.at; place = frames.start; held = got; calls = h.calls; link = after; side = x } in
      closed cut z (record {
        live = ready.live;
        answers = (read_answered (input.End cut) refl).0;
        fits = (read_answered (input.End cut) refl).1;
        stands = refl;
        got = got;
        reads = λ peer more is.
            subst (λ (l : List ℕ). Reads peer (wanted_by here.next here.at) (ahead here (got ++ l)) (input.End cut) (ahead z l)) (sym is.1)
            (subst (λ (w : ℕ). Reads peer w (ahead here (got ++ [])) (input.End cut) (ahead z [])) (sym want_is)
            (subst (λ (l : List ℕ). Reads peer want (record { place = frames.start; bytes = l }) (input.End cut) (record { place = frames.start; bytes = l })) (sym (append-nil got))
            ((part.missing, part.found), is.0, cut_is, refl)));
        added = [];
        adds = read_adds (next_of session) (talk_of_session session) want (input.End cut) ready.begun ready.asks_is;
        wrote = record {
          text = [];
          moved = subst (λ (l : List ℕ). Moved before after l []) (sym (append-nil got)) moved;
          due_is = end_silent (next_of session) (talk_of_session session) cut ready.live (read_answered (input.End cut) refl).0;
        };
        grew = grew_none x;
        spent = omega arith;
      }) refl at_end

  abbrev faulted_at : List ℕ → FrameFault → Option Traffic → Point
  faulted_at got fault after = record {
    next = (stands_on (standing here) (input.Frame fault)).next;
    at = (stands_on (standing here) (input.Frame fault)).at;
    place = frames.start;
    held = got;
    calls = h.calls;
    link = after;
    side = x;
  }

  fault_turned : (got : List ℕ) (fault : FrameFault) (after : Option Traffic) (loose : Loose) →
      front MAX_PAYLOAD (Exactly want) frames.start got ≡ Fault fault → Wrote here (faulted_at got fault after) got (due_on (standing here) (input.Frame fault)) loose →
      Turned Anything here (input.Frame fault) (faulted_at got fault after) loose
  fault_turned got fault after loose shown wrote = record {
    live = ready.live;
    answers = (read_answered (input.Frame fault) refl).0;
    fits = (read_answered (input.Frame fault) refl).1;
    stands = refl;
    got = got;
    reads = λ peer more is.
        subst (λ (w : ℕ). Reads peer w (ahead here (got ++ more)) (input.Frame fault) (ahead (faulted_at got fault after) more)) (sym want_is)
        (found_fault got more fault shown, refl);
    added = [];
    adds = read_adds (next_of session) (talk_of_session session) want (input.Frame fault) ready.begun ready.asks_is;
    wrote = wrote;
    grew = grew_none x;
    spent = omega arith;
  }

  -- a fault is told
  pub read_breaks : (got : List ℕ) (fault : FrameFault) (between_them after : Option Traffic) (Rises : Type 0) (how : Ending) → Moved before between_them got [] →
      front MAX_PAYLOAD (Exactly want) frames.start got ≡ Fault fault → Broke (stands_of session) (input.Frame fault) between_them after Rises how →
      Halts here (record { link = after; side = x }) Rises how
  read_breaks got fault middle after Rises _ moved shown (saying.over how said is) =
      over (input.Frame fault) (faulted_at got fault after) how
      (fault_turned got fault after nothing_loose shown (record {
        text = due_on (standing here) (input.Frame fault);
        moved = moved-two before middle after got (due_on (standing here) (input.Frame fault)) moved said;
        due_is = sym (append-nil (due_on (standing here) (input.Frame fault)));
      })) refl is
  read_breaks got fault middle after Rises _ moved shown (saying.unsaid how text unwritten said due cause) =
      let over_at = frame_over (talk_of_session session) fault ready.live (read_answered (input.Frame fault) refl).0 in
      unsaid (input.Frame fault) (faulted_at got fault after) (record { over = []; unwritten = unwritten }) how
      (fault_turned got fault after (record { over = []; unwritten = unwritten }) shown (record {
        text = text;
        moved = moved-two before middle after got text moved said;
        due_is = due;
      })) refl cause
      (done_at (faulted_at got fault after).next (faulted_at got fault after).at over_at.0 over_at.1 (ahead (faulted_at got fault after) []))

  -- by the reason why no packet was read
  pub stops_failed : (after : Option Traffic) (Rises : Type 0) (e : ReadEnd) → Stops want frames.start before after Rises e → e ≡ read_end.Failed →
      Halts here (record { link = after; side = x }) Rises (Told end.LinkFault)
  stops_failed after Rises _ (reading.failed got moved part rises) is =
      read_stops got [] after Rises end.LinkFault (subst (λ (l : List ℕ). Moved before after l []) (sym (append-nil got)) moved) part rises
  stops_failed after Rises _ (reading.faulty got fault moved shows found) is = absurd (cc)
  stops_failed after Rises _ (reading.closed got cut moved part at_end cut_is) is = absurd (cc)
  stops_failed after Rises _ (reading.no_memory got more moved part) is = absurd (cc)

  pub stops_unread : (after : Option Traffic) (Rises : Type 0) (e : ReadEnd) → Stops want frames.start before after Rises e → e ≡ read_end.Memory →
      Halts here (record { link = after; side = x }) Rises (Told end.Memory)
  stops_unread after Rises _ (reading.no_memory got more moved part) is = read_stops got more after Rises end.Memory moved part tt
  stops_unread after Rises _ (reading.failed got moved part rises) is = absurd (cc)
  stops_unread after Rises _ (reading.faulty got fault moved shows found) is = absurd (cc)
  stops_unread after Rises _ (reading.closed got cut moved part at_end cut_is) is = absurd (cc)

  pub stops_closed : (after : Option Traffic) (Rises : Type 0) (cut : Bool) (e : ReadEnd) → Stops want frames.start before after Rises e → e ≡ read_end.Closed cut →
      Halts here (record { link = after; side = x }) Rises (Told (end.PeerClosed cut))
  stops_closed after Rises cut _ (reading.closed got cut' moved part at_end cut_is) is = read_closes got cut after Rises moved part at_end (sym (same is) ∙ cut_is)
    where
      same : {a b : Bool} → read_end.Closed a ≡ read_end.Closed b → a ≡ b
      same e = cc
  stops_closed after Rises cut _ (reading.failed got moved part rises) is = absurd (cc)
  stops_closed after Rises cut _ (reading.faulty got fault moved shows found) is = absurd (cc)
  stops_closed after Rises cut _ (reading.no_memory got more moved part) is = absurd (cc)

  pub stops_faulty : (middle after : Option Traffic) (R Rises : Type 0) (fault : FrameFault) (how : Ending) (e : ReadEnd) → Stops want frames.start before middle R e → e ≡ read_end.Faulty fault →
      Broke (stands_of session) (input.Frame fault) middle after Rises how → Halts here (record { link = after; side = x }) Rises how
  stops_faulty middle after R Rises fault how _ (reading.faulty got fault' moved shows found) is broke =
      read_breaks got fault middle after Rises how moved
      (subst (λ (f : FrameFault). front MAX_PAYLOAD (Exactly want) frames.start got ≡ Fault f) (same is) found) broke
    where
      same : {a b : FrameFault} → read_end.Faulty a ≡ read_end.Faulty b → a ≡ b
      same e = cc
  stops_faulty middle after R Rises fault how _ (reading.failed got moved part rises) is broke = absurd (cc)
  stops_faulty middle after R Rises fault how _ (reading.closed got cut moved part at_end cut_is) is broke = absurd (cc)
  stops_faulty middle after R Rises fault how _ (reading.no_memory got more moved part) is broke = absurd (cc)

  behind_place : (head more : List ℕ) → frames.start + length head ≡ frames.start + (length (head ++ more) - length more)
  behind_place head more = omega (arith, length-append head more)

  -- a packet is given
  module _ (hold : Held) (hold_is : hold ≡ record h { packets = h.packets - 1; calls = 5 }) (middle : Option Traffic) (packet : Packet) (now : Framing) (r : ReadsPacket want frames.start before middle packet now) where
    fitting : ReadsFitting h.packets (held_of h) packet (talk_of_session session)
    fitting = fits_read h.packets h.calls (held_of h) (next_of session) (talk_of_session session) want packet ready.begun ready.asks_is ready.fits

    start_is : now.start ≡ frames.start + length r.head
    start_is = ap (λ (v : Framing). v.start) r.now_is

    behind_is : (more : List ℕ) → (q : Point) → q.place ≡ frames.start + length r.head → q.held ≡ [] → ahead q more ≡ behind_of (ahead here (r.head ++ more)) more
    behind_is more q place held =
        ap (λ (l : List ℕ). let s : Stream = record { place = q.place; bytes = l ++ more } in s) held
        ∙ ap (λ (n : ℕ). let s : Stream = record { place = n; bytes = more } in s)
        (place ∙ behind_place r.head more)

    packet_turned : (q : Point) (loose : Loose) → standing q ≡ stands_on (standing here) (input.Packet packet) → q.place ≡ frames.start + length r.head → q.held ≡ [] → q.side ≡ x →
        q.calls ≡ 5 → Wrote here q r.head (due_on (standing here) (input.Packet packet)) loose → Turned Anything here (input.Packet packet) q loose
    packet_turned q loose stands place held side calls wrote = record {
      live = ready.live;
      answers = (read_answered (input.Packet packet) refl).0;
      fits = (read_answered (input.Packet packet) refl).1;
      stands = stands;
      got = r.head;
      reads = λ peer more is.
          subst (λ (w : ℕ). Reads peer w (ahead here (r.head ++ more)) (input.Packet packet) (ahead q more)) (sym want_is)
          (more, found_whole r.head more packet.first packet.last packet.payload r.found, r.at_is, behind_is more q place held);
      added = [];
      adds = read_adds (next_of session) (talk_of_session session) want (input.Packet packet) ready.begun ready.asks_is;
      wrote = wrote;
      grew = subst (λ (s : Side). Grew x s [] []) (sym side) (grew_none x);
      spent = omega (arith, ap (λ (s : Side). s.drawn) side, calls);
    }

    held_same : held_of hold ≡ held_of h
    held_same = ap (λ (g : Held). held_of g) hold_is

    packets_less : hold.packets ≡ fitting.less
    packets_less = omega (arith, ap (λ (g : Held). g.packets) hold_is, fitting.fewer)

    calls_five : hold.calls ≡ 5
    calls_five = ap (λ (g : Held). g.calls) hold_is

    packet_ready : (later : Session) (next : Ask) → stands_of later ≡ stands_on (stands_of session) (input.Packet packet) → next ≡ asked (next_of later) (talk_of_session later) →
        IsBegun (talk_of_session later) → IsLive (talk_of_session later) → IsReady later now hold next
    packet_ready later next stands asks_is begun' live' = record {
      asks_is = asks_is;
      begun = begun';
      live = live';
      well = subst (λ (s : Standing). AsksWell s.at) (sym stands)
          (asks_can_be_done.goes_on (talk_of_session session) (input.Packet packet) ready.well (read_answered (input.Packet packet) refl).0);
      fits = subst (λ (s : Standing). Fits hold.packets hold.calls (held_of hold) s.at) (sym stands)
          (subst (λ (held : Holding). Fits hold.packets hold.calls held (rest (heard (talk_of_session session) (input.Packet packet)))) (sym held_same)
          (subst (λ (m : ℕ). Fits m hold.calls (held_of h) (rest (heard (talk_of_session session) (input.Packet packet)))) (sym packets_less)
          (subst (λ (n : ℕ). Fits fitting.less n (held_of h) (rest (heard (talk_of_session session) (input.Packet packet)))) (sym calls_five) fitting.fits)));
      id = id_after packet.last;
      reader = r.now_is ∙ ap (λ (n : ℕ). between (id_after packet.last) n) (sym start_is);
      room = omega (arith, ready.room, start_is, r.short, packets_less, fitting.fewer);
    }

    pub packet_goes_on : (later : Session) (after : Option Traffic) (begun : Begun) (next : Ask) → Keeps begun x.seen.entries (held_of h) →
        Said (stands_of session) (input.Packet packet) (stands_of later) middle after next → GoesOn begun here later now hold after x next
    packet_goes_on later after begun next keeps said = record {
      given = input.Packet packet;
      turned = packet_turned (point_of later now hold after x) nothing_loose said.stands start_is refl refl calls_five (record {
        text = due_on (standing here) (input.Packet packet);
        moved = moved-two before middle after r.head (due_on (standing here) (input.Packet packet)) r.moved said.moved;
        due_is = sym (append-nil (due_on (standing here) (input.Packet packet)));
      });
      ready = packet_ready later next said.stands said.asks said.begun said.live;
      keeps = subst (λ (held : Holding). Keeps begun x.seen.entries held) (sym held_same) keeps;
    }

    abbrev packet_at : Option Traffic → Point
    packet_at after = record {
      next = (stands_on (standing here) (input.Packet packet)).next;
      at = (stands_on (standing here) (input.Packet packet)).at;
      place = frames.start + length r.head;
      held = [];
      calls = 5;
      link = after;
      side = x;
    }

    pub packet_broke : (after : Option Traffic) (Rises : Type 0) (how : Ending) → Broke (stands_of session) (input.Packet packet) middle after Rises how →
        Halts here (record { link = after; side = x }) Rises how
    packet_broke after Rises _ (saying.over how said is) =
        over (input.Packet packet) (packet_at after) how
        (packet_turned (packet_at after) nothing_loose refl refl refl refl refl (record {
          text = due_on (standing here) (input.Packet packet);
          moved = moved-two before middle after r.head (due_on (standing here) (input.Packet packet)) r.moved said;
          due_is = sym (append-nil (due_on (standing here) (input.Packet packet)));
        })) refl is
    packet_broke after Rises _ (saying.unsaid how text unwritten said due cause) =
        unsaid (input.Packet packet) (packet_at after) (record { over = []; unwritten = unwritten }) how
        (packet_turned (packet_at after) (record { over = []; unwritten = unwritten }) refl refl refl refl refl (record {
          text = text;
          moved = moved-two before middle after r.head text r.moved said;
          due_is = due;
        })) refl cause
        (idle_nothing (asked (packet_at after).next (packet_at after).at) (packet_at after).place)
