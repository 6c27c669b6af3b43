-- What is printed of a session over doings is its transcript.
use Rattle.std.proofs.Common.{◌≡◌, ◌≢◌, refl, ap, sym, ◌∙◌, subst, ℕ, ◌==◌, if◌then◌else◌, ◌⊎◌, inl, inr, Bool, true, false, List, [], ◌∷◌, ◌++◌, append-nil, append_assoc, Option, Some, None, option_to_list}
use Rattle.std.proofs.lemmas.Bool.Decides.{eqb_tells}
use Rattle.account_history.specs.declared.entries.Entry.{Entry}
use Rattle.account_history.specs.declared.entries.Opening.{Opening}
use Rattle.account_rules.specs.declared.accounts.Settings.{Settings}
use Rattle.session_talk.proofs.OverBytes.{wired_goes_on}
use Rattle.packet_stream.specs.Streams.{Stream, with_more}
use Rattle.session_talk.specs.Logins.{session}
use Rattle.session_talk.specs.declared.inputs.Input.{Input}
use Rattle.packet_stream.specs.Sent.{Sent}
use Rattle.interaction.specs.Talk.{Over}
use Rattle.session_talk.specs.Talk.{SessionTalk}
use Rattle.session_talk.specs.Transcript.{Enters, ended, read_of}
use Rattle.session_talk.specs.Wired.{Wired, after_all_sent, wired}
use Rattle.session_talk.specs.declared.ends.SessionEnd.{SessionEnd}
use Rattle.both_ends.specs.Meeting.{AreNonces}
use Rattle.session_world.specs.declared.calls.Calls.TheVariants.{Nothing}
use Rattle.session_world.specs.declared.calls.Peer.{Peer}
use Rattle.session_world.specs.declared.calls.Peer.TheVariants.{Open, Closed, Failed}
use Rattle.session_world.specs.Going.{Gone, going}
use Rattle.world_table.specs.Statements.{administered}
use Rattle.world_table.specs.Printing.{Adds, Ends, Idle, Line, Sends, Stale}
use Rattle.session_world.specs.Lines.{ends_in, entries_in, sends_in}
use Rattle.session_world.specs.Transcripts.{DoingsAreTranscripts, IsTranscript, as_told, bytes_of, lines_of, peer_at, session_bytes, session_lines}
use Rattle.session_world.specs.Worlds.{Doing, GoesOn, Move, Place, World, after_all, does, move, moved, new_world, no_bytes, place_of}
use Rattle.session_world.proofs.Entering.{EntersOver, EntersFrom, enters_goes_on}
use Rattle.session_world.proofs.Legally.{entries_append}
use Rattle.session_world.proofs.Moving.{Waits, of_doing}
use Rattle.session_world.proofs.Transcribed.{GoesAsOwed, IsLive, IsOver, goes_as_owed}

-- all bytes so far
abbrev all_of : List ℕ → Stream
all_of bytes = record { place = 0; bytes = bytes }

-- what a session owes for all bytes so far, and what its own side was answered
abbrev owed_for : (number : ℕ) → List ℕ → List Input → Wired
owed_for number bytes owns = wired 0 (session number) (all_of bytes) owns

-- a session at a place has sent and entered what is owed, and has ended where that says so
pub record Stands (number : ℕ) (place : Place) (bytes : List ℕ) (sent : List Sent) (entries : List Entry) (how : List SessionEnd) : Type 0 where
  pub owns : List Input
  pub nonces : AreNonces owns
  pub entered : EntersOver 0 (session number) (all_of bytes) owns entries
  pub sends : sent ≡ (owed_for number bytes owns).sent
  pub ends : how ≡ option_to_list (ended (as_told place.peer) (owed_for number bytes owns).at (owed_for number bytes owns).unread)
  pub stands : IsLive (owed_for number bytes owns) place.next place.at place.unread ⊎ IsOver place.at

-- a session, if there is one
abbrev pub Follows : (number : ℕ) → Option Place → List ℕ → List Sent → List Entry → List SessionEnd → Type 0
Follows number None bytes sent entries how = (bytes ≡ []) × (sent ≡ []) × (entries ≡ []) × (how ≡ [])
Follows number (Some place) bytes sent entries how = Stands number place bytes sent entries how

-- ## One session goes on

nonces_both : (owns more : List Input) → AreNonces owns → AreNonces more → AreNonces (owns ++ more)
nonces_both [] more first second = second
nonces_both (given ∷ owns) more first second = (first.0, nonces_both owns more first.1 second)

as_live : (w : Wired) (next : ℕ) (at : SessionTalk) (unread : Stream) → IsLive w next at unread →
    w ≡ record { sent = w.sent; next = next; at = at; unread = unread; unused = [] }
as_live w next at unread l = λ i. record { sent = w.sent; next = l.next_is i; at = l.at_is i; unread = l.unread_is i; unused = l.unused_is i }

not_over : (peer : Peer) (at : SessionTalk) (stream : Stream) → IsOver at → ended (as_told peer) at stream ≡ None → ⊥
not_over Open (Over how) stream over e = absurd (cc)
not_over Closed (Over how) stream over e = absurd (cc)
not_over Failed (Over how) stream over e = absurd (cc)
not_over peer _ stream over e = absurd over

module _ (number : ℕ) (place : Place) (bytes more : List ℕ) (sent : List Sent) (entries : List Entry) (how : List SessionEnd)
    (x : Stands number place bytes sent entries how) (ready : Waits place) (peer : Peer) (g : Gone)
    (y : GoesAsOwed peer place.next place.at (with_more place.unread more) g) where
  abbrev before : Wired
  before = owed_for number bytes x.owns

  -- what is owed from the place on
  abbrev onward : Wired
  onward = wired place.next place.at (with_more place.unread more) y.owns

  abbrev whole : Wired
  whole = owed_for number (bytes ++ more) (x.owns ++ y.owns)

  -- where it stood
  abbrev stood : Wired
  stood = record { sent = before.sent; next = place.next; at = place.at; unread = place.unread; unused = [] }

  module _ (l : IsLive before place.next place.at place.unread) where
    is_stood : before ≡ stood
    is_stood = as_live before place.next place.at place.unread l

    is_whole : whole ≡ after_all_sent before.sent onward
    is_whole =
        wired_goes_on 0 (session number) (all_of bytes) more x.owns y.owns
        ∙ ap (λ (w : Wired). after_all_sent before.sent (wired w.next w.at (with_more w.unread more) (w.unused ++ y.owns))) is_stood

    goes_live : (IsLive onward g.next g.at g.unread ⊎ IsOver g.at) → IsLive whole g.next g.at g.unread ⊎ IsOver g.at
    goes_live (inl now) = inl (record {
      next_is = ap (λ (w : Wired). w.next) is_whole ∙ now.next_is;
      at_is = ap (λ (w : Wired). w.at) is_whole ∙ now.at_is;
      unread_is = ap (λ (w : Wired). w.unread) is_whole ∙ now.unread_is;
      unused_is = ap (λ (w : Wired). w.unused) is_whole ∙ now.unused_is;
    })
    goes_live (inr over) = inr over

    -- it hadn't ended
    no_end : how ≡ []
    no_end =
        x.ends
        ∙ (ap (λ (w : Wired). option_to_list (ended (as_told place.peer) w.at w.unread)) is_stood
        ∙ ap (λ (e : Option SessionEnd). option_to_list e) (ready place.unread))

    live_on : Stands number (place_of peer g) (bytes ++ more) (sent ++ sends_in g.lines) (entries ++ entries_in g.lines) (how ++ ends_in g.lines)
    live_on = record {
      owns = x.owns ++ y.owns;
      nonces = nonces_both x.owns y.owns x.nonces y.nonces;
      entered = enters_goes_on 0 (session number) (all_of bytes) more x.owns y.owns entries (entries_in g.lines) x.entered
          (subst (λ (w : Wired). EntersFrom w more y.owns (entries_in g.lines)) (sym is_stood) y.entered);
      sends = ap (λ (s : List Sent). s ++ sends_in g.lines) x.sends
          ∙ (ap (λ (s : List Sent). before.sent ++ s) y.sends ∙ sym (ap (λ (w : Wired). w.sent) is_whole));
      ends = ap (λ (e : List SessionEnd). e ++ ends_in g.lines) no_end
          ∙ (y.ends ∙ sym (ap (λ (w : Wired). option_to_list (ended (as_told peer) w.at w.unread)) is_whole));
      stands = goes_live y.stands;
    }

  by_stands : (IsLive before place.next place.at place.unread ⊎ IsOver place.at) →
      Stands number (place_of peer g) (bytes ++ more) (sent ++ sends_in g.lines) (entries ++ entries_in g.lines) (how ++ ends_in g.lines)
  by_stands (inl l) = live_on l
  by_stands (inr over) = absurd (not_over place.peer place.at place.unread over (ready place.unread))

  pub stands_on : Stands number (place_of peer g) (bytes ++ more) (sent ++ sends_in g.lines) (entries ++ entries_in g.lines) (how ++ ends_in g.lines)
  stands_on = by_stands x.stands

-- a session begins
begins : (number : ℕ) (peer : Peer) (g : Gone) → GoesAsOwed peer 0 (session number) (all_of []) g →
    Stands number (place_of peer g) [] (sends_in g.lines) (entries_in g.lines) (ends_in g.lines)
begins number peer g y = record { owns = y.owns; nonces = y.nonces; entered = y.entered; sends = y.sends; ends = y.ends; stands = y.stands }

-- ## Lists

pub sends_append : (lines more : List Line) → sends_in (lines ++ more) ≡ sends_in lines ++ sends_in more
sends_append [] more = refl
sends_append (Sends sent ∷ lines) more = ap (λ (rest : List Sent). sent ∷ rest) (sends_append lines more)
sends_append (Adds number entry ∷ lines) more = sends_append lines more
sends_append (Stale ∷ lines) more = sends_append lines more
sends_append (Ends how ∷ lines) more = sends_append lines more
sends_append (Idle ∷ lines) more = sends_append lines more

pub ends_append : (lines more : List Line) → ends_in (lines ++ more) ≡ ends_in lines ++ ends_in more
ends_append [] more = refl
ends_append (Sends sent ∷ lines) more = ends_append lines more
ends_append (Adds number entry ∷ lines) more = ends_append lines more
ends_append (Stale ∷ lines) more = ends_append lines more
ends_append (Ends how ∷ lines) more = ap (λ (rest : List SessionEnd). how ∷ rest) (ends_append lines more)
ends_append (Idle ∷ lines) more = ends_append lines more

-- what follows, by bytes and lines
abbrev pub FollowsLines : (number : ℕ) → Option Place → List ℕ → List Line → Type 0
FollowsLines number found bytes lines = Follows number found bytes (sends_in lines) (entries_in lines) (ends_in lines)

same_place : (number : ℕ) (found : Option Place) (bytes bytes' : List ℕ) (sent sent' : List Sent) (entries entries' : List Entry) (how how' : List SessionEnd) →
    bytes ≡ bytes' → sent ≡ sent' → entries ≡ entries' → how ≡ how' →
    Follows number found bytes sent entries how → Follows number found bytes' sent' entries' how'
same_place number found bytes bytes' sent sent' entries entries' how how' b s e h f =
    subst (λ (x : List SessionEnd). Follows number found bytes' sent' entries' x) h
    (subst (λ (x : List Entry). Follows number found bytes' sent' x how) e
    (subst (λ (x : List Sent). Follows number found bytes' x entries how) s
    (subst (λ (x : List ℕ). Follows number found x sent entries how) b f)))

-- the lines of going on come after those before
with_lines : (number : ℕ) (found : Option Place) (bytes : List ℕ) (lines more : List Line) →
    Follows number found bytes (sends_in lines ++ sends_in more) (entries_in lines ++ entries_in more) (ends_in lines ++ ends_in more) →
    FollowsLines number found bytes (lines ++ more)
with_lines number found bytes lines more f =
    same_place number found bytes bytes _ _ _ _ _ _ refl (sym (sends_append lines more)) (sym (entries_append lines more)) (sym (ends_append lines more)) f

-- ## An doing

module _ (w : World) (number : ℕ) (is_session : number ≢ 0) (bytes : List ℕ) (lines : List Line) (follows : FollowsLines number (w.places number) bytes lines) where
  abbrev AfterMove : Move → Type 0
  AfterMove m = FollowsLines number ((moved w m).world.places number) (bytes ++ bytes_of number m) (lines ++ lines_of number m)

  -- nothing for this session
  nothing : (found : Option Place) → FollowsLines number found bytes lines → FollowsLines number found (bytes ++ []) (lines ++ [])
  nothing found f = subst (λ (bs : List ℕ). FollowsLines number found bs (lines ++ [])) (sym (append-nil bytes))
      (subst (λ (ls : List Line). FollowsLines number found bytes ls) (sym (append-nil lines)) f)

  idle_follows : (test : Bool) → FollowsLines number (w.places number) (bytes ++ []) (lines ++ (if test then Idle ∷ [] else []))
  idle_follows false = nothing (w.places number) follows
  idle_follows true = with_lines number (w.places number) (bytes ++ []) lines (Idle ∷ [])
      (same_place number (w.places number) _ _ _ _ _ _ _ _ (sym (append-nil bytes)) (sym (append-nil (sends_in lines)))
      (sym (append-nil (entries_in lines))) (sym (append-nil (ends_in lines))) follows)

  -- what stands under the number 0 is of no session
  apart : (others : List Line) → FollowsLines number (w.places number) (bytes ++ []) (lines ++ (if number == 0 then others else []))
  apart others = by (eqb_tells number 0)
    where
      by : (((number == 0) ≡ true) × (number ≡ 0)) ⊎ (((number == 0) ≡ false) × (number ≢ 0)) →
          FollowsLines number (w.places number) (bytes ++ []) (lines ++ (if number == 0 then others else []))
      by (inl e) = absurd (is_session e.1)
      by (inr e) = subst (λ (test : Bool). FollowsLines number (w.places number) (bytes ++ []) (lines ++ (if test then others else []))) (sym e.0)
          (nothing (w.places number) follows)

  abbrev AfterGoing : (peer : Peer) (more : List ℕ) → Gone → Bool → Type 0
  AfterGoing peer more g test = FollowsLines number (if test then Some (place_of peer g) else w.places number)
      (bytes ++ (if test then more else [])) (lines ++ (if test then g.lines else []))

  -- the doing is for this session or for another
  by_number : (other : ℕ) (peer : Peer) (more : List ℕ) (g : Gone) →
      (number ≡ other → FollowsLines number (Some (place_of peer g)) (bytes ++ more) (lines ++ g.lines)) →
      (((number == other) ≡ true) × (number ≡ other)) ⊎ (((number == other) ≡ false) × (number ≢ other)) →
      AfterGoing peer more g (number == other)
  by_number other peer more g on (inl e) = subst (AfterGoing peer more g) (sym e.0) (on e.1)
  by_number other peer more g on (inr e) = subst (AfterGoing peer more g) (sym e.0) (nothing (w.places number) follows)

  opens_here : (g : Gone) → GoesAsOwed Open 0 (session number) (all_of []) g → w.places number ≡ None →
      FollowsLines number (Some (place_of Open g)) (bytes ++ []) (lines ++ g.lines)
  opens_here g y e =
      let f : Follows number None bytes (sends_in lines) (entries_in lines) (ends_in lines) =
      subst (λ (found : Option Place). FollowsLines number found bytes lines) e follows in
      with_lines number (Some (place_of Open g)) (bytes ++ []) lines g.lines
      (same_place number (Some (place_of Open g)) [] (bytes ++ []) (sends_in g.lines) _ (entries_in g.lines) _ (ends_in g.lines) _
      (sym (append-nil bytes ∙ f.0)) (ap (λ (s : List Sent). s ++ sends_in g.lines) (sym f.1))
      (ap (λ (es : List Entry). es ++ entries_in g.lines) (sym f.2)) (ap (λ (hs : List SessionEnd). hs ++ ends_in g.lines) (sym f.3))
      (begins number Open g y))

  goes_here : (place : Place) (peer : Peer) (more : List ℕ) (g : Gone) → GoesAsOwed peer place.next place.at (with_more place.unread more) g →
      w.places number ≡ Some place → Waits place → FollowsLines number (Some (place_of peer g)) (bytes ++ more) (lines ++ g.lines)
  goes_here place peer more g y e ready =
      with_lines number (Some (place_of peer g)) (bytes ++ more) lines g.lines
      (stands_on number place bytes more (sends_in lines) (entries_in lines) (ends_in lines)
      (subst (λ (found : Option Place). FollowsLines number found bytes lines) e follows) ready peer g y)

  opens_at : (other : ℕ) (g : Gone) → GoesAsOwed Open 0 (session other) (all_of []) g → w.places other ≡ None → AfterMove (GoesOn other Open [] g)
  opens_at other g y e = by_number other Open [] g
      (λ is. opens_here g (subst (λ (n : ℕ). GoesAsOwed Open 0 (session n) (all_of []) g) (sym is) y)
      (subst (λ (n : ℕ). w.places n ≡ None) (sym is) e)) (eqb_tells number other)

  goes_at : (other : ℕ) (place : Place) (peer : Peer) (more : List ℕ) (g : Gone) → GoesAsOwed peer place.next place.at (with_more place.unread more) g →
      w.places other ≡ Some place → Waits place → AfterMove (GoesOn other peer more g)
  goes_at other place peer more g y e ready = by_number other peer more g
      (λ is. goes_here place peer more g y (subst (λ (n : ℕ). w.places n ≡ Some place) (sym is) e) ready) (eqb_tells number other)

  after_doing : (doing : Doing) → AfterMove (move w doing)
  after_doing doing = of_doing w AfterMove (record {
    sets = λ common same. nothing (w.places number) follows;
    executes = λ statement. apart (administered w.common statement).lines;
    idles = λ other. idle_follows (number == other);
    opens = λ other e. opens_at other (going Open Nothing w.common 0 (session other) no_bytes) (goes_as_owed Open Nothing w.common 0 (session other) no_bytes) e;
    goes = λ other place peer calls more e ready.
        goes_at other place peer more (going peer calls w.common place.next place.at (with_more place.unread more))
        (goes_as_owed peer calls w.common place.next place.at (with_more place.unread more)) e ready;
  }) doing

-- ## All doings

follow_all : (w : World) (doings : List Doing) (number : ℕ) → number ≢ 0 → (bytes : List ℕ) (lines : List Line) → FollowsLines number (w.places number) bytes lines →
    FollowsLines number ((after_all w doings).places number) (bytes ++ session_bytes number w doings) (lines ++ session_lines number w doings)
follow_all w [] number is_session bytes lines f = nothing w number is_session bytes lines f (w.places number) f
follow_all w (first ∷ doings) number is_session bytes lines f =
    subst (λ (bs : List ℕ). FollowsLines number ((after_all w (first ∷ doings)).places number) bs (lines ++ session_lines number w (first ∷ doings)))
    (append_assoc bytes (bytes_of number (move w first)) (session_bytes number (does w first).world doings))
    (subst (λ (ls : List Line). FollowsLines number ((after_all w (first ∷ doings)).places number) ((bytes ++ bytes_of number (move w first)) ++ session_bytes number (does w first).world doings) ls)
    (append_assoc lines (lines_of number (move w first)) (session_lines number (does w first).world doings))
    (follow_all (does w first).world doings number is_session (bytes ++ bytes_of number (move w first)) (lines ++ lines_of number (move w first))
    (after_doing w number is_session bytes lines f first)))

-- it is a transcript, and each nonce in it has 20 bytes
pub record IsNonced (number : ℕ) (peer : Peer) (bytes : List ℕ) (lines : List Line) : Type 0 where
  pub transcript : IsTranscript number peer bytes lines
  pub nonces : AreNonces transcript.is.owns

transcript_of : (number : ℕ) (found : Option Place) (bytes : List ℕ) (lines : List Line) → FollowsLines number found bytes lines →
    IsNonced number (peer_at found) bytes lines
unfolding wired read_of Enters
transcript_of number None bytes lines f = record {
  transcript = record {
    how = None;
    ends = f.3;
    is = record { owns = []; entered = (refl, f.2); sends = f.1; ends = refl };
  };
  nonces = tt;
}
transcript_of number (Some place) bytes lines f = record {
  transcript = record {
    how = ended (as_told place.peer) (owed_for number bytes f.owns).at (owed_for number bytes f.owns).unread;
    ends = f.ends;
    is = record { owns = f.owns; entered = f.entered; sends = f.sends; ends = refl };
  };
  nonces = f.nonces;
}

pub nonced_transcripts : (openings : List Opening) (settings : Settings) (doings : List Doing) (number : ℕ) → number ≢ 0 →
    let w = new_world openings settings in
    IsNonced number (peer_at ((after_all w doings).places number)) (session_bytes number w doings) (session_lines number w doings)
nonced_transcripts openings settings doings number is_session =
    let w : World = new_world openings settings in
    transcript_of number ((after_all w doings).places number) (session_bytes number w doings) (session_lines number w doings)
    (follow_all w doings number is_session [] [] (refl, refl, refl, refl))

pub sessions_are_transcripts : DoingsAreTranscripts
sessions_are_transcripts openings settings doings number is_session = (nonced_transcripts openings settings doings number is_session).transcript
