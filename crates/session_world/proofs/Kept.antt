-- A session that is kept goes on.
use Rattle.std.proofs.Common.{◌≡◌, refl, ap, sym, ◌∙◌, subst, ℕ, Bool, true}
use Rattle.session_engine.specs.Standing.{next_of, talk_of_session}
use Rattle.interaction.specs.Talk.{Says, Hears, Asks, Over}
use Rattle.session_talk.specs.Talk.{Begins, Own, SessionTalk}
use Rattle.session_talk.specs.declared.actions.Ask.{Ask}
use Rattle.session_talk.specs.declared.actions.Ask.TheVariants as ask
use Rattle.session_talk.specs.Turns.{IsBegun, asked, question, wanted_by}
use Rattle.packet_stream.specs.Streams.{Stream}
use Rattle.session_world.specs.declared.calls.Calls.{Calls}
use Rattle.session_world.specs.declared.calls.Calls.TheVariants.{Nothing}
use Rattle.session_world.specs.declared.calls.Peer.{Peer}
use Rattle.session_world.specs.declared.calls.Peer.TheVariants as peer
use Rattle.session_world.specs.declared.turns.Seat.{Seat}
use Rattle.session_world.specs.Going.{Gone, going}
use Rattle.world_table.specs.Table.{Common}
use Rattle.session_world.specs.Leading.{Leads, LeadsTo, Rests, with_lines}
use Rattle.session_world.specs.declared.output.Output.{Output}
use Rattle.session_world.proofs.Giving.{with_none}
use Rattle.session_world.specs.Seats.{SameSeat}
use Rattle.session_world.specs.Begun.{is_begun}
use Rattle.session_world.specs.Worlds.{Place, is_call, is_end, is_open_by, is_over, is_there, no_bytes, place_of, waits}

-- what a session's going on leads to, from its place
pub record WentOn (number : ℕ) (place : Place) (calls : Calls) (before : Common) (there : Output) (new : Seat) (now : Common) (here : Output) : Type 0 where
  pub common : now ≡ (going place.peer calls before place.next place.at place.unread).common
  pub next : next_of new.session ≡ (going place.peer calls before place.next place.at place.unread).next
  pub at : talk_of_session new.session ≡ (going place.peer calls before place.next place.at place.unread).at
  pub unread : new.inbox ≡ (going place.peer calls before place.next place.at place.unread).unread
  pub printed : here ≡ with_lines number (going place.peer calls before place.next place.at place.unread).lines there

pub went_on : (number : ℕ) (place : Place) (calls : Calls) (before now : Common) (there here : Output) (old new : Seat) →
    old.number ≡ number → old.peer ≡ place.peer → next_of old.session ≡ place.next → talk_of_session old.session ≡ place.at → old.inbox ≡ place.unread →
    new.number ≡ old.number → new.peer ≡ old.peer →
    Rests new.number new.peer here now (next_of new.session) (talk_of_session new.session) new.inbox
    there calls before (next_of old.session) (talk_of_session old.session) old.inbox →
    WentOn number place calls before there new now here
went_on number place calls before now there here old new number_is peer_is next_is talk_is unread_is same_number same_peer rests =
    record {
      common = rests.common ∙ ap (λ (g : Gone). g.common) same;
      next = rests.next ∙ ap (λ (g : Gone). g.next) same;
      at = rests.at ∙ ap (λ (g : Gone). g.at) same;
      unread = rests.unread ∙ ap (λ (g : Gone). g.unread) same;
      printed = sym (with_none new.number here) ∙ (rests.printed ∙ (ap (λ (n : ℕ). with_lines n began.lines there) (same_number ∙ number_is)
          ∙ ap (λ (g : Gone). with_lines number g.lines there) same));
    }
  where
    began : Gone
    began = going new.peer calls before (next_of old.session) (talk_of_session old.session) old.inbox

    same : began ≡ going place.peer calls before place.next place.at place.unread
    same =
        ap (λ (p : Peer). going p calls before (next_of old.session) (talk_of_session old.session) old.inbox) (same_peer ∙ peer_is)
        ∙ (ap (λ (n : ℕ). going place.peer calls before n (talk_of_session old.session) old.inbox) next_is
        ∙ (ap (λ (t : SessionTalk). going place.peer calls before place.next t old.inbox) talk_is
        ∙ ap (λ (s : Stream). going place.peer calls before place.next place.at s) unread_is))

-- a session that was begun goes on as a new one does
pub begun_so : (number : ℕ) (t : SessionTalk) (before now : Common) (there here : Output) (old new : Seat) →
    old.number ≡ number → old.peer ≡ peer.Open → next_of old.session ≡ 0 → talk_of_session old.session ≡ t → old.inbox ≡ no_bytes → SameSeat old new →
    Leads new.number new.peer here Nothing now (next_of new.session) (talk_of_session new.session) new.inbox
    there Nothing before (next_of old.session) (talk_of_session old.session) old.inbox →
    LeadsTo number here (going peer.Open Nothing now (next_of new.session) (talk_of_session new.session) new.inbox)
    there (going peer.Open Nothing before 0 t no_bytes)
begun_so number t before now there here old new number_is peer_is next_is talk_is unread_is same leads =
    subst (λ (n : ℕ). LeadsTo n here (at_peer peer.Open) there (going peer.Open Nothing before 0 t no_bytes)) (same.number ∙ number_is)
    (subst (λ (p : Peer). LeadsTo new.number here (at_peer p) there (going p Nothing before 0 t no_bytes)) (same.peer ∙ peer_is)
    (subst (λ (n : ℕ). LeadsTo new.number here (at_peer new.peer) there (going new.peer Nothing before n t no_bytes)) next_is
    (subst (λ (u : SessionTalk). LeadsTo new.number here (at_peer new.peer) there (going new.peer Nothing before (next_of old.session) u no_bytes)) talk_is
    (subst (λ (s : Stream). LeadsTo new.number here (at_peer new.peer) there (going new.peer Nothing before (next_of old.session) (talk_of_session old.session) s)) unread_is leads))))
  where
    at_peer : Peer → Gone
    at_peer p = going p Nothing now (next_of new.session) (talk_of_session new.session) new.inbox

pub place_same : (session : ℕ) (a b : Output) (x y : Gone) (p : Peer) → LeadsTo session a x b y → place_of p x ≡ place_of p y
place_same session a b x y p l =
    ap (λ (n : ℕ). record { next = n; at = x.at; unread = x.unread; peer = p }) l.next
    ∙ (ap (λ (t : SessionTalk). record { next = y.next; at = t; unread = x.unread; peer = p }) l.at
    ∙ ap (λ (s : Stream). record { next = y.next; at = y.at; unread = s; peer = p }) l.unread)

-- a session waits for a call exactly where it asks for one
waits_by : (next : ℕ) (t : SessionTalk) → IsBegun t → is_call (asked next t) ≡ waits t
unfolding question wanted_by
waits_by next (Says payload t) begun = absurd begun
waits_by next (Asks (Own asked_for) k) begun = refl
waits_by next _ begun = refl

pub waits_asked : (next : ℕ) (t : SessionTalk) (asks : Ask) (b : Bool) → asks ≡ asked next t → IsBegun t → b ≡ is_call asks → b ≡ waits t
waits_asked next t asks b is begun e = e ∙ (ap is_call is ∙ waits_by next t begun)

-- the test of a session that has begun
pub begun_is : (t : SessionTalk) → is_begun t ≡ true → IsBegun t
begun_is (Says payload t) e = absurd (cc)
begun_is (Hears anew k) e = tt
begun_is (Asks Begins k) e = absurd (cc)
begun_is (Asks (Own (ask.Read want)) k) e = absurd (cc)
begun_is (Asks (Own (ask.Ended how)) k) e = absurd (cc)
begun_is (Asks _ k) e = tt
begun_is (Over how) e = tt

pub is_begun_of : (t : SessionTalk) → IsBegun t → is_begun t ≡ true
is_begun_of (Says payload t) begun = absurd begun
is_begun_of (Asks Begins k) begun = absurd begun
is_begun_of (Asks (Own (ask.Read want)) k) begun = absurd begun
is_begun_of (Asks (Own (ask.Ended how)) k) begun = absurd begun
is_begun_of _ begun = refl

-- bytes and the end still come to a session exactly where it asks for something and its peer is there
there_by : (next : ℕ) (t : SessionTalk) (p : Peer) → IsBegun t → is_open_by (asked next t) p ≡ is_there t p
unfolding question wanted_by
there_by next (Says payload t) p begun = absurd begun
there_by next (Over how) p begun = refl
there_by next (Asks (Own (ask.Ended how)) k) p begun = absurd begun
there_by next _ peer.Open begun = refl
there_by next _ peer.Closed begun = refl
there_by next _ peer.Failed begun = refl

pub peer_asked : (next : ℕ) (t : SessionTalk) (asks : Ask) (p : Peer) (b : Bool) → asks ≡ asked next t → IsBegun t → b ≡ is_open_by asks p → b ≡ is_there t p
peer_asked next t asks p b is begun e = e ∙ (ap (λ (a : Ask). is_open_by a p) is ∙ there_by next t p begun)

-- a session has ended exactly where it asks for nothing more
over_by : (next : ℕ) (t : SessionTalk) → IsBegun t → is_end (asked next t) ≡ is_over t
unfolding question wanted_by
over_by next (Says payload t) begun = absurd begun
over_by next (Asks (Own (ask.Ended how)) k) begun = absurd begun
over_by next _ begun = refl

pub over_asked : (next : ℕ) (t : SessionTalk) (asks : Ask) (b : Bool) → asks ≡ asked next t → IsBegun t → b ≡ is_end asks → b ≡ is_over t
over_asked next t asks b is begun e = e ∙ (ap is_end is ∙ over_by next t begun)
