-- What an doing does, by what stands at its session's number.
use Rattle.std.proofs.Common.{◌≡◌, refl, ap, sym, ◌∙◌, subst, ℕ, ◌==◌, Bool, false, true, cond, List, [], Option, Some, None, Result, OnOk}
use Rattle.std.specs.BTreeMap.{BTreeMap, get}
use Rattle.std.specs.Ordering.{nat_cmp}
use Rattle.session_world.proofs.Taking.{same_number}
use Rattle.lg_base.specs.declared.allocation.Memory.{Memory}
use Rattle.session_engine.specs.Standing.{talk_of_session}
use Rattle.session_talk.specs.Talk.{SessionTalk}
use Rattle.session_world.specs.declared.calls.Calls.{Calls}
use Rattle.session_world.specs.declared.calls.Calls.TheVariants.{Nothing}
use Rattle.session_world.specs.declared.calls.Peer.{Peer}
use Rattle.session_world.specs.declared.held.Held.{Held}
use Rattle.session_world.specs.Going.{going}
use Rattle.world_table.specs.Table.{Common}
use Rattle.session_world.specs.Sessions.{AreBeside, Follows, ShowsBeside, put_by}
use Rattle.session_world.specs.declared.output.Output.{Output}
use Rattle.session_world.specs.Worlds.{AreAt, GoesOn, Happened, IsAt, IsIdle, Place, Shows, World, calling, going_on, idle, is_there, leaving, more_at, moved, sending, waits, with_place}

-- ## Places

-- what is put back at its place
back : (b : Bool) (q number : ℕ) (held : Option Held) (place : Place) (places : ℕ → Option Place) → (q == number) ≡ b → places number ≡ Some place →
    Shows q held (cond b (Some place) (places q)) → Shows q held (places q)
back true q number held place places here is shows =
    subst (λ (p : Option Place). Shows q held p) (sym (ap places (same_number q number here) ∙ is)) shows
back false q number held place places here is shows = shows

pub put_back : (number : ℕ) (sessions : BTreeMap ℕ Held) (places : ℕ → Option Place) (place : Place) → places number ≡ Some place →
    AreAt sessions (with_place places number place) → AreAt sessions places
put_back number sessions places place is at q = back (q == number) q number (get nat_cmp sessions q) place places refl is (at q)

-- where none is kept, all are beside
nothing_kept : (q : ℕ) (held : Option Held) → Shows q held None → held ≡ None
nothing_kept q None shows = refl
nothing_kept q (Some held) shows = absurd shows

free_by : (b : Bool) (q number : ℕ) (held : Option Held) (places : ℕ → Option Place) → (q == number) ≡ b → places number ≡ None →
    Shows q held (places q) → ShowsBeside b q held (places q)
free_by true q number held places here is shows =
    nothing_kept q held (subst (λ (p : Option Place). Shows q held p) (ap places (same_number q number here) ∙ is) shows)
free_by false q number held places here is shows = shows

pub all_beside : (number : ℕ) (sessions : BTreeMap ℕ Held) (places : ℕ → Option Place) → AreAt sessions places → places number ≡ None →
    AreBeside number sessions places
all_beside number sessions places at is q = free_by (q == number) q number (get nat_cmp sessions q) places refl is (at q)

-- ## Events

module _ (w : World) (number : ℕ) where
  module _ (calls : Calls) where
    pub called_goes : (o : Option Place) (place : Place) → o ≡ Some place → waits place.at ≡ true →
        moved w (calling w number calls o) ≡ going_on w number calls place
    called_goes o place is e = ap (λ (p : Option Place). moved w (calling w number calls p)) is
        ∙ ap (λ (b : Bool). moved w (cond b (GoesOn number place.peer [] (going place.peer calls w.common place.next place.at place.unread)) (IsIdle number))) e

    pub called_rests : (o : Option Place) (place : Place) → o ≡ Some place → waits place.at ≡ false →
        moved w (calling w number calls o) ≡ idle w number
    called_rests o place is e = ap (λ (p : Option Place). moved w (calling w number calls p)) is
        ∙ ap (λ (b : Bool). moved w (cond b (GoesOn number place.peer [] (going place.peer calls w.common place.next place.at place.unread)) (IsIdle number))) e

  module _ (bytes : List ℕ) where
    sent_by : (place : Place) → Bool → Happened
    sent_by place b = moved w (cond b (GoesOn number place.peer bytes (going place.peer Nothing w.common place.next place.at (more_at place bytes).unread)) (IsIdle number))

    pub sent_goes : (o : Option Place) (place : Place) → o ≡ Some place → is_there place.at place.peer ≡ true →
        moved w (sending w number bytes o) ≡ going_on w number Nothing (more_at place bytes)
    unfolding sent_by
    sent_goes o place is e = ap (λ (p : Option Place). moved w (sending w number bytes p)) is ∙ ap (sent_by place) e

    pub sent_rests : (o : Option Place) (place : Place) → o ≡ Some place → is_there place.at place.peer ≡ false →
        moved w (sending w number bytes o) ≡ idle w number
    unfolding sent_by
    sent_rests o place is e = ap (λ (p : Option Place). moved w (sending w number bytes p)) is ∙ ap (sent_by place) e

  module _ (peer : Peer) where
    left_by : (place : Place) → Bool → Happened
    left_by place b = moved w (cond b (GoesOn number peer [] (going peer Nothing w.common place.next place.at place.unread)) (IsIdle number))

    pub left_goes : (o : Option Place) (place : Place) → o ≡ Some place → is_there place.at place.peer ≡ true →
        moved w (leaving w number peer o) ≡ going_on w number Nothing (record place { peer = peer })
    unfolding left_by
    left_goes o place is e = ap (λ (p : Option Place). moved w (leaving w number peer p)) is ∙ ap (left_by place) e

    pub left_rests : (o : Option Place) (place : Place) → o ≡ Some place → is_there place.at place.peer ≡ false →
        moved w (leaving w number peer o) ≡ idle w number
    unfolding left_by
    left_rests o place is e = ap (λ (p : Option Place). moved w (leaving w number peer p)) is ∙ ap (left_by place) e

-- ## What is taken out

-- what stands of a session at a place is what stands there
pub waits_there : (number : ℕ) (place : Place) (held : Held) (b c : Bool) → IsAt number place held → b ≡ waits (talk_of_session held.seat.session) → b ≡ c → waits place.at ≡ c
waits_there number place held b c at e is = sym (ap waits at.talk_is) ∙ (sym e ∙ is)

pub is_there_there : (number : ℕ) (place : Place) (held : Held) (b c : Bool) → IsAt number place held →
    b ≡ is_there (talk_of_session held.seat.session) held.seat.peer → b ≡ c → is_there place.at place.peer ≡ c
is_there_there number place held b c at e is =
    sym (ap (λ (t : SessionTalk). is_there t held.seat.peer) at.talk_is ∙ ap (λ (p : Peer). is_there place.at p) at.peer_is) ∙ (sym e ∙ is)

-- what came of an doing is what another says
pub follows_so : (h other : Happened) (r : Result (Unit {0}) Memory) (common : Common) (sessions : BTreeMap ℕ Held) → other ≡ h →
    OnOk r (Follows h common sessions) → OnOk r (Follows other common sessions)
follows_so h other r common sessions e = subst (λ (x : Happened). OnOk r (Follows x common sessions)) (sym e)

pub printed_so : (h other : Happened) (r : Result (Unit {0}) Memory) (before now : Output) → other ≡ h →
    OnOk r (now ≡ put_by h before) → OnOk r (now ≡ put_by other before)
printed_so h other r before now e = subst (λ (x : Happened). OnOk r (now ≡ put_by x before)) (sym e)
