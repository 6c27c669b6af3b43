use Rattle.std.proofs.Common.{subst, ap, ◌∙◌, refl, ◌≡◌, IfOk, OnOk}
use Rattle.session_talk.specs.Logins as login
use Rattle.session_engine.specs.Standing.{next_of, talk_of_session}
use Rattle.session_world.specs.Going.{going}
use Rattle.session_world.specs.Worlds.{IsAt, Place, no_bytes}
use Rattle.session_world.specs.declared.calls.Calls.TheVariants as allowed
use Rattle.session_world.specs.declared.calls.Peer.TheVariants as peer
use Rattle.world_table.specs.Table.{Common}
use Rattle.session_world.specs.Leading.{LeadsTo}
use Rattle.session_world.specs.declared.held.Held.{Held}
use Rattle.session_world.specs.declared.turns.Seat.{Seat}
use Rattle.session_world.proofs.Giving.{on_ok}
use Rattle.session_world.proofs.Kept.{begun_so, place_same}
use Rattle.session_world.proofs.keeping.open.Goals as goal

-- where the session stands once it has begun
there : goal.After-go → Place
there c = record {
  next = next_of c.begin.new.seat.session;
  at = talk_of_session c.begin.new.seat.session;
  unread = c.begin.new.seat.inbox;
  peer = peer.Open;
}

stands : (c : goal.After-go) (held : Held) → held.seat ≡ c.begin.new.seat → IsAt c.args.number (there c) held
unfolding there
stands c held is = record {
  number_is = ap (λ (s : Seat). s.number) is ∙ (c.in_ok-asks.ensures {u = tt}).same.number;
  peer_is = ap (λ (s : Seat). s.peer) is ∙ (c.in_ok-asks.ensures {u = tt}).same.peer;
  next_is = ap (λ (s : Seat). next_of s.session) is;
  talk_is = ap (λ (s : Seat). talk_of_session s.session) is;
  unread_is = ap (λ (s : Seat). s.inbox) is;
}

leads : (c : goal.After-go) → LeadsTo c.args.number c.begin.new.out
    (going peer.Open allowed.Nothing c.begin.new.table (next_of c.begin.new.seat.session) (talk_of_session c.begin.new.seat.session) c.begin.new.seat.inbox)
    c.args.out.now (going peer.Open allowed.Nothing c.args.table.now 0 (login.session c.args.number) no_bytes)
leads c = begun_so c.args.number (login.session c.args.number) _ _ _ _ _ c.begin.new.seat refl refl c.new.ensures.next c.new.ensures.talk c.new-2.ensures
    (c.in_ok-asks.ensures {u = tt}).same ((c.in_ok-asks.ensures {u = tt}).leads allowed.Nothing)

pub returns-clause-there : goal.returns-clause-there
unfolding there
returns-clause-there c =
    subst (λ (p : Place). IfOk c.go.result (IsAt c.args.number p)) (place_same _ _ _ _ _ peer.Open (leads c)) (c.go.ensures.there c.args.number (there c) (stands c _ refl))

pub returns-clause-common : goal.returns-clause-common
unfolding there
returns-clause-common c =
    subst (λ (x : Common). OnOk c.go.result (c.go.new.table ≡ x)) (leads c).common (c.go.ensures.common c.args.number (there c) (stands c _ refl))

pub returns-clause-printed : goal.returns-clause-printed
unfolding there
returns-clause-printed c = on_ok c.go.result (c.go.ensures.printed c.args.number (there c) (stands c _ refl)) (λ printed. printed ∙ (leads c).printed)
