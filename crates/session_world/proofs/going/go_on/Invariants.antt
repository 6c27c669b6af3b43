use Rattle.std.proofs.Common.{◌≡◌, ◌≤◌, ◌+◌, ◌*◌, length}
use Rattle.session_engine.specs.Standing.{next_of, talk_of_session}
use Rattle.session_talk.specs.Turns.{IsBegun, asked}
use Rattle.session_world.specs.Lasting.{Lasts}
use Rattle.session_world.specs.Leading.{Leads}
use Rattle.session_world.specs.Seats.{SameSeat}
use Rattle.session_world.proofs.going.go_on.Given as goal

abbrev pub invariant-turns : goal.invariant-turns
invariant-turns l = record {
  same : SameSeat l.fn.seat l.seat;
  leads : Leads l.seat.number l.seat.peer l.out l.left l.table (next_of l.seat.session) (talk_of_session l.seat.session) l.seat.inbox
      l.fn.out l.fn.calls l.fn.table (next_of l.fn.seat.session) (talk_of_session l.fn.seat.session) l.fn.seat.inbox;
  asks : l.asks ≡ asked (next_of l.seat.session) (talk_of_session l.seat.session);
  begun : IsBegun (talk_of_session l.seat.session);
  turns : l.turns ≤ 9;
  lasts : Lasts l.turns (talk_of_session l.seat.session);
}

abbrev pub decreases-turns : goal.decreases-turns
decreases-turns l = 10 * length l.seat.inbox.bytes + l.turns
