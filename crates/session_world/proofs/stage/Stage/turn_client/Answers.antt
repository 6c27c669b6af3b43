use Rattle.std.proofs.Common.{◌≡◌, ⊎_elim, ap, sym, append-nil, Some, OnOk}
use Rattle.client_wire.specs.Clients.{AreClientsBeside, client_of}
use Rattle.session_world.specs.Replays.{turns}
use Rattle.session_world.specs.Staged.{Leaves}
use Rattle.session_world.specs.declared.running.Task.TheVariants.{Answers, Rests}
use Rattle.session_world.proofs.Giving.{on_ok}
use Rattle.session_world.proofs.Staging.{leaves_as, put_back}
use Rattle.session_world.proofs.Turnwise.{turns_down, turns_up, turns_without}
use Rattle.session_world.proofs.stage.Stage.turn_client.Goals as goal

pub returns-in_default : goal.returns-in_default
returns-in_default c r m =
    leaves_as _ _ _ _ _ (turns_without r c.args.number c.args.task c.requires (c.in_default.ensures r.clients m.clients).1)
    (record {
      stands = record { common = m.common; places = m.places; clients = (c.in_default.ensures r.clients m.clients).0 };
      printed = sym (append-nil c.args.out.now);
    })

pub returns-in-GoesDown : goal.returns-in-GoesDown
returns-in-GoesDown c r m =
    let taken = c.in-Some.ensures r.clients m.clients in
    on_ok c.hand_down.result (c.hand_down.ensures r (record { common = m.common; places = m.places; clients = taken.0 }))
    (leaves_as _ _ _ _ _ (turns_down r c.args.number (client_of c.in-Some.held) taken.1 c.args.task c.len.result c.in-GoesDown.is c.len.ensures))

pub returns-in-GoesUp : goal.returns-in-GoesUp
returns-in-GoesUp c r m =
    let taken = c.in-Some.ensures r.clients m.clients in
    on_ok c.bring.result (c.bring.ensures r (record { common = m.common; places = m.places; clients = taken.0 }))
    (leaves_as _ _ _ _ _ (turns_up r c.args.number (client_of c.in-Some.held) taken.1 c.args.task c.len-2.result c.in-GoesUp.is c.len-2.ensures))

pub returns-in-Answers : goal.returns-in-Answers
returns-in-Answers c r m = ⊎_elim (λ (answers : c.args.task ≡ Answers). absurd (c.requires answers)) (λ (rests : c.args.task ≡ Rests). rested rests) c.in-Answers.is
  where
    taken : AreClientsBeside c.args.number c.take.new.clients r.clients × (r.clients c.args.number ≡ Some (client_of c.in-Some.held))
    taken = c.in-Some.ensures r.clients m.clients

    rested : c.args.task ≡ Rests → OnOk c.keep.result (Leaves (turns r c.args.number c.args.task) (record { state = c.args.self.now.state; clients = c.keep.new.clients }) c.args.out.now c.args.out.now)
    rested rests = on_ok c.keep.result (c.keep.ensures r.clients taken.0)
        (λ now. leaves_as _ _ _ _ _ (ap (turns r c.args.number) rests) (record {
          stands = record { common = m.common; places = m.places; clients = put_back c.keep.new.clients r.clients c.args.number (client_of c.in-Some.held) taken.1 now };
          printed = sym (append-nil c.args.out.now);
        }))
