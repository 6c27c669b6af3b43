use Rattle.std.proofs.Common.{ap}
use Rattle.lg_outside.specs.Faults.{Rose}
use Rattle.serve_talk.specs.Paths.{Halts, from}
use Rattle.session_engine.specs.Standing.{talk_of_session}
use Rattle.session_serve.specs.Saying.{Broke, Said}
use Rattle.session_serve.specs.Siding.{side_of}
use Rattle.session_serve.specs.Standing.{Begins, stands_of}
use Rattle.session_talk.specs.Runs.{Standing}
use Rattle.session_talk.specs.declared.inputs.Input.TheVariants as input
use Rattle.session_serve.proofs.Goes.{if_err, if_ok}
use Rattle.session_serve.proofs.Starting.{start_answers, start_begins, start_broke}
use Rattle.session_serve.proofs.serving.begin.Goals as goal

pub give-requires-clause-answers : goal.give-requires-clause-answers
give-requires-clause-answers g c =
    (start_answers (talk_of_session c.args.session.now) c.requires.new.0 c.draw-nonce.result (ap (λ (s : Standing). s.at) c.requires.new.1)).0

pub give-requires-clause-asked : goal.give-requires-clause-asked
give-requires-clause-asked g c =
    (start_answers (talk_of_session c.args.session.now) c.requires.new.0 c.draw-nonce.result (ap (λ (s : Standing). s.at) c.requires.new.1)).1

pub returns-clause-begins : goal.returns-clause-begins
returns-clause-begins g c id is begun v clock =
    if_ok (Said (stands_of c.args.session.now) (input.Start c.draw-nonce.result) (stands_of c.give.new.session) (g.L.Link.told c.args.link.now) (g.L.Link.told c.give.new.link))
    (Begins begun id (record { link = g.L.Link.told c.args.link.now; side = side_of begun v (g.D.Draws.given c.args.draws.now) clock }) c.give.new.session (g.L.Link.told c.give.new.link) (side_of begun v (g.D.Draws.given c.draw-nonce.new.self) clock))
    c.give.result (λ asks said. start_begins c.args.session.now id is c.draw-nonce.result begun v (g.D.Draws.given c.args.draws.now) (g.D.Draws.given c.draw-nonce.new.self) clock c.draw-nonce.ensures.given (g.L.Link.told c.args.link.now) (g.L.Link.told c.give.new.link) c.give.new.session asks said) c.give.ensures.said

pub returns-clause-halts : goal.returns-clause-halts
returns-clause-halts g c id is begun v clock =
    if_err (Broke (stands_of c.args.session.now) (input.Start c.draw-nonce.result) (g.L.Link.told c.args.link.now) (g.L.Link.told c.give.new.link) (Rose (g.L.Link.fault_count c.args.link.now) (g.L.Link.fault_count c.give.new.link)))
    (Halts (from id (record { link = g.L.Link.told c.args.link.now; side = side_of begun v (g.D.Draws.given c.args.draws.now) clock })) (record { link = g.L.Link.told c.give.new.link; side = side_of begun v (g.D.Draws.given c.draw-nonce.new.self) clock }) (Rose (g.L.Link.fault_count c.args.link.now) (g.L.Link.fault_count c.give.new.link)))
    c.give.result (λ how broke. start_broke c.args.session.now id is c.draw-nonce.result begun v (g.D.Draws.given c.args.draws.now) (g.D.Draws.given c.draw-nonce.new.self) clock c.draw-nonce.ensures.given (g.L.Link.told c.args.link.now) (g.L.Link.told c.give.new.link) (Rose (g.L.Link.fault_count c.args.link.now) (g.L.Link.fault_count c.give.new.link)) how broke) c.give.ensures.broke
