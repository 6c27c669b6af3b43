use Rattle.std.proofs.Common.{refl, subst, List, ℕ, [], IfErr, OnOk}
use Rattle.lg_outside.specs.Faults.{Rose}
use Rattle.link_packets.specs.Moving.{Moved}
use Rattle.link_packets.proofs.Moves.{moved-none}
use Rattle.packet_stream.specs.Packing.{packets_text}
use Rattle.packet_stream.specs.Sent.{sent_from}
use Rattle.session_engine.specs.Standing.{next_of, talk_of_session}
use Rattle.session_serve.specs.Saying.{IsCut}
use Rattle.session_serve.specs.Standing.{stands_of}
use Rattle.session_serve.proofs.Speaking.{given_said, unheard}
use Rattle.session_serve.proofs.giving.give.Goals as goal

pub returns-in-Ok-clause-said : goal.returns-in-Ok-clause-said
returns-in-Ok-clause-said g c =
    (given_said (next_of c.args.session.now) (next_of c.take.new.session) (talk_of_session c.args.session.now) (talk_of_session c.take.new.session) c.args.given c.in-Ok.field-0 c.in-Ok.ensures.acts
    (g.L.Link.told c.args.link.now) (g.L.Link.told c.write-written.new.link) (Rose (g.L.Link.fault_count c.args.link.now) (g.L.Link.fault_count c.write-written.new.link))
    c.write-written.result c.in-Ok.field-0.ask c.finish.result refl c.finish.ensures
    (subst (λ (l : List (List ℕ)). OnOk c.write-written.result (Moved (g.L.Link.told c.args.link.now) (g.L.Link.told c.write-written.new.link) [] (packets_text (sent_from c.in-Ok.field-0.first l))))
    c.as_slice.ensures c.write-written.ensures.sent)
    (subst (λ (l : List (List ℕ)). IfErr c.write-written.result (IsCut (packets_text (sent_from c.in-Ok.field-0.first l)) (g.L.Link.told c.args.link.now) (g.L.Link.told c.write-written.new.link) (Rose (g.L.Link.fault_count c.args.link.now) (g.L.Link.fault_count c.write-written.new.link))))
    c.as_slice.ensures c.write-written.ensures.cut)).0

pub returns-in-Ok-clause-broke : goal.returns-in-Ok-clause-broke
returns-in-Ok-clause-broke g c =
    (given_said (next_of c.args.session.now) (next_of c.take.new.session) (talk_of_session c.args.session.now) (talk_of_session c.take.new.session) c.args.given c.in-Ok.field-0 c.in-Ok.ensures.acts
    (g.L.Link.told c.args.link.now) (g.L.Link.told c.write-written.new.link) (Rose (g.L.Link.fault_count c.args.link.now) (g.L.Link.fault_count c.write-written.new.link))
    c.write-written.result c.in-Ok.field-0.ask c.finish.result refl c.finish.ensures
    (subst (λ (l : List (List ℕ)). OnOk c.write-written.result (Moved (g.L.Link.told c.args.link.now) (g.L.Link.told c.write-written.new.link) [] (packets_text (sent_from c.in-Ok.field-0.first l))))
    c.as_slice.ensures c.write-written.ensures.sent)
    (subst (λ (l : List (List ℕ)). IfErr c.write-written.result (IsCut (packets_text (sent_from c.in-Ok.field-0.first l)) (g.L.Link.told c.args.link.now) (g.L.Link.told c.write-written.new.link) (Rose (g.L.Link.fault_count c.args.link.now) (g.L.Link.fault_count c.write-written.new.link))))
    c.as_slice.ensures c.write-written.ensures.cut)).1

pub returns-in-Err-clause-broke : goal.returns-in-Err-clause-broke
returns-in-Err-clause-broke g c =
    unheard (stands_of c.args.session.now) c.args.given (g.L.Link.told c.args.link.now) (Rose (g.L.Link.fault_count c.args.link.now) (g.L.Link.fault_count c.args.link.now)) c.in-Err.how
    (moved-none (g.L.Link.told c.args.link.now)) c.in-Err.ensures.failed
