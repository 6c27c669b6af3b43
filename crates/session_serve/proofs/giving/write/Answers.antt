use Rattle.lg_outside.specs.Faults.{Rose}
use Rattle.packet_stream.specs.Packing.{packets_text}
use Rattle.packet_stream.specs.Sent.{sent_from}
use Rattle.session_serve.proofs.Speaking.{failed_cut, unwritten_cut}
use Rattle.session_serve.proofs.giving.write.Goals as goal

pub returns-in-Err-Failed-clause-cut : goal.returns-in-Err-Failed-clause-cut
returns-in-Err-Failed-clause-cut g c =
    failed_cut (packets_text (sent_from c.args.first c.args.send.now)) (g.L.Link.told c.args.link.now) (g.L.Link.told c.write_packets.new.link)
    (Rose (g.L.Link.fault_count c.args.link.now) (g.L.Link.fault_count c.write_packets.new.link)) c.in-Err-Failed.field-0 c.in-Err-Failed.ensures.cut c.in-Err-Failed.field-0-is

pub returns-in-Err-Memory-clause-cut : goal.returns-in-Err-Memory-clause-cut
returns-in-Err-Memory-clause-cut g c =
    unwritten_cut (packets_text (sent_from c.args.first c.args.send.now)) (g.L.Link.told c.args.link.now) (g.L.Link.told c.write_packets.new.link)
    (Rose (g.L.Link.fault_count c.args.link.now) (g.L.Link.fault_count c.write_packets.new.link)) c.in-Err-Memory.field-0 c.in-Err-Memory.ensures.cut c.in-Err-Memory.field-0-is
