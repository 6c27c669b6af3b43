use Rattle.std.proofs.Common.{◌≡◌, ap, ◌∙◌, subst, List, ℕ, [], ◌++◌, take}
use Rattle.link_packets.specs.Moving.{Moved}
use Rattle.link_packets.specs.Writing.{cut, unwritten}
use Rattle.link_packets.proofs.Moves.{moved-none, sent-part}
use Rattle.link_packets.proofs.writing.write_packets.Goals as goal
use Rattle.packet_stream.specs.Packing.{packets_text}
use Rattle.packet_stream.specs.Sent.{sent_from}

pub returns-in-Err-clause-cut : goal.returns-in-Err-clause-cut
returns-in-Err-clause-cut g c = unwritten (moved-none (g.L.Link.told c.args.link.now))

pub returns-clause-cut : goal.returns-clause-cut
returns-clause-cut g c =
    let text-is : c.as_slice.result.now ≡ packets_text (sent_from c.args.first c.args.payloads.now) =
    c.as_slice.ensures ∙ c.in-Ok.ensures.text ∙ ap (λ (old : List ℕ). old ++ packets_text (sent_from c.args.first c.args.payloads.now)) c.new-text.ensures in
    let part = sent-part (g.L.Link.told c.args.link.now) (g.L.Link.told c.write_all.new.self) c.in-Err-write_all.field-0 c.as_slice.result.now c.in-Err-write_all.ensures.bytes in
    cut part.0
    (subst (λ (bytes : List ℕ). Moved (g.L.Link.told c.args.link.now) (g.L.Link.told c.write_all.new.self) [] (take part.0 bytes)) text-is part.1)
    c.in-Err-write_all.ensures.cause
