use Rattle.std.proofs.Common.{◌≡◌, ◌++◌, ℕ, List, drop}
use Rattle.packet_stream.specs.Packing.{packets_text}
use Rattle.packet_stream.specs.Sent.{sent_from}
use Rattle.packet_stream.proofs.packing.add_each.Given as goal

-- what was added and what is left are all the packets
abbrev pub invariant-payloads : goal.invariant-payloads
invariant-payloads l =
    (l.out ++ packets_text (sent_from l.next (drop l.payload-index l.fn.payloads))
    ≡ l.fn.out ++ packets_text (sent_from l.fn.first l.fn.payloads))
    × ((more : List ℕ) × (l.out ≡ l.fn.out ++ more))
