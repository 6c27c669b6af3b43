use Rattle.std.proofs.Common.{◌≡◌, ◌++◌, drop}
use Rattle.packet_stream.specs.Sent.{sent_from}
use Rattle.world_table.specs.Printing.{lines_text, send_lines}
use Rattle.world_table.proofs.printing.print_sends.Given as goal

-- what was printed and what is left are all the lines
abbrev pub invariant-payloads : goal.invariant-payloads
invariant-payloads l =
    l.out ++ lines_text l.fn.session (send_lines (sent_from l.next (drop l.payload-index l.fn.payloads)))
    ≡ l.fn.out ++ lines_text l.fn.session (send_lines (sent_from l.fn.first l.fn.payloads))
