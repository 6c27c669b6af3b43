use Rattle.std.proofs.Common.{◌≡◌, drop}
use Rattle.packet_stream.specs.Sent.{id_behind_all}
use Rattle.packet_stream.proofs.ids.id_behind_all.Given as goal

-- the id that comes after what is left is the one that comes after all
abbrev pub invariant-payloads : goal.invariant-payloads
invariant-payloads l = id_behind_all l.next (drop l.payload-index l.fn.payloads) ≡ id_behind_all l.fn.first l.fn.payloads
