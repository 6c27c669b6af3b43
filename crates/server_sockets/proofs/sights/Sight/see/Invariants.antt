-- The bytes so far were seen.
use Rattle.std.proofs.Common.{◌≡◌, take}
use Rattle.server_sockets.specs.Sights.{seen}
use Rattle.server_sockets.proofs.sights.Sight.see.Given as goal

abbrev pub invariant-bytes : goal.invariant-bytes
invariant-bytes l = l.self ≡ seen l.initial.self (take l.byte-index l.bytes)
