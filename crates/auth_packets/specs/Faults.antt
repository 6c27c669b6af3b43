-- The faults of a payload that is read.
use Rattle.std.specs.Prelude.{ℕ, Option, Some, None}
use Rattle.auth_packets.specs.declared.fault.PacketFault.{PacketFault}
use Rattle.auth_packets.specs.declared.fault.PacketFault.TheVariants.{Malformed, Memory}

-- where a payload is malformed
abbrev pub malformed_at : PacketFault → Option ℕ
malformed_at (Malformed at) = Some at
malformed_at Memory = None

-- the fault tells of the payload: it isn't want of memory
abbrev pub IsTold : PacketFault → Type 0
IsTold (Malformed at) = Unit {0}
IsTold Memory = ⊥
