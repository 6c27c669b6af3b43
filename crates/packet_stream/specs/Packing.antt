-- Packets as bytes, by their payloads: "MySQL Packets" and "Sending More Than 16Mb" of the MySQL client/server protocol
-- documentation.
use Rattle.std.specs.Prelude.{ℕ, zero, suc, ◌/◌, List, [], ◌∷◌, ◌++◌, length, take, drop}
use Rattle.packet_frame.specs.Packets.{full_size, pieces_text}
use Rattle.packet_stream.specs.Sent.{Sent}

-- so many full pieces from the front of a payload, and what is left of it as the last one
abbrev pub pieces_of : (count : ℕ) → List ℕ → List (List ℕ)
pieces_of zero payload = payload ∷ []
pieces_of (suc count) payload = take full_size payload ∷ pieces_of count (drop full_size payload)

-- the packet with a payload, the first piece with this id
unfoldable pub packet_text : (first : ℕ) → List ℕ → List ℕ
packet_text first payload = pieces_text first (pieces_of (length payload / full_size) payload)

-- the packets of what is sent, laid end to end
abbrev pub packets_text : List Sent → List ℕ
packets_text [] = []
packets_text (sent ∷ more) = packet_text sent.first sent.payload ++ packets_text more
