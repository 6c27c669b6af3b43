-- Payloads that are sent, and their sequence ids: "Sequence ID" and "Sending More Than 16Mb" of the MySQL client/server
-- protocol documentation.
use Rattle.std.specs.Prelude.{ℕ, ◌+◌, ◌/◌, ◌%◌, List, [], ◌∷◌, length}
use Rattle.packet_frame.specs.Packets.{full_size}

-- the id that comes after a payload: one for each piece of at most 16,777,215 bytes, and wrapping from 255 to 0
abbrev pub id_behind : (first : ℕ) → List ℕ → ℕ
id_behind first payload = (first + length payload / full_size + 1) % 256

abbrev pub id_behind_all : (first : ℕ) → List (List ℕ) → ℕ
id_behind_all first [] = first
id_behind_all first (payload ∷ payloads) = id_behind_all (id_behind first payload) payloads

-- a payload with the sequence id of its first packet
pub record Sent : Type 0 where
  pub first : ℕ
  pub payload : List ℕ

-- payloads with their ids, where the first one has an id
abbrev pub sent_from : (first : ℕ) → List (List ℕ) → List Sent
sent_from first [] = []
sent_from first (payload ∷ payloads) = record { first = first; payload = payload } ∷ sent_from (id_behind first payload) payloads
