-- Packets as lists of bytes: "MySQL Packets" and "Sending More Than 16Mb" of the MySQL client/server
-- protocol documentation. A packet is pieces laid end to end. A piece is a length in three bytes, the
-- lowest first, a sequence id and so many bytes of payload. One of 16,777,215 bytes is continued.
use Rattle.std.specs.Prelude.{◌≡◌, ◌≢◌, ℕ, zero, suc, ◌+◌, ◌-◌, ◌%◌, ◌<◌, ◌≤◌, ◌⊎◌, List, [], ◌∷◌, ◌++◌, length}
use Rattle.std.specs.List.{concat}
use Rattle.lg_base.specs.Fields.{little_text}
use Rattle.packet_frame.specs.declared.packets.Want.{Want}
use Rattle.packet_frame.specs.declared.packets.Want.TheVariants.{Exactly, Any}
use Rattle.packet_frame.specs.declared.packets.FrameFault.{FrameFault}
use Rattle.packet_frame.specs.declared.packets.FrameFault.TheVariants.{TooLarge, OutOfOrder, Memory}

-- a piece with so many bytes of payload is continued by the next one
abbrev pub full_size : ℕ
full_size = 16777215

-- sequence ids go up by one and wrap from 255 to 0
abbrev pub id_after : ℕ → ℕ
id_after id = (id + 1) % 256

-- the id so many pieces after another one
abbrev pub id_at : ℕ → ℕ → ℕ
id_at id zero = id
id_at id (suc count) = id_at (id_after id) count

abbrev pub header_text : ℕ → ℕ → List ℕ
header_text size id = little_text 3 size ++ id ∷ []

-- pieces with these payloads end to end, the first with this id
abbrev pub pieces_text : ℕ → List (List ℕ) → List ℕ
pieces_text id [] = []
pieces_text id (payload ∷ more) = header_text (length payload) id ++ (payload ++ pieces_text (id_after id) more)

abbrev pub AllFull : List (List ℕ) → Type 0
AllFull [] = Unit {0}
AllFull (payload ∷ more) = (length payload ≡ full_size) × AllFull more

-- the id is one that is wanted
abbrev pub Wants : Want → ℕ → Type 0
Wants (Exactly wanted) id = id ≡ wanted
Wants Any id = Unit {0}

-- The bytes are one packet: full pieces and one that isn't full, the ids rising from a wanted one, the
-- joined payload no longer than the limit.
pub record IsPacket (limit : ℕ) (want : Want) (first last : ℕ) (payload bytes : List ℕ) : Type 0 where
  pub full : List (List ℕ)
  pub ending : List ℕ
  pub each_full : AllFull full
  pub not_full : length ending < full_size
  pub laid_out : bytes ≡ pieces_text first (full ++ ending ∷ [])
  pub joined : payload ≡ concat (full ++ ending ∷ [])
  pub wanted : Wants want first
  pub ends_at : last ≡ id_at first (length full)
  pub fits : length payload ≤ limit

-- the first id of some full pieces is a wanted one
abbrev pub Begins : Want → ℕ → List (List ℕ) → Type 0
Begins want first [] = Unit {0}
Begins want first (_ ∷ _) = Wants want first

-- what is wanted after some full pieces
abbrev pub want_after : Want → ℕ → List (List ℕ) → Want
want_after want first [] = want
want_after want first (_ ∷ more) = Exactly (id_at (id_after first) (length more))

-- The bytes are whole full pieces that fit the limit: their payloads have so many bytes together, and
-- `next` is wanted after them.
pub record IsBegun (limit : ℕ) (want : Want) (total : ℕ) (next : Want) (bytes : List ℕ) : Type 0 where
  pub first : ℕ
  pub full : List (List ℕ)
  pub each_full : AllFull full
  pub laid_out : bytes ≡ pieces_text first full
  pub begins : Begins want first full
  pub total_is : total ≡ length (concat full)
  pub fits : total ≤ limit
  pub next_is : next ≡ want_after want first full

-- A header at a place is refused with a fault: its id isn't the wanted one, or it is and its length
-- takes the payload over the limit.
abbrev pub IsRefused : (room : ℕ) → Want → (place size id : ℕ) → FrameFault → Type 0
IsRefused room want place size id (OutOfOrder at wanted got) =
    (at ≡ place) × (want ≡ Exactly wanted) × (got ≡ id) × (id ≢ wanted)
IsRefused room want place size id (TooLarge at) = (at ≡ place) × Wants want id × (room < size)
IsRefused room want place size id Memory = ⊥

-- The bytes, whose first one stands at a place, show a fault: after whole full pieces that fit there is
-- a header that is refused.
pub record IsFault (limit : ℕ) (want : Want) (place : ℕ) (fault : FrameFault) (bytes : List ℕ) : Type 0 where
  pub before : List ℕ
  pub total : ℕ
  pub next : Want
  pub begun : IsBegun limit want total next before
  pub size : ℕ
  pub id : ℕ
  pub behind : List ℕ
  pub laid_out : bytes ≡ before ++ (header_text size id ++ behind)
  pub in_range : size < 16777216
  pub refused : IsRefused (limit - total) next (place + length before) size id fault

-- less than a header, or a header that is taken and less than its payload: so many bytes are missing
abbrev pub IsCut : (room : ℕ) → Want → (missing : ℕ) → List ℕ → Type 0
IsCut room want missing present =
    ((length present < 4) × (length present + missing ≡ 4))
    ⊎ ((size id : ℕ) × (some : List ℕ) × (present ≡ header_text size id ++ some) × (size < 16777216) × Wants want id
    × (size ≤ room) × (length some < size) × (length some + missing ≡ size))

-- The bytes are less than a packet, and show no fault. So many more bytes end the header or the piece of
-- payload that they end in.
pub record IsUnfinished (limit : ℕ) (want : Want) (missing : ℕ) (bytes : List ℕ) : Type 0 where
  pub before : List ℕ
  pub total : ℕ
  pub next : Want
  pub begun : IsBegun limit want total next before
  pub present : List ℕ
  pub laid_out : bytes ≡ before ++ present
  pub cut : IsCut (limit - total) next missing present

-- the packet with this payload and first id is added at the end, and the id after its last one is given
pub record WritesPacket (first : ℕ) (payload : List ℕ) (next : ℕ) (old new : List ℕ) : Type 0 where
  pub text : List ℕ
  pub last : ℕ
  pub added : new ≡ old ++ text
  pub packet : IsPacket (length payload) (Exactly first) first last payload text
  pub next_is : next ≡ id_after last

-- full pieces from the front of a payload were added at the end; an id and a rest of the payload are left
pub record WritesPieces (first : ℕ) (payload : List ℕ) (id : ℕ) (rest : List ℕ) (old new : List ℕ) : Type 0 where
  pub full : List (List ℕ)
  pub each_full : AllFull full
  pub split : payload ≡ concat full ++ rest
  pub id_is : id ≡ id_at first (length full)
  pub added : new ≡ old ++ pieces_text first full
