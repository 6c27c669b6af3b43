-- What stands at the front of a list of bytes, computed.
use Rattle.std.specs.Prelude.{◌≡◌, ℕ, zero, suc, ◌+◌, ◌-◌, ◌==◌, List, [], ◌∷◌, ◌++◌, length, take, drop, nat_lt, if◌then◌else◌}
use Rattle.lg_base.specs.Fields.{little}
use Rattle.packet_frame.specs.declared.packets.Want.{Want}
use Rattle.packet_frame.specs.declared.packets.Want.TheVariants.{Exactly, Any}
use Rattle.packet_frame.specs.declared.packets.FrameFault.{FrameFault}
use Rattle.packet_frame.specs.declared.packets.FrameFault.TheVariants.{TooLarge, OutOfOrder}
use Rattle.packet_frame.specs.Packets.{full_size, id_after, IsPacket, IsFault, IsUnfinished}

-- What stands at the front: a packet and what follows it, less than a packet, of whose last header or
-- piece of payload so many bytes are missing, or a fault.
pub data Front : Type 0 where
  Whole : (first last : ℕ) → (payload behind : List ℕ) → Front
  Part : (missing : ℕ) → Front
  Fault : FrameFault → Front

-- the front of bytes, after a full piece
abbrev pub continued_front : ℕ → List ℕ → Front → Front
continued_front id payload (Whole first last more behind) = Whole id last (payload ++ more) behind
continued_front id payload (Part missing) = Part missing
continued_front id payload (Fault fault) = Fault fault

-- a header with a wanted id: the payload must fit, then it must be there, and a full piece is continued
abbrev pub sized_front : (room size id place : ℕ) → (behind : List ℕ) → Front → Front
sized_front room size id place behind more =
    if nat_lt room size then Fault (TooLarge place)
    else (if nat_lt (length behind) size then Part (size - length behind)
    else (if size == full_size then continued_front id (take size behind) more
    else Whole id id (take size behind) (drop size behind)))

-- a header: its id must be a wanted one
abbrev pub headed_front : (room : ℕ) → Want → (size id place : ℕ) → (behind : List ℕ) → Front → Front
headed_front room (Exactly wanted) size id place behind more =
    if id == wanted then sized_front room size id place behind more else Fault (OutOfOrder place wanted id)
headed_front room Any size id place behind more = sized_front room size id place behind more

-- the front of bytes, of which there are at most `most`
abbrev pub front_within : (most : ℕ) → (room : ℕ) → Want → (place : ℕ) → List ℕ → Front
front_within _ room want place [] = Part 4
front_within _ room want place (_ ∷ []) = Part 3
front_within _ room want place (_ ∷ _ ∷ []) = Part 2
front_within _ room want place (_ ∷ _ ∷ _ ∷ []) = Part 1
front_within zero room want place (_ ∷ _ ∷ _ ∷ _ ∷ _) = Part 4
front_within (suc most) room want place (a ∷ b ∷ c ∷ id ∷ behind) =
    headed_front room want (little (a ∷ b ∷ c ∷ [])) id place behind
    (front_within most (room - little (a ∷ b ∷ c ∷ [])) (Exactly (id_after id))
    (place + 4 + little (a ∷ b ∷ c ∷ [])) (drop (little (a ∷ b ∷ c ∷ [])) behind))

-- What stands at the front of bytes, whose first one stands at a place of the stream: a packet with a
-- wanted first id and at most so many bytes of payload, less than one, or a fault.
unfoldable pub front : (limit : ℕ) → Want → (place : ℕ) → List ℕ → Front
front limit want place bytes = front_within (length bytes) limit want place bytes

-- the same, said by what a packet, a fault and less than a packet are
abbrev pub IsFront : (limit : ℕ) → Want → (place : ℕ) → List ℕ → Front → Type 0
IsFront limit want place bytes (Whole first last payload behind) =
    (head : List ℕ) × (bytes ≡ head ++ behind) × IsPacket limit want first last payload head
IsFront limit want place bytes (Part missing) = IsUnfinished limit want missing bytes
IsFront limit want place bytes (Fault fault) = IsFault limit want place fault bytes

-- with further bytes behind it a packet stays that packet, and a fault stays that fault
abbrev pub StaysWith : List ℕ → Front → Front → Type 0
StaysWith more (Whole first last payload behind) longer = longer ≡ Whole first last payload (behind ++ more)
StaysWith more (Part missing) longer = Unit {0}
StaysWith more (Fault fault) longer = longer ≡ Fault fault
