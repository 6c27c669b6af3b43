-- What a link sees of the packets that the server's end writes: whether the login is over. A packet is three bytes of
-- its payload's length, low byte first, a sequence id and the payload, and the login is over with the first packet
-- whose payload begins with the byte 00, which is an OK.
use Rattle.std.specs.Prelude.{ℕ, ◌+◌, ◌-◌, ◌*◌, ◌^◌, ◌==◌, ◌&&◌, Bool, true, false, List, fold, if◌then◌else◌, nat_lt}

-- of the present packet: how many bytes of its header were seen, its length as far as that was seen, how many bytes of
-- its payload are to come, and whether the next of these is the first; and whether the login is over
pub record Seen : Type 0 where
  pub head : ℕ
  pub size : ℕ
  pub left : ℕ
  pub is_first : Bool
  pub is_over : Bool

-- before the first byte
abbrev pub new_sight : Seen
new_sight = record { head = 0; size = 0; left = 0; is_first = false; is_over = false }

-- a byte of the payload more
abbrev pub seen_payload : Seen → ℕ → Seen
seen_payload sight byte = record {
  head = 0;
  size = 0;
  left = sight.left - 1;
  is_first = false;
  is_over = sight.is_first && byte == 0;
}

-- a byte of the header more
abbrev pub seen_header : Seen → ℕ → Seen
seen_header sight byte =
    if nat_lt sight.head 3
    then record { head = sight.head + 1; size = sight.size + byte * 256 ^ sight.head; left = 0; is_first = false; is_over = false }
    else record { head = 0; size = 0; left = sight.size; is_first = true; is_over = false }

-- a byte more
abbrev pub seen_byte : Seen → ℕ → Seen
seen_byte sight byte =
    if sight.is_over then sight
    else (if nat_lt 0 sight.left then seen_payload sight byte else seen_header sight byte)

-- bytes more
abbrev pub seen : Seen → List ℕ → Seen
seen sight bytes = fold seen_byte sight bytes
