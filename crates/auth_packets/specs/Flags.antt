-- Capability flags: "Capabilities Flags" of the MySQL client/server protocol documentation.
use Rattle.std.specs.Prelude.{ℕ, ◌/◌, ◌%◌, Bool, true, not, [], ◌∷◌, ◌==◌, bit_and, IsTrue}
use Rattle.lg_base.specs.Fields.{little}
use Rattle.wire_form.specs.Fields.{Field, byte, made, ◌▸◌}

-- whether a flag is set
abbrev pub is_set : ℕ → ℕ → Bool
is_set flag flags = not (bit_and flags flag == 0)

abbrev pub CONNECT_WITH_DB : ℕ
CONNECT_WITH_DB = 0x8

abbrev pub CONNECT_ATTRS : ℕ
CONNECT_ATTRS = 0x100000

abbrev pub LENENC_CLIENT_DATA : ℕ
LENENC_CLIENT_DATA = 0x200000

-- The flags that both ends must have: PROTOCOL_41 (0x200) and SECURE_CONNECTION (0x8000) are in the second
-- byte, PLUGIN_AUTH (0x80000) is in the third.
abbrev pub second_fits : ℕ → Bool
second_fits b = bit_and b 0x82 == 0x82

abbrev pub third_fits : ℕ → Bool
third_fits b = bit_and b 0x08 == 0x08

abbrev pub HasNeeded : ℕ → Type 0
HasNeeded flags = IsTrue (second_fits (flags / 256 % 256)) × IsTrue (third_fits (flags / 256 / 256 % 256))

-- whatever it is
abbrev pub any_byte : Field ℕ
any_byte = byte (λ _. true)

-- all four bytes, the lowest first
abbrev pub flags_of : ℕ × (ℕ × (ℕ × ℕ)) → ℕ
flags_of b = little (b.0 ∷ b.1.0 ∷ b.1.1.0 ∷ b.1.1.1 ∷ [])

abbrev pub bytes_of : ℕ → ℕ × (ℕ × (ℕ × ℕ))
bytes_of n = (n % 256, (n / 256 % 256, (n / 256 / 256 % 256, n / 256 / 256 / 256 % 256)))

unfoldable pub flags : Field ℕ
flags = made flags_of bytes_of (any_byte ▸ byte second_fits ▸ byte third_fits ▸ any_byte)

-- the lower and the upper two bytes
abbrev pub half_of : ℕ × ℕ → ℕ
half_of b = little (b.0 ∷ b.1 ∷ [])

abbrev pub two_bytes : ℕ → ℕ × ℕ
two_bytes n = (n % 256, n / 256 % 256)

unfoldable pub lower_flags : Field ℕ
lower_flags = made half_of two_bytes (any_byte ▸ byte second_fits)

unfoldable pub upper_flags : Field ℕ
upper_flags = made half_of two_bytes (byte third_fits ▸ any_byte)
