-- What ends an exchange: "Generic Response Packets" of the MySQL client/server protocol documentation, its
-- OK_Packet, ERR_Packet and EOF_Packet.
use Rattle.std.specs.Prelude.{ℕ, Bool, false, List, [], ◌∷◌, ◌++◌, ◌==◌, Option, Some, None, codes}
use Rattle.lg_base.specs.Fields.{little_text, lenenc_text}
use Rattle.wire_form.specs.Fields.{number, mark, bytes, lenenc, ◌▸◌}
use Rattle.wire_form.specs.Forms.{Form, rest, nothing, ◌▹◌, whole, by_first, either}
use Rattle.auth_packets.specs.declared.replies.OkPacket.{OkPacket}
use Rattle.auth_packets.specs.declared.replies.ErrPacket.{ErrPacket}
use Rattle.auth_packets.specs.declared.replies.EofPacket.{EofPacket}

-- ## OK

-- 00, the number of rows and the last id, status, warnings
abbrev pub OkParts : Type 0
OkParts = (Unit {0} × (ℕ × (ℕ × (ℕ × ℕ)))) × List ℕ

abbrev pub ok_of : OkParts → OkPacket
ok_of p = record {
  affected = p.0.1.0;
  last_id = p.0.1.1.0;
  status = p.0.1.1.1.0;
  warnings = p.0.1.1.1.1;
  info = p.1;
}

abbrev pub ok_parts : OkPacket → OkParts
ok_parts v = ((tt, (v.affected, (v.last_id, (v.status, v.warnings)))), v.info)

unfoldable pub ok_packet : Form OkPacket
ok_packet = whole ok_of ok_parts ((mark 0x00 ▸ lenenc ▸ lenenc ▸ number 2 ▸ number 2) ▹ rest)

unfoldable pub ok_text : OkPacket → List ℕ
ok_text v = 0x00 ∷ [] ++ lenenc_text v.affected ++ lenenc_text v.last_id ++ little_text 2 v.status
    ++ little_text 2 v.warnings ++ v.info

-- ## ERR

-- behind `#` stand a state and the text; without it all is text, and the state is HY000
abbrev pub StateAndText : Type 0
StateAndText = List ℕ × List ℕ

abbrev pub with_state : Form StateAndText
with_state = whole (λ v. v.1) (λ v. (tt, v)) (mark 0x23 ▹ bytes 5 ▹ rest)

abbrev pub without_state : Form StateAndText
without_state = whole (λ text. (codes "HY000", text)) (λ v. v.1) rest

abbrev pub is_hash : Option ℕ → Bool
is_hash (Some b) = b == 0x23
is_hash None = false

unfoldable pub state_and_text : Form StateAndText
state_and_text = by_first (λ b. either (is_hash b) with_state without_state) (λ v. Some 0x23)

-- ff, the number, state and text
abbrev pub ErrParts : Type 0
ErrParts = (Unit {0} × ℕ) × StateAndText

abbrev pub err_of : ErrParts → ErrPacket
err_of p = record { number = p.0.1; state = p.1.0; text = p.1.1 }

abbrev pub err_parts : ErrPacket → ErrParts
err_parts v = ((tt, v.number), (v.state, v.text))

unfoldable pub err_packet : Form ErrPacket
err_packet = whole err_of err_parts ((mark 0xff ▸ number 2) ▹ state_and_text)

unfoldable pub err_text : ErrPacket → List ℕ
err_text v = 0xff ∷ [] ++ little_text 2 v.number ++ 0x23 ∷ [] ++ v.state ++ v.text

-- ## EOF

-- fe, warnings, status
abbrev pub EofParts : Type 0
EofParts = (Unit {0} × (ℕ × ℕ)) × Unit {0}

abbrev pub eof_of : EofParts → EofPacket
eof_of p = record { warnings = p.0.1.0; status = p.0.1.1 }

abbrev pub eof_parts : EofPacket → EofParts
eof_parts v = ((tt, (v.warnings, v.status)), tt)

unfoldable pub eof_packet : Form EofPacket
eof_packet = whole eof_of eof_parts ((mark 0xfe ▸ number 2 ▸ number 2) ▹ nothing)

unfoldable pub eof_text : EofPacket → List ℕ
eof_text v = 0xfe ∷ [] ++ little_text 2 v.warnings ++ little_text 2 v.status
