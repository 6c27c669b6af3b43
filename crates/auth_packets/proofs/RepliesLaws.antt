-- OK, ERR and EOF meet the laws of forms.
use Rattle.std.proofs.Common.{ℕ, ◌<◌, List, [], codes, Result, refl, arith}
use Rattle.std.proofs.lemmas.List.Elements.{All-nil}
use Rattle.wire_form.specs.Payloads.{Gives, IsReadAs, start}
use Rattle.wire_form.proofs.Laws.{IsForm}
use Rattle.wire_form.proofs.Numbers.{number-lawful, bytes-lawful}
use Rattle.wire_form.proofs.Lenenc.{lenenc-lawful}
use Rattle.wire_form.proofs.Made.{mark-lawful, ▸-lawful}
use Rattle.wire_form.proofs.Whole.{rest-lawful, nothing-lawful, whole-lawful, either-lawful, by_first-lawful, ▹-lawful}
use Rattle.wire_form.proofs.Payloads.{read_as}
use Rattle.auth_packets.specs.Faults.{malformed_at}
use Rattle.auth_packets.specs.Replies.{ok_packet, err_packet, eof_packet, with_state, without_state, state_and_text, is_hash}
use Rattle.auth_packets.specs.declared.fault.PacketFault.{PacketFault}
use Rattle.auth_packets.specs.declared.replies.OkPacket.{OkPacket}
use Rattle.auth_packets.specs.declared.replies.ErrPacket.{ErrPacket}
use Rattle.auth_packets.specs.declared.replies.EofPacket.{EofPacket}

pub ok-lawful : IsForm ok_packet
unfolding ok_packet
ok-lawful = whole-lawful _ _ _ (▹-lawful _ _ (▸-lawful _ _ (mark-lawful 0x00 (omega arith)) (▸-lawful _ _ lenenc-lawful
    (▸-lawful _ _ lenenc-lawful (▸-lawful _ _ (number-lawful 2) (number-lawful 2))))) rest-lawful)

with_state-lawful : IsForm with_state
with_state-lawful = whole-lawful _ _ _ (▹-lawful _ _ (mark-lawful 0x23 (omega arith)) (▹-lawful _ _ (bytes-lawful 5) rest-lawful))

without_state-lawful : IsForm without_state
without_state-lawful = whole-lawful _ _ _ rest-lawful

state_and_text-lawful : IsForm state_and_text
unfolding state_and_text
state_and_text-lawful = by_first-lawful _ _
    (λ o. either-lawful (is_hash o) with_state without_state with_state-lawful without_state-lawful)
    ((codes "HY000", []), [], All-nil (λ x. x < 256), ([], refl, refl))

pub err-lawful : IsForm err_packet
unfolding err_packet
err-lawful = whole-lawful _ _ _ (▹-lawful _ _ (▸-lawful _ _ (mark-lawful 0xff (omega arith)) (number-lawful 2)) state_and_text-lawful)

pub eof-lawful : IsForm eof_packet
unfolding eof_packet
eof-lawful = whole-lawful _ _ _ (▹-lawful _ _ (▸-lawful _ _ (mark-lawful 0xfe (omega arith)) (▸-lawful _ _ (number-lawful 2) (number-lawful 2))) nothing-lawful)

pub ok_read : (payload : List ℕ) (result : Result OkPacket PacketFault) →
    Gives malformed_at result (ok_packet.read (start payload)) → IsReadAs malformed_at ok_packet.Spells payload result
ok_read = read_as ok_packet ok-lawful malformed_at

pub err_read : (payload : List ℕ) (result : Result ErrPacket PacketFault) →
    Gives malformed_at result (err_packet.read (start payload)) → IsReadAs malformed_at err_packet.Spells payload result
err_read = read_as err_packet err-lawful malformed_at

pub eof_read : (payload : List ℕ) (result : Result EofPacket PacketFault) →
    Gives malformed_at result (eof_packet.read (start payload)) → IsReadAs malformed_at eof_packet.Spells payload result
eof_read = read_as eof_packet eof-lawful malformed_at
