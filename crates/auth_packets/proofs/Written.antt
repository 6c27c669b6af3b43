-- What is written of a message is a spelling of it.
use Rattle.std.proofs.Common.{◌≡◌, ℕ, ◌+◌, ◌*◌, ◌/◌, ◌%◌, ◌<◌, ◌^◌, List, [], ◌∷◌, ◌++◌, length, take, drop, Contains, mod-eq_of_lt, length-take-le, length-drop, take-append-drop, refl, sym, ap, ◌∙◌, subst, append_assoc, arith}
use Rattle.lg_base.specs.Fields.{little_text}
use Rattle.auth_packets.specs.Replies.{ok_packet, ok_text, err_packet, err_text, state_and_text, eof_packet, eof_text}
use Rattle.auth_packets.specs.Handshake.{IsWholeGreeting, greeting, greeting_text, opening, session, nonce, opening_text, session_text, nonce_text, greeting_of, greeting_parts}
use Rattle.auth_packets.specs.Flags.{lower_flags, upper_flags, flags, HasNeeded, second_fits, third_fits}
use Rattle.auth_packets.proofs.HandshakeLaws.{greeting-lawful}
use Rattle.auth_packets.specs.declared.handshake.Greeting.{Greeting}
use Rattle.auth_packets.proofs.RepliesLaws.{ok-lawful, err-lawful, eof-lawful}
use Rattle.auth_packets.specs.declared.replies.OkPacket.{OkPacket}
use Rattle.auth_packets.specs.declared.replies.ErrPacket.{ErrPacket}
use Rattle.auth_packets.specs.declared.replies.EofPacket.{EofPacket}

assoc : (a b c d e : List ℕ) → a ++ (b ++ (c ++ (d ++ e))) ≡ a ++ b ++ c ++ d ++ e
assoc a b c d e = simp append_assoc

pub ok_spelled : (v : OkPacket) → v.affected < 2 ^ 64 → v.last_id < 2 ^ 64 → v.status < 2 ^ 16 → v.warnings < 2 ^ 16 → ok_packet.Spells v (ok_text v)
unfolding ok_packet ok_text
ok_spelled v a b c d =
    subst (λ (text : List ℕ). ok_packet.Spells v text) written (ok-lawful.written v ((((refl, refl), (a, (b, (c, d)))), tt), refl))
  where
    written : ok_packet.write v ≡ ok_text v
    written = simp append_assoc

pub err_spelled : (v : ErrPacket) → v.number < 2 ^ 16 → length v.state ≡ 5 → err_packet.Spells v (err_text v)
unfolding err_packet err_text state_and_text
err_spelled v a b =
    subst (λ (text : List ℕ). err_packet.Spells v text) written (err-lawful.written v ((((refl, refl), a), ((((refl, refl), (b, tt)), refl), refl)), refl))
  where
    written : err_packet.write v ≡ err_text v
    written = simp append_assoc

pub eof_spelled : (v : EofPacket) → v.warnings < 2 ^ 16 → v.status < 2 ^ 16 → eof_packet.Spells v (eof_text v)
unfolding eof_packet eof_text
eof_spelled v a b =
    subst (λ (text : List ℕ). eof_packet.Spells v text) written (eof-lawful.written v ((((refl, refl), (a, b)), tt), refl))
  where
    written : eof_packet.write v ≡ eof_text v
    written = simp append_assoc

-- ## The greeting, group by group

opening_written : (v : Greeting) → opening.write (tt, (v.version, (v.id, (take 8 v.nonce, tt)))) ≡ opening_text v
unfolding opening opening_text
opening_written v = let V = v.version ++ 0 ∷ [] in
    assoc (0x0a ∷ []) (v.version ++ 0 ∷ []) (little_text 4 v.id) (take 8 v.nonce) (0 ∷ [])

session_written : (v : Greeting) → v.charset < 2 ^ 8 → session.write (v.flags % 65536, (v.charset, (v.status, v.flags / 65536))) ≡ session_text v
unfolding session session_text lower_flags upper_flags
session_written v charset = rw (mod-eq_of_lt charset)

nonce_written : (v : Greeting) → nonce.write ((21, tt), (drop 8 v.nonce, tt)) ≡ nonce_text v
unfolding nonce nonce_text
nonce_written v = refl

opening_fits : (v : Greeting) → ¬ Contains v.version 0 → v.id < 2 ^ 32 → length v.nonce ≡ 20 → opening.Fits (tt, (v.version, (v.id, (take 8 v.nonce, tt))))
unfolding opening
opening_fits v version id size = ((refl, refl), (version, (id, (length-take-le 8 v.nonce (omega (arith, size)), (refl, refl)))))

session_fits : (v : Greeting) → v.flags < 2 ^ 32 → v.charset < 2 ^ 8 → v.status < 2 ^ 16 → HasNeeded v.flags →
    session.Fits (v.flags % 65536, (v.charset, (v.status, v.flags / 65536)))
unfolding session lower_flags upper_flags
session_fits v flags charset status needed =
    let second : v.flags % 65536 / 256 % 256 ≡ v.flags / 256 % 256 = omega arith in
    let third : v.flags / 65536 % 256 ≡ v.flags / 256 / 256 % 256 = omega arith in
    (((refl, ap second_fits second ∙ needed.0), omega arith), (charset, (status, ((ap third_fits third ∙ needed.1, refl), omega (arith, flags)))))

nonce_fits : (v : Greeting) → length v.nonce ≡ 20 → nonce.Fits ((21, tt), (drop 8 v.nonce, tt))
unfolding nonce
nonce_fits v size = ((omega arith, (refl, refl)), (omega (arith, size, length-drop 8 v.nonce), (refl, refl)))

same_greeting : (v : Greeting) → greeting_of (greeting_parts v) ≡ v
same_greeting v =
    let whole_flags : v.flags % 65536 + 65536 * (v.flags / 65536) ≡ v.flags = omega arith in
    rw (take-append-drop 8 v.nonce, whole_flags)

pub greeting_spelled : (v : Greeting) → v.id < 2 ^ 32 → v.flags < 2 ^ 32 → v.charset < 2 ^ 8 → v.status < 2 ^ 16 → length v.nonce ≡ 20 →
    IsWholeGreeting v → greeting.Spells v (greeting_text v)
unfolding greeting greeting_text
greeting_spelled v id flags charset status size is_whole =
    subst (λ (text : List ℕ). greeting.Spells v text) written
    (greeting-lawful.written v ((opening_fits v is_whole.0 id size, (session_fits v flags charset status is_whole.1, (nonce_fits v size, (is_whole.2, tt)))), same_greeting v))
  where
    plugin : List ℕ
    plugin = v.plugin ++ 0 ∷ []

    written : greeting.write v ≡ greeting_text v
    written =
        ap (λ (x : List ℕ). x ++ (session.write (greeting_parts v).1.0 ++ (nonce.write (greeting_parts v).1.1.0 ++ plugin))) (opening_written v)
        ∙ ap (λ (x : List ℕ). opening_text v ++ (x ++ (nonce.write (greeting_parts v).1.1.0 ++ plugin))) (session_written v charset)
        ∙ ap (λ (x : List ℕ). opening_text v ++ (session_text v ++ (x ++ plugin))) (nonce_written v)
        ∙ sym (append_assoc (opening_text v) (session_text v) (nonce_text v ++ plugin))
        ∙ sym (append_assoc (opening_text v ++ session_text v) (nonce_text v) plugin)
