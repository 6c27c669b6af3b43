-- The greeting and the response meet the laws of forms.
use Rattle.std.proofs.Common.{ℕ, ◌==◌, List, [], ◌∷◌, replicate, Result, refl, arith}
use Rattle.wire_form.specs.Fields.{byte}
use Rattle.wire_form.specs.Forms.{nothing}
use Rattle.wire_form.specs.Payloads.{Gives, IsReadAs, start}
use Rattle.wire_form.proofs.Laws.{IsField, IsForm}
use Rattle.wire_form.proofs.Joined.{follow-lawful, lead-lawful}
use Rattle.wire_form.proofs.Numbers.{number-lawful, bytes-lawful}
use Rattle.wire_form.proofs.OneByte.{byte-lawful}
use Rattle.wire_form.proofs.Names.{name-lawful}
use Rattle.wire_form.proofs.Lenenc.{lenenc-lawful}
use Rattle.wire_form.proofs.Made.{made-lawful, mark-lawful, skipped-lawful, ▸-lawful, counted-lawful, chosen-lawful, optional-lawful}
use Rattle.wire_form.proofs.Whole.{rest-lawful, nothing-lawful, whole-lawful, last_name-lawful, ▹-lawful}
use Rattle.wire_form.proofs.Payloads.{read_as}
use Rattle.auth_packets.specs.Faults.{malformed_at}
use Rattle.auth_packets.specs.Flags.{flags, lower_flags, upper_flags, any_byte, second_fits, third_fits}
use Rattle.auth_packets.specs.Handshake.{opening, session, nonce, greeting, client, answer, database, claim, attributes, response}
use Rattle.auth_packets.specs.declared.fault.PacketFault.{PacketFault}
use Rattle.auth_packets.specs.declared.handshake.Greeting.{Greeting}
use Rattle.auth_packets.specs.declared.handshake.Response.{Response}

-- ## Flags

any-lawful : IsField any_byte
any-lawful = byte-lawful _ 0 (omega arith) refl

second-lawful : IsField (byte second_fits)
second-lawful = byte-lawful second_fits 0x82 (omega arith) refl

third-lawful : IsField (byte third_fits)
third-lawful = byte-lawful third_fits 0x08 (omega arith) refl

flags-lawful : IsField flags
unfolding flags
flags-lawful = made-lawful _ _ _ (▸-lawful _ _ any-lawful (▸-lawful _ _ second-lawful (▸-lawful _ _ third-lawful any-lawful)))

lower-lawful : IsField lower_flags
unfolding lower_flags
lower-lawful = made-lawful _ _ _ (▸-lawful _ _ any-lawful second-lawful)

upper-lawful : IsField upper_flags
unfolding upper_flags
upper-lawful = made-lawful _ _ _ (▸-lawful _ _ third-lawful any-lawful)

-- ## The greeting

opening-lawful : IsField opening
unfolding opening
opening-lawful = ▸-lawful _ _ (mark-lawful 0x0a (omega arith)) (▸-lawful _ _ name-lawful (▸-lawful _ _ (number-lawful 4)
    (▸-lawful _ _ (bytes-lawful 8) (skipped-lawful 1 (0 ∷ [])))))

session-lawful : IsField session
unfolding session
session-lawful = ▸-lawful _ _ lower-lawful (▸-lawful _ _ (number-lawful 1) (▸-lawful _ _ (number-lawful 2) upper-lawful))

nonce-lawful : IsField nonce
unfolding nonce
nonce-lawful = follow-lawful _ _ (▸-lawful _ _ (number-lawful 1) (skipped-lawful 10 (replicate 10 0)))
    (λ v. ▸-lawful _ _ (bytes-lawful 12) (chosen-lawful (v.0 == 21) _ _ (mark-lawful 0 (omega arith)) (skipped-lawful _ [])))

pub greeting-lawful : IsForm greeting
unfolding greeting
greeting-lawful = whole-lawful _ _ _ (▹-lawful _ _ opening-lawful (▹-lawful _ _ session-lawful (▹-lawful _ _ nonce-lawful
    (last_name-lawful nothing _ nothing-lawful))))

-- ## The response

client-lawful : IsField client
unfolding client
client-lawful = ▸-lawful _ _ flags-lawful (▸-lawful _ _ (number-lawful 4) (▸-lawful _ _ (number-lawful 1)
    (▸-lawful _ _ (skipped-lawful 23 (replicate 23 0)) name-lawful)))

answer-lawful : (n : ℕ) → IsField (answer n)
unfolding answer
answer-lawful n = counted-lawful _ (chosen-lawful _ _ _ lenenc-lawful (number-lawful 1))

database-lawful : (n : ℕ) → IsField (database n)
unfolding database
database-lawful n = optional-lawful _ _ name-lawful

claim-lawful : (n : ℕ) → IsField (claim n)
unfolding claim
claim-lawful n = ▸-lawful _ _ (answer-lawful n) (▸-lawful _ _ (database-lawful n) name-lawful)

attributes-lawful : (n : ℕ) → IsField (attributes n)
unfolding attributes
attributes-lawful n = optional-lawful _ _ (counted-lawful _ lenenc-lawful)

pub response-lawful : IsForm response
unfolding response
response-lawful = whole-lawful _ _ _ (lead-lawful _ _ client-lawful (λ c. ▹-lawful _ _ (claim-lawful c.0) (▹-lawful _ _ (attributes-lawful c.0) rest-lawful)))

-- a call that answers what the form's reader finds, reads a response
pub response_read : (payload : List ℕ) (result : Result Response PacketFault) →
    Gives malformed_at result (response.read (start payload)) → IsReadAs malformed_at response.Spells payload result
response_read = read_as response response-lawful malformed_at

pub greeting_read : (payload : List ℕ) (result : Result Greeting PacketFault) →
    Gives malformed_at result (greeting.read (start payload)) → IsReadAs malformed_at greeting.Spells payload result
greeting_read = read_as greeting greeting-lawful malformed_at
