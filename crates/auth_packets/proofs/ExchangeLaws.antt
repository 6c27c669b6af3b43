-- The server's messages between the response and the end meet the laws of forms.
use Rattle.std.proofs.Common.{◌≡◌, ℕ, List, [], Contains, Result, refl, subst, append_assoc, arith}
use Rattle.wire_form.specs.Payloads.{Gives, IsReadAs, start}
use Rattle.wire_form.proofs.Laws.{IsForm}
use Rattle.wire_form.proofs.Made.{mark-lawful}
use Rattle.wire_form.proofs.Whole.{rest-lawful, whole-lawful, last_name-lawful, ▹-lawful}
use Rattle.wire_form.proofs.Payloads.{read_as}
use Rattle.wire_form.specs.Forms.{rest}
use Rattle.auth_packets.specs.Faults.{malformed_at}
use Rattle.auth_packets.specs.Exchange.{plugin_and_data, switch, switch_text, more, more_text, next_factor, next_factor_text}
use Rattle.auth_packets.specs.declared.fault.PacketFault.{PacketFault}
use Rattle.auth_packets.specs.declared.exchange.Switch.{Switch}
use Rattle.auth_packets.specs.declared.exchange.More.{More}
use Rattle.auth_packets.specs.declared.exchange.NextFactor.{NextFactor}

plugin_and_data-lawful : IsForm plugin_and_data
unfolding plugin_and_data
plugin_and_data-lawful = last_name-lawful rest [] rest-lawful

pub switch-lawful : IsForm switch
unfolding switch
switch-lawful = whole-lawful _ _ _ (▹-lawful _ _ (mark-lawful 0xfe (omega arith)) plugin_and_data-lawful)

pub more-lawful : IsForm more
unfolding more
more-lawful = whole-lawful _ _ _ (▹-lawful _ _ (mark-lawful 0x01 (omega arith)) rest-lawful)

pub next_factor-lawful : IsForm next_factor
unfolding next_factor
next_factor-lawful = whole-lawful _ _ _ (▹-lawful _ _ (mark-lawful 0x02 (omega arith)) plugin_and_data-lawful)

pub switch_read : (payload : List ℕ) (result : Result Switch PacketFault) →
    Gives malformed_at result (switch.read (start payload)) → IsReadAs malformed_at switch.Spells payload result
switch_read = read_as switch switch-lawful malformed_at

pub more_read : (payload : List ℕ) (result : Result More PacketFault) →
    Gives malformed_at result (more.read (start payload)) → IsReadAs malformed_at more.Spells payload result
more_read = read_as more more-lawful malformed_at

pub next_factor_read : (payload : List ℕ) (result : Result NextFactor PacketFault) →
    Gives malformed_at result (next_factor.read (start payload)) → IsReadAs malformed_at next_factor.Spells payload result
next_factor_read = read_as next_factor next_factor-lawful malformed_at

-- ## What is written

pub switch_spelled : (v : Switch) → ¬ Contains v.plugin 0 → switch.Spells v (switch_text v)
unfolding switch switch_text plugin_and_data
switch_spelled v no_zero =
    subst (λ (text : List ℕ). switch.Spells v text) written (switch-lawful.written v (((refl, refl), (no_zero, tt)), refl))
  where
    written : switch.write v ≡ switch_text v
    written = simp append_assoc

pub more_spelled : (v : More) → more.Spells v (more_text v)
unfolding more more_text
more_spelled v = more-lawful.written v (((refl, refl), tt), refl)

pub next_factor_spelled : (v : NextFactor) → ¬ Contains v.plugin 0 → next_factor.Spells v (next_factor_text v)
unfolding next_factor next_factor_text plugin_and_data
next_factor_spelled v no_zero =
    subst (λ (text : List ℕ). next_factor.Spells v text) written (next_factor-lawful.written v (((refl, refl), (no_zero, tt)), refl))
  where
    written : next_factor.write v ≡ next_factor_text v
    written = simp append_assoc
