-- What a server says between the response and the end: "Protocol::AuthSwitchRequest",
-- "Protocol::AuthMoreData" and "Protocol::AuthNextFactor" of the MySQL client/server protocol
-- documentation.
use Rattle.std.specs.Prelude.{ℕ, List, [], ◌∷◌, ◌++◌}
use Rattle.wire_form.specs.Fields.{mark}
use Rattle.wire_form.specs.Forms.{Form, rest, ◌▹◌, whole, last_name}
use Rattle.auth_packets.specs.declared.exchange.Switch.{Switch}
use Rattle.auth_packets.specs.declared.exchange.More.{More}
use Rattle.auth_packets.specs.declared.exchange.NextFactor.{NextFactor}

-- a plugin's name and its data; where there is no data, the 00 of the name may be missing
abbrev pub PluginAndData : Type 0
PluginAndData = List ℕ × List ℕ

unfoldable pub plugin_and_data : Form PluginAndData
plugin_and_data = last_name rest []

-- fe, plugin, data
unfoldable pub switch : Form Switch
switch = whole (λ p. record { plugin = p.1.0; body = p.1.1 }) (λ v. (tt, (v.plugin, v.body))) (mark 0xfe ▹ plugin_and_data)

unfoldable pub switch_text : Switch → List ℕ
switch_text v = 0xfe ∷ [] ++ (v.plugin ++ 0 ∷ []) ++ v.body

-- 01, data
unfoldable pub more : Form More
more = whole (λ p. record { body = p.1 }) (λ v. (tt, v.body)) (mark 0x01 ▹ rest)

unfoldable pub more_text : More → List ℕ
more_text v = 0x01 ∷ [] ++ v.body

-- 02, plugin, data
unfoldable pub next_factor : Form NextFactor
next_factor = whole (λ p. record { plugin = p.1.0; body = p.1.1 }) (λ v. (tt, (v.plugin, v.body))) (mark 0x02 ▹ plugin_and_data)

unfoldable pub next_factor_text : NextFactor → List ℕ
next_factor_text v = 0x02 ∷ [] ++ (v.plugin ++ 0 ∷ []) ++ v.body
