-- What a client does at a packet.
use Rattle.std.specs.Prelude.{◌≡◌, ℕ, Option, Some, None}
use Rattle.packet_frame.specs.Packets.{id_after}
use Rattle.packet_frame.specs.declared.packets.Packet.{Packet}
use Rattle.login_client.specs.Hearing.{IsHeard}
use Rattle.login_client.specs.Talk.{Talk, Hears, Says, Over, hearing}
use Rattle.login_client.specs.declared.ends.ClientAct.{ClientAct}
use Rattle.login_client.specs.declared.ends.ClientAct.TheVariants.{Send, Done}
use Rattle.login_client.specs.declared.hearing.Heard.{Heard}

-- the act that a talk asks for behind a packet with some last id, and what the client then goes on with: it says a
-- payload in a packet with the id after that one, says nothing and hears on, or is done
abbrev pub Does : Talk → ℕ → Option ClientAct → Talk → Type 0
Does (Hears k) last None next = next ≡ Hears k
Does (Hears k) last (Some act) next = ⊥
Does (Says said k) last (Some (Send first payload)) next = (first ≡ id_after last) × (payload ≡ said) × (next ≡ Hears k)
Does (Says said k) last (Some (Done end)) next = ⊥
Does (Says said k) last None next = ⊥
Does (Over end) last (Some (Done told)) next = (told ≡ end) × (next ≡ Over end)
Does (Over end) last (Some (Send first payload)) next = ⊥
Does (Over end) last None next = ⊥

-- a client hears a packet's payload and acts
pub record Acts (talk : Talk) (packet : Packet) (act : Option ClientAct) (next : Talk) : Type 0 where
  pub heard : Heard
  pub is_heard : IsHeard packet.payload heard
  pub does : Does (hearing talk heard) packet.last act next
