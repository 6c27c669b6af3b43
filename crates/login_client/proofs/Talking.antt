-- What a talk comes to, step by step.
use Rattle.std.proofs.Common.{refl, sym, ap, subst, ℕ, List, [], ◌∷◌, ◌++◌, Option, Some, None}
use Rattle.packet_frame.specs.declared.packets.Packet.{Packet}
use Rattle.login_client.specs.Acting.{Acts, Does}
use Rattle.login_client.specs.Exchange.{IsExchange, Stand, hears, over, says, waits}
use Rattle.login_client.specs.Talk.{Talk, Hears, Says, Over, IsWaiting, Leads}
use Rattle.login_client.specs.Talked.{Talked, said_by}
use Rattle.login_client.specs.declared.ends.ClientAct.{ClientAct}
use Rattle.login_client.specs.declared.ends.ClientAct.TheVariants.{Send, Done}
use Rattle.login_client.specs.declared.hearing.Heard.{Heard}

-- an act is what the talk says next
does-leads : (talk : Talk) (last : ℕ) (act : Option ClientAct) (next : Talk) → Does talk last act next → Leads talk [] (said_by act) next
does-leads (Hears k) last None next d = (refl, d)
does-leads (Hears k) last (Some act) next d = absurd d
does-leads (Says said k) last None next d = absurd d
does-leads (Says said k) last (Some (Send first payload)) next d = (ap (λ (p : List ℕ). p ∷ []) d.1, d.2)
does-leads (Says said k) last (Some (Done end)) next d = absurd d
does-leads (Over end) last None next d = absurd d
does-leads (Over end) last (Some (Send first payload)) next d = absurd d
does-leads (Over end) last (Some (Done told)) next d = (refl, d.1)

-- one payload more
pub leads-on : (start : Talk) (got written : List (List ℕ)) (now : Talk) (packet : Packet) (act : Option ClientAct) (next : Talk) → Leads start got written now → IsWaiting now → Acts now packet act next
    → Leads start (got ++ packet.payload ∷ []) (written ++ said_by act) next
leads-on (Hears k) [] written now packet act next (none, at) w acts =
    let a = subst (λ (t : Talk). Acts t packet act next) at acts in
    (a.heard, a.is_heard, subst (λ (ws : List (List ℕ)). Leads (k a.heard) [] (ws ++ said_by act) next) (sym none) (does-leads (k a.heard) packet.last act next a.does))
leads-on (Hears k) (payload ∷ got) written now packet act next (heard, is-heard, leads) w acts =
    (heard, is-heard, leads-on (k heard) got written now packet act next leads w acts)
leads-on (Says said k) [] written now packet act next (one, at) w acts =
    let a = subst (λ (t : Talk). Acts t packet act next) at acts in
    (said_by act, ap (λ (ws : List (List ℕ)). ws ++ said_by act) one, a.heard, a.is_heard, does-leads (k a.heard) packet.last act next a.does)
leads-on (Says said k) (payload ∷ got) written now packet act next (rest, is, heard, is-heard, leads) w acts =
    (rest ++ said_by act, ap (λ (ws : List (List ℕ)). ws ++ said_by act) is, heard, is-heard, leads-on (k heard) got rest now packet act next leads w acts)
leads-on (Over end) got written now packet act next (none, at) w acts = absurd (subst (λ (t : Talk). IsWaiting t) at w)

-- a payload that is said first
leads-says : (said : List ℕ) (k : Heard → Talk) (got written : List (List ℕ)) (now : Talk) → Leads (Hears k) got written now → Leads (Says said k) got (said ∷ written) now
leads-says said k [] written now (none, at) = (ap (λ (ws : List (List ℕ)). said ∷ ws) none, at)
leads-says said k (payload ∷ got) written now (heard, is-heard, leads) = (written, refl, heard, is-heard, leads)

-- the payloads in an exchange
pub exchange-talked : (talk : Talk) (id place : ℕ) (got sent : List ℕ) (stand : Stand) → IsExchange talk id place got sent stand → Talked talk got sent stand
exchange-talked _ _ _ _ _ _ (hears k id place first last payload head got sent heard stand packet is-heard x) =
    let t = exchange-talked (k heard) _ _ got sent stand x in
    record {
      payloads = payload ∷ t.payloads;
      written = t.written;
      now = t.now;
      leads = (heard, is-heard, t.leads);
      result_is = t.result_is;
      are_got = (id, first, last, head, got, refl, packet, t.are_got);
      are_written = t.are_written;
    }
exchange-talked _ _ _ _ _ _ (waits k id place got ending ends) = record {
  payloads = [];
  written = [];
  now = Hears k;
  leads = (refl, refl);
  result_is = refl;
  are_got = (id, place, ends);
  are_written = refl;
}
exchange-talked _ _ _ _ _ _ (says said k id place last text got sent stand packet x) =
    let t = exchange-talked (Hears k) _ place got sent stand x in
    record {
      payloads = t.payloads;
      written = said ∷ t.written;
      now = t.now;
      leads = leads-says said k t.payloads t.written t.now t.leads;
      result_is = t.result_is;
      are_got = t.are_got;
      are_written = (id, last, text, sent, refl, packet, t.are_written);
    }
exchange-talked _ _ _ _ _ _ (over end id place) = record {
  payloads = [];
  written = [];
  now = Over end;
  leads = (refl, refl);
  result_is = refl;
  are_got = refl;
  are_written = refl;
}
