-- One turn of a client over bytes, and what turns come to.
use Rattle.std.proofs.Common.{◌≡◌, ap, sym, ◌∙◌, subst, ℕ, List, [], ◌++◌, append_assoc, append-nil, Option, Some, None, Result, Ok, Err, OnOk}
use Rattle.packet_frame.specs.Packets.{id_after}
use Rattle.packet_frame.specs.declared.packets.FrameFault.{FrameFault}
use Rattle.packet_frame.specs.declared.packets.Packet.{Packet}
use Rattle.packet_stream.specs.Sent.{id_behind}
use Rattle.packet_stream.specs.Streams.{Stream}
use Rattle.login_client.specs.Acting.{Acts, Does}
use Rattle.login_client.specs.Clients.{talk_of}
use Rattle.login_client.specs.Heard.{heard_of}
use Rattle.login_client.specs.Talk.{Talk, Hears, Says, Over, IsWaiting, hearing}
use Rattle.login_client.specs.declared.client.Client.{Client}
use Rattle.login_client.specs.declared.ends.ClientAct.{ClientAct}
use Rattle.login_client.specs.declared.ends.ClientAct.TheVariants.{Send, Done}
use Rattle.login_client.specs.declared.ends.LoginEnd.{LoginEnd}
use Rattle.login_client.specs.declared.ends.LoginEnd.TheVariants.{Framing}
use Rattle.login_client.specs.declared.hearing.Heard.{Heard}
use Rattle.login_client.proofs.HeardOf.{is_read}
use Rattle.client_wire.specs.Ends.{LeadsTo, Standing, at_of, got_by, heard_by, stands_at}
use Rattle.client_wire.specs.Getting.{Got, after_written, getting, rests}
use Rattle.packet_stream.specs.Inbox.{Takes}
use Rattle.packet_stream.specs.Packing.{packet_text}
use Rattle.packet_stream.specs.declared.inbox.Found.TheVariants as found
use Rattle.client_wire.proofs.Fronted.{getting-fault, getting-packet, getting-part}

-- ## What is taken of the bytes

abbrev stands : ℕ → Talk → Stream → Standing
stands next t stream = record { next = next; at = t; unread = stream }

module _ (next : ℕ) (t : Talk) (old new : Stream) (waits : IsWaiting t) where
  pub took-packet : (packet : Packet) → Takes next old new (found.Packet packet) → got_by (stands next t old) ≡ got_by (heard_by packet (stands next t new))
  took-packet packet (front_is, _, new_is) =
      getting-packet next old t packet.first packet.last packet.payload new.bytes waits front_is
      ∙ ap (λ (s : Stream). getting (id_after packet.last) (hearing t (heard_of packet.payload)) s) (sym new_is)

  pub took-nothing : Takes next old new found.Nothing → got_by (stands next t new) ≡ rests next t new
  took-nothing (same, (missing, front_is)) =
      ap (λ (s : Stream). getting next t s) same ∙ (getting-part next old t missing waits front_is ∙ ap (λ (s : Stream). rests next t s) (sym same))

  pub took-fault : (fault : FrameFault) → Takes next old new (found.Fault fault) → got_by (stands next t old) ≡ got_by (stands next (Over (Framing fault)) new)
  took-fault fault (same, front_is) =
      getting-fault next old t fault waits front_is ∙ ap (λ (s : Stream). getting next (Over (Framing fault)) s) (sym same)

-- ## What a client does

-- what it does after what it heard, and what comes of any bytes then
does-nothing : (u : Talk) (last : ℕ) (next : Talk) → Does u last None next → (next ≡ u) × IsWaiting next
does-nothing (Hears k) last next does = (does, subst IsWaiting (sym does) tt)
does-nothing (Says said k) last next does = absurd does
does-nothing (Over end) last next does = absurd does

does-send : (u : Talk) (last first : ℕ) (payload : List ℕ) (next : Talk) → Does u last (Some (Send first payload)) next →
    ((s : Stream) → getting (id_after last) u s ≡ after_written (packet_text first payload) (getting (id_behind first payload) next s)) × IsWaiting next
unfolding getting
does-send (Hears k) last first payload next does = absurd does
does-send (Says said k) last first payload next (first_is, payload_is, next_is) = (goes_on, subst IsWaiting (sym next_is) tt)
  where
    goes_on : (s : Stream) → getting (id_after last) (Says said k) s ≡ after_written (packet_text first payload) (getting (id_behind first payload) next s)
    goes_on s =
        ap (λ (id : ℕ). getting id (Says said k) s) (sym first_is)
        ∙ (ap (λ (text : List ℕ). getting first (Says text k) s) (sym payload_is)
        ∙ ap (λ (t : Talk). after_written (packet_text first payload) (getting (id_behind first payload) t s)) (sym next_is))
does-send (Over end) last first payload next does = absurd does

does-done : (u : Talk) (last : ℕ) (end : LoginEnd) (next : Talk) → Does u last (Some (Done end)) next → u ≡ Over end
does-done (Hears k) last end next does = absurd does
does-done (Says said k) last end next does = absurd does
does-done (Over told) last end next does = ap Over (sym does.0)

-- the same, by what is read in the packet
acts-does : (t : Talk) (packet : Packet) (act : Option ClientAct) (next : Talk) → Acts t packet act next → Does (hearing t (heard_of packet.payload)) packet.last act next
acts-does t packet act next acts =
    subst (λ (heard : Heard). Does (hearing t heard) packet.last act next) (is_read packet.payload acts.heard acts.is_heard) acts.does

-- ## A packet that is heard

module _ (next : ℕ) (before after : Client) (ended : Option LoginEnd) (packet : Packet) (stream : Stream) (out : List ℕ) where
  abbrev heard_here : Standing
  heard_here = heard_by packet (stands next (at_of before ended) stream)

  pub hears-on : IsWaiting (at_of before ended) → Acts (talk_of before) packet None (talk_of after) →
      LeadsTo heard_here (stands (id_after packet.last) (at_of after ended) stream) out out × IsWaiting (at_of after ended)
  hears-on waits acts = by_end ended waits where
    by_end : (e : Option LoginEnd) → IsWaiting (at_of before e) →
        LeadsTo (heard_by packet (stands next (at_of before e) stream)) (stands (id_after packet.last) (at_of after e) stream) out out × IsWaiting (at_of after e)
    by_end (Some end) w = absurd w
    by_end None w =
        let (is, waiting) = does-nothing _ packet.last (talk_of after) (acts-does (talk_of before) packet None (talk_of after) acts) in (
          record { written = []; added = sym (append-nil out); goes_on = ap (λ (t : Talk). getting (id_after packet.last) t stream) (sym is) },
          waiting,
        )

  pub says-on : (first id : ℕ) (payload told : List ℕ) → IsWaiting (at_of before ended) → Acts (talk_of before) packet (Some (Send first payload)) (talk_of after) →
      told ≡ out ++ packet_text first payload → id ≡ id_behind first payload →
      LeadsTo heard_here (stands id (at_of after ended) stream) out told × IsWaiting (at_of after ended)
  says-on first id payload told waits acts added id_is = by_end ended waits where
    by_end : (e : Option LoginEnd) → IsWaiting (at_of before e) →
        LeadsTo (heard_by packet (stands next (at_of before e) stream)) (stands id (at_of after e) stream) out told × IsWaiting (at_of after e)
    by_end (Some end) w = absurd w
    by_end None w =
        let (goes_on, waiting) = does-send _ packet.last first payload (talk_of after) (acts-does (talk_of before) packet (Some (Send first payload)) (talk_of after) acts) in (
          record {
            written = packet_text first payload;
            added = added;
            goes_on = goes_on stream ∙ ap (λ (i : ℕ). after_written (packet_text first payload) (getting i (talk_of after) stream)) (sym id_is);
          },
          waiting,
        )

  pub ends-on : (end : LoginEnd) → IsWaiting (at_of before ended) → Acts (talk_of before) packet (Some (Done end)) (talk_of after) →
      LeadsTo heard_here (stands (id_after packet.last) (Over end) stream) out out
  ends-on end waits acts = by_end ended waits where
    by_end : (e : Option LoginEnd) → IsWaiting (at_of before e) →
        LeadsTo (heard_by packet (stands next (at_of before e) stream)) (stands (id_after packet.last) (Over end) stream) out out
    by_end (Some other) w = absurd w
    by_end None w = record {
      written = [];
      added = sym (append-nil out);
      goes_on = ap (λ (t : Talk). getting (id_after packet.last) t stream) (does-done _ packet.last end (talk_of after) (acts-does (talk_of before) packet (Some (Done end)) (talk_of after) acts));
    }

-- ## Turns

-- what came of the bytes is the same in two places
pub leads-same : (old new : Standing) (out : List ℕ) → got_by old ≡ got_by new → LeadsTo old new out out
leads-same old new out e = record { written = []; added = sym (append-nil out); goes_on = e }

-- from a place where the same comes of the bytes
pub leads-from : (old other new : Standing) (before after : List ℕ) → got_by old ≡ got_by other → LeadsTo other new before after → LeadsTo old new before after
leads-from old other new before after e leads = record { written = leads.written; added = leads.added; goes_on = e ∙ leads.goes_on }

pub leads-on : (old mid new : Standing) (before between after : List ℕ) → LeadsTo old mid before between → LeadsTo mid new between after → LeadsTo old new before after
leads-on old mid new before between after first then_ = record {
  written = first.written ++ then_.written;
  added = then_.added ∙ (ap (λ (text : List ℕ). text ++ then_.written) first.added ∙ append_assoc before first.written then_.written);
  goes_on =
      first.goes_on
      ∙ (ap (after_written first.written) then_.goes_on
      ∙ ap (λ (sent : List ℕ). record (got_by new) { sent = sent }) (sym (append_assoc first.written then_.written (got_by new).sent)));
}

pub over-rests : (s : Standing) (end : LoginEnd) → s.at ≡ Over end → got_by s ≡ rests s.next s.at s.unread
unfolding getting
over-rests s end e = ap (λ (t : Talk). getting s.next t s.unread) e ∙ ap (λ (t : Talk). rests s.next t s.unread) (sym e)

-- where nothing more comes, it is all that came
pub all-came : (old new : Standing) (before after : List ℕ) → LeadsTo old new before after → got_by new ≡ rests new.next new.at new.unread →
    (new ≡ stands_at (got_by old)) × (after ≡ before ++ (got_by old).sent)
all-came old new before after leads rest = (
  ap stands_at (sym came),
  leads.added ∙ ap (λ (sent : List ℕ). before ++ sent) (sym (append-nil leads.written) ∙ ap (λ (g : Got). g.sent) (sym came)),
)
  where
    came : got_by old ≡ after_written leads.written (rests new.next new.at new.unread)
    came = leads.goes_on ∙ ap (after_written leads.written) rest

pub on_ok : {X E : Type 0} {A B : Type 0} (r : Result X E) → OnOk r A → (A → B) → OnOk r B
on_ok (Ok x) a f = f a
on_ok (Err e) a f = tt
