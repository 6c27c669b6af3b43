-- A login over its turns.
use Rattle.std.proofs.Common.{◌≡◌, refl, sym, subst, ℕ, ◌+◌, ◌*◌, ◌≤◌, List, [], ◌++◌, length, take, Option, append_assoc, arith}
use Rattle.std.proofs.Math.Seq.{take-append-add}
use Rattle.lg_outside.specs.Traffic.{Traffic}
use Rattle.packet_frame.specs.Framing.{Framing}
use Rattle.packet_frame.specs.Streams.{Between}
use Rattle.link_packets.specs.Moving.{Moved}
use Rattle.link_packets.specs.Reading.{between, longest_packet}
use Rattle.login_client.specs.Exchange.{EndsAs, EndsWithin, IsExchange, Stand, Waits, closed, decided, failed, framing, no_memory, waits}
use Rattle.login_client.specs.Turning.{GoesOn}
use Rattle.login_client.specs.Talk.{Talk, Hears, Says, Over, IsWaiting}
use Rattle.login_client.specs.declared.ends.LoginEnd.{LoginEnd}
use Rattle.login_client.specs.declared.ends.LoginEnd.TheVariants.{Memory}
use Rattle.link_packets.proofs.Moves.{moved-more, moved-none}

-- Where a login has come to that began with a talk: with these bytes got and those sent, whatever follows
-- continues that talk, and ends it within so many packets.
pub record Reached (n : ℕ) (start : Talk) (before now : Option Traffic) (talk : Talk) (frames : Framing) : Type 0 where
  pub got : List ℕ
  pub sent : List ℕ
  pub next : ℕ
  pub place : ℕ
  pub moved : Moved before now got sent
  pub small : place + n * longest_packet ≤ 6 * longest_packet
  pub frames_are : frames ≡ between next place
  pub waits : IsWaiting talk
  pub within : EndsWithin n talk
  pub follows : (more later : List ℕ) (stand : Stand) → IsExchange talk next place more later stand → IsExchange start 0 0 (got ++ more) (sent ++ later) stand

-- before the first packet
pub reached-none : (start talk : Talk) (told : Option Traffic) (frames : Framing) → talk ≡ start → IsWaiting start → EndsWithin 6 start → frames ≡ between 0 0 → Reached 6 start told told talk frames
reached-none start talk told frames is w h e = record {
  got = [];
  sent = [];
  next = 0;
  place = 0;
  moved = moved-none told;
  small = omega arith;
  frames_are = e;
  waits = subst (λ (t : Talk). IsWaiting t) (sym is) w;
  within = subst (λ (t : Talk). EndsWithin 6 t) (sym is) h;
  follows = λ more later stand x. subst (λ (t : Talk). IsExchange t 0 0 more later stand) is x;
}

-- a turn more
pub reached-more : (n less : ℕ) (start : Talk) (before middle after : Option Traffic) (talk now : Talk) (frames frames' : Framing) → n ≡ less + 1 → (r : Reached n start before middle talk frames)
    → GoesOn n talk r.next r.place middle after now frames' → Reached less start before after now frames'
reached-more n less start before middle after talk now frames frames' e r g =
    let (less', is, within) = g.fewer in
    let same : less' ≡ less = omega (arith, e, is) in
    record {
      got = r.got ++ g.got;
      sent = r.sent ++ g.sent;
      next = g.next;
      place = r.place + length g.got;
      moved = moved-more before middle after r.got r.sent g.got g.sent r.moved g.moved;
      small = omega (arith, e, r.small, g.short);
      frames_are = g.frames_are;
      waits = g.waits;
      within = subst (λ (m : ℕ). EndsWithin m now) same within;
      follows = λ more later stand x.
          subst (λ (got : List ℕ). IsExchange start 0 0 got ((r.sent ++ g.sent) ++ later) stand) (sym (append_assoc r.got g.got more))
          (subst (λ (sent : List ℕ). IsExchange start 0 0 (r.got ++ (g.got ++ more)) sent stand) (sym (append_assoc r.sent g.sent later))
          (r.follows (g.got ++ more) (g.sent ++ later) stand (g.follows more later stand x)));
    }

-- no talk waits for ever
pub reached-end : (start talk : Talk) (before now : Option Traffic) (frames : Framing) → Reached 0 start before now talk frames → ⊥
reached-end start (Hears k) before now frames r = r.within
reached-end start (Says said k) before now frames r = r.waits
reached-end start (Over end) before now frames r = r.waits

-- the first bytes of what was sent before, and of what was sent after that
take-more : (before after : List ℕ) (count : ℕ) → take (length before + count) (before ++ after) ≡ before ++ take count after
take-more before after count = take-append-add before after count

-- the last turn
pub reached-ends : (n : ℕ) (start : Talk) (before middle after : Option Traffic) (talk : Talk) (frames : Framing) (Rises Rose : Type 0) (end : LoginEnd) → (r : Reached n start before middle talk frames)
    → (Rises → Rose) → EndsAs talk r.next r.place middle after Rises end → EndsAs start 0 0 before after Rose end
reached-ends n start before middle after talk frames Rises Rose _ r up (decided got sent end is-decided moved x) =
    decided (r.got ++ got) (r.sent ++ sent) end is-decided (moved-more before middle after r.got r.sent got sent r.moved moved) (r.follows got sent _ x)
reached-ends n start before middle after talk frames Rises Rose _ r up (framing got sent fault moved x) =
    framing (r.got ++ got) (r.sent ++ sent) fault (moved-more before middle after r.got r.sent got sent r.moved moved) (r.follows got sent _ x)
reached-ends n start before middle after talk frames Rises Rose _ r up (closed got sent ending is-open moved x at-end) =
    closed (r.got ++ got) (r.sent ++ sent) ending is-open (moved-more before middle after r.got r.sent got sent r.moved moved) (r.follows got sent _ x) at-end
reached-ends n start before middle after talk frames Rises Rose _ r up (failed got sent count stand moved x rises) =
    failed (r.got ++ got) (r.sent ++ sent) (length r.sent + count) stand
    (subst (λ (out : List ℕ). Moved before after (r.got ++ got) out) (sym (take-more r.sent sent count)) (moved-more before middle after r.got r.sent got (take count sent) r.moved moved))
    (r.follows got sent stand x) (up rises)
reached-ends n start before middle after talk frames Rises Rose _ r up (no_memory got more sent count stand moved x) =
    no_memory (r.got ++ got) more (r.sent ++ sent) (length r.sent + count) stand
    (subst (λ (out : List ℕ). Moved before after ((r.got ++ got) ++ more) out) (sym (take-more r.sent sent count))
    (subst (λ (in' : List ℕ). Moved before after in' (r.sent ++ take count sent)) (sym (append_assoc r.got got more))
    (moved-more before middle after r.got r.sent (got ++ more) (take count sent) r.moved moved)))
    (r.follows got sent stand x)

-- nothing was done
pub ends-unbegun : (start : Talk) (told : Option Traffic) (Rises : Type 0) → IsWaiting start → EndsAs start 0 0 told told Rises Memory
ends-unbegun (Hears k) told Rises w = no_memory [] [] [] 0 (Waits Between) (moved-none told) (waits k 0 0 [] Between refl)
ends-unbegun (Says said k) told Rises w = absurd w
ends-unbegun (Over end) told Rises w = absurd w
