use Rattle.std.proofs.Common.{◌≡◌, ◌+◌, ◌<◌, ◌≤◌, ◌++◌, [], ℕ, zero, suc, refl, ◌↔◌, ◌⊎◌, ⊎_elim, List, take, drop, length, arith, sym, ap, ◌∙◌, subst, append_assoc}
use Rattle.std.proofs.lemmas.Grind.{common_steps}
use Rattle.std.proofs.lemmas.List.{take-append-drop}
use Rattle.packet_frame.specs.Framing.{Framing, IsWhole, front_of, place_of}
use Rattle.packet_frame.specs.Front.{Front, Part}
use Rattle.packet_frame.specs.declared.packets.Want.TheVariants.{Any}
use Rattle.packet_frame.proofs.Loops.{takes-place, takes-count, expected-place, expected-between}
use Rattle.loginctl.specs.Frames.{packet_line}
use Rattle.loginctl.specs.Listing.{HasRead, Stops}
use Rattle.loginctl.proofs.Packets.{part-of, read-packet, read-stopped, read-taken}
use Rattle.loginctl.proofs.frames.Listing.read_piece.Goals as goal

split : (so_far rest behind bytes piece : List ℕ) (count : ℕ) → so_far ++ rest ≡ bytes ++ piece → behind ≡ drop count rest → (so_far ++ take count rest) ++ behind ≡ bytes ++ piece
split so_far rest behind bytes piece count e is =
    ap (λ b. so_far ++ take count rest ++ b) is ∙ append_assoc so_far (take count rest) (drop count rest) ∙ ap (λ b. so_far ++ b) (take-append-drop count rest) ∙ e

-- something is taken where there is something to take
positive : (count : ℕ) (rest : List ℕ) (f : Front) (missing : ℕ) → f ≡ Part missing → 0 < length rest → ((count ≡ 0) ↔ ((rest ≡ []) ⊎ IsWhole f)) → 1 ≤ count
positive zero rest f missing e full both =
    ⊎_elim (λ (none : rest ≡ []). absurd (omega (arith, full, ap (λ (r : List ℕ). length r) none))) (λ (whole : IsWhole f). absurd (subst IsWhole e whole)) (both.0 refl)
positive (suc k) rest f missing e full both = omega arith

pub returns-in-Err-clause-stopped : goal.returns-in-Err-clause-stopped
returns-in-Err-clause-stopped c bytes written h =
    let now = c.pieces.invariant.read bytes written h in
    subst (λ (b : List ℕ). Stops b written c.in-Err.fault (record { frames = c.feed.new.self; count = c.pieces.self.count; lines = c.pieces.self.lines })) now.1
    (read-stopped now.0 written c.pieces.self c.pieces.rest.now c.in-Err.fault c.feed.new.self now.2 c.in-Err.ensures.err c.feed.ensures.reading)

pub pieces-preserved : goal.pieces-preserved
pieces-preserved c =
    let rest = c.pieces.rest.now in
    let count = c.in-Ok.count in
    let takes = c.in-Ok.ensures.ok in
    let placed = takes-place c.pieces.self.frames rest count c.feed.new.self takes in
    let less = takes-count c.pieces.self.frames rest count c.feed.new.self takes in
    let same = c.in_default.ensures.none in
    let part = part-of (front_of c.feed.new.self) takes.sound same.1 in
    let stays : place_of c.take.new.self ≡ place_of c.feed.new.self = ap (λ (v : Framing). place_of v) same.0 in
    record {
      place = omega (arith, placed, less, c.pieces.invariant.place, c.split_at.ensures.back_len, stays);
      steady = record {
        missing = part.0;
        part = ap (λ (v : Framing). front_of v) same.0 ∙ part.1;
        counted = omega (arith, placed, stays, c.pieces.invariant.steady.counted);
      };
      read = λ bytes written h.
          let now = c.pieces.invariant.read bytes written h in (
            now.0 ++ take count rest,
            split now.0 rest c.split_at.result.1.now bytes c.args.piece.now count now.1 c.split_at.ensures.back,
            subst (λ (v : Framing). HasRead (now.0 ++ take count rest) written (record { frames = v; count = c.pieces.self.count; lines = c.pieces.self.lines })) (sym same.0)
                (read-taken now.0 written c.pieces.self rest count c.feed.new.self now.2 takes c.feed.ensures.reading),
          );
    }

pub pieces-preserved-in-Some : goal.pieces-preserved-in-Some
pieces-preserved-in-Some c =
    let rest = c.pieces.rest.now in
    let count = c.in-Ok.count in
    let takes = c.in-Ok.ensures.ok in
    let placed = takes-place c.pieces.self.frames rest count c.feed.new.self takes in
    let less = takes-count c.pieces.self.frames rest count c.feed.new.self takes in
    let packet = c.in-Some.packet in
    let some = c.in-Some.ensures.some in
    let stays = expected-place c.feed.new.self packet c.take.new.self Any c.expect.new.self some c.expect.ensures in
    let between = expected-between c.feed.new.self packet c.take.new.self Any c.expect.new.self some c.expect.ensures in
    let full : 0 < length rest = grind (arith, common_steps, c.is_empty.ensures, c.pieces-test.true) in
    let least = positive count rest (front_of c.pieces.self.frames) c.pieces.invariant.steady.missing c.pieces.invariant.steady.part full c.in-Ok.ensures.nothing in
    let added : c.add_packet.new.lines ≡ c.pieces.self.lines ++ packet_line (c.pieces.self.count + 1) packet = grind (arith, common_steps, c.add_packet.ensures, c.is_err.ensures, c.if-is_err.false) in
    record {
      place = omega (arith, placed, less, c.pieces.invariant.place, c.split_at.ensures.back_len, stays);
      steady = record {
        missing = 4;
        part = between;
        counted = omega (arith, placed, stays, c.pieces.invariant.steady.counted, least);
      };
      read = λ bytes written h.
          let now = c.pieces.invariant.read bytes written h in
          let fed = read-taken now.0 written c.pieces.self rest count c.feed.new.self now.2 takes c.feed.ensures.reading in (
            now.0 ++ take count rest,
            split now.0 rest c.split_at.result.1.now bytes c.args.piece.now count now.1 c.split_at.ensures.back,
            read-packet (now.0 ++ take count rest) written (record { frames = c.feed.new.self; count = c.pieces.self.count; lines = c.pieces.self.lines }) packet c.take.new.self c.expect.new.self c.add_packet.new.lines fed some c.expect.ensures added,
          );
    }
