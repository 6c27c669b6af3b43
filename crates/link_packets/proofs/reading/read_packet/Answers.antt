use Rattle.std.proofs.Common.{◌≡◌, ◌≤◌, refl, sym, ap, ◌∙◌, subst, ℕ, List, [], ◌++◌, length, take, drop, arith, append-nil, length-append}
use Rattle.link_packets.specs.Moving.{Moved}
use Rattle.packet_frame.specs.Framing.{Framing, front_of, missing_of}
use Rattle.std.proofs.lemmas.List.{length-drop, length-take, take-append-le}
use Rattle.link_packets.specs.Reading.{closed, failed}
use Rattle.lg_outside.specs.Faults.{Rose}
use Rattle.link_packets.specs.Reading.{Stops}
use Rattle.link_packets.specs.declared.reading.ReadEnd.{ReadEnd}
use Rattle.link_packets.proofs.Moves.{moved-more, moved-none, received, received-failed, received-none}
use Rattle.link_packets.proofs.Packets.{IsPartRead, part-grown, part-is, part-none, part-packet, part-taken, stops-at}
use Rattle.link_packets.proofs.reading.read_packet.Goals as goal

pub reads-init : goal.reads-init
reads-init g c =
    let (id, place, is, small) = c.requires.begun in
    record {
      piece = refl;
      part = part-none c.args.frames.now id place is;
      moved = subst (λ (held : List ℕ). Moved (g.L.Link.told c.args.link.now) (g.L.Link.told c.args.link.now) held []) (sym (ap (λ v. v.held) is)) (moved-none (g.L.Link.told c.args.link.now));
      unfinished = c.requires.open;
      place = refl;
      dialled = refl;
      rising = omega arith;
    }

pub returns-in-Err-clause-stops : goal.returns-in-Err-clause-stops
returns-in-Err-clause-stops g c id place is =
    let inv = c.reads.invariant in
    failed c.reads.frames.held
    (subst (λ (got : List ℕ). Moved (g.L.Link.told c.args.link.now) (g.L.Link.told c.read.new.self) got []) (append-nil c.reads.frames.held)
    (moved-more _ _ _ c.reads.frames.held [] [] [] inv.moved (received-failed _ _ c.in-Err.field-0 _ c.in-Err.ensures.bytes)))
    (part-is c.args.frames.now c.reads.frames id place is inv.part c.missing.ensures.reading) (omega (arith, inv.rising, c.in-Err.ensures.cause))

pub returns-then-count-eq0-clause-stops : goal.returns-then-count-eq0-clause-stops
returns-then-count-eq0-clause-stops g c id place is =
    let inv = c.reads.invariant in
    let none = received-none _ _ c.in-Ok.count _ c.if-count-eq0.true c.in-Ok.ensures.bytes in
    subst (λ (e : ReadEnd). Stops id place (g.L.Link.told c.args.link.now) (g.L.Link.told c.read.new.self) (Rose (g.L.Link.fault_count c.args.link.now) (g.L.Link.fault_count c.read.new.self)) e)
    (sym (c.closed_within.ensures inv.part.missing inv.part.part))
    (closed c.reads.frames.held _
    (subst (λ (got : List ℕ). Moved (g.L.Link.told c.args.link.now) (g.L.Link.told c.read.new.self) got []) (append-nil c.reads.frames.held)
    (moved-more _ _ _ c.reads.frames.held [] [] [] inv.moved none.0))
    (part-is c.args.frames.now c.reads.frames id place is inv.part c.missing.ensures.reading) none.1 refl)

pub returns-in-Err-feed-clause-stops : goal.returns-in-Err-feed-clause-stops
returns-in-Err-feed-clause-stops g c id place is =
    let inv = c.reads.invariant in
    let count = c.in-Ok.count in
    let rest = drop c.min-room.result c.reads.piece in
    let piece : List ℕ = take count (c.read.new.buf ++ rest) in
    let first : piece ≡ take count c.read.new.buf = take-append-le count c.read.new.buf rest c.in-Ok.ensures.within in
    let small : length piece ≤ missing_of (front_of c.reads.frames) =
    omega (arith, c.in-Ok.ensures.within, c.read.auto.buf, c.min-room.ensures, c.missing.ensures.missing, length-take count (c.read.new.buf ++ rest), length-take c.min-room.result c.reads.piece) in
    let moved = moved-more _ _ _ c.reads.frames.held [] piece [] inv.moved (received _ _ count c.read.new.buf piece c.in-Ok.ensures.bytes first) in
    stops-at c.args.frames.now c.reads.frames id place _ _ piece c.in-Err-feed.fault c.feed.new.self _ c.end_at.result is inv.part c.missing.ensures.reading moved small c.in-Err-feed.ensures.err c.feed.ensures.reading c.end_at.ensures

pub returns-in-Some-clause-packet : goal.returns-in-Some-clause-packet
returns-in-Some-clause-packet g c id place is =
    let inv = c.reads.invariant in
    let count = c.in-Ok.count in
    let rest = drop c.min-room.result c.reads.piece in
    let piece : List ℕ = take count (c.read.new.buf ++ rest) in
    let first : piece ≡ take count c.read.new.buf = take-append-le count c.read.new.buf rest c.in-Ok.ensures.within in
    let small : length piece ≤ missing_of (front_of c.reads.frames) =
    omega (arith, c.in-Ok.ensures.within, c.read.auto.buf, c.min-room.ensures, c.missing.ensures.missing, length-take count (c.read.new.buf ++ rest), length-take c.min-room.result c.reads.piece) in
    let moved = moved-more _ _ _ c.reads.frames.held [] piece [] inv.moved (received _ _ count c.read.new.buf piece c.in-Ok.ensures.bytes first) in
    let step = part-grown c.args.frames.now c.reads.frames piece c.feed.new.self inv.part small c.in-Ok-feed.ensures.ok.grown in
    part-packet c.args.frames.now c.feed.new.self id place _ _ c.in-Some.packet c.take.new.self is step.1
    (subst (λ (got : List ℕ). Moved (g.L.Link.told c.args.link.now) (g.L.Link.told c.read.new.self) got []) (sym step.0) moved) c.in-Some.ensures.some

pub reads-preserved : goal.reads-preserved
reads-preserved g c =
    let inv = c.reads.invariant in
    let count = c.in-Ok.count in
    let rest = drop c.min-room.result c.reads.piece in
    let piece : List ℕ = take count (c.read.new.buf ++ rest) in
    let first : piece ≡ take count c.read.new.buf = take-append-le count c.read.new.buf rest c.in-Ok.ensures.within in
    let small : length piece ≤ missing_of (front_of c.reads.frames) =
    omega (arith, c.in-Ok.ensures.within, c.read.auto.buf, c.min-room.ensures, c.missing.ensures.missing, length-take count (c.read.new.buf ++ rest), length-take c.min-room.result c.reads.piece) in
    let moved = moved-more _ _ _ c.reads.frames.held [] piece [] inv.moved (received _ _ count c.read.new.buf piece c.in-Ok.ensures.bytes first) in
    let step = part-grown c.args.frames.now c.reads.frames piece c.feed.new.self inv.part small c.in-Ok-feed.ensures.ok.grown in
    let same : c.take.new.self ≡ c.feed.new.self = c.in-None.ensures.none.0 in
    record {
      piece = omega (arith, inv.piece, c.read.auto.buf, c.min-room.ensures, length-append c.read.new.buf rest, length-take c.min-room.result c.reads.piece, length-drop c.min-room.result c.reads.piece);
      part = subst (λ (v : Framing). IsPartRead c.args.frames.now v) (sym same)
          (part-taken c.args.frames.now c.reads.frames piece _ c.feed.new.self inv.part c.in-Ok-feed.ensures.ok c.in-None.ensures.none.1);
      moved = subst (λ (v : Framing). Moved (g.L.Link.told c.args.link.now) (g.L.Link.told c.read.new.self) v.held []) (sym same)
          (subst (λ (got : List ℕ). Moved (g.L.Link.told c.args.link.now) (g.L.Link.told c.read.new.self) got []) (sym step.0) moved);
      unfinished = c.in-Ok.ensures.stays;
      place = c.in-Ok.ensures.place ∙ inv.place;
      dialled = c.in-Ok.ensures.dialled ∙ inv.dialled;
      rising = omega (arith, inv.rising, c.in-Ok.ensures.rising);
    }
