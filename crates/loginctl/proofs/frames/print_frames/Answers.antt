use Rattle.std.proofs.Common.{◌≡◌, refl, subst, ℕ, ◌+◌, ◌-◌, ◌<◌, ◌≤◌, List, [], ◌++◌, length, take, arith, length-append}
use Rattle.std.proofs.lemmas.List.{length-take-le}
use Rattle.loginctl.specs.Frames.{no_memory, ran, sink_fault, source_fault}
use Rattle.loginctl.specs.Printing.{Wrote, WrotePart}
use Rattle.packet_frame.specs.Framing.{place_of}
use Rattle.loginctl.proofs.Dues.{printed-as, wrote-nothing}
use Rattle.loginctl.proofs.Packets.{flushed, front-listed, front-written}
use Rattle.loginctl.proofs.Told.{ended-answers, held-front, held-listed, held-more, held-nothing, part-after, printed-after, rose-later, wrote-more, wrote-part}
use Rattle.loginctl.specs.declared.status.Status.TheVariants.{BadInput}
use Rattle.loginctl.proofs.frames.print_frames.Goals as goal

pub pieces-init : goal.pieces-init
pieces-init g c = record {
  piece = refl;
  steady = c.new-listing.ensures.steady;
  empty = c.new-listing.ensures.empty;
  within = omega (arith, c.new-listing.ensures.start);
  read = ([], [], held-nothing _, wrote-nothing _, c.new-listing.ensures.read);
  source = omega arith;
  sink = omega arith;
}

pub returns-in-Err-clause-answer : goal.returns-in-Err-clause-answer
returns-in-Err-clause-answer g c =
    let i = c.pieces.invariant in
    let r = i.read in
    source_fault r.1 (front-written _ r.0 r.1 c.pieces.listing r.4 i.steady (held-front _ _ r.0 r.2) i.within i.empty)
    (rose-later _ _ _ i.source c.in-Err.ensures.cause) r.3

pub returns-then-count-eq0-clause-answer : goal.returns-then-count-eq0-clause-answer
returns-then-count-eq0-clause-answer g c =
    let i = c.pieces.invariant in
    let r = i.read in
    ended-answers _ _ _ _ _ _ r.0 r.1 c.read.new.buf c.in-Ok.count _ _ _ c.print_ending.result r.2 c.in-Ok.ensures.bytes c.if-count-eq0.true r.3 (rose-later _ _ _ i.sink)
    (front-written _ r.0 r.1 c.pieces.listing r.4 i.steady (held-front _ _ r.0 r.2) i.within i.empty)
    (c.print_ending.ensures.ends r.0 r.1 r.4 (omega (arith, i.within, r.4.place_is)))

pub returns-in-Err-add_piece-clause-answer : goal.returns-in-Err-add_piece-clause-answer
returns-in-Err-add_piece-clause-answer g c =
    let i = c.pieces.invariant in
    let r = i.read in
    no_memory r.1 (front-written _ r.0 r.1 c.pieces.listing r.4 i.steady (held-front _ _ r.0 r.2) i.within i.empty) r.3

pub returns-in-Ok-true-clause-answer : goal.returns-in-Ok-true-clause-answer
returns-in-Ok-true-clause-answer g c =
    let i = c.pieces.invariant in
    let r = i.read in
    let held = held-more _ _ _ r.0 c.in-Ok.count c.read.new.buf r.2 c.in-Ok.ensures.bytes in
    let lines = c.add_piece.new.self.lines in
    ran c.print.result BadInput (r.1 ++ lines)
    (held-listed _ _ _ BadInput (r.1 ++ lines) held (λ rest. c.in-Ok-true.ensures.bad r.0 r.1 rest r.4 c.in-Ok-true.field-0-test))
    (printed-after _ _ _ _ _ BadInput r.1 lines c.print.result r.3 (rose-later _ _ _ i.sink)
    (printed-as _ _ _ BadInput _ _ c.print.result c.as_slice.ensures c.print.ensures.printed))

pub returns-in-Err-write_all-clause-answer : goal.returns-in-Err-write_all-clause-answer
returns-in-Err-write_all-clause-answer g c =
    let i = c.pieces.invariant in
    let r = i.read in
    let more = take c.in-Ok.count c.read.new.buf in
    let lines = c.add_piece.new.self.lines in
    let held = held-more _ _ _ r.0 c.in-Ok.count c.read.new.buf r.2 c.in-Ok.ensures.bytes in
    let good = c.in-Ok-false.ensures.good r.0 r.1 r.4 c.in-Ok-false.field-0-test in
    let short : length (r.0 ++ more) ≤ 1099511627776 = omega (arith, r.4.place_is, c.in-Ok-false.ensures.within c.in-Ok-false.field-0-test, length-append r.0 more) in
    let part = wrote-part (g.W.Sink.written c.pieces.out) (g.W.Sink.written c.write_all.new.self) c.as_slice-in-pieces.result.now c.in-Err-write_all.field-0 c.in-Err-write_all.ensures.bytes in
    sink_fault (r.1 ++ lines) (front-listed _ (r.0 ++ more) r.1 c.add_piece.new.self good.1 good.0 (held-front _ _ _ held) short)
    (rose-later _ _ _ i.sink c.in-Err-write_all.ensures.cause)
    (part-after _ _ _ r.1 lines r.3
    (subst (λ (t : List ℕ). WrotePart (g.W.Sink.written c.pieces.out) (g.W.Sink.written c.write_all.new.self) t) c.as_slice-in-pieces.ensures part))

pub pieces-smaller : goal.pieces-smaller
pieces-smaller g c =
    let i = c.pieces.invariant in
    let r = i.read in
    let more = take c.in-Ok.count c.read.new.buf in
    let good = c.in-Ok-false.ensures.good r.0 r.1 r.4 c.in-Ok-false.field-0-test in
    let fits = c.in-Ok-false.ensures.within c.in-Ok-false.field-0-test in
    let taken : length more ≡ c.in-Ok.count = length-take-le c.in-Ok.count c.read.new.buf c.in-Ok.ensures.within in
    let moved : place_of c.add_piece.new.self.frames ≡ place_of c.pieces.listing.frames + c.in-Ok.count = omega (arith, good.1.place_is, r.4.place_is, taken, length-append r.0 more) in
    let less : 1099511627776 - place_of c.add_piece.new.self.frames < 1099511627776 - place_of c.pieces.listing.frames = omega (arith, moved, fits, taken, c.if-count-eq0.false) in
    less

pub pieces-preserved : goal.pieces-preserved
pieces-preserved g c =
    let i = c.pieces.invariant in
    let r = i.read in
    let more = take c.in-Ok.count c.read.new.buf in
    let lines = c.add_piece.new.self.lines in
    let held = held-more _ _ _ r.0 c.in-Ok.count c.read.new.buf r.2 c.in-Ok.ensures.bytes in
    let good = c.in-Ok-false.ensures.good r.0 r.1 r.4 c.in-Ok-false.field-0-test in
    let fits = c.in-Ok-false.ensures.within c.in-Ok-false.field-0-test in
    let wrote = wrote-more _ _ _ r.1 c.as_slice-in-pieces.result.now c.in-Ok-write_all.field-0 r.3 c.in-Ok-write_all.ensures.bytes in
    record {
      piece = omega (arith, c.read.auto.buf, i.piece);
      steady = record { missing = good.0.missing; part = good.0.part; counted = good.0.counted };
      empty = c.truncate.ensures;
      within = omega (arith, good.1.place_is, r.4.place_is, fits, length-append r.0 more);
      read = (
        r.0 ++ more,
        r.1 ++ lines,
        held,
        subst (λ (t : List ℕ). Wrote (g.W.Sink.written c.args.out.now) (g.W.Sink.written c.write_all.new.self) (r.1 ++ t)) c.as_slice-in-pieces.ensures wrote,
        flushed (r.0 ++ more) r.1 c.truncate.new.self c.add_piece.new.self good.1 c.truncate.ensures,
      );
      source = omega (arith, i.source, c.read.ensures.rising);
      sink = omega (arith, i.sink, c.write_all.ensures.rising);
    }
