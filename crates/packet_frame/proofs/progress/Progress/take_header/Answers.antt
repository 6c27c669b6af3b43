use Rattle.std.proofs.Common.{◌≡◌, ◌+◌, ◌++◌, length, take, ap, ◌∙◌, sym, arith}
use Rattle.std.proofs.lemmas.List.{length-take-le}
use Rattle.packet_frame.proofs.Steps.{header-goes-on, header-ended, header-counted, header-refused}
use Rattle.packet_frame.proofs.progress.Progress.take_header.Goals as goal

pub returns-then-self-count-lt4-clause-ok : goal.returns-then-self-count-lt4-clause-ok
returns-then-self-count-lt4-clause-ok c =
    let p = c.args.self.now in
    let count = c.min-count.result in
    let head = c.filled-header.result in
    let some : length (take count c.args.piece.now) ≡ count = length-take-le count c.args.piece.now (omega arith) in
    let is : take (p.seen + count) head ≡ take p.seen p.header ++ take count c.args.piece.now =
    ap (λ n. take (p.seen + n) head) (sym some) ∙ c.filled-header.ensures.bytes in
    header-goes-on p c.args.piece.now count head c.requires.sound c.requires.stage c.min-count.ensures is c.filled-header.ensures.four
    c.if-self-count-lt4.true c.requires.in_place

pub returns-in_ok-reserve-in-Ok-clause-ok : goal.returns-in_ok-reserve-in-Ok-clause-ok
returns-in_ok-reserve-in-Ok-clause-ok c =
    let p = c.args.self.now in
    let count = c.min-count.result in
    let head = c.filled-header.result in
    let some : length (take count c.args.piece.now) ≡ count = length-take-le count c.args.piece.now (omega arith) in
    let four : p.seen + count ≡ 4 = omega (arith, c.requires.sound.seen_in) in
    let is : take 4 head ≡ take p.seen p.header ++ take count c.args.piece.now =
    ap (λ n. take n head) (sym four) ∙ ap (λ n. take (p.seen + n) head) (sym some) ∙ c.filled-header.ensures.bytes in
    record {
      grown = c.begin_piece.ensures.taken
          ∙ header-ended p c.args.piece.now count head c.reserve.new.self c.requires.sound c.requires.stage c.min-count.ensures is
          c.filled-header.ensures.four c.in_ok-reserve-in-Ok.ensures.items;
      counted = header-counted p c.args.piece.now count c.requires.sound c.requires.stage c.min-count.ensures;
      sound = c.begin_piece.ensures.no_fault;
    }

pub returns-in-Err : goal.returns-in-Err
returns-in-Err c =
    let p = c.args.self.now in
    let count = c.min-count.result in
    let head = c.filled-header.result in
    let some : length (take count c.args.piece.now) ≡ count = length-take-le count c.args.piece.now (omega arith) in
    let four : p.seen + count ≡ 4 = omega (arith, c.requires.sound.seen_in) in
    let is : take 4 head ≡ take p.seen p.header ++ take count c.args.piece.now =
    ap (λ n. take n head) (sym four) ∙ ap (λ n. take (p.seen + n) head) (sym some) ∙ c.filled-header.ensures.bytes in
    let found = c.in-Err.ensures.err in
    let step = header-refused p c.args.piece.now count head found.0 found.1 c.in-Err.fault c.requires.sound c.requires.stage c.min-count.ensures is
    c.filled-header.ensures.four c.requires.in_place found.2 found.3 found.4 in
    record { sound = step.sound; ok = tt; err = step.refused }
