use Rattle.std.proofs.Common.{◌≡◌, ◌-◌, take, drop, length, slice_index, ◌∙◌, arith}
use Rattle.native_scramble.proofs.UpperHex.{AllPass_written, text_parts, text_read, text_read_back}
use Rattle.native_scramble.proofs.read_stored.Goals as goal

pub returns-then-not-are_upper_hex_digits-clause-written :
    goal.returns-then-not-are_upper_hex_digits-clause-written
returns-then-not-are_upper_hex_digits-clause-written c stage2 long bytes written =
    let text = c.args.text.now in
    let digits = take (length text - 1) (drop 1 text) in
    let mark : slice_index text 0 ≡ 42 = omega arith in
    let whole = text_parts text 42 c.in-42.len_at_least mark in
    let passed = c.are_upper_hex_digits.ensures.1 (AllPass_written text digits stage2 whole bytes written) in
    cc (passed, c.if-not-are_upper_hex_digits.true)

pub returns : goal.returns
returns c =
    let text = c.args.text.now in
    let digits = take (length text - 1) (drop 1 text) in
    let mark : slice_index text 0 ≡ 42 = omega arith in
    let whole = text_parts text 42 c.in-42.len_at_least mark in
    let all = c.are_upper_hex_digits.ensures.0 c.if-not-are_upper_hex_digits.false in
    let decoded = c.from_hex.ensures in
    let value = c.ok.ensures.value in
    let read = text_read text digits c.from_hex.result whole all decoded in
    record {
      found = rw value read.0;
      value = rw value read.1;
      written = λ stage2 long bytes written.
          value ∙ text_read_back text digits stage2 c.from_hex.result whole decoded long bytes written;
    }
