use Rattle.std.proofs.Common.{◌-◌, arith}
use Rattle.loginctl.proofs.Packets.{ends-between, ends-within, held-part}
use Rattle.loginctl.proofs.frames.Listing.add_ending.Goals as goal

pub returns-then-held-eq0 : goal.returns-then-held-eq0
returns-then-held-eq0 c bytes written h short =
    ends-between bytes written c.args.self.now c.add_end.new.lines h c.requires.steady short
    (omega (arith, c.held-held.ensures.length, c.if-held-eq0.true)) c.in_ok-add_end.ensures

pub returns : goal.returns
returns c bytes written h short =
    let held = held-part c.args.self.now.frames c.requires.steady.missing c.requires.steady.part in
    ends-within bytes written c.args.self.now c.add_bad.new.lines (c.place.result - c.held-held.result) h c.requires.steady short
    (λ none. omega (arith, none, c.held-held.ensures.length, c.if-held-eq0.false))
    (omega (arith, c.place.ensures, c.held-held.ensures.length, held)) c.in_ok-add_bad.ensures
