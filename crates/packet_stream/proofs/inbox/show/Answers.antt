use Rattle.std.proofs.Common.{arith, ◌∙◌}
use Rattle.packet_stream.proofs.Fronting.{all_there, large_size, less_behind, other_id, short, split_there, splits}
use Rattle.packet_stream.proofs.inbox.show.Goals as goal

-- src/inbox.rt:63:9
pub returns-in_default-clause-front : goal.returns-in_default-clause-front
returns-in_default-clause-front c = short c.args.want c.args.at c.args.bytes.now c.in_default.len_below

-- src/inbox.rt:66:9
pub returns-then-got-want-clause-front : goal.returns-then-got-want-clause-front
returns-then-got-want-clause-front c = other_id c.args.want c.args.at c.args.bytes.now c.in-len4-up.len_at_least c.if-got-want.true

-- src/inbox.rt:74:9
pub returns-then-size-gt-MAX_PAYLOAD-clause-front : goal.returns-then-size-gt-MAX_PAYLOAD-clause-front
returns-then-size-gt-MAX_PAYLOAD-clause-front c =
    large_size c.args.want c.args.at c.args.bytes.now c.in-len4-up.len_at_least c.if-got-want.false
    (omega (arith, c.if-size-gt-MAX_PAYLOAD.true, c.from_le_bytes-size.ensures))

-- src/inbox.rt:77:9
pub returns-then-behind-size-clause-front : goal.returns-then-behind-size-clause-front
returns-then-behind-size-clause-front c =
    less_behind c.args.want c.args.at c.args.bytes.now c.in-len4-up.len_at_least c.if-got-want.false
    (omega (arith, c.if-size-gt-MAX_PAYLOAD.false, c.from_le_bytes-size.ensures)) (omega (arith, c.if-behind-size.true, c.from_le_bytes-size.ensures))

-- src/inbox.rt:59:1
pub returns-clause-front : goal.returns-clause-front
returns-clause-front c =
    all_there c.args.want c.args.at c.args.bytes.now c.in-len4-up.len_at_least c.if-got-want.false
    (omega (arith, c.if-size-gt-MAX_PAYLOAD.false, c.from_le_bytes-size.ensures)) (omega (arith, c.if-behind-size.false, c.from_le_bytes-size.ensures))
    ∙ split_there c.args.want c.args.bytes.now c.from_le_bytes-size.result _ _ (omega (arith, c.from_le_bytes-size.ensures)) c.split_at.ensures.front c.split_at.ensures.back

pub returns-clause-splits : goal.returns-clause-splits
returns-clause-splits c =
    splits c.args.bytes.now c.from_le_bytes-size.result _ _ c.in-len4-up.len_at_least (omega (arith, c.if-behind-size.false)) c.split_at.ensures.front c.split_at.ensures.back
