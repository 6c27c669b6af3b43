use Rattle.session_engine.proofs.Whole.{greeting_whole}
use Rattle.session_engine.proofs.payloads.greeting_payload.Goals as goal

-- src/payloads.rt:49:5
pub write-requires : goal.write-requires
write-requires c = greeting_whole c.args.id c.args.nonce c.in_ok-make_greeting.field-0 (c.in_ok-make_greeting.ensures {u = tt})
