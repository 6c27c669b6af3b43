use Rattle.session_serve.proofs.Facts.{nonce_is_salt, readable_written}
use Rattle.session_serve.proofs.Owning.{prepared_answered, unprepared_fell}
use Rattle.session_talk.specs.declared.actions.Ask.TheVariants as ask
use Rattle.session_serve.proofs.statements.prepare_on.Goals as goal

pub prepare-requires-clause-written : goal.prepare-requires-clause-written
prepare-requires-clause-written c = readable_written c.args.statement c.requires.can.0

pub prepare-requires-clause-letters : goal.prepare-requires-clause-letters
prepare-requires-clause-letters c = nonce_is_salt c.args.salt c.requires.can.2

pub returns-in-Ok-clause-answered : goal.returns-in-Ok-clause-answered
returns-in-Ok-clause-answered c begun x keeps =
    prepared_answered begun x c.args.held.now c.args.look c.args.statement c.args.salt c.args.actor c.in-Ok.prepared c.in-Ok.ensures keeps

pub returns-in-Err-clause-fell : goal.returns-in-Err-clause-fell
returns-in-Err-clause-fell c x = unprepared_fell x (ask.Prepare c.args.look c.args.statement c.args.salt c.args.actor)
