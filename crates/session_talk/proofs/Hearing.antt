-- A session goes on with what is read as its text says.
use Rattle.std.proofs.Common.{refl}
use Rattle.session_talk.specs.Hearing.{ReadingIsHeard}
use Rattle.session_talk.specs.Logins.{heard_by}
use Rattle.session_talk.specs.Turns.{heard}
use Rattle.session_talk.specs.declared.inputs.Input.TheVariants as input

pub reading_is_heard : ReadingIsHeard
unfolding heard heard_by
reading_is_heard anew k (input.Packet packet) = refl
reading_is_heard anew k (input.Frame fault) = refl
reading_is_heard anew k (input.End cut) = refl
reading_is_heard anew k input.LinkFailed = refl
reading_is_heard anew k _ = tt
