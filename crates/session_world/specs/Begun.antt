-- A session that has begun, as a test.
use Rattle.std.specs.Prelude.{Bool, true, false}
use Rattle.interaction.specs.Talk.{Says, Hears, Asks, Over}
use Rattle.session_talk.specs.Talk.{Begins, Own, Question, SessionTalk}
use Rattle.session_talk.specs.declared.actions.Ask.TheVariants as ask

-- a session that has begun puts the question
abbrev pub is_put : Question → Bool
is_put Begins = false
is_put (Own (ask.Read want)) = false
is_put (Own (ask.Ended how)) = false
is_put _ = true

-- it has drawn its first nonce, and stands at a question
abbrev pub is_begun : SessionTalk → Bool
is_begun (Says payload t) = false
is_begun (Hears anew k) = true
is_begun (Asks q k) = is_put q
is_begun (Over how) = true
