-- What answers the question that a session asked, answers the session.
use Rattle.std.proofs.Common.{◌≡◌, refl, IsTrue, true, false}
use Rattle.interaction.specs.Talk.{Says, Hears, Asks, Over}
use Rattle.session_talk.specs.Laws.{AsksAreAnswered, WhatFitsIsAsked}
use Rattle.session_talk.specs.Talk.{Begins, Own, Question}
use Rattle.session_talk.specs.Turns.{IsAsked, answers, is_answer, is_read, question, takes}
use Rattle.session_talk.specs.declared.actions.Ask.TheVariants as ask
use Rattle.session_talk.specs.declared.inputs.Input.{Input}
use Rattle.session_talk.specs.declared.inputs.Input.TheVariants as input

pub untrue : false ≡ true → ⊥
untrue e = absurd (cc)

-- what answers a question is of a kind that the question takes, and doesn't come of reading
pub own_answer : (q : Question) (given : Input) → IsTrue (answers q given) → IsTrue (takes q given) × (false ≡ is_read given)
own_answer Begins (input.Start nonce) is = (refl, refl)
own_answer (Own ask.Draw) (input.Drawn nonce) is = (refl, refl)
own_answer (Own (ask.Observe who)) (input.Looked look) is = (refl, refl)
own_answer (Own (ask.Renew who)) (input.Looked look) is = (refl, refl)
own_answer (Own (ask.Check look evidences)) (input.Checked checked) is = (refl, refl)
own_answer (Own (ask.Settle checked flags)) (input.Stale evidences) is = (refl, refl)
own_answer (Own (ask.Settle checked flags)) (input.Settled reply) is = (refl, refl)
own_answer (Own (ask.SettleLocked user evidences flags)) (input.Settled reply) is = (refl, refl)
own_answer (Own (ask.Prepare look statement salt actor)) (input.Prepared prepared) is = (refl, refl)
own_answer (Own (ask.Commit prepared actor)) (input.StaleStatement statement) is = (refl, refl)
own_answer (Own (ask.Commit prepared actor)) (input.Ran reply) is = (refl, refl)
own_answer (Own (ask.CommitLocked statement salt actor)) (input.Ran reply) is = (refl, refl)
own_answer (Own (ask.CommitPlain statement actor)) (input.Ran reply) is = (refl, refl)
own_answer _ _ is = absurd (untrue is)

pub asks_are_answered : AsksAreAnswered
unfolding question is_answer IsAsked
asks_are_answered next (Says payload t) given begun answers = absurd begun
asks_are_answered next (Hears anew k) given begun answers = (answers, tt)
asks_are_answered next (Asks Begins k) given begun answers = absurd begun
asks_are_answered next (Asks (Own (ask.Read want)) k) given begun answers = absurd begun
asks_are_answered next (Asks (Own (ask.Ended how)) k) given begun answers = absurd begun
asks_are_answered next (Asks (Own asked) k) given begun answers = answers
asks_are_answered next (Over how) given begun answers = absurd (untrue answers.0)

pub what_fits_is_asked : WhatFitsIsAsked
unfolding question IsAsked
what_fits_is_asked next (Asks Begins k) given fits = tt
what_fits_is_asked next (Asks (Own asked) k) given fits = fits
what_fits_is_asked next t given fits = tt
