-- What an answer to an ask fits.
use Rattle.std.proofs.Common.{◌≡◌, ℕ, false, subst}
use Rattle.interaction.specs.Talk.{Asks}
use Rattle.session_probe.specs.Fitting.{gives_back}
use Rattle.session_talk.proofs.Asking.{what_fits_is_asked}
use Rattle.session_talk.specs.Talk.{Begins, Own, SessionTalk}
use Rattle.session_talk.specs.Turns.{IsAsked, IsFitting, asked}
use Rattle.session_talk.specs.declared.actions.Ask.{Ask}
use Rattle.session_talk.specs.declared.actions.Ask.TheVariants as ask
use Rattle.session_talk.specs.declared.inputs.Input.{Input}
use Rattle.session_talk.specs.declared.inputs.Input.TheVariants as input

-- what fits the ask of a session, is what the session asked about
pub fits : (next : ℕ) (t : SessionTalk) (a : Ask) (given : Input) → a ≡ asked next t → IsFitting (Own a) given → IsAsked t given
fits next t a given e f = what_fits_is_asked next t given (subst (λ (b : Ask). IsFitting (Own b) given) e f)

-- what gives nothing back fits any ask
pub plain_fits : (a : Ask) (given : Input) → gives_back given ≡ false → IsFitting (Own a) given
plain_fits (ask.Check look evidences) (input.Checked checked) e = absurd (cc)
plain_fits (ask.Settle checked flags) (input.Stale evidences) e = absurd (cc)
plain_fits (ask.Prepare look statement salt actor) (input.Prepared prepared) e = absurd (cc)
plain_fits (ask.Commit prepared actor) (input.StaleStatement statement) e = absurd (cc)
plain_fits a given e = tt

-- nor is it other than what any talk asked about
pub plain_is_asked : (t : SessionTalk) (given : Input) → gives_back given ≡ false → IsAsked t given
unfolding IsAsked
plain_is_asked (Asks Begins k) given e = tt
plain_is_asked (Asks (Own a) k) given e = plain_fits a given e
plain_is_asked t given e = tt
