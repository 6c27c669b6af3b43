-- Attempts and looks leave the keeper's count.
use Rattle.std.proofs.Common.{◌≡◌, ◌∙◌, ap}
use Rattle.account_history.specs.declared.entries.Entry.{Entry}
use Rattle.account_history.specs.declared.entries.Attempt.{Attempt}
use Rattle.account_history.specs.declared.entries.Entry.TheVariants.{Attempted, Observed}
use Rattle.account_history.specs.declared.entries.Log.{Log}
use Rattle.account_history.specs.declared.entries.Who.{Who}
use Rattle.account_history.specs.Histories.{history, noted}
use Rattle.account_history.specs.Legal.{last_count}
use Rattle.account_history.proofs.OneMore.{history-noted}
use Rattle.factor_chain.specs.declared.credentials.Look.{Look}

pub count-attempted : (log log' : Log) (t : Attempt) → log' ≡ noted log (Attempted t) → last_count (history log') ≡ last_count (history log)
count-attempted log log' t e = ap (λ (l : Log). last_count (history l)) e ∙ ap last_count (history-noted log (Attempted t))

pub count-observed : (log log' : Log) (who : Who) (look : Look) → log' ≡ noted log (Observed who look) → last_count (history log') ≡ last_count (history log)
count-observed log log' who look e = ap (λ (l : Log). last_count (history l)) e ∙ ap last_count (history-noted log (Observed who look))
