use Rattle.session_talk.proofs.GoingOn.{stale_changes_nothing, stale_statements_change_nothing}
use Rattle.session_talk.proofs.laws.stale_changes_nothing.Goals as goal

pub returns-clause-attempts : goal.returns-clause-attempts
returns-clause-attempts c = stale_changes_nothing

pub returns-clause-statements : goal.returns-clause-statements
returns-clause-statements c = stale_statements_change_nothing
