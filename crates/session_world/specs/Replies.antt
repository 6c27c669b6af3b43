-- What a session sends right behind each entry whose reply its client is to be told: OK or an error, and after the refusal of an
-- attempt the session has ended.
use Rattle.std.specs.Prelude.{◌≡◌, ◌≢◌, ℕ, List, [], ◌∷◌, Result, Ok, Err}
use Rattle.lg_base.specs.Errors.{number_of}
use Rattle.lg_base.specs.declared.errors.Code.{Code}
use Rattle.account_history.specs.declared.entries.Attempt.{Attempt}
use Rattle.account_history.specs.declared.entries.Entry.TheVariants.{Observed, Attempted, Executed}
use Rattle.account_history.specs.declared.entries.Opening.{Opening}
use Rattle.account_history.specs.declared.entries.StmtReply.{StmtReply}
use Rattle.account_history.specs.declared.entries.StmtReply.TheVariants.{Done, Refused}
use Rattle.account_rules.specs.declared.accounts.Settings.{Settings}
use Rattle.script_text.specs.declared.event.Event.{Event}
use Rattle.session_talk.specs.Logins.{decided}
use Rattle.session_talk.specs.Texts.{error_payload, ok_payload}
use Rattle.session_talk.specs.declared.attempts.Attempting.{Attempting}
use Rattle.session_talk.specs.declared.ends.SessionEnd.TheVariants as end
use Rattle.session_talk.specs.declared.open_session.OpenSession.{OpenSession}
use Rattle.session_world.specs.Events.{all_printed, lines_for}
use Rattle.session_world.specs.Replays.{new_replay}
use Rattle.world_table.specs.Printing.{Line, Sends, Adds, Stale, Ends, Idle}

-- who attempts
abbrev pub attempting : Attempt → Attempting
attempting attempt = record { user = attempt.user; flags = attempt.flags }

-- a reply that opens a session is told by OK; one that refuses by the error that names the rule, and the session ends with that
-- error's number
abbrev pub IsTold : Result OpenSession Code → List Line → Type 0
IsTold (Ok opened) after =
    (first : ℕ) × (rest : List Line) × (after ≡ Sends (record { first = first; payload = ok_payload }) ∷ rest)
IsTold (Err error) after =
    (first : ℕ) × (rest : List Line)
    × (after ≡ Sends (record { first = first; payload = error_payload error }) ∷ Ends (end.Refused (number_of error)) ∷ rest)

-- the reply to a statement
abbrev pub reply_payload : StmtReply → List ℕ
reply_payload Done = ok_payload
reply_payload (Refused error) = error_payload error

abbrev pub IsStatementTold : StmtReply → List Line → Type 0
IsStatementTold reply after =
    (first : ℕ) × (rest : List Line) × (after ≡ Sends (record { first = first; payload = reply_payload reply }) ∷ rest)

-- right behind each attempt and each statement of these lines its reply is told
abbrev pub AreTold : List Line → Type 0
AreTold [] = Unit {0}
AreTold (Sends sent ∷ after) = AreTold after
AreTold (Adds number (Observed who look) ∷ after) = AreTold after
AreTold (Adds number (Attempted attempt) ∷ after) = IsTold (decided (attempting attempt) attempt.reply) after × AreTold after
AreTold (Adds number (Executed execution) ∷ after) = IsStatementTold execution.reply after × AreTold after
AreTold (Stale ∷ after) = AreTold after
AreTold (Ends how ∷ after) = AreTold after
AreTold (Idle ∷ after) = AreTold after

-- After any events, right behind each attempt and each statement of a session it has sent what the reply says.
abbrev pub RepliesAreTold : Type 0
RepliesAreTold =
    (openings : List Opening) (settings : Settings) (events : List Event) (number : ℕ) → number ≢ 0 →
    AreTold (lines_for number (all_printed (new_replay openings settings) events))
