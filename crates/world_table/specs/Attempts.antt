-- How the attempts of a history ended.
use Rattle.std.specs.Prelude.{ℕ, Bool, false, not}
use Rattle.std.specs.List.{count_by}
use Rattle.account_history.specs.declared.entries.Entry.{Entry}
use Rattle.account_history.specs.declared.entries.Entry.TheVariants.{Attempted}
use Rattle.account_history.specs.declared.entries.Log.{Log}
use Rattle.account_history.specs.Replies.{opens}

-- an attempt by which a session opens, also one that is then in a sandbox
abbrev pub is_opened : Entry → Bool
is_opened (Attempted attempt) = opens attempt.reply
is_opened _ = false

-- any other attempt
abbrev pub is_refused : Entry → Bool
is_refused (Attempted attempt) = not (opens attempt.reply)
is_refused _ = false

-- how many of either a history has
abbrev pub opened_in : Log → ℕ
opened_in log = count_by is_opened log.entries

abbrev pub refused_in : Log → ℕ
refused_in log = count_by is_refused log.entries
