-- What a replay prints.
use Rattle.std.specs.Prelude.{ℕ, true, false, List, [], ◌∷◌, ◌++◌, codes, decimal}
use Rattle.hex.specs.Hex.{encode_lower}
use Rattle.account_history.specs.declared.entries.Entry.{Entry}
use Rattle.account_history.specs.declared.entries.Entry.TheVariants.{Observed, Attempted, Executed}
use Rattle.account_history.specs.declared.entries.Reply.{Reply}
use Rattle.account_history.specs.declared.entries.Reply.TheVariants.{Opened, Sandbox, Blocked, Denied, Locked, MustChange}
use Rattle.account_history.specs.declared.entries.StmtReply.{StmtReply}
use Rattle.account_history.specs.declared.entries.StmtReply.TheVariants as stmt
use Rattle.lg_base.specs.Errors.{number_of}
use Rattle.session_talk.specs.declared.ends.SessionEnd.{SessionEnd}
use Rattle.session_talk.specs.declared.ends.SessionEnd.TheVariants.{Quit, PeerClosed, Refused, Bad, LinkFault, SessionLong, Memory}
use Rattle.packet_stream.specs.Sent.{Sent}

-- what is printed of a session
pub data Line : Type 0 where
  -- a payload is sent
  Sends : Sent → Line
  -- an entry is added, as the one of this number
  Adds : (number : ℕ) → Entry → Line
  -- an answer was stale
  Stale : Line
  -- the session ends
  Ends : SessionEnd → Line
  -- nothing was to be done
  Idle : Line

-- bytes in hexadecimal, `-` for none
unfoldable pub hex_word : List ℕ → List ℕ
hex_word [] = 45 ∷ []
hex_word (b ∷ bytes) = encode_lower (b ∷ bytes)

unfoldable pub reply_word : Reply → List ℕ
reply_word (Opened account host) = codes "opened"
reply_word (Sandbox account host) = codes "sandbox"
reply_word (Blocked rule left) = codes "blocked"
reply_word (Denied using_password) = codes "denied"
reply_word Locked = codes "locked"
reply_word MustChange = codes "mustchange"

-- an entry of the history, by its number: the user whose account was looked at, or an attempt and its reply
unfoldable pub look_line : (number : ℕ) → List ℕ → List ℕ
look_line number user = codes "entry " ++ decimal number ++ 32 ∷ codes "observe " ++ hex_word user ++ 10 ∷ []

unfoldable pub attempt_line : (number : ℕ) → List ℕ → Reply → List ℕ
attempt_line number user reply =
    codes "entry " ++ decimal number ++ 32 ∷ codes "attempt " ++ hex_word user ++ 32 ∷ reply_word reply ++ 10 ∷ []

-- a statement: the number of its error, or 0
abbrev pub stmt_number : StmtReply → ℕ
stmt_number stmt.Done = 0
stmt_number (stmt.Refused code) = number_of code

unfoldable pub statement_line : (number : ℕ) → StmtReply → List ℕ
statement_line number reply = codes "entry " ++ decimal number ++ 32 ∷ codes "statement " ++ decimal (stmt_number reply) ++ 10 ∷ []

abbrev pub entry_line : (number : ℕ) → Entry → List ℕ
entry_line number (Observed who look) = look_line number look.user
entry_line number (Attempted attempt) = attempt_line number attempt.user attempt.reply
entry_line number (Executed execution) = statement_line number execution.reply

unfoldable pub end_words : SessionEnd → List ℕ
end_words Quit = codes "quit"
end_words (PeerClosed false) = codes "closed"
end_words (PeerClosed true) = codes "closed cut"
end_words (Refused number) = codes "refused " ++ decimal number
end_words (Bad number at) = codes "bad " ++ decimal number ++ 32 ∷ decimal at
end_words LinkFault = codes "linkfault"
end_words SessionLong = codes "long"
end_words Memory = codes "memory"

-- a line of a session of this number
unfoldable pub line_text : (session : ℕ) → Line → List ℕ
line_text session (Sends sent) = codes "send " ++ decimal session ++ 32 ∷ decimal sent.first ++ 32 ∷ hex_word sent.payload ++ 10 ∷ []
line_text session (Adds number entry) = entry_line number entry
line_text session Stale = codes "stale " ++ decimal session ++ 10 ∷ []
line_text session (Ends how) = codes "ended " ++ decimal session ++ 32 ∷ end_words how ++ 10 ∷ []
line_text session Idle = codes "idle " ++ decimal session ++ 10 ∷ []

abbrev pub lines_text : (session : ℕ) → List Line → List ℕ
lines_text session [] = []
lines_text session (line ∷ lines) = line_text session line ++ lines_text session lines

-- the lines of payloads
abbrev pub send_lines : List Sent → List Line
send_lines [] = []
send_lines (sent ∷ more) = Sends sent ∷ send_lines more

-- the last line: how many entries there are
unfoldable pub end_line : (entries : ℕ) → List ℕ
end_line entries = codes "end " ++ decimal entries ++ 10 ∷ []

-- the line that sums up a history: how many entries it has, how many of them are attempts that opened, and how many are other
-- attempts
unfoldable pub summary_line : (entries opened refused : ℕ) → List ℕ
summary_line entries opened refused =
    (codes "entries " ++ decimal entries ++ 32 ∷ []) ++ (codes "opened " ++ decimal opened ++ 32 ∷ []) ++ codes "refused " ++ decimal refused ++ 10 ∷ []
