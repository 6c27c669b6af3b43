-- What a client says in an open session: "Command Phase" of the MySQL client/server protocol
-- documentation, its COM_QUIT, COM_QUERY, COM_PING, COM_RESET_CONNECTION and COM_CHANGE_USER.
use Rattle.std.specs.Prelude.{◌≢◌, ℕ, ◌<◌, true, List, [], ◌∷◌, ◌++◌, length, ◌==◌, Contains, Option, Some, None}
use Rattle.wire_form.specs.Fields.{number, mark, byte, name, ◌▸◌, counted}
use Rattle.wire_form.specs.Forms.{Form, rest, nothing, ◌▹◌, whole, by_first, either}
use Rattle.auth_packets.specs.declared.commands.ChangeUser.{ChangeUser}
use Rattle.auth_packets.specs.declared.commands.Command.{Command}
use Rattle.auth_packets.specs.declared.commands.Command.TheVariants.{Quit, Query, Ping, Reset, ChangeUser as Change, Other, Nothing}

-- ## A change of user

-- 11, user, the answer behind a length in one byte, database; whatever follows isn't examined
abbrev pub ChangeParts : Type 0
ChangeParts = (Unit {0} × (List ℕ × (List ℕ × List ℕ))) × List ℕ

abbrev pub change_of : ChangeParts → ChangeUser
change_of p = record { user = p.0.1.0; auth = p.0.1.1.0; database = p.0.1.1.1; rest = p.1 }

abbrev pub change_parts : ChangeUser → ChangeParts
change_parts v = ((tt, (v.user, (v.auth, v.database))), v.rest)

unfoldable pub change_user : Form ChangeUser
change_user = whole change_of change_parts ((mark 0x11 ▸ name ▸ counted (number 1) ▸ name) ▹ rest)

-- a change of user that can be written
abbrev pub IsWholeChange : ChangeUser → Type 0
IsWholeChange v = (¬ Contains v.user 0) × (length v.auth < 256) × (¬ Contains v.database 0)

unfoldable pub change_text : ChangeUser → List ℕ
change_text v = 0x11 ∷ [] ++ (v.user ++ 0 ∷ []) ++ length v.auth ∷ [] ++ v.auth ++ (v.database ++ 0 ∷ []) ++ v.rest

-- ## Commands

-- one byte, behind which nothing is examined
abbrev pub bare : ℕ → Command → Form Command
bare code command = whole (λ _. command) (λ _. (tt, [])) (mark code ▹ rest)

abbrev pub query_of : Command → List ℕ
query_of (Query text) = text
query_of _ = []

unfoldable pub query : Form Command
query = whole (λ p. Query p.1) (λ c. (tt, query_of c)) (mark 0x03 ▹ rest)

abbrev pub changed_by : Command → ChangeUser
changed_by (Change v) = v
changed_by _ = record { user = []; auth = []; database = []; rest = [] }

unfoldable pub change : Form Command
change = whole (λ v. Change v) changed_by change_user

-- the first byte of a command
abbrev pub code_of : Command → Option ℕ
code_of Quit = Some 0x01
code_of (Query text) = Some 0x03
code_of Ping = Some 0x0e
code_of Reset = Some 0x1f
code_of (Change v) = Some 0x11
code_of (Other first) = Some first
code_of Nothing = None

abbrev pub first_of : Command → ℕ
first_of (Other first) = first
first_of _ = 0

unfoldable pub other : Form Command
other = whole (λ p. Other p.0) (λ c. (first_of c, [])) (byte (λ _. true) ▹ rest)

unfoldable pub no_command : Form Command
no_command = whole (λ _. Nothing) (λ _. tt) nothing

-- the form that a first byte tells
abbrev pub command_by : Option ℕ → Form Command
command_by None = no_command
command_by (Some b) =
    either (b == 0x01) (bare 0x01 Quit)
    (either (b == 0x03) query
    (either (b == 0x0e) (bare 0x0e Ping)
    (either (b == 0x1f) (bare 0x1f Reset)
    (either (b == 0x11) change other))))

unfoldable pub command : Form Command
command = by_first command_by code_of

-- a byte that begins none of the known commands
abbrev pub IsOther : ℕ → Type 0
IsOther b = (b ≢ 0x01) × (b ≢ 0x03) × (b ≢ 0x0e) × (b ≢ 0x1f) × (b ≢ 0x11)

-- a command that can be written
abbrev pub IsWholeCommand : Command → Type 0
IsWholeCommand (Change v) = IsWholeChange v
IsWholeCommand (Other b) = IsOther b
IsWholeCommand _ = Unit {0}

unfoldable pub command_text : Command → List ℕ
command_text Quit = 0x01 ∷ []
command_text (Query text) = 0x03 ∷ [] ++ text
command_text Ping = 0x0e ∷ []
command_text Reset = 0x1f ∷ []
command_text (Change v) = change_text v
command_text (Other first) = first ∷ []
command_text Nothing = []
