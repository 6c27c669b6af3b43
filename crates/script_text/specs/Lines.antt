-- What a line of a script says.
use Rattle.std.specs.Prelude.{◌≡◌, ℕ, ◌==◌, nat_le, Bool, true, false, List, [], ◌∷◌, Option, Some, None, option_map, codes, if◌then◌else◌}
use Rattle.std.specs.Str.{bytes_eq}
use Rattle.account_history.specs.declared.entries.Opening.{Opening}
use Rattle.account_machine.specs.Openings.{is_opening}
use Rattle.script_text.specs.EventLines.{IsEvent, event_by, event_word_of}
use Rattle.script_text.specs.Words.{hex_word, is_none_left, number_word, pair, words}
use Rattle.script_text.specs.declared.line.Keyword.{Keyword}
use Rattle.script_text.specs.declared.line.Keyword.TheVariants as keyword
use Rattle.script_text.specs.declared.line.Line.{Line}
use Rattle.script_text.specs.declared.line.Line.TheVariants as line
use Rattle.script_text.specs.declared.line.Setting.{Setting}
use Rattle.script_text.specs.declared.line.Setting.TheVariants as setting

-- The first word of a line.
unfoldable pub keyword_of : List ℕ → Option Keyword
keyword_of word =
    if bytes_eq word (codes "account") then Some keyword.Account
    else if bytes_eq word (codes "set") then Some keyword.Set
    else if bytes_eq word (codes "end") then Some keyword.End
    else option_map keyword.Event (event_word_of word)

-- an account that `opening` takes
abbrev pub opening_if : Option (List ℕ) → Option (List ℕ) → Option Opening
opening_if (Some user) (Some password) =
    if is_opening (record { user = user; password = password }) then Some (record { user = user; password = password }) else None
opening_if (Some _) None = None
opening_if None _ = None

-- HEX HEX: a user and a password
abbrev pub opening_of : Option (List ℕ × List ℕ) → Option Opening
opening_of None = None
opening_of (Some (user, password)) = opening_if (hex_word user) (hex_word password)

-- a setting's name and its number, in its range
unfoldable pub setting_of : Option (List ℕ × List ℕ) → Option Setting
setting_of None = None
setting_of (Some (name, number)) =
    if bytes_eq name (codes "lifetime") then option_map setting.Lifetime (number_word 65535 number)
    else if bytes_eq name (codes "history") then option_map setting.History (number_word 256 number)
    else if bytes_eq name (codes "reuse") then option_map setting.Reuse (number_word 65535 number)
    else if bytes_eq name (codes "disconnect") then option_map (λ n. setting.Disconnect (n == 1)) (number_word 1 number)
    else None

-- `end` stands alone
abbrev pub end_of : Bool → Option Line
end_of true = Some line.End
end_of false = None

-- what a line says by its first word and the words behind it
abbrev pub said_by : Keyword → List (List ℕ) → Option Line
said_by keyword.Account arguments = option_map line.Account (opening_of (pair arguments))
said_by keyword.Set arguments = option_map line.Set (setting_of (pair arguments))
said_by (keyword.Event word) arguments = option_map line.Happens (event_by word arguments)
said_by keyword.End arguments = end_of (is_none_left arguments)

abbrev pub said_if : Option Keyword → List (List ℕ) → Option Line
said_if None arguments = None
said_if (Some keyword) arguments = said_by keyword arguments

abbrev pub said_in : List (List ℕ) → Option Line
said_in [] = None
said_in (word ∷ arguments) = said_if (keyword_of word) arguments

-- What a line says: nothing where it has no bytes or begins with #.
abbrev pub line_of : List ℕ → Option Line
line_of [] = Some line.Skipped
line_of (b ∷ bs) = if b == 35 then Some line.Skipped else said_in (words (b ∷ bs))

-- a setting that a line can give: at most 256 past passwords are kept
abbrev pub is_setting : Setting → Bool
is_setting (setting.History count) = nat_le count 256
is_setting _ = true

-- what a line can say
abbrev pub IsLine : Line → Type 0
IsLine line.Skipped = Unit {0}
IsLine (line.Account opening) = is_opening opening ≡ true
IsLine (line.Set setting) = is_setting setting ≡ true
IsLine (line.Happens event) = IsEvent event
IsLine line.End = Unit {0}

abbrev pub IsGiven : Option Line → Type 0
IsGiven None = Unit {0}
IsGiven (Some line) = IsLine line
