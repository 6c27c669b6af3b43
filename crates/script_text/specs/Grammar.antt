-- A script as a whole: setup lines, then events, then `end`, with lines that say nothing anywhere between and behind.
use Rattle.std.specs.Prelude.{◌≡◌, ℕ, true, List, [], ◌∷◌, ◌++◌, map, Option, Some, None, option_map, Result, Ok, Err}
use Rattle.account_history.specs.declared.entries.Opening.{Opening}
use Rattle.account_machine.specs.Openings.{are_openings}
use Rattle.account_rules.specs.declared.accounts.Settings.{Settings}
use Rattle.script_text.specs.Lines.{line_of}
use Rattle.script_text.specs.Reading.{Contents, start, with_setting}
use Rattle.script_text.specs.Words.{parts}
use Rattle.script_text.specs.declared.ScriptFault.{ScriptFault}
use Rattle.script_text.specs.declared.ScriptFault.TheVariants as fault
use Rattle.script_text.specs.declared.line.Line.{Line}
use Rattle.script_text.specs.declared.line.Line.TheVariants as line
use Rattle.script_text.specs.declared.line.Setting.{Setting}

abbrev pub with_said : Option Line → Option (List Line) → Option (List Line)
with_said None more = None
with_said (Some line.Skipped) more = more
with_said (Some (line.Account opening)) more = option_map (λ lines. line.Account opening ∷ lines) more
with_said (Some (line.Set setting)) more = option_map (λ lines. line.Set setting ∷ lines) more
with_said (Some (line.Happens event)) more = option_map (λ lines. line.Happens event ∷ lines) more
with_said (Some line.End) more = option_map (λ lines. line.End ∷ lines) more

-- what lines say, without those that say nothing; none where one is of no kind
abbrev pub said : List (List ℕ) → Option (List Line)
said [] = Some []
said (line ∷ lines) = with_said (line_of line) (said lines)

-- a setup line
pub data SetupLine : Type 0 where
  Account : Opening → SetupLine
  Set : Setting → SetupLine

abbrev pub setup_line : SetupLine → Line
setup_line (Account opening) = line.Account opening
setup_line (Set setting) = line.Set setting

-- their accounts, in order
abbrev pub accounts_of : List SetupLine → List Opening
accounts_of [] = []
accounts_of (Account opening ∷ lines) = opening ∷ accounts_of lines
accounts_of (Set setting ∷ lines) = accounts_of lines

-- their settings, where the last of a kind counts
abbrev pub settings_from : Settings → List SetupLine → Settings
settings_from settings [] = settings
settings_from settings (Account opening ∷ lines) = settings_from settings lines
settings_from settings (Set setting ∷ lines) = settings_from (with_setting settings setting) lines

-- the text says this: each line ends in LF, and no two accounts have one user
pub record Spells (text : List ℕ) (script : Contents) : Type 0 where
  pub lines : List (List ℕ)
  pub setup : List SetupLine
  pub parts : parts 10 text ≡ lines ++ [] ∷ []
  pub said : said lines ≡ Some (map setup_line setup ++ (map line.Happens script.events ++ line.End ∷ []))
  pub accounts : script.setup.accounts ≡ accounts_of setup
  pub distinct : are_openings (accounts_of setup) ≡ true
  pub settings : script.setup.settings ≡ settings_from start.settings setup

-- the text is the script that is read, and no other; or it is no script
abbrev pub Accepts : List ℕ → Result Contents ScriptFault → Type 0
Accepts text (Ok script) = Spells text script × ((other : Contents) → Spells text other → other ≡ script)
Accepts text (Err (fault.BadLine line)) = (other : Contents) → Spells text other → ⊥
Accepts text (Err fault.Memory) = Unit {0}
