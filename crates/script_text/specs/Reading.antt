-- A script, line by line: setup lines first, then events, then `end`.
use Rattle.std.specs.Prelude.{◌≡◌, ◌≢◌, ◌⊎◌, ◌+◌, ◌≤◌, ℕ, IsTrue, All, Bool, true, false, List, [], ◌∷◌, ◌++◌, length, Option, Some, None, Result, Ok, Err, if◌then◌else◌}
use Rattle.std.specs.Option.{option_and_then}
use Rattle.std.specs.List.{list_any}
use Rattle.std.specs.Str.{bytes_eq}
use Rattle.account_history.specs.declared.entries.Opening.{Opening}
use Rattle.lg_base.specs.declared.allocation.Memory.{Memory}
use Rattle.account_machine.specs.Openings.{are_openings}
use Rattle.account_rules.specs.declared.accounts.Settings.{Settings}
use Rattle.script_text.specs.EventLines.{IsEvent}
use Rattle.script_text.specs.Lines.{line_of}
use Rattle.script_text.specs.Words.{parts}
use Rattle.script_text.specs.declared.event.Event.{Event}
use Rattle.script_text.specs.declared.event.Setup.{Setup}
use Rattle.script_text.specs.declared.line.Line.{Line}
use Rattle.script_text.specs.declared.line.Line.TheVariants as line
use Rattle.script_text.specs.declared.line.Setting.{Setting}
use Rattle.script_text.specs.declared.line.Setting.TheVariants as setting
use Rattle.script_text.specs.declared.ScriptFault.{ScriptFault}
use Rattle.script_text.specs.declared.ScriptFault.TheVariants as fault
use Rattle.script_text.specs.declared.progress.Phase.{Phase}
use Rattle.script_text.specs.declared.progress.Phase.TheVariants as phase

-- what the lines so far say
pub record Progress : Type 0 where
  pub phase : Phase
  pub accounts : List Opening
  pub settings : Settings
  pub events : List Event

-- without lines: the settings are those of a script that sets none
abbrev pub start : Progress
start = record {
  phase = phase.Setup;
  accounts = [];
  settings = record { lifetime = 0; disconnect = true; history = 0; reuse = 0 };
  events = [];
}

-- one setting has another value
abbrev pub with_setting : Settings → Setting → Settings
with_setting settings (setting.Lifetime days) = record settings { lifetime = days }
with_setting settings (setting.History count) = record settings { history = count }
with_setting settings (setting.Reuse days) = record settings { reuse = days }
with_setting settings (setting.Disconnect on) = record settings { disconnect = on }

-- whether an account has this user
abbrev pub is_used : List ℕ → List Opening → Bool
is_used user accounts = list_any (λ other. bytes_eq user other.user) accounts

-- before all events
abbrev pub in_setup : Phase → Option Progress → Option Progress
in_setup phase.Setup next = next
in_setup _ next = None

-- before `end`
abbrev pub before_end : Phase → Option Progress → Option Progress
before_end phase.Ended next = None
before_end _ next = next

-- with one more line, where it fits
abbrev pub taken : Line → Progress → Option Progress
taken line.Skipped p = Some p
taken (line.Account opening) p =
    in_setup p.phase (if is_used opening.user p.accounts then None else Some (record p { accounts = p.accounts ++ opening ∷ [] }))
taken (line.Set setting) p = in_setup p.phase (Some (record p { settings = with_setting p.settings setting }))
taken (line.Happens event) p = before_end p.phase (Some (record p { phase = phase.Events; events = p.events ++ event ∷ [] }))
taken line.End p = before_end p.phase (Some (record p { phase = phase.Ended }))

abbrev pub taken_if : Option Line → Progress → Option Progress
taken_if None p = None
taken_if (Some line) p = taken line p

-- with this line, where it fits
abbrev pub after_line : List ℕ → Progress → Option Progress
after_line line p = taken_if (line_of line) p

-- with these lines, where each fits
abbrev pub after_lines : List (List ℕ) → Progress → Option Progress
after_lines [] p = Some p
after_lines (line ∷ lines) p = option_and_then (λ q. after_lines lines q) (after_line line p)

-- events that lines can give
abbrev pub AreEvents : List Event → Type 0
AreEvents events = All IsEvent events

-- settings and events that lines can give
pub record AreGiven (settings : Settings) (events : List Event) : Type 0 where
  pub history : settings.history ≤ 256
  pub sessions : AreEvents events

-- a setup that lines can give: `opening` takes its accounts, and at most 256 past passwords are kept
pub record IsSetup (setup : Setup) : Type 0 where
  pub accounts : IsTrue (are_openings setup.accounts)
  pub history : setup.settings.history ≤ 256

-- the setup of a script
abbrev pub setup_of : Progress → Setup
setup_of p = record { accounts = p.accounts; settings = p.settings }

-- a setup and events that lines can give
pub record IsContents (setup : Setup) (events : List Event) : Type 0 where
  pub start : IsSetup setup
  pub sessions : AreEvents events

-- what a script says
pub record Contents : Type 0 where
  pub setup : Setup
  pub events : List Event

abbrev pub contents_of : Progress → Contents
contents_of p = record { setup = setup_of p; events = p.events }

-- The text is a script that says this: each of its lines ends in LF and fits, and `end` is among them.
pub record IsScript (text : List ℕ) (script : Contents) : Type 0 where
  pub lines : List (List ℕ)
  pub said : Progress
  pub parts : parts 10 text ≡ lines ++ [] ∷ []
  pub fit : after_lines lines start ≡ Some said
  pub ended : said.phase ≡ phase.Ended
  pub same : script ≡ contents_of said

-- A line that doesn't fit behind those that say this. What stands behind the last LF is no line: it doesn't
-- fit where it has bytes, nor where `end` is missing.
abbrev pub DoesNotFit : Progress → List ℕ → List (List ℕ) → Type 0
DoesNotFit said line [] = (line ≢ []) ⊎ (said.phase ≢ phase.Ended)
DoesNotFit said line (next ∷ more) = after_line line said ≡ None

-- the number, from 1, of the first line that doesn't fit
pub record IsBadLine (text : List ℕ) (number : ℕ) : Type 0 where
  pub before : List (List ℕ)
  pub line : List ℕ
  pub behind : List (List ℕ)
  pub said : Progress
  pub parts : parts 10 text ≡ before ++ line ∷ behind
  pub fit : after_lines before start ≡ Some said
  pub misfit : DoesNotFit said line behind
  pub counted : number ≡ length before + 1

abbrev pub Reads : List ℕ → Result Contents ScriptFault → Type 0
Reads text (Ok script) = IsScript text script
Reads text (Err (fault.BadLine line)) = IsBadLine text line
Reads text (Err fault.Memory) = Unit {0}

-- the end of a text: what is behind its last LF, as the line of this number
abbrev pub Finishes : Progress → List ℕ → ℕ → Result Contents ScriptFault → Type 0
Finishes said last number (Ok script) = (last ≡ []) × (said.phase ≡ phase.Ended) × (script ≡ contents_of said)
Finishes said last number (Err (fault.BadLine line)) = (line ≡ number) × ((last ≢ []) ⊎ (said.phase ≢ phase.Ended))
Finishes said last number (Err fault.Memory) = Unit {0}

-- A call takes a line, and leaves what the lines then say, where it fits. Else nothing is said of it.
abbrev pub Takes : Option Progress → Progress → Result Bool Memory → Type 0
Takes next new (Ok true) = next ≡ Some new
Takes next new (Ok false) = next ≡ None
Takes next new (Err _) = Unit {0}
