-- What a session holds between two turns, and what of it the accounts have seen.
use Rattle.std.specs.Prelude.{ℕ, List, Option, Some, None}
use Rattle.account_history.specs.declared.entries.Entry.{Entry}
use Rattle.serve_talk.specs.Fitting as fitting
use Rattle.session_serve.specs.declared.holding.Held.{Held}
use Rattle.session_serve.specs.declared.holding.Paper.{Paper}
use Rattle.session_serve.specs.declared.holding.Paper.TheVariants as paper
use Rattle.shared_accounts.specs.Sharing.{HasLook, HasStood, OwnHasStood}
use Rattle.shared_accounts.specs.declared.desk.Begun.{Begun}

abbrev pub paper_of : Paper → fitting.Paper
paper_of paper.Nothing = fitting.Nothing
paper_of (paper.OnLook ticket) = fitting.OnLook ticket.who ticket.look ticket.number
paper_of (paper.Late late) = fitting.Late late.who late.number

abbrev pub held_of : Held → fitting.Held
held_of h = record { paper = paper_of h.paper; account = h.account }

-- the look of a ticket is one of the entries, and where it is at one's own account, that account stood before
abbrev pub HasPaper : Begun → List Entry → fitting.Paper → Type 0
HasPaper begun entries fitting.Nothing = Unit {0}
HasPaper begun entries (fitting.OnLook who look number) = HasLook entries who look × OwnHasStood begun entries who look
HasPaper begun entries (fitting.Late who number) = Unit {0}

-- the account that the session opened on stood after a beginning of the entries
abbrev pub HasAccount : Begun → List Entry → Option ℕ → Type 0
HasAccount begun entries None = Unit {0}
HasAccount begun entries (Some id) = HasStood begun entries id

abbrev pub Keeps : Begun → List Entry → fitting.Held → Type 0
Keeps begun entries h = HasPaper begun entries h.paper × HasAccount begun entries h.account
