-- What a session's seat, draws and clock tell of its own side.
use Rattle.std.specs.Prelude.{ℕ, List, map, Option}
use Rattle.account_history.specs.declared.entries.Entry.{Entry}
use Rattle.serve_talk.specs.Sides.{Side}
use Rattle.shared_accounts.specs.Beginnings.{log_of}
use Rattle.shared_accounts.specs.Sharing.{AccountsView}
use Rattle.shared_accounts.specs.declared.desk.Begun.{Begun}
use Rattle.turn_book.specs.Views.{entries_seen, mine}
use Rattle.turn_book.specs.declared.view.Made.{Made}

abbrev pub entry_at : ℕ × Made Entry → Entry
entry_at placed = placed.1.entry

-- the entries that the seat made, in order
abbrev pub entries_made : AccountsView → List Entry
entries_made v = map entry_at (mine v)

abbrev pub side_of : Begun → AccountsView → Option (List (List ℕ)) → Option (List ℕ) → Side
side_of begun v draws clock = record {
  seen = log_of begun (entries_seen v);
  mine = entries_made v;
  drawn = v.drawn;
  ended = v.ended;
  draws = draws;
  clock = clock;
}
