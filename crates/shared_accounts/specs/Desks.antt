-- The desk as an object of a book: what it began with, and the entries of its history.
use Rattle.std.specs.Prelude.{List}
use Rattle.account_history.specs.declared.entries.Entry.{Entry}
use Rattle.shared_accounts.specs.declared.desk.Begun.{Begun}
use Rattle.shared_accounts.specs.declared.desk.Desk.{Desk}

module _ {K : Type 0} {G : _} where
  abbrev pub desk_start : Desk K G → Begun
  desk_start d = d.begun.value

  abbrev pub desk_entries : Desk K G → List Entry
  desk_entries d = d.accounts.entries
