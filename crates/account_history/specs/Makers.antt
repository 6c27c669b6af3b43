-- Who made the entries of a history. What a history says doesn't depend on it.
use Rattle.std.specs.Prelude.{ℕ, List, map, filter}
use Rattle.std.specs.Str.{bytes_eq}
use Rattle.account_history.specs.declared.entries.Entry.{Entry}
use Rattle.account_history.specs.declared.entries.MadeEntry.{MadeEntry}

-- the entries without their makers
abbrev pub entries_of : List MadeEntry → List Entry
entries_of made = map (λ m. m.entry) made

-- the entries of one maker
abbrev pub made_by : List ℕ → List MadeEntry → List MadeEntry
made_by maker made = filter (λ m. bytes_eq m.maker maker) made
