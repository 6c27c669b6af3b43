-- What a call runs on the file of a keeper: one statement, with these parameters, which has then done all that the kit's
-- definition of it says, its commit included. That is said where nothing but this process has written the file, and the
-- disk gave back what was written to it.
use Rattle.std.specs.Prelude.{ℕ, List, Option, Some, None, Ok}
use Rattle.sqlite_disk.specs.declared.Disk as disk
use Rattle.sqlite.specs.Files.{file_state}
use Rattle.sqlite.specs.Held.{Held, state}
use Rattle.sqlite.specs.Order.{Row}
use Rattle.sqlite.specs.State.{State, Executes, HasCleanDisk}
use Rattle.sqlite.specs.Store.{Ghosts}
use Rattle.sqlite.specs.declared.FileStore.{FileStore}

-- the statement was executed between two states of a database
abbrev pub HasRun : List ℕ → Row → State → State → Type 0
HasRun sql params before after = HasCleanDisk after → (count : ℕ) × Executes sql params before after (Ok count)

-- on the database of a connection, if there is one before and after
abbrev pub Runs : {S : Type 0} → Ghosts S → List ℕ → Row → Option (Held S) → Option (Held S) → Type 0
Runs g sql params (Some before) (Some after) = HasRun sql params (state g before) (state g after)
Runs g sql params (Some before) None = ⊥
Runs g sql params None after = ⊥

-- on the file of a connection
abbrev pub RunsOnFile : {D : Type 0} {g : disk.Ghosts D} → List ℕ → Row → Option (Held (FileStore D g)) → Option (Held (FileStore D g)) → Type 0
RunsOnFile sql params (Some before) (Some after) = HasRun sql params (file_state before) (file_state after)
RunsOnFile sql params (Some before) None = ⊥
RunsOnFile sql params None after = ⊥
