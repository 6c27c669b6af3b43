-- The count of a keeper's faults, and what a refusal of the database is answered.
use Rattle.std.specs.Prelude.{ℕ, List, Option, None, Result, Ok, Err}
use Rattle.lg_outside.specs.Faults.{counted}
use Rattle.lg_outside.specs.declared.keepers.KeepFault.{KeepFault}
use Rattle.lg_outside.specs.declared.keepers.KeepFault.TheVariants.{Failed, Memory}
use Rattle.lg_outside.specs.declared.keepers.Row.{Row}
use Rattle.sqlite.specs.declared.error.Error.{Error}
use Rattle.sqlite.specs.declared.error.Error.TheVariants.{SqliteFailure}
use Rattle.sqlite.specs.declared.error.ErrorCode.{ErrorCode}
use Rattle.sqlite.specs.declared.error.ErrorCode.TheVariants.{OutOfMemory}

-- the count after a fault: want of memory isn't counted
abbrev pub count_of : ℕ → KeepFault → ℕ
count_of before Failed = counted before
count_of before Memory = before

-- the count after a call with this answer
abbrev pub count_after : {A : Type 0} → ℕ → Result A KeepFault → ℕ
count_after before (Ok _) = before
count_after before (Err fault) = count_of before fault

abbrev pub fault_of_code : ErrorCode → KeepFault
fault_of_code OutOfMemory = Memory
fault_of_code _ = Failed

-- want of memory is answered as such, each other refusal is a failure
abbrev pub fault_kind : Error → KeepFault
fault_kind (SqliteFailure code) = fault_of_code code
fault_kind _ = Failed

-- a keeper that tells nothing of its rows
abbrev pub untold_rows : Option (List Row)
untold_rows = None
