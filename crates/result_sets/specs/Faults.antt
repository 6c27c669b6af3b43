-- The faults of payloads that are read.
use Rattle.std.specs.Prelude.{ℕ, Option, Some, None}
use Rattle.result_sets.specs.declared.fault.Misfit.{Misfit}
use Rattle.result_sets.specs.declared.fault.PayloadFault.{PayloadFault}
use Rattle.result_sets.specs.declared.fault.PayloadFault.TheVariants.{Malformed, Memory}
use Rattle.result_sets.specs.declared.fault.TableFault.{TableFault}
use Rattle.result_sets.specs.declared.fault.TableFault.TheVariants as table

-- where a payload is malformed
abbrev pub malformed_at : PayloadFault → Option ℕ
malformed_at (Malformed at) = Some at
malformed_at Memory = None

abbrev pub misfit_at : Misfit → Option ℕ
misfit_at m = Some m.at

-- the same of the list in which the payload stands at an index
abbrev pub in_payload : PayloadFault → ℕ → TableFault
in_payload (Malformed at) index = table.Malformed index at
in_payload Memory index = table.Memory

-- which payload of a list is malformed
abbrev pub malformed_index : TableFault → Option ℕ
malformed_index (table.Malformed index at) = Some index
malformed_index table.Memory = None
