-- The counts of faults of what fails by its count, and what is told of what isn't.
use Rattle.std.specs.Prelude.{ℕ, List, if◌then◌else◌, Option, None, Result, is_err}
use Rattle.lg_outside.specs.Faults.{counted}
use Rattle.server_outside.specs.declared.verifiers.Verdict.{Verdict}
use Rattle.server_outside.specs.Halls.{Hall}

-- the count after a call: one that failed adds one
abbrev pub count_after : {A E : Type 0} → ℕ → Result A E → ℕ
count_after before answer = if is_err answer then counted before else before

-- a verifier that tells nothing of its verdicts
abbrev pub untold_verdicts : Option (List Verdict)
untold_verdicts = None

-- a door that tells nothing of its links
abbrev pub untold_hall : {Conn : Type 0} → Option (Hall Conn)
untold_hall = None
