-- Inputs that give something back.
use Rattle.std.specs.Prelude.{Bool, true, false}
use Rattle.session_talk.specs.declared.inputs.Input.{Input}
use Rattle.session_talk.specs.declared.inputs.Input.TheVariants as input

-- an input gives back what was asked about
abbrev pub gives_back : Input → Bool
gives_back (input.Checked checked) = true
gives_back (input.Stale evidences) = true
gives_back (input.Prepared prepared) = true
gives_back (input.StaleStatement statement) = true
gives_back _ = false
