-- What a call of a form in memory does to its plan of failures.
use Rattle.std.specs.Prelude.{Bool, if◌then◌else◌, ◌==◌}
use Rattle.std.specs.List.{list_any}
use Rattle.lg_outside.specs.Faults.{counted}
use Rattle.lg_outside.specs.PlanOf.{Plan}

-- whether the next call's number is listed
abbrev pub fails_next : Plan → Bool
fails_next plan = list_any (λ listed. listed == counted plan.calls) plan.failing

-- the plan after a call that failed or didn't
abbrev pub after_call : Plan → Bool → Plan
after_call plan fails = record {
  failing = plan.failing;
  calls = counted plan.calls;
  faults = if fails then counted plan.faults else plan.faults;
}
