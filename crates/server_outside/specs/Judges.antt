-- A verifier in memory: what it accepts, the plan of its failures, and the verdicts that it gave.
use Rattle.std.specs.Prelude.{ℕ, List, Bool, nat_lt}
use Rattle.std.specs.List.{list_all}
use Rattle.lg_outside.specs.Faults.{counted}
use Rattle.lg_outside.specs.PlanOf.{Plan}
use Rattle.server_outside.specs.declared.verifiers.Accepted.{Accepted}
use Rattle.server_outside.specs.declared.verifiers.Verdict.{Verdict}

pub record Judge : Type 0 where
  pub accepted : List Accepted
  pub plan : Plan
  pub given : List Verdict

-- what a verifier is made with: what it accepts, and the numbers of the calls that are to fail
pub record Lists : Type 0 where
  pub accepted : List Accepted
  pub failing : List ℕ

abbrev pub lists_of : Judge → Lists
lists_of judge = record { accepted = judge.accepted; failing = judge.plan.failing }

-- no call is listed that is still to come
abbrev pub never_fails : Plan → Bool
never_fails plan = list_all (λ listed. nat_lt listed (counted plan.calls)) plan.failing
