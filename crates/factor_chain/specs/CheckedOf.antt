-- What was checked: evidence on a look.
use Rattle.std.specs.Prelude.{List}
use Rattle.factor_chain.specs.declared.credentials.Look.{Look}
use Rattle.factor_chain.specs.declared.evidence_list.Evidence.{Evidence}

pub record CheckedOf : Type 0 where
  pub look : Look
  pub evidences : List Evidence
