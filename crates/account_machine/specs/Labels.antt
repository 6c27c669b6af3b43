-- How many further factors an account has.
use Rattle.std.specs.Prelude.{◌≤◌, length}
use Rattle.factor_chain.specs.declared.credentials.InForce.{InForce}
pub use Rattle.account_history.specs.Sound.{HasFewLabels}

-- an account that is shown has at most two
abbrev pub ShowsFewLabels : InForce → Type 0
ShowsFewLabels shown = length shown.labels ≤ 2
