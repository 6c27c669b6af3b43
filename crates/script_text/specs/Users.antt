-- The users of accounts, as a set beside them.
use Rattle.std.specs.Prelude.{◌≡◌, ℕ, true, List, Vec}
use Rattle.std.specs.declared.alloc.Global.{Global}
use Rattle.std.specs.BTreeSet.{BTreeSet, contains}
use Rattle.std.specs.Cmp.Lexicographic.{slice_cmp}
use Rattle.std.specs.Ordering.{nat_cmp}
use Rattle.account_history.specs.declared.entries.Opening.{Opening}
use Rattle.account_machine.specs.Openings.{are_openings}
use Rattle.script_text.specs.Reading.{is_used}

-- accounts that `opening` takes, and the set of their users
pub record HoldsUsers (accounts : List Opening) (users : BTreeSet (Vec ℕ Global)) : Type 0 where
  pub distinct : are_openings accounts ≡ true
  pub same : (user : Vec ℕ Global) → contains (λ x y. slice_cmp nat_cmp x.items y.items) users user ≡ is_used user.items accounts
