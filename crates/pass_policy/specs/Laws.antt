-- What holds of the definitions.
use Rattle.std.specs.Prelude.{◌≡◌, ◌≤◌, ◌↔◌, nat_le, List, length, ℕ, false, IsTrue}
use Rattle.pass_policy.specs.Parts.{IsPart, has_part}
use Rattle.pass_policy.specs.Rules.{Rules, is_off, meets_policy, strength_of}
use Rattle.pass_policy.specs.declared.policy.Level.{Level}
use Rattle.pass_policy.specs.declared.policy.Level.TheVariants.{Low, Medium, Strong}

-- the test of the parts finds each part, wherever it stands, and nothing else
abbrev pub PartsAreFound : Type 0
PartsAreFound = (word text : List ℕ) → IsTrue (has_part word text) ↔ IsPart word text

-- the same policy at another level
abbrev pub at_level : Level → Rules → Rules
at_level level rules = record rules { level = level }

-- a password of a user meets the policy at a level exactly where its strength is at least so much
abbrev pub IsToldBy : ℕ → Level → Rules → List ℕ → List ℕ → Type 0
IsToldBy least level rules user password =
    meets_policy (at_level level rules) user password ≡ nat_le least (strength_of rules user password)

-- the strength of a password of 4 bytes or more tells which levels it has
abbrev pub StrengthTellsLevels : Type 0
StrengthTellsLevels =
    (rules : Rules) (user password : List ℕ) → is_off rules.level ≡ false → 4 ≤ length password
    → IsToldBy 50 Low rules user password × IsToldBy 75 Medium rules user password
    × IsToldBy 100 Strong rules user password
