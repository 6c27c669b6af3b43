-- The verdicts of a verifier, as far as it tells them.
use Rattle.std.specs.Prelude.{◌≡◌, ℕ, List, Bool, true, false, ◌&&◌, Option, Result, Ok, Err}
use Rattle.std.specs.List.{list_any}
use Rattle.std.specs.Str.{bytes_eq}
use Rattle.lg_outside.specs.declared.streams.Failed.{Failed}
use Rattle.server_outside.specs.Telling.{Gave}
use Rattle.server_outside.specs.declared.verifiers.Accepted.{Accepted}
use Rattle.server_outside.specs.declared.verifiers.Verdict.{Verdict}

-- an answer to a label, a user and a password
abbrev pub verdict : List ℕ → List ℕ → List ℕ → Bool → Verdict
verdict label user password is_right = record { label = label; user = user; password = password; is_right = is_right }

-- what was given before and after a call on a label, a user and a password: a failed call gives no verdict
abbrev pub Judged : Option (List Verdict) → Option (List Verdict) → List ℕ → List ℕ → List ℕ → Result Bool Failed → Type 0
Judged before after label user password (Ok is_right) = Gave before after (verdict label user password is_right)
Judged before after label user password (Err _) = after ≡ before

-- whether a verifier is sound before and after a call, its counts of faults, and whether the call succeeded: a sound one
-- doesn't fail, stays sound, and its count stands still
abbrev pub StaysSound : Bool → Bool → ℕ → ℕ → Bool → Type 0
StaysSound true sound faults_before faults_after succeeds = (succeeds ≡ true) × (sound ≡ true) × (faults_after ≡ faults_before)
StaysSound false sound faults_before faults_after succeeds = Unit {0}

-- whether these are the label, the user and the password that are listed
abbrev pub is_that : List ℕ → List ℕ → List ℕ → Accepted → Bool
is_that label user password one = bytes_eq one.label label && bytes_eq one.user user && bytes_eq one.password password

-- whether a label, a user and a password are listed together
abbrev pub is_accepted : List Accepted → List ℕ → List ℕ → List ℕ → Bool
is_accepted accepted label user password = list_any (is_that label user password) accepted

-- the verdict is what a verifier with this list gives
abbrev pub IsVerdictBy : List Accepted → Verdict → Type 0
IsVerdictBy accepted given = given.is_right ≡ is_accepted accepted given.label given.user given.password
