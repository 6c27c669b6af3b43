-- The stamps that the machine keeps, and those of a history.
use Rattle.std.specs.Prelude.{◌≡◌, ℕ, ◌+◌, ◌≤◌, cond, Bool, List, [], ◌∷◌, slice_get, Option, Some, None, is_some}
use Rattle.std.specs.List.{position}
use Rattle.std.specs.Str.{bytes_eq}
use Rattle.account_history.specs.Histories.{History}
use Rattle.account_history.specs.Stamps.{stamp}
use Rattle.account_machine.specs.declared.stamps.Stamps.{Stamps}
use Rattle.account_machine.specs.declared.stamps.UserStamp.{UserStamp}

abbrev pub is_for : List ℕ → UserStamp → Bool
is_for user s = bytes_eq s.user user

-- how often an account of the user was changed: by the first that is listed for it
abbrev pub count_in : List UserStamp → List ℕ → ℕ
count_in [] user = 0
count_in (s ∷ users) user = cond (is_for user s) s.count (count_in users user)

-- the count at a place
abbrev pub counted : Option UserStamp → ℕ
counted None = 0
counted (Some s) = s.count

abbrev pub count_at : List UserStamp → Option ℕ → ℕ
count_at users None = 0
count_at users (Some place) = counted (slice_get users place)

abbrev pub place_of_user : List UserStamp → List ℕ → Option ℕ
place_of_user users user = position (is_for user) users

abbrev pub is_listed : List UserStamp → List ℕ → Bool
is_listed users user = is_some (place_of_user users user)

abbrev pub stamp_in : Stamps → List ℕ → ℕ
stamp_in stamps user = count_in stamps.users.items user + stamps.flushes

-- The stamps that are kept are those of the history, and none is greater than the number of changes.
pub record AreStamps (stamps : Stamps) (changes : ℕ) (h : History) : Type 0 where
  pub same : (user : List ℕ) → stamp_in stamps user ≡ stamp h user
  pub most : (user : List ℕ) → stamp h user ≤ changes
