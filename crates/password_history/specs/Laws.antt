-- What the records that a password fits tell of it.
use Rattle.std.specs.Prelude.{◌≡◌, ℕ, false, List, All}
use Rattle.factor_chain.specs.Checking.{is_empty}
use Rattle.factor_chain.specs.declared.credentials.PastRecord.{PastRecord}
use Rattle.password_history.specs.Reuse.{forbidden, forbidden_by, used_of}

-- no empty password is recorded
abbrev pub AreSet : List PastRecord → Type 0
AreSet past = All (λ record_. is_empty record_.stored ≡ false) past

-- Whether a password is forbidden is told by which records it fits.
abbrev pub ForbiddenByUse : Type 0
ForbiddenByUse =
    (past : List PastRecord) (history reuse now : ℕ) (password : List ℕ) → AreSet past →
    forbidden_by past (used_of past password) history reuse now ≡ forbidden past history reuse now password
