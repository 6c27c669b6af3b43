-- Passwords that may not be used again: "Password Reuse Policy" in "Password Management" of the MySQL 8.0 Reference
-- Manual. A day is 86,400 seconds.
use Rattle.std.specs.Prelude.{ℕ, ◌+◌, ◌*◌, ◌==◌, nat_lt, Bool, false, ◌&&◌, ◌||◌, List, [], ◌∷◌, length, take, map}
use Rattle.std.specs.List.{list_any, zip}
use Rattle.login_lock.specs.declared.TheConstants.{SECONDS_PER_DAY}
use Rattle.factor_chain.specs.Checking.{password_fits}
use Rattle.factor_chain.specs.declared.credentials.PastRecord.{PastRecord}

-- the most past passwords that an account keeps
abbrev pub most_past : ℕ
most_past = 256

-- the days of a reuse interval aren't over since the password was set
abbrev pub is_young : (reuse now : ℕ) → PastRecord → Bool
is_young reuse now record_ = nat_lt now (record_.moment + SECONDS_PER_DAY * reuse)

-- the password fits what was recorded
abbrev pub fits_record : List ℕ → PastRecord → Bool
fits_record password record_ = password_fits record_.stored password

-- A password is forbidden where it fits one of the newest passwords, as many as the history says, or one whose days
-- aren't over. The empty one never is.
abbrev pub forbidden : List PastRecord → (history reuse now : ℕ) → (password : List ℕ) → Bool
forbidden past history reuse now [] = false
forbidden past history reuse now (b ∷ password) =
    list_any (fits_record (b ∷ password)) (take history past)
    || list_any (λ record_. is_young reuse now record_ && fits_record (b ∷ password) record_) past

-- which of the records a password fits
abbrev pub used_of : List PastRecord → List ℕ → List Bool
used_of past password = map (fits_record password) past

-- the same by which records a password fits: one of the newest is fitted
abbrev pub is_any : List Bool → Bool
is_any used = list_any (λ u. u) used

-- a record is fitted whose days aren't over
abbrev pub is_young_used : (reuse now : ℕ) → List PastRecord → List Bool → Bool
is_young_used reuse now past used = list_any (λ told. is_young reuse now told.0 && told.1) (zip past used)

abbrev pub forbidden_by : List PastRecord → (used : List Bool) → (history reuse now : ℕ) → Bool
forbidden_by past used history reuse now = is_any (take history used) || is_young_used reuse now past used

-- the last of a list, if there is one, passes a test
abbrev pub last_is : (PastRecord → Bool) → List PastRecord → Bool
last_is test [] = false
last_is test (record_ ∷ []) = test record_
last_is test (record_ ∷ next ∷ past) = last_is test (next ∷ past)

-- as many passwords are kept as can be, and the oldest may not be used again yet
abbrev pub is_full : List PastRecord → (reuse now : ℕ) → Bool
is_full past reuse now = (length past == most_past) && last_is (is_young reuse now) past

-- the newest password stands first, and the oldest is dropped where there were as many as can be
abbrev pub with_latest : PastRecord → List PastRecord → List PastRecord
with_latest latest past = take most_past (latest ∷ past)
