-- When a password meets a policy, and how strong it is.
--
-- MySQL 8.0 Reference Manual, "Password Validation Options and Variables" for the component validate_password, whose
-- variables the fields are, and the table of VALIDATE_PASSWORD_STRENGTH() in "Encryption and Compression Functions".
-- Bytes are counted in place of characters, and letters are those of ASCII.
use Rattle.std.specs.Prelude.{ℕ, ◌+◌, ◌*◌, max, nat_lt, nat_le, List, length, reverse, count_by, Bool, true, false, not, ◌&&◌, ◌||◌, if◌then◌else◌}
use Rattle.std.specs.Char.{is_ascii_digit, is_ascii_lowercase, is_ascii_uppercase}
use Rattle.std.specs.List.{list_any}
use Rattle.std.specs.Str.{bytes_eq, str_to_ascii_lowercase}
use Rattle.pass_policy.specs.Parts.{has_part}
use Rattle.pass_policy.specs.declared.policy.Level.{Level}
use Rattle.pass_policy.specs.declared.policy.Level.TheVariants.{Off, Low, Medium, Strong}

-- what a policy asks: validate_password.policy, .length, .number_count, .mixed_case_count, .special_char_count and
-- .check_user_name, and the words of .dictionary_file
pub record Rules : Type 0 where
  pub level : Level
  pub length : ℕ
  pub digits : ℕ
  pub mixed : ℕ
  pub special : ℕ
  pub check_user : Bool
  pub words : List (List ℕ)

-- the length in force: a password that has all that is counted is no shorter
abbrev pub length_in_force : Rules → ℕ
length_in_force rules = max rules.length (rules.digits + rules.special + 2 * rules.mixed)

-- the level LOW
abbrev pub is_low : Rules → List ℕ → Bool
is_low rules password = nat_le (length_in_force rules) (length password)

-- neither a digit nor a letter
abbrev pub is_special : ℕ → Bool
is_special byte = not (is_ascii_digit byte || is_ascii_lowercase byte || is_ascii_uppercase byte)

-- a text has so many bytes of a kind
abbrev pub has_many : (ℕ → Bool) → ℕ → List ℕ → Bool
has_many kind count text = nat_le count (count_by kind text)

-- enough digits
abbrev pub has_digits : Rules → List ℕ → Bool
has_digits rules password = has_many is_ascii_digit rules.digits password

-- enough letters of each case
abbrev pub has_lower : Rules → List ℕ → Bool
has_lower rules password = has_many is_ascii_lowercase rules.mixed password

abbrev pub has_upper : Rules → List ℕ → Bool
has_upper rules password = has_many is_ascii_uppercase rules.mixed password

abbrev pub has_mixed : Rules → List ℕ → Bool
has_mixed rules password = has_lower rules password && has_upper rules password

-- enough bytes that are neither digits nor letters
abbrev pub has_special : Rules → List ℕ → Bool
has_special rules password = has_many is_special rules.special password

-- the level MEDIUM
abbrev pub is_medium : Rules → List ℕ → Bool
is_medium rules password =
    is_low rules password && has_digits rules password && has_mixed rules password && has_special rules password

-- a word of the dictionary stands somewhere in the password, in any case of its letters
abbrev pub has_word : Rules → List ℕ → Bool
has_word rules password = list_any (λ word. has_part word (str_to_ascii_lowercase password)) rules.words

-- the level STRONG
abbrev pub is_strong : Rules → List ℕ → Bool
is_strong rules password = is_medium rules password && not (has_word rules password)

-- what a level asks of a password
abbrev pub has_level : Level → Rules → List ℕ → Bool
has_level Off rules password = true
has_level Low rules password = is_low rules password
has_level Medium rules password = is_medium rules password
has_level Strong rules password = is_strong rules password

-- the password is refused for the user's name, as it is or in reverse
abbrev pub is_refused : Rules → List ℕ → List ℕ → Bool
is_refused rules user password =
    rules.check_user && (bytes_eq password user || bytes_eq password (reverse user))

abbrev pub is_off : Level → Bool
is_off Off = true
is_off _ = false

-- a password of a user meets the policy
abbrev pub meets_policy : Rules → List ℕ → List ℕ → Bool
meets_policy rules user password =
    is_off rules.level || (has_level rules.level rules password && not (is_refused rules user password))

-- the strength by the highest level that a password has
abbrev pub level_strength : Rules → List ℕ → ℕ
level_strength rules password =
    if is_strong rules password then 100
    else (if is_medium rules password then 75
    else (if is_low rules password then 50
    else 25))

-- the strength of a password of a user, from 0 to 100
abbrev pub strength_of : Rules → List ℕ → List ℕ → ℕ
strength_of rules user password =
    if is_off rules.level || nat_lt (length password) 4 || is_refused rules user password then 0
    else level_strength rules password
