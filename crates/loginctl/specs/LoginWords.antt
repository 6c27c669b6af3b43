-- The words of `login`: options, each at most once and in any order, and the value of an option is the next word.
use Rattle.std.specs.Prelude.{◌≡◌, ◌≢◌, ℕ, Bool, true, false, List, [], ◌∷◌, codes, Option, Some, None, IfSome, IsSome, IsSomeAnd, option_and_then, string_bytes, String, if◌then◌else◌}
use Rattle.std.specs.Str.{bytes_eq}
use Rattle.std.specs.declared.alloc.Global.{Global}
use Rattle.login_client.specs.Zeros.{HasNoZero}
use Rattle.loginctl.specs.declared.login_words.Chosen.{Chosen}
use Rattle.loginctl.specs.declared.login_words.LoginOption.{LoginOption}
use Rattle.loginctl.specs.declared.login_words.LoginOption.TheVariants.{Socket, User, Password, Factor2, Factor3, Clear, Expired, Other}

-- what the words choose
pub record Choice : Type 0 where
  pub socket : Option (List ℕ)
  pub user : Option (List ℕ)
  pub password : Option (List ℕ)
  pub factor2 : Option (List ℕ)
  pub factor3 : Option (List ℕ)
  pub clear : Bool
  pub expired : Bool

unfoldable pub login_word : List ℕ
login_word = codes "login"

unfoldable pub socket_name : List ℕ
socket_name = codes "--socket"

unfoldable pub user_name : List ℕ
user_name = codes "--user"

unfoldable pub password_name : List ℕ
password_name = codes "--password"

unfoldable pub factor2_name : List ℕ
factor2_name = codes "--factor2"

unfoldable pub factor3_name : List ℕ
factor3_name = codes "--factor3"

unfoldable pub clear_flag : List ℕ
clear_flag = codes "--clear"

unfoldable pub expired_flag : List ℕ
expired_flag = codes "--expired"

-- the option that a word names
unfoldable pub named : List ℕ → LoginOption
named word =
    if bytes_eq word socket_name then Socket
    else (if bytes_eq word user_name then User
    else (if bytes_eq word password_name then Password
    else (if bytes_eq word factor2_name then Factor2
    else (if bytes_eq word factor3_name then Factor3
    else (if bytes_eq word clear_flag then Clear
    else (if bytes_eq word expired_flag then Expired else Other))))))

-- an option without a value
abbrev pub is_flag : LoginOption → Bool
is_flag Clear = true
is_flag Expired = true
is_flag _ = false

-- nothing is chosen
abbrev pub no_choice : Choice
no_choice = record { socket = None; user = None; password = None; factor2 = None; factor3 = None; clear = false; expired = false }

-- a choice, where the option wasn't there before
abbrev pub unless_there : Option (List ℕ) → Choice → Option Choice
unless_there None choice = Some choice
unless_there (Some value) choice = None

abbrev pub unless_set : Bool → Choice → Option Choice
unless_set false choice = Some choice
unless_set true choice = None

-- an option more, with its value
abbrev pub with_value : LoginOption → List ℕ → Choice → Option Choice
with_value Socket value c = unless_there c.socket (record c { socket = Some value })
with_value User value c = unless_there c.user (record c { user = Some value })
with_value Password value c = unless_there c.password (record c { password = Some value })
with_value Factor2 value c = unless_there c.factor2 (record c { factor2 = Some value })
with_value Factor3 value c = unless_there c.factor3 (record c { factor3 = Some value })
with_value Clear value c = None
with_value Expired value c = None
with_value Other value c = None

-- an option more, without a value
abbrev pub with_flag : LoginOption → Choice → Option Choice
with_flag Clear c = unless_set c.clear (record c { clear = true })
with_flag Expired c = unless_set c.expired (record c { expired = true })
with_flag _ c = None

-- the choice that further words make of one
abbrev pub chosen_by : Choice → List (List ℕ) → Option Choice
chosen_by c [] = Some c
chosen_by c (word ∷ []) = with_flag (named word) c
chosen_by c (word ∷ value ∷ words) =
    if is_flag (named word) then option_and_then (λ d. chosen_by d (value ∷ words)) (with_flag (named word) c)
    else option_and_then (λ d. chosen_by d words) (with_value (named word) value c)

-- a text that is there and isn't empty, and without 00
abbrev pub IsName : List ℕ → Type 0
IsName text = (text ≢ []) × HasNoZero text

-- what a choice must have
pub record IsFit (c : Choice) : Type 0 where
  pub socket : IsSomeAnd c.socket IsName
  pub user : IsSomeAnd c.user IsName
  pub password : IfSome c.password HasNoZero
  pub factor2 : IfSome c.factor2 HasNoZero
  pub factor3 : IfSome c.factor3 HasNoZero
  pub third_needs_second : IsSome c.factor3 → IsSome c.factor2

-- the words are `login` and options that make a choice which has that
abbrev pub Chooses : List (List ℕ) → Choice → Type 0
Chooses [] choice = ⊥
Chooses (word ∷ words) choice = (word ≡ login_word) × (chosen_by no_choice words ≡ Some choice) × IsFit choice

-- a choice as it is kept
abbrev pub text_of : Option (String Global) → Option (List ℕ)
text_of None = None
text_of (Some text) = Some (string_bytes text)

unfoldable pub choice_of : Chosen → Choice
choice_of c = record {
  socket = text_of c.socket;
  user = text_of c.user;
  password = text_of c.password;
  factor2 = text_of c.factor2;
  factor3 = text_of c.factor3;
  clear = c.clear;
  expired = c.expired;
}

-- a value that was put where none was, or was not put
abbrev pub Puts : Option (List ℕ) → Bool → Option (List ℕ) → List ℕ → Type 0
Puts None true now value = now ≡ Some value
Puts None false now value = ⊥
Puts (Some there) true now value = ⊥
Puts (Some there) false now value = Unit {0}

-- a choice that became another one, or for which there is none
abbrev pub Becomes : Bool → Option Choice → Choice → Type 0
Becomes true (Some choice) now = now ≡ choice
Becomes true None now = ⊥
Becomes false (Some choice) now = ⊥
Becomes false None now = Unit {0}

-- what words choose, or that they choose nothing
abbrev pub IsChosen : List (List ℕ) → Option Chosen → Type 0
IsChosen words (Some chosen) = Chooses words (choice_of chosen)
IsChosen words None = (choice : Choice) → Chooses words choice → ⊥
