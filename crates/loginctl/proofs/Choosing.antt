-- What words choose, option by option.
use Rattle.std.proofs.Common.{◌≡◌, refl, sym, ap, ◌∙◌, subst, ℕ, List, [], ◌∷◌, Bool, true, false, Option, Some, None, if◌then◌else◌, ◌≤◌, ◌-◌, length, take, drop, get_or, arith}
use Rattle.std.specs.Prelude.{map, option_and_then, string_bytes, String}
use Rattle.std.specs.declared.alloc.Global.{Global}
use Rattle.std.proofs.lemmas.List.{take_all}
use Rattle.loginctl.specs.LoginWords.{Becomes, Choice, Puts, chosen_by, is_flag, named, unless_there, with_flag, with_value}
use Rattle.loginctl.specs.declared.login_words.LoginOption.{LoginOption}
use Rattle.loginctl.specs.declared.login_words.LoginOption.TheVariants.{Socket, User, Password, Factor2, Factor3, Clear, Expired, Other}

-- a value that was put makes the choice
pub puts-becomes : (make : Option (List ℕ) → Choice) (old now : Option (List ℕ)) (kept : Bool) (value : List ℕ) → Puts old kept now value
    → Becomes kept (unless_there old (make (Some value))) (make now)
puts-becomes make None now true value e = ap make e
puts-becomes make None now false value h = absurd h
puts-becomes make (Some there) now true value h = absurd h
puts-becomes make (Some there) now false value h = tt {0}

pub becomes-some : (made : Option Choice) (now : Choice) → Becomes true made now → made ≡ Some now
becomes-some (Some choice) now e = ap (λ (c : Choice). Some c) (sym e)
becomes-some None now h = absurd h

pub becomes-none : (made : Option Choice) (now : Choice) → Becomes false made now → made ≡ None
becomes-none (Some choice) now h = absurd h
becomes-none None now h = refl

same-chosen : (made : Option Choice) → made ≡ option_and_then (λ d. Some d) made
same-chosen (Some choice) = refl
same-chosen None = refl

-- a flag
flag-chosen : (c : Choice) (word : List ℕ) (words : List (List ℕ)) → is_flag (named word) ≡ true → chosen_by c (word ∷ words) ≡ option_and_then (λ d. chosen_by d words) (with_flag (named word) c)
flag-chosen c word [] e = same-chosen (with_flag (named word) c)
flag-chosen c word (value ∷ words) e =
    ap (λ (b : Bool). if b then option_and_then (λ d. chosen_by d (value ∷ words)) (with_flag (named word) c) else option_and_then (λ d. chosen_by d words) (with_value (named word) value c)) e

pub flag-kept : (c now : Choice) (word : List ℕ) (words : List (List ℕ)) (option : LoginOption) → option ≡ named word → is_flag option ≡ true → Becomes true (with_flag option c) now
    → chosen_by c (word ∷ words) ≡ chosen_by now words
flag-kept c now word words option is flag kept =
    flag-chosen c word words (ap (λ (o : LoginOption). is_flag o) (sym is) ∙ flag)
    ∙ ap (λ (made : Option Choice). option_and_then (λ d. chosen_by d words) made) (ap (λ (o : LoginOption). with_flag o c) (sym is) ∙ becomes-some (with_flag option c) now kept)

pub flag-refused : (c now : Choice) (word : List ℕ) (words : List (List ℕ)) (option : LoginOption) → option ≡ named word → is_flag option ≡ true → Becomes false (with_flag option c) now
    → chosen_by c (word ∷ words) ≡ None
flag-refused c now word words option is flag kept =
    flag-chosen c word words (ap (λ (o : LoginOption). is_flag o) (sym is) ∙ flag)
    ∙ ap (λ (made : Option Choice). option_and_then (λ d. chosen_by d words) made) (ap (λ (o : LoginOption). with_flag o c) (sym is) ∙ becomes-none (with_flag option c) now kept)

-- an option with its value
value-chosen : (c : Choice) (word value : List ℕ) (words : List (List ℕ)) → is_flag (named word) ≡ false
    → chosen_by c (word ∷ value ∷ words) ≡ option_and_then (λ d. chosen_by d words) (with_value (named word) value c)
value-chosen c word value words e =
    ap (λ (b : Bool). if b then option_and_then (λ d. chosen_by d (value ∷ words)) (with_flag (named word) c) else option_and_then (λ d. chosen_by d words) (with_value (named word) value c)) e

pub value-kept : (c now : Choice) (word value : List ℕ) (words : List (List ℕ)) (option : LoginOption) → option ≡ named word → is_flag option ≡ false → Becomes true (with_value option value c) now
    → chosen_by c (word ∷ value ∷ words) ≡ chosen_by now words
value-kept c now word value words option is flag kept =
    value-chosen c word value words (ap (λ (o : LoginOption). is_flag o) (sym is) ∙ flag)
    ∙ ap (λ (made : Option Choice). option_and_then (λ d. chosen_by d words) made) (ap (λ (o : LoginOption). with_value o value c) (sym is) ∙ becomes-some (with_value option value c) now kept)

pub value-refused : (c now : Choice) (word value : List ℕ) (words : List (List ℕ)) (option : LoginOption) → option ≡ named word → is_flag option ≡ false → Becomes false (with_value option value c) now
    → chosen_by c (word ∷ value ∷ words) ≡ None
value-refused c now word value words option is flag kept =
    value-chosen c word value words (ap (λ (o : LoginOption). is_flag o) (sym is) ∙ flag)
    ∙ ap (λ (made : Option Choice). option_and_then (λ d. chosen_by d words) made) (ap (λ (o : LoginOption). with_value o value c) (sym is) ∙ becomes-none (with_value option value c) now kept)

no-flag : (option : LoginOption) (c : Choice) → is_flag option ≡ false → with_flag option c ≡ None
no-flag Socket c e = refl
no-flag User c e = refl
no-flag Password c e = refl
no-flag Factor2 c e = refl
no-flag Factor3 c e = refl
no-flag Clear c e = absurd (cc)
no-flag Expired c e = absurd (cc)
no-flag Other c e = refl

-- an option whose value is missing
pub value-missing : (c : Choice) (word : List ℕ) (option : LoginOption) → option ≡ named word → is_flag option ≡ false → chosen_by c (word ∷ []) ≡ None
value-missing c word option is flag = no-flag (named word) c (ap (λ (o : LoginOption). is_flag o) (sym is) ∙ flag)

-- the first of some words, and the others
pub split-words : (rest : List (String Global)) (word : String Global) → 1 ≤ length rest → word ≡ get_or rest 0 word
    → map string_bytes rest ≡ string_bytes word ∷ map string_bytes (take (length rest - 1) (drop 1 rest))
split-words [] word h is = absurd (omega arith)
split-words (x ∷ xs) word h is =
    ap (λ (w : String Global). string_bytes w ∷ map string_bytes xs) (sym is)
    ∙ ap (λ (l : List (String Global)). string_bytes word ∷ map string_bytes l) (sym (take_all (length (x ∷ xs) - 1) xs (omega arith)))

-- by which option it is
pub becomes-at : (option expected : LoginOption) (kept : Bool) (value : List ℕ) (c now : Choice) → option ≡ expected → Becomes kept (with_value expected value c) now → Becomes kept (with_value option value c) now
becomes-at option expected kept value c now is h = subst (λ (o : LoginOption). Becomes kept (with_value o value c) now) (sym is) h
