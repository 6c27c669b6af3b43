-- What a line can say.
use Rattle.std.proofs.Common.{◌≡◌, ℕ, Bool, true, false, cond, List, [], ◌∷◌, Option, Some, None, refl, sym, subst, eqb, leb}
use Rattle.std.specs.Str.{bytes_eq}
use Rattle.std.specs.Prelude.{codes, IfOk, IfSome, Result, Ok, Err}
use Rattle.lg_base.specs.declared.allocation.Memory.{Memory}
use Rattle.std.specs.Option.{option_map}
use Rattle.account_history.specs.declared.entries.Opening.{Opening}
use Rattle.account_machine.specs.Openings.{is_opening}
use Rattle.script_text.specs.EventLines.{IsEvent, event_by}
use Rattle.script_text.specs.Words.{digits_from, hex_word, is_none_left, number_word, pair, within, words}
use Rattle.script_text.specs.Lines.{IsGiven, end_of, is_setting, keyword_of, line_of, opening_if, opening_of, said_by, said_if, said_in, setting_of}
use Rattle.script_text.specs.declared.event.Event.{Event}
use Rattle.script_text.specs.declared.line.Keyword.{Keyword}
use Rattle.script_text.specs.declared.line.Keyword.TheVariants as keyword
use Rattle.script_text.specs.declared.line.Line.{Line}
use Rattle.script_text.specs.declared.line.Line.TheVariants as line
use Rattle.script_text.specs.declared.line.Setting.{Setting}
use Rattle.script_text.specs.declared.line.Setting.TheVariants as setting
use Rattle.script_text.proofs.GivenEvents.{happens}

given-opening : (user password : Option (List ℕ)) → IsGiven (option_map line.Account (opening_if user password))
given-opening None password = tt
given-opening (Some user) None = tt
given-opening (Some user) (Some password) =
    let opening : Opening = record { user = user; password = password } in
    let by : (b : Bool) → is_opening opening ≡ b → IsGiven (option_map line.Account (cond b (Some opening) None)) =
    λ b. elim b as (λ b. is_opening opening ≡ b → IsGiven (option_map line.Account (cond b (Some opening) None)))
    [ true ↦ λ e. e | false ↦ λ e. tt ] in
    by (is_opening opening) refl

given-account : (words : Option (List ℕ × List ℕ)) → IsGiven (option_map line.Account (opening_of words))
given-account None = tt
given-account (Some words) = given-opening (hex_word words.0) (hex_word words.1)

given-happens : (event : Option Event) → IfSome event IsEvent → IsGiven (option_map line.Happens event)
given-happens None h = tt
given-happens (Some event) h = h

given-end : (b : Bool) → IsGiven (end_of b)
given-end true = tt
given-end false = tt

given-choice : (b : Bool) (x y : Option Setting) → IsGiven (option_map line.Set x) → IsGiven (option_map line.Set y) → IsGiven (option_map line.Set (cond b x y))
given-choice true x y g h = g
given-choice false x y g h = h

-- a setting without a bound of its own
free : (made : ℕ → Setting) → ((n : ℕ) → is_setting (made n) ≡ true) → (number : Option ℕ) → IsGiven (option_map line.Set (option_map made number))
free made same None = tt
free made same (Some n) = same n

bounded-within : (number : Option ℕ) → IsGiven (option_map line.Set (option_map setting.History (within 256 number)))
bounded-within None = tt
bounded-within (Some n) =
    let by : (b : Bool) → leb n 256 ≡ b → IsGiven (option_map line.Set (option_map setting.History (cond b (Some n) None))) =
    λ b. elim b as (λ b. leb n 256 ≡ b → IsGiven (option_map line.Set (option_map setting.History (cond b (Some n) None))))
    [ true ↦ λ e. e | false ↦ λ e. tt ] in
    by (leb n 256) refl

bounded : (word : List ℕ) → IsGiven (option_map line.Set (option_map setting.History (number_word 256 word)))
bounded [] = tt
bounded (d ∷ []) = bounded-within (digits_from 0 (d ∷ []))
bounded (d ∷ e ∷ ds) =
    elim (eqb d 48) as (λ b. IsGiven (option_map line.Set (option_map setting.History (cond b None (within 256 (digits_from 0 (d ∷ e ∷ ds)))))))
    [ true ↦ tt | false ↦ bounded-within (digits_from 0 (d ∷ e ∷ ds)) ]

given-set : (words : Option (List ℕ × List ℕ)) → IsGiven (option_map line.Set (setting_of words))
unfolding setting_of
given-set None = tt
given-set (Some (name, number)) =
    given-choice (bytes_eq name (codes "lifetime")) _ _ (free setting.Lifetime (λ n. refl) (number_word 65535 number))
    (given-choice (bytes_eq name (codes "history")) _ _ (bounded number)
    (given-choice (bytes_eq name (codes "reuse")) _ _ (free setting.Reuse (λ n. refl) (number_word 65535 number))
    (given-choice (bytes_eq name (codes "disconnect")) _ _ (free (λ n. setting.Disconnect (eqb n 1)) (λ n. refl) (number_word 1 number)) tt)))

given-by : (keyword : Keyword) (arguments : List (List ℕ)) → IsGiven (said_by keyword arguments)
given-by keyword.Account arguments = given-account (pair arguments)
given-by keyword.Set arguments = given-set (pair arguments)
given-by (keyword.Event word) arguments = given-happens (event_by word arguments) (happens word arguments)
given-by keyword.End arguments = given-end (is_none_left arguments)

given-in : (words : List (List ℕ)) → IsGiven (said_in words)
given-in [] = tt
given-in (word ∷ arguments) =
    elim (keyword_of word) as (λ keyword. IsGiven (said_if keyword arguments))
    [ None ↦ tt | Some keyword ↦ given-by keyword arguments ]

given : (line : List ℕ) → IsGiven (line_of line)
given [] = tt
given (b ∷ bs) =
    elim (eqb b 35) as (λ t. IsGiven (cond t (Some line.Skipped) (said_in (words (b ∷ bs)))))
    [ true ↦ tt | false ↦ given-in (words (b ∷ bs)) ]

-- what is read of a line
pub given-read : (text : List ℕ) (found : Result (Option Line) Memory) → IfOk found (λ found. found ≡ line_of text) → IfOk found IsGiven
given-read text (Ok found) same = subst (λ (found : Option Line). IsGiven found) (sym same) (given text)
given-read text (Err refused) same = tt
