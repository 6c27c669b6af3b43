-- What a call that reads by a form gives.
use Rattle.std.specs.Prelude.{◌≡◌, ℕ, List, [], ◌∷◌, Result, Ok, Err}
use Rattle.stmt_rules.specs.Forms.{Form}
use Rattle.stmt_rules.specs.declared.cursor.Fault.{Fault}
use Rattle.stmt_rules.specs.declared.cursor.Fault.TheVariants as fault
use Rattle.stmt_tokens.specs.declared.token.Token.{Token}

-- A call reads by a form: the value, with the cursor behind it; or the fault, with the cursor at it.
-- Where memory runs out nothing is said of the cursor.
abbrev pub Takes : {A : Type 0} → Form A → List Token → List Token → Result A Fault → Type 0
Takes form old new (Ok v) = form.read old ≡ Ok (v, new)
Takes form old new (Err fault.Here) = form.read old ≡ Err new
Takes form old new (Err fault.Memory) = Unit {0}

-- the place of the first of these tokens, or else the text's length
abbrev pub place_of : ℕ → List Token → ℕ
place_of size [] = size
place_of size (t ∷ ts) = t.place
