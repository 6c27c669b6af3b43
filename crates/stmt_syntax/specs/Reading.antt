-- What is read of a text: its tokens, from the first on, by the grammar.
use Rattle.std.specs.Prelude.{◌≡◌, ℕ, List, [], ◌∷◌, ◌++◌, length, Result, Ok, Err}
use Rattle.stmt_rules.specs.Forms.{Read}
use Rattle.stmt_rules.specs.Taking.{place_of}
use Rattle.stmt_tokens.specs.Tokens.{tokens}
use Rattle.stmt_rules.specs.Grammar.{statement}
use Rattle.stmt_rules.specs.declared.statement.Statement.{Statement}
use Rattle.stmt_syntax.specs.declared.SyntaxFault.{SyntaxFault}
use Rattle.stmt_syntax.specs.declared.SyntaxFault.TheVariants as syntax
use Rattle.stmt_tokens.specs.declared.token.Token.{Token}

-- the statement and what is behind it, or the fault
abbrev pub reading : List ℕ → Read Statement
reading text = statement.read (tokens text)

abbrev pub Reads : List ℕ → Result Statement SyntaxFault → Type 0
Reads text (Ok v) = reading text ≡ Ok (v, [])
Reads text (Err (syntax.At place)) = (rest : List Token) × (reading text ≡ Err rest) × (place ≡ place_of (length text) rest)
Reads text (Err syntax.Memory) = Unit {0}

-- the text is the statement
abbrev pub IsText : Statement → List ℕ → Type 0
IsText v text = statement.spells v (tokens text) []

-- No statement begins with these tokens and the first of the rest; or, where there is no rest, none is these tokens.
abbrev pub NoneFits : List Token → List Token → Type 0
NoneFits before [] = (v : Statement) → statement.spells v before [] → ⊥
NoneFits before (t ∷ rest) = (v : Statement) (more : List Token) → statement.spells v (before ++ t ∷ more) [] → ⊥

-- some statement begins with these tokens
abbrev pub GoesOn : List Token → Type 0
GoesOn before = (more : List Token) × (v : Statement) × statement.spells v (before ++ more) []

-- The place of the first token at which no statement fits, or the length of a text that ends too early: what
-- stands before goes on to some statement.
abbrev pub IsPlace : List ℕ → ℕ → Type 0
IsPlace text place =
    (before rest : List Token) × (tokens text ≡ before ++ rest) × (place ≡ place_of (length text) rest) × GoesOn before × NoneFits before rest

-- The text is the statement that is read, and no other; or no statement fits at the place.
abbrev pub Accepts : List ℕ → Result Statement SyntaxFault → Type 0
Accepts text (Ok v) = IsText v text × ((w : Statement) → IsText w text → w ≡ v)
Accepts text (Err (syntax.At place)) = IsPlace text place × ((w : Statement) → IsText w text → ⊥)
Accepts text (Err syntax.Memory) = Unit {0}

-- a statement that some text is
abbrev pub IsReadable : Statement → Type 0
IsReadable v = (text : List ℕ) × IsText v text
