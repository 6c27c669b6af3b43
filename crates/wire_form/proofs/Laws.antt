-- What ties the parts of a field and of a form together. Each kind of field and form meets these laws.
use Rattle.std.proofs.Common.{◌≡◌, ℕ, ◌+◌, List, [], ◌∷◌, ◌++◌, length, Ok, Err}
use Rattle.lg_base.specs.Reading.{Cursor}
use Rattle.wire_form.specs.Fields.{Field}
use Rattle.wire_form.specs.Forms.{Form}
use Rattle.wire_form.specs.Payloads.{Begins}

-- reading found a spelling of the value before the next cursor
pub record FoundAt {A : Type 0} (Spells : A → List ℕ → Type 0) (c next : Cursor) (a : A) : Type 0 where
  pub text : List ℕ
  pub spelled : Spells a text
  pub split : c.rest ≡ text ++ next.rest
  pub place : next.at ≡ c.at + length text

-- Reading stopped at a place: what stands before it goes on to a spelling, and with one byte more it
-- doesn't.
pub record StopsAt {A : Type 0} (Spells : A → List ℕ → Type 0) (c : Cursor) (n : ℕ) : Type 0 where
  pub front : List ℕ
  pub back : List ℕ
  pub split : c.rest ≡ front ++ back
  pub place : n ≡ c.at + length front
  pub begins : Begins Spells front
  pub no_further : (b : ℕ) (bs : List ℕ) → back ≡ b ∷ bs → (a : A) (more : List ℕ) → Spells a (front ++ b ∷ more) → ⊥

pub record IsField {A : Type 0} (f : Field A) : Type 0 where
  -- what is read is spelled so
  pub found : (c next : Cursor) (a : A) → f.read c ≡ Ok (a, next) → FoundAt f.Spells c next a
  -- what is spelled so is read, whatever follows
  pub only : (at : ℕ) (a : A) (text rest : List ℕ) → f.Spells a text →
      f.read (record { at = at; rest = text ++ rest }) ≡ Ok (a, record { at = at + length text; rest = rest })
  pub stops : (c : Cursor) (n : ℕ) → f.read c ≡ Err n → StopsAt f.Spells c n
  -- what is written is a spelling
  pub written : (a : A) → f.Fits a → f.Spells a (f.write a)
  -- there is a spelling
  pub begins : Begins f.Spells []

pub record IsForm {A : Type 0} (f : Form A) : Type 0 where
  pub found : (c : Cursor) (a : A) → f.read c ≡ Ok a → f.Spells a c.rest
  pub only : (c : Cursor) (a : A) → f.Spells a c.rest → f.read c ≡ Ok a
  pub stops : (c : Cursor) (n : ℕ) → f.read c ≡ Err n → StopsAt f.Spells c n
  pub written : (a : A) → f.Fits a → f.Spells a (f.write a)
  pub begins : Begins f.Spells []
