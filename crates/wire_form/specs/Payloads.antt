-- What a reader of whole payloads answers, by the form of its payloads.
use Rattle.std.specs.Prelude.{◌≡◌, ℕ, ◌<◌, ◌≤◌, List, ◌++◌, length, take, All, Option, None, IfSome, IfOk, IfErr, Result, Ok, Err}
use Rattle.lg_base.specs.Reading.{Cursor}
use Rattle.wire_form.specs.Fields.{Found}

-- bytes that go on to a spelling
abbrev pub Begins : {A : Type 0} → (A → List ℕ → Type 0) → List ℕ → Type 0
Begins {A} Spells front = (a : A) × (more : List ℕ) × All (λ x. x < 256) more × Spells a (front ++ more)

-- The fault of a payload that is no spelling is at the length of its longest front that goes on to one.
pub record IsFaultPlace {A : Type 0} (Spells : A → List ℕ → Type 0) (payload : List ℕ) (at : ℕ) : Type 0 where
  pub within : at ≤ length payload
  pub begins : Begins Spells (take at payload)
  pub longest : (n : ℕ) → at < n → n ≤ length payload → Begins Spells (take n payload) → ⊥
  pub none : (a : A) → Spells a payload → ⊥

-- no payload spells two values
abbrev pub SpellsOne : {A : Type 0} → (A → List ℕ → Type 0) → Type 0
SpellsOne {A} Spells = (payload : List ℕ) (v w : A) → Spells v payload → Spells w payload → v ≡ w

-- A call answers this value, unless its error has no place in the payload.
abbrev pub Answers : {A E : Type 0} → (E → Option ℕ) → Result A E → A → Type 0
Answers fault_of (Ok v) w = v ≡ w
Answers fault_of (Err e) w = fault_of e ≡ None

-- A call reads a payload as a relation has it: what it answers is spelled by the payload, what is spelled
-- by the payload is answered, and a fault is at its place. fault_of gives an error's place; an error
-- without one, as want of memory, says nothing of the payload.
pub record IsReadAs {A E : Type 0} (fault_of : E → Option ℕ) (Spells : A → List ℕ → Type 0) (payload : List ℕ) (result : Result A E) : Type 0 where
  pub found : IfOk result (λ v. Spells v payload)
  pub only : (v : A) → Spells v payload → Answers fault_of result v
  pub fault : IfErr result (λ e. IfSome (fault_of e) (IsFaultPlace Spells payload))

-- the cursor at the first byte of a payload
abbrev pub start : List ℕ → Cursor
start payload = record { at = 0; rest = payload }

-- A call answers what reading finds, seen by view. Its error has the place of the fault; one without a place says
-- nothing of the payload.
abbrev pub GivesAs : {A X E : Type 0} → (X → A) → (E → Option ℕ) → Result X E → Result A ℕ → Type 0
GivesAs view fault_of (Ok x) found = found ≡ Ok (view x)
GivesAs view fault_of (Err e) found = IfSome (fault_of e) (λ at. found ≡ Err at)

abbrev pub Gives : {A E : Type 0} → (E → Option ℕ) → Result A E → Result A ℕ → Type 0
Gives fault_of result found = GivesAs (λ x. x) fault_of result found

-- the same of a field, behind which the cursor then stands
abbrev pub Steps : {A X E : Type 0} → (X → A) → (E → Option ℕ) → Cursor → Result X E → Found A → Type 0
Steps view fault_of next (Ok x) found = found ≡ Ok (view x, next)
Steps view fault_of next (Err e) found = IfSome (fault_of e) (λ at. found ≡ Err at)
