-- Fields of a wire format. A field relates a value to the bytes that spell it: no place is in that
-- relation, and what follows one another is joined. Beside it stand how the field is read from a cursor,
-- for which values it is written, and what is written. The laws that tie these together are proved once
-- for each kind of field.
use Rattle.std.specs.Prelude.{◌≡◌, ℕ, ◌^◌, ◌<◌, ◌==◌, ◌⊎◌, Bool, true, false, List, [], ◌∷◌, ◌++◌, length, Contains, IsTrue, if◌then◌else◌, Option, Some, None, IsSomeAnd, Result, Ok, Err}
use Rattle.lg_base.specs.Fields.{little, little_text, lenenc_text}
use Rattle.lg_base.specs.Reading.{Cursor, Read, bytes_at, number_at, lenenc_at, text_at}
use Rattle.lg_base.specs.declared.input.ReadFault.{ReadFault}
use Rattle.lg_base.specs.declared.input.ReadFault.TheVariants.{Short, BadLenenc}

-- what reading a field answers: the value and the cursor behind it, or the place of the fault
abbrev pub Found : Type 0 → Type 0
Found A = Result (A × Cursor) ℕ

pub record Field (A : Type 0) : Type 1 where
  pub Spells : A → List ℕ → Type 0
  pub read : Cursor → Found A
  pub Fits : A → Type 0
  pub write : A → List ℕ

-- the place of a reader's fault
abbrev pub place_of : ReadFault → ℕ
place_of (Short at) = at
place_of (BadLenenc at) = at

abbrev pub placed : {A : Type 0} → Read A → Found A
placed (Ok x) = Ok x
placed (Err fault) = Err (place_of fault)

-- what is found, used on
abbrev pub and_then : {A B : Type 0} → Found A → (A → Cursor → Result B ℕ) → Result B ℕ
and_then (Ok x) use_on = use_on x.0 x.1
and_then (Err at) use_on = Err at

-- what is found, made into another value
abbrev pub map_found : {A B : Type 0} → (A → B) → Result A ℕ → Result B ℕ
map_found f (Ok a) = Ok (f a)
map_found f (Err at) = Err at

-- ## Single fields

-- a number in so many bytes, the lowest first
abbrev pub number : ℕ → Field ℕ
number size = record {
  Spells = λ n text. (length text ≡ size) × (little text ≡ n);
  read = λ c. placed (number_at size c);
  Fits = λ n. n < 256 ^ size;
  write = λ n. little_text size n;
}

-- one byte that passes a test
abbrev pub byte : (ℕ → Bool) → Field ℕ
byte test = record {
  Spells = λ b text. (text ≡ b ∷ []) × IsTrue (test b);
  read = λ c. and_then (placed (number_at 1 c)) (λ b next. if test b then Ok (b, next) else Err c.at);
  Fits = λ b. IsTrue (test b);
  write = λ b. b ∷ [];
}

-- so many bytes, whatever they are
abbrev pub bytes : ℕ → Field (List ℕ)
bytes size = record {
  Spells = λ v text. (length v ≡ size) × (text ≡ v);
  read = λ c. placed (bytes_at size c);
  Fits = λ v. length v ≡ size;
  write = λ v. v;
}

-- a length-encoded integer: in one byte below 251, or in 2, 3 or 8 bytes behind a byte that tells which
abbrev pub SpellsLenenc : ℕ → List ℕ → Type 0
SpellsLenenc n [] = ⊥
SpellsLenenc n (first ∷ text) =
    ((first < 251) × (n ≡ first) × (text ≡ []))
    ⊎ ((first ≡ 252) × (length text ≡ 2) × (little text ≡ n))
    ⊎ ((first ≡ 253) × (length text ≡ 3) × (little text ≡ n))
    ⊎ ((first ≡ 254) × (length text ≡ 8) × (little text ≡ n))

-- the shortest form is written
abbrev pub lenenc : Field ℕ
lenenc = record {
  Spells = SpellsLenenc;
  read = λ c. placed (lenenc_at c);
  Fits = λ n. n < 2 ^ 64;
  write = λ n. lenenc_text n;
}

-- a text without 00, and the 00 that ends it
abbrev pub name : Field (List ℕ)
name = record {
  Spells = λ v text. (¬ Contains v 0) × (text ≡ v ++ 0 ∷ []);
  read = λ c. placed (text_at c);
  Fits = λ v. ¬ Contains v 0;
  write = λ v. v ++ 0 ∷ [];
}

-- ## Fields made of fields

-- one field, and behind it another that may depend on the first one's value
abbrev pub follow : {A B : Type 0} → Field A → (A → Field B) → Field (A × B)
follow f g = record {
  Spells = λ v text. (front back : List ℕ) × f.Spells v.0 front × (g v.0).Spells v.1 back × (text ≡ front ++ back);
  read = λ c. and_then (f.read c) (λ a next. and_then ((g a).read next) (λ b last. Ok ((a, b), last)));
  Fits = λ v. f.Fits v.0 × (g v.0).Fits v.1;
  write = λ v. f.write v.0 ++ (g v.0).write v.1;
}

-- one field behind another
infixr 6 ◌▸◌
abbrev pub ◌▸◌ : {A B : Type 0} → Field A → Field B → Field (A × B)
f ▸ g = follow f (λ _. g)

-- the same bytes for another value, which is made of the first one
abbrev pub made : {A B : Type 0} → (A → B) → (B → A) → Field A → Field B
made {A} to from f = record {
  Spells = λ b text. (a : A) × f.Spells a text × (to a ≡ b);
  read = λ c. and_then (f.read c) (λ a next. Ok (to a, next));
  Fits = λ b. f.Fits (from b) × (to (from b) ≡ b);
  write = λ b. f.write (from b);
}

-- this very byte, which tells nothing
abbrev pub mark : ℕ → Field (Unit {0})
mark b = made (λ _. tt) (λ _. b) (byte (λ x. x == b))

-- so many bytes that aren't examined; these are written
abbrev pub skipped : ℕ → List ℕ → Field (Unit {0})
skipped size filler = made (λ _. tt) (λ _. filler) (bytes size)

-- bytes behind their length
abbrev pub counted : Field ℕ → Field (List ℕ)
counted f = made (λ v. v.1) (λ v. (length v, v)) (follow f bytes)

-- one of two fields
abbrev pub chosen : {A : Type 0} → Bool → Field A → Field A → Field A
chosen true f g = f
chosen false f g = g

-- no byte, for this value
abbrev pub already : {A : Type 0} → A → Field A
already x = record {
  Spells = λ v text. (v ≡ x) × (text ≡ []);
  read = λ c. Ok (x, c);
  Fits = λ v. v ≡ x;
  write = λ v. [];
}

abbrev pub written_if_some : {A : Type 0} → Field A → Option A → List ℕ
written_if_some f (Some a) = f.write a
written_if_some f None = []

-- a field that is there only where a flag is set
abbrev pub optional : {A : Type 0} → Bool → Field A → Field (Option A)
optional true f = record {
  Spells = λ v text. IsSomeAnd v (λ a. f.Spells a text);
  read = λ c. and_then (f.read c) (λ a next. Ok (Some a, next));
  Fits = λ v. IsSomeAnd v f.Fits;
  write = λ v. written_if_some f v;
}
optional false f = already None
