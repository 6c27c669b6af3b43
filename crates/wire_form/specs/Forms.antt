-- Forms: what a whole payload is, from its first byte to its last. As a field, but nothing follows.
use Rattle.std.specs.Prelude.{◌≡◌, ℕ, ◌⊎◌, Bool, true, false, List, [], ◌∷◌, ◌++◌, Contains, Option, Result, Ok, Err}
use Rattle.lg_base.specs.Reading.{Cursor, Read, first, text_at}
use Rattle.wire_form.specs.Fields.{Field, and_then, map_found}

pub record Form (A : Type 0) : Type 1 where
  pub Spells : A → List ℕ → Type 0
  pub read : Cursor → Result A ℕ
  pub Fits : A → Type 0
  pub write : A → List ℕ

-- all bytes to the end
abbrev pub rest : Form (List ℕ)
rest = record {
  Spells = λ v text. text ≡ v;
  read = λ c. Ok c.rest;
  Fits = λ v. Unit {0};
  write = λ v. v;
}

-- no byte
abbrev pub nothing_at : ℕ → List ℕ → Result (Unit {0}) ℕ
nothing_at at [] = Ok tt
nothing_at at (b ∷ bytes) = Err at

abbrev pub nothing : Form (Unit {0})
nothing = record {
  Spells = λ v text. text ≡ [];
  read = λ c. nothing_at c.at c.rest;
  Fits = λ v. Unit {0};
  write = λ v. [];
}

-- a field, and behind it a form that may depend on the field's value
abbrev pub lead : {A B : Type 0} → Field A → (A → Form B) → Form (A × B)
lead f g = record {
  Spells = λ v text. (front back : List ℕ) × f.Spells v.0 front × (g v.0).Spells v.1 back × (text ≡ front ++ back);
  read = λ c. and_then (f.read c) (λ a next. map_found (λ b. (a, b)) ((g a).read next));
  Fits = λ v. f.Fits v.0 × (g v.0).Fits v.1;
  write = λ v. f.write v.0 ++ (g v.0).write v.1;
}

-- a field, and behind it a form
infixr 6 ◌▹◌
abbrev pub ◌▹◌ : {A B : Type 0} → Field A → Form B → Form (A × B)
f ▹ g = lead f (λ _. g)

-- the same payload for another value, which is made of the first one
abbrev pub whole : {A B : Type 0} → (A → B) → (B → A) → Form A → Form B
whole {A} to from f = record {
  Spells = λ b text. (a : A) × f.Spells a text × (to a ≡ b);
  read = λ c. map_found to (f.read c);
  Fits = λ b. f.Fits (from b) × (to (from b) ≡ b);
  write = λ b. f.write (from b);
}

-- a text, the 00 that ends it, and a form behind that. Where nothing follows, the 00 may be missing: then
-- the value behind the text is this one.
abbrev pub name_then : {B : Type 0} → Form B → B → Cursor → Read (List ℕ) → Result (List ℕ × B) ℕ
name_then g none c (Ok x) = map_found (λ b. (x.0, b)) (g.read x.1)
name_then g none c (Err fault) = Ok (c.rest, none)

abbrev pub last_name : {B : Type 0} → Form B → B → Form (List ℕ × B)
last_name g none = record {
  Spells = λ v text. (¬ Contains v.0 0)
      × (((back : List ℕ) × g.Spells v.1 back × (text ≡ v.0 ++ 0 ∷ back)) ⊎ ((text ≡ v.0) × (v.1 ≡ none)));
  read = λ c. name_then g none c (text_at c);
  Fits = λ v. (¬ Contains v.0 0) × g.Fits v.1;
  write = λ v. v.0 ++ 0 ∷ g.write v.1;
}

-- The first byte tells which form a payload has. A value tells which one it is written in.
abbrev pub by_first : {A : Type 0} → (Option ℕ → Form A) → (A → Option ℕ) → Form A
by_first f which = record {
  Spells = λ v text. (f (first text)).Spells v text;
  read = λ c. (f (first c.rest)).read c;
  Fits = λ v. (f (which v)).Fits v × (first ((f (which v)).write v) ≡ which v);
  write = λ v. (f (which v)).write v;
}

-- one of two forms
abbrev pub either : {A : Type 0} → Bool → Form A → Form A → Form A
either true f g = f
either false f g = g
