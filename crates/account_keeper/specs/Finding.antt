-- What a reader of fields finds where the bytes before it go on with the text of a value.
use Rattle.std.specs.Prelude.{◌≡◌, ℕ, Bool, List, [], ◌∷◌, ◌++◌, Option, IfSome, Result, Ok, Err}
use Rattle.factor_chain.specs.declared.credentials.Stored.{Stored}
use Rattle.account_rules.specs.declared.accounts.Account.{Account}
use Rattle.account_keeper.specs.Record.{StoredFits, FitsRecord, privileges_byte}
use Rattle.account_keeper.specs.Records.{HasNoId}
use Rattle.account_keeper.specs.declared.reading.Head.{Head}
use Rattle.account_keeper.specs.declared.reading.Terms.{Terms}
use Rattle.account_keeper.specs.declared.reading.Guard.{Guard}
use Rattle.account_keeper.specs.declared.reading.RecordFault.{RecordFault}
use Rattle.account_keeper.specs.declared.reading.RecordFault.TheVariants as fault

-- What is read is that of the value, and the reader then stands behind its text; else only memory was
-- wanting.
abbrev pub Finds : {A X : Type 0} → (X → A → Type 0) → (A → List ℕ) → (A → Type 0) → List ℕ → List ℕ → Result X RecordFault → Type 0
Finds {A} Is text Fits before after (Ok x) = (v : A) (more : List ℕ) → Fits v → before ≡ text v ++ more → Is x v × (after ≡ more)
Finds {A} Is text Fits before after (Err e) = (v : A) (more : List ℕ) → Fits v → before ≡ text v ++ more → e ≡ fault.Memory

-- the byte of the two privileges
abbrev pub privileges_text : Bool × Bool → List ℕ
privileges_text v = privileges_byte v.0 v.1 ∷ []

-- a secondary password with a text and without an id
abbrev pub SecondFits : Option (Stored × ℕ) → Type 0
SecondFits second = IfSome second (λ s. StoredFits s.0) × HasNoId second

-- an account with a record, whose secondary password has no id
abbrev pub FitsUnnumbered : Account → Type 0
FitsUnnumbered a = FitsRecord a × HasNoId a.secondary

-- ## What is read of an account

abbrev pub IsHead : Head → Account → Type 0
IsHead head a = (head.name ≡ a.name) × (head.method ≡ a.method)

abbrev pub ArePasswords : Stored × Option (Stored × ℕ) → Account → Type 0
ArePasswords two a = (two.0 ≡ a.primary) × (two.1 ≡ a.secondary)

abbrev pub AreTerms : Terms → Account → Type 0
AreTerms terms a =
    (terms.changed ≡ a.changed) × (terms.expired ≡ a.expired) × (terms.lifetime ≡ a.lifetime) × (terms.history ≡ a.history) × (terms.reuse ≡ a.reuse)

abbrev pub IsGuard : Guard → Account → Type 0
IsGuard guard a =
    (guard.lock ≡ a.lock) × (guard.locked ≡ a.locked) × (guard.privileges.0 ≡ a.create_user) × (guard.privileges.1 ≡ a.password_admin)
