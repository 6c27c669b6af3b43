-- What a print to a sink leaves.
use Rattle.std.specs.Prelude.{◌≡◌, ℕ, List, ◌++◌, take, Option, Some, None}
use Rattle.loginctl.specs.declared.status.Status.{Status}
use Rattle.loginctl.specs.declared.status.Status.TheVariants.{OutputFault}

-- a text was written, where the sink tells its bytes
abbrev pub Wrote : Option (List ℕ) → Option (List ℕ) → List ℕ → Type 0
Wrote None after text = after ≡ None
Wrote (Some before) after text = after ≡ Some (before ++ text)

-- the beginning of a text was written
abbrev pub WrotePart : Option (List ℕ) → Option (List ℕ) → List ℕ → Type 0
WrotePart None after text = after ≡ None
WrotePart (Some before) after text = (count : ℕ) × (after ≡ Some (before ++ take count text))

-- a text was printed and the status that was due is answered, or the sink failed
pub data Printed (before after : Option (List ℕ)) (SinkRose : Type 0) (status : Status) (text : List ℕ) : Status → Type 0 where
  whole : Wrote before after text → Printed before after SinkRose status text status
  cut : SinkRose → WrotePart before after text → Printed before after SinkRose status text OutputFault
