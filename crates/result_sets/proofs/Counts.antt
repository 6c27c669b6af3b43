-- The number of columns: how it is read.
use Rattle.std.proofs.Common.{◌≡◌, ℕ, ◌<◌, List, [], ◌∷◌, length, Ok, ap, arith}
use Rattle.lg_base.specs.Reading.{Cursor, lenenc_at}
use Rattle.wire_form.specs.Fields.{lenenc, placed, SpellsLenenc}
use Rattle.wire_form.proofs.Laws.{FoundAt}
use Rattle.wire_form.proofs.Lenenc.{lenenc-lawful}

-- some byte stands before the end of a length-encoded integer
pub behind_lenenc : (c next : Cursor) (n : ℕ) → lenenc_at c ≡ Ok (n, next) → 0 < next.at
behind_lenenc c next n e =
    let t : FoundAt lenenc.Spells c next n = lenenc-lawful.found c next n (ap placed e) in
    omega (arith, t.place, some_byte t.text t.spelled)
  where
    some_byte : (text : List ℕ) → SpellsLenenc n text → 0 < length text
    some_byte [] s = absurd s
    some_byte (b ∷ text) s = omega arith
