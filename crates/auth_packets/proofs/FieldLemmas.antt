-- What a reader of so many bytes answers has that length.
use Rattle.std.proofs.Common.{◌≡◌, ℕ, List, length, Ok, Err, sym, ap, ◌∙◌, ⊎_elim, length-take-le}
use Rattle.std.proofs.lemmas.Bool.{cases_lt}
use Rattle.lg_base.specs.Reading.{Cursor, Read, bytes_at}
use Rattle.wire_form.proofs.Numbers.{bytes_at-short, bytes_at-long}

-- the length of what is found, and 0 where nothing is
found_length : ℕ → Read (List ℕ) → ℕ
found_length size (Ok x) = length x.0
found_length size (Err fault) = size

pub bytes_read : (size : ℕ) (c next : Cursor) (text : List ℕ) → bytes_at size c ≡ Ok (text, next) → length text ≡ size
unfolding found_length
bytes_read size c next text e = ⊎_elim
    (λ h. sym (ap (λ (r : Read (List ℕ)). found_length size r) e) ∙ ap (λ (r : Read (List ℕ)). found_length size r) (bytes_at-short size c h))
    (λ h. sym (ap (λ (r : Read (List ℕ)). found_length size r) e) ∙ ap (λ (r : Read (List ℕ)). found_length size r) (bytes_at-long size c h) ∙ length-take-le size c.rest h)
    (cases_lt (length c.rest) size)
