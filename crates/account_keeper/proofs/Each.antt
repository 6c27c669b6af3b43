-- Texts one behind the other, which are read one by one.
use Rattle.std.proofs.Common.{◌≡◌, ℕ, suc, ◌+◌, subst, ◌<◌, List, [], ◌∷◌, ◌++◌, length, length-append, append-nil, append_assoc, refl, sym, ap, ◌∙◌, arith}
use Rattle.std.proofs.lemmas.List.Concat.{flat_map-cons}
use Rattle.std.specs.List.{All, flat_map}
use Rattle.account_keeper.specs.declared.reading.RecordFault.{RecordFault}
use Rattle.account_keeper.specs.declared.reading.RecordFault.TheVariants as fault

-- these were read of a list, and the texts of the others follow
abbrev pub Left : {A : Type 0} → (A → List ℕ) → (A → Type 0) → List A → List A → List ℕ → List ℕ → Type 0
Left {A} text Fits v done rest more =
    (left : List A) × (v ≡ done ++ left) × All Fits left × (rest ≡ flat_map text left ++ more)

first_fits : {A : Type 0} (Fits : A → Type 0) (x : A) (xs : List A) → All Fits (x ∷ xs) → Fits x
first_fits Fits x xs h = h 0 x (omega arith)

others_fit : {A : Type 0} (Fits : A → Type 0) (x : A) (xs : List A) → All Fits (x ∷ xs) → All Fits xs
others_fit Fits x xs h = λ k d lt. h (suc k) d (omega (arith, lt))

module _ {A : Type 0} (text : A → List ℕ) (Fits : A → Type 0) where
  pub none_done : (v : List A) (rest more : List ℕ) → All Fits v → rest ≡ flat_map text v ++ more → Left text Fits v [] rest more
  none_done v rest more fits is = (v, refl, fits, is)

  -- the text of the next one
  next_text : (w : A) (left : List A) (rest more : List ℕ) → rest ≡ flat_map text (w ∷ left) ++ more → rest ≡ text w ++ (flat_map text left ++ more)
  next_text w left rest more is =
      is ∙ ap (λ (t : List ℕ). t ++ more) (flat_map-cons text w left) ∙ append_assoc (text w) (flat_map text left) more

  one_of : (v done left : List A) (x : A) (rest after more : List ℕ) → length done < length v → v ≡ done ++ left → All Fits left →
      rest ≡ flat_map text left ++ more → ((w : A) (m : List ℕ) → Fits w → rest ≡ text w ++ m → (x ≡ w) × (after ≡ m)) →
      Left text Fits v (done ++ x ∷ []) after more
  one_of v done [] x rest after more lt e fits is reads = absurd (omega (arith, lt, ap length e, length-append done []))
  one_of v done (w ∷ left) x rest after more lt e fits is reads =
      let one = reads w (flat_map text left ++ more) (first_fits Fits w left fits) (next_text w left rest more is) in (
        left,
        e ∙ sym (append_assoc done (w ∷ []) left) ∙ ap (λ (y : A). (done ++ y ∷ []) ++ left) (sym one.0),
        others_fit Fits w left fits,
        one.1,
      )

  -- one more is read
  pub one_more : (v done : List A) (x : A) (rest after more : List ℕ) → length done < length v → Left text Fits v done rest more →
      ((w : A) (m : List ℕ) → Fits w → rest ≡ text w ++ m → (x ≡ w) × (after ≡ m)) → Left text Fits v (done ++ x ∷ []) after more
  one_more v done x rest after more lt is reads = one_of v done is.0 x rest after more lt is.1 is.2 is.3 reads

  none_of : (v done left : List A) (e : RecordFault) (rest more : List ℕ) → length done < length v → v ≡ done ++ left → All Fits left →
      rest ≡ flat_map text left ++ more → ((w : A) (m : List ℕ) → Fits w → rest ≡ text w ++ m → e ≡ fault.Memory) → e ≡ fault.Memory
  none_of v done [] e rest more lt is fits at reads = absurd (omega (arith, lt, ap length is, length-append done []))
  none_of v done (w ∷ left) e rest more lt is fits at reads =
      reads w (flat_map text left ++ more) (first_fits Fits w left fits) (next_text w left rest more at)

  -- one more isn't read
  pub one_refused : (v done : List A) (e : RecordFault) (rest more : List ℕ) → length done < length v → Left text Fits v done rest more →
      ((w : A) (m : List ℕ) → Fits w → rest ≡ text w ++ m → e ≡ fault.Memory) → e ≡ fault.Memory
  one_refused v done e rest more lt is reads = none_of v done is.0 e rest more lt is.1 is.2 is.3 reads

  all_of : (v done left : List A) (rest more : List ℕ) → length done ≡ length v → v ≡ done ++ left →
      rest ≡ flat_map text left ++ more → (done ≡ v) × (rest ≡ more)
  all_of v done [] rest more same e is = (sym (e ∙ append-nil done), is)
  all_of v done (w ∷ left) rest more same e is = absurd (omega (arith, same, ap length e, length-append done (w ∷ left)))

  -- all were read
  pub all_done : (v done : List A) (rest more : List ℕ) → length done ≡ length v → Left text Fits v done rest more → (done ≡ v) × (rest ≡ more)
  all_done v done rest more same is = all_of v done is.0 rest more same is.1 is.3

-- So many were read of the list of this length that stood before the reader, if one did, and these are they.
pub record ReadSoFar {A : Type 0} (text : A → List ℕ) (Fits : A → Type 0) (size : ℕ) (before : List ℕ) (done : List A) (rest : List ℕ) (counter : ℕ) : Type 0 where
  pub counted : length done ≡ counter
  pub left : (v : List A) (more : List ℕ) → length v ≡ size → All Fits v → before ≡ flat_map text v ++ more → Left text Fits v done rest more

module _ {A : Type 0} (text : A → List ℕ) (Fits : A → Type 0) (size : ℕ) (before : List ℕ) where
  pub at_first : (done : List A) → done ≡ [] → ReadSoFar text Fits size before done before 0
  at_first done none = record {
    counted = ap length none;
    left = λ v more n fits is. subst (λ (d : List A). Left text Fits v d before more) (sym none) (none_done text Fits v before more fits is);
  }

  pub at_next : (done longer : List A) (x : A) (rest after : List ℕ) (counter : ℕ) → ReadSoFar text Fits size before done rest counter → counter < size →
      ((w : A) (m : List ℕ) → Fits w → rest ≡ text w ++ m → (x ≡ w) × (after ≡ m)) → longer ≡ done ++ x ∷ [] →
      ReadSoFar text Fits size before longer after (counter + 1)
  at_next done longer x rest after counter so_far lt reads is = record {
    counted = omega (arith, ap length is, length-append done (x ∷ []), so_far.counted);
    left = λ v more n fits at.
        let further : length done < length v = omega (arith, so_far.counted, n, lt) in
        subst (λ (d : List A). Left text Fits v d after more) (sym is) (one_more text Fits v done x rest after more further (so_far.left v more n fits at) reads);
  }

  pub not_next : (done : List A) (e : RecordFault) (rest : List ℕ) (counter : ℕ) → ReadSoFar text Fits size before done rest counter → counter < size →
      ((w : A) (m : List ℕ) → Fits w → rest ≡ text w ++ m → e ≡ fault.Memory) →
      (v : List A) (more : List ℕ) → (length v ≡ size) × All Fits v → before ≡ flat_map text v ++ more → e ≡ fault.Memory
  not_next done e rest counter so_far lt reads v more fits at =
      let further : length done < length v = omega (arith, so_far.counted, fits.0, lt) in
      one_refused text Fits v done e rest more further (so_far.left v more fits.0 fits.1 at) reads

  pub at_last : (done : List A) (rest : List ℕ) (counter : ℕ) → ReadSoFar text Fits size before done rest counter → counter ≡ size →
      (v : List A) (more : List ℕ) → (length v ≡ size) × All Fits v → before ≡ flat_map text v ++ more → (done ≡ v) × (rest ≡ more)
  at_last done rest counter so_far all v more fits at =
      all_done text Fits v done rest more (omega (arith, so_far.counted, fits.0, all)) (so_far.left v more fits.0 fits.1 at)
