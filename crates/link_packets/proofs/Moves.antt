-- What is read from a link and written to it, step by step.
use Rattle.std.proofs.Common.{◌≡◌, refl, sym, ap, ◌∙◌, subst, ℕ, List, [], ◌++◌, take, drop, Option, Some, None, Ok, Err, append_assoc, append-nil}
use Rattle.std.proofs.lemmas.List.{take-append-drop}
use Rattle.lg_outside.specs.Links.{Receives, Sends}
use Rattle.lg_outside.specs.Traffic.{Traffic}
use Rattle.lg_outside.specs.declared.streams.Failed.{Failed}
use Rattle.link_packets.specs.Moving.{Moved, IsAtEnd}

abbrev pub traffic : (read left written : List ℕ) → Traffic
traffic read left written = record { read = read; left = left; written = written }

-- nothing happened
pub moved-none : (a : Option Traffic) → Moved a a [] []
moved-none None = refl
moved-none (Some t) =
    (t.left, refl, ap (λ (w : List ℕ). Some (traffic t.read t.left w)) (sym (append-nil t.written)) ∙ ap (λ (r : List ℕ). Some (traffic r t.left (t.written ++ []))) (sym (append-nil t.read)))

-- one thing after another
pub moved-more : (a b c : Option Traffic) (got sent more later : List ℕ) → Moved a b got sent → Moved b c more later → Moved a c (got ++ more) (sent ++ later)
moved-more None None c got sent more later first second = second
moved-more None (Some u) c got sent more later first second = absurd (cc)
moved-more (Some t) None c got sent more later (left, split, is) second = absurd (cc)
moved-more (Some t) (Some u) c got sent more later (left, split, is) (left', split', is') =
    let left-is : u.left ≡ left = cc in
    let read-is : u.read ≡ t.read ++ got = cc in
    let written-is : u.written ≡ t.written ++ sent = cc in (
      left',
      split ∙ ap (λ (l : List ℕ). got ++ l) (sym left-is ∙ split') ∙ sym (append_assoc got more left'),
      is'
          ∙ ap (λ (r : List ℕ). Some (traffic (r ++ more) left' (u.written ++ later))) read-is
          ∙ ap (λ (w : List ℕ). Some (traffic ((t.read ++ got) ++ more) left' (w ++ later))) written-is
          ∙ ap (λ (r : List ℕ). Some (traffic r left' ((t.written ++ sent) ++ later))) (append_assoc t.read got more)
          ∙ ap (λ (w : List ℕ). Some (traffic (t.read ++ (got ++ more)) left' w)) (append_assoc t.written sent later),
    )

-- bytes were read
pub received : (a b : Option Traffic) (count : ℕ) (buffer piece : List ℕ) → Receives a b (Ok count) buffer → piece ≡ take count buffer → Moved a b piece []
received None b count buffer piece r is = r
received (Some t) b count buffer piece (after, first, within, ends) is =
    let piece-is : take count t.left ≡ piece = sym (is ∙ first) in (
      drop count t.left,
      sym (take-append-drop count t.left) ∙ ap (λ (p : List ℕ). p ++ drop count t.left) piece-is,
      after
          ∙ ap (λ (p : List ℕ). Some (traffic (t.read ++ p) (drop count t.left) t.written)) piece-is
          ∙ ap (λ (w : List ℕ). Some (traffic (t.read ++ piece) (drop count t.left) w)) (sym (append-nil t.written)),
    )

-- nothing was left to be read
pub received-none : (a b : Option Traffic) (count : ℕ) (buffer : List ℕ) → count ≡ 0 → Receives a b (Ok count) buffer → Moved a b [] [] × IsAtEnd b
received-none a b count buffer none r =
    let r' = subst (λ (n : ℕ). Receives a b (Ok n) buffer) none r in
    (received a b 0 buffer [] r' refl, at a b r') where
      at : (x y : Option Traffic) → Receives x y (Ok 0) buffer → IsAtEnd y
      at None y r'' = subst (λ (o : Option Traffic). IsAtEnd o) (sym r'') (tt {0})
      at (Some t) y (after, first, within, ends) = subst (λ (o : Option Traffic). IsAtEnd o) (sym after) (ends refl)

-- a read failed
pub received-failed : (a b : Option Traffic) (f : Failed) (buffer : List ℕ) → Receives a b (Err f) buffer → Moved a b [] []
received-failed None b f buffer r = r
received-failed (Some t) b f buffer r = subst (λ (o : Option Traffic). Moved (Some t) o [] []) (sym r) (moved-none (Some t))

-- bytes were written
pub sent-all : (a b : Option Traffic) (bytes : List ℕ) → Sends a b (Ok tt) bytes → Moved a b [] bytes
sent-all None b bytes s = s
sent-all (Some t) b bytes s = (t.left, refl, s ∙ ap (λ (r : List ℕ). Some (traffic r t.left (t.written ++ bytes))) (sym (append-nil t.read)))

-- a write failed
pub sent-part : (a b : Option Traffic) (f : Failed) (bytes : List ℕ) → Sends a b (Err f) bytes → (count : ℕ) × Moved a b [] (take count bytes)
sent-part None b f bytes s = (0, s)
sent-part (Some t) b f bytes (count, is) =
    (count, (t.left, refl, is ∙ ap (λ (r : List ℕ). Some (traffic r t.left (t.written ++ take count bytes))) (sym (append-nil t.read))))
