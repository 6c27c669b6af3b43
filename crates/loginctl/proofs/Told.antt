-- What a source told and what a sink was told, over several calls.
use Rattle.std.proofs.Common.{◌≡◌, refl, sym, ap, ◌∙◌, subst, ℕ, ◌+◌, ◌≤◌, List, [], ◌++◌, length, take, drop, Option, Some, None, Ok, Err, arith, append_assoc, append-nil}
use Rattle.std.proofs.Math.Seq.{take-append-add}
use Rattle.std.proofs.lemmas.List.{take-append-drop}
use Rattle.lg_outside.specs.Faults.{Rose}
use Rattle.lg_outside.specs.Streams.{Adds, Gives}
use Rattle.lg_outside.specs.declared.streams.Failed.{Failed}
use Rattle.loginctl.specs.Frames.{AnswersFrames, IsFrontListed, IsFrontOf, IsListed, ListedOf, no_memory, ran}
use Rattle.loginctl.specs.Input.{Held}
use Rattle.loginctl.specs.Listing.{IsEnded, printed, without_memory}
use Rattle.loginctl.specs.Printing.{Printed, Wrote, WrotePart, cut, whole}
use Rattle.loginctl.specs.declared.status.Status.{Status}

-- a count that rises later rises
pub rose-later : (before middle after : ℕ) → before ≤ middle → Rose middle after → Rose before after
rose-later before middle after h r = omega (arith, h, r)

pub rose-before : (before middle after : ℕ) → middle ≤ after → Rose before middle → Rose before after
rose-before before middle after h r = omega (arith, h, r)

-- nothing is held before the first read
pub held-nothing : (left : Option (List ℕ)) → Held left left []
held-nothing None = refl
held-nothing (Some all) = (all, refl, refl)

-- a read holds more
pub held-more : (before middle after : Option (List ℕ)) (held : List ℕ) (count : ℕ) (buffer : List ℕ) → Held before middle held → Gives middle after (Ok count) buffer
    → Held before after (held ++ take count buffer)
held-more None None after held count buffer h g = g
held-more None (Some left) after held count buffer h g = absurd (cc)
held-more (Some all) None after held count buffer (left, now, is) g = absurd (cc)
held-more (Some all) (Some rest) after held count buffer (left, now, is) g =
    let same : rest ≡ left = cc in (
      drop count rest,
      g.0,
      is ∙ ap (λ (l : List ℕ). held ++ l) (sym same) ∙ ap (λ (l : List ℕ). held ++ l) (sym (take-append-drop count rest))
          ∙ sym (append_assoc held (take count rest) (drop count rest)) ∙ ap (λ (b : List ℕ). (held ++ b) ++ drop count rest) (sym g.1),
    )

-- what is held stands at the front
pub held-front : (before after : Option (List ℕ)) (held : List ℕ) → Held before after held → IsFrontOf before held
held-front None after held h = tt {0}
held-front (Some all) after held (left, now, is) = (left, is)

-- what holds of it whatever follows holds of all that was told
pub held-listed : (before after : Option (List ℕ)) (held : List ℕ) (status : Status) (text : List ℕ) → Held before after held
    → ((rest : List ℕ) → IsListed (held ++ rest) status text) → ListedOf before status text
held-listed None after held status text h f = (held ++ [], f [])
held-listed (Some all) after held status text (left, now, is) f = subst (λ (input : List ℕ). IsListed input status text) (sym is) (f left)

-- at the end of the input all was held
pub held-all : (before middle after : Option (List ℕ)) (held : List ℕ) (buffer : List ℕ) (status : Status) (text : List ℕ) → Held before middle held → Gives middle after (Ok 0) buffer
    → IsListed held status text → ListedOf before status text
held-all None middle after held buffer status text h g due = (held, due)
held-all (Some all) None after held buffer status text (left, now, is) g due = absurd (cc)
held-all (Some all) (Some rest) after held buffer status text (left, now, is) g due =
    let same : rest ≡ left = cc in
    let none : left ≡ [] = sym same ∙ g.3 refl in
    subst (λ (input : List ℕ). IsListed input status text) (sym (is ∙ ap (λ (l : List ℕ). held ++ l) none ∙ append-nil held)) due

-- a write adds to what was written
pub wrote-more : (before middle after : Option (List ℕ)) (written bytes : List ℕ) (u : Unit {0}) → Wrote before middle written → Adds middle after (Ok u) bytes
    → Wrote before after (written ++ bytes)
wrote-more None None after written bytes u w a = a
wrote-more None (Some old) after written bytes u w a = absurd (cc)
wrote-more (Some old) None after written bytes u w a = absurd (cc)
wrote-more (Some old) (Some now) after written bytes u w a =
    let same : now ≡ old ++ written = cc in
    a ∙ ap (λ (b : List ℕ). Some (b ++ bytes)) same ∙ ap (λ (b : List ℕ). Some b) (append_assoc old written bytes)

-- the front of what is written after something is the front of both
pub part-after : (before middle after : Option (List ℕ)) (written text : List ℕ) → Wrote before middle written → WrotePart middle after text → WrotePart before after (written ++ text)
part-after None None after written text w a = a
part-after None (Some old) after written text w a = absurd (cc)
part-after (Some old) None after written text w a = absurd (cc)
part-after (Some old) (Some now) after written text w (count, is) =
    let same : now ≡ old ++ written = cc in (
      length written + count,
      is ∙ ap (λ (b : List ℕ). Some (b ++ take count text)) same ∙ ap (λ (b : List ℕ). Some b) (append_assoc old written (take count text) ∙ ap (λ (b : List ℕ). old ++ b) (sym (take-append-add written text count))),
    )

pub whole-after : (before middle after : Option (List ℕ)) (written text : List ℕ) → Wrote before middle written → Wrote middle after text → Wrote before after (written ++ text)
whole-after None None after written text w a = a
whole-after None (Some old) after written text w a = absurd (cc)
whole-after (Some old) None after written text w a = absurd (cc)
whole-after (Some old) (Some now) after written text w a =
    let same : now ≡ old ++ written = cc in
    a ∙ ap (λ (b : List ℕ). Some (b ++ text)) same ∙ ap (λ (b : List ℕ). Some b) (append_assoc old written text)

pub wrote-part : (middle after : Option (List ℕ)) (bytes : List ℕ) (f : Failed) → Adds middle after (Err f) bytes → WrotePart middle after bytes
wrote-part None after bytes f a = a
wrote-part (Some now) after bytes f a = a

-- a print after something was written
pub printed-after : (before middle after : Option (List ℕ)) (rose rises : Type 0) (status : Status) (written text : List ℕ) (result : Status) → Wrote before middle written → (rose → rises)
    → Printed middle after rose status text result → Printed before after rises status (written ++ text) result
printed-after before middle after rose rises status written text _ w f (whole a) = whole (whole-after before middle after written text w a)
printed-after before middle after rose rises status written text _ w f (cut r a) = cut (f r) (part-after before middle after written text w a)

-- the input ended, after its front was printed
pub ended-answers : (told tells ends before middle after : Option (List ℕ)) (bytes written buffer : List ℕ) (count : ℕ) (SourceRose rose rises : Type 0) (result : Status)
    → Held told tells bytes → Gives tells ends (Ok count) buffer → count ≡ 0 → Wrote before middle written → (rose → rises) → IsFrontListed told written
    → IsEnded bytes written middle after rose result → AnswersFrames told before after SourceRose rises result
ended-answers told tells ends before middle after bytes written buffer count SourceRose rose rises _ held gives none wrote f listed (printed result status rest due p) =
    let at-end : Gives tells ends (Ok 0) buffer = subst (λ (n : ℕ). Gives tells ends (Ok n) buffer) none gives in
    ran result status (written ++ rest) (held-all told tells ends bytes buffer status (written ++ rest) held at-end due)
    (printed-after before middle after rose rises status written rest result wrote f p)
ended-answers told tells ends before middle after bytes written buffer count SourceRose rose rises _ held gives none wrote f listed (without_memory same) =
    no_memory written listed (subst (λ (o : Option (List ℕ)). Wrote before o written) (sym same) wrote)
