-- A text of which some lines were read.
use Rattle.std.proofs.Common.{◌≡◌, ℕ, ◌+◌, List, [], ◌∷◌, ◌++◌, length, Option, Some, None, refl, sym, ap, subst, ◌∙◌, append_assoc, length-append, arith, Result, Ok, Err}
use Rattle.std.specs.Prelude.{◌==◌}
use Rattle.script_text.specs.declared.ScriptFault.{ScriptFault}
use Rattle.script_text.specs.declared.ScriptFault.TheVariants as fault
use Rattle.std.specs.Option.{option_and_then}
use Rattle.script_text.specs.Words.{parts}
use Rattle.script_text.specs.Reading.{Contents, DoesNotFit, Finishes, IsBadLine, Progress, Reads, after_line, after_lines, start}
use Rattle.script_text.proofs.Cuts.{parted}

-- lines were read that say this, and the rest is left, from the line of this number on
pub record Stands (text rest : List ℕ) (said : Progress) (number : ℕ) : Type 0 where
  pub before : List (List ℕ)
  pub split : parts 10 text ≡ before ++ parts 10 rest
  pub fit : after_lines before start ≡ Some said
  pub counted : number ≡ length before + 1

pub stands-none : (text : List ℕ) (said : Progress) → said ≡ start → Stands text text said 1
stands-none text said e = record { before = []; split = refl; fit = ap (λ (p : Progress). Some p) (sym e); counted = refl }

pub after-append : (xs ys : List (List ℕ)) (p : Progress) → after_lines (xs ++ ys) p ≡ option_and_then (λ q. after_lines ys q) (after_lines xs p)
after-append [] ys p = refl
after-append (x ∷ xs) ys p =
    elim (after_line x p) as (λ (next : Option Progress). option_and_then (λ q. after_lines (xs ++ ys) q) next ≡ option_and_then (λ q. after_lines ys q) (option_and_then (λ q. after_lines xs q) next))
    [ None ↦ refl | Some q ↦ after-append xs ys q ]

-- one more line fits
pub stands-more : (text rest line behind : List ℕ) (said next : Progress) (number : ℕ) → Stands text rest said number
    → parts 10 rest ≡ line ∷ parts 10 behind → after_line line said ≡ Some next → Stands text behind next (number + 1)
stands-more text rest line behind said next number s cut fits = record {
  before = s.before ++ line ∷ [];
  split = s.split ∙ ap (λ (more : List (List ℕ)). s.before ++ more) cut ∙ sym (append_assoc s.before (line ∷ []) (parts 10 behind));
  fit =
      after-append s.before (line ∷ []) start
      ∙ ap (λ (said : Option Progress). option_and_then (λ q. after_lines (line ∷ []) q) said) s.fit
      ∙ ap (λ (next : Option Progress). option_and_then (λ q. Some q) next) fits;
  counted = omega (arith, s.counted, length-append s.before (line ∷ []));
}

-- this line doesn't fit
pub stands-bad : (text rest line behind : List ℕ) (said : Progress) (number : ℕ) → Stands text rest said number
    → parts 10 rest ≡ line ∷ parts 10 behind → after_line line said ≡ None → IsBadLine text number
stands-bad text rest line behind said number s cut misfit =
    let more = parted (λ b. b == 10) behind in
    record {
      before = s.before;
      line = line;
      behind = parts 10 behind;
      said = said;
      parts = s.split ∙ ap (λ (more : List (List ℕ)). s.before ++ more) cut;
      fit = s.fit;
      misfit = subst (λ (behind : List (List ℕ)). DoesNotFit said line behind) (sym more.2) misfit;
      counted = s.counted;
    }

-- the text ends
pub stands-end : (text rest last : List ℕ) (said : Progress) (number : ℕ) (found : Result Contents ScriptFault) → Stands text rest said number
    → parts 10 rest ≡ last ∷ [] → Finishes said last number found → Reads text found
stands-end text rest last said number (Ok script) s cut f = record {
  lines = s.before;
  said = said;
  parts = s.split ∙ ap (λ (more : List (List ℕ)). s.before ++ more) (cut ∙ ap (λ (last : List ℕ). last ∷ []) f.0);
  fit = s.fit;
  ended = f.1;
  same = f.2;
}
stands-end text rest last said number (Err (fault.BadLine line)) s cut f = record {
  before = s.before;
  line = last;
  behind = [];
  said = said;
  parts = s.split ∙ ap (λ (more : List (List ℕ)). s.before ++ more) cut;
  fit = s.fit;
  misfit = f.1;
  counted = f.0 ∙ s.counted;
}
stands-end text rest last said number (Err fault.Memory) s cut f = tt
