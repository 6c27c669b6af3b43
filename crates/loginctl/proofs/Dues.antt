-- What is due for the bytes that were read is due for all that the source told.
use Rattle.std.proofs.Common.{◌≡◌, refl, ap, sym, ◌∙◌, ℕ, ◌<◌, ◌≤◌, List, [], ◌++◌, length, Option, Some, None, Result, Ok, Err, IfOk, IfSome, subst, arith, append-nil, length-append, ◌⊎◌, inl, inr, ⊎_elim, nat_lt, ltb-true, ltb-false, Bool, true, false}
use Rattle.loginctl.specs.Input.{Held}
use Rattle.large_script.specs.Generating.{generated}
use Rattle.loginctl.specs.Generated.{IsSummedUp, generated_line, summed_up}
use Rattle.loginctl.specs.Replayed.{IsDue, IsLegalRun, bad_line, longest_script, overlong, refused, replayed}
use Rattle.lg_outside.specs.Streams.{Adds}
use Rattle.lg_outside.specs.declared.streams.Failed.{Failed}
use Rattle.loginctl.specs.Printing.{Printed, Wrote, cut, whole}
use Rattle.loginctl.specs.Tool.{Due}
use Rattle.loginctl.specs.declared.replay.Outcome.{Outcome}
use Rattle.lg_base.specs.declared.allocation.Memory.{Memory}
use Rattle.loginctl.specs.declared.status.Status.{Status}
use Rattle.loginctl.specs.declared.status.Status.TheVariants.{BadInput, OutputFault}

-- what is due for an input that is no script
pub due-refused : (input : List ℕ) (made : Result Outcome Memory) (line : ℕ) → IsDue input BadInput (bad_line line)
    → IfOk made (λ due. due.status ≡ BadInput) → IfOk made (λ due. due.text ≡ bad_line line) → IfOk made (λ due. IsDue input due.status due.text)
due-refused input (Ok due) line is status text =
    subst (λ (s : Status). IsDue input s due.text) (sym status) (subst (λ (t : List ℕ). IsDue input BadInput t) (sym text) is)
due-refused input (Err want) line is status text = tt

-- the line of a large run
pub due-summed : (made : Result (List ℕ) Memory) (number : ℕ) → IsLegalRun (generated number) → IfOk made (λ line. line ≡ generated_line number) → IfOk made (IsSummedUp number)
due-summed (Ok line) number legal is = subst (λ (l : List ℕ). IsSummedUp number l) (sym is) (summed_up legal)
due-summed (Err want) number legal is = tt

-- an input of which more than the limit was read is too long
due-long : (held told : List ℕ) (status : Status) (text : List ℕ) → longest_script < length held → longest_script < length told → IsDue held status text → IsDue told status text
due-long held told _ _ h t (replayed script short spells legal transcripts replies) = absurd (omega arith)
due-long held told _ _ h t (refused line short none bad) = absurd (omega arith)
due-long held told _ _ h t (overlong long) = overlong t

within : (a b : ℕ) → (a ≤ b) ⊎ (b < a)
within a b = cases (nat_lt b a) refl where
  cases : (t : Bool) → nat_lt b a ≡ t → (a ≤ b) ⊎ (b < a)
  cases true e = inr (ltb-true b a e)
  cases false e = inl (ltb-false b a e)

pub due-told : (held : List ℕ) (before after : Option (List ℕ)) (status : Status) (text : List ℕ) → Held before after held
    → (length held ≤ 16777216 → IfSome after (λ left. left ≡ [])) → IsDue held status text → Due before status text
due-told held None after status text h w due = (held, due)
due-told held (Some told) after status text (left, now, all) w due =
    ⊎_elim
    (λ (short : length held ≤ 16777216).
    let rest : IfSome (Some left) (λ more. more ≡ []) = subst (λ (o : Option (List ℕ)). IfSome o (λ more. more ≡ [])) now (w short) in
    subst (λ (t : List ℕ). IsDue t status text) (sym (all ∙ ap (λ more. held ++ more) rest ∙ append-nil held)) due)
    (λ (long : 16777216 < length held).
    due-long held told status text long (let k = ap (λ bytes. length bytes) all in let m = length-append held left in omega arith) due)
    (within (length held) 16777216)

-- what a print leaves
pub printed-whole : (before after : Option (List ℕ)) (rose : Type 0) (status : Status) (text : List ℕ) (answer : Result (Unit {0}) Failed) (u : Unit {0})
    → answer ≡ Ok u → Adds before after answer text → Printed before after rose status text status
printed-whole None after rose status text answer u e a = whole a
printed-whole (Some before) after rose status text answer u e a = whole (subst (λ (r : Result (Unit {0}) Failed). Adds (Some before) after r text) e a)

pub printed-cut : (before after : Option (List ℕ)) (rose : Type 0) (status : Status) (text : List ℕ) (answer : Result (Unit {0}) Failed) (f : Failed)
    → answer ≡ Err f → rose → Adds before after answer text → Printed before after rose status text OutputFault
printed-cut None after rose status text answer f e r a = cut r a
printed-cut (Some before) after rose status text answer f e r a = cut r (subst (λ (o : Result (Unit {0}) Failed). Adds (Some before) after o text) e a)

-- nothing was written
pub wrote-nothing : (written : Option (List ℕ)) → Wrote written written []
wrote-nothing None = refl
wrote-nothing (Some before) = ap (λ (w : List ℕ). Some w) (sym (append-nil before))

-- a print of an equal text
pub printed-as : (before after : Option (List ℕ)) (rose : Type 0) (status : Status) (text same : List ℕ) (result : Status) → text ≡ same
    → Printed before after rose status text result → Printed before after rose status same result
printed-as before after rose status text same result e p = subst (λ (t : List ℕ). Printed before after rose status t result) e p

-- the same with an equal status
pub printed-with : (before after : Option (List ℕ)) (rose : Type 0) (status due : Status) (text same : List ℕ) (result : Status) → status ≡ due → text ≡ same
    → Printed before after rose status text result → Printed before after rose due same result
printed-with before after rose status due text same result e f p = subst (λ (s : Status). Printed before after rose s same result) e (printed-as before after rose status text same result f p)
