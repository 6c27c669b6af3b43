-- What `replay --generate` prints for the number of a large run.
use Rattle.std.specs.Prelude.{ℕ, List, [], ◌∷◌, ◌++◌, codes, decimal, Option}
use Rattle.large_script.specs.Generating.{generated, session_count}
use Rattle.session_world.specs.Standing.{summary_text}
use Rattle.loginctl.specs.Printing.{Printed, Wrote}
use Rattle.loginctl.specs.Replayed.{IsLegalRun, end_of}
use Rattle.loginctl.specs.declared.status.Status.{Status}
use Rattle.loginctl.specs.declared.status.Status.TheVariants.{Done, NoMemory}

-- the number of its sessions, and what sums up the history of the world behind its script
unfoldable pub generated_line : (number : ℕ) → List ℕ
generated_line number = codes "sessions " ++ decimal session_count ++ 32 ∷ summary_text (end_of (generated number))

-- the line of a number, whose history is legal
pub data IsSummedUp (number : ℕ) : List ℕ → Type 0 where
  summed_up : IsLegalRun (generated number) → IsSummedUp number (generated_line number)

-- What a large run answers, by what was written before and after, and whether the sink's count of faults rose.
pub data AnswersGenerated (number : ℕ) (before after : Option (List ℕ)) (SinkRose : Type 0) : Status → Type 0 where
  printed : (result : Status) (line : List ℕ) → IsSummedUp number line → Printed before after SinkRose Done line result
      → AnswersGenerated number before after SinkRose result
  -- there was no memory
  unprinted : Wrote before after [] → AnswersGenerated number before after SinkRose NoMemory
