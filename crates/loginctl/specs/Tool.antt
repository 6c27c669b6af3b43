-- What the words and the input of `loginctl` are answered.
use Rattle.std.specs.Prelude.{◌≡◌, Bool, true, false, ℕ, List, [], ◌∷◌, ◌++◌, codes, Option, Some, None, if◌then◌else◌}
use Rattle.std.specs.Str.{bytes_eq}
use Rattle.lg_outside.specs.Faults.{Rose}
use Rattle.loginctl.specs.Frames.{AnswersFrames}
use Rattle.loginctl.specs.Generated.{AnswersGenerated}
use Rattle.loginctl.specs.LoginWords.{Choice, Chooses}
use Rattle.loginctl.specs.Logins.{AnswersLogin}
use Rattle.loginctl.specs.Outsides.{LinkState, SourceState}
use Rattle.loginctl.specs.Printing.{Printed, Wrote}
use Rattle.loginctl.specs.Replayed.{IsDue}
use Rattle.script_text.specs.Words.{number_word}
use Rattle.loginctl.specs.declared.status.Status.{Status}
use Rattle.loginctl.specs.declared.status.Status.TheVariants.{InputFault, NoMemory, Usage}

-- the words are the one word `replay`
abbrev pub is_replay_words : List (List ℕ) → Bool
is_replay_words (word ∷ []) = bytes_eq word (codes "replay")
is_replay_words _ = false

-- the number of a large run, where the words are `replay`, `--generate` and that number
abbrev pub generated_by : List (List ℕ) → Option ℕ
generated_by (word ∷ option ∷ number ∷ []) =
    if bytes_eq word (codes "replay") then (if bytes_eq option (codes "--generate") then number_word 4294967295 number else None) else None
generated_by _ = None

-- the words are the one word `frames`
abbrev pub is_frames_words : List (List ℕ) → Bool
is_frames_words (word ∷ []) = bytes_eq word (codes "frames")
is_frames_words _ = false

-- the text for words of no form
unfoldable pub usage_text : List ℕ
usage_text = codes "usage: loginctl replay [--generate N] | login --socket PATH --user NAME [--password WORD] [--factor2 WORD] [--factor3 WORD] [--clear] [--expired] | frames" ++ 10 ∷ []

-- the same where the source tells its bytes; else some input is answered so
abbrev pub Due : Option (List ℕ) → Status → List ℕ → Type 0
Due None status text = (input : List ℕ) × IsDue input status text
Due (Some input) status text = IsDue input status text

-- What words answer that are those of neither `replay` nor `frames`, by the link before and after, what was written before and
-- after, and whether the sink's count of faults rose.
pub data AnswersOther (words : List (List ℕ)) (local : Bool) (link link' : LinkState) (before after : Option (List ℕ)) (SinkRose : Type 0) : Status → Type 0 where
  -- they are those of a login
  login : (choice : Choice) (result : Status) → Chooses words choice → AnswersLogin choice local link link' before after SinkRose result
      → AnswersOther words local link link' before after SinkRose result
  -- they are of no form
  usage : (result : Status) → ((choice : Choice) → Chooses words choice → ⊥) → link' ≡ link → Printed before after SinkRose Usage usage_text result
      → AnswersOther words local link link' before after SinkRose result
  -- there was no memory to read them
  unread : link' ≡ link → Wrote before after [] → AnswersOther words local link link' before after SinkRose NoMemory

-- What a run answers, by its words, the source and the link before and after, what was written before and after, and
-- whether the sink's count of faults rose. Only a login touches the link, and it leaves the source.
pub data Answers (words : List (List ℕ)) (source source' : SourceState) (local : Bool) (link link' : LinkState) (before after : Option (List ℕ)) (SinkRose : Type 0) : Status → Type 0 where
  -- the words are those of neither `replay` nor `frames`
  other : (result : Status) → is_replay_words words ≡ false → generated_by words ≡ None → is_frames_words words ≡ false → source' ≡ source → AnswersOther words local link link' before after SinkRose result
      → Answers words source source' local link link' before after SinkRose result
  -- packets are listed
  frames : (result : Status) → is_frames_words words ≡ true → link' ≡ link → AnswersFrames source.left before after (Rose source.faults source'.faults) SinkRose result
      → Answers words source source' local link link' before after SinkRose result
  -- a large run is summed up, and the source is left
  generated : (result : Status) (number : ℕ) → generated_by words ≡ Some number → source' ≡ source → link' ≡ link → AnswersGenerated number before after SinkRose result
      → Answers words source source' local link link' before after SinkRose result
  -- the script was read to its end, or past the limit
  ran : (result status : Status) (text : List ℕ) → is_replay_words words ≡ true → link' ≡ link → Due source.left status text
      → Printed before after SinkRose status text result → Answers words source source' local link link' before after SinkRose result
  -- the source failed
  source_fault : is_replay_words words ≡ true → link' ≡ link → Rose source.faults source'.faults → Wrote before after []
      → Answers words source source' local link link' before after SinkRose InputFault
  -- there was no memory
  no_memory : is_replay_words words ≡ true → link' ≡ link → Wrote before after [] → Answers words source source' local link link' before after SinkRose NoMemory
