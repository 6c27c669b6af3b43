-- A history that goes on by the entries of printed lines.
use Rattle.std.proofs.Common.{◌≡◌, refl, ap, sym, ◌∙◌, subst, ℕ, ◌+◌, List, [], ◌∷◌, ◌++◌, length, length-append, append-nil, append_assoc}
use Rattle.account_history.proofs.OneMore.{history-noted}
use Rattle.account_history.specs.Histories.{history, noted}
use Rattle.account_history.specs.Legal.{IsAnswered, IsLegal}
use Rattle.account_history.specs.declared.entries.Entry.{Entry}
use Rattle.account_history.specs.declared.entries.Log.{Log}
use Rattle.world_table.specs.Printing.{Adds, Line}
use Rattle.session_world.specs.Lines.{Numbered, entries_in, numbered_in}
use Rattle.session_world.specs.Transcripts.{numbered}

-- a log with the entries of these lines, by their numbers, each answered by what is before it
pub record Extends (before : Log) (lines : List Line) (after : Log) : Type 0 where
  pub starts : after.start ≡ before.start
  pub entries : after.entries ≡ before.entries ++ entries_in lines
  pub numbers : numbered_in lines ≡ numbered (length before.entries + 1) (entries_in lines)
  pub legal : IsLegal (history before) → IsLegal (history after)

-- lines without an entry
pub unchanged : (log : Log) (lines : List Line) → entries_in lines ≡ [] → numbered_in lines ≡ [] → Extends log lines log
unchanged log lines e n = record {
  starts = refl;
  entries = sym (append-nil log.entries) ∙ ap (λ (more : List Entry). log.entries ++ more) (sym e);
  numbers = n ∙ ap (λ (more : List Entry). numbered (length log.entries + 1) more) (sym e);
  legal = λ l. l;
}

-- other lines with the same entries
pub with_same : (before : Log) (lines others : List Line) (after : Log) → entries_in others ≡ entries_in lines → numbered_in others ≡ numbered_in lines →
    Extends before lines after → Extends before others after
with_same before lines others after e n x = record {
  starts = x.starts;
  entries = x.entries ∙ ap (λ (more : List Entry). before.entries ++ more) (sym e);
  numbers = n ∙ (x.numbers ∙ ap (λ (more : List Entry). numbered (length before.entries + 1) more) (sym e));
  legal = x.legal;
}

-- an entry first
pub one : (log : Log) (entry : Entry) (lines : List Line) (after : Log) → IsAnswered (history log) entry → Extends (noted log entry) lines after →
    Extends log (Adds (length log.entries + 1) entry ∷ lines) after
one log entry lines after answered x = record {
  starts = x.starts;
  entries = x.entries ∙ append_assoc log.entries (entry ∷ []) (entries_in lines);
  numbers = ap (λ (more : List Numbered). record { number = length log.entries + 1; entry = entry } ∷ more)
      (x.numbers ∙ ap (λ (n : ℕ). numbered (n + 1) (entries_in lines)) (length-append log.entries (entry ∷ [])));
  legal = λ l. x.legal (subst IsLegal (sym (history-noted log entry)) (l, answered));
}
