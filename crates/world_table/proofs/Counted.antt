-- What the code counts, with one entry more.
use Rattle.std.proofs.Common.{◌≡◌, refl, ap, sym, ◌∙◌, subst, ℕ, ◌+◌, ◌≤◌, ◌∷◌, [], Bool, not, cond, length, length-append, arith}
use Rattle.std.specs.List.{count_by}
use Rattle.std.proofs.lemmas.List.Sums.{sum_by-append}
use Rattle.account_history.proofs.OneMore.{history-noted}
use Rattle.account_history.specs.declared.entries.Attempt.{Attempt}
use Rattle.account_history.specs.declared.entries.Entry.{Entry}
use Rattle.account_history.specs.declared.entries.Entry.TheVariants.{Attempted, Executed, Observed}
use Rattle.account_history.specs.declared.entries.Execution.{Execution}
use Rattle.account_history.specs.declared.entries.Log.{Log}
use Rattle.account_history.specs.declared.entries.Who.{Who}
use Rattle.account_history.specs.Histories.{history, noted}
use Rattle.account_history.specs.Legal.{last_count}
use Rattle.account_history.specs.Replies.{opens}
use Rattle.world_table.specs.Attempts.{is_opened, is_refused, opened_in, refused_in}
use Rattle.factor_chain.specs.declared.credentials.Look.{Look}
use Rattle.world_table.specs.Table.{AreCounted}

one_more : (log : Log) (entry : Entry) (entries : ℕ) → entries ≡ length log.entries → entries + 1 ≡ length (noted log entry).entries
one_more log entry entries e = let long = length-append log.entries (entry ∷ []) in omega (arith, e, long)

-- a count over the entries, with one entry more
one_more_of : (p : Entry → Bool) (log : Log) (entry : Entry) (count : ℕ) → count ≡ count_by p log.entries →
    count + cond (p entry) 1 0 ≡ count_by p (noted log entry).entries
one_more_of p log entry count e = let more = sum_by-append (λ x. cond (p x) 1 0) log.entries (entry ∷ []) in omega (arith, e, more)

-- ## After each entry, as the code counts it

module _ (log now : Log) (before opened refused faults kept entries : ℕ) (c : AreCounted before opened refused faults log kept) (more : entries ≡ before + 1) where
  same_count : (entry : Entry) → entries ≡ length (noted log entry).entries
  same_count entry = more ∙ one_more log entry before c.entries_are

  opened_also : (entry : Entry) → opened + cond (is_opened entry) 1 0 ≡ opened_in (noted log entry)
  opened_also entry = one_more_of is_opened log entry opened c.opened_are

  refused_also : (entry : Entry) → refused + cond (is_refused entry) 1 0 ≡ refused_in (noted log entry)
  refused_also entry = one_more_of is_refused log entry refused c.refused_are

  pub after_look : (who : Who) (look : Look) → now ≡ noted log (Observed who look) → AreCounted entries opened refused faults now kept
  after_look who look is =
      subst (λ (l : Log). AreCounted entries opened refused faults l kept) (sym is)
      (record {
        entries_are = same_count (Observed who look);
        opened_are = let also = opened_also (Observed who look) in omega (arith, also);
        refused_are = let also = refused_also (Observed who look) in omega (arith, also);
        faults_are = c.faults_are ∙ sym (ap last_count (history-noted log (Observed who look)));
        keeper_has = c.keeper_has;
      })

  pub after_attempt : (attempt : Attempt) (opened_now refused_now : ℕ) → now ≡ noted log (Attempted attempt) →
      opened_now ≡ opened + cond (opens attempt.reply) 1 0 → refused_now ≡ refused + cond (not (opens attempt.reply)) 1 0 →
      AreCounted entries opened_now refused_now faults now kept
  after_attempt attempt opened_now refused_now is o r =
      subst (λ (l : Log). AreCounted entries opened_now refused_now faults l kept) (sym is)
      (record {
        entries_are = same_count (Attempted attempt);
        opened_are = o ∙ opened_also (Attempted attempt);
        refused_are = r ∙ refused_also (Attempted attempt);
        faults_are = c.faults_are ∙ sym (ap last_count (history-noted log (Attempted attempt)));
        keeper_has = c.keeper_has;
      })

  pub after_execution : (execution : Execution) (count left : ℕ) → now ≡ noted log (Executed execution) → count ≡ execution.count → execution.count ≡ left →
      AreCounted entries opened refused count now left
  after_execution execution count left is counted same =
      subst (λ (l : Log). AreCounted entries opened refused count l left) (sym is)
      (record {
        entries_are = same_count (Executed execution);
        opened_are = let also = opened_also (Executed execution) in omega (arith, also);
        refused_are = let also = refused_also (Executed execution) in omega (arith, also);
        faults_are = counted ∙ sym (ap last_count (history-noted log (Executed execution)));
        keeper_has = omega (arith, counted, same);
      })
