-- What a turn that served a call promises of it.
use Rattle.std.proofs.Common.{◌≡◌, ap, sym, ◌∙◌, ℕ, ◌+◌, ◌<◌, List, [], ◌∷◌, option_to_list, subst}
use Rattle.factor_chain.specs.CheckedOf.{CheckedOf}
use Rattle.factor_chain.specs.declared.credentials.Look.{Look}
use Rattle.factor_chain.specs.declared.evidence_list.Evidence.{Evidence}
use Rattle.stmt_rules.specs.declared.statement.Statement.{Statement}
use Rattle.account_history.specs.Histories.{History, ◌▹◌, history}
use Rattle.account_history.specs.Legal.{IsLegal}
use Rattle.account_history.specs.Preparing.{PreparedOf}
use Rattle.account_history.specs.Stamps.{stamp}
use Rattle.account_history.specs.declared.entries.Entry.{Entry}
use Rattle.account_history.specs.declared.entries.Entry.TheVariants.{Observed}
use Rattle.account_history.specs.declared.entries.Reply.{Reply}
use Rattle.account_history.specs.declared.entries.Who.{Who}
use Rattle.turn_book.specs.declared.view.Made.{Made}
use Rattle.turn_book.specs.Views.{entries_seen}
use Rattle.turn_book.specs.Book.{TookTurn}
use Rattle.shared_accounts.specs.Beginnings.{history_of, log_of}
use Rattle.shared_accounts.specs.Calls.{IsLooked, IsTimely, added_by, attempt_of, attempt_on, run_of, run_on}
use Rattle.shared_accounts.specs.Sharing.{AccountsView, Attempts, HasLook, Looked, Runs, WasLate}
use Rattle.shared_accounts.specs.Tickets.{LateOf, TicketOf}
use Rattle.shared_accounts.specs.declared.calls.Outcome.{Outcome}
use Rattle.shared_accounts.specs.declared.calls.Outcome.TheVariants.{Done, Stale}
use Rattle.shared_accounts.specs.declared.calls.Ran.{Ran}
use Rattle.shared_accounts.specs.declared.desk.Begun.{Begun}
use Rattle.shared_accounts.proofs.Turning.{entered, entries_then, legal-entered, legal-passed, same-carried, seen-here, timely-stale}

module _ (begun : Begun) (v w : AccountsView) (others : List (Made Entry)) where
  abbrev pub then : History
  then = history_of begun (entries_then begun v w others)

  -- the seat is still a legal one, with the same numbers
  pub record Goes : Type 0 where
    pub legal : IsLegal (history_of begun (entries_seen w))
    pub carried : w.carried ≡ v.carried

  pub goes-entered : (entry : Entry) → TookTurn v others (entry ∷ []) w → IsLegal (then ▹ entry) → Goes
  goes-entered entry t l = record {
    legal = legal-entered begun v w (log_of begun (entries_then begun v w others)) entry (entered begun v w others entry t) l;
    carried = same-carried begun v w others (entry ∷ []) t;
  }

  pub goes-passed : TookTurn v others [] w → IsLegal then → Goes
  goes-passed t l = record { legal = legal-passed begun v w others t l; carried = same-carried begun v w others [] t }

  pub looked : (who : Who) (look : Look) → TookTurn v others (Observed who look ∷ []) w → IsLooked then who look → Looked begun v w who look
  looked who look t a = record {
    before = log_of begun (entries_then begun v w others);
    added = entered begun v w others (Observed who look) t;
    look_is = a.0.1;
    few_labels = a.1;
  }

  pub looked-here : (who : Who) (look : Look) → TookTurn v others (Observed who look ∷ []) w → HasLook (entries_seen w) who look
  looked-here who look t = seen-here begun v w (log_of begun (entries_then begun v w others)) (Observed who look) (entered begun v w others (Observed who look) t)

  abbrev pub attempted : (user : List ℕ) (evidences : List Evidence) (flags reading : ℕ) (reply : Reply) → TookTurn v others (attempt_of user evidences flags reading reply ∷ []) w
      → IsLegal (then ▹ attempt_of user evidences flags reading reply) → Attempts begun v w user evidences flags reading reply
  attempted user evidences flags reading reply t l = record {
    before = log_of begun (entries_then begun v w others);
    added = entered begun v w others (attempt_of user evidences flags reading reply) t;
    reply_is = l.1;
  }

  abbrev pub ran : (statement : Statement) (salt : List ℕ) (actor reading : ℕ) (r : Ran) → TookTurn v others (run_of then statement salt actor reading r ∷ []) w
      → IsLegal (then ▹ run_of then statement salt actor reading r) → Runs begun v w statement salt actor reading r.reply
  ran statement salt actor reading r t l = record {
    before = log_of begun (entries_then begun v w others);
    count = r.count;
    added = entered begun v w others (run_of then statement salt actor reading r) t;
    answered = l.1;
  }

  -- ## What was prepared on a look

  module _ {R : Type 0} (look : Look) (made : R → Entry) (outcome : Outcome R) (t : TookTurn v others (option_to_list (added_by made outcome)) w) (a : IsTimely then look made outcome) where
    on-time : (reply : R) → outcome ≡ Done reply → TookTurn v others (made reply ∷ []) w
    on-time reply e = subst (λ (o : Outcome R). TookTurn v others (option_to_list (added_by made o)) w) e t

    answer-is : (o : Outcome R) → outcome ≡ o → IsTimely then look made o
    answer-is o e = subst (λ (o : Outcome R). IsTimely then look made o) e a

    too-late : (found : ℕ) → outcome ≡ Stale found → TookTurn v others [] w
    too-late found e = subst (λ (o : Outcome R). TookTurn v others (option_to_list (added_by made o)) w) e t

    pub goes-timely : Goes
    goes-timely = by outcome t a where
      by : (o : Outcome R) → TookTurn v others (option_to_list (added_by made o)) w → IsTimely then look made o → Goes
      by (Done reply) t a = goes-entered (made reply) t a.0
      by (Stale found) t a = goes-passed t a.0

    pub later-than : (ticket : TicketOf) (found : ℕ) → outcome ≡ Stale found → ticket.look ≡ look → ticket.look.stamp < found
    later-than ticket found e its = subst (λ (l : Look). l.stamp < found) (sym its) (timely-stale begun v w others look made outcome t a found e).3

    pub was-late : (ticket : TicketOf) (late : LateOf) (found : ℕ) → outcome ≡ Stale found → ticket.look ≡ look
        → late ≡ record { who = ticket.who; stamp = found; number = ticket.number + 1 } → WasLate begun v w ticket late
    was-late ticket late found e its made-of =
        let s = timely-stale begun v w others look made outcome t a found e in
        let stamp-is : late.stamp ≡ found = ap (λ (l : LateOf). l.stamp) made-of in record {
          nothing = s.0;
          who_is = ap (λ (l : LateOf). l.who) made-of;
          stamp_is = stamp-is ∙ (s.2 ∙ ap (λ (l : Look). stamp (history_of begun (entries_seen w)) l.user) (sym its));
          greater = subst (λ (n : ℕ). ticket.look.stamp < n) (sym stamp-is) (subst (λ (l : Look). l.stamp < found) (sym its) s.3);
          number_is = ap (λ (l : LateOf). l.number) made-of;
        }

  pub settled-done : (ticket : TicketOf) (checked : CheckedOf) (flags reading : ℕ) (outcome : Outcome Reply)
      → TookTurn v others (option_to_list (added_by (attempt_on checked flags reading) outcome)) w → IsTimely then checked.look (attempt_on checked flags reading) outcome
      → (reply : Reply) → outcome ≡ Done reply → checked.look ≡ ticket.look
      → (d : Attempts begun v w checked.look.user checked.evidences flags reading reply) × (stamp (history d.before) checked.look.user ≡ ticket.look.stamp)
  settled-done ticket checked flags reading outcome t a reply e its =
      let u = on-time checked.look (attempt_on checked flags reading) outcome t a reply e in
      let b : IsTimely then checked.look (attempt_on checked flags reading) (Done reply) = answer-is checked.look (attempt_on checked flags reading) outcome t a (Done reply) e in
      (attempted checked.look.user checked.evidences flags reading reply u b.0, b.1 ∙ ap (λ (l : Look). l.stamp) its)

  pub committed-done : (ticket : TicketOf) (prepared : PreparedOf) (actor reading : ℕ) (outcome : Outcome Ran)
      → TookTurn v others (option_to_list (added_by (run_on then prepared actor reading) outcome)) w → IsTimely then prepared.look (run_on then prepared actor reading) outcome
      → (r : Ran) → outcome ≡ Done r → prepared.look ≡ ticket.look
      → (d : Runs begun v w prepared.statement prepared.salt actor reading r.reply) × (stamp (history d.before) prepared.look.user ≡ ticket.look.stamp)
  committed-done ticket prepared actor reading outcome t a r e its =
      let u = on-time prepared.look (run_on then prepared actor reading) outcome t a r e in
      let b : IsTimely then prepared.look (run_on then prepared actor reading) (Done r) = answer-is prepared.look (run_on then prepared actor reading) outcome t a (Done r) e in
      (ran prepared.statement prepared.salt actor reading r u b.0, b.1 ∙ ap (λ (l : Look). l.stamp) its)
