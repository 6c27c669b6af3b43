-- A whole turn of a seat as an entry of the history, or as none.
use Rattle.std.proofs.Common.{◌≡◌, refl, ap, sym, ◌∙◌, ℕ, ◌<◌, List, [], ◌∷◌, ◌++◌, map, Contains, option_to_list, subst, append-nil, arith}
use Rattle.std.proofs.lemmas.List.{length-map, map-append}
use Rattle.std.proofs.lemmas.List.Elements.{Contains-append_right}
use Rattle.factor_chain.specs.declared.credentials.Look.{Look}
use Rattle.account_history.specs.Histories.{◌▹◌, history}
use Rattle.account_history.specs.Legal.{IsLegal}
use Rattle.account_history.specs.Stamps.{stamp}
use Rattle.account_history.specs.declared.entries.Entry.{Entry}
use Rattle.account_history.specs.declared.entries.Log.{Log}
use Rattle.account_history.proofs.OneMore.{history-noted}
use Rattle.turn_book.specs.declared.view.Made.{Made}
use Rattle.turn_book.specs.Views.{entries_seen, entry_of, mine, number_of, signed}
use Rattle.turn_book.specs.Book.{TookTurn}
use Rattle.shared_accounts.specs.Beginnings.{history_of, log_of}
use Rattle.shared_accounts.specs.Calls.{IsTimely, added_by}
use Rattle.shared_accounts.specs.Sharing.{AccountsView, Added, Extends, NothingAdded, OneTurn}
use Rattle.shared_accounts.specs.declared.calls.Outcome.{Outcome}
use Rattle.shared_accounts.specs.declared.calls.Outcome.TheVariants.{Done, Stale}
use Rattle.shared_accounts.specs.declared.desk.Begun.{Begun}

module _ (begun : Begun) (v w : AccountsView) (others : List (Made Entry)) where
  -- the entries before the call's own
  abbrev pub entries_then : List Entry
  entries_then = map entry_of (v.seen ++ others)

  one-turn : (added : List Entry) → TookTurn v others added w → OneTurn begun v w
  one-turn added t = record {
    drawn = ap (λ (x : AccountsView). x.drawn) t.after;
    ended = ap (λ (x : AccountsView). x.ended) t.after;
    open_book = t.open_book;
  }

  pub same-carried : (added : List Entry) → TookTurn v others added w → w.carried ≡ v.carried
  same-carried added t = ap (λ (x : AccountsView). x.carried) t.after

  abbrev grown : Extends (log_of begun (entries_seen v)) (log_of begun entries_then)
  grown = (map entry_of others, ap (log_of begun) (map-append entry_of v.seen others))

  pub entered : (entry : Entry) → TookTurn v others (entry ∷ []) w → Added begun v w (log_of begun entries_then) entry
  entered entry t = record {
    grown = grown;
    seen_is = ap (λ (x : AccountsView). log_of begun (entries_seen x)) t.after
        ∙ ap (log_of begun) (map-append entry_of (v.seen ++ others) (signed (number_of v.carried) entry ∷ []));
    mine_is = t.own ∙ ap (λ (n : ℕ). mine v ++ (n, signed (number_of v.carried) entry) ∷ []) (sym (length-map (v.seen ++ others) entry_of));
    turn = one-turn (entry ∷ []) t;
  }

  passed-seen : TookTurn v others [] w → log_of begun (entries_seen w) ≡ log_of begun entries_then
  passed-seen t =
      ap (λ (x : AccountsView). log_of begun (entries_seen x)) t.after
      ∙ ap (λ (l : List (Made Entry)). log_of begun (map entry_of l)) (append-nil (v.seen ++ others))

  pub passed : TookTurn v others [] w → NothingAdded begun v w
  passed t = record {
    grown = (map entry_of others, passed-seen t ∙ grown.1);
    mine_is = t.own ∙ append-nil (mine v);
    turn = one-turn [] t;
  }

  pub passed-history : TookTurn v others [] w → history_of begun (entries_seen w) ≡ history_of begun entries_then
  passed-history t = ap history (passed-seen t)

  pub legal-passed : TookTurn v others [] w → IsLegal (history_of begun entries_then) → IsLegal (history_of begun (entries_seen w))
  legal-passed t l = subst IsLegal (sym (passed-history t)) l

  -- what was prepared on a look, and done
  module _ {R : Type 0} (look : Look) (made : R → Entry) (outcome : Outcome R) (t : TookTurn v others (option_to_list (added_by made outcome)) w) (a : IsTimely (history_of begun entries_then) look made outcome) where
    pub timely-done : (reply : R) → outcome ≡ Done reply
        → Added begun v w (log_of begun entries_then) (made reply)
        × IsLegal (history_of begun entries_then ▹ made reply) × (stamp (history_of begun entries_then) look.user ≡ look.stamp)
    timely-done reply e =
        let u : TookTurn v others (made reply ∷ []) w = subst (λ (o : Outcome R). TookTurn v others (option_to_list (added_by made o)) w) e t in
        let b = subst (λ (o : Outcome R). IsTimely (history_of begun entries_then) look made o) e a in
        (entered (made reply) u, b.0, b.1)

    pub timely-stale : (found : ℕ) → outcome ≡ Stale found
        → NothingAdded begun v w × IsLegal (history_of begun (entries_seen w))
        × (found ≡ stamp (history_of begun (entries_seen w)) look.user) × (look.stamp < found)
    timely-stale found e =
        let u : TookTurn v others [] w = subst (λ (o : Outcome R). TookTurn v others (option_to_list (added_by made o)) w) e t in
        let b = subst (λ (o : Outcome R). IsTimely (history_of begun entries_then) look made o) e a in
        (passed u, legal-passed u b.0, b.1 ∙ ap (λ h. stamp h look.user) (sym (passed-history u)), b.2)

-- the seat has seen a legal history, and the entry at its end
pub legal-entered : (begun : Begun) (v w : AccountsView) (before : Log) (entry : Entry) → Added begun v w before entry
    → IsLegal (history before ▹ entry) → IsLegal (history_of begun (entries_seen w))
legal-entered begun v w before entry a l = subst IsLegal (sym (ap history a.seen_is ∙ history-noted before entry)) l

pub seen-here : (begun : Begun) (v w : AccountsView) (before : Log) (entry : Entry) → Added begun v w before entry → Contains (entries_seen w) entry
seen-here begun v w before entry a =
    subst (λ (l : Log). Contains l.entries entry) (sym a.seen_is) (Contains-append_right before.entries (entry ∷ []) entry (0, (omega arith), refl))
