-- What a call of the shared accounts changes of a session's own side.
use Rattle.std.proofs.Common.{◌≡◌, sym, ap, ◌∙◌, subst, ℕ, List, [], ◌∷◌, ◌++◌, map, Option, Some, None, IsSome, find, append_assoc, append-nil}
use Rattle.std.proofs.lemmas.List.{map-append}
use Rattle.std.proofs.lemmas.List.Elements.{Contains-append_left}
use Rattle.account_history.specs.Histories.{history}
use Rattle.account_history.specs.Records.{has_id, records}
use Rattle.account_history.specs.declared.entries.Entry.{Entry}
use Rattle.account_history.specs.declared.entries.Entry.TheVariants.{Attempted, Executed, Observed}
use Rattle.account_history.specs.declared.entries.Log.{Log}
use Rattle.account_history.specs.declared.entries.Who.{Who}
use Rattle.account_history.specs.declared.entries.Who.TheVariants.{Login, Account, Own}
use Rattle.factor_chain.specs.declared.credentials.Look.{Look}
use Rattle.serve_talk.specs.Fitting as fitting
use Rattle.serve_talk.specs.Fitting.{MayLook}
use Rattle.serve_talk.specs.Sides.{AreAmong, Extends, GaveAll, Grew, none, passed, readings_in, taken}
use Rattle.serve_talk.proofs.Grown.{gave_none}
use Rattle.server_outside.specs.Telling.{Gave}
use Rattle.session_serve.specs.Holding.{HasAccount, HasPaper}
use Rattle.session_serve.specs.Siding.{entries_made, entry_at, side_of}
use Rattle.shared_accounts.specs.Beginnings.{log_of}
use Rattle.shared_accounts.specs.Sharing.{AccountsView, Added, HasStood, NothingAdded, OwnHasStood}
use Rattle.shared_accounts.specs.declared.desk.Begun.{Begun}
use Rattle.turn_book.specs.Book.{Ended}
use Rattle.turn_book.specs.Views.{entries_seen, mine}
use Rattle.turn_book.specs.declared.view.Made.{Made}

-- ## What is told

-- one thing was given
pub gave_one : {A : Type 0} → (before after : Option (List A)) (thing : A) → Gave before after thing → GaveAll before after (thing ∷ [])
gave_one before None thing gave = tt
gave_one None (Some after) thing gave = absurd gave
gave_one (Some before) (Some after) thing gave = gave

-- ## Entries

-- the entries before an entry that was added
pub record Before (begun : Begun) (v w : AccountsView) (before : Log) (entry : Entry) : Type 0 where
  pub others : List Entry
  pub before_is : before ≡ log_of begun (entries_seen v ++ others)
  pub seen_is : entries_seen w ≡ (entries_seen v ++ others) ++ entry ∷ []

pub added_before : (begun : Begun) (v w : AccountsView) (before : Log) (entry : Entry) → Added begun v w before entry → Before begun v w before entry
added_before begun v w before entry a = record {
  others = a.grown.0;
  before_is = a.grown.1;
  seen_is = ap (λ (log : Log). log.entries) a.seen_is ∙ ap (λ (log : Log). log.entries ++ entry ∷ []) a.grown.1;
}

pub made_also : (begun : Begun) (v w : AccountsView) (before : Log) (entry : Entry) → Added begun v w before entry → entries_made w ≡ entries_made v ++ entry ∷ []
made_also begun v w before entry a =
    ap (λ (l : List (ℕ × Made Entry)). map entry_at l) a.mine_is ∙ map-append entry_at (mine v) _

pub grown_also : (begun : Begun) (v w : AccountsView) (before : Log) (entry : Entry) → Added begun v w before entry →
    Extends (log_of begun (entries_seen v)) (log_of begun (entries_seen w))
grown_also begun v w before entry a =
    let b = added_before begun v w before entry a in
    (b.others ++ entry ∷ [], ap (λ (l : List Entry). log_of begun l) (b.seen_is ∙ append_assoc (entries_seen v) b.others (entry ∷ [])))

-- an entry was added by this reading of the clock
abbrev pub reading_of : Entry → Option ℕ
reading_of (Observed who look) = None
reading_of (Attempted attempt) = Some attempt.reading
reading_of (Executed execution) = Some execution.reading

timed_one : (entry : Entry) (reading : ℕ) → reading_of entry ≡ Some reading → AreAmong (readings_in (entry ∷ [])) (reading ∷ [])
timed_one (Observed who look) reading is = absurd (cc)
timed_one (Attempted attempt) reading is = subst (λ (n : ℕ). AreAmong (attempt.reading ∷ []) (n ∷ [])) (same is) (taken attempt.reading [] [] none)
  where
    same : Some attempt.reading ≡ Some reading → attempt.reading ≡ reading
    same e = cc
timed_one (Executed execution) reading is = subst (λ (n : ℕ). AreAmong (execution.reading ∷ []) (n ∷ [])) (same is) (taken execution.reading [] [] none)
  where
    same : Some execution.reading ≡ Some reading → execution.reading ≡ reading
    same e = cc

module _ (begun : Begun) (v w : AccountsView) (draws : Option (List (List ℕ))) (before after : Option (List ℕ)) where
  -- a look was added, and the clock wasn't read
  pub grew_look : (log : Log) (who : Who) (look : Look) → Added begun v w log (Observed who look) → before ≡ after →
      Grew (side_of begun v draws before) (side_of begun w draws after) (Observed who look ∷ []) []
  grew_look log who look a same = record {
    mine = made_also begun v w log (Observed who look) a;
    grown = grown_also begun v w log (Observed who look) a;
    drew = gave_none draws;
    times = [];
    read_times = subst (λ (o : Option (List ℕ)). GaveAll before o []) same (gave_none before);
    timed = none;
  }

  -- an entry was added by a reading of the clock
  pub grew_entry : (log : Log) (entry : Entry) (reading : ℕ) → Added begun v w log entry → reading_of entry ≡ Some reading → Gave before after reading →
      Grew (side_of begun v draws before) (side_of begun w draws after) (entry ∷ []) []
  grew_entry log entry reading a is gave = record {
    mine = made_also begun v w log entry a;
    grown = grown_also begun v w log entry a;
    drew = gave_none draws;
    times = reading ∷ [];
    read_times = gave_one before after reading gave;
    timed = timed_one entry reading is;
  }

  -- nothing was added, and the clock was read
  pub grew_nothing : (reading : ℕ) → NothingAdded begun v w → Gave before after reading → Grew (side_of begun v draws before) (side_of begun w draws after) [] []
  grew_nothing reading n gave = record {
    mine = ap (λ (l : List (ℕ × Made Entry)). map entry_at l) n.mine_is ∙ sym (append-nil (entries_made v));
    grown = n.grown;
    drew = gave_none draws;
    times = reading ∷ [];
    read_times = gave_one before after reading gave;
    timed = passed reading [] [] none;
  }

  -- or it wasn't
  pub grew_unread : NothingAdded begun v w → before ≡ after → Grew (side_of begun v draws before) (side_of begun w draws after) [] []
  grew_unread n same = record {
    mine = ap (λ (l : List (ℕ × Made Entry)). map entry_at l) n.mine_is ∙ sym (append-nil (entries_made v));
    grown = n.grown;
    drew = gave_none draws;
    times = [];
    read_times = subst (λ (o : Option (List ℕ)). GaveAll before o []) same (gave_none before);
    timed = none;
  }

-- no turn was left, and the clock was read
pub grew_ended : (begun : Begun) (v w : AccountsView) (draws : Option (List (List ℕ))) (before after : Option (List ℕ)) (reading : ℕ) → Ended v w → Gave before after reading →
    Grew (side_of begun v draws before) (side_of begun w draws after) [] []
grew_ended begun v w draws before after reading ended gave =
    subst (λ (u : AccountsView). Grew (side_of begun v draws before) (side_of begun u draws after) [] []) (sym ended) (record {
      mine = sym (append-nil (entries_made v));
      grown = ([], ap (λ (l : List Entry). log_of begun l) (sym (append-nil (entries_seen v))));
      drew = gave_none draws;
      times = reading ∷ [];
      read_times = gave_one before after reading gave;
      timed = passed reading [] [] none;
    })

pub grew_ended_unread : (begun : Begun) (v w : AccountsView) (draws : Option (List (List ℕ))) (clock : Option (List ℕ)) → Ended v w →
    Grew (side_of begun v draws clock) (side_of begun w draws clock) [] []
grew_ended_unread begun v w draws clock ended =
    subst (λ (u : AccountsView). Grew (side_of begun v draws clock) (side_of begun u draws clock) [] []) (sym ended) (record {
      mine = sym (append-nil (entries_made v));
      grown = ([], ap (λ (l : List Entry). log_of begun l) (sym (append-nil (entries_seen v))));
      drew = gave_none draws;
      times = [];
      read_times = gave_none clock;
      timed = none;
    })

-- ## What stays seen

stood_more : (begun : Begun) (entries more : List Entry) (id : ℕ) → HasStood begun entries id → HasStood begun (entries ++ more) id
stood_more begun entries more id (earlier, later, is, stands) =
    (earlier, later ++ more, ap (λ (l : List Entry). l ++ more) is ∙ append_assoc earlier later more, stands)

pub account_more : (begun : Begun) (entries more : List Entry) (account : Option ℕ) → HasAccount begun entries account → HasAccount begun (entries ++ more) account
account_more begun entries more None stood = tt
account_more begun entries more (Some id) stood = stood_more begun entries more id stood

-- what is seen after a call goes on from what was seen
pub account_grown : (begun : Begun) (v w : AccountsView) (account : Option ℕ) → Extends (log_of begun (entries_seen v)) (log_of begun (entries_seen w)) →
    HasAccount begun (entries_seen v) account → HasAccount begun (entries_seen w) account
account_grown begun v w account (others, is) stood =
    subst (λ (l : List Entry). HasAccount begun l account) (sym (ap (λ (log : Log). log.entries) is)) (account_more begun (entries_seen v) others account stood)

look_more : (begun : Begun) (entries more : List Entry) (who : Who) (look : Look) → OwnHasStood begun entries who look → OwnHasStood begun (entries ++ more) who look
look_more begun entries more (Login user) look stood = tt
look_more begun entries more (Account name) look stood = tt
look_more begun entries more (Own id) look (before, later, is, stood) =
    (before, later ++ more, ap (λ (l : List Entry). l ++ more) is ∙ append_assoc before (Observed (Own id) look ∷ later) more, stood)

paper_more : (begun : Begun) (entries more : List Entry) (p : fitting.Paper) → HasPaper begun entries p → HasPaper begun (entries ++ more) p
paper_more begun entries more fitting.Nothing has = tt
paper_more begun entries more (fitting.OnLook who look number) has =
    (Contains-append_left entries more (Observed who look) has.0, look_more begun entries more who look has.1)
paper_more begun entries more (fitting.Late who number) has = tt

pub paper_grown : (begun : Begun) (v w : AccountsView) (p : fitting.Paper) → Extends (log_of begun (entries_seen v)) (log_of begun (entries_seen w)) →
    HasPaper begun (entries_seen v) p → HasPaper begun (entries_seen w) p
paper_grown begun v w p (others, is) has =
    subst (λ (l : List Entry). HasPaper begun l p) (sym (ap (λ (log : Log). log.entries) is)) (paper_more begun (entries_seen v) others p has)

own_stood : (begun : Begun) (entries : List Entry) (account : Option ℕ) (id : ℕ) → account ≡ Some id → HasAccount begun entries account → HasStood begun entries id
own_stood begun entries account id is stood = subst (λ (o : Option ℕ). HasAccount begun entries o) is stood

-- a look at one's own account was added behind where it stood
pub own_looked : (begun : Begun) (v w : AccountsView) (log : Log) (who : Who) (look : Look) (account : Option ℕ) → Added begun v w log (Observed who look) → MayLook account who →
    HasAccount begun (entries_seen v) account → OwnHasStood begun (entries_seen w) who look
own_looked begun v w log (Login user) look account a may stood = tt
own_looked begun v w log (Account name) look account a may stood = tt
own_looked begun v w log (Own id) look account a may stood =
    let b = added_before begun v w log (Observed (Own id) look) a in
    (entries_seen v ++ b.others, [], b.seen_is, stood_more begun (entries_seen v) b.others id (own_stood begun (entries_seen v) account id may stood))

-- the account that an attempt opens stands before it
pub opened_stood : (begun : Begun) (v w : AccountsView) (log : Log) (entry : Entry) (id : ℕ) → Added begun v w log entry → IsSome (find (has_id id) (records (history log))) →
    HasStood begun (entries_seen w) id
opened_stood begun v w log entry id a stands =
    let b = added_before begun v w log entry a in
    (entries_seen v ++ b.others, entry ∷ [], b.seen_is, subst (λ (l : Log). IsSome (find (has_id id) (records (history l)))) b.before_is stands)
