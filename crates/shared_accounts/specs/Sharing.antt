-- What the calls on shared accounts promise. All of it speaks of the history that a seat has seen: before the call, and after.
use Rattle.std.specs.Prelude.{◌≡◌, ℕ, ◌+◌, ◌<◌, false, List, [], ◌∷◌, ◌++◌, length, IfSome, IsSome, find, replicate}
use Rattle.std.specs.List.{Contains}
use Rattle.factor_chain.specs.CheckedOf.{CheckedOf}
use Rattle.factor_chain.specs.declared.credentials.Look.{Look}
use Rattle.factor_chain.specs.declared.evidence_list.Evidence.{Evidence}
use Rattle.stmt_rules.specs.declared.statement.Statement.{Statement}
use Rattle.account_history.specs.Answers.{attempt_reply, look_of}
use Rattle.account_history.specs.Histories.{history, noted}
use Rattle.account_history.specs.Legal.{IsAnswered, IsLegal}
use Rattle.account_history.specs.Preparing.{PreparedOf}
use Rattle.account_history.specs.Records.{has_id, records}
use Rattle.account_history.specs.Stamps.{stamp}
use Rattle.account_history.specs.declared.entries.Entry.{Entry}
use Rattle.account_history.specs.declared.entries.Entry.TheVariants.{Observed}
use Rattle.account_history.specs.declared.entries.Log.{Log}
use Rattle.account_history.specs.declared.entries.Reply.{Reply}
use Rattle.account_history.specs.declared.entries.StmtReply.{StmtReply}
use Rattle.account_history.specs.declared.entries.Who.{Who}
use Rattle.account_history.specs.declared.entries.Who.TheVariants.{Login, Account, Own}
use Rattle.account_machine.specs.Labels.{ShowsFewLabels}
use Rattle.turn_book.specs.declared.object.TurnFault.{TurnFault}
use Rattle.turn_book.specs.declared.object.TurnFault.TheVariants as fault
use Rattle.turn_book.specs.declared.seat.Seat as BookSeat
use Rattle.turn_book.specs.declared.view.View.{View}
use Rattle.turn_book.specs.Views.{entries_seen, mine, number_of, signed}
use Rattle.turn_book.specs.Book.{Ended, IsOf, began, view}
use Rattle.shared_accounts.specs.Beginnings.{log_of}
use Rattle.shared_accounts.specs.Calls.{attempt_of, run_of}
use Rattle.shared_accounts.specs.Desks.{desk_start}
use Rattle.shared_accounts.specs.Tickets.{LateOf, TicketOf}
use Rattle.shared_accounts.specs.declared.desk.Begun.{Begun}
use Rattle.shared_accounts.specs.declared.desk.Desk.{Desk}
use Rattle.shared_accounts.specs.declared.shared.Committed.{Committed}
use Rattle.shared_accounts.specs.declared.shared.Committed.TheVariants as committed
use Rattle.shared_accounts.specs.declared.shared.Settled.{Settled}
use Rattle.shared_accounts.specs.declared.shared.Settled.TheVariants as settled
use Rattle.shared_accounts.specs.declared.shared.SharedAccounts.{SharedAccounts}

-- ## Seats

-- what a seat of the accounts stands for
abbrev pub AccountsView : Type 0
AccountsView = View Begun Entry

module _ {K : Type 0} {G H : _} where
  -- the history that the seat has seen
  abbrev pub seen : SharedAccounts K G → BookSeat.Seat (Desk K G) Begun Entry H → Log
  seen shared seat = log_of (began desk_start shared.book) (entries_seen (view seat))

  -- the seat is one of this book's, from `new` or `split`, no other seat took it in, and what it has seen is legal
  abbrev pub Sits : SharedAccounts K G → BookSeat.Seat (Desk K G) Begun Entry H → Type 0
  Sits shared seat = IsOf desk_start shared.book seat × IsLegal (history (seen shared seat))

-- the later history goes on from the earlier one
abbrev pub Extends : Log → Log → Type 0
Extends earlier later = (others : List Entry) × (later ≡ record { start = earlier.start; entries = earlier.entries ++ others })

-- the look at this account is one of the entries
abbrev pub HasLook : List Entry → Who → Look → Type 0
HasLook entries who look = Contains entries (Observed who look)

-- an account with this number stood after a beginning of the entries
abbrev pub HasStood : Begun → List Entry → ℕ → Type 0
HasStood begun entries id =
    (earlier later : List Entry) × (entries ≡ earlier ++ later) × IsSome (find (has_id id) (records (history (log_of begun earlier))))

-- where the look is one at one's own account, that account stood there, or before
abbrev pub OwnHasStood : Begun → List Entry → Who → Look → Type 0
OwnHasStood begun entries (Login user) look = Unit {0}
OwnHasStood begun entries (Account name) look = Unit {0}
OwnHasStood begun entries (Own id) look =
    (before later : List Entry) × (entries ≡ before ++ Observed (Own id) look ∷ later) × HasStood begun before id

-- ## What a call changes

module _ (begun : Begun) (v w : AccountsView) where
  -- it was one of the book's turns
  pub record OneTurn : Type 0 where
    pub drawn : w.drawn ≡ v.drawn + 1
    pub ended : w.ended ≡ v.ended
    pub open_book : v.ended ≡ false

  -- the seat saw the others' entries, and then added this one
  pub record Added (before : Log) (entry : Entry) : Type 0 where
    pub grown : Extends (log_of begun (entries_seen v)) before
    pub seen_is : log_of begun (entries_seen w) ≡ noted before entry
    pub mine_is : mine w ≡ mine v ++ (length before.entries, signed (number_of v.carried) entry) ∷ []
    pub turn : OneTurn

  -- the seat saw the others' entries, and added none
  pub record NothingAdded : Type 0 where
    pub grown : Extends (log_of begun (entries_seen v)) (log_of begun (entries_seen w))
    pub mine_is : mine w ≡ mine v
    pub turn : OneTurn

  -- ## Looks

  pub record Looked (who : Who) (look : Look) : Type 0 where
    pub before : Log
    pub added : Added before (Observed who look)
    pub look_is : look ≡ look_of (history before) who
    pub few_labels : IfSome look.in_force ShowsFewLabels

  abbrev pub FailedLook : TurnFault → Type 0
  FailedLook fault.Memory = NothingAdded
  FailedLook fault.BookEnd = Ended v w

  -- ## Attempts and statements

  pub record Attempts (user : List ℕ) (evidences : List Evidence) (flags reading : ℕ) (reply : Reply) : Type 0 where
    pub before : Log
    pub added : Added before (attempt_of user evidences flags reading reply)
    pub reply_is : reply ≡ attempt_reply (history before) user evidences flags reading

  -- the keeper failed only where its count rose, as the legal entry tells
  pub record Runs (statement : Statement) (salt : List ℕ) (actor reading : ℕ) (reply : StmtReply) : Type 0 where
    pub before : Log
    pub count : ℕ
    pub added : Added before (run_of (history before) statement salt actor reading (record { reply = reply; count = count }))
    pub answered : IsAnswered (history before) (run_of (history before) statement salt actor reading (record { reply = reply; count = count }))

  -- the user's stamp is greater in the history that the seat has now seen
  pub record WasLate (ticket : TicketOf) (late : LateOf) : Type 0 where
    pub nothing : NothingAdded
    pub who_is : late.who ≡ ticket.who
    pub stamp_is : late.stamp ≡ stamp (history (log_of begun (entries_seen w))) ticket.look.user
    pub greater : ticket.look.stamp < late.stamp
    pub number_is : late.number ≡ ticket.number + 1

  -- ## Answers

  abbrev pub IsSettled : TicketOf → CheckedOf → (flags reading : ℕ) → Settled → Type 0
  IsSettled ticket checked flags reading (settled.Done reply) =
      (a : Attempts checked.look.user checked.evidences flags reading reply) × (stamp (history a.before) checked.look.user ≡ ticket.look.stamp)
  IsSettled ticket checked flags reading (settled.Stale late evidences) = WasLate ticket late × (evidences ≡ checked.evidences)
  IsSettled ticket checked flags reading settled.BookEnd = Ended v w

  abbrev pub IsSettledLocked : (user : List ℕ) → List Evidence → (flags reading : ℕ) → Settled → Type 0
  IsSettledLocked user evidences flags reading (settled.Done reply) = Attempts user evidences flags reading reply
  IsSettledLocked user evidences flags reading (settled.Stale late back) = ⊥
  IsSettledLocked user evidences flags reading settled.BookEnd = Ended v w

  abbrev pub IsCommitted : TicketOf → PreparedOf → (actor reading : ℕ) → Committed → Type 0
  IsCommitted ticket prepared actor reading (committed.Done reply) =
      (r : Runs prepared.statement prepared.salt actor reading reply) × (stamp (history r.before) prepared.look.user ≡ ticket.look.stamp)
  IsCommitted ticket prepared actor reading (committed.Stale late statement) = WasLate ticket late × (statement ≡ prepared.statement)
  IsCommitted ticket prepared actor reading committed.Memory = NothingAdded
  IsCommitted ticket prepared actor reading committed.BookEnd = Ended v w

  abbrev pub IsCommittedLocked : Statement → (salt : List ℕ) → (actor reading : ℕ) → Committed → Type 0
  IsCommittedLocked statement salt actor reading (committed.Done reply) = Runs statement salt actor reading reply
  IsCommittedLocked statement salt actor reading (committed.Stale late back) = ⊥
  IsCommittedLocked statement salt actor reading committed.Memory = NothingAdded
  IsCommittedLocked statement salt actor reading committed.BookEnd = Ended v w

-- what a statement without a password takes as its salt, and doesn't use
abbrev pub no_salt : List ℕ
no_salt = replicate 20 46
