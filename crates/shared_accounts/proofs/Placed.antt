-- Where a look came from, and what its place tells.
use Rattle.std.proofs.Common.{◌≡◌, ◌⊎◌, ⊎_elim, refl, ap, sym, ◌∙◌, ℕ, zero, suc, ◌+◌, ◌<◌, ◌≤◌, max, ◌==◌, List, [], ◌∷◌, ◌++◌, length, find, slice_index_or, Contains, Bool, true, false, if◌then◌else◌, Option, Some, None, IsSome, subst, arith, eqb-true}
use Rattle.std.proofs.lemmas.Bool.{cases_order}
use Rattle.factor_chain.specs.declared.credentials.Look.{Look}
use Rattle.account_rules.specs.declared.accounts.Account.{Account}
use Rattle.stmt_rules.specs.declared.statement.Statement.{Statement}
use Rattle.stmt_rules.specs.declared.statement.Statement.TheVariants.{Create, Alter, Drop, Flush, Grant, Revoke}
use Rattle.account_history.specs.Answers.{look_of}
use Rattle.account_history.specs.Effects.{altered, created, effect_of, granted, revoked}
use Rattle.account_history.specs.Given.{Given, given, given_after, greatest_given, is_done}
use Rattle.account_history.specs.Histories.{History, From, ◌▹◌, after_entries, moment}
use Rattle.account_history.specs.Legal.{IsAnswered, IsLegal}
use Rattle.account_history.specs.Naming.{has_id, is_named}
use Rattle.account_history.specs.Records.{records}
use Rattle.account_history.specs.Stamps.{stamp}
use Rattle.account_history.specs.Targets.{is_target}
use Rattle.account_history.specs.declared.entries.Entry.{Entry}
use Rattle.account_history.specs.declared.entries.Entry.TheVariants.{Observed, Attempted, Executed}
use Rattle.account_history.specs.declared.entries.Who.{Who}
use Rattle.account_history.specs.declared.entries.Who.TheVariants as who
use Rattle.account_history.proofs.Numbered.{given-more-in, gone-changed, gone-created, gone-without, passing, same-id}
use Rattle.account_history.proofs.OneMore.{stamp-more}
use Rattle.shared_accounts.specs.Beginnings.{history_of}
use Rattle.shared_accounts.specs.Calls.{Came, WasGiven}
use Rattle.shared_accounts.specs.Sharing.{HasLook, OwnHasStood}
use Rattle.shared_accounts.specs.Tickets.{TicketOf}
use Rattle.shared_accounts.specs.declared.desk.Begun.{Begun}

-- ## Entries one after another

pub after-append : (h : History) (xs ys : List Entry) → after_entries h (xs ++ ys) ≡ after_entries (after_entries h xs) ys
after-append h [] ys = refl
after-append h (x ∷ xs) ys = after-append (h ▹ x) xs ys

pub legal-front : (h : History) (xs : List Entry) → IsLegal (after_entries h xs) → IsLegal h
legal-front h [] l = l
legal-front h (x ∷ xs) l = (legal-front (h ▹ x) xs l).0

-- an entry of a legal history was answered by those before it
pub placed-answer : (h : History) (xs : List Entry) (e : Entry) (ys : List Entry) → IsLegal (after_entries h (xs ++ e ∷ ys)) → IsAnswered (after_entries h xs) e
placed-answer h xs e ys l = (legal-front (after_entries h xs ▹ e) ys (subst IsLegal (after-append h xs (e ∷ ys)) l)).1

-- an element stands between two parts of the list
pub split-at : {X : Type 0} (xs : List X) (x : X) → Contains xs x → (before after : List X) × (xs ≡ before ++ x ∷ after)
split-at xs x c = at x xs c.0 c.1 c.2 where
  at : {X : Type 0} (x : X) (xs : List X) (k : ℕ) → k < length xs → slice_index_or xs k x ≡ x → (before after : List X) × (xs ≡ before ++ x ∷ after)
  at x [] k l e = absurd (omega arith)
  at x (y ∷ xs) zero l e = ([], xs, ap (λ z. z ∷ xs) e)
  at x (y ∷ xs) (suc k) l e = let later = at x xs k (omega arith) e in (y ∷ later.0, later.1, ap (λ zs. y ∷ zs) later.2)

-- ## Stamps

pub stamp-later : (h : History) (entries : List Entry) (user : List ℕ) → stamp h user ≤ stamp (after_entries h entries) user
stamp-later h [] user = omega arith
stamp-later h (entry ∷ entries) user =
    let now = stamp-more h entry user in let later = stamp-later (h ▹ entry) entries user in omega arith

pub look-stamped : (h : History) (w : Who) → (look_of h w).stamp ≡ stamp h (look_of h w).user
look-stamped h (who.Login user) = refl
look-stamped h (who.Account name) = refl
look-stamped h (who.Own id) = refl

-- the history of all entries, by that of the earlier ones
pub front-history : (begun : Begun) (entries earlier later : List Entry) → entries ≡ earlier ++ later → history_of begun entries ≡ after_entries (history_of begun earlier) later
front-history begun entries earlier later e = ap (history_of begun) e ∙ after-append (From begun.log.start) earlier later

-- a stamp never falls
pub came-less : (begun : Begun) (entries : List Entry) (w : Who) (look : Look) → Came begun entries w look → look.stamp ≤ stamp (history_of begun entries) look.user
came-less begun entries w look c =
    let h = history_of begun c.earlier in
    let its : look.stamp ≡ stamp h look.user = ap (λ (l : Look). l.stamp) c.look_is ∙ (look-stamped h w ∙ ap (λ (l : Look). stamp h l.user) (sym c.look_is)) in
    let now : stamp (history_of begun entries) look.user ≡ stamp (after_entries h c.later) look.user = ap (λ k. stamp k look.user) (front-history begun entries c.earlier c.later c.front) in
    let more = stamp-later h c.later look.user in
    omega arith

-- ## Numbers

no-equal : (n id : ℕ) → n < id → (n == id) ≡ false
no-equal n id l = cases (n == id) refl where
  cases : (b : Bool) → (n == id) ≡ b → b ≡ false
  cases true e = absurd (omega (arith, eqb-true n id e))
  cases false e = refl

never-begun : (accounts : List Account) (id : ℕ) → (greatest_given accounts).account < id → find (has_id id) accounts ≡ None
never-begun [] id l = refl
never-begun (a ∷ accounts) id l = passing (has_id id) a accounts (no-equal a.id id (omega arith)) (never-begun accounts id (omega arith))

never-effect : (statement : Statement) (g : Given) (actor : ℕ) (salt : List ℕ) (now : ℕ) (accounts : List Account) (id : ℕ)
    → (given_after g statement).account < id → find (has_id id) accounts ≡ None → find (has_id id) (effect_of statement g actor salt now accounts) ≡ None
never-effect (Create name auth factors options) g actor salt now accounts id l e =
    gone-created (has_id id) (created g salt now name auth factors options) accounts (no-equal (g.account + 1) id l) e
never-effect (Alter target change options) g actor salt now accounts id l e =
    gone-changed (has_id id) (is_target actor target) (altered g salt now change options)
    (λ a. ap (λ n. n == id) (same-id change (g.credential + 1) salt now a)) accounts e
never-effect (Drop name) g actor salt now accounts id l e = gone-without (has_id id) (is_named name) accounts e
never-effect Flush g actor salt now accounts id l e = e
never-effect (Grant privileges name) g actor salt now accounts id l e = gone-changed (has_id id) (is_named name) (granted privileges) (λ a. refl) accounts e
never-effect (Revoke privileges name) g actor salt now accounts id l e = gone-changed (has_id id) (is_named name) (revoked privileges) (λ a. refl) accounts e

-- a number that wasn't given is no account's
never-given : (h : History) (id : ℕ) → (given h).account < id → find (has_id id) (records h) ≡ None
never-given (From start) id l = never-begun start.accounts id l
never-given (h ▹ Observed w look) id l = never-given h id l
never-given (h ▹ Attempted t) id l = never-given h id l
never-given (h ▹ Executed x) id l = cases (is_done x.reply) (never-given h id) l where
  cases : (b : Bool) → ((given h).account < id → find (has_id id) (records h) ≡ None) → (if b then given_after (given h) x.statement else given h).account < id
      → find (has_id id) (if b then effect_of x.statement (given h) x.actor x.salt (max x.reading (moment h)) (records h) else records h) ≡ None
  cases true before l =
      let more = given-more-in (given h) x.statement in
      never-effect x.statement (given h) x.actor x.salt _ (records h) id l (before (omega arith))
  cases false before l = before l

given-more : (h : History) (entry : Entry) → (given h).account ≤ (given (h ▹ entry)).account
given-more h (Observed w look) = omega arith
given-more h (Attempted t) = omega arith
given-more h (Executed x) = cases (is_done x.reply) (given-more-in (given h) x.statement) where
  cases : (b : Bool) → (given h).account ≤ (given_after (given h) x.statement).account
      → (given h).account ≤ (if b then given_after (given h) x.statement else given h).account
  cases true more = more
  cases false more = omega arith

given-later : (h : History) (entries : List Entry) → (given h).account ≤ (given (after_entries h entries)).account
given-later h [] = omega arith
given-later h (entry ∷ entries) = let now = given-more h entry in let later = given-later (h ▹ entry) entries in omega arith

stood-given : (h : History) (id : ℕ) → IsSome (find (has_id id) (records h)) → id ≤ (given h).account
stood-given h id s = not-less id (given h).account (λ l. nobody (find (has_id id) (records h)) (never-given h id l) s) where
  nobody : (found : Option Account) → found ≡ None → IsSome found → ⊥
  nobody None e s = let there : false ≡ true = s in absurd (cc)
  nobody (Some a) e s = absurd (cc)

  not-less : (n m : ℕ) → (m < n → ⊥) → n ≤ m
  not-less n m f = ⊎_elim (λ (e : n ≡ m). omega arith) (λ (r : (n < m) ⊎ (m < n)). ⊎_elim (λ (l : n < m). omega arith) (λ (l : m < n). absurd (f l)) r) (cases_order n m)

-- ## Looks of a legal history

came-at : (begun : Begun) (entries before after : List Entry) (w : Who) (look : Look) → entries ≡ before ++ Observed w look ∷ after
    → IsLegal (history_of begun entries) → WasGiven (history_of begun before) w → Came begun entries w look
came-at begun entries before after w look e legal own = record {
  earlier = before;
  later = Observed w look ∷ after;
  front = e;
  look_is = placed-answer (From begun.log.start) before (Observed w look) after (subst (λ (l : List Entry). IsLegal (history_of begun l)) e legal);
  own = own;
}

-- a look that stands in a legal history came from there
pub look-came : (begun : Begun) (entries : List Entry) (w : Who) (look : Look) → IsLegal (history_of begun entries) → HasLook entries w look
    → OwnHasStood begun entries w look → Came begun entries w look
look-came begun entries (who.Login user) look legal has own =
    let s = split-at entries (Observed (who.Login user) look) has in came-at begun entries s.0 s.1 (who.Login user) look s.2 legal tt
look-came begun entries (who.Account name) look legal has own =
    let s = split-at entries (Observed (who.Account name) look) has in came-at begun entries s.0 s.1 (who.Account name) look s.2 legal tt
look-came begun entries (who.Own id) look legal has own =
    let stood = own.3 in
    let there = stood-given (history_of begun stood.0) id stood.3 in
    let later = given-later (history_of begun stood.0) stood.1 in
    let same : (given (history_of begun own.0)).account ≡ (given (after_entries (history_of begun stood.0) stood.1)).account =
    ap (λ k. (given k).account) (front-history begun own.0 stood.0 stood.1 stood.2) in
    came-at begun entries own.0 own.1 (who.Own id) look own.2 legal (omega arith)

-- ## What a ticket gives the right to

-- an attempt whose evidence was checked on the ticket's look
pub login-came : (begun : Begun) (entries : List Entry) (ticket : TicketOf) (look : Look) (user : List ℕ) → look ≡ ticket.look → ticket.who ≡ who.Login user
    → IsLegal (history_of begun entries) → HasLook entries ticket.who ticket.look → Came begun entries (who.Login look.user) look
login-came begun entries ticket look user e login legal has =
    let c : Came begun entries (who.Login user) ticket.look =
    look-came begun entries (who.Login user) ticket.look legal (subst (λ w. HasLook entries w ticket.look) login has) tt in
    let its : ticket.look.user ≡ user = ap (λ (l : Look). l.user) c.look_is in
    subst (λ (l : Look). Came begun entries (who.Login l.user) l) (sym e) (subst (λ (u : List ℕ). Came begun entries (who.Login u) ticket.look) (sym its) c)

-- a statement that was prepared on it
pub statement-came : (begun : Begun) (entries : List Entry) (ticket : TicketOf) (look : Look) (w : Who) → look ≡ ticket.look → ticket.who ≡ w
    → IsLegal (history_of begun entries) → HasLook entries ticket.who ticket.look → OwnHasStood begun entries ticket.who ticket.look → Came begun entries w look
statement-came begun entries ticket look w e whose legal has stood =
    subst (λ (l : Look). Came begun entries w l) (sym e)
    (subst (λ (x : Who). Came begun entries x ticket.look) whose (look-came begun entries ticket.who ticket.look legal has stood))
