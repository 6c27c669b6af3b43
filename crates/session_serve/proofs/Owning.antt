-- What each call answers to a session's ask.
use Rattle.std.proofs.Common.{◌≡◌, refl, sym, ap, ◌∙◌, subst, ℕ, ◌+◌, ◌-◌, ◌≤◌, Bool, true, List, [], ◌∷◌, Option, Some, None, arith}
use Rattle.account_history.specs.Answers.{attempt_reply}
use Rattle.account_history.specs.Histories.{history}
use Rattle.account_history.specs.Preparing.{PreparedOf}
use Rattle.account_history.specs.Records.{records}
use Rattle.account_history.specs.declared.entries.Entry.{Entry}
use Rattle.account_history.specs.declared.entries.Entry.TheVariants.{Attempted, Observed}
use Rattle.account_history.specs.declared.entries.Reply.{Reply}
use Rattle.account_history.specs.declared.entries.StmtReply.{StmtReply}
use Rattle.account_history.specs.declared.entries.Who.{Who}
use Rattle.factor_chain.specs.CheckedOf.{CheckedOf}
use Rattle.factor_chain.specs.declared.credentials.Look.{Look}
use Rattle.factor_chain.specs.declared.evidence_list.Evidence.{Evidence}
use Rattle.stmt_rules.specs.declared.statement.Statement.{Statement}
use Rattle.sha256_crypt.specs.Alphabet.{IsSaltByte}
use Rattle.std.specs.List.{All}
use Rattle.serve_talk.specs.Fitting as fitting
use Rattle.serve_talk.specs.Fitting.{MayAsk, MayLook, held_after, is_call, opened_by}
use Rattle.serve_talk.specs.Sides.{Side, none}
use Rattle.serve_talk.specs.declared.endings.Ending.TheVariants.{Told, BookEnd}
use Rattle.serve_talk.proofs.Grown.{gave_none, grew_none}
use Rattle.server_outside.specs.Telling.{Gave}
use Rattle.session_talk.specs.declared.actions.Ask.{Ask}
use Rattle.session_talk.specs.declared.actions.Ask.TheVariants as ask
use Rattle.session_talk.specs.declared.ends.SessionEnd.TheVariants as end
use Rattle.session_talk.specs.declared.inputs.Input.TheVariants as input
use Rattle.session_serve.specs.Answering.{Answered, Fell, once}
use Rattle.session_serve.specs.Holding.{HasAccount, HasPaper, Keeps, held_of, paper_of}
use Rattle.session_serve.specs.Siding.{side_of}
use Rattle.session_serve.specs.declared.holding.Held.{Held}
use Rattle.session_serve.specs.declared.holding.Paper.{Paper}
use Rattle.session_serve.specs.declared.holding.Paper.TheVariants as paper
use Rattle.shared_accounts.specs.Calls.{run_of}
use Rattle.session_talk.specs.Statements.{no_salt}
use Rattle.shared_accounts.specs.Sharing.{AccountsView, Attempts, HasLook, Looked, NothingAdded, OwnHasStood, Runs, WasLate}
use Rattle.shared_accounts.specs.Tickets.{LateOf, TicketOf}
use Rattle.shared_accounts.specs.declared.desk.Begun.{Begun}
use Rattle.turn_book.specs.Book.{Ended}
use Rattle.turn_book.specs.Views.{entries_seen}
use Rattle.session_serve.proofs.Adding.{account_grown, gave_one, grew_ended, grew_ended_unread, grew_entry, grew_look, grew_nothing, grew_unread, grown_also, opened_stood, own_looked, paper_grown}
use Rattle.session_serve.proofs.Facts.{IsOpening, attempt_opens, few_labels, salt_is_nonce}

-- ## Papers

-- a paper that stands for the ticket of a look is that ticket
pub record IsTicket (ticket : TicketOf) (who : Who) (look : Look) (number : ℕ) : Type 0 where
  pub who_is : ticket.who ≡ who
  pub look_is : ticket.look ≡ look
  pub number_is : ticket.number ≡ number

look_who : {a b : Who} {l m : Look} {n k : ℕ} → fitting.OnLook a l n ≡ fitting.OnLook b m k → a ≡ b
look_who e = cc

look_look : {a b : Who} {l m : Look} {n k : ℕ} → fitting.OnLook a l n ≡ fitting.OnLook b m k → l ≡ m
look_look e = cc

look_number : {a b : Who} {l m : Look} {n k : ℕ} → fitting.OnLook a l n ≡ fitting.OnLook b m k → n ≡ k
look_number e = cc

pub ticket_is : (p : Paper) (ticket : TicketOf) (who : Who) (look : Look) (number : ℕ) → p ≡ paper.OnLook ticket → paper_of p ≡ fitting.OnLook who look number → IsTicket ticket who look number
ticket_is p ticket who look number is on =
    let same : fitting.OnLook ticket.who ticket.look ticket.number ≡ fitting.OnLook who look number = sym (ap (λ (q : Paper). paper_of q) is) ∙ on in
    record { who_is = look_who same; look_is = look_look same; number_is = look_number same }

pub record IsLate (late : LateOf) (who : Who) (number : ℕ) : Type 0 where
  pub who_is : late.who ≡ who
  pub number_is : late.number ≡ number

late_who : {a b : Who} {n k : ℕ} → fitting.Late a n ≡ fitting.Late b k → a ≡ b
late_who e = cc

late_number : {a b : Who} {n k : ℕ} → fitting.Late a n ≡ fitting.Late b k → n ≡ k
late_number e = cc

pub late_is : (p : Paper) (late : LateOf) (who : Who) (number : ℕ) → p ≡ paper.Late late → paper_of p ≡ fitting.Late who number → IsLate late who number
late_is p late who number is on =
    let same : fitting.Late late.who late.number ≡ fitting.Late who number = sym (ap (λ (q : Paper). paper_of q) is) ∙ on in
    record { who_is = late_who same; number_is = late_number same }

-- a ticket's look was seen
pub ticket_seen : (begun : Begun) (entries : List Entry) (h : Held) (ticket : TicketOf) → h.paper ≡ paper.OnLook ticket → Keeps begun entries (held_of h) →
    HasLook entries ticket.who ticket.look × OwnHasStood begun entries ticket.who ticket.look
ticket_seen begun entries h ticket is keeps = subst (λ (p : Paper). HasPaper begun entries (paper_of p)) is keeps.0

-- ## Asks that aren't calls

pub checked_answered : (begun : Begun) (x : Side) (h : Held) (look : Look) (evidences : List Evidence) (checked : CheckedOf) →
    checked ≡ record { look = look; evidences = evidences } → Keeps begun x.seen.entries (held_of h) → Answered begun (ask.Check look evidences) h x (input.Checked checked) h x
checked_answered begun x h look evidences checked is keeps = record {
  answers = (refl, is);
  added = [];
  adds = refl;
  grew = grew_none x;
  spent = omega arith;
  held_is = refl;
  calls_is = omega arith;
  packets_is = refl;
  keeps = keeps;
}

pub prepared_answered : (begun : Begun) (x : Side) (h : Held) (look : Look) (statement : Statement) (salt : List ℕ) (actor : ℕ) (prepared : PreparedOf) →
    prepared ≡ record { look = look; statement = statement; salt = salt; actor = actor } → Keeps begun x.seen.entries (held_of h) →
    Answered begun (ask.Prepare look statement salt actor) h x (input.Prepared prepared) h x
prepared_answered begun x h look statement salt actor prepared is keeps = record {
  answers = (refl, is);
  added = [];
  adds = refl;
  grew = grew_none x;
  spent = omega arith;
  held_is = refl;
  calls_is = omega arith;
  packets_is = refl;
  keeps = keeps;
}

pub drawn_answered : (begun : Begun) (v : AccountsView) (h : Held) (before after : Option (List (List ℕ))) (clock : Option (List ℕ)) (nonce : List ℕ) → All IsSaltByte nonce →
    Gave before after nonce → Keeps begun (entries_seen v) (held_of h) →
    Answered begun ask.Draw h (side_of begun v before clock) (input.Drawn nonce) h (side_of begun v after clock)
drawn_answered begun v h before after clock nonce letters gave keeps = record {
  answers = (salt_is_nonce nonce letters, tt);
  added = [];
  adds = refl;
  grew = record {
    mine = (grew_none (side_of begun v before clock)).mine;
    grown = (grew_none (side_of begun v before clock)).grown;
    drew = gave_one before after nonce gave;
    times = [];
    read_times = gave_none clock;
    timed = none;
  };
  spent = omega arith;
  held_is = refl;
  calls_is = omega arith;
  packets_is = refl;
  keeps = keeps;
}

-- ## Calls

spent_once : (asked_for : Ask) (before after : ℕ) → is_call asked_for ≡ true → after ≤ before + 1 → after ≤ before + once (is_call asked_for)
spent_once asked_for before after call less = subst (λ (b : Bool). after ≤ before + once b) (sym call) less

-- what a session holds after a call
pub record Holds (h later : Held) (p : Paper) (account : Option ℕ) : Type 0 where
  pub paper_is : later.paper ≡ p
  pub account_is : later.account ≡ account
  pub packets_is : later.packets ≡ h.packets
  pub calls_is : later.calls ≡ h.calls - 1

abbrev pub held_by : Paper → Option ℕ → fitting.Held
held_by p account = record { paper = paper_of p; account = account }

-- a call was made that needs nothing
pub holds_called : (h m : Held) → m ≡ record h { calls = h.calls - 1 } → Holds h m h.paper h.account
holds_called h m is = record {
  paper_is = ap (λ (x : Held). x.paper) is;
  account_is = ap (λ (x : Held). x.account) is;
  packets_is = ap (λ (x : Held). x.packets) is;
  calls_is = ap (λ (x : Held). x.calls) is;
}

-- or one for which the paper was taken
pub holds_taken : (h m : Held) → m ≡ record h { paper = paper.Nothing; calls = h.calls - 1 } → Holds h m paper.Nothing h.account
holds_taken h m is = record {
  paper_is = ap (λ (x : Held). x.paper) is;
  account_is = ap (λ (x : Held). x.account) is;
  packets_is = ap (λ (x : Held). x.packets) is;
  calls_is = ap (λ (x : Held). x.calls) is;
}

-- then a paper is given
pub holds_paper : (h m later : Held) (old p : Paper) → Holds h m old h.account → later ≡ record m { paper = p } → Holds h later p h.account
holds_paper h m later old p holds is = record {
  paper_is = ap (λ (x : Held). x.paper) is;
  account_is = ap (λ (x : Held). x.account) is ∙ holds.account_is;
  packets_is = ap (λ (x : Held). x.packets) is ∙ holds.packets_is;
  calls_is = ap (λ (x : Held). x.calls) is ∙ holds.calls_is;
}

-- or the account is known
pub holds_account : (h m later : Held) (p : Paper) (account : Option ℕ) → Holds h m p h.account → later ≡ record m { account = account } → Holds h later p account
holds_account h m later p account holds is = record {
  paper_is = ap (λ (x : Held). x.paper) is ∙ holds.paper_is;
  account_is = ap (λ (x : Held). x.account) is;
  packets_is = ap (λ (x : Held). x.packets) is ∙ holds.packets_is;
  calls_is = ap (λ (x : Held). x.calls) is ∙ holds.calls_is;
}

abbrev held_late : Who → ℕ → Option ℕ → fitting.Held
held_late who number account = record { paper = fitting.Late who number; account = account }

pub holds_is : (h later : Held) (p : Paper) (account : Option ℕ) → Holds h later p account → held_of later ≡ held_by p account
holds_is h later p account holds =
    ap (λ (q : Paper). held_by q later.account) holds.paper_is ∙ ap (λ (a : Option ℕ). held_by p a) holds.account_is

module _ (begun : Begun) (v w : AccountsView) (h later : Held) (draws : Option (List (List ℕ))) where
  -- looks
  ticket_held : (who : Who) (look : Look) (number : ℕ) (ticket : TicketOf) → ticket ≡ record { who = who; look = look; number = number } →
      Holds h later (paper.OnLook ticket) h.account → held_of later ≡ record { paper = fitting.OnLook who look number; account = h.account }
  ticket_held who look number ticket is holds =
      holds_is h later (paper.OnLook ticket) h.account holds
      ∙ ap (λ (t : TicketOf). let x : fitting.Held = record { paper = fitting.OnLook t.who t.look t.number; account = h.account } in x) is

  look_keeps : (who : Who) (look : Look) (number : ℕ) → Looked begun v w who look → HasLook (entries_seen w) who look →
      MayLook h.account who → Keeps begun (entries_seen v) (held_of h) → held_of later ≡ record { paper = fitting.OnLook who look number; account = h.account } →
      Keeps begun (entries_seen w) (held_of later)
  look_keeps who look number l here may keeps is =
      subst (λ (x : fitting.Held). Keeps begun (entries_seen w) x) (sym is) (
        (here, own_looked begun v w l.before who look h.account l.added may keeps.1),
        account_grown begun v w h.account (grown_also begun v w l.before (Observed who look) l.added) keeps.1,
      )

  pub observed_answered : (clock : Option (List ℕ)) (who : Who) (look : Look) (ticket : TicketOf) → Looked begun v w who look → HasLook (entries_seen w) who look →
      ticket ≡ record { who = who; look = look; number = 0 } → Holds h later (paper.OnLook ticket) h.account → MayLook h.account who → Keeps begun (entries_seen v) (held_of h) →
      Answered begun (ask.Observe who) h (side_of begun v draws clock) (input.Looked look) later (side_of begun w draws clock)
  observed_answered clock who look ticket l here is holds may keeps =
      let held = ticket_held who look 0 ticket is holds in
      record {
        answers = (few_labels look.in_force l.few_labels, tt);
        added = Observed who look ∷ [];
        adds = refl;
        grew = grew_look begun v w draws clock clock l.before who look l.added refl;
        spent = omega (arith, l.added.turn.drawn);
        held_is = held;
        calls_is = holds.calls_is;
        packets_is = holds.packets_is;
        keeps = look_keeps who look 0 l here may keeps held;
      }

  pub renewed_answered : (clock : Option (List ℕ)) (who : Who) (look : Look) (ticket : TicketOf) → Looked begun v w who look → HasLook (entries_seen w) who look →
      ticket ≡ record { who = who; look = look; number = 1 } → Holds h later (paper.OnLook ticket) h.account → MayLook h.account who → Keeps begun (entries_seen v) (held_of h) →
      Answered begun (ask.Renew who) h (side_of begun v draws clock) (input.Looked look) later (side_of begun w draws clock)
  renewed_answered clock who look ticket l here is holds may keeps =
      let held = ticket_held who look 1 ticket is holds in
      record {
        answers = (few_labels look.in_force l.few_labels, tt);
        added = Observed who look ∷ [];
        adds = refl;
        grew = grew_look begun v w draws clock clock l.before who look l.added refl;
        spent = omega (arith, l.added.turn.drawn);
        held_is = held;
        calls_is = holds.calls_is;
        packets_is = holds.packets_is;
        keeps = look_keeps who look 1 l here may keeps held;
      }

  module _ (before after : Option (List ℕ)) (reading : ℕ) (gave : Gave before after reading) where
    -- attempts
    opened_keeps : (user : List ℕ) (evidences : List Evidence) (flags : ℕ) (reply : Reply) → Attempts begun v w user evidences flags reading reply →
        HasAccount begun (entries_seen w) (opened_by reply)
    opened_keeps user evidences flags reply a =
        subst (λ (r : Reply). HasAccount begun (entries_seen w) (opened_by r)) (sym a.reply_is)
        (by_opened (opened_by (attempt_reply (history a.before) user evidences flags reading)) (attempt_opens (history a.before) user evidences flags reading))
      where
        by_opened : (account : Option ℕ) → IsOpening account (records (history a.before)) → HasAccount begun (entries_seen w) account
        by_opened None stands = tt
        by_opened (Some id) stands = opened_stood begun v w a.before _ id a.added stands

    settled_keeps : (user : List ℕ) (evidences : List Evidence) (flags : ℕ) (reply : Reply) → Attempts begun v w user evidences flags reading reply →
        held_of later ≡ record { paper = fitting.Nothing; account = opened_by reply } → Keeps begun (entries_seen w) (held_of later)
    settled_keeps user evidences flags reply a is =
        subst (λ (x : fitting.Held). Keeps begun (entries_seen w) x) (sym is) (tt, opened_keeps user evidences flags reply a)

    pub settled_answered : (checked : CheckedOf) (flags : ℕ) (reply : Reply) → Attempts begun v w checked.look.user checked.evidences flags reading reply →
        Holds h later paper.Nothing (opened_by reply) →
        Answered begun (ask.Settle checked flags) h (side_of begun v draws before) (input.Settled reply) later (side_of begun w draws after)
    settled_answered checked flags reply a holds =
        let held = holds_is h later paper.Nothing (opened_by reply) holds in
        record {
          answers = (refl, tt);
          added = Attempted (record { user = checked.look.user; evidences = checked.evidences; flags = flags; reading = reading; reply = reply }) ∷ [];
          adds = (reading, refl);
          grew = grew_entry begun v w draws before after a.before _ reading a.added refl gave;
          spent = omega (arith, a.added.turn.drawn);
          held_is = held;
          calls_is = holds.calls_is;
          packets_is = holds.packets_is;
          keeps = settled_keeps checked.look.user checked.evidences flags reply a held;
        }

    pub locked_answered : (user : List ℕ) (evidences : List Evidence) (flags : ℕ) (reply : Reply) → Attempts begun v w user evidences flags reading reply →
        Holds h later paper.Nothing (opened_by reply) →
        Answered begun (ask.SettleLocked user evidences flags) h (side_of begun v draws before) (input.Settled reply) later (side_of begun w draws after)
    locked_answered user evidences flags reply a holds =
        let held = holds_is h later paper.Nothing (opened_by reply) holds in
        record {
          answers = (refl, tt);
          added = Attempted (record { user = user; evidences = evidences; flags = flags; reading = reading; reply = reply }) ∷ [];
          adds = (reading, refl);
          grew = grew_entry begun v w draws before after a.before _ reading a.added refl gave;
          spent = omega (arith, a.added.turn.drawn);
          held_is = held;
          calls_is = holds.calls_is;
          packets_is = holds.packets_is;
          keeps = settled_keeps user evidences flags reply a held;
        }

    -- a stale answer
    late_held : (ticket : TicketOf) (late : LateOf) → h.paper ≡ paper.OnLook ticket → WasLate begun v w ticket late → Holds h later (paper.Late late) h.account →
        held_of later ≡ record (held_of h) { paper = fitting.late_of (paper_of h.paper) }
    late_held ticket late is late_was holds =
        holds_is h later (paper.Late late) h.account holds
        ∙ (ap (λ (who : Who). held_late who late.number h.account) late_was.who_is ∙ (ap (λ (n : ℕ). held_late ticket.who n h.account) late_was.number_is
        ∙ ap (λ (p : Paper). let x : fitting.Held = record { paper = fitting.late_of (paper_of p); account = h.account } in x) (sym is)))

    late_keeps : (ticket : TicketOf) (late : LateOf) → WasLate begun v w ticket late → Holds h later (paper.Late late) h.account → Keeps begun (entries_seen v) (held_of h) →
        Keeps begun (entries_seen w) (held_of later)
    late_keeps ticket late late_was holds keeps =
        subst (λ (x : fitting.Held). Keeps begun (entries_seen w) x) (sym (holds_is h later (paper.Late late) h.account holds))
        (tt, account_grown begun v w h.account late_was.nothing.grown keeps.1)

    pub stale_answered : (checked : CheckedOf) (flags : ℕ) (ticket : TicketOf) (late : LateOf) (evidences : List Evidence) → h.paper ≡ paper.OnLook ticket →
        WasLate begun v w ticket late → evidences ≡ checked.evidences → Holds h later (paper.Late late) h.account → Keeps begun (entries_seen v) (held_of h) →
        Answered begun (ask.Settle checked flags) h (side_of begun v draws before) (input.Stale evidences) later (side_of begun w draws after)
    stale_answered checked flags ticket late evidences is late_was same holds keeps = record {
      answers = (refl, same);
      added = [];
      adds = refl;
      grew = grew_nothing begun v w draws before after reading late_was.nothing gave;
      spent = omega (arith, late_was.nothing.turn.drawn);
      held_is = late_held ticket late is late_was holds;
      calls_is = holds.calls_is;
      packets_is = holds.packets_is;
      keeps = late_keeps ticket late late_was holds keeps;
    }

    pub stale_statement_answered : (prepared : PreparedOf) (actor : ℕ) (ticket : TicketOf) (late : LateOf) (statement : Statement) → h.paper ≡ paper.OnLook ticket →
        WasLate begun v w ticket late → statement ≡ prepared.statement → Holds h later (paper.Late late) h.account → Keeps begun (entries_seen v) (held_of h) →
        Answered begun (ask.Commit prepared actor) h (side_of begun v draws before) (input.StaleStatement statement) later (side_of begun w draws after)
    stale_statement_answered prepared actor ticket late statement is late_was same holds keeps = record {
      answers = (refl, same);
      added = [];
      adds = refl;
      grew = grew_nothing begun v w draws before after reading late_was.nothing gave;
      spent = omega (arith, late_was.nothing.turn.drawn);
      held_is = late_held ticket late is late_was holds;
      calls_is = holds.calls_is;
      packets_is = holds.packets_is;
      keeps = late_keeps ticket late late_was holds keeps;
    }

    -- statements
    ran_keeps : (statement : Statement) (salt : List ℕ) (actor : ℕ) (reply : StmtReply) → Runs begun v w statement salt actor reading reply →
        (p : Paper) → HasPaper begun (entries_seen w) (paper_of p) → Holds h later p h.account → Keeps begun (entries_seen v) (held_of h) → Keeps begun (entries_seen w) (held_of later)
    ran_keeps statement salt actor reply r p has holds keeps =
        subst (λ (x : fitting.Held). Keeps begun (entries_seen w) x) (sym (holds_is h later p h.account holds))
        (has, account_grown begun v w h.account (grown_also begun v w r.before _ r.added) keeps.1)

    pub committed_answered : (prepared : PreparedOf) (actor : ℕ) (reply : StmtReply) → Runs begun v w prepared.statement prepared.salt actor reading reply →
        Holds h later paper.Nothing h.account → Keeps begun (entries_seen v) (held_of h) →
        Answered begun (ask.Commit prepared actor) h (side_of begun v draws before) (input.Ran reply) later (side_of begun w draws after)
    committed_answered prepared actor reply r holds keeps = record {
      answers = (refl, tt);
      added = run_of (history r.before) prepared.statement prepared.salt actor reading (record { reply = reply; count = r.count }) ∷ [];
      adds = (reading, r.count, _, _, refl);
      grew = grew_entry begun v w draws before after r.before _ reading r.added refl gave;
      spent = omega (arith, r.added.turn.drawn);
      held_is = holds_is h later paper.Nothing h.account holds;
      calls_is = holds.calls_is;
      packets_is = holds.packets_is;
      keeps = ran_keeps prepared.statement prepared.salt actor reply r paper.Nothing tt holds keeps;
    }

    pub committed_locked_answered : (statement : Statement) (salt : List ℕ) (actor : ℕ) (reply : StmtReply) → Runs begun v w statement salt actor reading reply →
        Holds h later paper.Nothing h.account → Keeps begun (entries_seen v) (held_of h) →
        Answered begun (ask.CommitLocked statement salt actor) h (side_of begun v draws before) (input.Ran reply) later (side_of begun w draws after)
    committed_locked_answered statement salt actor reply r holds keeps = record {
      answers = (refl, tt);
      added = run_of (history r.before) statement salt actor reading (record { reply = reply; count = r.count }) ∷ [];
      adds = (reading, r.count, _, _, refl);
      grew = grew_entry begun v w draws before after r.before _ reading r.added refl gave;
      spent = omega (arith, r.added.turn.drawn);
      held_is = holds_is h later paper.Nothing h.account holds;
      calls_is = holds.calls_is;
      packets_is = holds.packets_is;
      keeps = ran_keeps statement salt actor reply r paper.Nothing tt holds keeps;
    }

    -- a plain statement leaves the paper, whose look stays seen
    pub committed_plain_answered : (statement : Statement) (actor : ℕ) (reply : StmtReply) → Runs begun v w statement no_salt actor reading reply →
        Holds h later h.paper h.account → Keeps begun (entries_seen v) (held_of h) →
        Answered begun (ask.CommitPlain statement actor) h (side_of begun v draws before) (input.Ran reply) later (side_of begun w draws after)
    committed_plain_answered statement actor reply r holds keeps = record {
      answers = (refl, tt);
      added = run_of (history r.before) statement no_salt actor reading (record { reply = reply; count = r.count }) ∷ [];
      adds = (reading, r.count, _, _, refl);
      grew = grew_entry begun v w draws before after r.before _ reading r.added refl gave;
      spent = omega (arith, r.added.turn.drawn);
      held_is = holds_is h later h.paper h.account holds;
      calls_is = holds.calls_is;
      packets_is = holds.packets_is;
      keeps = ran_keeps statement no_salt actor reply r h.paper
          (paper_grown begun v w (paper_of h.paper) (grown_also begun v w r.before _ r.added) keeps.0) holds keeps;
    }

    -- ## Calls that fail

    pub memory_fell : (asked_for : Ask) → is_call asked_for ≡ true → NothingAdded begun v w →
        Fell asked_for (side_of begun v draws before) (side_of begun w draws after) (Told end.Memory)
    memory_fell asked_for call n = record {
      grew = grew_nothing begun v w draws before after reading n gave;
      spent = spent_once asked_for v.drawn w.drawn call (omega (arith, n.turn.drawn));
      fall = tt;
    }

    pub end_fell : (asked_for : Ask) → is_call asked_for ≡ true → Ended v w → Fell asked_for (side_of begun v draws before) (side_of begun w draws after) BookEnd
    end_fell asked_for call ended = record {
      grew = grew_ended begun v w draws before after reading ended gave;
      spent = omega (arith, ap (λ (u : AccountsView). u.drawn) ended);
      fall = (ap (λ (u : AccountsView). u.ended) ended, call);
    }

  pub memory_fell_unread : (clock : Option (List ℕ)) (asked_for : Ask) → is_call asked_for ≡ true → NothingAdded begun v w →
      Fell asked_for (side_of begun v draws clock) (side_of begun w draws clock) (Told end.Memory)
  memory_fell_unread clock asked_for call n = record {
    grew = grew_unread begun v w draws clock clock n refl;
    spent = spent_once asked_for v.drawn w.drawn call (omega (arith, n.turn.drawn));
    fall = tt;
  }

  pub end_fell_unread : (clock : Option (List ℕ)) (asked_for : Ask) → is_call asked_for ≡ true → Ended v w →
      Fell asked_for (side_of begun v draws clock) (side_of begun w draws clock) BookEnd
  end_fell_unread clock asked_for call ended = record {
    grew = grew_ended_unread begun v w draws clock ended;
    spent = omega (arith, ap (λ (u : AccountsView). u.drawn) ended);
    fall = (ap (λ (u : AccountsView). u.ended) ended, call);
  }

pub unprepared_fell : (x : Side) (asked_for : Ask) → Fell asked_for x x (Told end.Memory)
unprepared_fell x asked_for = record { grew = grew_none x; spent = omega arith; fall = tt }
