-- How a session begins.
use Rattle.std.proofs.Common.{◌≡◌, refl, sym, ap, ◌∙◌, subst, IsTrue, ℕ, List, [], ◌∷◌, ◌++◌, Option, None, append-nil, arith}
use Rattle.lg_outside.specs.Traffic.{Traffic}
use Rattle.link_packets.specs.Reading.{between}
use Rattle.serve_talk.specs.Fitting.{Fits, Held as Holding, most_packets, nothing_held}
use Rattle.serve_talk.specs.Paths.{Anything, Halts, Leads, Loose, Point, Turned, Wrote, from, nothing_loose, over, standing, unsaid}
use Rattle.serve_talk.specs.Sides.{Grew, Moment, Side, none}
use Rattle.serve_talk.specs.declared.endings.Ending.{Ending}
use Rattle.serve_talk.proofs.Fitted.{sessions_fit}
use Rattle.serve_talk.proofs.Grown.{gave_none, grew_none}
use Rattle.serve_talk.proofs.Walked.{leads_more, leads_none}
use Rattle.packet_frame.specs.Framing.{Framing}
use Rattle.session_serve.specs.declared.holding.Paper.TheVariants as paper
use Rattle.server_outside.specs.Telling.{Gave}
use Rattle.session_talk.specs.Doable.{AsksWell}
use Rattle.session_talk.specs.Logins as login
use Rattle.session_talk.specs.Runs.{IsLive, Standing, stands_on}
use Rattle.session_talk.specs.Talk.{SessionTalk}
use Rattle.session_talk.specs.Turns.{IsAsked, IsBegun, asked, heard, is_answer, rest}
use Rattle.session_talk.specs.declared.actions.Ask.{Ask}
use Rattle.session_talk.specs.declared.inputs.Input.TheVariants as input
use Rattle.session_talk.proofs.Putting.{asks_can_be_done}
use Rattle.session_engine.specs.Standing.{next_of, talk_of_session}
use Rattle.session_engine.specs.declared.session.Session.{Session}
use Rattle.session_serve.specs.Holding.{held_of}
use Rattle.session_serve.specs.Saying as saying
use Rattle.session_serve.specs.Saying.{Broke, Said, due_on}
use Rattle.session_serve.specs.Siding.{side_of}
use Rattle.session_serve.specs.Standing.{Begins, IsNewlyHeld, IsReady, point_of, stands_of}
use Rattle.session_serve.specs.declared.holding.Held.{Held}
use Rattle.shared_accounts.specs.Sharing.{AccountsView}
use Rattle.shared_accounts.specs.declared.desk.Begun.{Begun}
use Rattle.session_serve.proofs.Adding.{gave_one}
use Rattle.session_serve.proofs.Goes.{fits_rest, idle_nothing}

abbrev pub beginning : ℕ → Standing
beginning id = record { next = 0; at = login.session id }

pub start_answers : (t : SessionTalk) (id : ℕ) (nonce : List ℕ) → t ≡ login.session id → IsTrue (is_answer t (input.Start nonce)) × IsAsked t (input.Start nonce)
unfolding is_answer IsAsked
start_answers t id nonce is = subst (λ (u : SessionTalk). IsTrue (is_answer u (input.Start nonce)) × IsAsked u (input.Start nonce)) (sym is) (refl, tt)

start_fits : (id : ℕ) (nonce : List ℕ) → Fits most_packets 0 nothing_held (rest (heard (login.session id) (input.Start nonce)))
unfolding heard
start_fits id nonce = fits_rest most_packets 0 nothing_held _ ((sessions_fit id).1 (input.Start nonce) refl)

module _ (session : Session) (id : ℕ) (is : stands_of session ≡ beginning id) (nonce : List ℕ) (begun : Begun) (v : AccountsView) (given_before given_after : Option (List (List ℕ))) (clock : Option (List ℕ)) (gave : Gave given_before given_after nonce) (before after : Option Traffic) where
  abbrev x : Moment
  x = record { link = before; side = side_of begun v given_before clock }

  abbrev side : Side
  side = side_of begun v given_after clock

  due_same : due_on (stands_of session) (input.Start nonce) ≡ due_on (beginning id) (input.Start nonce)
  due_same = ap (λ (s : Standing). due_on s (input.Start nonce)) is

  start_turned : (q : Point) (loose : Loose) → standing q ≡ stands_on (beginning id) (input.Start nonce) → q.place ≡ 0 → q.held ≡ [] → q.side ≡ side → q.calls ≡ 0 →
      Wrote (from id x) q [] (due_on (beginning id) (input.Start nonce)) loose → Turned Anything (from id x) (input.Start nonce) q loose
  start_turned q loose stands place held side_is calls wrote = record {
    live = tt;
    answers = (start_answers (login.session id) id nonce refl).0;
    fits = (start_answers (login.session id) id nonce refl).1;
    stands = stands;
    got = [];
    reads = λ peer more anything.
        ap (λ (n : ℕ). record { place = n; bytes = q.held ++ more }) place ∙ ap (λ (l : List ℕ). record { place = 0; bytes = l ++ more }) held;
    added = [];
    adds = refl;
    wrote = wrote;
    grew = subst (λ (s : Side). Grew x.side s [] (nonce ∷ [])) (sym side_is) (record {
      mine = (grew_none x.side).mine;
      grown = (grew_none x.side).grown;
      drew = gave_one given_before given_after nonce gave;
      times = [];
      read_times = gave_none clock;
      timed = none;
    });
    spent = omega (arith, ap (λ (s : Side). s.drawn) side_is, calls);
  }

  start_ready : (later : Session) (h : Held) (asks : Ask) → IsNewlyHeld h → stands_of later ≡ stands_on (beginning id) (input.Start nonce) → asks ≡ asked (next_of later) (talk_of_session later) →
      IsBegun (talk_of_session later) → IsLive (talk_of_session later) → IsReady later (between 0 0) h asks
  start_ready later h asks new stands asks_is begun' live' = record {
    asks_is = asks_is;
    begun = begun';
    live = live';
    well = subst (λ (s : Standing). AsksWell s.at) (sym stands)
        (asks_can_be_done.goes_on (login.session id) (input.Start nonce) (asks_can_be_done.begins id) (start_answers (login.session id) id nonce refl).0);
    fits = subst (λ (s : Standing). Fits h.packets h.calls (held_of h) s.at) (sym stands)
        (subst (λ (held : Holding). Fits h.packets h.calls held (rest (heard (login.session id) (input.Start nonce)))) (sym new.0)
        (subst (λ (m : ℕ). Fits m h.calls nothing_held (rest (heard (login.session id) (input.Start nonce)))) (sym new.1)
        (subst (λ (n : ℕ). Fits most_packets n nothing_held (rest (heard (login.session id) (input.Start nonce)))) (sym new.2) (start_fits id nonce))));
    id = 0;
    reader = refl;
    room = omega (arith, new.1);
  }

  pub start_begins : (later : Session) (asks : Ask) → Said (stands_of session) (input.Start nonce) (stands_of later) before after asks → Begins begun id x later after side asks
  start_begins later asks said =
      let stands : stands_of later ≡ stands_on (beginning id) (input.Start nonce) = said.stands ∙ ap (λ (s : Standing). stands_on s (input.Start nonce)) is in
      record {
        given = input.Start nonce;
        turned = λ h calls. start_turned (point_of later (between 0 0) h after side) nothing_loose stands refl refl refl calls (record {
          text = due_on (stands_of session) (input.Start nonce);
          moved = said.moved;
          due_is = sym due_same ∙ sym (append-nil (due_on (stands_of session) (input.Start nonce)));
        });
        ready = λ h new. start_ready later h asks new stands said.asks said.begun said.live;
      }

  abbrev started : Point
  started = record {
    next = (stands_on (beginning id) (input.Start nonce)).next;
    at = (stands_on (beginning id) (input.Start nonce)).at;
    place = 0;
    held = [];
    calls = 0;
    link = after;
    side = side;
  }

  pub start_broke : (Rises : Type 0) (how : Ending) → Broke (stands_of session) (input.Start nonce) before after Rises how → Halts (from id x) (record { link = after; side = side }) Rises how
  start_broke Rises _ (saying.over how moved ends) =
      over (input.Start nonce) started how
      (start_turned started nothing_loose refl refl refl refl refl (record {
        text = due_on (stands_of session) (input.Start nonce);
        moved = moved;
        due_is = sym due_same ∙ sym (append-nil (due_on (stands_of session) (input.Start nonce)));
      })) refl (ap (λ (s : Standing). asked (stands_on s (input.Start nonce)).next (stands_on s (input.Start nonce)).at) (sym is) ∙ ends)
  start_broke Rises _ (saying.unsaid how text unwritten moved due cause) =
      unsaid (input.Start nonce) started (record { over = []; unwritten = unwritten }) how
      (start_turned started (record { over = []; unwritten = unwritten }) refl refl refl refl refl (record { text = text; moved = moved; due_is = sym due_same ∙ due })) refl cause
      (idle_nothing (asked started.next started.at) 0)

-- ## The first turn

pub stands_begin : (session : Session) (id : ℕ) → talk_of_session session ≡ login.session id → next_of session ≡ 0 → stands_of session ≡ beginning id
stands_begin session id talk next =
    ap (λ (n : ℕ). let s : Standing = record { next = n; at = talk_of_session session } in s) next
    ∙ ap (λ (t : SessionTalk). let s : Standing = record { next = 0; at = t } in s) talk

pub newly_held : (h : Held) → h ≡ record { paper = paper.Nothing; account = None; packets = 1048579; calls = 0 } → IsNewlyHeld h
newly_held h is = (ap (λ (x : Held). held_of x) is, ap (λ (x : Held). x.packets) is, ap (λ (x : Held). x.calls) is)

pub ready_first : (begun : Begun) (id : ℕ) (x : Moment) (session : Session) (frames : Framing) (h : Held) (link : Option Traffic) (side : Side) (asks : Ask) →
    Begins begun id x session link side asks → frames ≡ between 0 0 → IsNewlyHeld h → IsReady session frames h asks
ready_first begun id x session frames h link side asks begins is new =
    subst (λ (v : Framing). IsReady session v h asks) (sym is) (begins.ready h new)

pub leads_first : (begun : Begun) (id : ℕ) (x : Moment) (session : Session) (frames : Framing) (h : Held) (link : Option Traffic) (side : Side) (asks : Ask) →
    Begins begun id x session link side asks → frames ≡ between 0 0 → IsNewlyHeld h → Leads (from id x) (point_of session frames h link side)
leads_first begun id x session frames h link side asks begins is new =
    subst (λ (v : Framing). Leads (from id x) (point_of session v h link side)) (sym is)
    (leads_more (from id x) (from id x) (point_of session (between 0 0) h link side) begins.given (leads_none (from id x)) (begins.turned h new.2))
