-- A session and its client come to rest within the turns of a run.
use Rattle.std.proofs.Common.{◌≡◌, refl, ap, sym, ◌∙◌, subst, ℕ, zero, suc, ◌+◌, ◌<◌, ◌≤◌, ◌==◌, ◌⊎◌, inl, inr, Bool, true, false, if◌then◌else◌, List, [], ◌++◌, append-nil, Option, Some, None, option_map, eq-eqb, arith}
use Rattle.login_client.specs.Talk.{Talk, Hears, Says, Over, result_of}
use Rattle.login_client.specs.declared.ends.LoginEnd.{LoginEnd}
use Rattle.login_client.specs.declared.ends.LoginEnd.TheVariants as end
use Rattle.client_wire.specs.Getting.{Got}
use Rattle.session_world.specs.Replays.{Came, Replay, all_down, all_up, bytes_of, cut_off, is_cut_off, most_turns, running, runs, task, task_of, turns}
use Rattle.client_wire.specs.UnderWay.{Client, client_after, getting_by, sent_to, with_client, with_got}
use Rattle.packet_stream.specs.Queue.{has_bytes}
use Rattle.session_world.specs.Worlds.{Doing, Place, ToCall, ToSend, does, is_over_at, is_there_at, waits_at}
use Rattle.session_world.specs.declared.calls.Calls.TheVariants.{All}
use Rattle.session_world.specs.declared.running.Task.{Task}
use Rattle.session_world.specs.declared.running.Task.TheVariants.{Answers, GoesDown, GoesUp, CutsOff, Rests}
use Rattle.session_world.proofs.Called.{called}
use Rattle.session_world.proofs.Nearing.{Heeds, Nears, Within, heeds}
use Rattle.session_world.proofs.Tasking.{of_task}

-- ## How many turns are left

-- the calls of a session are answered, and what it sends then comes to the client
abbrev pub calls_left : (waits coming : Bool) → ℕ
calls_left true coming = 2
calls_left false true = 1
calls_left false false = 0

-- what the client has written comes to the session, which may then wait for calls
abbrev pub written_left : (leaving : Bool) → ℕ
written_left true = 3
written_left false = 0

-- the result may be told without a packet
abbrev pub untold : Option LoginEnd → ℕ
untold None = 1
untold (Some how) = 0

-- each packet that is heard may be followed by one that is written
abbrev pub further : (leaving : Bool) (hears : ℕ) → Option LoginEnd → ℕ
further leaving hears result = written_left leaving + (hears + hears + hears + untold result)

-- a client without a result hears at most so many packets
abbrev pub HearsBy : (hears : ℕ) → Option LoginEnd → Talk → Type 0
HearsBy hears None t = Nears hears t
HearsBy hears (Some how) t = Unit {0}

-- by where a talk stands
pub hears_on : (hears : ℕ) (t : Talk) → Nears hears t → HearsBy hears (result_of t) t
hears_on hears (Hears k) near = near
hears_on hears (Says said k) near = absurd near
hears_on hears (Over how) near = tt

pub record IsLeft (most : ℕ) (place : Option Place) (client : Client) : Type 0 where
  pub hears : ℕ
  pub hears_by : HearsBy hears client.result client.stands.at
  pub within : calls_left (waits_at place) (has_bytes client.coming) + further (has_bytes client.leaving) hears client.result ≤ most

-- at most so many turns are left
abbrev pub AreLeft : (most : ℕ) → Option Place → Option Client → Type 0
AreLeft most place None = calls_left (waits_at place) false ≤ most
AreLeft most place (Some client) = IsLeft most place client

-- none
rests_alone : (waits : Bool) → calls_left waits false ≤ 0 → (if waits then Answers else Rests) ≡ Rests
rests_alone true le = absurd (omega (arith, le))
rests_alone false le = refl

rests_by : (waits coming leaving over there : Bool) (hears : ℕ) (result : Option LoginEnd) → calls_left waits coming + further leaving hears result ≤ 0 →
    (if waits then Answers else (if coming then GoesDown else (if is_cut_off over result then CutsOff
    else (if there then (if leaving then GoesUp else Rests) else Rests)))) ≡ Rests
rests_by true coming leaving over there hears result le = absurd (omega (arith, le))
rests_by false true leaving over there hears result le = absurd (omega (arith, le))
rests_by false false true over there hears result le = absurd (omega (arith, le))
rests_by false false false over there hears None le = absurd (omega (arith, le))
rests_by false false false true true hears (Some how) le = refl
rests_by false false false true false hears (Some how) le = refl
rests_by false false false false true hears (Some how) le = refl
rests_by false false false false false hears (Some how) le = refl

none_left : (place : Option Place) (found : Option Client) → AreLeft 0 place found → task_of place found ≡ Rests
none_left place None left = rests_alone (waits_at place) left
none_left place (Some client) left =
    rests_by (waits_at place) (has_bytes client.coming) (has_bytes client.leaving) (is_over_at place) (is_there_at place) left.hears client.result left.within

-- ## One turn

-- the counts go down
pub calls_most : (waits coming : Bool) → calls_left waits coming ≤ 2
calls_most true coming = omega arith
calls_most false true = omega arith
calls_most false false = omega arith

pub written_most : (leaving : Bool) → written_left leaving ≤ 3
written_most true = omega arith
written_most false = omega arith

pub untold_most : (result : Option LoginEnd) → untold result ≤ 1
untold_most None = omega arith
untold_most (Some how) = omega arith

fewer : (x y rest n : ℕ) → x < y → y + rest ≤ suc n → x + rest ≤ n
fewer x y rest n lt le = omega (arith, lt, le)

calls_answered : (waits now coming coming_now : Bool) → waits ≡ true → now ≡ false → calls_left now coming_now < calls_left waits coming
calls_answered true false coming true e f = omega arith
calls_answered true false coming false e f = omega arith
calls_answered true true coming coming_now e f = absurd (cc)
calls_answered false now coming coming_now e f = absurd (cc)

calls_down : (waits coming : Bool) → waits ≡ false → coming ≡ true → calls_left waits false < calls_left waits coming
calls_down false true e f = omega arith
calls_down false false e f = absurd (cc)
calls_down true coming e f = absurd (cc)

module _ (n : ℕ) (place : Option Place) where
  answered : (now : Option Place) (bytes : List ℕ) (found : Option Client) → waits_at place ≡ true → waits_at now ≡ false →
      AreLeft (suc n) place found → AreLeft n now (option_map (sent_to bytes) found)
  answered now bytes None e f left = subst (λ (waits : Bool). calls_left waits false ≤ n) (sym f) (let none : 0 ≤ n = omega arith in none)
  answered now bytes (Some client) e f left = record {
    hears = left.hears;
    hears_by = left.hears_by;
    within = fewer _ _ (further (has_bytes client.leaving) left.hears client.result) n
        (calls_answered (waits_at place) (waits_at now) (has_bytes client.coming) (has_bytes (client.coming ++ bytes)) e f) left.within;
  }

  -- its result is told
  cut : (client : Client) (result : Option LoginEnd) (over : Bool) (how : LoginEnd) → client.result ≡ result → is_cut_off over result ≡ true →
      IsLeft (suc n) place client → IsLeft n place (record client { result = Some how })
  cut client None true how e f left = record { hears = left.hears; hears_by = tt; within = told _ _ _ _ (ap untold e) left.within }
    where
      told : (calls written hears last : ℕ) → last ≡ 1 → calls + (written + (hears + last)) ≤ suc n → calls + (written + (hears + 0)) ≤ n
      told calls written hears last e le = omega (arith, e, le)
  cut client None false how e f left = absurd (cc)
  cut client (Some told) true how e f left = absurd (cc)
  cut client (Some told) false how e f left = absurd (cc)

  -- all that the client has written comes to the session, whatever comes of that
  went_up : (now : Option Place) (client : Client) (bytes : List ℕ) → has_bytes client.leaving ≡ true →
      IsLeft (suc n) place client → IsLeft n now (sent_to bytes (record client { leaving = [] }))
  went_up now client bytes leaving left = record {
    hears = left.hears;
    hears_by = left.hears_by;
    within = up _ (calls_left (waits_at place) (has_bytes client.coming)) _ _ (calls_most (waits_at now) (has_bytes (client.coming ++ bytes))) (ap written_left leaving) left.within;
  }
    where
      up : (calls before written rest : ℕ) → calls ≤ 2 → written ≡ 3 → before + (written + rest) ≤ suc n → calls + (0 + rest) ≤ n
      up calls before written rest most e le = omega (arith, most, e, le)

  -- ## Bytes come to the client

  module _ (client : Client) (idle : waits_at place ≡ false) (coming : has_bytes client.coming ≡ true) where
    calls_go : calls_left (waits_at place) false < calls_left (waits_at place) (has_bytes client.coming)
    calls_go = calls_down (waits_at place) (has_bytes client.coming) idle coming

    unheard : (g : Got) (hears : ℕ) → client.result ≡ None → g.sent ≡ [] → Nears hears g.at →
        calls_left (waits_at place) (has_bytes client.coming) + further (has_bytes client.leaving) hears client.result ≤ suc n →
        IsLeft n place (with_got client [] g)
    unheard g hears untold_yet silent near within = record {
      hears = hears;
      hears_by = hears_on hears g.at near;
      within = count _ _ _ _ (hears + hears + hears) _ _ calls_go (ap (λ (bytes : List ℕ). written_left (has_bytes bytes)) same) (untold_most (result_of g.at)) (ap untold untold_yet) within;
    }
      where
        same : client.leaving ++ g.sent ≡ client.leaving
        same = ap (λ (bytes : List ℕ). client.leaving ++ bytes) silent ∙ append-nil client.leaving

        count : (calls before written_now written hears last_now last : ℕ) → calls < before → written_now ≡ written → last_now ≤ 1 → last ≡ 1 →
            before + (written + (hears + last)) ≤ suc n → calls + (written_now + (hears + last_now)) ≤ n
        count calls before written_now written hears last_now last lt e most f le = omega (arith, lt, e, most, f, le)

    heard : (g : Got) (hears : ℕ) → client.result ≡ None → Within hears g.at →
        calls_left (waits_at place) (has_bytes client.coming) + further (has_bytes client.leaving) (suc hears) client.result ≤ suc n →
        IsLeft n place (with_got client [] g)
    heard g hears untold_yet w within = record {
      hears = w.hears;
      hears_by = hears_on w.hears g.at w.near;
      within = count _ _ _ _ w.hears hears _ _ calls_go (written_most (has_bytes (client.leaving ++ g.sent))) w.fewer (untold_most (result_of g.at)) (ap untold untold_yet) within;
    }
      where
        count : (calls before written_now written now hears last_now last : ℕ) → calls < before → written_now ≤ 3 → now ≤ hears → last_now ≤ 1 → last ≡ 1 →
            before + (written + (suc hears + suc hears + suc hears + last)) ≤ suc n → calls + (written_now + (now + now + now + last_now)) ≤ n
        count calls before written_now written now hears last_now last lt most less ends e le = omega (arith, lt, most, less, ends, e, le)

    by_heeds : (g : Got) (hears : ℕ) → client.result ≡ None → Heeds hears g →
        calls_left (waits_at place) (has_bytes client.coming) + further (has_bytes client.leaving) hears client.result ≤ suc n →
        IsLeft n place (with_got client [] g)
    by_heeds g zero e heed within = unheard g zero e heed.0 heed.1 within
    by_heeds g (suc hears) e (inl silent) within = unheard g (suc hears) e silent.0 silent.1 within
    by_heeds g (suc hears) e (inr w) within = heard g hears e w within

    got : (result : Option LoginEnd) → client.result ≡ result → IsLeft (suc n) place client → IsLeft n place (client_after result client client.coming [])
    got None e left =
        by_heeds (getting_by client client.coming) left.hears e
        (heeds left.hears _ _ _ (subst (λ (result : Option LoginEnd). HearsBy left.hears result client.stands.at) e left.hears_by)) left.within
    got (Some how) e left = record {
      hears = left.hears;
      hears_by = left.hears_by;
      within = fewer _ _ (further (has_bytes client.leaving) left.hears client.result) n calls_go left.within;
    }

-- ## Turns

-- the client of this number
here : (number : ℕ) (client other : Option Client) → (if number == number then client else other) ≡ client
here number client other = by (number == number) (eq-eqb number number refl)
  where
    by : (test : Bool) → test ≡ true → (if test then client else other) ≡ client
    by true e = refl
    by false e = absurd (cc)

abbrev AfterTurn : (n : ℕ) → Replay → ℕ → Came → Type 0
AfterTurn n r number came = AreLeft n (came.replay.world.places number) (came.replay.clients number)

-- nothing can be done, or fewer turns are left
abbrev Turned : (n : ℕ) → Replay → ℕ → Task → Type 0
Turned n r number t = (t ≡ Rests) ⊎ AfterTurn n r number (turns r number t)

module _ (n : ℕ) (r : Replay) (number : ℕ) where
  abbrev place : Option Place
  place = r.world.places number

  answers : waits_at place ≡ true → AreLeft (suc n) place (r.clients number) → AfterTurn n r number (turns r number Answers)
  answers waits left =
      let h : Doing = ToCall number All in
      let now : Option Place = (does r.world h).world.places number in
      let bytes : List ℕ = bytes_of (does r.world h) in
      subst (λ (found : Option Client). AreLeft n now found) (sym (here number (option_map (sent_to bytes) (r.clients number)) (r.clients number)))
      (answered n place now bytes (r.clients number) waits (called r.world number place waits) left)

  goes_down : (client : Client) → waits_at place ≡ false → has_bytes client.coming ≡ true → IsLeft (suc n) place client →
      AfterTurn n r number (all_down r number (Some client))
  goes_down client idle coming left =
      subst (λ (found : Option Client). AreLeft n place found)
      (sym (here number (Some (client_after client.result client client.coming [])) (r.clients number)))
      (got n place client idle coming client.result refl left)

  cuts_off : (client : Client) → is_cut_off (is_over_at place) client.result ≡ true → IsLeft (suc n) place client →
      AfterTurn n r number (cut_off r number (Some client))
  cuts_off client over left =
      subst (λ (found : Option Client). AreLeft n place found)
      (sym (here number (Some (record client { result = Some end.PeerClosed })) (r.clients number)))
      (cut n place client client.result (is_over_at place) end.PeerClosed refl over left)

  goes_up : (client : Client) → has_bytes client.leaving ≡ true → IsLeft (suc n) place client → AfterTurn n r number (all_up r number (Some client))
  goes_up client leaving left =
      let h : Doing = ToSend number client.leaving in
      let now : Option Place = (does r.world h).world.places number in
      let bytes : List ℕ = bytes_of (does r.world h) in
      let brought : Client = record client { leaving = [] } in
      let clients : ℕ → Option Client = with_client r.clients number brought in
      subst (λ (found : Option Client). AreLeft n now found) (sym (here number (option_map (sent_to bytes) (clients number)) (clients number)))
      (subst (λ (found : Option Client). AreLeft n now (option_map (sent_to bytes) found)) (sym (here number (Some brought) (r.clients number)))
      (went_up n place now client bytes leaving left))

  turned : AreLeft (suc n) place (r.clients number) → Turned n r number (task r number)
  turned left = of_task place (r.clients number) (Turned n r number) (record {
    answers = λ waits. inr (answers waits left);
    goes_down = λ idle client e coming. inr (subst (λ (found : Option Client). AfterTurn n r number (all_down r number found)) (sym e)
        (goes_down client idle coming (left_of client e)));
    cuts_off = λ idle client e none over. inr (subst (λ (found : Option Client). AfterTurn n r number (cut_off r number found)) (sym e)
        (cuts_off client over (left_of client e)));
    goes_up = λ idle client e none uncut there leaving. inr (subst (λ (found : Option Client). AfterTurn n r number (all_up r number found)) (sym e)
        (goes_up client leaving (left_of client e)));
    rests = inl refl;
  })
    where
      left_of : (client : Client) → r.clients number ≡ Some client → IsLeft (suc n) place client
      left_of client e = subst (λ (found : Option Client). AreLeft (suc n) place found) e left

-- ## Runs

stays_at_rest : (more : ℕ) (r : Replay) (number : ℕ) → task r number ≡ Rests → task (runs more r number).replay number ≡ Rests
unfolding runs
stays_at_rest zero r number e = e
stays_at_rest (suc more) r number e =
    stays_at_rest more (turns r number (task r number)).replay number
    (subst (λ (t : Task). task (turns r number t).replay number ≡ Rests) (sym e) e)

runs_rest : (more : ℕ) (r : Replay) (number : ℕ) → AreLeft more (r.world.places number) (r.clients number) → task (runs more r number).replay number ≡ Rests
unfolding runs
runs_rest zero r number left = none_left (r.world.places number) (r.clients number) left
runs_rest (suc more) r number left = by (turned more r number left) (λ less. runs_rest more (turns r number (task r number)).replay number less)
  where
    by : Turned more r number (task r number) →
        (AfterTurn more r number (turns r number (task r number)) → task (runs more (turns r number (task r number)).replay number).replay number ≡ Rests) →
        task (runs more (turns r number (task r number)).replay number).replay number ≡ Rests
    by (inl e) again = stays_at_rest more (turns r number (task r number)).replay number (subst (λ (t : Task). task (turns r number t).replay number ≡ Rests) (sym e) e)
    by (inr less) again = again less

pub running_rests : (r : Replay) (number : ℕ) (t : Task) → task r number ≡ t → AreLeft most_turns (r.world.places number) (r.clients number) →
    task (running r number t).replay number ≡ Rests
running_rests r number Rests e left = e
running_rests r number Answers e left = runs_rest most_turns r number left
running_rests r number GoesDown e left = runs_rest most_turns r number left
running_rests r number GoesUp e left = runs_rest most_turns r number left
running_rests r number CutsOff e left = runs_rest most_turns r number left
