-- The client of a session stays its peer, whatever happens.
use Rattle.std.proofs.Common.{◌≡◌, ◌≢◌, refl, ap, sym, ◌∙◌, subst, ℕ, zero, suc, ◌==◌, ◌⊎◌, inl, inr, if◌then◌else◌, Bool, true, false, List, [], ◌∷◌, ◌++◌, take, drop, append-nil, append_assoc, Option, Some, None, is_some, option_map, Result, Ok, Err}
use Rattle.std.proofs.lemmas.Bool.Decides.{eqb_tells}
use Rattle.std.proofs.lemmas.List.{take-append-drop}
use Rattle.session_talk.specs.Logins.{session}
use Rattle.packet_stream.specs.Sent.{Sent}
use Rattle.login_client.specs.declared.claims.Claim.{Claim}
use Rattle.login_client.specs.declared.ends.LoginEnd.{LoginEnd}
use Rattle.packet_stream.specs.Packing.{packet_text, packets_text}
use Rattle.script_text.specs.declared.event.Event.{Event}
use Rattle.script_text.specs.declared.event.Event.TheVariants as event
use Rattle.world_table.specs.Printing.{Idle, Line}
use Rattle.session_world.specs.declared.calls.Calls.{Calls}
use Rattle.session_world.specs.declared.calls.Calls.TheVariants.{Nothing, One, All}
use Rattle.session_world.specs.declared.calls.Peer.{Peer}
use Rattle.session_world.specs.declared.calls.Peer.TheVariants as peer
use Rattle.session_world.specs.declared.calls.Peer.TheVariants.{Open}
use Rattle.session_world.specs.declared.running.Task.{Task}
use Rattle.session_world.specs.declared.running.Task.TheVariants.{Answers, GoesDown, GoesUp, CutsOff, Rests}
use Rattle.session_world.specs.Events.{all_doings}
use Rattle.session_world.specs.Going.{Gone, going}
use Rattle.session_world.specs.Lines.{sends_in}
use Rattle.session_talk.specs.Statements.{statement_in}
use Rattle.stmt_rules.specs.declared.statement.Statement.{Statement}
use Rattle.session_world.specs.Replays.{Came, Printed, Replay, administers, after_events, all_down, all_up, alters, begins, begun_with, brings, cut_off, cuts_off, doing, downs, followed_by, gets, happens, idles, is_cut_off, is_in, most_turns, nothing, running, runs, sends, task, task_of, turns, ups, writes}
use Rattle.client_wire.specs.UnderWay.{Client, claim_of, client_after, new_client, sent_to, with_client}
use Rattle.packet_stream.specs.Queue.{has_bytes}
use Rattle.session_world.specs.Transcripts.{bytes_of, lines_of, session_bytes, session_lines}
use Rattle.session_world.specs.Worlds.{Doing, GoesOn, IsIdle, Move, Place, ToCall, ToExecute, ToFail, ToIdle, ToLeave, ToOpen, ToSend, ToSet, World, after_all, calling, does, is_over, is_over_at, is_there, is_there_at, leaving, move, moved, no_bytes, opening, place_of, sending, waits, waits_at}
use Rattle.session_world.proofs.Doing.{after_append, each_append}
use Rattle.session_world.proofs.Following.{sends_append}
use Rattle.session_world.proofs.Pairing.{Holds, after_doing}
use Rattle.session_world.proofs.Peering.{IsPeer, client_begins, client_brings, client_cut, client_gets, client_writes}

-- ## Doings one after another

bytes_both : (number : ℕ) (w : World) (doings more : List Doing) →
    session_bytes number w (doings ++ more) ≡ session_bytes number w doings ++ session_bytes number (after_all w doings) more
bytes_both number w [] more = refl
bytes_both number w (first ∷ doings) more =
    ap (λ (bytes : List ℕ). bytes_of number (move w first) ++ bytes) (bytes_both number (does w first).world doings more)
    ∙ sym (append_assoc (bytes_of number (move w first)) (session_bytes number (does w first).world doings) (session_bytes number (after_all (does w first).world doings) more))

-- ## What a doing brings

no_bytes_if : (test : Bool) (bytes : List ℕ) → bytes ≡ [] → (if test then bytes else []) ≡ []
no_bytes_if true bytes e = e
no_bytes_if false bytes e = refl

-- bytes come to a session by a sending alone
IsSending : Doing → Type 0
IsSending (ToSend other bytes) = Unit {0}
IsSending _ = ⊥

module _ (number : ℕ) (w : World) where
  going_brings : (other : ℕ) (may : Bool) (peer : Peer) (g : Gone) → bytes_of number (if may then GoesOn other peer [] g else IsIdle other) ≡ []
  going_brings other true peer g = no_bytes_if (number == other) [] refl
  going_brings other false peer g = refl

  opening_brings : (other : ℕ) (found : Option Place) → bytes_of number (opening w other found) ≡ []
  opening_brings other None = no_bytes_if (number == other) [] refl
  opening_brings other (Some place) = refl

  calling_brings : (other : ℕ) (calls : Calls) (found : Option Place) → bytes_of number (calling w other calls found) ≡ []
  calling_brings other calls None = refl
  calling_brings other calls (Some place) = going_brings other (waits place.at) place.peer _

  leaving_brings : (other : ℕ) (peer : Peer) (found : Option Place) → bytes_of number (leaving w other peer found) ≡ []
  leaving_brings other peer None = refl
  leaving_brings other peer (Some place) = going_brings other (is_there place.at place.peer) peer _

  other_brings : (doing : Doing) → (IsSending doing → ⊥) → bytes_of number (move w doing) ≡ []
  unfolding IsSending
  other_brings (ToSet reading) not-sent = refl
  other_brings ToFail not-sent = refl
  other_brings (ToExecute statement) not-sent = refl
  other_brings (ToOpen other) not-sent = opening_brings other (w.places other)
  other_brings (ToSend other bytes) not-sent = absurd (not-sent tt)
  other_brings (ToCall other calls) not-sent = calling_brings other calls (w.places other)
  other_brings (ToLeave other peer) not-sent = leaving_brings other peer (w.places other)
  other_brings (ToIdle other) not-sent = refl

  -- a sending brings nothing to another session
  if_brings : (other : ℕ) (may : Bool) (peer : Peer) (bytes : List ℕ) (g : Gone) → (number == other) ≡ false →
      bytes_of number (if may then GoesOn other peer bytes g else IsIdle other) ≡ []
  if_brings other true peer bytes g e = ap (λ (test : Bool). if test then bytes else []) e
  if_brings other false peer bytes g e = refl

  sending_brings : (other : ℕ) (bytes : List ℕ) (found : Option Place) → (number == other) ≡ false → bytes_of number (sending w other bytes found) ≡ []
  sending_brings other bytes None e = refl
  sending_brings other bytes (Some place) e = if_brings other (is_there place.at place.peer) place.peer bytes _ e

  -- and to its own session all its bytes, where the session is there
  if_there : (other : ℕ) (may : Bool) (peer : Peer) (bytes : List ℕ) (g : Gone) → may ≡ true →
      bytes_of number (if may then GoesOn other peer bytes g else IsIdle other) ≡ (if number == other then bytes else [])
  if_there other true peer bytes g e = refl
  if_there other false peer bytes g e = absurd (cc)

  there_brings : (other : ℕ) (bytes : List ℕ) (found : Option Place) → is_there_at found ≡ true →
      bytes_of number (sending w other bytes found) ≡ (if number == other then bytes else [])
  there_brings other bytes None e = absurd (cc)
  there_brings other bytes (Some place) e = if_there other (is_there place.at place.peer) place.peer bytes _ e

-- ## What keeps a client beside its session

abbrev pub HoldsIn : ℕ → Replay → List Sent → List ℕ → Type 0
HoldsIn number r sent bytes = Holds (r.world.places number) (r.clients number) sent bytes []

-- what came is what was done, and the client is still its session's peer
pub record Keeps (number : ℕ) (r : Replay) (c : Came) : Type 0 where
  pub world_is : c.replay.world ≡ after_all r.world c.doings
  pub holds : (sent : List Sent) (bytes : List ℕ) → HoldsIn number r sent bytes →
      HoldsIn number c.replay (sent ++ sends_in (session_lines number r.world c.doings)) (bytes ++ session_bytes number r.world c.doings)

holds_as : (found : Option Place) (client : Option Client) (sent sent' : List Sent) (bytes bytes' : List ℕ) → sent ≡ sent' → bytes ≡ bytes' →
    Holds found client sent bytes [] → Holds found client sent' bytes' []
holds_as found client sent sent' bytes bytes' s b h =
    subst (λ (x : List Sent). Holds found client x bytes' []) s (subst (λ (x : List ℕ). Holds found client sent x []) b h)

module _ (number : ℕ) where
  keeps_nothing : (r : Replay) → Keeps number r (nothing r)
  keeps_nothing r = record {
    world_is = refl;
    holds = λ sent bytes h. holds_as _ _ sent _ bytes _ (sym (append-nil sent)) (sym (append-nil bytes)) h;
  }

  -- one doing
  one_holds : (w : World) (first : Doing) (found : Option Place) (client : Option Client) (sent : List Sent) (bytes : List ℕ) →
      Holds found client (sent ++ sends_in (lines_of number (move w first))) (bytes ++ bytes_of number (move w first)) [] →
      Holds found client (sent ++ sends_in (session_lines number w (first ∷ []))) (bytes ++ session_bytes number w (first ∷ [])) []
  one_holds w first found client sent bytes h = holds_as found client _ _ _ _
      (sym (ap (λ (lines : List Line). sent ++ sends_in lines) (append-nil (lines_of number (move w first)))))
      (sym (ap (λ (more : List ℕ). bytes ++ more) (append-nil (bytes_of number (move w first))))) h

  idle_sends : (test : Bool) → sends_in (if test then Idle ∷ [] else []) ≡ []
  idle_sends true = refl
  idle_sends false = refl

  keeps_idle : (r : Replay) (other : ℕ) → Keeps number r (idles r other)
  keeps_idle r other = record {
    world_is = refl;
    holds = λ sent bytes h. one_holds r.world (ToIdle other) _ _ sent bytes
        (holds_as _ _ sent _ bytes _ (sym (ap (λ (more : List Sent). sent ++ more) (idle_sends (number == other)) ∙ append-nil sent)) (sym (append-nil bytes)) h);
  }

  keeps_done : (r : Replay) (what : Doing) → ((c : Client) → r.clients number ≡ Some c → bytes_of number (move r.world what) ≡ []) → Keeps number r (doing r what)
  keeps_done r what brings = record {
    world_is = refl;
    holds = λ sent bytes h. one_holds r.world what _ _ sent bytes (after_doing number r.world r.clients sent bytes [] h what brings);
  }

  keeps_doing : (r : Replay) (what : Doing) → (IsSending what → ⊥) → Keeps number r (doing r what)
  keeps_doing r what not-sent = keeps_done r what (λ c is. other_brings number r.world what not-sent)

  keeps_both : (r : Replay) (first second : Came) → Keeps number r first → Keeps number first.replay second → Keeps number r (followed_by first second)
  keeps_both r first second k l = record {
    world_is = l.world_is ∙ (ap (λ (w : World). after_all w second.doings) k.world_is ∙ sym (after_append r.world first.doings second.doings));
    holds = λ sent bytes h. holds_as _ _ _ _ _ _ (lines_are sent) (bytes_are bytes) (l.holds _ _ (k.holds sent bytes h));
  } where
    lines_are : (sent : List Sent) → (sent ++ sends_in (session_lines number r.world first.doings)) ++ sends_in (session_lines number first.replay.world second.doings)
        ≡ sent ++ sends_in (session_lines number r.world (first.doings ++ second.doings))
    lines_are sent =
        append_assoc sent (sends_in (session_lines number r.world first.doings)) (sends_in (session_lines number first.replay.world second.doings))
        ∙ ap (λ (more : List Sent). sent ++ more)
        (ap (λ (w : World). sends_in (session_lines number r.world first.doings) ++ sends_in (session_lines number w second.doings)) k.world_is
        ∙ (sym (sends_append (session_lines number r.world first.doings) (session_lines number (after_all r.world first.doings) second.doings))
        ∙ ap sends_in (sym (each_append number r.world first.doings second.doings))))

    bytes_are : (bytes : List ℕ) → (bytes ++ session_bytes number r.world first.doings) ++ session_bytes number first.replay.world second.doings
        ≡ bytes ++ session_bytes number r.world (first.doings ++ second.doings)
    bytes_are bytes =
        append_assoc bytes (session_bytes number r.world first.doings) (session_bytes number first.replay.world second.doings)
        ∙ ap (λ (more : List ℕ). bytes ++ more)
        (ap (λ (w : World). session_bytes number r.world first.doings ++ session_bytes number w second.doings) k.world_is
        ∙ sym (bytes_both number r.world first.doings second.doings))

  -- ## A client

  module _ (r : Replay) (other : ℕ) (client : Client) (is : r.clients other ≡ Some client) where
    abbrev over : Bool
    over = is_over_at (r.world.places other)

    abbrev Swapped : Client → (taken : List ℕ) → List Sent → List ℕ → Bool → Type 0
    Swapped now taken sent bytes test = Holds (r.world.places number) (if test then Some now else r.clients number) sent bytes (if test then taken else [])

    -- another client in its stead, of which some bytes may be about to come
    swapped : (now : Client) (taken : List ℕ) → ((sent : List Sent) (bytes : List ℕ) → IsPeer over client sent bytes [] → IsPeer over now sent bytes taken) →
        (sent : List Sent) (bytes : List ℕ) → HoldsIn number r sent bytes →
        Holds (r.world.places number) (with_client r.clients other now number) sent bytes (if number == other then taken else [])
    swapped now taken stays sent bytes h = by (eqb_tells number other) where
      some_now : (c : Client) → Some now ≡ Some c → now ≡ c
      some_now c e = cc

      own : number ≡ other → (c : Client) → Some now ≡ Some c → IsPeer (is_over_at (r.world.places number)) c sent bytes taken
      own same c e =
          subst (λ (x : Client). IsPeer (is_over_at (r.world.places number)) x sent bytes taken) (some_now c e)
          (subst (λ (n : ℕ). IsPeer (is_over_at (r.world.places n)) now sent bytes taken) (sym same)
          (stays sent bytes (subst (λ (n : ℕ). IsPeer (is_over_at (r.world.places n)) client sent bytes []) same (h.peer client (ap r.clients same ∙ is)))))

      by : (((number == other) ≡ true) × (number ≡ other)) ⊎ (((number == other) ≡ false) × (number ≢ other)) → Swapped now taken sent bytes (number == other)
      by (inl e) = subst (Swapped now taken sent bytes) (sym e.0) (record { unplaced = h.unplaced; peer = own e.1 })
      by (inr e) = subst (Swapped now taken sent bytes) (sym e.0) h

    keeps_altered : (now : Client) (printed : List Printed) → ((sent : List Sent) (bytes : List ℕ) → IsPeer over client sent bytes [] → IsPeer over now sent bytes []) →
        Keeps number r (alters r other now printed)
    keeps_altered now printed stays = record {
      world_is = refl;
      holds = λ sent bytes h. holds_as _ _ sent _ bytes _ (sym (append-nil sent)) (sym (append-nil bytes))
          (subst (λ (b : List ℕ). Holds (r.world.places number) (with_client r.clients other now number) sent bytes b) (no_bytes_if (number == other) [] refl)
          (swapped now [] stays sent bytes h));
    }

    keeps_gets : (bytes rest : List ℕ) → client.coming ≡ bytes ++ rest → Keeps number r (gets r other client bytes rest)
    keeps_gets bytes rest split = keeps_altered (client_after client.result client bytes rest) _ (λ sent got. client_gets over client bytes rest sent got split)

    keeps_cut : over ≡ true → client.result ≡ None → client.coming ≡ [] → Keeps number r (cuts_off r other client)
    keeps_cut is-over none all = keeps_altered _ _ (λ sent bytes p. client_cut over client sent bytes p is-over none all)

    keeps_written : (text : List ℕ) → is_in client.result ≡ true → Keeps number r (alters r other (record client { leaving = client.leaving ++ text }) [])
    keeps_written text is-in = keeps_altered _ [] (λ sent bytes p. client_writes over client sent bytes p text is-in)

    keeps_brought : (bytes rest : List ℕ) → client.leaving ≡ bytes ++ rest → is_there_at (r.world.places other) ≡ true → Keeps number r (brings r other client bytes rest)
    keeps_brought bytes rest split there = record {
      world_is = refl;
      holds = λ sent got h. one_holds r.world (ToSend other bytes) _ _ sent got
          (after_doing number r.world (with_client r.clients other (record client { leaving = rest })) sent got (if number == other then bytes else [])
          (swapped (record client { leaving = rest }) bytes (λ s b p. client_brings over client s b p bytes rest split) sent got h)
          (ToSend other bytes) (λ c e. there_brings number r.world other bytes (r.world.places other) there));
    }

  -- ## It begins

  module _ (r : Replay) (other : ℕ) (claim : Claim) (local : claim.local ≡ true) (none : r.world.places other ≡ None) where
    abbrev opens : Gone
    opens = going Open Nothing r.world.common 0 (session other) no_bytes

    abbrev done : Move
    done = opening r.world other (r.world.places other)

    abbrev begins_with : Move → Client
    begins_with m = new_client claim (packets_text (sends_in (moved r.world m).lines))

    module _ (sent : List Sent) (bytes : List ℕ) (h : HoldsIn number r sent bytes) where
      abbrev Begun : Move → Type 0
      Begun m = Holds ((moved r.world m).world.places number) (Some (begins_with m)) (sent ++ sends_in (lines_of number m)) (bytes ++ bytes_of number m) []

      abbrev BegunIf : Bool → Type 0
      BegunIf test = Holds (if test then Some (place_of Open opens) else r.world.places number) (Some (begins_with (GoesOn other Open [] opens)))
          (sent ++ sends_in (if test then opens.lines else [])) (bytes ++ (if test then [] else [])) []

      some_new : (a c : Client) → Some a ≡ Some c → a ≡ c
      some_new a c e = cc

      begun_here : number ≡ other → BegunIf true
      begun_here same =
          let (no-sent, no-got) = h.unplaced (ap r.world.places same ∙ none) in
          record {
            unplaced = λ e. absurd (cc);
            peer = λ c e.
                subst (λ (x : Client). IsPeer (is_over opens.at) x (sent ++ sends_in opens.lines) (bytes ++ []) []) (some_new _ c e)
                (subst (λ (s : List Sent). IsPeer (is_over opens.at) (new_client claim (packets_text (sends_in opens.lines))) (s ++ sends_in opens.lines) (bytes ++ []) []) (sym no-sent)
                (subst (λ (b : List ℕ). IsPeer (is_over opens.at) (new_client claim (packets_text (sends_in opens.lines))) (sends_in opens.lines) (b ++ []) []) (sym no-got)
                (client_begins (is_over opens.at) claim (sends_in opens.lines) local)));
          }

      begun_own : number ≡ other → (number == other) ≡ true → Begun done
      begun_own same test =
          subst (λ (found : Option Place). Begun (opening r.world other found)) (sym none) (subst BegunIf (sym test) (begun_here same))

      -- another session is as it was
      elsewhere : (number == other) ≡ false → Holds ((does r.world (ToOpen other)).world.places number) (r.clients number)
          (sent ++ sends_in (lines_of number done)) (bytes ++ bytes_of number done) []
      elsewhere test =
          subst (λ (client : Option Client). Holds ((does r.world (ToOpen other)).world.places number) client (sent ++ sends_in (lines_of number done)) (bytes ++ bytes_of number done) [])
          (ap (λ (b : Bool). if b then option_map (sent_to (packets_text (sends_in (does r.world (ToOpen other)).lines))) (r.clients number) else r.clients number) test)
          (after_doing number r.world r.clients sent bytes [] h (ToOpen other) (λ c e. opening_brings number r.world other (r.world.places other)))

      abbrev BegunAt : Bool → Type 0
      BegunAt test = Holds ((does r.world (ToOpen other)).world.places number) (if test then Some (begins_with done) else r.clients number)
          (sent ++ sends_in (lines_of number done)) (bytes ++ bytes_of number done) []

      begun_holds : Holds ((does r.world (ToOpen other)).world.places number) (with_client r.clients other (begins_with done) number)
          (sent ++ sends_in (lines_of number done)) (bytes ++ bytes_of number done) []
      begun_holds = by (eqb_tells number other) where
        by : (((number == other) ≡ true) × (number ≡ other)) ⊎ (((number == other) ≡ false) × (number ≢ other)) → BegunAt (number == other)
        by (inl e) = subst BegunAt (sym e.0) (begun_own e.1 e.0)
        by (inr e) = subst BegunAt (sym e.0) (elsewhere e.0)

    keeps_begun : Keeps number r (begun_with r other claim (does r.world (ToOpen other)))
    keeps_begun = record {
      world_is = refl;
      holds = λ sent bytes h. one_holds r.world (ToOpen other) _ _ sent bytes (begun_holds sent bytes h);
    }

  keeps_begins : (r : Replay) (other : ℕ) (claim : Claim) → claim.local ≡ true → Keeps number r (begins r other claim)
  keeps_begins r other claim local = by (r.world.places other) refl where
    by : (found : Option Place) → r.world.places other ≡ found →
        Keeps number r (if is_some found then idles r other else begun_with r other claim (does r.world (ToOpen other)))
    by None e = keeps_begun r other claim local e
    by (Some place) e = keeps_idle r other

  -- ## Events

  -- the peer of a session sends bytes, where that is no client
  keeps_sends : (r : Replay) (other : ℕ) (bytes : List ℕ) (found : Option Client) → r.clients other ≡ found → Keeps number r (sends r other bytes found)
  keeps_sends r other bytes (Some client) e = keeps_idle r other
  keeps_sends r other bytes None e = keeps_done r (ToSend other bytes) (λ c is. by c is (eqb_tells number other)) where
    by : (c : Client) → r.clients number ≡ Some c → (((number == other) ≡ true) × (number ≡ other)) ⊎ (((number == other) ≡ false) × (number ≢ other)) →
        bytes_of number (move r.world (ToSend other bytes)) ≡ []
    by c is (inl same) = absurd (let f = sym (ap r.clients same.1 ∙ e) ∙ is in cc)
    by c is (inr differs) = sending_brings number r.world other bytes (r.world.places other) differs.0

  keeps_ups : (r : Replay) (other most : ℕ) (found : Option Client) → r.clients other ≡ found → Keeps number r (ups r other most found)
  keeps_ups r other most None e = keeps_idle r other
  keeps_ups r other most (Some client) e = by (is_there_at (r.world.places other)) (has_bytes client.leaving) refl where
    by : (there has : Bool) → is_there_at (r.world.places other) ≡ there →
        Keeps number r (if there then (if has then brings r other client (take most client.leaving) (drop most client.leaving) else idles r other) else idles r other)
    by true true is = keeps_brought r other client e (take most client.leaving) (drop most client.leaving) (sym (take-append-drop most client.leaving)) is
    by true false is = keeps_idle r other
    by false has is = keeps_idle r other

  cut_off_when : (over : Bool) (result : Option LoginEnd) → is_cut_off over result ≡ true → (over ≡ true) × (result ≡ None)
  cut_off_when true None e = (refl, refl)
  cut_off_when true (Some how) e = absurd (cc)
  cut_off_when false result e = absurd (cc)

  without_bytes : (bytes : List ℕ) → has_bytes bytes ≡ false → bytes ≡ []
  without_bytes [] e = refl
  without_bytes (b ∷ bytes) e = absurd (cc)

  keeps_cut_when : (r : Replay) (other : ℕ) (client : Client) → r.clients other ≡ Some client → has_bytes client.coming ≡ false →
      is_cut_off (is_over_at (r.world.places other)) client.result ≡ true → Keeps number r (cuts_off r other client)
  keeps_cut_when r other client e none is =
      let (over, result) = cut_off_when (is_over_at (r.world.places other)) client.result is in
      keeps_cut r other client e over result (without_bytes client.coming none)

  keeps_downs : (r : Replay) (other most : ℕ) (found : Option Client) → r.clients other ≡ found → Keeps number r (downs r other most found)
  keeps_downs r other most None e = keeps_idle r other
  keeps_downs r other most (Some client) e = by (has_bytes client.coming) (is_cut_off (is_over_at (r.world.places other)) client.result) refl refl where
    by : (has cut : Bool) → has_bytes client.coming ≡ has → is_cut_off (is_over_at (r.world.places other)) client.result ≡ cut →
        Keeps number r (if has then gets r other client (take most client.coming) (drop most client.coming) else (if cut then cuts_off r other client else idles r other))
    by true cut has is = keeps_gets r other client e (take most client.coming) (drop most client.coming) (sym (take-append-drop most client.coming))
    by false true has is = keeps_cut_when r other client e has is
    by false false has is = keeps_idle r other

  keeps_writes : (r : Replay) (other : ℕ) (payload : List ℕ) (found : Option Client) → r.clients other ≡ found → Keeps number r (writes r other payload found)
  keeps_writes r other payload None e = keeps_idle r other
  keeps_writes r other payload (Some client) e = by (is_there_at (r.world.places other)) (is_in client.result) refl where
    by : (there within : Bool) → is_in client.result ≡ within →
        Keeps number r (if there then (if within then alters r other (record client { leaving = client.leaving ++ packet_text 0 payload }) [] else idles r other) else idles r other)
    by true true is = keeps_written r other client e (packet_text 0 payload) is
    by true false is = keeps_idle r other
    by false within is = keeps_idle r other

  -- ## Running

  abbrev task_by : (waiting has cut there leaves : Bool) → Task
  task_by waiting has cut there leaves =
      if waiting then Answers else (if has then GoesDown else (if cut then CutsOff else (if there then (if leaves then GoesUp else Rests) else Rests)))

  goes_up_when : (waiting has cut there leaves : Bool) → task_by waiting has cut there leaves ≡ GoesUp → there ≡ true
  goes_up_when true has cut there leaves e = absurd (cc)
  goes_up_when false true cut there leaves e = absurd (cc)
  goes_up_when false false true there leaves e = absurd (cc)
  goes_up_when false false false true leaves e = refl
  goes_up_when false false false false leaves e = absurd (cc)

  cuts_off_when : (waiting has cut there leaves : Bool) → task_by waiting has cut there leaves ≡ CutsOff → (has ≡ false) × (cut ≡ true)
  cuts_off_when true has cut there leaves e = absurd (cc)
  cuts_off_when false true cut there leaves e = absurd (cc)
  cuts_off_when false false true there leaves e = (refl, refl)
  cuts_off_when false false false true true e = absurd (cc)
  cuts_off_when false false false true false e = absurd (cc)
  cuts_off_when false false false false leaves e = absurd (cc)

  keeps_down : (r : Replay) (other : ℕ) (found : Option Client) → r.clients other ≡ found → Keeps number r (all_down r other found)
  keeps_down r other None e = keeps_nothing r
  keeps_down r other (Some client) e = keeps_gets r other client e client.coming [] (sym (append-nil client.coming))

  keeps_up : (r : Replay) (other : ℕ) (found : Option Client) → r.clients other ≡ found → task_of (r.world.places other) found ≡ GoesUp → Keeps number r (all_up r other found)
  keeps_up r other None e is = keeps_nothing r
  keeps_up r other (Some client) e is = keeps_brought r other client e client.leaving [] (sym (append-nil client.leaving))
      (goes_up_when (waits_at (r.world.places other)) (has_bytes client.coming) (is_cut_off (is_over_at (r.world.places other)) client.result)
      (is_there_at (r.world.places other)) (has_bytes client.leaving) is)

  keeps_cut_off : (r : Replay) (other : ℕ) (found : Option Client) → r.clients other ≡ found → task_of (r.world.places other) found ≡ CutsOff → Keeps number r (cut_off r other found)
  keeps_cut_off r other None e is = keeps_nothing r
  keeps_cut_off r other (Some client) e is =
      let (none, cut) = cuts_off_when (waits_at (r.world.places other)) (has_bytes client.coming) (is_cut_off (is_over_at (r.world.places other)) client.result)
      (is_there_at (r.world.places other)) (has_bytes client.leaving) is in
      keeps_cut_when r other client e none cut

  keeps_turn : (r : Replay) (other : ℕ) (t : Task) → task r other ≡ t → Keeps number r (turns r other t)
  unfolding IsSending
  keeps_turn r other Answers e = keeps_doing r (ToCall other All) (λ is. is)
  keeps_turn r other GoesDown e = keeps_down r other (r.clients other) refl
  keeps_turn r other GoesUp e = keeps_up r other (r.clients other) refl e
  keeps_turn r other CutsOff e = keeps_cut_off r other (r.clients other) refl e
  keeps_turn r other Rests e = keeps_nothing r

  keeps_runs : (count : ℕ) (r : Replay) (other : ℕ) → Keeps number r (runs count r other)
  unfolding runs
  keeps_runs zero r other = keeps_nothing r
  keeps_runs (suc more) r other =
      keeps_both r (turns r other (task r other)) (runs more (turns r other (task r other)).replay other) (keeps_turn r other (task r other) refl)
      (keeps_runs more (turns r other (task r other)).replay other)

  keeps_running : (r : Replay) (other : ℕ) (t : Task) → Keeps number r (running r other t)
  keeps_running r other Rests = keeps_idle r other
  keeps_running r other Answers = keeps_runs most_turns r other
  keeps_running r other GoesDown = keeps_runs most_turns r other
  keeps_running r other GoesUp = keeps_runs most_turns r other
  keeps_running r other CutsOff = keeps_runs most_turns r other

  keeps_administers : (r : Replay) (read : Result Statement ℕ) → Keeps number r (administers r read)
  unfolding IsSending
  keeps_administers r (Err place) = let k : Keeps number r (nothing r) = keeps_nothing r in record { world_is = k.world_is; holds = k.holds }
  keeps_administers r (Ok statement) = keeps_doing r (ToExecute statement) (λ is. is)

  -- ## All events

  pub keeps_happening : (r : Replay) (what : Event) → Keeps number r (happens r what)
  unfolding IsSending
  keeps_happening r (event.Clock reading) = keeps_doing r (ToSet reading) (λ is. is)
  keeps_happening r (event.Admin text) = keeps_administers r (statement_in text)
  keeps_happening r (event.Open other) = keeps_doing r (ToOpen other) (λ is. is)
  keeps_happening r (event.Client other flags user secrets) = keeps_begins r other (claim_of flags user secrets) refl
  keeps_happening r (event.FromPeer other bytes) = keeps_sends r other bytes (r.clients other) refl
  keeps_happening r (event.Up other most) = keeps_ups r other most (r.clients other) refl
  keeps_happening r (event.Down other most) = keeps_downs r other most (r.clients other) refl
  keeps_happening r (event.Step other) = keeps_doing r (ToCall other One) (λ is. is)
  keeps_happening r (event.Run other) = keeps_running r other (task r other)
  keeps_happening r (event.Say other text) = keeps_writes r other (0x03 ∷ text) (r.clients other) refl
  keeps_happening r (event.Command other payload) = keeps_writes r other payload (r.clients other) refl
  keeps_happening r (event.Close other) = keeps_doing r (ToLeave other peer.Closed) (λ is. is)
  keeps_happening r (event.Cut other) = keeps_doing r (ToLeave other peer.Failed) (λ is. is)
  keeps_happening r event.FailKeeper = keeps_doing r ToFail (λ is. is)

  abbrev came_after : Replay → List Event → Came
  came_after r events = record { replay = after_events r events; printed = []; doings = all_doings r events }

  pub keeps_events : (r : Replay) (events : List Event) → Keeps number r (came_after r events)
  keeps_events r [] = keeps_nothing r
  keeps_events r (first ∷ events) =
      let k : Keeps number r (followed_by (happens r first) (came_after (happens r first).replay events)) =
      keeps_both r (happens r first) (came_after (happens r first).replay events) (keeps_happening r first) (keeps_events (happens r first).replay events) in
      record { world_is = k.world_is; holds = k.holds }
