-- A session and its client over all that is done: the client stays that session's peer.
use Rattle.std.proofs.Common.{◌≡◌, ◌≢◌, refl, ap, sym, ◌∙◌, subst, ℕ, ◌==◌, ◌⊎◌, inl, inr, if◌then◌else◌, Bool, true, false, List, [], ◌∷◌, ◌++◌, append-nil, Option, Some, None, option_map}
use Rattle.std.proofs.lemmas.Bool.Decides.{eqb_tells}
use Rattle.packet_stream.specs.Streams.{with_more}
use Rattle.session_talk.specs.Logins.{session}
use Rattle.packet_stream.specs.Sent.{Sent}
use Rattle.interaction.specs.Talk.{Over}
use Rattle.session_talk.specs.Talk.{SessionTalk}
use Rattle.session_talk.specs.Transcript.{ended}
use Rattle.packet_stream.specs.Packing.{packets_text}
use Rattle.world_table.specs.Printing.{Idle}
use Rattle.session_world.specs.declared.calls.Calls.{Calls}
use Rattle.session_world.specs.declared.calls.Calls.TheVariants.{Nothing}
use Rattle.session_world.specs.declared.calls.Peer.{Peer}
use Rattle.session_world.specs.declared.calls.Peer.TheVariants.{Open, Closed, Failed}
use Rattle.session_world.specs.Going.{Gone, going}
use Rattle.session_world.specs.Lines.{sends_in}
use Rattle.session_world.specs.Replays.{session_of, with_sent}
use Rattle.client_wire.specs.UnderWay.{Client, sent_to}
use Rattle.session_world.specs.Transcripts.{as_told, bytes_of, lines_of}
use Rattle.session_world.specs.Worlds.{Doing, Executes, GoesOn, IsIdle, Move, Place, Sets, ToCall, ToExecute, ToFail, ToIdle, ToLeave, ToOpen, ToSend, ToSet, World, calling, does, is_over, is_over_at, is_there, leaving, move, moved, no_bytes, opening, place_of, sending, waits}
use Rattle.world_table.specs.Statements.{Administered, administered}
use Rattle.session_world.proofs.Administering.{sends_none}
use Rattle.session_world.proofs.Moving.{Waits, of_doing}
use Rattle.session_world.proofs.Peering.{IsPeer, session_goes}

-- a session of some number has sent and got this, if it has begun, and its client is its peer, if it has one
pub record Holds (found : Option Place) (client : Option Client) (sent : List Sent) (bytes pending : List ℕ) : Type 0 where
  pub unplaced : found ≡ None → (sent ≡ []) × (bytes ≡ [])
  pub peer : (c : Client) → client ≡ Some c → IsPeer (is_over_at found) c sent bytes pending

some_client : (a b : Client) → Some a ≡ Some b → a ≡ b
some_client a b e = cc

over_waits : (place : Place) → Waits place → is_over_at (Some place) ≡ true → ⊥
over_waits place ready e = by place.peer place.at (ready place.unread) e where
  by : (peer : Peer) (at : SessionTalk) → ended (as_told peer) at place.unread ≡ None → is_over at ≡ true → ⊥
  by Open (Over how) f is = absurd (cc)
  by Closed (Over how) f is = absurd (cc)
  by Failed (Over how) f is = absurd (cc)
  by _ _ f is = absurd (cc)

-- ## Something is done

module _ (number : ℕ) (w : World) (clients : ℕ → Option Client) (sent : List Sent) (bytes pending : List ℕ)
    (holds : Holds (w.places number) (clients number) sent bytes pending) where
  -- where it has a client, these bytes of it were about to come
  abbrev pub Brings : List ℕ → Type 0
  Brings got = (c : Client) → clients number ≡ Some c → got ≡ pending

  here : (later : Option Place) (more : List Sent) (got : List ℕ) → (later ≡ None → (sent ++ more ≡ []) × (bytes ++ got ≡ [])) →
      (is_over_at (w.places number) ≡ true → (more ≡ []) × (is_over_at later ≡ true)) → Brings got →
      Holds later (option_map (sent_to (packets_text more)) (clients number)) (sent ++ more) (bytes ++ got) []
  here later more got unplaced stays brings = record { unplaced = unplaced; peer = λ c is. by (clients number) refl c is } where
    by : (client : Option Client) → clients number ≡ client → (c : Client) → option_map (sent_to (packets_text more)) client ≡ Some c →
        IsPeer (is_over_at later) c (sent ++ more) (bytes ++ got) []
    by None e c is = absurd (cc)
    by (Some old) e c is =
        subst (λ (now : Client). IsPeer (is_over_at later) now (sent ++ more) (bytes ++ got) []) (some_client _ c is)
        (subst (λ (b : List ℕ). IsPeer (is_over_at later) (sent_to (packets_text more) old) (sent ++ more) (bytes ++ b) []) (sym (brings old e))
        (session_goes (is_over_at (w.places number)) (is_over_at later) old sent more bytes pending stays (holds.peer old e)))

  there : Brings [] → Holds (w.places number) (clients number) (sent ++ []) (bytes ++ []) []
  there brings =
      subst (λ (s : List Sent). Holds (w.places number) (clients number) s (bytes ++ []) []) (sym (append-nil sent))
      (subst (λ (b : List ℕ). Holds (w.places number) (clients number) sent b []) (sym (append-nil bytes))
      (record {
        unplaced = holds.unplaced;
        peer = λ c is. subst (λ (b : List ℕ). IsPeer (is_over_at (w.places number)) c sent bytes b) (sym (brings c is)) (holds.peer c is);
      }))

  nothing_unplaced : w.places number ≡ None → (sent ++ [] ≡ []) × (bytes ++ [] ≡ [])
  nothing_unplaced e = let (none, none') = holds.unplaced e in (append-nil sent ∙ none, append-nil bytes ∙ none')

  nothing_here : Brings [] → Holds (w.places number) (option_map (sent_to (packets_text [])) (clients number)) (sent ++ []) (bytes ++ []) []
  nothing_here brings = here (w.places number) [] [] nothing_unplaced (λ over. (refl, over)) brings

  abbrev sent_if : Bool → List ℕ → Option Client
  sent_if test text = if test then option_map (sent_to text) (clients number) else clients number

  sets_holds : (test : Bool) → Brings [] → Holds (w.places number) (sent_if test (packets_text [])) (sent ++ []) (bytes ++ []) []
  sets_holds true brings = nothing_here brings
  sets_holds false brings = there brings

  idle_holds : (test : Bool) → Brings [] →
      Holds (w.places number) (sent_if test (packets_text [])) (sent ++ sends_in (if test then Idle ∷ [] else [])) (bytes ++ []) []
  idle_holds true brings = nothing_here brings
  idle_holds false brings = there brings

  -- a statement of the administrator sends nothing
  executes_holds : (did : Administered) → sends_in did.lines ≡ [] → (test : Bool) → Brings [] →
      Holds (w.places number) (sent_if test (packets_text (sends_in did.lines))) (sent ++ sends_in (if test then did.lines else [])) (bytes ++ []) []
  executes_holds did none true brings =
      subst (λ (more : List Sent). Holds (w.places number) (sent_if true (packets_text more)) (sent ++ more) (bytes ++ []) []) (sym none) (nothing_here brings)
  executes_holds did none false brings = there brings

  -- it is done to this session or to another
  abbrev GoesIf : (peer : Peer) (more : List ℕ) → Gone → Bool → Type 0
  GoesIf peer more g test =
      Brings (if test then more else []) →
      Holds (if test then Some (place_of peer g) else w.places number) (sent_if test (packets_text (sends_in g.lines)))
      (sent ++ sends_in (if test then g.lines else [])) (bytes ++ (if test then more else [])) []

  by_number : (other : ℕ) (peer : Peer) (more : List ℕ) (g : Gone) → (number ≡ other → is_over_at (w.places number) ≡ true → ⊥) → GoesIf peer more g (number == other)
  by_number other peer more g waiting = by (eqb_tells number other) where
    by : (((number == other) ≡ true) × (number ≡ other)) ⊎ (((number == other) ≡ false) × (number ≢ other)) → GoesIf peer more g (number == other)
    by (inl e) = subst (GoesIf peer more g) (sym e.0)
        (λ brings. here (Some (place_of peer g)) (sends_in g.lines) more (λ none. absurd (cc)) (λ over. absurd (waiting e.1 over)) brings)
    by (inr e) = subst (GoesIf peer more g) (sym e.0) there

  abbrev After : Move → Type 0
  After m =
      Brings (bytes_of number m) →
      Holds ((moved w m).world.places number) (with_sent clients (moved w m).session (packets_text (sends_in (moved w m).lines)) number)
      (sent ++ sends_in (lines_of number m)) (bytes ++ bytes_of number m) []

  not_over : (other : ℕ) (found : Option Place) → w.places other ≡ found → (is_over_at found ≡ true → ⊥) → number ≡ other → is_over_at (w.places number) ≡ true → ⊥
  not_over other found e none same over = none (sym (ap (λ (p : Option Place). is_over_at p) (ap w.places same ∙ e)) ∙ over)

  after_move : (doing : Doing) → After (move w doing)
  after_move doing = of_doing w After (record {
    sets = λ common same. sets_holds (number == 0);
    executes = λ statement. executes_holds (administered w.common statement) (sends_none w.common statement) (number == 0);
    idles = λ other. idle_holds (number == other);
    opens = λ other e. by_number other Open [] (going Open Nothing w.common 0 (session other) no_bytes) (not_over other None e (λ is. absurd (cc)));
    goes = λ other place peer calls more e ready.
        by_number other peer more (going peer calls w.common place.next place.at (with_more place.unread more)) (not_over other (Some place) e (over_waits place ready));
  }) doing

  -- what is done is done to the session that it names
  if_session : (other : ℕ) (may : Bool) (peer : Peer) (more : List ℕ) (g : Gone) → (moved w (if may then GoesOn other peer more g else IsIdle other)).session ≡ other
  if_session other true peer more g = refl
  if_session other false peer more g = refl

  opens_session : (other : ℕ) (found : Option Place) → (moved w (opening w other found)).session ≡ other
  opens_session other None = refl
  opens_session other (Some place) = refl

  called_session : (other : ℕ) (calls : Calls) (found : Option Place) → (moved w (calling w other calls found)).session ≡ other
  called_session other calls None = refl
  called_session other calls (Some place) = if_session other (waits place.at) place.peer [] _

  sent_session : (other : ℕ) (more : List ℕ) (found : Option Place) → (moved w (sending w other more found)).session ≡ other
  sent_session other more None = refl
  sent_session other more (Some place) = if_session other (is_there place.at place.peer) place.peer more _

  left_session : (other : ℕ) (peer : Peer) (found : Option Place) → (moved w (leaving w other peer found)).session ≡ other
  left_session other peer None = refl
  left_session other peer (Some place) = if_session other (is_there place.at place.peer) peer [] _

  same_session : (doing : Doing) → (does w doing).session ≡ session_of doing
  same_session (ToSet reading) = refl
  same_session ToFail = refl
  same_session (ToExecute statement) = refl
  same_session (ToOpen other) = opens_session other (w.places other)
  same_session (ToSend other more) = sent_session other more (w.places other)
  same_session (ToCall other calls) = called_session other calls (w.places other)
  same_session (ToLeave other peer) = left_session other peer (w.places other)
  same_session (ToIdle other) = refl

  pub after_doing : (doing : Doing) → Brings (bytes_of number (move w doing)) →
      Holds ((does w doing).world.places number) (with_sent clients (session_of doing) (packets_text (sends_in (does w doing).lines)) number)
      (sent ++ sends_in (lines_of number (move w doing))) (bytes ++ bytes_of number (move w doing)) []
  after_doing doing brings =
      subst (λ (other : ℕ). Holds ((does w doing).world.places number) (with_sent clients other (packets_text (sends_in (does w doing).lines)) number)
      (sent ++ sends_in (lines_of number (move w doing))) (bytes ++ bytes_of number (move w doing)) [])
      (same_session doing) (after_move doing brings)
