-- What doings come to, each by its kind.
use Rattle.std.proofs.Common.{◌≡◌, refl, ap, subst, ℕ, Bool, true, false, if◌then◌else◌, List, [], append-nil, Option, Some, None}
use Rattle.packet_stream.specs.Streams.{Stream, with_more}
use Rattle.session_talk.specs.Logins.{session}
use Rattle.interaction.specs.Talk.{Asks, Over}
use Rattle.session_talk.specs.Talk.{Question, SessionTalk}
use Rattle.session_talk.specs.Transcript.{ended}
use Rattle.session_talk.specs.declared.inputs.Input.{Input}
use Rattle.session_world.specs.declared.calls.Calls.{Calls}
use Rattle.session_world.specs.declared.calls.Calls.TheVariants.{Nothing}
use Rattle.session_world.specs.declared.calls.Peer.{Peer}
use Rattle.session_world.specs.declared.calls.Peer.TheVariants.{Open, Closed, Failed}
use Rattle.session_world.specs.Going.{Gone, going}
use Rattle.session_world.specs.Transcripts.{as_told}
use Rattle.stmt_rules.specs.declared.statement.Statement.{Statement}
use Rattle.world_table.specs.Statements.{administered}
use Rattle.world_table.specs.Table.{Common, with_failure}
use Rattle.session_world.specs.Worlds.{Doing, GoesOn, IsIdle, Move, Executes, Place, Sets, ToCall, ToExecute, ToFail, ToIdle, ToLeave, ToOpen, ToSend, ToSet, World, calling, is_there, leaving, move, no_bytes, opening, sending, waits}

-- ## What holds of each

-- a session waits for more: bytes, the end of its peer, or a call
abbrev pub Waits : Place → Type 0
Waits place = (stream : Stream) → ended (as_told place.peer) place.at stream ≡ None

more_nothing : (stream : Stream) → with_more stream [] ≡ stream
more_nothing stream = ap (λ (bytes : List ℕ). record { place = stream.place; bytes = bytes }) (append-nil stream.bytes)

-- a session whose own side is asked hasn't ended, however its peer stands
pub asks_wait : (peer : Peer) (q : Question) (k : Input → SessionTalk) (stream : Stream) → ended (as_told peer) (Asks q k) stream ≡ None
asks_wait Open q k stream = refl
asks_wait Closed q k stream = refl
asks_wait Failed q k stream = refl

waits_called : (peer : Peer) (at : SessionTalk) → waits at ≡ true → (stream : Stream) → ended (as_told peer) at stream ≡ None
waits_called peer (Asks q k) e stream = asks_wait peer q k stream
waits_called peer _ e stream = absurd (cc)

waits_there : (peer : Peer) (at : SessionTalk) → is_there at peer ≡ true → (stream : Stream) → ended (as_told peer) at stream ≡ None
waits_there Open (Over how) e stream = absurd (cc)
waits_there Closed (Over how) e stream = absurd (cc)
waits_there Failed (Over how) e stream = absurd (cc)
waits_there Closed _ e stream = absurd (cc)
waits_there Failed _ e stream = absurd (cc)
waits_there Open _ e stream = refl

-- what holds of an doing's move, where it holds of each kind
pub record Each (w : World) (P : Move → Type 0) : Type 0 where
  pub sets : (common : Common) → common.log ≡ w.common.log → P (Sets common)
  pub executes : (statement : Statement) → P (Executes (administered w.common statement))
  pub idles : (number : ℕ) → P (IsIdle number)
  pub opens : (number : ℕ) → w.places number ≡ None → P (GoesOn number Open [] (going Open Nothing w.common 0 (session number) no_bytes))
  pub goes : (number : ℕ) (place : Place) (peer : Peer) (calls : Calls) (bytes : List ℕ) → w.places number ≡ Some place → Waits place →
      P (GoesOn number peer bytes (going peer calls w.common place.next place.at (with_more place.unread bytes)))

module _ (w : World) (P : Move → Type 0) (each : Each w P) where
  either : (number : ℕ) (peer : Peer) (bytes : List ℕ) (g : Gone) (may : Bool) → (may ≡ true → P (GoesOn number peer bytes g)) →
      P (if may then GoesOn number peer bytes g else IsIdle number)
  either number peer bytes g true goes_on = goes_on refl
  either number peer bytes g false goes_on = each.idles number

  without_more : (number : ℕ) (place : Place) (peer : Peer) (calls : Calls) → w.places number ≡ Some place → Waits place →
      P (GoesOn number peer [] (going peer calls w.common place.next place.at place.unread))
  without_more number place peer calls e ready =
      subst (λ (s : Stream). P (GoesOn number peer [] (going peer calls w.common place.next place.at s))) (more_nothing place.unread)
      (each.goes number place peer calls [] e ready)

  of_opening : (number : ℕ) (found : Option Place) → w.places number ≡ found → P (opening w number found)
  of_opening number None e = each.opens number e
  of_opening number (Some place) e = each.idles number

  of_calling : (number : ℕ) (calls : Calls) (found : Option Place) → w.places number ≡ found → P (calling w number calls found)
  of_calling number calls None e = each.idles number
  of_calling number calls (Some place) e =
      either number place.peer [] _ (waits place.at) (λ may. without_more number place place.peer calls e (waits_called place.peer place.at may))

  of_sending : (number : ℕ) (bytes : List ℕ) (found : Option Place) → w.places number ≡ found → P (sending w number bytes found)
  of_sending number bytes None e = each.idles number
  of_sending number bytes (Some place) e =
      either number place.peer bytes _ (is_there place.at place.peer)
      (λ may. each.goes number place place.peer Nothing bytes e (waits_there place.peer place.at may))

  of_leaving : (number : ℕ) (peer : Peer) (found : Option Place) → w.places number ≡ found → P (leaving w number peer found)
  of_leaving number peer None e = each.idles number
  of_leaving number peer (Some place) e =
      either number peer [] _ (is_there place.at place.peer)
      (λ may. without_more number place peer Nothing e (waits_there place.peer place.at may))

  pub of_doing : (doing : Doing) → P (move w doing)
  of_doing (ToSet reading) = each.sets (record w.common { clock = reading }) refl
  of_doing ToFail = each.sets (with_failure w.common) refl
  of_doing (ToExecute statement) = each.executes statement
  of_doing (ToOpen number) = of_opening number (w.places number) refl
  of_doing (ToSend number bytes) = of_sending number bytes (w.places number) refl
  of_doing (ToCall number calls) = of_calling number calls (w.places number) refl
  of_doing (ToLeave number peer) = of_leaving number peer (w.places number) refl
  of_doing (ToIdle number) = each.idles number
