-- What serving a session from one moment to another comes to.
use Rattle.std.specs.Prelude.{◌≡◌, ℕ, ◌+◌, ◌*◌, ◌≤◌, Bool, true, List, ◌++◌, length, take, Option, Some, None}
use Rattle.account_history.specs.declared.entries.Entry.{Entry}
use Rattle.link_packets.specs.Moving.{IsAtEnd, Moved}
use Rattle.packet_stream.specs.Packing.{packets_text}
use Rattle.packet_stream.specs.Sent.{Sent}
use Rattle.packet_stream.specs.Streams.{all_of}
use Rattle.session_talk.specs.Given.{asked_after}
use Rattle.session_talk.specs.Logins.{session}
use Rattle.session_talk.specs.Runs.{owns_in, packets_in}
use Rattle.session_talk.specs.Transcript.{Closed, Open, Peer, Transcript, read_of}
use Rattle.session_talk.specs.declared.ends.SessionEnd.{SessionEnd}
use Rattle.session_talk.specs.declared.ends.SessionEnd.TheVariants as end
use Rattle.session_talk.specs.declared.inputs.Input.{Input}
use Rattle.serve_talk.specs.Fitting.{IsDecided, is_call}
use Rattle.serve_talk.specs.Sides.{GaveAll, Grew, Moment, nonces_in}
use Rattle.serve_talk.specs.declared.endings.Ending.{Ending}
use Rattle.serve_talk.specs.declared.endings.Ending.TheVariants.{Told, BookEnd}

-- What was said in a session: its transcript, with the nonces and the salts that were drawn, and with at most five turns of
-- the book for each packet that was read.
pub record Spoke (id : ℕ) (peer : Peer) (bytes : List ℕ) (entries : List Entry) (sent : List Sent) (how : Option SessionEnd) (x y : Moment) : Type 0 where
  pub script : Transcript id peer bytes entries sent how
  pub drew : GaveAll x.side.draws y.side.draws (nonces_in script.owns)
  pub spent : y.side.drawn ≤ x.side.drawn + 5 * length (read_of 0 (session id) (all_of bytes) script.owns).packets

-- What was said in a session that came to a call of the accounts: it is what the session asks for after the packets and the
-- answers of its transcript.
pub record CameToCall (id : ℕ) (bytes : List ℕ) (entries : List Entry) (sent : List Sent) (x y : Moment) : Type 0 where
  pub spoke : Spoke id Open bytes entries sent None x y
  pub inputs : List Input
  pub answers : spoke.script.owns ≡ owns_in inputs
  pub packets : (read_of 0 (session id) (all_of bytes) spoke.script.owns).packets ≡ packets_in inputs
  pub asks : is_call (asked_after id inputs) ≡ true

-- an end that comes of the outside: of the link only where its count of faults rose
abbrev pub IsCause : (Rises : Type 0) → SessionEnd → Type 0
IsCause Rises end.LinkFault = Rises
IsCause Rises end.Memory = Unit {0}
IsCause Rises _ = ⊥

-- How a session ended that added these entries, by what its link and its own side told before and after.
pub data Finishes (id : ℕ) (entries : List Entry) (x y : Moment) (Rises : Type 0) : Ending → Type 0 where
  -- its talk was over by what it was sent and answered, whatever bytes stand behind those that were read
  decided : (got : List ℕ) (sent : List Sent) (how : SessionEnd) → IsDecided how → Moved x.link y.link got (packets_text sent)
      → ((behind : List ℕ) → Spoke id Open (got ++ behind) entries sent (Some how) x y) → Finishes id entries x y Rises (Told how)
  -- it waited for a packet at the end of what its peer sent
  closed : (got : List ℕ) (sent : List Sent) (cut : Bool) → Moved x.link y.link got (packets_text sent) → IsAtEnd y.link
      → Spoke id Closed got entries sent (Some (end.PeerClosed cut)) x y → Finishes id entries x y Rises (Told (end.PeerClosed cut))
  -- its link failed, or there was no memory: of what was due for the bytes that were taken a part was written
  broken : (taken behind : List ℕ) (sent : List Sent) (count : ℕ) (due : Option SessionEnd) (how : SessionEnd)
      → Moved x.link y.link (taken ++ behind) (take count (packets_text sent)) → IsCause Rises how
      → Spoke id Open taken entries sent due x y → Finishes id entries x y Rises (Told how)
  -- it came to a call for which no turn of the book was left
  book_end : (got : List ℕ) (sent : List Sent) → Moved x.link y.link got (packets_text sent) → y.side.ended ≡ true
      → ((behind : List ℕ) → CameToCall id (got ++ behind) entries sent x y) → Finishes id entries x y Rises BookEnd

-- A session was served: it ended so, and its own side went on by these entries alone.
pub record Serves (id : ℕ) (x y : Moment) (Rises : Type 0) (how : Ending) : Type 0 where
  pub entries : List Entry
  pub finishes : Finishes id entries x y Rises how
  pub nonces : List (List ℕ)
  pub grew : Grew x.side y.side entries nonces
