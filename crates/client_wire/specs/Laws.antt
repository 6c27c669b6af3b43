-- What holds of every client over bytes.
use Rattle.std.specs.Prelude.{◌≡◌, ◌<◌, ℕ, List, ◌++◌, All}
use Rattle.packet_frame.specs.Streams.{Ending, Faulty}
use Rattle.packet_frame.specs.declared.packets.FrameFault.{FrameFault}
use Rattle.packet_stream.specs.Streams.{Stream, with_more}
use Rattle.login_client.specs.Exchange.{Ends, IsExchange, IsOpen, Waits}
use Rattle.login_client.specs.Talk.{Talk, IsWaiting, Over}
use Rattle.login_client.specs.declared.ends.LoginEnd.{LoginEnd}
use Rattle.login_client.specs.declared.ends.LoginEnd.TheVariants.{Framing}
use Rattle.client_wire.specs.Getting.{Got, after_written, getting}

-- However the bytes are cut, it comes to the same: for further bytes a client writes what it wrote before, and what it
-- writes for them from where it then stood.
abbrev pub GettingGoesOn : Type 0
GettingGoesOn =
    (next : ℕ) (t : Talk) (stream : Stream) (more : List ℕ) →
    let before = getting next t stream in
    getting next t (with_more stream more) ≡ after_written before.sent (getting before.next before.at (with_more before.unread more))

-- What came of bytes is an exchange: the talk came to its end, and what stands behind isn't read; or the bytes show a
-- fault of framing; or the talk waits for a further packet.
pub data ComesTo (t : Talk) (next place : ℕ) (bytes : List ℕ) (g : Got) : Type 0 where
  ends : (got behind : List ℕ) (end : LoginEnd) → bytes ≡ got ++ behind → g.at ≡ Over end
      → IsExchange t next place got g.sent (Ends end) → ComesTo t next place bytes g
  faults : (fault : FrameFault) → g.at ≡ Over (Framing fault)
      → IsExchange t next place bytes g.sent (Waits (Faulty fault)) → ComesTo t next place bytes g
  waits : (ending : Ending) → IsOpen ending → IsWaiting g.at
      → IsExchange t next place bytes g.sent (Waits ending) → ComesTo t next place bytes g

abbrev pub GettingIsExchange : Type 0
GettingIsExchange =
    (next : ℕ) (t : Talk) (stream : Stream) → All (λ x. x < 256) stream.bytes →
    ComesTo t next stream.place stream.bytes (getting next t stream)
