-- What stands at the front of a stream stays there with further bytes behind it.
use Rattle.std.proofs.Common.{◌≡◌, ap, ℕ, ◌+◌, ◌-◌, List, ◌++◌, length, length-append, arith}
use Rattle.packet_frame.specs.Front.{StaysWith}
use Rattle.packet_frame.specs.declared.packets.Want.TheVariants.{Exactly}
use Rattle.packet_frame.proofs.Longer.{front-stays}
use Rattle.packet_stream.specs.Streams.{Stream, behind_of, front_of, with_more}
use Rattle.packet_stream.specs.declared.limits.TheConstants.{MAX_PAYLOAD}

pub stays : (stream : Stream) (more : List ℕ) (wanted : ℕ) → StaysWith more (front_of wanted stream) (front_of wanted (with_more stream more))
stays stream more wanted = front-stays (length stream.bytes) MAX_PAYLOAD (Exactly wanted) stream.place stream.bytes more (omega arith)

-- the stream behind a packet, with more bytes
pub behind_more : (stream : Stream) (behind more : List ℕ) → behind_of (with_more stream more) (behind ++ more) ≡ with_more (behind_of stream behind) more
behind_more stream behind more = ap (λ (place : ℕ). record { place = place; bytes = behind ++ more })
    (same (length-append stream.bytes more) (length-append behind more))
  where
    same : length (stream.bytes ++ more) ≡ length stream.bytes + length more → length (behind ++ more) ≡ length behind + length more →
        stream.place + (length (stream.bytes ++ more) - length (behind ++ more)) ≡ stream.place + (length stream.bytes - length behind)
    same e f = omega (arith, e, f)
