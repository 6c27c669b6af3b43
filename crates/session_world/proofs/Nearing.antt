-- A client comes nearer to its end with each packet that it hears, and writes nothing unless it hears one.
use Rattle.std.proofs.Common.{◌≡◌, refl, ℕ, zero, suc, ◌≤◌, ◌⊎◌, inl, inr, List, [], arith}
use Rattle.packet_frame.specs.Front.{Front, Whole, Part, Fault}
use Rattle.packet_frame.specs.Packets.{id_after}
use Rattle.packet_stream.specs.Sent.{id_behind}
use Rattle.packet_stream.specs.Streams.{Stream, behind_of, front_of}
use Rattle.login_client.specs.Exchange.{EndsWithin}
use Rattle.login_client.specs.Heard.{heard_of}
use Rattle.login_client.specs.Talk.{Talk, Hears, Says, Over}
use Rattle.login_client.specs.declared.hearing.Heard.{Heard}
use Rattle.client_wire.specs.Getting.{Got, getting}
use Rattle.client_wire.proofs.Fronted.{at_front}

-- a client that waits hears at most so many packets, and one that is over hears none
abbrev pub Nears : ℕ → Talk → Type 0
Nears n (Over end) = Unit {0}
Nears zero (Hears k) = ⊥
Nears (suc n) (Hears k) = (heard : Heard) → EndsWithin n (k heard)
Nears n (Says said k) = ⊥

-- so many or fewer
pub record Within (most : ℕ) (t : Talk) : Type 0 where
  pub hears : ℕ
  pub fewer : hears ≤ most
  pub near : Nears hears t

-- nothing was written, or a packet was heard
abbrev pub Heeds : (hears : ℕ) → Got → Type 0
Heeds zero g = (g.sent ≡ []) × Nears zero g.at
Heeds (suc hears) g = ((g.sent ≡ []) × Nears (suc hears) g.at) ⊎ Within hears g.at

module _ (n next : ℕ) (k : Heard → Talk) (stream : Stream) (near : (heard : Heard) → EndsWithin n (k heard)) where
  abbrev Again : Type 0
  Again = (last : ℕ) (payload : List ℕ) (s : Stream) → Within n (getting (id_after last) (k (heard_of payload)) s).at

  within_front : Again → (f : Front) → Within (suc n) (at_front next k stream f).at
  within_front again (Whole first last payload behind) =
      let w : Within n (getting (id_after last) (k (heard_of payload)) (behind_of stream behind)).at = again last payload (behind_of stream behind) in
      record { hears = w.hears; fewer = omega (arith, w.fewer); near = w.near }
  within_front again (Part missing) = record { hears = suc n; fewer = omega arith; near = near }
  within_front again (Fault fault) = record { hears = zero; fewer = omega arith; near = tt }

  heeds_front : Again → (f : Front) → Heeds (suc n) (at_front next k stream f)
  heeds_front again (Whole first last payload behind) = inr (again last payload (behind_of stream behind))
  heeds_front again (Part missing) = inl (refl, near)
  heeds_front again (Fault fault) = inl (refl, tt)

near_after : (n next : ℕ) (t : Talk) (stream : Stream) → EndsWithin n t → Within n (getting next t stream).at
unfolding getting
near_after zero next (Hears k) stream near = absurd near
near_after (suc n) next (Hears k) stream near =
    within_front n next k stream near (λ last payload s. near_after n (id_after last) (k (heard_of payload)) s (near (heard_of payload))) (front_of next stream)
near_after zero next (Says said k) stream near = absurd near
near_after (suc n) next (Says said k) stream near =
    within_front n (id_behind next said) k stream near
    (λ last payload s. near_after n (id_after last) (k (heard_of payload)) s (near (heard_of payload))) (front_of (id_behind next said) stream)
near_after n next (Over end) stream near = record { hears = n; fewer = omega arith; near = tt }

-- what comes of bytes to a client that waits or is over
pub heeds : (n next : ℕ) (t : Talk) (stream : Stream) → Nears n t → Heeds n (getting next t stream)
unfolding getting
heeds zero next (Hears k) stream near = absurd near
heeds (suc n) next (Hears k) stream near =
    heeds_front n next k stream near (λ last payload s. near_after n (id_after last) (k (heard_of payload)) s (near (heard_of payload))) (front_of next stream)
heeds n next (Says said k) stream near = absurd near
heeds zero next (Over end) stream near = (refl, tt)
heeds (suc n) next (Over end) stream near = inl (refl, tt)
