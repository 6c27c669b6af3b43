-- Steps of a loop that feeds a reader and takes its packets out.
use Rattle.std.proofs.Common.{◌≡◌, ℕ, ◌+◌, ◌≤◌, List, [], ◌∷◌, ◌++◌, length, take, sym, ap, ◌∙◌, subst, arith, length-append}
use Rattle.std.proofs.lemmas.List.{length-take}
use Rattle.packet_frame.specs.declared.packets.Want.{Want}
use Rattle.packet_frame.specs.declared.packets.Packet.{Packet}
use Rattle.packet_frame.specs.Front.{Part}
use Rattle.packet_frame.specs.Framing.{Framing, place_of, front_of, missing_of, with_bytes, due_bytes, after_expect, Takes, TakesPacket}
use Rattle.packet_frame.specs.Streams.{HasGiven}
use Rattle.packet_frame.proofs.Fronts.{front-nothing}
use Rattle.packet_frame.proofs.Streams.{due-is-taken, given-with_bytes, given-taken}

-- what was taken of a piece are its first bytes
pub takes-first : (v : Framing) (piece : List ℕ) (count : ℕ) (w : Framing) → Takes v piece count w → w ≡ with_bytes v (take count piece)
takes-first v piece count w takes =
    takes.grown ∙ ap (with_bytes v) (due-is-taken v piece ∙ ap (λ n. take n piece) (sym takes.counted))

pub takes-count : (v : Framing) (piece : List ℕ) (count : ℕ) (w : Framing) → Takes v piece count w → count ≤ length piece
takes-count v piece count w takes = omega (arith, takes.counted, length-take (missing_of (front_of v)) piece)

pub takes-place : (v : Framing) (piece : List ℕ) (count : ℕ) (w : Framing) → Takes v piece count w → place_of w ≡ place_of v + count
takes-place v piece count w takes =
    ap place_of takes.grown ∙ omega (arith, takes.counted, length-append v.held (due_bytes v piece))

-- the bytes so far, and what was given of them
pub takes-given : (limit : ℕ) (next : ℕ → Want) (want : Want) (bytes : List ℕ) (packets : List Packet) (v : Framing) (piece : List ℕ) (count : ℕ) (w : Framing) →
    HasGiven limit next want bytes packets v → Takes v piece count w → HasGiven limit next want (bytes ++ take count piece) packets w
takes-given limit next want bytes packets v piece count w h takes =
    subst (λ x. HasGiven limit next want (bytes ++ take count piece) packets x) (sym (takes-first v piece count w takes)) (given-with_bytes limit next want bytes packets v (take count piece) h)

-- a packet was taken out, and then another id was expected
pub expected-is : (v : Framing) (packet : Packet) (u : Framing) (want : Want) (x : Framing) → TakesPacket v packet u → x ≡ after_expect (front_of u) u want → x ≡ record u { want = want }
expected-is v packet u want x taken expected = expected ∙ ap (λ f. after_expect f u want) taken.between

pub expected-between : (v : Framing) (packet : Packet) (u : Framing) (want : Want) (x : Framing) → TakesPacket v packet u → x ≡ after_expect (front_of u) u want → front_of x ≡ Part 4
expected-between v packet u want x taken expected =
    let after = λ (y : Framing). let z : Framing = record y { want = want } in z in
    ap front_of (expected-is v packet u want x taken expected ∙ ap after taken.next_is) ∙ front-nothing v.limit want (place_of v)

pub expected-place : (v : Framing) (packet : Packet) (u : Framing) (want : Want) (x : Framing) → TakesPacket v packet u → x ≡ after_expect (front_of u) u want → place_of x ≡ place_of v
expected-place v packet u want x taken expected =
    ap place_of (expected-is v packet u want x taken expected) ∙ ap place_of taken.next_is ∙ omega arith

pub expected-given : (limit : ℕ) (next : ℕ → Want) (want : Want) (bytes : List ℕ) (packets : List Packet) (v : Framing) (packet : Packet) (u x : Framing) →
    HasGiven limit next want bytes packets v → TakesPacket v packet u → x ≡ after_expect (front_of u) u (next packet.last) →
    HasGiven limit next want bytes (packets ++ packet ∷ []) x
expected-given limit next want bytes packets v packet u x h taken expected =
    subst (λ y. HasGiven limit next want bytes (packets ++ packet ∷ []) y) (sym (expected-is v packet u (next packet.last) x taken expected))
    (given-taken limit next want bytes packets v packet u h taken)
