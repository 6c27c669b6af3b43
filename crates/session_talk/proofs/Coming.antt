-- Bytes and the peer behind them give one input, or none where nothing more comes of them.
use Rattle.std.proofs.Common.{◌≡◌, ◌⊎◌, refl, ap, sym, ◌∙◌, inl, inr, IsTrue, ℕ, ◌==◌, not, Bool, [], length, Option, Some, None}
use Rattle.packet_frame.specs.Front.{Front, Whole, Part, Fault}
use Rattle.session_talk.specs.declared.actions.Ask.TheVariants as ask
use Rattle.session_talk.specs.declared.inputs.Input.{Input}
use Rattle.session_talk.specs.declared.inputs.Input.TheVariants as input
use Rattle.session_talk.specs.Given.{IsDone, Reads}
use Rattle.session_talk.specs.Laws.{ReadingIsDetermined}
use Rattle.session_talk.specs.Transcript.{Closed, Failed, Open, Peer}
use Rattle.session_talk.specs.Turns.{is_read}
use Rattle.packet_stream.specs.Streams.{Stream, behind_of, front_of}
use Rattle.session_talk.proofs.Asking.{untrue}

-- what comes of reading, and the bytes that are left
record Came : Type 0 where
  pub given : Input
  pub left : Stream

came_by : Peer → Stream → Front → Option Came
came_by peer stream (Whole first last payload behind) =
    Some (record { given = input.Packet (record { first = first; last = last; at = stream.place; payload = payload }); left = behind_of stream behind })
came_by peer stream (Fault fault) = Some (record { given = input.Frame fault; left = stream })
came_by Closed stream (Part missing) = Some (record { given = input.End (not (length stream.bytes == 0)); left = stream })
came_by Failed stream (Part missing) = Some (record { given = input.LinkFailed; left = stream })
came_by Open stream (Part missing) = None

nothing : Came
nothing = record { given = input.LinkFailed; left = record { place = 0; bytes = [] } }

the_one : Option Came → Came
the_one None = nothing
the_one (Some came) = came

same_one : (a b : Came) → Some a ≡ Some b → a ≡ b
unfolding the_one
same_one a b e = ap the_one e

-- what reading gives, is what comes
is_came : (peer : Peer) (want : ℕ) (stream : Stream) (given : Input) (left : Stream) → IsTrue (is_read given) → Reads peer want stream given left →
    came_by peer stream (front_of want stream) ≡ Some (record { given = given; left = left })
unfolding came_by
is_came peer want stream (input.Packet packet) left is reads =
    ap (came_by peer stream) reads.1
    ∙ (ap (λ (place : ℕ). Some (record { given = input.Packet (record packet { at = place }); left = behind_of stream reads.0 })) (sym reads.2)
    ∙ ap (λ (l : Stream). Some (record { given = input.Packet packet; left = l })) (sym reads.3))
is_came peer want stream (input.Frame fault) left is reads =
    ap (came_by peer stream) reads.0 ∙ ap (λ (l : Stream). Some (record { given = input.Frame fault; left = l })) (sym reads.1)
is_came peer want stream (input.End cut) left is reads =
    ap (came_by peer stream) reads.0.1
    ∙ (ap (λ (p : Peer). came_by p stream (Part reads.0.0)) reads.1
    ∙ (ap (λ (c : Bool). Some (record { given = input.End c; left = stream })) (sym reads.2)
    ∙ ap (λ (l : Stream). Some (record { given = input.End cut; left = l })) (sym reads.3)))
is_came peer want stream input.LinkFailed left is reads =
    ap (came_by peer stream) reads.0.1
    ∙ (ap (λ (p : Peer). came_by p stream (Part reads.0.0)) reads.1
    ∙ ap (λ (l : Stream). Some (record { given = input.LinkFailed; left = l })) (sym reads.2))
is_came peer want stream given left is reads = absurd (untrue is)

abbrev Comes : Peer → (want : ℕ) → Stream → Type 0
Comes peer want stream = IsDone peer (ask.Read want) stream ⊎ ((given : Input) × (left : Stream) × IsTrue (is_read given) × Reads peer want stream given left)

comes : (peer : Peer) (want : ℕ) (stream : Stream) (f : Front) → front_of want stream ≡ f → Comes peer want stream
comes peer want stream (Whole first last payload behind) e =
    inr (input.Packet (record { first = first; last = last; at = stream.place; payload = payload }), behind_of stream behind, refl, (behind, e, refl, refl))
comes peer want stream (Fault fault) e = inr (input.Frame fault, stream, refl, (e, refl))
comes Open want stream (Part missing) e = inl (refl, (missing, e))
comes Closed want stream (Part missing) e = inr (input.End (not (length stream.bytes == 0)), stream, refl, ((missing, e), refl, refl, refl))
comes Failed want stream (Part missing) e = inr (input.LinkFailed, stream, refl, ((missing, e), refl, refl))

none_some : (came : Came) → None ≡ Some came → ⊥
none_some came e = absurd (cc)

-- nothing comes of less than a packet while the peer is open
none_came : (peer : Peer) (want : ℕ) (stream : Stream) → IsDone peer (ask.Read want) stream → came_by peer stream (front_of want stream) ≡ None
unfolding came_by
none_came peer want stream done = ap (came_by peer stream) done.1.1 ∙ ap (λ (p : Peer). came_by p stream (Part done.1.0)) done.0

pub reading_is_determined : ReadingIsDetermined
reading_is_determined = record {
  comes = λ peer want stream. comes peer want stream (front_of want stream) refl;
  only_one = λ peer want stream given other left others is reads its other_reads.
      let same = same_one _ _ (sym (is_came peer want stream given left is reads) ∙ is_came peer want stream other others its other_reads) in
      (ap (λ (came : Came). came.given) same, ap (λ (came : Came). came.left) same);
  none_yet = λ peer want stream given left done is reads.
      none_some _ (sym (none_came peer want stream done) ∙ is_came peer want stream given left is reads);
}
