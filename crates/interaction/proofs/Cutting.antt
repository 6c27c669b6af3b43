-- Over bytes, cutting them changes nothing, nor do further answers.
use Rattle.std.proofs.Common.{◌≡◌, refl, ap, ◌∙◌, ℕ, List, [], ◌∷◌, ◌++◌, Option, Some, None, IfSome}
use Rattle.packet_frame.specs.Front.{Front, Whole, Part, Fault, StaysWith}
use Rattle.packet_frame.specs.Packets.{id_after}
use Rattle.packet_stream.specs.Streams.{Stream, front_of, with_more}
use Rattle.packet_stream.proofs.Longer.{behind_more, stays}
use Rattle.interaction.specs.Handlers.{Open, Peer, answered_with, first_own, of_bytes, over_bytes, read_bytes, read_front, read_with, with_both, with_owns}
use Rattle.interaction.specs.Laws.{AnswersChangeNothing, CuttingChangesNothing}
use Rattle.interaction.specs.Runs.{Own, Read}
use Rattle.interaction.specs.Talk.{Got}
use Rattle.interaction.proofs.GoingOn.{runs_go_on}

-- what is read of the bytes while more may come, is read with more behind them
module _ (peer : Peer) (next wanted : ℕ) (stream : Stream) (more : List ℕ) where
  abbrev with_left : Stream → Stream
  with_left left = with_more left more

  front_grows : (f : Front) → StaysWith more f (front_of wanted (with_more stream more)) →
      IfSome (read_front Open next wanted stream f) (λ read. read_bytes peer next wanted (with_more stream more) ≡ read_with with_left (Some read))
  front_grows (Whole first last payload behind) e =
      ap (read_front peer next wanted (with_more stream more)) e
      ∙ ap (λ (left : Stream). Some (record { given = Got payload; next = id_after last; later = left })) (behind_more stream behind more)
  front_grows (Part missing) e = tt
  front_grows (Fault fault) e = ap (read_front peer next wanted (with_more stream more)) e

  pub reading_grows : IfSome (read_bytes Open next wanted stream) (λ read. read_bytes peer next wanted (with_more stream more) ≡ read_with with_left (Some read))
  reading_grows = front_grows (front_of wanted stream) (stays stream more wanted)

module _ {Answer Entry : Type 0} where
  own_grows : (grow : Stream → Stream) (stream : Stream) (owns others : List (Own Answer Entry)) →
      IfSome (answered_with (of_bytes stream) (first_own owns)) (λ answered.
      answered_with (of_bytes (grow stream)) (first_own (owns ++ others))
      ≡ answered_with (λ s. of_bytes (grow s.stream) (s.owns ++ others)) (Some answered))
  own_grows grow stream [] others = tt
  own_grows grow stream (own ∷ owns) others = refl

  read_grows : (grow : Stream → Stream) (owns others : List (Own Answer Entry)) (o p : Option (Read Stream)) →
      IfSome o (λ read. p ≡ read_with grow (Some read)) →
      IfSome (read_with (λ left. of_bytes left owns) o) (λ read.
      read_with (λ left. of_bytes left (owns ++ others)) p
      ≡ read_with (λ s. of_bytes (grow s.stream) (s.owns ++ others)) (Some read))
  read_grows grow owns others (Some read) p e = ap (read_with (λ left. of_bytes left (owns ++ others))) e
  read_grows grow owns others None p e = tt

same_read : (o : Option (Read Stream)) → IfSome o (λ read. o ≡ read_with (λ left. left) (Some read))
same_read (Some read) = refl
same_read None = tt

module _ {Question Answer Entry End : Type 0} where
  pub cutting_changes_nothing : CuttingChangesNothing Question Answer Entry End
  cutting_changes_nothing peer more others s next t =
      runs_go_on {Question = Question} (over_bytes Open) (over_bytes peer) (with_both more others) (record {
        reads = λ s next wanted. read_grows (λ left. with_more left more) s.owns others (read_bytes Open next wanted s.stream) (read_bytes peer next wanted (with_more s.stream more))
            (reading_grows peer next wanted s.stream more);
        answers = λ s question. own_grows (λ left. with_more left more) s.stream s.owns others;
      }) s next t

  pub answers_change_nothing : AnswersChangeNothing Question Answer Entry End
  answers_change_nothing peer others s next t =
      runs_go_on {Question = Question} (over_bytes peer) (over_bytes peer) (with_owns others) (record {
        reads = λ s next wanted. read_grows (λ left. left) s.owns others (read_bytes peer next wanted s.stream) (read_bytes peer next wanted s.stream)
            (same_read (read_bytes peer next wanted s.stream));
        answers = λ s question. own_grows (λ left. left) s.stream s.owns others;
      }) s next t
