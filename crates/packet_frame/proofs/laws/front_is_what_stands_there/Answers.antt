use Rattle.std.proofs.Common.{subst}
use Rattle.packet_frame.specs.Front.{IsFront}
use Rattle.packet_frame.proofs.Readings.{front-only}
use Rattle.packet_frame.proofs.Shown.{front-stands}
use Rattle.packet_frame.proofs.laws.front_is_what_stands_there.Goals as goal

pub returns : goal.returns
returns c limit want place bytes found b =
    (front-only limit want place bytes found, λ is. subst (IsFront limit want place bytes) is (front-stands limit want place bytes b))
