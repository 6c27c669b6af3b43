use Rattle.std.proofs.Common.{sym, subst, List, [], ℕ}
use Rattle.packet_frame.specs.Framing.{Framing, new_framing}
use Rattle.packet_frame.specs.declared.packets.Want.TheVariants.{Any}
use Rattle.loginctl.specs.Listing.{HasRead}
use Rattle.loginctl.proofs.Packets.{read-nothing}
use Rattle.loginctl.proofs.frames.Listing.new.Goals as goal

pub returns-clause-read : goal.returns-clause-read
returns-clause-read c =
    subst (λ (f : Framing). HasRead [] [] (record { frames = f; count = 0; lines = c.new-2.result })) (sym c.new.ensures.starts)
    (subst (λ (t : List ℕ). HasRead [] [] (record { frames = new_framing 50331645 Any; count = 0; lines = t })) (sym c.new-2.ensures) read-nothing)
