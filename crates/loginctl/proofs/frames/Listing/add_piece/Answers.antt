use Rattle.std.proofs.Common.{◌≡◌, sym, ap, ◌∙◌, subst, ℕ, ◌<◌, ◌≤◌, List, ◌++◌, length, Result, Ok, Err, IfOk, Bool, true, arith, length-append, append_assoc}
use Rattle.std.proofs.lemmas.Grind.{common_steps}
use Rattle.lg_base.specs.declared.allocation.Memory.{Memory}
use Rattle.packet_frame.specs.declared.packets.FrameFault.{FrameFault}
use Rattle.packet_frame.specs.declared.packets.FrameFault.TheVariants.{TooLarge, OutOfOrder}
use Rattle.loginctl.specs.Frames.{IsListed, bad_line}
use Rattle.loginctl.specs.Listing.{Stops}
use Rattle.loginctl.specs.declared.status.Status.TheVariants.{BadInput}
use Rattle.loginctl.proofs.Packets.{ends-out_of_order, ends-too_large, goes-past}
use Rattle.loginctl.proofs.frames.Listing.add_piece.Goals as goal

-- a piece in two, with something behind it
joined : (bytes front back piece rest : List ℕ) → piece ≡ front ++ back → (bytes ++ front) ++ (back ++ rest) ≡ (bytes ++ piece) ++ rest
joined bytes front back piece rest e =
    append_assoc bytes front (back ++ rest) ∙ ap (λ (b : List ℕ). bytes ++ b) (sym (append_assoc front back rest) ∙ ap (λ (b : List ℕ). b ++ rest) (sym e))
    ∙ sym (append_assoc bytes piece rest)

-- a last line was added, so the input is listed
listed-if : (answer : Result Bool Memory) (input written old new last : List ℕ) → (new ≡ old ++ last → IsListed input BadInput (written ++ new))
    → IfOk answer (λ bad. (bad ≡ true) × (new ≡ old ++ last)) → IfOk answer (λ bad. bad ≡ true → IsListed input BadInput (written ++ new))
listed-if (Ok bad) input written old new last f h = λ _. f h.1
listed-if (Err e) input written old new last f h = h

pub returns-in-Err-TooLarge-clause-bad : goal.returns-in-Err-TooLarge-clause-bad
returns-in-Err-TooLarge-clause-bad c bytes written rest h =
    let front = c.split_within.result.0.now in
    let back = c.split_within.result.1.now in
    let short : length (bytes ++ front) ≤ 1099511627776 = omega (arith, h.place_is, c.place-room.ensures, c.requires.in_place, c.split_within.ensures.within, length-append bytes front) in
    let a = c.in-Err-TooLarge.field-0-is in
    let b = c.in-Err-TooLarge.at-is in
    let fault-is : c.in-Err-TooLarge.field-0 ≡ TooLarge c.in-Err-TooLarge.at = cc in
    let L = λ (k : ℕ). IfOk c.add_last.result (λ (bad : Bool). (bad ≡ true) × (c.add_last.new.self.lines ≡ c.read_piece.new.self.lines ++ bad_line k)) in
    listed-if c.add_last.result _ written c.read_piece.new.self.lines c.add_last.new.self.lines (bad_line c.in-Err-TooLarge.at)
    (λ e. subst (λ (input : List ℕ). IsListed input BadInput (written ++ c.add_last.new.self.lines)) (joined bytes front back c.args.piece.now rest c.split_within.ensures.joined)
    (ends-too_large (bytes ++ front) (back ++ rest) written c.read_piece.new.self c.in-Err-TooLarge.at c.add_last.new.self.lines (subst (λ (f : FrameFault). Stops (bytes ++ front) written f c.read_piece.new.self) fault-is (c.in-Err-TooLarge.ensures.stopped bytes written h)) short e))
    (subst L b c.add_last.ensures)

pub returns-in-Err-OutOfOrder-clause-bad : goal.returns-in-Err-OutOfOrder-clause-bad
returns-in-Err-OutOfOrder-clause-bad c bytes written rest h =
    let front = c.split_within.result.0.now in
    let back = c.split_within.result.1.now in
    let add = c.add_last-in-Err-OutOfOrder in
    let arm = c.in-Err-OutOfOrder in
    let short : length (bytes ++ front) ≤ 1099511627776 = omega (arith, h.place_is, c.place-room.ensures, c.requires.in_place, c.split_within.ensures.within, length-append bytes front) in
    let a = arm.field-0-is in
    let b = arm.at-is in
    let fault-is : arm.field-0 ≡ OutOfOrder arm.at arm.field-0-1 arm.field-0-2 = cc in
    let L = λ (k : ℕ). IfOk add.result (λ (bad : Bool). (bad ≡ true) × (add.new.self.lines ≡ c.read_piece.new.self.lines ++ bad_line k)) in
    listed-if add.result _ written c.read_piece.new.self.lines add.new.self.lines (bad_line arm.at)
    (λ e. subst (λ (input : List ℕ). IsListed input BadInput (written ++ add.new.self.lines)) (joined bytes front back c.args.piece.now rest c.split_within.ensures.joined)
    (ends-out_of_order (bytes ++ front) (back ++ rest) written c.read_piece.new.self arm.at arm.field-0-1 arm.field-0-2 add.new.self.lines (subst (λ (f : FrameFault). Stops (bytes ++ front) written f c.read_piece.new.self) fault-is (arm.ensures.stopped bytes written h)) short e))
    (subst L b add.ensures)

pub returns-clause-bad : goal.returns-clause-bad
returns-clause-bad c bytes written rest h =
    let front = c.split_within.result.0.now in
    let back = c.split_within.result.1.now in
    let add = c.add_last-2 in
    let some : 0 < length back = grind (arith, common_steps, c.is_empty.ensures, c.if-is_empty.false) in
    let full : length (bytes ++ front) ≡ 1099511627776 = omega (arith, h.place_is, c.place-room.ensures, c.requires.in_place, c.split_within.ensures.past some, length-append bytes front) in
    listed-if add.result _ written c.read_piece.new.self.lines add.new.self.lines (bad_line 1099511627776)
    (λ e. subst (λ (input : List ℕ). IsListed input BadInput (written ++ add.new.self.lines)) (joined bytes front back c.args.piece.now rest c.split_within.ensures.joined)
    (goes-past (bytes ++ front) (back ++ rest) written c.read_piece.new.self add.new.self.lines (c.in-Ok.ensures.read bytes written h) c.in-Ok.ensures.ok full
    (omega (arith, some, length-append back rest)) e))
    add.ensures
