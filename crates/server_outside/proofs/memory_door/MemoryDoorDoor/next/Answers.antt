use Rattle.std.proofs.Common.{arith}
use Rattle.std.proofs.lemmas.List.Elements.{All-rest}
use Rattle.server_outside.specs.Foyers.{IsNew}
use Rattle.server_outside.proofs.memory_door.MemoryDoorDoor.next.Goals as goal

pub invariant_of-self-in-Some : goal.invariant_of-self-in-Some
invariant_of-self-in-Some c =
    let room = c.self.invariant.1 in
    let fewer = c.in-Some.ensures.len in
    (All-rest IsNew c.in-Some.link c.pop_front.new.self.items _ c.in-Some.ensures.items c.self.invariant.0, omega arith)
