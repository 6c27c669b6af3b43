-- What a door finds.
use Rattle.std.specs.Prelude.{◌≡◌, false, is_none}
use Rattle.server_sockets.specs.declared.doors.Found.{Found}
use Rattle.server_sockets.specs.declared.doors.Found.TheVariants.{Link, Closed, Fault}

-- a link that was found isn't finished
abbrev pub IsOpen : {R : Type 0} → Found R → Type 0
IsOpen (Link link) = is_none link.socket ≡ false
IsOpen Closed = Unit {0}
IsOpen Fault = Unit {0}
