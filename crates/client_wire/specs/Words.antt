-- The words of a client's result.
use Rattle.std.specs.Prelude.{ℕ, List, [], ◌++◌, codes, decimal}
use Rattle.packet_frame.specs.declared.packets.FrameFault.{FrameFault}
use Rattle.packet_frame.specs.declared.packets.FrameFault.TheVariants.{TooLarge, OutOfOrder, Memory as NoMemory}
use Rattle.login_client.specs.declared.ends.LoginEnd.{LoginEnd}
use Rattle.login_client.specs.declared.ends.LoginEnd.TheVariants.{Opened, Refused, Malformed, Framing, WontSend, PeerClosed, LinkFault, Memory}
use Rattle.login_client.specs.declared.ends.Reason.{Reason}
use Rattle.login_client.specs.declared.ends.Reason.TheVariants.{UnknownMethod, NoSecret, NotLocal, ClearNotPermitted}

-- the place of a fault of packets
abbrev pub place_of : FrameFault → ℕ
place_of (TooLarge at) = at
place_of (OutOfOrder at want got) = at
place_of NoMemory = 0

unfoldable pub reason_word : Reason → List ℕ
reason_word UnknownMethod = codes "unknownmethod"
reason_word NoSecret = codes "nosecret"
reason_word NotLocal = codes "notlocal"
reason_word ClearNotPermitted = codes "notpermitted"

-- the words of a result
unfoldable pub end_words : LoginEnd → List ℕ
end_words Opened = codes "opened"
end_words (Refused number) = codes "refused " ++ decimal number
end_words (Malformed at) = codes "malformed " ++ decimal at
end_words (Framing fault) = codes "framing " ++ decimal (place_of fault)
end_words (WontSend reason) = codes "wontsend " ++ reason_word reason
end_words PeerClosed = codes "closed"
end_words LinkFault = codes "linkfault"
end_words Memory = []
