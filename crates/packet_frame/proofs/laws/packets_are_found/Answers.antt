use Rattle.packet_frame.proofs.Readings.{front-packet}
use Rattle.packet_frame.proofs.Streams.{packet-fits}
use Rattle.packet_frame.proofs.laws.packets_are_found.Goals as goal

pub returns : goal.returns
returns c limit fits want wanted first last payload text behind place is wants less =
    front-packet limit want first last payload text place behind (packet-fits limit fits want wanted first last payload text is wants less)
