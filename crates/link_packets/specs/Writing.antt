-- What comes of writing bytes to a link that fails, or for which there is no memory.
use Rattle.std.specs.Prelude.{ℕ, List, [], take, Option}
use Rattle.lg_outside.specs.Traffic.{Traffic}
use Rattle.link_packets.specs.Moving.{Moved}
use Rattle.link_packets.specs.declared.writing.WriteEnd.{WriteEnd}
use Rattle.link_packets.specs.declared.writing.WriteEnd.TheVariants.{Failed, Memory}

-- of this text a part was written, or nothing
pub data Fails (text : List ℕ) (before after : Option Traffic) (Rises : Type 0) : WriteEnd → Type 0 where
  cut : (count : ℕ) → Moved before after [] (take count text) → Rises → Fails text before after Rises Failed
  unwritten : Moved before after [] [] → Fails text before after Rises Memory
