-- What a loop keeps that drives a talk over a link: it reads bytes as they come, answers what the talk asks, and writes
-- what the talk says.
use Rattle.std.specs.Prelude.{◌≡◌, ℕ, List, [], ◌++◌}
use Rattle.packet_stream.specs.Streams.{Stream, with_more}
use Rattle.interaction.specs.Handlers.{Peer, of_bytes, over_bytes}
use Rattle.interaction.specs.Runs.{Own, Ran, after_all, run}
use Rattle.interaction.specs.Talk.{Talk}

-- the bytes and answers that have arrived since a talk began, and where it began
pub record Arrived (Question Answer Entry End : Type 0) : Type 0 where
  pub stream : Stream
  pub owns : List (Own Answer Entry)
  pub next : ℕ
  pub at : Talk Question Answer End

module _ {Question Answer Entry End : Type 0} where
  -- over these bytes and answers, all of which were used, the talk did this, and left these bytes
  abbrev pub HasCome : Peer → Arrived Question Answer Entry End → Ran Stream Question Answer Entry End → Type 0
  HasCome peer b r =
      run (over_bytes peer) (of_bytes b.stream b.owns) b.next b.at
      ≡ record { did = r.did; state = of_bytes r.state []; next = r.next; at = r.at }

  -- By now the loop has done what `now` says, with these bytes unread: however the peer goes on, over all bytes and answers
  -- the talk does what was done, and then what it does from there.
  abbrev pub Leads : Arrived Question Answer Entry End → (now : Ran Stream Question Answer Entry End) → Type 0
  Leads b now =
      (peer : Peer) (more : List ℕ) (others : List (Own Answer Entry)) →
      run (over_bytes peer) (of_bytes (with_more b.stream more) (b.owns ++ others)) b.next b.at
      ≡ after_all now.did (run (over_bytes peer) (of_bytes (with_more now.state more) others) now.next now.at)
