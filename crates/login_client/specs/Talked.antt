-- What an exchange over packets and the acts of a client come to: the payloads got and written, and the result.
use Rattle.std.specs.Prelude.{◌≡◌, ℕ, List, [], ◌∷◌, ◌++◌, length, Option, Some, None}
use Rattle.packet_frame.specs.Packets.{IsPacket}
use Rattle.packet_frame.specs.Streams.{IsEnding}
use Rattle.packet_frame.specs.declared.packets.Want.TheVariants.{Exactly}
use Rattle.login_client.specs.Exchange.{Stand, Waits, Ends}
use Rattle.packet_stream.specs.declared.limits.TheConstants.{MAX_PAYLOAD}
use Rattle.login_client.specs.Talk.{Talk, Leads, result_of}
use Rattle.login_client.specs.declared.ends.ClientAct.{ClientAct}
use Rattle.login_client.specs.declared.ends.ClientAct.TheVariants.{Send, Done}
use Rattle.login_client.specs.declared.ends.LoginEnd.{LoginEnd}

-- the payload that an act writes, if any
abbrev pub said_by : Option ClientAct → List (List ℕ)
said_by None = []
said_by (Some (Send first payload)) = payload ∷ []
said_by (Some (Done end)) = []

-- the bytes are packets with these payloads, laid end to end
abbrev pub AreWritten : List (List ℕ) → List ℕ → Type 0
AreWritten [] bytes = bytes ≡ []
AreWritten (payload ∷ payloads) bytes =
    (first last : ℕ) × (text rest : List ℕ) × (bytes ≡ text ++ rest) × IsPacket (length payload) (Exactly first) first last payload text × AreWritten payloads rest

-- what stands behind the packets: nothing where the talk is over, and else an ending
abbrev pub IsRest : List ℕ → Stand → Type 0
IsRest bytes (Ends end) = bytes ≡ []
IsRest bytes (Waits ending) = (id place : ℕ) × IsEnding MAX_PAYLOAD (Exactly id) place bytes ending

-- the bytes are packets with these payloads, laid end to end, and that
abbrev pub AreGot : List (List ℕ) → List ℕ → Stand → Type 0
AreGot [] bytes stand = IsRest bytes stand
AreGot (payload ∷ payloads) bytes stand =
    (wanted first last : ℕ) × (text rest : List ℕ) × (bytes ≡ text ++ rest) × IsPacket MAX_PAYLOAD (Exactly wanted) first last payload text × AreGot payloads rest stand

abbrev pub result_in : Stand → Option LoginEnd
result_in (Waits ending) = None
result_in (Ends end) = Some end

-- a talk over these bytes: the payloads in them, and the talk's result for those got
pub record Talked (talk : Talk) (got sent : List ℕ) (stand : Stand) : Type 0 where
  pub payloads : List (List ℕ)
  pub written : List (List ℕ)
  pub now : Talk
  pub leads : Leads talk payloads written now
  pub result_is : result_of now ≡ result_in stand
  pub are_got : AreGot payloads got stand
  pub are_written : AreWritten written sent
