-- What a run did, seen from one side.
use Rattle.std.specs.Prelude.{ℕ, List, [], ◌∷◌, ◌++◌, Option, Some, None}
use Rattle.packet_stream.specs.Sent.{Sent}
use Rattle.interaction.specs.Runs.{Event, Own, Sends, Reads, Answers}
use Rattle.interaction.specs.Talk.{Reading, Talk, Got, Over}

-- a payload that was received, and the sequence id of the next packet after it
pub record Received : Type 0 where
  pub payload : List ℕ
  pub next : ℕ

-- what is given to a talk: something that is read, with the id of the next packet after it, or an answer of the own side
pub data Given (Answer Entry : Type 0) : Type 0 where
  GivesReading : Reading → (next : ℕ) → Given Answer Entry
  GivesAnswer : Own Answer Entry → Given Answer Entry

-- how a talk has ended, if it has
abbrev pub end_of : {Question Answer End : Type 0} → Talk Question Answer End → Option End
end_of (Over end) = Some end
end_of _ = None

module _ {Question Answer Entry : Type 0} where
  -- the payloads that were sent
  abbrev pub sends_in : List (Event Question Answer Entry) → List Sent
  sends_in [] = []
  sends_in (Sends sent ∷ did) = sent ∷ sends_in did
  sends_in (_ ∷ did) = sends_in did

  -- the payloads that were received
  abbrev pub packets_in : List (Event Question Answer Entry) → List Received
  packets_in [] = []
  packets_in (Reads wanted (Got payload) next ∷ did) = record { payload = payload; next = next } ∷ packets_in did
  packets_in (_ ∷ did) = packets_in did

  -- the answers of the own side
  abbrev pub owns_of : List (Event Question Answer Entry) → List (Own Answer Entry)
  owns_of [] = []
  owns_of (Answers question own ∷ did) = own ∷ owns_of did
  owns_of (_ ∷ did) = owns_of did

  -- the entries that they added
  abbrev pub entries_in : List (Event Question Answer Entry) → List Entry
  entries_in [] = []
  entries_in (Answers question own ∷ did) = own.added ++ entries_in did
  entries_in (_ ∷ did) = entries_in did

  -- all that was given to the talk
  abbrev pub script_of : List (Event Question Answer Entry) → List (Given Answer Entry)
  script_of [] = []
  script_of (Sends sent ∷ did) = script_of did
  script_of (Reads wanted given next ∷ did) = GivesReading given next ∷ script_of did
  script_of (Answers question own ∷ did) = GivesAnswer own ∷ script_of did

  -- what was done before reading ended
  abbrev pub until_unread : List (Event Question Answer Entry) → List (Event Question Answer Entry)
  until_unread [] = []
  until_unread (Reads wanted (Got payload) next ∷ did) = Reads wanted (Got payload) next ∷ until_unread did
  until_unread (Reads wanted _ next ∷ did) = []
  until_unread (event ∷ did) = event ∷ until_unread did

  -- each answer is right for its question
  abbrev pub AllAnswered : (Right : Question → Answer → List Entry → Type 0) → List (Event Question Answer Entry) → Type 0
  AllAnswered Right [] = Unit {0}
  AllAnswered Right (Answers question own ∷ did) = Right question own.given own.added × AllAnswered Right did
  AllAnswered Right (_ ∷ did) = AllAnswered Right did
