-- What the fields of a reader stand for.
use Rattle.std.specs.Prelude.{◌≡◌, ℕ, zero, suc, ◌+◌, ◌*◌, ◌^◌, ◌<◌, ◌≤◌, List, [], ◌∷◌, ◌++◌, length, take, drop}
use Rattle.packet_frame.specs.declared.progress.Stage.{Stage}
use Rattle.packet_frame.specs.declared.progress.Stage.TheVariants.{Header, Payload, Ready, Failed}
use Rattle.packet_frame.specs.declared.progress.Progress.{Progress}
use Rattle.packet_frame.specs.Packets.{full_size, id_at, header_text, pieces_text, Wants, Begins, want_after, IsFault}
use Rattle.packet_frame.specs.Framing.{Framing, place_of}

-- the first so many full pieces of a payload
unfoldable pub full_pieces : ℕ → List ℕ → List (List ℕ)
full_pieces zero payload = []
full_pieces (suc count) payload = take full_size payload ∷ full_pieces count (drop full_size payload)

-- what came of the payload of the present piece
abbrev pub present_payload : Progress → List ℕ
present_payload p = drop (p.full * full_size) p.payload.items

abbrev pub done_pieces : Progress → List (List ℕ)
done_pieces p = full_pieces p.full p.payload.items

-- the bytes taken since the last packet: the full pieces, and the present header and its payload
abbrev pub framing : Progress → Framing
framing p = record {
  limit = p.limit;
  want = p.want;
  start = p.start;
  held = pieces_text p.first (done_pieces p) ++ (take p.seen p.header ++ present_payload p);
}

-- the place of the present header
abbrev pub header_place : Progress → ℕ
header_place p = p.start + length (pieces_text p.first (done_pieces p))

-- a header that is taken: its bytes, its id, which was wanted, and its length, which fits
pub record IsAdmitted (p : Progress) (size : ℕ) : Type 0 where
  pub seen_all : p.seen ≡ 4
  pub header_is : p.header ≡ header_text size p.last
  pub wanted : Wants p.want p.first
  pub last_is : p.last ≡ id_at p.first p.full
  pub in_range : size ≤ full_size
  pub fits : p.full * full_size + size ≤ p.limit

abbrev pub Stands : Progress → Stage → Type 0
Stands p Header = (p.seen < 4) × (length p.payload.items ≡ p.full * full_size)
Stands p (Payload size) = IsAdmitted p size × (length p.payload.items < p.full * full_size + size)
Stands p Ready = (size : ℕ) × IsAdmitted p size × (size < full_size) × (length p.payload.items ≡ p.full * full_size + size)
Stands p (Failed fault) = (p.seen ≡ 4) × (length p.payload.items ≡ p.full * full_size) × IsFault p.limit p.want p.start fault (framing p).held

-- what always holds of the fields
pub record IsProgress (p : Progress) : Type 0 where
  pub four : length p.header ≡ 4
  pub seen_in : p.seen ≤ 4
  pub begins : Begins p.want p.first (done_pieces p)
  pub next_is : p.next ≡ want_after p.want p.first (done_pieces p)
  pub enough : p.full * full_size ≤ length p.payload.items
  pub fits : p.full * full_size ≤ p.limit
  pub bounded : p.limit ≤ 50331645
  pub in_place : place_of (framing p) ≤ 2 ^ 63
  pub stands : Stands p p.stage

-- the same at the end of a piece of payload, before it is known what comes next
pub record IsBetween (p : Progress) (size : ℕ) : Type 0 where
  pub four : length p.header ≡ 4
  pub begins : Begins p.want p.first (done_pieces p)
  pub bounded : p.limit ≤ 50331645
  pub in_place : place_of (framing p) ≤ 2 ^ 63
  pub admitted : IsAdmitted p size
  pub all : length p.payload.items ≡ p.full * full_size + size
  pub next_is : p.next ≡ want_after p.want p.first (done_pieces p)
