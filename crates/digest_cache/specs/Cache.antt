-- Digests of passwords, each by the number of its password, and the room for more of them.
use Rattle.std.specs.Prelude.{◌≡◌, ℕ, ◌<◌, ◌≤◌, nat_eq, nat_lt, if◌then◌else◌, List, [], ◌∷◌, length, slice_get, Option, Some, None, Result, Ok, Err}
use Rattle.std.specs.List.{filter}
use Rattle.std.specs.Map.{lookup}

pub record Cache : Type 0 where
  -- numbers with their digests
  pub entries : List (ℕ × List ℕ)
  -- for so many more numbers there is room
  pub spare : ℕ

-- the numbers rise from each entry to the next, the first of them above a number
abbrev pub RiseAbove : ℕ → List (ℕ × List ℕ) → Type 0
RiseAbove low [] = Unit {0}
RiseAbove low (entry ∷ entries) = (low < entry.0) × RiseAbove entry.0 entries

-- the numbers rise from each entry to the next, so each stands once
abbrev pub Rise : List (ℕ × List ℕ) → Type 0
Rise [] = Unit {0}
Rise (entry ∷ entries) = RiseAbove entry.0 entries

-- how many entries have a smaller number: the place of the number's own entry, where it has one
abbrev pub place_of : ℕ → List (ℕ × List ℕ) → ℕ
place_of id entries = length (filter (λ entry. nat_lt entry.0 id) entries)

-- the digest that is kept of a password
abbrev pub digest_of : Cache → ℕ → Option (List ℕ)
digest_of cache id = lookup (nat_eq id) cache.entries

-- what is known once a digest came to what was known: one that stands stays
abbrev pub or_digest : Option (List ℕ) → List ℕ → Option (List ℕ)
or_digest None digest = Some digest
or_digest (Some kept) digest = Some kept

abbrev pub put_in : ℕ → List ℕ → (ℕ → Option (List ℕ)) → ℕ → Option (List ℕ)
put_in id digest known q = if nat_eq id q then or_digest (known q) digest else known q

-- what is known once the digest of a password was taken out
abbrev pub taken_out : ℕ → (ℕ → Option (List ℕ)) → ℕ → Option (List ℕ)
taken_out id known q = if nat_eq id q then None else known q

-- the room that a digest takes, and the room that one needs
abbrev pub room_of : Option (List ℕ) → ℕ
room_of None = 0
room_of (Some digest) = 1

abbrev pub room_for : Option (List ℕ) → ℕ
room_for None = 1
room_for (Some digest) = 0

-- where a number has its entry, or where it belongs
abbrev pub IsPlace : ℕ → List (ℕ × List ℕ) → Result ℕ ℕ → Type 0
IsPlace id entries (Ok place) =
    (place ≡ place_of id entries) × (digest : List ℕ) × (slice_get entries place ≡ Some (id, digest)) × (lookup (nat_eq id) entries ≡ Some digest)
IsPlace id entries (Err place) = (place ≡ place_of id entries) × (place ≤ length entries) × (lookup (nat_eq id) entries ≡ None)
