-- What stands at the front of bytes, where payloads are short.
use Rattle.std.proofs.Common.{◌≡◌, ◌≢◌, refl, ap, sym, ◌∙◌, subst, ℕ, ◌+◌, ◌*◌, ◌-◌, ◌<◌, ◌≤◌, List, [], ◌∷◌, length, take, drop, slice_index_or, length-drop, arith}
use Rattle.std.proofs.lemmas.List.{drop-drop, length-take-le, take_all}
use Rattle.lg_base.specs.Fields.{little}
use Rattle.packet_frame.specs.Front.{Whole, Part, Fault, front}
use Rattle.packet_frame.specs.Packets.{full_size}
use Rattle.packet_frame.specs.declared.packets.FrameFault.TheVariants.{TooLarge, OutOfOrder}
use Rattle.packet_frame.specs.declared.packets.Want.TheVariants.{Exactly}
use Rattle.packet_frame.proofs.Fronts.{front-four, front-short, headed_front-other, headed_front-wanted, sized_front-large, sized_front-part}
use Rattle.packet_frame.proofs.Longer.{sized_front-at_end}
use Rattle.packet_stream.specs.declared.limits.TheConstants.{MAX_PAYLOAD}
use Rattle.packet_stream.specs.Inbox.{IsShown}
use Rattle.packet_stream.specs.declared.inbox.Shown.TheVariants as shown

pub short : (want place : ℕ) (bytes : List ℕ) → length bytes < 4 → IsShown want place bytes shown.Part
short want place bytes h = (4 - length bytes, front-short MAX_PAYLOAD (Exactly want) place bytes h)

pub other : (want place a b c id : ℕ) (behind : List ℕ) → id ≢ want →
    IsShown want place (a ∷ b ∷ c ∷ id ∷ behind) (shown.Fault (OutOfOrder place want id))
other want place a b c id behind differs =
    front-four MAX_PAYLOAD (Exactly want) place a b c id behind ∙ headed_front-other MAX_PAYLOAD want _ id place behind _ differs

module _ (want place a b c : ℕ) (behind : List ℕ) where
  abbrev size : ℕ
  size = little (a ∷ b ∷ c ∷ [])

  pub large : MAX_PAYLOAD < size → IsShown want place (a ∷ b ∷ c ∷ want ∷ behind) (shown.Fault (TooLarge place))
  large h =
      front-four MAX_PAYLOAD (Exactly want) place a b c want behind
      ∙ (headed_front-wanted MAX_PAYLOAD (Exactly want) size want place behind _ refl ∙ sized_front-large MAX_PAYLOAD size want place behind _ h)

  pub part : size ≤ MAX_PAYLOAD → length behind < size → IsShown want place (a ∷ b ∷ c ∷ want ∷ behind) shown.Part
  part h k = (
    size - length behind,
    front-four MAX_PAYLOAD (Exactly want) place a b c want behind
        ∙ (headed_front-wanted MAX_PAYLOAD (Exactly want) size want place behind _ refl ∙ sized_front-part MAX_PAYLOAD size want place behind _ h k),
  )

  -- the payload is all that stands behind the header, up to its size
  pub whole : size ≤ MAX_PAYLOAD → size ≤ length behind →
      front MAX_PAYLOAD (Exactly want) place (a ∷ b ∷ c ∷ want ∷ behind) ≡ Whole want want (take size behind) (drop size behind)
  whole h k =
      front-four MAX_PAYLOAD (Exactly want) place a b c want behind
      ∙ (headed_front-wanted MAX_PAYLOAD (Exactly want) size want place behind _ refl ∙ sized_front-at_end MAX_PAYLOAD size want place behind _ h k not_full)
    where
      not_full : size ≢ full_size
      not_full e = absurd (omega (arith, h, e))

-- the same of bytes that hold a header

abbrev pub size_in : List ℕ → ℕ
size_in bytes = slice_index_or bytes 0 0 + slice_index_or bytes 1 0 * 256 + slice_index_or bytes 2 0 * 65536

pub other_id : (want place : ℕ) (bytes : List ℕ) → 4 ≤ length bytes → (slice_index_or bytes 3 0 ≡ want → ⊥) →
    front MAX_PAYLOAD (Exactly want) place bytes ≡ Fault (OutOfOrder place want (slice_index_or bytes 3 0))
other_id want place (a ∷ b ∷ c ∷ id ∷ behind) h differs = other want place a b c id behind differs
other_id want place _ h differs = absurd (omega arith)

pub large_size : (want place : ℕ) (bytes : List ℕ) → 4 ≤ length bytes → slice_index_or bytes 3 0 ≡ want → MAX_PAYLOAD < size_in bytes →
    front MAX_PAYLOAD (Exactly want) place bytes ≡ Fault (TooLarge place)
large_size want place (a ∷ b ∷ c ∷ id ∷ behind) h same big =
    subst (λ (i : ℕ). front MAX_PAYLOAD (Exactly want) place (a ∷ b ∷ c ∷ i ∷ behind) ≡ Fault (TooLarge place)) (sym same)
    (large want place a b c behind (omega (arith, big)))
large_size want place _ h same big = absurd (omega arith)

pub less_behind : (want place : ℕ) (bytes : List ℕ) → 4 ≤ length bytes → slice_index_or bytes 3 0 ≡ want → size_in bytes ≤ MAX_PAYLOAD →
    length bytes - 4 < size_in bytes → (missing : ℕ) × (front MAX_PAYLOAD (Exactly want) place bytes ≡ Part missing)
less_behind want place (a ∷ b ∷ c ∷ id ∷ behind) h same fits less =
    subst (λ (i : ℕ). (missing : ℕ) × (front MAX_PAYLOAD (Exactly want) place (a ∷ b ∷ c ∷ i ∷ behind) ≡ Part missing)) (sym same)
    (part want place a b c behind (omega (arith, fits)) (omega (arith, less)))
less_behind want place _ h same fits less = absurd (omega arith)

pub all_there : (want place : ℕ) (bytes : List ℕ) → 4 ≤ length bytes → slice_index_or bytes 3 0 ≡ want → size_in bytes ≤ MAX_PAYLOAD →
    size_in bytes ≤ length bytes - 4 →
    front MAX_PAYLOAD (Exactly want) place bytes ≡ Whole want want (take (size_in bytes) (drop 4 bytes)) (drop (size_in bytes) (drop 4 bytes))
all_there want place (a ∷ b ∷ c ∷ id ∷ behind) h same fits enough =
    subst (λ (i : ℕ). front MAX_PAYLOAD (Exactly want) place (a ∷ b ∷ c ∷ i ∷ behind) ≡ Whole want want (take sized behind) (drop sized behind)) (sym same)
    (subst (λ (n : ℕ). front MAX_PAYLOAD (Exactly want) place (a ∷ b ∷ c ∷ want ∷ behind) ≡ Whole want want (take n behind) (drop n behind)) little_is
    (whole want place a b c behind (omega (arith, fits)) (omega (arith, enough))))
  where
    sized : ℕ
    sized = a + b * 256 + c * 65536

    little_is : little (a ∷ b ∷ c ∷ []) ≡ a + b * 256 + c * 65536
    little_is = omega arith
all_there want place _ h same fits enough = absurd (omega arith)

-- the same, as the code splits the bytes
pub split_there : (want : ℕ) (bytes : List ℕ) (size : ℕ) (payload behind : List ℕ) → size ≡ size_in bytes →
    payload ≡ take size (take (length bytes - 4) (drop 4 bytes)) → behind ≡ drop size (take (length bytes - 4) (drop 4 bytes)) →
    Whole want want (take (size_in bytes) (drop 4 bytes)) (drop (size_in bytes) (drop 4 bytes)) ≡ Whole want want payload behind
split_there want bytes size payload behind size_is payload_is behind_is =
    let rest : take (length bytes - 4) (drop 4 bytes) ≡ drop 4 bytes = take_all (length bytes - 4) (drop 4 bytes) (omega (arith, length-drop 4 bytes)) in
    cc

-- the payload and what follows it are all that stands behind the header
pub splits : (bytes : List ℕ) (size : ℕ) (payload behind : List ℕ) → 4 ≤ length bytes → size ≤ length bytes - 4 →
    payload ≡ take size (take (length bytes - 4) (drop 4 bytes)) → behind ≡ drop size (take (length bytes - 4) (drop 4 bytes)) →
    (4 + length payload ≤ length bytes) × (behind ≡ drop (4 + length payload) bytes)
splits bytes size payload behind header enough payload_is behind_is = (omega (arith, long, header, enough), behind_is ∙ dropped)
  where
    rest : take (length bytes - 4) (drop 4 bytes) ≡ drop 4 bytes
    rest = take_all (length bytes - 4) (drop 4 bytes) (omega (arith, length-drop 4 bytes))

    long : length payload ≡ size
    long = ap length payload_is ∙ (ap (λ (xs : List ℕ). length (take size xs)) rest ∙ length-take-le size (drop 4 bytes) (omega (arith, length-drop 4 bytes, enough)))

    dropped : drop size (take (length bytes - 4) (drop 4 bytes)) ≡ drop (4 + length payload) bytes
    dropped = ap (λ (xs : List ℕ). drop size xs) rest ∙ (drop-drop size 4 bytes ∙ ap (λ (n : ℕ). drop n bytes) (omega (arith, long)))
