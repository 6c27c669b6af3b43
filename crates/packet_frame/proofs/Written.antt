-- The pieces of a packet that is written.
use Rattle.std.proofs.Common.{◌≡◌, ℕ, ◌<◌, List, [], ◌∷◌, ◌++◌, length, refl, sym, ap, ◌∙◌, arith, append_assoc}
use Rattle.std.specs.List.{concat}
use Rattle.packet_frame.specs.Packets.{full_size, id_after, id_at, header_text, pieces_text, AllFull, WritesPacket, WritesPieces}
use Rattle.packet_frame.proofs.Readings.{pieces_text-push, concat-push}

pub AllFull-push : (full : List (List ℕ)) (piece : List ℕ) → AllFull full → length piece ≡ full_size → AllFull (full ++ piece ∷ [])
AllFull-push [] piece each e = (e, tt)
AllFull-push (p ∷ ps) piece each e = (each.0, AllFull-push ps piece each.1 e)

pub id_at-push : (first : ℕ) (full : List (List ℕ)) (piece : List ℕ) → id_at first (length (full ++ piece ∷ [])) ≡ id_after (id_at first (length full))
id_at-push first [] piece = refl
id_at-push first (p ∷ ps) piece = id_at-push (id_after first) ps piece

-- one more full piece
pub pieces-more : (first : ℕ) (payload : List ℕ) (id : ℕ) (rest piece behind old now new : List ℕ) → WritesPieces first payload id rest old now →
    rest ≡ piece ++ behind → length piece ≡ full_size → new ≡ now ++ (header_text (length piece) id ++ piece) → WritesPieces first payload (id_after id) behind old new
pieces-more first payload id rest piece behind old now new written split full added = record {
  full = written.full ++ piece ∷ [];
  each_full = AllFull-push written.full piece written.each_full full;
  split =
      written.split ∙ ap (λ xs. concat written.full ++ xs) split ∙ sym (append_assoc (concat written.full) piece behind)
      ∙ ap (λ xs. xs ++ behind) (sym (concat-push written.full piece));
  id_is = ap id_after written.id_is ∙ sym (id_at-push first written.full piece);
  added =
      added ∙ ap (λ xs. xs ++ (header_text (length piece) id ++ piece)) written.added
      ∙ append_assoc old (pieces_text first written.full) (header_text (length piece) id ++ piece)
      ∙ ap (λ i. old ++ (pieces_text first written.full ++ (header_text (length piece) i ++ piece))) written.id_is
      ∙ ap (λ xs. old ++ xs) (sym (pieces_text-push first written.full piece));
}

-- the last piece
pub pieces-end : (first : ℕ) (payload : List ℕ) (id : ℕ) (rest old now new : List ℕ) → WritesPieces first payload id rest old now →
    length rest < full_size → new ≡ now ++ (header_text (length rest) id ++ rest) → WritesPacket first payload (id_after id) old new
pieces-end first payload id rest old now new written less added = record {
  text = pieces_text first (written.full ++ rest ∷ []);
  last = id;
  added =
      added ∙ ap (λ xs. xs ++ (header_text (length rest) id ++ rest)) written.added
      ∙ append_assoc old (pieces_text first written.full) (header_text (length rest) id ++ rest)
      ∙ ap (λ i. old ++ (pieces_text first written.full ++ (header_text (length rest) i ++ rest))) written.id_is
      ∙ ap (λ xs. old ++ xs) (sym (pieces_text-push first written.full rest));
  packet = record {
    full = written.full;
    ending = rest;
    each_full = written.each_full;
    not_full = less;
    laid_out = refl;
    joined = written.split ∙ sym (concat-push written.full rest);
    wanted = refl;
    ends_at = written.id_is;
    fits = omega arith;
  };
  next_is = refl;
}
