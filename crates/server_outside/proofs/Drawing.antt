-- The letters of a stream.
use Rattle.std.proofs.Common.{◌≡◌, refl, sym, ap, ◌∙◌, subst, ℕ, zero, suc, ◌+◌, ◌%◌, ◌<◌, List, [], ◌∷◌, ◌++◌, length, take, arith}
use Rattle.std.specs.Prelude.{slice_set}
use Rattle.std.specs.List.{All}
use Rattle.std.proofs.lemmas.List.{take_more_set}
use Rattle.std.proofs.lemmas.List.Elements.{All-nil, All-push}
use Rattle.rand_chacha.specs.ChaCha.{ChaCha, next_word}
use Rattle.sha256_crypt.proofs.SaltBytes.{IsSaltByte-at}
use Rattle.sha256_crypt.specs.Alphabet.{IsSaltByte}
use Rattle.server_outside.specs.Streams.{letter, made_from, one_letter, stream_letters}

abbrev drawn_so : List ℕ → ChaCha → List ℕ × ChaCha
drawn_so letters words = (letters, words)

letters_are_salt : (n : ℕ) (words : ChaCha) → All IsSaltByte (stream_letters n words).0
unfolding stream_letters
letters_are_salt zero words = All-nil IsSaltByte
letters_are_salt (suc n) words =
    let word : ℕ = (next_word 10 (stream_letters n words).1).0 in
    All-push IsSaltByte (stream_letters n words).0 (letter word) (letters_are_salt n words) (IsSaltByte-at (word % 64) (omega arith))

words_go_on : (n : ℕ) (words : ChaCha) → made_from (stream_letters n words).1 ≡ made_from words
unfolding stream_letters
words_go_on zero words = refl
words_go_on (suc n) words = words_go_on n words

-- what is drawn is of the alphabet
pub drawn_are_salt : (letters : List ℕ) (n : ℕ) (words after : ChaCha) → drawn_so letters after ≡ stream_letters n words → All IsSaltByte letters
drawn_are_salt letters n words after drawn =
    subst (λ (l : List ℕ). All IsSaltByte l) (sym (ap (λ (p : List ℕ × ChaCha). p.0) drawn)) (letters_are_salt n words)

-- a draw leaves key and stream
pub drawn_go_on : (letters : List ℕ) (n : ℕ) (words after : ChaCha) → drawn_so letters after ≡ stream_letters n words → made_from after ≡ made_from words
drawn_go_on letters n words after drawn = ap (λ (p : List ℕ × ChaCha). made_from p.1) drawn ∙ words_go_on n words

one_more : (letters : List ℕ) (byte word : ℕ) (after : ChaCha) (step : ℕ × ChaCha) → (word, after) ≡ step → byte ≡ letter word
    → drawn_so (letters ++ byte ∷ []) after ≡ drawn_so (letters ++ letter step.0 ∷ []) step.1
one_more letters byte word after step taken is =
    subst (λ (s : ℕ × ChaCha). drawn_so (letters ++ byte ∷ []) after ≡ drawn_so (letters ++ letter s.0 ∷ []) s.1) taken
    (ap (λ (b : ℕ). drawn_so (letters ++ b ∷ []) after) is)

-- one letter more is drawn
pub next_drawn : (letters : List ℕ) (count byte word : ℕ) (start before after : ChaCha)
    → drawn_so (take count letters) before ≡ stream_letters count start → (word, after) ≡ next_word 10 before → byte ≡ letter word → count < length letters
    → drawn_so (take (count + 1) (slice_set letters count byte)) after ≡ stream_letters (count + 1) start
unfolding stream_letters
next_drawn letters count byte word start before after drawn taken is below =
    let one : count + 1 ≡ suc count = omega arith in
    ap (λ (l : List ℕ). drawn_so l after) (take_more_set letters count byte below)
    ∙ one_more (take count letters) byte word after (next_word 10 before) taken is
    ∙ ap one_letter drawn
    ∙ ap (λ (n : ℕ). stream_letters n start) (sym one)
