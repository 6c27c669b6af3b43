-- Draws from a stream of ChaCha20.
use Rattle.std.specs.Prelude.{ℕ, zero, suc, ◌%◌, List, [], ◌∷◌, ◌++◌, slice_index}
use Rattle.rand_chacha.specs.ChaCha.{ChaCha, next_word}
use Rattle.sha256_crypt.specs.Alphabet.{alphabet}

-- what draws are made with: the words of a key, and the number of a stream
pub record Origin : Type 0 where
  pub key : List ℕ
  pub stream : ℕ

abbrev pub made_from : ChaCha → Origin
made_from words = record { key = words.key; stream = words.stream }

-- the letter of a word: the word modulo 64 is its place in the alphabet
abbrev pub letter : ℕ → ℕ
letter word = slice_index alphabet (word % 64)

-- the letters that were drawn and the stream behind them, after one letter more
abbrev pub one_letter : List ℕ × ChaCha → List ℕ × ChaCha
one_letter drawn = (drawn.0 ++ letter (next_word 10 drawn.1).0 ∷ [], (next_word 10 drawn.1).1)

-- the letters of so many next words, and the stream behind them
unfoldable pub stream_letters : ℕ → ChaCha → List ℕ × ChaCha
stream_letters zero words = ([], words)
stream_letters (suc n) words = one_letter (stream_letters n words)
