-- The errors that tell refusals are short: a user's name is cut in them, and their numbers have at most 64 bits.
use Rattle.std.proofs.Common.{◌≡◌, refl, ℕ, zero, suc, ◌+◌, ◌<◌, ◌≤◌, ◌^◌, Bool, true, false, List, [], ◌∷◌, ◌++◌, length, take, codes, decimal, length-append, arith}
use Rattle.std.proofs.lemmas.Fmt.{length-decimal-le}
use Rattle.lg_base.specs.Errors.{cause_text, cut_name, ending, named, number_of, span_text, state_of, text_of, words_after, words_of}
use Rattle.lg_base.specs.Fields.{little_text}
use Rattle.lg_base.specs.declared.errors.Code.{Code}
use Rattle.lg_base.specs.declared.errors.Code.TheVariants.{Blocked, Denied, Locked, MustChange}
use Rattle.auth_packets.specs.Replies.{err_text}
use Rattle.login_lock.specs.declared.LockTime.{LockTime}
use Rattle.login_lock.specs.declared.LockTime.TheVariants.{Days, Unbounded}
use Rattle.session_talk.specs.Texts.{days_of, error_payload}
use Rattle.session_world.proofs.Counting.{IsShort}

-- the parts of an error

payload_length : (error : Code) → length (error_payload error) ≡ length (state_of error) + length (text_of error) + 4
unfolding error_payload err_text
payload_length error =
    let head : List ℕ = 0xff ∷ [] ++ little_text 2 (number_of error) ++ 0x23 ∷ [] in
    omega (arith, length-append (head ++ state_of error) (text_of error), length-append head (state_of error))

text_length : (error : Code) → length (text_of error) ≡ length (words_of error) + length (named error) + length (words_after error) + length (ending error)
text_length error = omega (
  arith,
  length-append (words_of error ++ named error ++ words_after error) (ending error),
  length-append (words_of error ++ named error) (words_after error),
  length-append (words_of error) (named error),
)

pub number_length : (n : ℕ) → n < 2 ^ 64 → length (decimal n) ≤ 20
number_length n small = length-decimal-le 20 n (omega arith) (omega (arith, small)) small

take_short : (count : ℕ) (xs : List ℕ) → length (take count xs) ≤ count
take_short zero xs = omega arith
take_short (suc count) [] = omega arith
take_short (suc count) (x ∷ xs) = let rest = take_short count xs in omega (arith, rest)

-- short parts make a short error
short_of : (error : Code) → length (state_of error) ≡ 5 → length (words_of error) ≤ 1000 → length (named error) ≤ 1000 → length (words_after error) ≤ 1000 →
    length (ending error) ≤ 1000 → IsShort (error_payload error)
short_of error state words name behind last = omega (arith, payload_length error, text_length error, state, words, name, behind, last)

-- ## Each refusal

name_short : (user : List ℕ) → length (cut_name user) ≤ 1000
name_short user = let cut = take_short 64 user in omega (arith, cut)

pub denied_short : (user : List ℕ) (using_password : Bool) → IsShort (error_payload (Denied user using_password))
unfolding words_of named words_after ending
denied_short user true = short_of (Denied user true) refl (omega arith) (name_short user) (omega arith) (omega arith)
denied_short user false = short_of (Denied user false) refl (omega arith) (name_short user) (omega arith) (omega arith)

pub locked_short : (user : List ℕ) → IsShort (error_payload (Locked user))
unfolding words_of named words_after ending
locked_short user = short_of (Locked user) refl (omega arith) (name_short user) (omega arith) (omega arith)

pub must_change_short : IsShort (error_payload MustChange)
unfolding words_of named words_after ending
must_change_short = short_of MustChange refl (omega arith) (omega arith) (omega arith) (omega arith)

span_short : (time : LockTime) (left : ℕ) → ((days : ℕ) → time ≡ Days days → days < 2 ^ 64) → left < 2 ^ 64 → length (span_text (days_of time) left) ≤ 500
unfolding span_text
span_short Unbounded left days small = omega arith
span_short (Days days) left small less =
    let words : List ℕ = codes " day(s) (" in
    let last : List ℕ = codes " day(s) remaining)" in
    omega (
      arith,
      length-append (decimal days) (words ++ (decimal left ++ last)),
      length-append words (decimal left ++ last),
      length-append (decimal left) last,
      number_length days (small days refl),
      number_length left less,
    )

cause_short : (limit : ℕ) → limit < 2 ^ 64 → length (cause_text limit) ≤ 500
unfolding cause_text
cause_short limit small =
    let words : List ℕ = codes " due to " in
    let last : List ℕ = codes " consecutive failed logins." in
    omega (arith, length-append words (decimal limit ++ last), length-append (decimal limit) last, number_length limit small)

pub blocked_short : (user : List ℕ) (time : LockTime) (left limit : ℕ) → ((days : ℕ) → time ≡ Days days → days < 2 ^ 64) → left < 2 ^ 64 → limit < 2 ^ 64 →
    IsShort (error_payload (Blocked user (days_of time) left limit))
unfolding words_of named words_after ending
blocked_short user time left limit days less small =
    short_of (Blocked user (days_of time) left limit) refl (omega arith) (name_short user) (omega arith)
    (omega (arith, length-append (span_text (days_of time) left) (cause_text limit), span_short time left days less, cause_short limit small))
