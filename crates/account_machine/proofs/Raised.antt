-- What is listed of users, and what a raise does to their counts.
use Rattle.std.proofs.Common.{◌≡◌, refl, ap, sym, ◌∙◌, ℕ, zero, suc, ◌+◌, ◌<◌, ◌≤◌, List, [], ◌∷◌, ◌++◌, length, cond, if◌then◌else◌, Bool, true, false, not, Some, None, is_some, slice_get, slice_set, slice_index_or, nat_lt, arith, ltb-true, ltb-false}
use Rattle.std.specs.List.{position_or_len}
use Rattle.std.specs.Str.{bytes_eq}
use Rattle.std.proofs.Math.Numerals.{one-add}
use Rattle.std.proofs.lemmas.Option.{get_or_from_slice_get}
use Rattle.std.proofs.lemmas.Slice.Eq.{bytes_eq-Decides}
use Rattle.account_machine.proofs.Places.{item-at}
use Rattle.account_machine.specs.Counting.{count_at, count_in, counted, is_for, is_listed, place_of_user}
use Rattle.account_machine.specs.declared.stamps.UserStamp.{UserStamp}

-- the count is the one at the place
place-count : (users : List UserStamp) (user : List ℕ) → count_in users user ≡ counted (slice_get users (position_or_len (is_for user) users))
place-count [] user = refl
place-count (s ∷ users) user = cases (is_for user s) (place-count users user) where
  cases : (b : Bool) → count_in users user ≡ counted (slice_get users (position_or_len (is_for user) users))
      → cond b s.count (count_in users user) ≡ counted (slice_get (s ∷ users) (cond (not b) (1 + position_or_len (is_for user) users) 0))
  cases true later = refl
  cases false later = rw one-add later

past : (users : List UserStamp) (n : ℕ) → length users ≤ n → counted (slice_get users n) ≡ 0
past [] n h = refl
past (s ∷ users) zero h = absurd (omega arith)
past (s ∷ users) (suc n) h = past users n (omega arith)

pub count-at : (users : List UserStamp) (user : List ℕ) → count_in users user ≡ count_at users (place_of_user users user)
count-at users user = place-count users user ∙ cases (nat_lt (position_or_len (is_for user) users) (length users)) refl where
  cases : (b : Bool) → nat_lt (position_or_len (is_for user) users) (length users) ≡ b
      → counted (slice_get users (position_or_len (is_for user) users)) ≡ count_at users (cond b (Some (position_or_len (is_for user) users)) None)
  cases true e = refl
  cases false e = past users (position_or_len (is_for user) users) (ltb-false (position_or_len (is_for user) users) (length users) e)

-- a user that is listed without a count
pub count-pushed : (users : List UserStamp) (user other : List ℕ) → count_in (users ++ record { user = user; count = 0 } ∷ []) other ≡ count_in users other
count-pushed [] user other = cases (bytes_eq user other) where
  cases : (b : Bool) → ◌≡◌ {A = ℕ} (cond b 0 0) 0
  cases true = refl
  cases false = refl
count-pushed (s ∷ users) user other = ap (λ n. cond (is_for other s) s.count n) (count-pushed users user other)

-- a user is listed where one of the list is for it
within : (users : List UserStamp) (user : List ℕ) → position_or_len (is_for user) users < length users → is_listed users user ≡ true
within users user h = cases (nat_lt (position_or_len (is_for user) users) (length users)) refl where
  cases : (b : Bool) → nat_lt (position_or_len (is_for user) users) (length users) ≡ b
      → is_some (cond b (Some (position_or_len (is_for user) users)) None) ≡ true
  cases true e = refl
  cases false e = absurd (omega (arith, h, ltb-false (position_or_len (is_for user) users) (length users) e))

pushed-within : (users : List UserStamp) (user : List ℕ)
    → position_or_len (is_for user) (users ++ record { user = user; count = 0 } ∷ []) < length (users ++ record { user = user; count = 0 } ∷ [])
pushed-within [] user = let same : bytes_eq user user ≡ true = (bytes_eq-Decides user user).1 refl in rw same (omega arith)
pushed-within (s ∷ users) user = cases (is_for user s) (pushed-within users user) where
  cases : (b : Bool) → position_or_len (is_for user) (users ++ record { user = user; count = 0 } ∷ []) < length (users ++ record { user = user; count = 0 } ∷ [])
      → cond (not b) (1 + position_or_len (is_for user) (users ++ record { user = user; count = 0 } ∷ [])) 0
      < suc (length (users ++ record { user = user; count = 0 } ∷ []))
  cases true h = omega arith
  cases false h = omega arith

-- a user that was just listed
pub listed-pushed : (users : List UserStamp) (user : List ℕ) → is_listed (users ++ record { user = user; count = 0 } ∷ []) user ≡ true
listed-pushed users user = within (users ++ record { user = user; count = 0 } ∷ []) user (pushed-within users user)

-- two tests of one user that is the user sought
same-test : (user said other : List ℕ) → bytes_eq said user ≡ true → bytes_eq said other ≡ bytes_eq user other
same-test user said other e = ap (λ (u : List ℕ). bytes_eq u other) ((bytes_eq-Decides said user).0 e)

-- another user is not the one that was sought and the one that stands at once
both-not : (user said other : List ℕ) → bytes_eq said user ≡ false → bytes_eq said other ≡ true → bytes_eq user other ≡ false
both-not user said other e f = cases (bytes_eq user other) refl where
  cases : (b : Bool) → bytes_eq user other ≡ b → b ≡ false
  cases false g = refl
  cases true g =
      let one : said ≡ other = (bytes_eq-Decides said other).0 f in
      let two : user ≡ other = (bytes_eq-Decides user other).0 g in
      let same : bytes_eq said user ≡ true = (bytes_eq-Decides said user).1 (one ∙ sym two) in
      absurd (cc)

raised-at : (users : List UserStamp) (user other : List ℕ) (s : UserStamp) (n : ℕ) → position_or_len (is_for user) users ≡ n → n < length users
    → s ≡ slice_index_or users n s
    → count_in (slice_set users n (record s { count = s.count + 1 })) other ≡ count_in users other + (if bytes_eq user other then 1 else 0)
raised-at [] user other s n p h e = absurd (omega arith)
raised-at (x ∷ users) user other s n p h e = cases (is_for user x) refl n p h e (raised-at users user other s) where
  here : (b : Bool) → cond b (x.count + 1) (count_in users other) ≡ cond b x.count (count_in users other) + (if b then 1 else 0)
  here true = refl
  here false = omega arith

  later : (b c : Bool) (m : ℕ) → (b ≡ true → c ≡ false) → m ≡ count_in users other + (if c then 1 else 0)
      → cond b x.count m ≡ cond b x.count (count_in users other) + (if c then 1 else 0)
  later true c m n e = let off : c ≡ false = n refl in rw off (omega arith)
  later false c m n e = e

  cases : (b : Bool) → is_for user x ≡ b → (n : ℕ) → cond (not b) (1 + position_or_len (is_for user) users) 0 ≡ n
      → n < suc (length users) → s ≡ slice_index_or (x ∷ users) n s
      → ((m : ℕ) → position_or_len (is_for user) users ≡ m → m < length users → s ≡ slice_index_or users m s
      → count_in (slice_set users m (record s { count = s.count + 1 })) other ≡ count_in users other + (if bytes_eq user other then 1 else 0))
      → count_in (slice_set (x ∷ users) n (record s { count = s.count + 1 })) other ≡ count_in (x ∷ users) other + (if bytes_eq user other then 1 else 0)
  cases true t zero p h e rest =
      let same : s ≡ x = e in
      rw (same, sym (same-test user x.user other t)) (here (bytes_eq x.user other))
  cases true t (suc m) p h e rest = absurd (omega arith)
  cases false t zero p h e rest = absurd (omega arith)
  cases false t (suc m) p h e rest =
      later (bytes_eq x.user other) (bytes_eq user other) _ (both-not user x.user other t) (rest m (omega arith) (omega arith) e)

-- what a raise at the place of a user does to each count
pub raised : (users : List UserStamp) (user other : List ℕ) (s : UserStamp) (place : ℕ) → place_of_user users user ≡ Some place
    → s ≡ slice_index_or users place s
    → count_in (slice_set users place (record s { count = s.count + 1 })) other ≡ count_in users other + (if bytes_eq user other then 1 else 0)
raised users user other s place p e = cases (nat_lt (position_or_len (is_for user) users) (length users)) refl p where
  cases : (b : Bool) → nat_lt (position_or_len (is_for user) users) (length users) ≡ b
      → cond b (Some (position_or_len (is_for user) users)) None ≡ Some place
      → count_in (slice_set users place (record s { count = s.count + 1 })) other ≡ count_in users other + (if bytes_eq user other then 1 else 0)
  cases true t p =
      let same : position_or_len (is_for user) users ≡ place = cc in
      let short = ltb-true (position_or_len (is_for user) users) (length users) t in
      raised-at users user other s place same (omega arith) e
  cases false t p = absurd (cc)

short : (users : List UserStamp) (user : List ℕ) (place : ℕ) → place_of_user users user ≡ Some place → place < length users
short users user place p = cases (nat_lt (position_or_len (is_for user) users) (length users)) refl p where
  cases : (b : Bool) → nat_lt (position_or_len (is_for user) users) (length users) ≡ b
      → cond b (Some (position_or_len (is_for user) users)) None ≡ Some place → place < length users
  cases true t p =
      let same : position_or_len (is_for user) users ≡ place = cc in
      let short = ltb-true (position_or_len (is_for user) users) (length users) t in omega arith
  cases false t p = absurd (cc)

-- the count that stands at a user's place
pub count-there : (users : List UserStamp) (user : List ℕ) (place : ℕ) (s : UserStamp) → place_of_user users user ≡ Some place
    → s ≡ slice_index_or users place s → s.count ≡ count_in users user
count-there users user place s p e =
    let found = item-at users place (short users user place p) in
    let same : s ≡ found.0 = e ∙ get_or_from_slice_get users place found.0 s found.1 in
    ap (λ (x : UserStamp). x.count) same
    ∙ sym (count-at users user ∙ ap (λ q. count_at users q) p ∙ ap counted found.1)
