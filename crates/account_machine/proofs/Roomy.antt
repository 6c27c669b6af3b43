-- The room for digests of passwords that have none.
use Rattle.std.proofs.Common.{◌≡◌, ap, sym, ◌∙◌, ℕ, zero, suc, ◌+◌, ◌*◌, ◌≤◌, List, [], ◌∷◌, length, Bool, true, false, if◌then◌else◌, Option, Some, None, slice_get, eq-eqb, arith}
use Rattle.std.specs.Prelude.{nat_eq}
use Rattle.digest_cache.specs.Cache.{or_digest, put_in, room_for}
use Rattle.factor_chain.specs.declared.credentials.Stored.{Stored}
use Rattle.account_rules.specs.declared.accounts.Account.{Account}
use Rattle.account_machine.specs.Digesting.{missing, missing_in, missing_second, number_of, second_number}
use Rattle.factor_chain.specs.declared.evidence_list.Fit.{Fit}
use Rattle.factor_chain.specs.declared.evidence_list.Fit.TheVariants as fit

-- a digest has room for one at most
room-one : (d : Option (List ℕ)) → room_for d ≤ 1
room-one None = omega arith
room-one (Some digest) = omega arith

-- two passwords at most need room in each account
missing-second : (digests : ℕ → Option (List ℕ)) (second : Option (Stored × ℕ)) → missing_second digests second ≤ 1
missing-second digests None = omega arith
missing-second digests (Some second) = room-one (digests second.1)

pub missing-most : (digests : ℕ → Option (List ℕ)) (accounts : List Account) → missing digests accounts ≤ 2 * length accounts
missing-most digests [] = omega arith
missing-most digests (a ∷ accounts) =
    let first = room-one (digests a.primary_id) in let second = missing-second digests a.secondary in
    let rest = missing-most digests accounts in omega arith

-- one more digest needs no more room
room-less : (d : Option (List ℕ)) (digest : List ℕ) (b : Bool) → room_for (if b then or_digest d digest else d) ≤ room_for d
room-less None digest true = omega arith
room-less (Some kept) digest true = omega arith
room-less d digest false = omega arith

room-used : (d : Option (List ℕ)) (digest : List ℕ) → room_for (or_digest d digest) + room_for d ≤ room_for d
room-used None digest = omega arith
room-used (Some kept) digest = omega arith

put-less : (id : ℕ) (digest : List ℕ) (digests : ℕ → Option (List ℕ)) (q : ℕ) → room_for (put_in id digest digests q) ≤ room_for (digests q)
put-less id digest digests q = room-less (digests q) digest (nat_eq id q)

put-used : (id : ℕ) (digest : List ℕ) (digests : ℕ → Option (List ℕ)) (q : ℕ) → id ≡ q → room_for (put_in id digest digests q) + room_for (digests id) ≤ room_for (digests q)
put-used id digest digests q e =
    let same : nat_eq id q ≡ true = eq-eqb id q e in
    let used = room-used (digests q) digest in
    let put : room_for (put_in id digest digests q) ≡ room_for (or_digest (digests q) digest) =
    ap (λ (b : Bool). room_for (if b then or_digest (digests q) digest else digests q)) same in
    let its : room_for (digests id) ≡ room_for (digests q) = ap (λ n. room_for (digests n)) e in
    omega (arith, used, put, its)

second-less : (id : ℕ) (digest : List ℕ) (digests : ℕ → Option (List ℕ)) (second : Option (Stored × ℕ))
    → missing_second (put_in id digest digests) second ≤ missing_second digests second
second-less id digest digests None = omega arith
second-less id digest digests (Some second) = put-less id digest digests second.1

second-used : (id : ℕ) (digest : List ℕ) (digests : ℕ → Option (List ℕ)) (second : Option (Stored × ℕ)) → second_number second ≡ Some id
    → missing_second (put_in id digest digests) second + room_for (digests id) ≤ missing_second digests second
second-used id digest digests None e = absurd (cc)
second-used id digest digests (Some second) e = let same : id ≡ second.1 = cc in put-used id digest digests second.1 same

in-less : (id : ℕ) (digest : List ℕ) (digests : ℕ → Option (List ℕ)) (a : Account) → missing_in (put_in id digest digests) a ≤ missing_in digests a
in-less id digest digests a =
    let first = put-less id digest digests a.primary_id in let second = second-less id digest digests a.secondary in omega arith

in-used : (id : ℕ) (digest : List ℕ) (digests : ℕ → Option (List ℕ)) (a : Account) (f : Fit) → number_of a f ≡ Some id
    → missing_in (put_in id digest digests) a + room_for (digests id) ≤ missing_in digests a
in-used id digest digests a fit.Nothing e = absurd (cc)
in-used id digest digests a fit.Primary e =
    let same : id ≡ a.primary_id = cc in
    let first = put-used id digest digests a.primary_id same in let second = second-less id digest digests a.secondary in omega arith
in-used id digest digests a fit.Secondary e =
    let first = put-less id digest digests a.primary_id in let second = second-used id digest digests a.secondary e in omega arith
in-used id digest digests a fit.Factor e = absurd (cc)

all-less : (id : ℕ) (digest : List ℕ) (digests : ℕ → Option (List ℕ)) (accounts : List Account)
    → missing (put_in id digest digests) accounts ≤ missing digests accounts
all-less id digest digests [] = omega arith
all-less id digest digests (a ∷ accounts) =
    let first = in-less id digest digests a in let rest = all-less id digest digests accounts in omega arith

all-used : (id : ℕ) (digest : List ℕ) (digests : ℕ → Option (List ℕ)) (a : Account) (f : Fit) (accounts : List Account) (place : ℕ)
    → number_of a f ≡ Some id → slice_get accounts place ≡ Some a
    → missing (put_in id digest digests) accounts + room_for (digests id) ≤ missing digests accounts
all-used id digest digests a f [] place e g = absurd (cc)
all-used id digest digests a f (b ∷ accounts) zero e g =
    let same : a ≡ b = cc in
    let first = in-used id digest digests b f (ap (λ (x : Account). number_of x f) (sym same) ∙ e) in
    let rest = all-less id digest digests accounts in omega arith
all-used id digest digests a f (b ∷ accounts) (suc place) e g =
    let first = in-less id digest digests b in let rest = all-used id digest digests a f accounts place e g in omega arith

-- there is room for the digest of an account's password
pub has-room : (digests : ℕ → Option (List ℕ)) (spare : ℕ) (a : Account) (f : Fit) (id : ℕ) → missing_in digests a ≤ spare → number_of a f ≡ Some id
    → room_for (digests id) ≤ spare
has-room digests spare a f id room e = let used = in-used id [] digests a f e in omega (arith, room, used)

-- and once it is kept there is room for the others
pub room-after : (digests after : ℕ → Option (List ℕ)) (before spare : ℕ) (a : Account) (f : Fit) (id : ℕ) (digest : List ℕ) (accounts : List Account) (place : ℕ)
    → ((q : ℕ) → after q ≡ put_in id digest digests q) → before ≤ spare + room_for (digests id) → number_of a f ≡ Some id
    → slice_get accounts place ≡ Some a → missing digests accounts ≤ before → missing after accounts ≤ spare
room-after digests after before spare a f id digest accounts place kept left e g room =
    let same : missing after accounts ≡ missing (put_in id digest digests) accounts = ap (λ (d : ℕ → Option (List ℕ)). missing d accounts) (λ i q. kept q i) in
    let used = all-used id digest digests a f accounts place e g in
    omega (arith, same, used, left, room)

-- what is missing in one account is missing in all
pub missing-at : (digests : ℕ → Option (List ℕ)) (accounts : List Account) (place : ℕ) (a : Account) → slice_get accounts place ≡ Some a
    → missing_in digests a ≤ missing digests accounts
missing-at digests [] place a g = absurd (cc)
missing-at digests (b ∷ accounts) zero a g =
    let same : a ≡ b = cc in let its = ap (λ (x : Account). missing_in digests x) same in omega arith
missing-at digests (b ∷ accounts) (suc place) a g = let rest = missing-at digests accounts place a g in omega arith
