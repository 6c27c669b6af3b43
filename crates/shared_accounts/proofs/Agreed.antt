-- A look agrees with the accounts as long as the stamp of its user is the same.
use Rattle.std.proofs.Common.{◌≡◌, refl, ap, sym, ◌∙◌, ℕ, ◌<◌, ◌≤◌, ◌==◌, ◌&&◌, cond, List, [], ◌∷◌, map, filter, find, Bool, true, false, Option, Some, None, option_map, subst, arith, eqb-true}
use Rattle.std.specs.Str.{bytes_eq}
use Rattle.std.proofs.lemmas.Slice.Eq.{bytes_eq-Decides}
use Rattle.lg_base.specs.declared.names.Name.{Name}
use Rattle.factor_chain.specs.declared.credentials.Credential.{Credential}
use Rattle.factor_chain.specs.declared.credentials.InForce.{InForce}
use Rattle.factor_chain.specs.declared.credentials.Look.{Look}
use Rattle.factor_chain.specs.declared.credentials.PastRecord.{PastRecord}
use Rattle.factor_chain.specs.declared.credentials.Stored.{Stored}
use Rattle.account_rules.specs.declared.accounts.Account.{Account}
use Rattle.account_history.specs.Answers.{look_of, look_of_user, shown, shown_login, shown_whole, user_of}
use Rattle.account_history.specs.Given.{given}
use Rattle.account_history.specs.Histories.{History, after_entries}
use Rattle.account_history.specs.Known.{credential, known}
use Rattle.account_history.specs.Naming.{has_id, in_force, is_named, same_host}
use Rattle.account_history.specs.Numbers.{Rise, RiseTo}
use Rattle.account_history.specs.Records.{records}
use Rattle.account_history.specs.Stamps.{stamp}
use Rattle.account_history.specs.Telling.{Kept, is_of, kept}
use Rattle.account_history.specs.declared.entries.Entry.{Entry}
use Rattle.account_history.specs.declared.entries.Who.{Who}
use Rattle.account_history.specs.declared.entries.Who.TheVariants as who
use Rattle.account_history.proofs.Numbered.{numbers-stay-gone, rise-of}
use Rattle.account_history.proofs.Unchanged.{force-own, own_force, own-same}
use Rattle.account_machine.specs.Agreeing.{Agrees, undigested, undigested_account, undigested_look}
use Rattle.shared_accounts.specs.Beginnings.{history_of}
use Rattle.shared_accounts.specs.Calls.{Came, WasGiven}
use Rattle.shared_accounts.specs.declared.desk.Begun.{Begun}
use Rattle.shared_accounts.proofs.Placed.{front-history, look-stamped}

same-bytes : (bytes : List ℕ) → bytes_eq bytes bytes ≡ true
same-bytes bytes = (bytes_eq-Decides bytes bytes).1 refl

-- ## What a look shows, but for digests

abbrev bare : ℕ → Stored → Credential
bare id stored = record { id = id; stored = stored; digest = None }

-- what is shown of what the user logs in with
abbrev plain : List PastRecord → Kept → InForce
plain past k = record {
  account = k.id;
  name = k.name;
  method = k.method;
  primary = bare k.primary_id k.primary;
  secondary = option_map (λ (s : Stored × ℕ). bare s.1 s.0) k.secondary;
  labels = k.labels;
  past = past;
}

undigested-second : (digests : ℕ → Option (List ℕ)) (second : Option (Stored × ℕ))
    → option_map undigested (option_map (λ (s : Stored × ℕ). credential digests s.1 s.0) second) ≡ option_map (λ (s : Stored × ℕ). bare s.1 s.0) second
undigested-second digests None = refl
undigested-second digests (Some s) = refl

undigested-shown : (digests : ℕ → Option (List ℕ)) (past : List PastRecord) (a : Account) → undigested_account (shown digests past a) ≡ plain past (kept a)
undigested-shown digests past a = ap (λ (c : Option Credential). record (plain past (kept a)) { secondary = c }) (undigested-second digests a.secondary)

login-shown : (h : History) (x : Option Account) → option_map undigested_account (shown_login h x) ≡ option_map (plain []) (option_map kept x)
login-shown h None = refl
login-shown h (Some a) = ap (λ (s : InForce). Some s) (undigested-shown (known h) [] a)

whole-shown : (h : History) (x : Option Account) → option_map undigested_account (shown_whole h x) ≡ option_map (λ k. plain k.past k) (option_map kept x)
whole-shown h None = refl
whole-shown h (Some a) = ap (λ (s : InForce). Some s) (undigested-shown (known h) a.past a)

-- ## Accounts of one user

find-step : {X : Type 0} (user other : Bool) (test : X → Bool) (x : X) (xs : List X) (found : Option X) → test x ≡ (user && other) → found ≡ find test xs
    → cond (user && other) (Some x) found ≡ find test (cond user (x ∷ xs) xs)
find-step true true test x xs found e f = sym (ap (λ b. cond b (Some x) (find test xs)) e)
find-step true false test x xs found e f = f ∙ sym (ap (λ b. cond b (Some x) (find test xs)) e)
find-step false other test x xs found e f = f

map-cond : (b : Bool) (a : Account) (found : Option Account) → option_map kept (cond b (Some a) found) ≡ cond b (Some (kept a)) (option_map kept found)
map-cond true a found = refl
map-cond false a found = refl

-- an account that is sought among those of its user
module _ (user : List ℕ) (other : Kept → Bool) where
  abbrev both : Kept → Bool
  both k = is_of user k && other k

  find-own : (accounts : List Account) → option_map kept (find (λ a. both (kept a)) accounts) ≡ find both (filter (is_of user) (map kept accounts))
  find-own [] = refl
  find-own (a ∷ accounts) =
      map-cond (both (kept a)) a (find (λ b. both (kept b)) accounts)
      ∙ find-step (is_of user (kept a)) (other (kept a)) both (kept a) (filter (is_of user) (map kept accounts)) (option_map kept (find (λ b. both (kept b)) accounts)) refl (find-own accounts)

  same-found : (old new : List Account) → filter (is_of user) (map kept new) ≡ filter (is_of user) (map kept old)
      → option_map kept (find (λ a. both (kept a)) new) ≡ option_map kept (find (λ a. both (kept a)) old)
  same-found old new e = find-own new ∙ (ap (find both) e ∙ sym (find-own old))

-- ## One's own account

pub found-is : (test : Account → Bool) (accounts : List Account) (a : Account) → find test accounts ≡ Some a → test a ≡ true
found-is test [] a e = absurd (cc)
found-is test (x ∷ xs) a e = cases (test x) (found-is test xs a) refl e where
  cases : (b : Bool) → (find test xs ≡ Some a → test a ≡ true) → test x ≡ b → cond b (Some x) (find test xs) ≡ Some a → test a ≡ true
  cases true later t e = let same : x ≡ a = cc in ap test (sym same) ∙ t
  cases false later t e = later e

-- an account behind others has a greater number
found-above : (test : Account → Bool) (low : ℕ) (xs : List Account) (a : Account) → Rise low xs → find test xs ≡ Some a → low < a.id
found-above test low [] a r e = absurd (cc)
found-above test low (x ∷ xs) a r e = cases (test x) e (λ f. found-above test x.id xs a r.1 f) where
  cases : (b : Bool) → cond b (Some x) (find test xs) ≡ Some a → (find test xs ≡ Some a → x.id < a.id) → low < a.id
  cases true e later = let same : x ≡ a = cc in subst (λ (y : Account). low < y.id) same r.0
  cases false e later = let h = later e in let k : low < x.id = r.0 in omega arith

-- the first that passes one test and passes another too is the first that passes both
first-both : (one two : Account → Bool) (accounts : List Account) (a : Account) → find one accounts ≡ Some a → two a ≡ true
    → find (λ x. two x && one x) accounts ≡ Some a
first-both one two [] a e t = absurd (cc)
first-both one two (x ∷ xs) a e t = cases (one x) (two x) (λ f. first-both one two xs a f t) refl refl e where
  cases : (b c : Bool) → (find one xs ≡ Some a → find (λ y. two y && one y) xs ≡ Some a) → one x ≡ b → two x ≡ c → cond b (Some x) (find one xs) ≡ Some a
      → cond (c && b) (Some x) (find (λ y. two y && one y) xs) ≡ Some a
  cases true true later o w e = e
  cases true false later o w e = let same : x ≡ a = cc in absurd (let f : two a ≡ false = ap two (sym same) ∙ w in cc)
  cases false true later o w e = later e
  cases false false later o w e = later e

-- where numbers rise, an account with a number that passes another test too is the one with that number
only-one : (id : ℕ) (two : Account → Bool) (low : ℕ) (accounts : List Account) (a : Account) → Rise low accounts → find (λ x. two x && has_id id x) accounts ≡ Some a
    → find (has_id id) accounts ≡ Some a
only-one id two low [] a r e = absurd (cc)
only-one id two low (x ∷ xs) a r e = cases (two x) (has_id id x) (λ f. others (only-one id two x.id xs a r.1 f)) refl refl e where
  others : find (has_id id) xs ≡ Some a → find (has_id id) (x ∷ xs) ≡ Some a
  others later =
      let above = found-above (has_id id) x.id xs a r.1 later in
      let its = found-is (has_id id) xs a later in
      no-first (has_id id x) refl above its later where
        no-first : (b : Bool) → has_id id x ≡ b → x.id < a.id → has_id id a ≡ true → find (has_id id) xs ≡ Some a → cond b (Some x) (find (has_id id) xs) ≡ Some a
        no-first true t above its later = absurd (omega (arith, eqb-true x.id id t, eqb-true a.id id its))
        no-first false t above its later = later

  cases : (c b : Bool) → (find (λ y. two y && has_id id y) xs ≡ Some a → find (has_id id) (x ∷ xs) ≡ Some a) → two x ≡ c → has_id id x ≡ b → cond (c && b) (Some x) (find (λ y. two y && has_id id y) xs) ≡ Some a
      → find (has_id id) (x ∷ xs) ≡ Some a
  cases true true later w o e = ap (λ t. cond t (Some x) (find (has_id id) xs)) o ∙ e
  cases true false later w o e = later e
  cases false b later w o e = later e

-- ## Looks

-- two looks of one user that show the same but for digests
same-shown : (h k : History) (user user' : List ℕ) (x y : Option InForce) → user' ≡ user → stamp k user ≡ stamp h user
    → option_map undigested_account x ≡ option_map undigested_account y
    → undigested_look (look_of_user h user x) ≡ undigested_look (look_of_user k user' y)
same-shown h k user user' x y u s e = λ i. record {
  user = sym u i;
  stamp = (sym s ∙ ap (stamp k) (sym u)) i;
  in_force = e i;
}

module _ (h : History) (entries : List Entry) where
  abbrev later : History
  later = after_entries h entries

  login-same : (user : List ℕ) → stamp later user ≡ stamp h user
      → undigested_look (look_of h (who.Login user)) ≡ undigested_look (look_of later (who.Login user))
  login-same user s =
      let same = own-same h entries user s in
      let stands : option_map kept (in_force (records later) user) ≡ option_map kept (in_force (records h) user) =
      force-own user (records later) ∙ (ap (own_force user) same ∙ sym (force-own user (records h))) in
      same-shown h later user user (shown_login h (in_force (records h) user)) (shown_login later (in_force (records later) user)) refl s
      (login-shown h (in_force (records h) user) ∙ (ap (option_map (plain [])) (sym stands) ∙ sym (login-shown later (in_force (records later) user))))

  named-same : (name : Name) → stamp later name.user ≡ stamp h name.user
      → undigested_look (look_of h (who.Account name)) ≡ undigested_look (look_of later (who.Account name))
  named-same name s =
      let found = same-found name.user (λ k. same_host k.name.host name.host) (records h) (records later) (own-same h entries name.user s) in
      same-shown h later name.user name.user (shown_whole h (find (is_named name) (records h))) (shown_whole later (find (is_named name) (records later))) refl s
      (whole-shown h (find (is_named name) (records h)) ∙ (ap (option_map (λ k. plain k.past k)) (sym found) ∙ sym (whole-shown later (find (is_named name) (records later)))))

  -- one's own account, by what was found of it before and is found now
  own-shown : (x y : Option Account) → option_map kept y ≡ option_map kept x → stamp later (user_of x) ≡ stamp h (user_of x)
      → undigested_look (look_of_user h (user_of x) (shown_whole h x)) ≡ undigested_look (look_of_user later (user_of y) (shown_whole later y))
  own-shown x y e s = same-shown h later (user_of x) (user_of y) (shown_whole h x) (shown_whole later y) (same-user x y e) s
      (whole-shown h x ∙ (ap (option_map (λ k. plain k.past k)) (sym e) ∙ sym (whole-shown later y))) where
        kept_user : Option Kept → List ℕ
        kept_user None = []
        kept_user (Some k) = k.name.user

        user-kept : (x : Option Account) → user_of x ≡ kept_user (option_map kept x)
        user-kept None = refl
        user-kept (Some a) = refl

        same-user : (x y : Option Account) → option_map kept y ≡ option_map kept x → user_of y ≡ user_of x
        same-user x y e = user-kept y ∙ (ap kept_user e ∙ sym (user-kept x))

  own-found : (id : ℕ) (x : Option Account) → find (has_id id) (records h) ≡ x → id ≤ (given h).account → Rise 0 (records later)
      → stamp later (user_of x) ≡ stamp h (user_of x) → option_map kept (find (has_id id) (records later)) ≡ option_map kept x
  own-found id None e g r s = ap (option_map kept) (numbers-stay-gone h entries id g e)
  own-found id (Some a) e g r s =
      let user : List ℕ = a.name.user in
      let own : Kept → Bool = λ k. k.id == id in
      let before : find (λ x. is_of user (kept x) && has_id id x) (records h) ≡ Some a =
      first-both (has_id id) (λ x. is_of user (kept x)) (records h) a e (same-bytes user) in
      let found : option_map kept (find (λ x. is_of user (kept x) && has_id id x) (records later)) ≡ Some (kept a) =
      same-found user own (records h) (records later) (own-same h entries user s) ∙ ap (option_map kept) before in
      now (find (λ x. is_of user (kept x) && has_id id x) (records later)) refl found where
        now : (y : Option Account) → find (λ x. is_of a.name.user (kept x) && has_id id x) (records later) ≡ y → option_map kept y ≡ Some (kept a)
            → option_map kept (find (has_id id) (records later)) ≡ Some (kept a)
        now None f k = absurd (cc)
        now (Some b) f k = ap (option_map kept) (only-one id (λ x. is_of a.name.user (kept x)) 0 (records later) b r f) ∙ k

  own-look-same : (id : ℕ) → id ≤ (given h).account → Rise 0 (records later) → stamp later (look_of h (who.Own id)).user ≡ stamp h (look_of h (who.Own id)).user
      → undigested_look (look_of h (who.Own id)) ≡ undigested_look (look_of later (who.Own id))
  own-look-same id g r s =
      own-shown (find (has_id id) (records h)) (find (has_id id) (records later)) (own-found id (find (has_id id) (records h)) refl g r s) s

  look-same : (w : Who) → WasGiven h w → Rise 0 (records later) → stamp later (look_of h w).user ≡ stamp h (look_of h w).user
      → undigested_look (look_of h w) ≡ undigested_look (look_of later w)
  look-same (who.Login user) g r s = login-same user s
  look-same (who.Account name) g r s = named-same name s
  look-same (who.Own id) g r s = own-look-same id g r s

-- a look agrees where the stamp of its user is still the same
pub came-agrees : (begun : Begun) (entries : List Entry) (w : Who) (look : Look) → Came begun entries w look
    → RiseTo 0 (given (history_of begun entries)).account (records (history_of begun entries))
    → stamp (history_of begun entries) look.user ≡ look.stamp → Agrees (history_of begun entries) w look
came-agrees begun entries w look c r s =
    let h = history_of begun c.earlier in
    let now : history_of begun entries ≡ after_entries h c.later = front-history begun entries c.earlier c.later c.front in
    let its : look ≡ look_of h w = c.look_is in
    let rise : Rise 0 (records (after_entries h c.later)) =
    subst (λ k. Rise 0 (records k)) now (rise-of 0 (given (history_of begun entries)).account (records (history_of begun entries)) r) in
    let same : stamp (after_entries h c.later) (look_of h w).user ≡ stamp h (look_of h w).user =
    ap (λ k. stamp k (look_of h w).user) (sym now)
    ∙ (ap (λ (l : Look). stamp (history_of begun entries) l.user) (sym its) ∙ (s ∙ (ap (λ (l : Look). l.stamp) its ∙ look-stamped h w))) in
    ap undigested_look its ∙ (look-same h c.later w c.own rise same ∙ ap (λ k. undigested_look (look_of k w)) (sym now))
