-- Facts of salts, of statements, of looks, and of accounts that stand.
use Rattle.std.proofs.Common.{◌≡◌, refl, sym, ap, ◌∙◌, subst, IsTrue, ℕ, max, ◌==◌, ◌&&◌, Bool, true, false, if◌then◌else◌, List, [], ◌∷◌, length, Option, Some, None, IfSome, IsSome, find, arith}
use Rattle.std.specs.List.{All, list_all}
use Rattle.std.proofs.lemmas.Bool.{le-leb}
use Rattle.std.proofs.lemmas.Bool.Decides.{nat_tests}
use Rattle.std.proofs.lemmas.List.Elements.{All-cons, All-head, All-nil, All-tail}
use Rattle.account_history.proofs.Grammatical.{grammar-written}
use Rattle.account_history.specs.Answers.{attempt_reply, reply_for, reply_of}
use Rattle.account_history.specs.Failures.{tally}
use Rattle.account_history.specs.Histories.{History, moment, start_of}
use Rattle.account_history.specs.Known.{known}
use Rattle.account_history.specs.Verifying.{account_verifies}
use Rattle.account_history.specs.Records.{has_id, in_force, is_at, or_else, records}
use Rattle.account_history.specs.Sound.{IsWritten}
use Rattle.account_history.specs.declared.entries.Reply.TheVariants as reply
use Rattle.account_machine.specs.Labels.{ShowsFewLabels}
use Rattle.account_rules.specs.declared.accounts.Account.{Account}
use Rattle.account_rules.specs.declared.accounts.Settings.{Settings}
use Rattle.account_rules.specs.declared.refusals.Rule.{Rule}
use Rattle.account_rules.specs.declared.refusals.Rule.TheVariants as rule
use Rattle.account_rules.specs.Refusals.{first_rule, is_expired}
use Rattle.factor_chain.specs.declared.credentials.InForce.{InForce}
use Rattle.factor_chain.specs.declared.evidence_list.Evidence.{Evidence}
use Rattle.login_lock.specs.declared.Tally.{Tally}
use Rattle.lg_base.specs.declared.names.Host.TheVariants as host
use Rattle.serve_talk.specs.Fitting.{opened_by}
use Rattle.session_talk.specs.Turns.{has_few_labels, is_nonce, is_salt_byte}
use Rattle.sha256_crypt.specs.Alphabet.{IsSaltByte}
use Rattle.stmt_rules.specs.declared.statement.Statement.{Statement}
use Rattle.stmt_syntax.specs.Reading.{IsReadable}
use Rattle.stmt_tokens.specs.Tokens.{tokens}

-- ## Salts

untrue : false ≡ true → ⊥
untrue e = absurd (cc)

salt_byte : (b : ℕ) → IsSaltByte b → is_salt_byte b ≡ true
unfolding IsSaltByte
salt_byte b is = grind (arith, nat_tests)

byte_salt : (b : ℕ) → is_salt_byte b ≡ true → IsSaltByte b
unfolding IsSaltByte
byte_salt b is = grind (arith, nat_tests)

both_true : (a b : Bool) → a ≡ true → b ≡ true → (a && b) ≡ true
both_true true b first second = second
both_true false b first second = first

first_true : (a b : Bool) → (a && b) ≡ true → a ≡ true
first_true true b both = refl
first_true false b both = both

second_true : (a b : Bool) → (a && b) ≡ true → b ≡ true
second_true true b both = both
second_true false b both = absurd (untrue both)

pub salt_is_nonce : (salt : List ℕ) → All IsSaltByte salt → IsTrue (is_nonce salt)
salt_is_nonce [] all = refl
salt_is_nonce (b ∷ salt) all =
    both_true (is_salt_byte b) (list_all is_salt_byte salt) (salt_byte b (All-head IsSaltByte b salt all)) (salt_is_nonce salt (All-tail IsSaltByte b salt all))

pub nonce_is_salt : (salt : List ℕ) → IsTrue (is_nonce salt) → All IsSaltByte salt
nonce_is_salt [] is = All-nil IsSaltByte
nonce_is_salt (b ∷ salt) is =
    All-cons IsSaltByte b salt (byte_salt b (first_true (is_salt_byte b) (list_all is_salt_byte salt) is))
    (nonce_is_salt salt (second_true (is_salt_byte b) (list_all is_salt_byte salt) is))

-- ## Statements and looks

-- what a text is read to is as the grammar has it
pub readable_written : (statement : Statement) → IsReadable statement → IsWritten statement
readable_written statement (text, is) = grammar-written statement (tokens text) [] is

pub few_labels : (shown : Option InForce) → IfSome shown ShowsFewLabels → IsTrue (has_few_labels shown)
few_labels None few = refl
few_labels (Some account) few = le-leb (length account.labels) 2 few

-- ## Accounts that stand

same_id : (id : ℕ) → (id == id) ≡ true
same_id id = grind (arith, nat_tests)

abbrev pub Stands : ℕ → List Account → Type 0
Stands id accounts = IsSome (find (has_id id) accounts)

stands_behind : (id : ℕ) (a : Account) (accounts : List Account) → Stands id accounts → Stands id (a ∷ accounts)
stands_behind id a accounts stands = by_id (a.id == id)
  where
    by_id : (b : Bool) → IsSome (if b then Some a else find (has_id id) accounts)
    by_id true = refl
    by_id false = stands

-- an account that is found stands
found_stands : (p : Account → Bool) (accounts : List Account) (a : Account) → find p accounts ≡ Some a → Stands a.id accounts
found_stands p [] a e = absurd (cc)
found_stands p (x ∷ accounts) a e = by_test (p x) refl (found_stands p accounts a)
  where
    first : Some x ≡ Some a → x ≡ a
    first same = cc

    at_front : (b : Bool) → (a.id == a.id) ≡ b → IsSome (if b then Some a else find (has_id a.id) accounts)
    at_front true is = refl
    at_front false is = absurd (untrue (sym is ∙ same_id a.id))

    by_test : (b : Bool) → p x ≡ b → (find p accounts ≡ Some a → Stands a.id accounts) → Stands a.id (x ∷ accounts)
    by_test true is behind =
        let same : x ≡ a = first (ap (λ (b : Bool). if b then Some x else find p accounts) (sym is) ∙ e) in
        subst (λ (y : Account). Stands a.id (y ∷ accounts)) (sym same) (at_front (a.id == a.id) refl)
    by_test false is behind = stands_behind a.id x accounts (behind (ap (λ (b : Bool). if b then Some x else find p accounts) (sym is) ∙ e))

in_force_stands : (accounts : List Account) (user : List ℕ) (a : Account) → in_force accounts user ≡ Some a → Stands a.id accounts
in_force_stands accounts user a e = by_found (find (is_at user host.Localhost) accounts) refl e
  where
    by_found : (found : Option Account) → find (is_at user host.Localhost) accounts ≡ found → or_else found (find (is_at user host.Any) accounts) ≡ Some a → Stands a.id accounts
    by_found (Some b) is same = found_stands (is_at user host.Localhost) accounts a (is ∙ same)
    by_found None is same = found_stands (is_at user host.Any) accounts a same

abbrev pub IsOpening : Option ℕ → List Account → Type 0
IsOpening None accounts = Unit {0}
IsOpening (Some id) accounts = Stands id accounts

expired_opens : (a : Account) (accounts : List Account) (expired : Bool) → Stands a.id accounts → IsOpening (opened_by (if expired then reply.Sandbox a.id a.name.host else reply.Opened a.id a.name.host)) accounts
expired_opens a accounts true stands = stands
expired_opens a accounts false stands = stands

reply_opens : (refused : Option Rule) (a : Account) (tally : Tally) (evidences : List Evidence) (settings : Settings) (now : ℕ) (accounts : List Account) → Stands a.id accounts →
    IsOpening (opened_by (reply_of refused a tally evidences settings now)) accounts
reply_opens (Some rule.Blocked) a tally evidences settings now accounts stands = tt
reply_opens (Some rule.Denied) a tally evidences settings now accounts stands = tt
reply_opens (Some rule.Locked) a tally evidences settings now accounts stands = tt
reply_opens (Some rule.MustChange) a tally evidences settings now accounts stands = tt
reply_opens None a tally evidences settings now accounts stands = expired_opens a accounts (is_expired a settings now) stands

reply_for_opens : (h : History) (user : List ℕ) (evidences : List Evidence) (flags now : ℕ) (found : Option Account) → in_force (records h) user ≡ found →
    IsOpening (opened_by (reply_for h found evidences flags now)) (records h)
reply_for_opens h user evidences flags now None is = tt
reply_for_opens h user evidences flags now (Some a) is =
    reply_opens (first_rule a (tally h a) (account_verifies (known h) a evidences) flags (start_of h).settings now) a (tally h a) evidences (start_of h).settings now (records h)
    (in_force_stands (records h) user a is)

-- the account that an attempt opens stands at its place
pub attempt_opens : (h : History) (user : List ℕ) (evidences : List Evidence) (flags reading : ℕ) → IsOpening (opened_by (attempt_reply h user evidences flags reading)) (records h)
attempt_opens h user evidences flags reading =
    reply_for_opens h user evidences flags (max reading (moment h)) (in_force (records h) user) refl
