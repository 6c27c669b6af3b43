-- The digest that evidence shows, and which of an account's passwords it is of.
use Rattle.std.proofs.Common.{◌≡◌, refl, ap, sym, ◌∙◌, ℕ, ◌+◌, ◌≤◌, List, [], ◌∷◌, length, drop, Bool, true, false, ◌&&◌, ◌==◌, if◌then◌else◌, Option, Some, None, option_map, arith}
use Rattle.std.specs.Prelude.{nat_eq}
use Rattle.std.specs.List.{list_all, enumerate_from}
use Rattle.caching_sha2.specs.Fast.{digest_of}
use Rattle.digest_cache.specs.Cache.{or_digest, put_in}
use Rattle.factor_chain.specs.Checking.{all_fit_on, first_fit, fit_on, full_fits, is_fit, secondary_fit}
use Rattle.factor_chain.specs.declared.credentials.Credential.{Credential}
use Rattle.factor_chain.specs.declared.credentials.Stored.{Stored}
use Rattle.factor_chain.specs.declared.evidence_list.Evidence.{Evidence}
use Rattle.factor_chain.specs.declared.evidence_list.Evidence.TheVariants as evidence
use Rattle.factor_chain.specs.declared.evidence_list.Fit.TheVariants as fit
use Rattle.login_lock.specs.Lock.{is_blocked, next_locks}
use Rattle.login_lock.specs.declared.Tally.{Tally}
use Rattle.account_rules.specs.declared.accounts.Account.{Account}
use Rattle.account_rules.specs.declared.accounts.Settings.{Settings}
use Rattle.account_rules.specs.Refusals.{resumed}
use Rattle.account_rules.specs.declared.refusals.Rule.TheVariants as rule
use Rattle.account_history.specs.Answers.{account_reply, reply_of}
use Rattle.account_history.specs.Failures.{opens}
use Rattle.account_history.specs.Known.{clear_password, credential, fitted, fitted_second, primary_of, secondary_of, shown_of}
use Rattle.account_history.specs.Naming.{or_else}
use Rattle.account_history.specs.Verifying.{account_verifies}
use Rattle.account_machine.specs.Digesting.{first_of_all, first_on, number_of, second_number, verdict_on}

-- ## All evidence

-- whether all evidence fits, by its first piece and the others
pub all-split : (primary : Credential) (secondary : Option Credential) (labels : List (List ℕ)) (evidences : List Evidence) → 1 ≤ length evidences
    → all_fit_on primary secondary labels evidences
    ≡ (is_fit (first_of_all primary secondary evidences)
    && list_all (λ placed. is_fit (fit_on primary secondary labels placed.1 placed.0)) (drop 1 (enumerate_from 0 evidences)))
all-split primary secondary labels [] some = absurd (omega arith)
all-split primary secondary labels (given ∷ evidences) some = refl

-- a verdict is something exactly where the evidence verifies
pub verdict-fit : (digests : ℕ → Option (List ℕ)) (a : Account) (evidences : List Evidence) → 1 ≤ length evidences
    → is_fit (verdict_on digests a evidences) ≡ account_verifies digests a evidences
verdict-fit digests a evidences some =
    ap (λ (b : Bool). is_fit (if b then first_on digests a evidences else fit.Nothing)) split
    ∙ cases (length evidences == length a.labels + 1) (is_fit (first_on digests a evidences)) refl
    (list_all (λ placed. is_fit (fit_on (primary_of digests a) (secondary_of digests a) a.labels placed.1 placed.0)) (drop 1 (enumerate_from 0 evidences)))
    ∙ sym split where
      split : account_verifies digests a evidences
          ≡ ((length evidences == length a.labels + 1) && (is_fit (first_on digests a evidences)
          && list_all (λ placed. is_fit (fit_on (primary_of digests a) (secondary_of digests a) a.labels placed.1 placed.0)) (drop 1 (enumerate_from 0 evidences))))
      split = ap (λ b. (length evidences == length a.labels + 1) && b) (all-split (primary_of digests a) (secondary_of digests a) a.labels evidences some)

      cases : (counted first : Bool) → is_fit (first_on digests a evidences) ≡ first → (further : Bool)
          → is_fit (if counted && (first && further) then first_on digests a evidences else fit.Nothing) ≡ (counted && (first && further))
      cases true true e true = e
      cases true true e false = refl
      cases true false e further = refl
      cases false first e further = refl

-- where the evidence verifies, the verdict is what the first piece fits
pub verdict-first : (digests : ℕ → Option (List ℕ)) (a : Account) (evidences : List Evidence) → account_verifies digests a evidences ≡ true
    → verdict_on digests a evidences ≡ first_on digests a evidences
verdict-first digests a evidences e = ap (λ (b : Bool). if b then first_on digests a evidences else fit.Nothing) e

-- ## The password in clear

-- a password in clear fits the password of an account that its number says
pub fitted-number : (digests : ℕ → Option (List ℕ)) (a : Account) (password : List ℕ)
    → number_of a (first_fit (evidence.Full password) (primary_of digests a) (secondary_of digests a)) ≡ fitted a password
fitted-number digests a password = cases (full_fits a.primary password) where
  by-second : {second : Option (Stored × ℕ)} → a.secondary ≡ second
      → number_of a (secondary_fit (evidence.Full password) (secondary_of digests a))
      ≡ number_of a (secondary_fit (evidence.Full password) (option_map (λ (kept : Stored × ℕ). credential digests kept.1 kept.0) second))
  by-second e = ap (λ (s : Option (Stored × ℕ)). number_of a (secondary_fit (evidence.Full password) (option_map (λ (kept : Stored × ℕ). credential digests kept.1 kept.0) s))) e

  seconds : (second : Option (Stored × ℕ)) → a.secondary ≡ second
      → number_of a (secondary_fit (evidence.Full password) (secondary_of digests a)) ≡ fitted_second a.secondary password
  seconds None e = by-second e ∙ sym (ap (λ (s : Option (Stored × ℕ)). fitted_second s password) e)
  seconds (Some second) e = by-second e ∙ by (full_fits second.0 password) e ∙ sym (ap (λ (s : Option (Stored × ℕ)). fitted_second s password) e) where
    by : (b : Bool) → a.secondary ≡ Some second → number_of a (if b then fit.Secondary else fit.Nothing) ≡ (if b then Some second.1 else None)
    by true e = ap second_number e
    by false e = refl

  cases : (b : Bool)
      → number_of a (if b then fit.Primary else secondary_fit (evidence.Full password) (secondary_of digests a))
      ≡ (if b then Some a.primary_id else fitted_second a.secondary password)
  cases true = refl
  cases false = seconds a.secondary refl

-- what is known once a digest was kept for a number
pub put-shown : (id : ℕ) (password : List ℕ) (digests : ℕ → Option (List ℕ)) (q : ℕ)
    → put_in id (digest_of password) digests q ≡ or_else (digests q) (shown_of q password (Some id))
put-shown id password digests q = cases (nat_eq id q) (digests q) where
  cases : (b : Bool) (d : Option (List ℕ)) → (if b then or_digest d (digest_of password) else d) ≡ or_else d (if b then Some (digest_of password) else None)
  cases true None = refl
  cases true (Some kept) = refl
  cases false None = refl
  cases false (Some kept) = refl

pub or-nothing : (d : Option (List ℕ)) → d ≡ or_else d None
or-nothing None = refl
or-nothing (Some kept) = refl

-- evidence that begins with a password in clear
pub shown-clear : (digests : ℕ → Option (List ℕ)) (a : Account) (evidences : List Evidence) (password : List ℕ) → clear_password evidences ≡ Some password
    → number_of a (first_on digests a evidences) ≡ fitted a password
shown-clear digests a [] password e = absurd (cc)
shown-clear digests a (evidence.Native nonce response ∷ evidences) password e = absurd (cc)
shown-clear digests a (evidence.Fast nonce response ∷ evidences) password e = absurd (cc)
shown-clear digests a (evidence.Full clear ∷ evidences) password e =
    let same : clear ≡ password = cc in fitted-number digests a clear ∙ ap (fitted a) same
shown-clear digests a (evidence.Empty ∷ evidences) password e = absurd (cc)
shown-clear digests a (evidence.External label accepted ∷ evidences) password e = absurd (cc)

-- ## What opens

-- a session opens only where the evidence verifies
pub opened-verifies : (a : Account) (tally : Tally) (verified : Bool) (evidences : List Evidence) (flags : ℕ) (settings : Settings) (now : ℕ)
    → opens (account_reply a tally verified evidences flags settings now) ≡ true → verified ≡ true
opened-verifies a tally true evidences flags settings now e = refl
opened-verifies a tally false evidences flags settings now e =
    cases (is_blocked a.lock (resumed a.lock tally now).locked now) (next_locks a.lock (resumed a.lock tally now).count) e where
      cases : (blocked locks : Bool)
          → opens (reply_of (if blocked then Some rule.Blocked else (if locks then Some rule.Blocked else Some rule.Denied)) a tally evidences settings now) ≡ true
          → false ≡ true
      cases true locks e = e
      cases false true e = e
      cases false false e = e
