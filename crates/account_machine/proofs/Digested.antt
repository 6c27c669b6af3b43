-- The digests that are kept, after one more entry of a history.
use Rattle.std.proofs.Common.{◌≡◌, refl, ap, sym, ◌∙◌, ℕ, ◌+◌, ◌*◌, ◌≤◌, suc, max, cond, List, [], ◌∷◌, length, length-append, Bool, true, false, ◌&&◌, ◌||◌, ◌==◌, if◌then◌else◌, Option, Some, None, subst, arith}
use Rattle.std.proofs.lemmas.List.{length-map}
use Rattle.digest_cache.specs.Cache.{Cache, digest_of}
use Rattle.lg_base.specs.declared.errors.Code.{Code}
use Rattle.factor_chain.specs.declared.credentials.Look.{Look}
use Rattle.factor_chain.specs.declared.credentials.Stored.{Stored}
use Rattle.factor_chain.specs.declared.evidence_list.Evidence.{Evidence}
use Rattle.account_rules.specs.declared.accounts.Account.{Account}
use Rattle.stmt_rules.specs.declared.statement.Statement.{Statement}
use Rattle.stmt_rules.specs.declared.statement.Statement.TheVariants.{Create, Alter, Drop, Flush, Grant, Revoke}
use Rattle.account_history.specs.declared.entries.Attempt.{Attempt}
use Rattle.account_history.specs.declared.entries.Entry.TheVariants.{Attempted, Executed, Observed}
use Rattle.account_history.specs.declared.entries.Execution.{Execution}
use Rattle.account_history.specs.declared.entries.Log.{Log}
use Rattle.account_history.specs.declared.entries.Reply.{Reply}
use Rattle.account_history.specs.declared.entries.StmtReply.TheVariants.{Done, Refused}
use Rattle.account_history.specs.declared.entries.Who.{Who}
use Rattle.account_history.specs.Effects.{altered, created, effect_of, granted, revoked, with_changed, without}
use Rattle.account_history.specs.Failures.{opens}
use Rattle.account_history.specs.Given.{Given, given}
use Rattle.account_history.specs.Histories.{History, ◌▹◌, history, moment, noted}
use Rattle.account_history.specs.Known.{clear_password, clears_password, is_number, known, shown_by, shown_on}
use Rattle.account_history.specs.Naming.{has_password, holds_password, is_named, or_else}
use Rattle.account_history.specs.Records.{in_force, records}
use Rattle.account_history.specs.Stamps.{is_change}
use Rattle.account_history.specs.Targets.{is_target, of_account, target_of}
use Rattle.account_history.proofs.OneMore.{history-noted}
use Rattle.account_history.proofs.Recalled.{known-attempted, known-executed, known-observed}
use Rattle.account_machine.specs.Committing.{execution_of}
use Rattle.account_machine.specs.Rows.{row_of, rows_of}
use Rattle.account_machine.specs.declared.rows.Row.{Row}
use Rattle.account_machine.specs.Digesting.{AreDigests, cleared_numbers, forgets, is_among, missing, numbers_of, second_number}
use Rattle.account_machine.proofs.Roomy.{missing-most}

-- the same digests with no less room
pub digests-same : (cache next : Cache) (h : History) → AreDigests cache h → ((id : ℕ) → digest_of next id ≡ digest_of cache id) → cache.spare ≤ next.spare
    → AreDigests next h
digests-same cache next h d same room = record {
  same = λ id. same id ∙ d.same id;
  room = let needed : missing (digest_of next) (records h) ≡ missing (digest_of cache) (records h) =
      ap (λ (digests : ℕ → Option (List ℕ)). missing digests (records h)) (λ i id. same id i) in let before = d.room in omega (arith, needed, before, room);
}

-- the same digests of another history
digests-moved : (cache : Cache) (h k : History) → AreDigests cache h → ((id : ℕ) → known k id ≡ known h id) → records k ≡ records h → AreDigests cache k
digests-moved cache h k d same e = record {
  same = λ id. d.same id ∙ sym (same id);
  room = let needed : missing (digest_of cache) (records k) ≡ missing (digest_of cache) (records h) = ap (λ accounts. missing (digest_of cache) accounts) e in
      let before = d.room in omega (arith, needed, before);
}

-- ## A start

pub digests-none : (cache : Cache) (log : Log) (rows : List Row) (size : ℕ) → cache.entries ≡ [] → log.entries ≡ [] → rows ≡ rows_of (history log)
    → size ≡ length rows → 2 * size ≤ cache.spare → AreDigests cache (history log)
digests-none cache log rows size none e r n room =
    let begun : Log = record { start = log.start; entries = [] } in
    let same : log ≡ begun = λ i. record { start = log.start; entries = e i } in
    record {
      same = λ id.
          ap (λ (entries : List (ℕ × List ℕ)). digest_of (record { entries = entries; spare = cache.spare }) id) none
          ∙ ap (λ (l : Log). known (history l) id) (sym same);
      room =
          let most = missing-most (digest_of cache) (records (history log)) in
          let long : length rows ≡ length (records (history log)) = ap (λ (rs : List Row). length rs) r ∙ length-map (records (history log)) (row_of (history log)) in
          omega (arith, most, long, n, room);
    }

-- another count of the keeper's faults at the start
pub digests-counted : (cache : Cache) (log log' : Log) (count : ℕ) → log.entries ≡ [] → AreDigests cache (history log)
    → log' ≡ record { start = record log.start { count = count }; entries = [] } → AreDigests cache (history log')
digests-counted cache log log' count e d f =
    let begun : Log = record { start = log.start; entries = [] } in
    let same : log ≡ begun = λ i. record { start = log.start; entries = e i } in
    let t : AreDigests cache (history begun) = subst (λ (l : Log). AreDigests cache (history l)) same d in
    subst (λ (l : Log). AreDigests cache (history l)) (sym f) (record { same = t.same; room = t.room })

-- ## Looks and attempts

pub digests-observed : (cache : Cache) (log : Log) (who : Who) (look : Look) (log' : Log) → AreDigests cache (history log)
    → log' ≡ noted log (Observed who look) → AreDigests cache (history log')
digests-observed cache log who look log' d e =
    subst (λ (h : History). AreDigests cache h) (sym (ap history e ∙ history-noted log (Observed who look)))
    (digests-moved cache (history log) (history log ▹ Observed who look) d (λ id. known-observed (history log) (Observed who look) id refl refl) refl)

pub digests-noted : (cache : Cache) (log : Log) (t : Attempt) (log' : Log) → AreDigests cache (history log ▹ Attempted t)
    → log' ≡ noted log (Attempted t) → AreDigests cache (history log')
digests-noted cache log t log' d e = subst (λ (h : History). AreDigests cache h) (sym (ap history e ∙ history-noted log (Attempted t))) d

-- an attempt on the account that is in force
pub digests-attempted : (cache next : Cache) (h : History) (t : Attempt) (a : Account) (evidences : List Evidence) (reply : Reply) → AreDigests cache h
    → in_force (records h) t.user ≡ Some a → t.evidences ≡ evidences → t.reply ≡ reply
    → ((q : ℕ) → digest_of next q ≡ or_else (digest_of cache q) (if opens reply then shown_by a (clear_password evidences) q else None))
    → missing (digest_of next) (records h) ≤ next.spare → AreDigests next (h ▹ Attempted t)
digests-attempted cache next h t a evidences reply d f v w kept room = record {
  same = λ q.
      kept q
      ∙ ap (λ x. or_else x (if opens reply then shown_by a (clear_password evidences) q else None)) (d.same q)
      ∙ ap (λ (r : Reply). or_else (known h q) (if opens r then shown_by a (clear_password evidences) q else None)) (sym w)
      ∙ ap (λ (es : List Evidence). or_else (known h q) (if opens t.reply then shown_by a (clear_password es) q else None)) (sym v)
      ∙ ap (λ (found : Option Account). or_else (known h q) (if opens t.reply then shown_on found t.evidences q else None)) (sym f)
      ∙ sym (known-attempted h t q);
  room = room;
}

or-no-digest : (x : Option (List ℕ)) (b : Bool) → or_else x (if b then None else None) ≡ x
or-no-digest None true = refl
or-no-digest None false = refl
or-no-digest (Some digest) b = refl

-- and one on none
pub digests-nobody : (cache : Cache) (h : History) (t : Attempt) → AreDigests cache h → in_force (records h) t.user ≡ None → AreDigests cache (h ▹ Attempted t)
digests-nobody cache h t d f =
    digests-moved cache h (h ▹ Attempted t) d
    (λ id. known-attempted h t id ∙ ap (λ (found : Option Account). or_else (known h id) (if opens t.reply then shown_on found t.evidences id else None)) f
    ∙ or-no-digest (known h id) (opens t.reply)) refl

-- ## Statements

pub digests-refused : (cache : Cache) (log : Log) (st : Statement) (salt : List ℕ) (actor reading count : ℕ) (code : Code) (log' : Log)
    → AreDigests cache (history log) → log' ≡ noted log (Executed (execution_of (history log) st salt actor reading count (Refused code)))
    → AreDigests cache (history log')
digests-refused cache log st salt actor reading count code log' d e =
    let x : Execution = execution_of (history log) st salt actor reading count (Refused code) in
    subst (λ (h : History). AreDigests cache h) (sym (ap history e ∙ history-noted log (Executed x)))
    (digests-moved cache (history log) (history log ▹ Executed x) d (λ id. known-executed (history log) x id) refl)

-- the numbers of an account's passwords
among-held : (target : Option Account) (id : ℕ) → is_among (numbers_of target) id ≡ of_account (holds_password id) target
among-held None id = refl
among-held (Some a) id = ap (λ b. (a.primary_id == id) || b) (seconds a.secondary) where
  seconds : (second : Option (Stored × ℕ)) → is_number id (second_number second) ≡ has_password id second
  seconds None = refl
  seconds (Some second) = refl

pub forgets-cleared : (st : Statement) (accounts : List Account) (actor : ℕ) (id : ℕ)
    → forgets st (cleared_numbers st (target_of accounts st actor)) id ≡ clears_password accounts actor st id
forgets-cleared (Create name auth factors options) accounts actor id = among-held (target_of accounts (Create name auth factors options) actor) id
forgets-cleared (Alter target change options) accounts actor id =
    cases (is_change change) where
      cases : (b : Bool) → is_among (if b then numbers_of (target_of accounts (Alter target change options) actor) else None) id
          ≡ (b && of_account (holds_password id) (target_of accounts (Alter target change options) actor))
      cases true = among-held (target_of accounts (Alter target change options) actor) id
      cases false = refl
forgets-cleared (Drop name) accounts actor id = among-held (target_of accounts (Drop name) actor) id
forgets-cleared Flush accounts actor id = refl
forgets-cleared (Grant privileges name) accounts actor id = refl
forgets-cleared (Revoke privileges name) accounts actor id = refl

-- ### How many accounts there are

length-changed : (test : Account → Bool) (change : Account → Account) (accounts : List Account) → length (with_changed test change accounts) ≡ length accounts
length-changed test change [] = refl
length-changed test change (a ∷ accounts) = cases (test a) (length-changed test change accounts) where
  cases : (b : Bool) → length (with_changed test change accounts) ≡ length accounts
      → length (cond b (change a ∷ accounts) (a ∷ with_changed test change accounts)) ≡ suc (length accounts)
  cases true later = refl
  cases false later = ap suc later

length-without : (test : Account → Bool) (accounts : List Account) → length (without test accounts) ≤ length accounts
length-without test [] = omega arith
length-without test (a ∷ accounts) = cases (test a) (length-without test accounts) where
  cases : (b : Bool) → length (without test accounts) ≤ length accounts → length (cond b accounts (a ∷ without test accounts)) ≤ suc (length accounts)
  cases true later = omega arith
  cases false later = omega arith

one-more : (st : Statement) (g : Given) (actor : ℕ) (salt : List ℕ) (now : ℕ) (accounts : List Account)
    → length (effect_of st g actor salt now accounts) ≤ length accounts + 1
one-more (Create name auth factors options) g actor salt now accounts = let more = length-append accounts (created g salt now name auth factors options ∷ []) in omega (arith, more)
one-more (Alter target change options) g actor salt now accounts =
    let same = length-changed (is_target actor target) (altered g salt now change options) accounts in omega (arith, same)
one-more (Drop name) g actor salt now accounts = let fewer = length-without (is_named name) accounts in omega (arith, fewer)
one-more Flush g actor salt now accounts = omega arith
one-more (Grant privileges name) g actor salt now accounts = let same = length-changed (is_named name) (granted privileges) accounts in omega (arith, same)
one-more (Revoke privileges name) g actor salt now accounts = let same = length-changed (is_named name) (revoked privileges) accounts in omega (arith, same)

-- a statement that was done
pub digests-done : (cache next : Cache) (log : Log) (st : Statement) (salt : List ℕ) (actor reading count : ℕ) (log' : Log) (size : ℕ)
    → AreDigests cache (history log) → size ≡ length (records (history log))
    → ((q : ℕ) → digest_of next q ≡ (if forgets st (cleared_numbers st (target_of (records (history log)) st actor)) q then None else digest_of cache q))
    → 2 * (size + 1) ≤ next.spare → log' ≡ noted log (Executed (execution_of (history log) st salt actor reading count Done)) → AreDigests next (history log')
digests-done cache next log st salt actor reading count log' size d s kept room e =
    let h : History = history log in
    let x : Execution = execution_of (history log) st salt actor reading count Done in
    subst (λ (k : History). AreDigests next k) (sym (ap history e ∙ history-noted log (Executed x))) (record {
      same = λ q.
          kept q ∙ ap (λ (b : Bool). if b then None else digest_of cache q) (forgets-cleared st (records h) actor q)
          ∙ ap (λ known_one. if clears_password (records h) actor st q then None else known_one) (d.same q) ∙ sym (known-executed h x q);
      room =
          let most = missing-most (digest_of next) (records (h ▹ Executed x)) in
          let more : length (records (h ▹ Executed x)) ≤ length (records h) + 1 = one-more st (given h) actor salt (max reading (moment h)) (records h) in
          omega (arith, most, more, s, room);
    })
