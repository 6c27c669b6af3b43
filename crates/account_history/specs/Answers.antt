-- What each entry of a history is answered.
use Rattle.std.specs.Prelude.{ℕ, max, List, [], ◌∷◌, find, Bool, true, false, if◌then◌else◌, Option, Some, None}
use Rattle.factor_chain.specs.declared.credentials.InForce.{InForce}
use Rattle.factor_chain.specs.declared.credentials.Look.{Look}
use Rattle.factor_chain.specs.declared.credentials.PastRecord.{PastRecord}
use Rattle.factor_chain.specs.declared.evidence_list.Evidence.{Evidence}
use Rattle.factor_chain.specs.declared.evidence_list.Evidence.TheVariants as evidence
use Rattle.lg_base.specs.declared.errors.Code.{Code}
use Rattle.lg_base.specs.declared.errors.Code.TheVariants.{KeeperFault}
use Rattle.stmt_rules.specs.declared.statement.Statement.{Statement}
use Rattle.login_lock.specs.declared.Tally.{Tally}
use Rattle.login_lock.specs.declared.LockRule.{LockRule}
use Rattle.login_lock.specs.Lock.{days_left, is_blocked}
use Rattle.account_rules.specs.declared.accounts.Account.{Account}
use Rattle.account_rules.specs.declared.accounts.Settings.{Settings}
use Rattle.account_rules.specs.declared.refusals.Rule.{Rule}
use Rattle.account_rules.specs.declared.refusals.Rule.TheVariants as rule
use Rattle.account_rules.specs.Refusals.{first_rule, is_expired}
use Rattle.account_history.specs.declared.entries.Reply.{Reply}
use Rattle.account_history.specs.declared.entries.Reply.TheVariants.{Opened, Sandbox, Blocked, Denied, Locked, MustChange}
use Rattle.account_history.specs.declared.entries.StmtReply.{StmtReply}
use Rattle.account_history.specs.declared.entries.StmtReply.TheVariants.{Done, Refused}
use Rattle.account_history.specs.declared.entries.Who.{Who}
use Rattle.account_history.specs.declared.entries.Who.TheVariants as who
use Rattle.account_history.specs.Failures.{tally}
use Rattle.account_history.specs.Histories.{History, moment, start_of}
use Rattle.account_history.specs.Known.{known, primary_of, secondary_of}
use Rattle.account_history.specs.Records.{has_id, in_force, is_named, records}
use Rattle.account_history.specs.Refusals.{first_refusal}
use Rattle.account_history.specs.Stamps.{stamp}
use Rattle.account_history.specs.Verifying.{account_verifies}

-- the evidence begins with another than the empty password
abbrev pub uses_password : List Evidence → Bool
uses_password [] = true
uses_password (evidence.Native _ _ ∷ _) = true
uses_password (evidence.Fast _ _ ∷ _) = true
uses_password (evidence.Full _ ∷ _) = true
uses_password (evidence.Empty ∷ _) = false
uses_password (evidence.External _ _ ∷ _) = true

-- since when a blocked attempt is blocked: since the lock, or since this attempt where it sets the lock
abbrev pub since_of : LockRule → Tally → ℕ → Option ℕ
since_of rule tally now = if is_blocked rule tally.locked now then tally.locked else Some now

-- a refusal, or the session that opens where there is none
abbrev pub reply_of : Option Rule → Account → Tally → List Evidence → Settings → ℕ → Reply
reply_of (Some rule.Blocked) account tally evidences settings now =
    Blocked account.lock (days_left account.lock.time (since_of account.lock tally now) now)
reply_of (Some rule.Denied) account tally evidences settings now = Denied (uses_password evidences)
reply_of (Some rule.Locked) account tally evidences settings now = Locked
reply_of (Some rule.MustChange) account tally evidences settings now = MustChange
reply_of None account tally evidences settings now =
    if is_expired account settings now then Sandbox account.id account.name.host else Opened account.id account.name.host

-- an attempt on an account in force, whose evidence verifies or not
abbrev pub account_reply : Account → Tally → Bool → List Evidence → ℕ → Settings → ℕ → Reply
account_reply account tally verified evidences flags settings now =
    reply_of (first_rule account tally verified flags settings now) account tally evidences settings now

abbrev pub reply_for : History → Option Account → List Evidence → ℕ → ℕ → Reply
reply_for h None evidences flags now = Denied (uses_password evidences)
reply_for h (Some account) evidences flags now =
    account_reply account (tally h account) (account_verifies (known h) account evidences) evidences flags (start_of h).settings now

-- what an attempt is answered after a history
abbrev pub attempt_reply : History → List ℕ → List Evidence → ℕ → ℕ → Reply
attempt_reply h user evidences flags reading =
    reply_for h (in_force (records h) user) evidences flags (max reading (moment h))

-- what a look shows of an account, with the digests that are known
abbrev pub shown : (digests : ℕ → Option (List ℕ)) → List PastRecord → Account → InForce
shown digests past account = record {
  account = account.id;
  name = account.name;
  method = account.method;
  primary = primary_of digests account;
  secondary = secondary_of digests account;
  labels = account.labels;
  past = past;
}

abbrev pub shown_login : History → Option Account → Option InForce
shown_login h None = None
shown_login h (Some account) = Some (shown (known h) [] account)

abbrev pub shown_whole : History → Option Account → Option InForce
shown_whole h None = None
shown_whole h (Some account) = Some (shown (known h) account.past account)

abbrev pub user_of : Option Account → List ℕ
user_of None = []
user_of (Some account) = account.name.user

-- the look of a user
abbrev pub look_of_user : History → List ℕ → Option InForce → Look
look_of_user h user account = record { user = user; stamp = stamp h user; in_force = account }

-- what is seen of whose account: for a login without the past passwords
abbrev pub look_of : History → Who → Look
look_of h (who.Login user) = look_of_user h user (shown_login h (in_force (records h) user))
look_of h (who.Account name) = look_of_user h name.user (shown_whole h (find (is_named name) (records h)))
look_of h (who.Own id) =
    let own = find (has_id id) (records h) in look_of_user h (user_of own) (shown_whole h own)

-- why a statement is refused after a history, at a reading of the clock
abbrev pub statement_refusal : History → Statement → (actor reading : ℕ) → Option Code
statement_refusal h statement actor reading =
    first_refusal (records h) statement actor (start_of h).settings (max reading (moment h))

-- what a statement is answered: its first refusal, else an error where the keeper of the accounts failed
abbrev pub reply_to : Option Code → (failed : Bool) → StmtReply
reply_to (Some code) failed = Refused code
reply_to None true = Refused KeeperFault
reply_to None false = Done

abbrev pub statement_reply : History → Statement → (actor reading : ℕ) → (failed : Bool) → StmtReply
statement_reply h statement actor reading failed = reply_to (statement_refusal h statement actor reading) failed
