-- Worked examples of the rules: an account without a password, whose three failures lock it for a day.
use Rattle.std.specs.Prelude.{◌≡◌, ℕ, true, false, List, [], ◌∷◌, None, codes}
use Rattle.lg_base.specs.declared.names.Host.TheVariants as host
use Rattle.factor_chain.specs.declared.credentials.Stored.TheVariants as stored
use Rattle.factor_chain.specs.declared.credentials.Method.TheVariants as method
use Rattle.factor_chain.specs.declared.evidence_list.Evidence.{Evidence}
use Rattle.factor_chain.specs.declared.evidence_list.Evidence.TheVariants as evidence
use Rattle.login_lock.specs.declared.LockRule.{LockRule}
use Rattle.login_lock.specs.declared.LockTime.TheVariants.{Days}
use Rattle.account_rules.specs.declared.accounts.Account.{Account}
use Rattle.account_rules.specs.declared.accounts.Lifetime.TheVariants as lifetime
use Rattle.account_rules.specs.declared.accounts.Limit.TheVariants as limit
use Rattle.account_history.specs.declared.entries.Entry.TheVariants.{Attempted}
use Rattle.account_history.specs.declared.entries.Reply.{Reply}
use Rattle.account_history.specs.declared.entries.Reply.TheVariants.{Opened, Sandbox, Blocked, Denied, MustChange}
use Rattle.account_history.specs.Answers.{attempt_reply}
use Rattle.account_history.specs.Histories.{History, From, ◌▹◌}

abbrev pub three_for_a_day : LockRule
three_for_a_day = record { attempts = 3; time = Days 1 }

-- an account `ann` whose password is empty and, with the setting below, lasts a number of days
abbrev pub ann : Account
ann = record {
  id = 7;
  name = record { user = codes "ann"; host = host.Any };
  method = method.CachingSha2;
  primary = stored.Empty;
  primary_id = 7;
  secondary = None;
  labels = [];
  changed = 0;
  expired = false;
  lifetime = lifetime.Default;
  history = limit.Default;
  reuse = limit.Default;
  lock = three_for_a_day;
  locked = false;
  create_user = false;
  password_admin = false;
  past = [];
}

abbrev pub begun : ℕ → History
begun days = From (record { accounts = ann ∷ []; settings = record { lifetime = days; disconnect = true; history = 0; reuse = 0 }; count = 0 })

abbrev pub right : List Evidence
right = evidence.Empty ∷ []

abbrev pub wrong : List Evidence
wrong = evidence.External [] true ∷ []

-- an attempt of ann, answered as the history before it determines
abbrev pub then : History → List Evidence → ℕ → ℕ → History
then h evidences flags reading = h ▹ Attempted (record {
  user = codes "ann";
  evidences = evidences;
  flags = flags;
  reading = reading;
  reply = attempt_reply h (codes "ann") evidences flags reading;
})

abbrev pub reply_at : History → List Evidence → ℕ → ℕ → Reply
reply_at h evidences flags reading = attempt_reply h (codes "ann") evidences flags reading

-- after one, two and three failures
abbrev pub failed_once : History
failed_once = then (begun 0) wrong 0 1000

abbrev pub failed_twice : History
failed_twice = then failed_once wrong 0 1000

abbrev pub locked : History
locked = then failed_twice wrong 0 1000

-- Three failures at 1000: denied, denied, blocked. The right evidence is blocked to the last second of the day, and then
-- opens; an attempt during the lock changes nothing.
pub record LockExample : Type 0 where
  pub first : reply_at (begun 0) wrong 0 1000 ≡ Denied true
  pub second : reply_at failed_once wrong 0 1000 ≡ Denied true
  pub third : reply_at failed_twice wrong 0 1000 ≡ Blocked three_for_a_day 1
  pub still : reply_at (then locked wrong 0 2000) right 0 87399 ≡ Blocked three_for_a_day 1
  pub over : reply_at (then locked wrong 0 2000) right 0 87400 ≡ Opened 7 host.Any
  pub anew : reply_at (then locked wrong 0 87400) wrong 0 87400 ≡ Denied true

-- A password that lasts one day expires to the second; a client that can go on with it gets a sandbox; a clock that
-- goes back changes nothing; and an unknown user is denied.
pub record ExpiryExample : Type 0 where
  pub young : reply_at (begun 1) right 0 86399 ≡ Opened 7 host.Any
  pub old : reply_at (begun 1) right 0 86400 ≡ MustChange
  pub sandbox : reply_at (begun 1) right 4194304 86400 ≡ Sandbox 7 host.Any
  pub wrong_first : reply_at (begun 1) wrong 0 86400 ≡ Denied true
  pub back : reply_at (then (begun 1) right 0 86400) right 0 5 ≡ MustChange
  pub nobody : attempt_reply (begun 1) (codes "zz") right 0 5 ≡ Denied false
