-- An account of its fields, and the record that is kept of it.
use Rattle.std.proofs.Common.{◌≡◌, ℕ, Bool, List, [], ◌++◌, append-nil, Option, Some, None, Result, Ok, Err, IsErrAnd, ap, ◌∙◌, refl, sym}
use Rattle.lg_base.specs.Reading.{Cursor}
use Rattle.lg_base.specs.declared.names.Name.{Name}
use Rattle.login_lock.specs.declared.LockRule.{LockRule}
use Rattle.factor_chain.specs.declared.credentials.Method.{Method}
use Rattle.factor_chain.specs.declared.credentials.PastRecord.{PastRecord}
use Rattle.factor_chain.specs.declared.credentials.Stored.{Stored}
use Rattle.account_rules.specs.declared.accounts.Account.{Account}
use Rattle.account_rules.specs.declared.accounts.Lifetime.{Lifetime}
use Rattle.account_rules.specs.declared.accounts.Limit.{Limit}
use Rattle.account_keeper.specs.Record.{FitsRecord, SecondaryFits, passwords_text, record_text, secondary_text, head_text, terms_text, guard_text}
use Rattle.account_keeper.specs.Records.{Gives, HasNoId, IsKey, IsRecord, as_kept, without_id}
use Rattle.account_keeper.specs.declared.reading.RecordFault.{RecordFault}
use Rattle.account_keeper.specs.declared.reading.RecordFault.TheVariants as fault

abbrev pub account_of : ℕ → Name → Method → Stored → ℕ → Option (Stored × ℕ) → List (List ℕ) → ℕ → Bool → Lifetime → Limit → Limit → LockRule → Bool → Bool → Bool → List PastRecord → Account
account_of id name method primary primary_id secondary labels changed expired lifetime history reuse lock locked create_user password_admin past = record {
  id = id;
  name = name;
  method = method;
  primary = primary;
  primary_id = primary_id;
  secondary = secondary;
  labels = labels;
  changed = changed;
  expired = expired;
  lifetime = lifetime;
  history = history;
  reuse = reuse;
  lock = lock;
  locked = locked;
  create_user = create_user;
  password_admin = password_admin;
  past = past;
}

pub same_account : (a b : Account) → a.id ≡ b.id → a.name ≡ b.name → a.method ≡ b.method → a.primary ≡ b.primary → a.primary_id ≡ b.primary_id →
    a.secondary ≡ b.secondary → a.labels ≡ b.labels → a.changed ≡ b.changed → a.expired ≡ b.expired → a.lifetime ≡ b.lifetime →
    a.history ≡ b.history → a.reuse ≡ b.reuse → a.lock ≡ b.lock → a.locked ≡ b.locked → a.create_user ≡ b.create_user →
    a.password_admin ≡ b.password_admin → a.past ≡ b.past →
    account_of a.id a.name a.method a.primary a.primary_id a.secondary a.labels a.changed a.expired a.lifetime a.history a.reuse a.lock a.locked a.create_user a.password_admin a.past
    ≡ account_of b.id b.name b.method b.primary b.primary_id b.secondary b.labels b.changed b.expired b.lifetime b.history b.reuse b.lock b.locked b.create_user b.password_admin b.past
same_account a b e1 e2 e3 e4 e5 e6 e7 e8 e9 e10 e11 e12 e13 e14 e15 e16 e17 = cc

kept_secondary : (m : Method) (primary : Stored) (second : Option (Stored × ℕ)) → SecondaryFits m primary second → SecondaryFits m primary (without_id second)
kept_secondary m primary None fits = tt
kept_secondary m primary (Some second) fits = fits

kept_text : (second : Option (Stored × ℕ)) → secondary_text (without_id second) ≡ secondary_text second
kept_text None = refl
kept_text (Some second) = refl

kept_without : (second : Option (Stored × ℕ)) → HasNoId (without_id second)
kept_without None = tt
kept_without (Some second) = refl

kept_record : (key : ℕ) (a : Account) → record_text (as_kept key a) ≡ record_text a
unfolding record_text passwords_text head_text terms_text guard_text
kept_record key a = simp (kept_text a.secondary)

-- what is written of an account is the record of what is kept of it
pub is_kept : (key : ℕ) (a : Account) (bytes : List ℕ) → IsKey key → FitsRecord a → record_text a ≡ bytes → IsRecord key (as_kept key a) bytes
is_kept key a bytes k fits text = record {
  is_key = k;
  fits = record {
    user = fits.user;
    primary = fits.primary;
    secondary = kept_secondary a.method a.primary a.secondary fits.secondary;
    labels = fits.labels;
    changed = fits.changed;
    lifetime = fits.lifetime;
    history = fits.history;
    reuse = fits.reuse;
    attempts = fits.attempts;
    lock_time = fits.lock_time;
    past = fits.past;
  };
  text = kept_record key a ∙ text;
  ids = record { id = refl; primary_id = refl; secondary_id = kept_without a.secondary };
}

pub again_of : (key : ℕ) (bytes : List ℕ) (result : Result Account RecordFault) → ((a : Account) → IsRecord key a bytes → Gives result a) →
    (a : Account) → IsKey key → FitsRecord a → record_text a ≡ bytes → Gives result (as_kept key a)
again_of key bytes result only a k fits text = only (as_kept key a) (is_kept key a bytes k fits text)

-- the reader at the first byte of a record
pub at_start : (reader : Cursor) (bytes : List ℕ) (a : Account) → reader ≡ record { at = 0; rest = bytes } → record_text a ≡ bytes →
    reader.rest ≡ record_text a ++ []
at_start reader bytes a start text = ap (λ (c : Cursor). c.rest) start ∙ sym text ∙ sym (append-nil (record_text a))

-- a fault that is handed on
pub handed_on : (result : Result Account RecordFault) (e : RecordFault) (a : Account) → IsErrAnd result (λ given. given ≡ e) → e ≡ fault.Memory →
    Gives result a
handed_on (Err given) e a is memory = is ∙ memory
handed_on (Ok account) e a is memory = absurd is
