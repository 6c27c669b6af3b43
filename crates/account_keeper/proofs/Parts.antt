-- The texts of a record's parts, field by field, and what is read of them.
use Rattle.std.proofs.Common.{◌≡◌, ℕ, ◌≤◌, List, ◌∷◌, ◌++◌, length, Option, Some, None, Result, Ok, Err, IsErrAnd, append_assoc, refl, ap, ◌∙◌, arith}
use Rattle.std.specs.List.{flat_map}
use Rattle.lg_base.specs.Fields.{little_text}
use Rattle.lg_base.specs.declared.names.Host.{Host}
use Rattle.lg_base.specs.declared.names.Name.{Name}
use Rattle.login_lock.specs.declared.LockRule.{LockRule}
use Rattle.login_lock.specs.declared.LockTime.{LockTime}
use Rattle.factor_chain.specs.declared.credentials.Method.{Method}
use Rattle.factor_chain.specs.declared.credentials.PastRecord.{PastRecord}
use Rattle.factor_chain.specs.declared.credentials.Stored.{Stored}
use Rattle.account_rules.specs.declared.accounts.Account.{Account}
use Rattle.account_rules.specs.declared.accounts.Limit.{Limit}
use Rattle.account_rules.specs.declared.accounts.Limit.TheVariants as limit
use Rattle.account_keeper.specs.Finding.{Finds, SecondFits}
use Rattle.account_keeper.specs.Records.{HasNoId}
use Rattle.account_keeper.specs.declared.reading.RecordFault.{RecordFault}
use Rattle.account_keeper.specs.declared.reading.RecordFault.TheVariants as fault
use Rattle.account_keeper.specs.Record.{LimitFits, SecondaryFits, counted_text, flag_byte, guard_text, head_text, host_byte, labels_text, lifetime_text, limit_text, lock_time_text, method_byte, passwords_text, past_text, pasts_text, privileges_byte, record_text, secondary_text, stored_text, terms_text}

pub head_parts : (a : Account) (more : List ℕ) →
    head_text a ++ more ≡ 1 ∷ (counted_text a.name.user ++ (host_byte a.name.host ∷ (method_byte a.method ∷ more)))
unfolding head_text
head_parts a more = simp append_assoc

pub passwords_parts : (a : Account) (more : List ℕ) → passwords_text a ++ more ≡ stored_text a.primary ++ (secondary_text a.secondary ++ more)
unfolding passwords_text
passwords_parts a more = append_assoc (stored_text a.primary) (secondary_text a.secondary) more

pub labels_parts : (labels : List (List ℕ)) (more : List ℕ) → labels_text labels ++ more ≡ length labels ∷ (flat_map counted_text labels ++ more)
unfolding labels_text
labels_parts labels more = refl

pub terms_parts : (a : Account) (more : List ℕ) →
    terms_text a ++ more
    ≡ little_text 8 a.changed ++ (flag_byte a.expired ∷ (lifetime_text a.lifetime ++ (limit_text a.history ++ (limit_text a.reuse ++ more))))
unfolding terms_text
terms_parts a more = simp append_assoc

pub guard_parts : (a : Account) (more : List ℕ) →
    guard_text a ++ more
    ≡ little_text 2 a.lock.attempts ++ (lock_time_text a.lock.time ++ (flag_byte a.locked ∷ (privileges_byte a.create_user a.password_admin ∷ more)))
unfolding guard_text
guard_parts a more = simp append_assoc

pub past_parts : (past : PastRecord) (more : List ℕ) → past_text past ++ more ≡ little_text 8 past.moment ++ (stored_text past.stored ++ more)
past_parts past more = append_assoc (little_text 8 past.moment) (stored_text past.stored) more

pub pasts_parts : (past : List PastRecord) (more : List ℕ) → pasts_text past ++ more ≡ little_text 2 (length past) ++ (flat_map past_text past ++ more)
unfolding pasts_text
pasts_parts past more = append_assoc (little_text 2 (length past)) (flat_map past_text past) more

pub record_parts : (a : Account) (more : List ℕ) →
    record_text a ++ more
    ≡ head_text a ++ (passwords_text a ++ (labels_text a.labels ++ (terms_text a ++ (guard_text a ++ (pasts_text a.past ++ more)))))
unfolding record_text
record_parts a more = simp append_assoc

-- a limit up to a smaller number fits a greater one too
pub limit_wider : (v : Limit) (most more : ℕ) → most ≤ more → LimitFits most v → LimitFits more v
limit_wider limit.Default most more le h = tt
limit_wider (limit.Count count) most more le h = omega (arith, le, h)

pub second_fits : (m : Method) (primary : Stored) (second : Option (Stored × ℕ)) → SecondaryFits m primary second → HasNoId second → SecondFits second
second_fits m primary None fits no_id = (tt, no_id)
second_fits m primary (Some second) fits no_id = (fits.0.1, no_id)

abbrev pub rule_of : ℕ → LockTime → LockRule
rule_of n t = record { attempts = n; time = t }

abbrev pub name_of : List ℕ → Host → Name
name_of user host = record { user = user; host = host }

pub same_name : (user other : List ℕ) (host its : Host) → user ≡ other → host ≡ its → name_of user host ≡ name_of other its
same_name user other host its e f = ap (λ (u : List ℕ). name_of u host) e ∙ ap (λ (h : Host). name_of other h) f

-- a fault that a reader hands on
pub refused : {A X : Type 0} (Is : X → A → Type 0) (text : A → List ℕ) (Fits : A → Type 0) (before after : List ℕ) (result : Result X RecordFault)
    (e : RecordFault) → IsErrAnd result (λ given. given ≡ e) → ((v : A) (more : List ℕ) → Fits v → before ≡ text v ++ more → e ≡ fault.Memory) →
    Finds Is text Fits before after result
refused Is text Fits before after (Err given) e is h = λ v more fits at. is ∙ h v more fits at
refused Is text Fits before after (Ok x) e is h = absurd is

pub same_rule : (n m : ℕ) (t u : LockTime) → n ≡ m → t ≡ u → rule_of n t ≡ rule_of m u
same_rule n m t u e f = ap (λ (k : ℕ). rule_of k t) e ∙ ap (λ (v : LockTime). rule_of m v) f

-- what the reader of a text's end answers is the whole text's
pub passed_on : {A X : Type 0} (Is : X → A → Type 0) (text end : A → List ℕ) (Fits EndFits : A → Type 0) (before middle after : List ℕ)
    (result : Result X RecordFault) →
    ((v : A) (more : List ℕ) → Fits v → before ≡ text v ++ more → EndFits v × (middle ≡ end v ++ more)) →
    Finds Is end EndFits middle after result → Finds Is text Fits before after result
passed_on Is text end Fits EndFits before middle after (Ok x) onward found = λ v more fits at.
    let rest = onward v more fits at in
    found v more rest.0 rest.1
passed_on Is text end Fits EndFits before middle after (Err e) onward found = λ v more fits at.
    let rest = onward v more fits at in
    found v more rest.0 rest.1
