use Rattle.std.proofs.Common.{Bool, ap, ◌∙◌, arith}
use Rattle.account_keeper.specs.Finding.{IsGuard}
use Rattle.account_keeper.specs.Record.{FitsRecord, guard_text}
use Rattle.account_keeper.proofs.Parts.{guard_parts, refused, same_rule}
use Rattle.account_keeper.proofs.reading.read_guard.Goals as goal

pub returns-in_err-attempts : goal.returns-in_err-attempts
returns-in_err-attempts c =
    refused IsGuard guard_text FitsRecord _ _ _ _ c.from_residual.ensures.1
    (λ a more fits is. c.in_err-attempts.ensures a.lock.attempts _ (omega (arith, fits.attempts)) (is ∙ guard_parts a more))

pub returns-in_err-time : goal.returns-in_err-time
returns-in_err-time c =
    refused IsGuard guard_text FitsRecord _ _ _ _ c.from_residual-in_err-time.ensures.1
    (λ a more fits is.
    let one = c.in_ok-attempts.ensures a.lock.attempts _ (omega (arith, fits.attempts)) (is ∙ guard_parts a more) in
    c.in_err-time.ensures a.lock.time _ fits.lock_time one.1)

pub returns-in_err-locked : goal.returns-in_err-locked
returns-in_err-locked c =
    refused IsGuard guard_text FitsRecord _ _ _ _ c.from_residual-in_err-locked.ensures.1
    (λ a more fits is.
    let one = c.in_ok-attempts.ensures a.lock.attempts _ (omega (arith, fits.attempts)) (is ∙ guard_parts a more) in
    let two = c.in_ok-time.ensures a.lock.time _ fits.lock_time one.1 in
    c.in_err-locked.ensures a.locked _ tt two.1)

pub returns-in_err-privileges : goal.returns-in_err-privileges
returns-in_err-privileges c =
    refused IsGuard guard_text FitsRecord _ _ _ _ c.from_residual-in_err-privileges.ensures.1
    (λ a more fits is.
    let one = c.in_ok-attempts.ensures a.lock.attempts _ (omega (arith, fits.attempts)) (is ∙ guard_parts a more) in
    let two = c.in_ok-time.ensures a.lock.time _ fits.lock_time one.1 in
    let three = c.in_ok-locked.ensures a.locked _ tt two.1 in
    c.in_err-privileges.ensures (a.create_user, a.password_admin) _ tt three.1)

pub returns : goal.returns
returns c = λ a more fits is.
    let one = c.in_ok-attempts.ensures a.lock.attempts _ (omega (arith, fits.attempts)) (is ∙ guard_parts a more) in
    let two = c.in_ok-time.ensures a.lock.time _ fits.lock_time one.1 in
    let three = c.in_ok-locked.ensures a.locked _ tt two.1 in
    let four = c.in_ok-privileges.ensures (a.create_user, a.password_admin) _ tt three.1 in
    ((same_rule _ _ _ _ one.0 two.0, three.0, ap (λ (p : Bool × Bool). p.0) four.0, ap (λ (p : Bool × Bool). p.1) four.0), four.1)
