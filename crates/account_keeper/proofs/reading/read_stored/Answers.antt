use Rattle.std.proofs.Common.{List, ℕ, ap, sym, ◌∙◌}
use Rattle.factor_chain.specs.declared.credentials.Stored.TheVariants as stored
use Rattle.account_keeper.proofs.Found.{native_there}
use Rattle.account_keeper.proofs.reading.read_stored.Goals as goal

pub returns-in-Ok : goal.returns-in-Ok
returns-in-Ok c = λ v more fits is.
    let there = native_there v c.in_ok-read_byte.field-0 _ _ more c.in-1.is fits is c.in_ok-read_byte.ensures in
    let found = c.in-Ok.ensures there.0 more there.2 there.3 in
    (ap (λ (digest : List ℕ). stored.Native digest) found.0 ∙ sym there.1, found.1)

pub returns-in-Err : goal.returns-in-Err
returns-in-Err c = λ v more fits is.
    let there = native_there v c.in_ok-read_byte.field-0 _ _ more c.in-1.is fits is c.in_ok-read_byte.ensures in
    c.in-Err.ensures there.0 more there.2 there.3
