use Rattle.std.proofs.Common.{◌≡◌, ◌∙◌, ap, sym, ℕ, List, Option, Some}
use Rattle.digest_cache.specs.Cache.{digest_of}
use Rattle.account_history.specs.Known.{clear_password, shown_by, shown_of}
use Rattle.account_history.specs.Naming.{or_else}
use Rattle.account_machine.specs.Digesting.{number_of}
use Rattle.account_machine.proofs.Shown.{shown-clear}
use Rattle.account_machine.proofs.verdicts.keep_shown.Goals as goal

pub returns-in-Some-clause-kept : goal.returns-in-Some-clause-kept
returns-in-Some-clause-kept c = λ q.
    let clear : clear_password c.args.evidences.now ≡ Some c.in-Some.password.now = ap clear_password (sym c.as_slice.ensures) ∙ sym c.in-Some.ensures in
    c.keep.ensures.kept q
    ∙ ap (λ (n : Option ℕ). or_else (digest_of c.args.digests.now q) (shown_of q c.in-Some.password.now n))
    (ap (number_of c.args.account.now) c.requires.fit ∙ shown-clear (digest_of c.args.digests.now) c.args.account.now c.args.evidences.now c.in-Some.password.now clear)
    ∙ ap (λ (x : Option (List ℕ)). or_else (digest_of c.args.digests.now q) (shown_by c.args.account.now x q)) (sym clear)
