use Rattle.std.proofs.Common.{rules, ◌≡◌, refl, sym, ap, ◌∙◌, subst, ℕ, ◌<◌, cond, Bool, true, false, Some, None, Ok, Err, arith}
use Rattle.digest_cache.specs.Cache.{IsPlace}
use Rattle.digest_cache.proofs.Places.{none_taken, taken_looks, taken_rises}
use Rattle.digest_cache.proofs.digests.Digests.remove.Goals as goal

pub invariant_of-self : goal.invariant_of-self
invariant_of-self c =
    let place = subst (λ es. IsPlace c.args.id es (Ok c.in-Ok.place)) c.deref.ensures.value c.in-Ok.ensures in
    taken_rises c.args.id c.in-Ok.place c.self.inside.kept.items c.remove.new.self.items c.self.invariant place c.remove.ensures.items

pub returns-in-Ok-clause-kept : goal.returns-in-Ok-clause-kept
returns-in-Ok-clause-kept c = λ q.
    let place = subst (λ es. IsPlace c.args.id es (Ok c.in-Ok.place)) c.deref.ensures.value c.in-Ok.ensures in
    rw (← c.self.view_is) (taken_looks c.args.id c.in-Ok.place c.self.inside.kept.items c.remove.new.self.items q c.self.invariant place c.remove.ensures.items)
