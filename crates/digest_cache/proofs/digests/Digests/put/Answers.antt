use Rattle.std.proofs.Common.{rules, ◌≡◌, refl, sym, ap, ◌∙◌, subst, ℕ, ◌<◌, cond, Bool, true, false, Some, None, Ok, Err, arith}
use Rattle.std.specs.Prelude.{◌⊎◌, IsSome}
use Rattle.digest_cache.specs.Cache.{Cache, IsPlace, digest_of}
use Rattle.digest_cache.proofs.Places.{has_room, put_looks, put_rises, when_done}
use Rattle.digest_cache.proofs.digests.Digests.put.Goals as goal

pub invariant_of-self : goal.invariant_of-self
invariant_of-self c =
    let place = subst (λ es. IsPlace c.args.id es (Err c.in-Err.place)) c.deref.ensures.value c.in-Err.ensures in
    let room = has_room _ _ place.2 (subst (λ (v : Cache). IsSome (digest_of v c.args.id) ⊎ (0 < v.spare)) (sym c.self.view_is) c.requires.room) in
    put_rises c.args.id c.in-Err.place c.args.digest c.self.inside.kept.items c.insert.new.self.items c.self.invariant place
    (when_done _ _ _ _ (c.insert.ensures.succeeds (omega (arith, room))) c.insert.ensures.items)

pub returns-in-Err-clause-kept : goal.returns-in-Err-clause-kept
returns-in-Err-clause-kept c = λ q.
    let place = subst (λ es. IsPlace c.args.id es (Err c.in-Err.place)) c.deref.ensures.value c.in-Err.ensures in
    let room = has_room _ _ place.2 (subst (λ (v : Cache). IsSome (digest_of v c.args.id) ⊎ (0 < v.spare)) (sym c.self.view_is) c.requires.room) in
    rw (← c.self.view_is)
    (put_looks c.args.id c.in-Err.place c.args.digest c.self.inside.kept.items c.insert.new.self.items q place
    (when_done _ _ _ _ (c.insert.ensures.succeeds (omega (arith, room))) c.insert.ensures.items))
