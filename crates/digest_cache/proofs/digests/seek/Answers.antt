use Rattle.std.proofs.Common.{rules, ◌≡◌, refl, sym, ap, ◌∙◌, subst, ℕ, cond, Bool, true, false, Some, None, slice_get, arith, ltb-true, ltb-false}
use Rattle.std.specs.Prelude.{is_some}
use Rattle.std.proofs.lemmas.Option.{slice_get_past, slice_get_read}
use Rattle.std.proofs.lemmas.Bool.{ne_eqb}
use Rattle.digest_cache.proofs.Places.{found_at, missed_at, missed_past}
use Rattle.digest_cache.proofs.digests.seek.Goals as goal

pub returns-in-Some : goal.returns-in-Some
returns-in-Some c =
    found_at c.args.id c.args.entries.now c.place-place.result c.in-Some.entry.now c.requires c.place-place.ensures
    (slice_get_read c.args.entries.now _ c.place-place.result c.in-Some.entry.now refl (ltb-true _ _ (sym c.in-Some.ensures.lookup.0)) c.in-Some.ensures.lookup.1)
    c.if-entry-id.true

pub returns-in_default : goal.returns-in_default
returns-in_default c =
    missed_at c.args.id c.args.entries.now c.place-place.result c.in-Some.entry.now c.requires c.place-place.ensures
    (slice_get_read c.args.entries.now _ c.place-place.result c.in-Some.entry.now refl (ltb-true _ _ (sym c.in-Some.ensures.lookup.0)) c.in-Some.ensures.lookup.1)
    (ne_eqb c.in-Some.entry.now.0 c.args.id c.if-entry-id.false)

pub returns-in_default-2 : goal.returns-in_default-2
returns-in_default-2 c =
    missed_past c.args.id c.args.entries.now c.place-place.result c.requires c.place-place.ensures
    (slice_get_past c.args.entries.now c.place-place.result (ltb-false _ _ (sym c.get.ensures.lookup.0 ∙ ap is_some c.in_default.is)))
