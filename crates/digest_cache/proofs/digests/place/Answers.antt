use Rattle.std.proofs.Common.{rules, ◌≡◌, refl, sym, ap, ◌∙◌, ℕ, Some, None, arith}
use Rattle.std.specs.Prelude.{nat_lt}
use Rattle.std.proofs.lemmas.List.Sorted.{IsPartitionPoint-from_clause}
use Rattle.digest_cache.proofs.Places.{counted, is_partitioned}
use Rattle.digest_cache.proofs.digests.place.Goals as goal

pub returns : goal.returns
returns c =
    counted c.args.id c.args.entries.now c.partition_point.result c.partition_point.ensures.bound
    (IsPartitionPoint-from_clause (λ e. nat_lt e.0 c.args.id) c.args.entries.now _ c.partition_point.ensures.partitioned (is_partitioned c.args.id c.args.entries.now c.requires) (λ a r f k. search rules))
