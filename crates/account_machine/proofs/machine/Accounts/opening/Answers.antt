use Rattle.std.proofs.Common.{◌∙◌, ◌+◌, ap, length, refl}
use Rattle.account_history.specs.declared.entries.Log.{Log}
use Rattle.account_machine.proofs.Digested.{digests-none}
use Rattle.account_machine.proofs.Starts.{stands-opening}
use Rattle.account_machine.proofs.machine.Accounts.opening.Goals as goal

pub invariant_of-result : goal.invariant_of-result
invariant_of-result c =
    let stands = stands-opening c.args.extra.now c.args.settings c.in_ok-rows.rows.items (record { account = length c.args.extra.now + 1; credential = length c.args.extra.now + 1 }) c.new.result c.of.result.value
    c.requires c.in_ok-rows.ensures c.new.ensures refl refl c.of.ensures in (
      stands,
      digests-none c.make_room.new.digests c.of.result.value c.in_ok-rows.rows.items c.len.result (c.in_ok-make_room.ensures.kept ∙ c.new-digests.ensures)
          (ap (λ (l : Log). l.entries) c.of.ensures) stands.same_rows (c.len.ensures ∙ c.in_ok-rows.rows.ok.0) c.in_ok-make_room.ensures.room,
    )
