use Rattle.std.proofs.Common.{ℕ, ◌+◌, ◌≡◌, List, IfSome, Ok, Err, refl, sym, ap, ◌∙◌, subst, take_all, take, length, arith}
use Rattle.result_sets.specs.Faults.{malformed_at, in_payload}
use Rattle.result_sets.specs.Reading.{taken}
use Rattle.result_sets.specs.Table.{IsReadTable}
use Rattle.result_sets.specs.declared.fault.TableFault.{TableFault}
use Rattle.result_sets.proofs.Reached.{at_first, next_reached, next_refused, ended}
use Rattle.result_sets.proofs.reading.read_table.Goals as goal

pub loop-payload-init : goal.loop-payload-init
loop-payload-init c = record { reached = at_first c.new_progress-progress.result c.new_progress-progress.ensures; counted = refl }

pub returns-in-Err : goal.returns-in-Err
returns-in-Err c =
    subst (λ (e : TableFault). IsReadTable c.args.payloads.now (Err e))
    (ap (λ (i : ℕ). in_payload c.in-Err.fault i) (sym c.loop-payload.invariant.counted) ∙ sym c.in_payload.ensures)
    (next_refused c.args.payloads.now c.loop-payload.payload-index c.payload-item.result c.loop-payload-test.true c.payload-item.is c.loop-payload.progress
    c.loop-payload.invariant.reached c.in-Err.fault
    (subst (λ (p : List ℕ). IfSome (malformed_at c.in-Err.fault) (λ at. taken c.loop-payload.progress p ≡ Err at)) c.as_slice.ensures c.in-Err.ensures))

pub loop-payload-preserved : goal.loop-payload-preserved
loop-payload-preserved c = record {
  reached = next_reached c.args.payloads.now c.loop-payload.payload-index c.payload-item.result c.loop-payload-test.true c.payload-item.is c.loop-payload.progress
      c.loop-payload.invariant.reached c.in-Ok.next
      (subst (λ (p : List ℕ). taken c.loop-payload.progress p ≡ Ok c.in-Ok.next) c.as_slice.ensures c.in-Ok.ensures);
  counted = ap (λ (i : ℕ). i + 1) c.loop-payload.invariant.counted;
}

pub returns : goal.returns
returns c =
    let size : c.loop-payload.payload-index ≡ length c.args.payloads.now = omega (arith, c.loop-payload-test.false, c.loop-payload.auto.payload-index-end) in
    ended c.args.payloads.now (take c.loop-payload.payload-index c.args.payloads.now) c.loop-payload.progress c.loop-payload.index c.end.result
    c.loop-payload.invariant.reached
    (take_all c.loop-payload.payload-index c.args.payloads.now (omega (arith, size)))
    (c.loop-payload.invariant.counted ∙ size) c.end.ensures
