use Rattle.std.proofs.Common.{rules, ◌∙◌, arith, ◌≡◌, ap}
use Rattle.factor_chain.proofs.FewEvidences.{three_fits-all}
use Rattle.factor_chain.proofs.checking.Checked.all_fit.Goals as goal

pub returns : goal.returns
returns c =
    let all = three_fits-all c.self.inside.look.in_force c.self.inside.evidences (omega arith) (omega arith) in
    let e = c.are_fits.ensures in
    let v = c.self.view_is in
    let k = c.self.invariant in
    rw (← v) (rw (e, k, c.len-count.ensures.count) all)
