use Rattle.std.proofs.Common.{◌≡◌, ◌∙◌, ap, sym, arith, Some, List}
use Rattle.account_machine.specs.Counting.{count_in, place_of_user}
use Rattle.account_machine.specs.declared.stamps.UserStamp.{UserStamp}
use Rattle.account_machine.proofs.Raised.{count-there, raised}
use Rattle.account_machine.proofs.stamps.Stamps.raise.Goals as goal

pub overflow_add-stamp : goal.overflow_add-stamp
overflow_add-stamp c =
    let p : place_of_user c.args.self.now.users.items c.args.user.now ≡ Some c.in-Some.place =
    ap (λ (users : List UserStamp). place_of_user users c.args.user.now) (sym c.as_slice.ensures.value) ∙ sym c.in-Some.ensures in
    let there : c.index_mut-stamp.result.now.count ≡ count_in c.args.self.now.users.items c.args.user.now =
    count-there c.args.self.now.users.items c.args.user.now c.in-Some.place c.index_mut-stamp.result.now p c.index_mut-stamp.ensures.value in
    omega (arith, c.requires.room, there)

pub returns-in-Some : goal.returns-in-Some
returns-in-Some c other =
    let p : place_of_user c.args.self.now.users.items c.args.user.now ≡ Some c.in-Some.place =
    ap (λ (users : List UserStamp). place_of_user users c.args.user.now) (sym c.as_slice.ensures.value) ∙ sym c.in-Some.ensures in
    let r = raised c.args.self.now.users.items c.args.user.now other c.index_mut-stamp.result.now c.in-Some.place p c.index_mut-stamp.ensures.value in
    omega (arith, r)
