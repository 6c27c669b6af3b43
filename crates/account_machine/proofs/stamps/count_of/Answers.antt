use Rattle.std.proofs.Common.{◌∙◌, ap, sym}
use Rattle.account_machine.specs.Counting.{count_at}
use Rattle.account_machine.specs.declared.stamps.UserStamp.{UserStamp}
use Rattle.account_machine.proofs.Raised.{count-at, count-there}
use Rattle.account_machine.proofs.stamps.count_of.Goals as goal

pub returns-in-Some : goal.returns-in-Some
returns-in-Some c =
    ap (λ (s : UserStamp). s.count) (sym c.index-users-place.is)
    ∙ count-there c.args.users.now c.args.user.now c.in-Some.place c.index-users-place.result (sym c.in-Some.ensures) c.index-users-place.is

pub returns-in-None : goal.returns-in-None
returns-in-None c = sym (count-at c.args.users.now c.args.user.now ∙ ap (λ place. count_at c.args.users.now place) (sym c.in-None.ensures))
