use Rattle.std.proofs.Common.{◌+◌, ◌∙◌, ap, ℕ, ◌++◌, ◌∷◌, [], List}
use Rattle.account_machine.specs.Counting.{count_in, is_listed}
use Rattle.account_machine.specs.declared.stamps.UserStamp.{UserStamp}
use Rattle.account_machine.proofs.Raised.{count-pushed, listed-pushed}
use Rattle.account_machine.proofs.stamps.Stamps.list.Goals as goal

pub returns-clause-same : goal.returns-clause-same
returns-clause-same c other =
    ap (λ (users : List UserStamp). count_in users other + c.args.self.now.flushes) c.in_ok-push.ensures.items
    ∙ ap (λ n. n + c.args.self.now.flushes) (count-pushed c.args.self.now.users.items c.in_ok-user.user other)

pub returns-clause-listed : goal.returns-clause-listed
returns-clause-listed c =
    ap (λ (users : List UserStamp). is_listed users c.args.user.now) c.in_ok-push.ensures.items
    ∙ ap (λ (user : List ℕ). is_listed (c.args.self.now.users.items ++ record { user = user; count = 0 } ∷ []) c.args.user.now) c.in_ok-user.ensures
    ∙ listed-pushed c.args.self.now.users.items c.args.user.now
