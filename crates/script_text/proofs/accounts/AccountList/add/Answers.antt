use Rattle.std.proofs.Common.{◌≡◌, false, subst, rules, sym, ◌∙◌, List, ◌∷◌, [], ◌++◌}
use Rattle.account_history.specs.declared.entries.Opening.{Opening}
use Rattle.script_text.specs.Reading.{is_used}
use Rattle.script_text.specs.Users.{HoldsUsers}
use Rattle.script_text.proofs.Users.{fresh-user, users-more}
use Rattle.script_text.proofs.accounts.AccountList.add.Goals as goal

pub invariant_of-self-in-Ok-true : goal.invariant_of-self-in-Ok-true
invariant_of-self-in-Ok-true c =
    let key : c.in_ok-user.user.items ≡ c.args.opening.user = c.in_ok-user.ensures.items ∙ c.as_slice.ensures in
    let fresh : is_used c.args.opening.user c.self.inside.held.items ≡ false =
    fresh-user c.self.inside.held.items c.args.opening.user c.in_ok-user.user c.self.inside.users c.self.invariant key
    (sym c.in-Ok-true.ensures.added ∙ c.in-Ok-true.field-0-test) in
    let grown : c.push.new.self.items ≡ c.self.inside.held.items ++ c.args.opening ∷ [] = search rules in
    subst (λ (held : List Opening). HoldsUsers held c.insert.new.self) (sym grown)
    (users-more c.self.inside.held.items c.args.opening c.in_ok-user.user c.self.inside.users c.insert.new.self c.self.invariant
    c.in-Ok-true.ensures.updates key c.requires fresh)
