use Rattle.std.proofs.Common.{◌≡◌, ◌∙◌, ap, sym, List, ℕ, arith}
use Rattle.factor_chain.specs.declared.credentials.Look.{Look}
use Rattle.factor_chain.specs.CheckedOf.{CheckedOf}
use Rattle.account_history.specs.Answers.{look_of}
use Rattle.account_history.specs.Histories.{history}
use Rattle.account_history.specs.declared.entries.Who.TheVariants.{Login}
use Rattle.account_machine.specs.Agreeing.{undigested_look}
use Rattle.machine_probe.proofs.Counted.{count-attempted}
use Rattle.machine_probe.proofs.site.Site.settle.Goals as goal

pub attempt-requires : goal.attempt-requires
attempt-requires c =
    let seen : c.check-checked.result.look ≡ look_of (history c.self.inside.accounts) (Login c.in_ok-copy.field-0) =
    ap (λ (checked : CheckedOf). checked.look) c.check-checked.ensures ∙ c.in_ok-look.ensures.look in
    ap undigested_look seen
    ∙ ap (λ (user : List ℕ). undigested_look (look_of (history c.self.inside.accounts) (Login user))) (sym (ap (λ (look : Look). look.user) seen))

pub invariant_of-self : goal.invariant_of-self
invariant_of-self c =
    let same = count-attempted c.self.inside.accounts c.attempt.new.self _ c.attempt.ensures.entry in
    let before = c.self.invariant in omega (arith, same, before)
