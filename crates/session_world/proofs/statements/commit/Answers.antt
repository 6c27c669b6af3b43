use Rattle.std.proofs.Common.{sym, ap, ◌∙◌, ◌≡◌, ℕ, List, ◌++◌}
use Rattle.account_history.specs.declared.entries.Entry.TheVariants.{Executed}
use Rattle.factor_chain.specs.declared.credentials.Look.{Look}
use Rattle.stmt_rules.specs.declared.statement.Statement.{Statement}
use Rattle.world_table.specs.Printing.{entry_line}
use Rattle.world_table.specs.Statements.{executed, with_execution}
use Rattle.world_table.specs.Table.{is_stale, next_number}
use Rattle.session_world.proofs.Answering.{committed_answers, stale_statement_answers}
use Rattle.session_world.proofs.Committing.{commit_leads, stale_leads}
use Rattle.session_world.proofs.Giving.{on_ok, printed_so}
use Rattle.session_world.proofs.statements.commit.Goals as goal

same_for : {X : Type 0} (f : Statement → List ℕ → X) (a b : Statement) (s t : List ℕ) → a ≡ b → s ≡ t → f a s ≡ f b t
same_for f a b s t e g = ap (λ (x : Statement). f x s) e ∙ ap (λ (u : List ℕ). f b u) g

pub act-requires-clause-answers : goal.act-requires-clause-answers
act-requires-clause-answers c =
    stale_statement_answers _ _ c.args.prepared c.args.actor c.into_statement.result c.requires.begun c.requires.asked c.into_statement.ensures.statement

pub act-requires-2-clause-answers : goal.act-requires-2-clause-answers
act-requires-2-clause-answers c = committed_answers _ _ c.args.prepared c.args.actor c.in_ok-reply.reply c.requires.begun c.requires.asked

pub returns-then-is_stale-clause-leads : goal.returns-then-is_stale-clause-leads
returns-then-is_stale-clause-leads c calls some = on_ok c.act.result c.act.ensures.acted
    (λ acted. stale_leads _ _ _ _ _ _ _ _ calls _ _ c.args.prepared c.args.actor c.into_statement.result (record { lines = c.print_stale.new.out; sent = c.args.out.now.sent }) some c.requires.begun c.requires.asked
    (sym (c.is_stale.ensures ∙ ap (λ (l : Look). is_stale c.args.table.now l) c.look.ensures) ∙ c.if-is_stale.true) c.into_statement.ensures.statement (printed_so c.args.out.now _ _ (c.in_ok-print_stale.ensures {u = tt})) acted)

pub returns-clause-leads : goal.returns-clause-leads
returns-clause-leads c calls some = on_ok c.act-2.result c.act-2.ensures.acted
    (λ acted. commit_leads _ _ _ _ _ _ _ _ calls _ _ _ c.args.prepared c.args.actor c.in_ok-reply.reply (record { lines = c.execute.new.out; sent = c.args.out.now.sent }) some c.requires.begun c.requires.asked
    (sym (c.is_stale.ensures ∙ ap (λ (l : Look). is_stale c.args.table.now l) c.look.ensures) ∙ c.if-is_stale.false)
    ((c.in_ok-reply.ensures {u = tt}).reply ∙ same_for (λ st s. (executed c.args.table.now st s c.args.actor).reply) _ _ _ _ c.statement.ensures.statement c.salt.ensures.salt)
    ((c.in_ok-reply.ensures {u = tt}).entry ∙ same_for (λ st s. with_execution c.args.table.now (executed c.args.table.now st s c.args.actor)) _ _ _ _ c.statement.ensures.statement c.salt.ensures.salt)
    (printed_so c.args.out.now _ _
    ((c.in_ok-reply.ensures {u = tt}).printed ∙ same_for (λ st s. c.args.out.now.lines ++ entry_line (next_number c.args.table.now) (Executed (executed c.args.table.now st s c.args.actor))) _ _ _ _ c.statement.ensures.statement c.salt.ensures.salt))
    acted)
