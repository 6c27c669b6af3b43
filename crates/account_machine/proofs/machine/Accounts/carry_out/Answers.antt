use Rattle.std.proofs.Common.{◌≡◌, ◌≤◌, ◌+◌, ◌&&◌, ◌∙◌, ap, sym, subst, max, length, List, Bool, None, Ok, option_map, if◌then◌else◌, arith, ◌<◌, ◌^◌}
use Rattle.account_rules.specs.declared.accounts.Account.{Account}
use Rattle.account_history.specs.declared.entries.Log.{Log}
use Rattle.account_history.specs.Answers.{statement_refusal}
use Rattle.account_history.specs.Given.{given}
use Rattle.account_history.specs.Histories.{history, moment}
use Rattle.account_history.specs.Legal.{last_count}
use Rattle.account_history.specs.Records.{records}
use Rattle.account_history.specs.Refusals.{misplaced}
use Rattle.account_history.specs.Targets.{target_of}
use Rattle.account_machine.specs.Clearing.{cleared_user, raises}
use Rattle.account_machine.specs.Counting.{stamp_in}
use Rattle.account_machine.specs.Executing.{given_of, kept_after, rows_after}
use Rattle.account_machine.specs.Keeping.{Keeps}
use Rattle.account_machine.specs.Looks.{accounts_of}
use Rattle.account_machine.proofs.Committed.{accounts-kept, kept-history, next-fits-here, stands-done}
use Rattle.account_machine.proofs.Unrefused.{fitting-options, short-password, well-placed}
use Rattle.std.proofs.lemmas.List.{length-map}
use Rattle.digest_cache.specs.Cache.{digest_of}
use Rattle.account_machine.specs.Digesting.{cleared_numbers, forgets}
use Rattle.account_machine.specs.declared.rows.Row.{Row}
use Rattle.account_machine.proofs.Digested.{digests-done}
use Rattle.account_machine.proofs.machine.Accounts.carry_out.Goals as goal

pub perform-requires-clause-placed : goal.perform-requires-clause-placed
perform-requires-clause-placed g c =
    let none : statement_refusal (history c.self.inside.log.value) c.args.statement.now c.args.actor c.args.reading ≡ None =
    subst (λ (l : Log). statement_refusal (history l) c.args.statement.now c.args.actor c.args.reading ≡ None) (sym c.self.view_is) c.requires.refusal in
    subst (λ (xs : List Account). misplaced c.args.statement.now (target_of xs c.args.statement.now c.args.actor) ≡ None)
    (sym (accounts-kept c.self.inside.rows.items (history c.self.inside.log.value) c.self.invariant.0.same_rows))
    (well-placed (history c.self.inside.log.value) c.args.statement.now c.args.actor c.args.reading none)

pub perform-requires-clause-password : goal.perform-requires-clause-password
perform-requires-clause-password g c =
    short-password (history c.self.inside.log.value) c.args.statement.now c.args.actor c.args.reading
    (subst (λ (l : Log). statement_refusal (history l) c.args.statement.now c.args.actor c.args.reading ≡ None) (sym c.self.view_is) c.requires.refusal)

pub perform-requires-clause-options : goal.perform-requires-clause-options
perform-requires-clause-options g c =
    fitting-options (history c.self.inside.log.value) c.args.statement.now c.args.actor c.args.reading
    (subst (λ (l : Log). statement_refusal (history l) c.args.statement.now c.args.actor c.args.reading ≡ None) (sym c.self.view_is) c.requires.refusal)

pub invariant_of-self-2 : goal.invariant_of-self-2
invariant_of-self-2 g c =
    let none : statement_refusal (history c.self.inside.log.value) c.args.statement.now c.args.actor c.args.reading ≡ None =
    subst (λ (l : Log). statement_refusal (history l) c.args.statement.now c.args.actor c.args.reading ≡ None) (sym c.self.view_is) c.requires.refusal in
    let low : last_count (history c.self.inside.log.value) ≤ g.K.Keeper.fault_count c.args.keeper.now =
    subst (λ (l : Log). last_count (history l) ≤ g.K.Keeper.fault_count c.args.keeper.now) (sym c.self.view_is) c.requires.count in
    let rising : g.K.Keeper.fault_count c.args.keeper.now ≤ g.K.Keeper.fault_count c.perform.new.keeper = c.in_ok-done.ensures.rising in
    let count : c.faults-count.result ≡ g.K.Keeper.fault_count c.perform.new.keeper = c.faults-count.ensures in
    let now : c.moment_at-now.result ≡ max c.args.reading (moment (history c.self.inside.log.value)) =
    c.moment_at-now.ensures ∙ ap (λ (l : Log). max c.args.reading (moment (history l))) (sym c.self.view_is) in (
      stands-done c.self.inside.log.value c.args.statement.now c.args.salt.now c.args.actor c.args.reading c.faults-count.result
          c.self.inside.rows.items c.self.inside.settings c.self.inside.moment c.moment_at-now.result c.self.inside.numbers c.self.inside.stamps c.self.inside.changes
          c.self.invariant.0 now
          c.perform.new.rows.items c.in_ok-numbers.numbers c.perform.new.stamps c.in_ok-changes.changes c.of.result.value
          none (omega (arith, low, rising, count))
          (c.in_ok-done.ensures.done
          ∙ ap (λ (b : Bool). if b then rows_after c.args.statement.now (given_of c.self.inside.numbers) c.args.actor c.args.salt.now c.moment_at-now.result c.self.inside.rows.items
          else c.self.inside.rows.items) c.if-not-done.false)
          c.requires.written (c.told-salt, c.requires.letters) (let fits = c.moment_at-now.type_inv in omega arith)
          c.in_ok-numbers.ensures.0
          (λ user. c.in_ok-done.ensures.stamps user
          ∙ ap (λ (b : Bool). if b && raises c.args.statement.now (cleared_user c.args.statement.now (target_of (accounts_of c.self.inside.rows.items) c.args.statement.now c.args.actor)) user
          then stamp_in c.self.inside.stamps user + 1 else stamp_in c.self.inside.stamps user) c.if-not-done.false)
          c.in_ok-changes.ensures
          c.of.ensures,
      digests-done c.self.inside.digests c.perform.new.digests c.self.inside.log.value c.args.statement.now c.args.salt.now c.args.actor c.args.reading c.faults-count.result
          c.of.result.value (length c.self.inside.rows.items) c.self.invariant.1
          (sym (length-map c.self.inside.rows.items (λ (row : Row). row.account)) ∙ ap (λ (xs : List Account). length xs) (accounts-kept c.self.inside.rows.items (history c.self.inside.log.value) c.self.invariant.0.same_rows))
          (λ q. c.in_ok-done.ensures.digests q
          ∙ ap (λ (b : Bool). if b && forgets c.args.statement.now (cleared_numbers c.args.statement.now (target_of (accounts_of c.self.inside.rows.items) c.args.statement.now c.args.actor)) q
          then None else digest_of c.self.inside.digests q) c.if-not-done.false
          ∙ ap (λ (xs : List Account). if forgets c.args.statement.now (cleared_numbers c.args.statement.now (target_of xs c.args.statement.now c.args.actor)) q
          then None else digest_of c.self.inside.digests q) (accounts-kept c.self.inside.rows.items (history c.self.inside.log.value) c.self.invariant.0.same_rows))
          c.in_ok-done.ensures.room c.of.ensures,
    )

pub returns-clause-rows : goal.returns-clause-rows
returns-clause-rows g c =
    let now : c.moment_at-now.result ≡ max c.args.reading (moment (history c.self.inside.log.value)) =
    c.moment_at-now.ensures ∙ ap (λ (l : Log). max c.args.reading (moment (history l))) (sym c.self.view_is) in
    subst (λ (b : Bool). Keeps (kept_after c.args.statement.now (given_of c.self.inside.numbers) c.args.actor c.args.salt.now c.moment_at-now.result (accounts_of c.self.inside.rows.items))
    (g.K.Keeper.told_rows c.args.keeper.now) (g.K.Keeper.told_rows c.perform.new.keeper) (Ok b)) c.if-not-done.false c.in_ok-done.ensures.kept
    ∙ kept-history c.self.inside.log.value c.args.statement.now c.args.salt.now c.args.actor c.args.reading c.faults-count.result
    c.self.inside.rows.items c.self.inside.settings c.self.inside.moment c.moment_at-now.result c.self.inside.numbers c.self.inside.stamps c.self.inside.changes
    c.self.invariant.0 now (g.K.Keeper.told_rows c.args.keeper.now)
    ∙ ap (λ (l : Log). option_map (kept_after c.args.statement.now (given (history l)) c.args.actor c.args.salt.now (max c.args.reading (moment (history l))) (records (history l)))
    (g.K.Keeper.told_rows c.args.keeper.now)) c.self.view_is

pub perform-requires-clause-fits : goal.perform-requires-clause-fits
perform-requires-clause-fits g c =
    let none : statement_refusal (history c.self.inside.log.value) c.args.statement.now c.args.actor c.args.reading ≡ None =
    subst (λ (l : Log). statement_refusal (history l) c.args.statement.now c.args.actor c.args.reading ≡ None) (sym c.self.view_is) c.requires.refusal in
    let now : c.moment_at-now.result ≡ max c.args.reading (moment (history c.self.inside.log.value)) =
    c.moment_at-now.ensures ∙ ap (λ (l : Log). max c.args.reading (moment (history l))) (sym c.self.view_is) in
    let below : c.moment_at-now.result < 2 ^ 64 = let fits = c.moment_at-now.type_inv in omega arith in
    next-fits-here c.self.inside.log.value c.args.statement.now c.args.salt.now c.args.actor c.args.reading 0
    c.self.inside.rows.items c.self.inside.settings c.self.inside.moment c.moment_at-now.result c.self.inside.numbers c.self.inside.stamps c.self.inside.changes
    c.self.invariant.0 now none c.requires.written (c.told-salt, c.requires.letters) below
