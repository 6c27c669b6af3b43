use Rattle.std.proofs.Common.{◌≡◌, ◌-◌, length}
use Rattle.stmt_rules.specs.Forms.{read_times}
use Rattle.stmt_rules.specs.Grammar.{further_privilege}
use Rattle.stmt_rules.proofs.cursor.Cursor.further_privileges.Given as goal

-- the privileges that are left lead to the same answer
abbrev pub invariant-loop : goal.invariant-loop
invariant-loop l =
    read_times further_privilege (l.end - l.counter) l.privileges l.self
    ≡ read_times further_privilege (length l.fn.self) l.fn.first l.fn.self
