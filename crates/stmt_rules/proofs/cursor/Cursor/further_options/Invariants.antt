use Rattle.std.proofs.Common.{◌≡◌, ◌-◌, false, length}
use Rattle.stmt_rules.specs.Forms.{read_times}
use Rattle.stmt_rules.specs.Grammar.{option}
use Rattle.stmt_rules.proofs.cursor.Cursor.further_options.Given as goal

-- the options that are left lead to the same answer
abbrev pub invariant-loop : goal.invariant-loop
invariant-loop l =
    read_times (option false) (l.end - l.counter) l.options l.self
    ≡ read_times (option false) (length l.fn.self) l.fn.first l.fn.self
