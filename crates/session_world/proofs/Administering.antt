-- What comes of a statement of the administrator: it sends nothing, and its entries are answered by what is before them.
use Rattle.std.proofs.Common.{◌≡◌, refl, ap, sym, ◌∙◌, ℕ, ◌+◌, ◌≤◌, ◌++◌, ◌&&◌, if◌then◌else◌, IsTrue, Bool, true, false, List, [], append-nil, arith}
use Rattle.account_history.specs.declared.entries.Entry.TheVariants.{Executed, Observed}
use Rattle.account_history.specs.declared.entries.Who.{Who}
use Rattle.account_history.specs.Histories.{history, noted}
use Rattle.account_history.specs.Legal.{IsExecuted, last_count}
use Rattle.account_history.proofs.Grammatical.{grammar-written}
use Rattle.account_history.specs.Sound.{IsWritten}
use Rattle.stmt_syntax.specs.Reading.{IsReadable}
use Rattle.stmt_tokens.specs.Tokens.{tokens}
use Rattle.account_history.specs.Preparing.{is_preparable, who_of}
use Rattle.lg_outside.specs.Faults.{Rose}
use Rattle.stmt_rules.specs.declared.statement.Statement.{Statement}
use Rattle.session_talk.specs.Statements.{no_salt}
use Rattle.world_table.specs.Drawing.{drawn_nonce}
use Rattle.world_table.specs.Statements.{administered, administrator, executed, executes, executes_salted, executes_seen, has_by, has_failed, is_called}
use Rattle.packet_stream.specs.Packing.{packets_text}
use Rattle.packet_stream.specs.Sent.{Sent}
use Rattle.world_table.specs.Printing.{lines_text}
use Rattle.world_table.specs.Table.{Common, seen, with_draw, with_entry}
use Rattle.session_world.specs.Leading.{with_lines}
use Rattle.session_world.specs.Lines.{sends_in}
use Rattle.session_world.specs.declared.output.Output.{Output}
use Rattle.session_world.proofs.Extending.{Extends, one, unchanged}

-- ## One statement

count_rises : (called fails : Bool) (last : ℕ) → IsTrue (called && fails) → IsTrue called × Rose last (if called && fails then last + 1 else last)
count_rises true true last t = (refl, omega arith)
count_rises true false last t = absurd (cc)
count_rises false fails last t = absurd (cc)

count_stays : (failed : Bool) (last : ℕ) → last ≤ (if failed then last + 1 else last)
count_stays true last = omega arith
count_stays false last = omega arith

-- a statement that is executed now is answered as the history determines
pub is_answered : (c : Common) (statement : Statement) (salt : List ℕ) (actor : ℕ) → IsExecuted (history c.log) (executed c statement salt actor)
is_answered c statement salt actor = record {
  replied = refl;
  called = refl;
  failed = count_rises (is_called c statement actor) c.fails (last_count (history c.log));
  counted = count_stays (has_failed c statement actor) (last_count (history c.log));
}

-- what a text is read to is as the grammar has it
pub readable_written : (statement : Statement) → IsReadable statement → IsWritten statement
readable_written statement (text, is) = grammar-written statement (tokens text) [] is

-- ## Those of the administrator

sends_salted : (c : Common) (statement : Statement) (wanted : Bool) → sends_in (executes_salted wanted c statement).lines ≡ []
sends_salted c statement true = refl
sends_salted c statement false = refl

pub sends_none : (c : Common) (statement : Statement) → sends_in (administered c statement).lines ≡ []
sends_none c statement = either (is_preparable statement)
  where
    either : (test : Bool) → sends_in (if test then executes_seen c statement (who_of administrator statement) else executes c statement no_salt).lines ≡ []
    either true = sends_salted (with_entry c (Observed (who_of administrator statement) (seen c (who_of administrator statement)))) statement (has_by statement)
    either false = refl

executes_writes : (c : Common) (statement : Statement) (salt : List ℕ) → Extends c.log (executes c statement salt).lines (executes c statement salt).common.log
executes_writes c statement salt =
    one c.log (Executed (executed c statement salt administrator)) [] (noted c.log (Executed (executed c statement salt administrator)))
    (is_answered c statement salt administrator) (unchanged (noted c.log (Executed (executed c statement salt administrator))) [] refl refl)

salted_writes : (c : Common) (statement : Statement) (wanted : Bool) →
    Extends c.log (executes_salted wanted c statement).lines (executes_salted wanted c statement).common.log
salted_writes c statement true = executes_writes (with_draw c) statement (drawn_nonce (c.drawn + 1))
salted_writes c statement false = executes_writes c statement no_salt

seen_writes : (c : Common) (statement : Statement) (who : Who) → Extends c.log (executes_seen c statement who).lines (executes_seen c statement who).common.log
seen_writes c statement who =
    one c.log (Observed who (seen c who)) _ _ refl (salted_writes (with_entry c (Observed who (seen c who))) statement (has_by statement))

pub administered_writes : (c : Common) (statement : Statement) → Extends c.log (administered c statement).lines (administered c statement).common.log
administered_writes c statement = either (is_preparable statement)
  where
    either : (test : Bool) →
        let did = if test then executes_seen c statement (who_of administrator statement) else executes c statement no_salt in
        Extends c.log did.lines did.common.log
    either true = seen_writes c statement (who_of administrator statement)
    either false = executes_writes c statement no_salt

-- its lines are put out, and no bytes
pub put_administered : (c : Common) (statement : Statement) (before : Output) (text : List ℕ) →
    text ≡ before.lines ++ lines_text 0 (administered c statement).lines →
    record { lines = text; sent = before.sent } ≡ with_lines 0 (administered c statement).lines before
put_administered c statement before text e = λ i. record {
  lines = e i;
  sent = (sym (append-nil before.sent) ∙ ap (λ (sent : List Sent). before.sent ++ packets_text sent) (sym (sends_none c statement))) i;
}
