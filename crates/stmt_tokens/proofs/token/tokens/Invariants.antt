use Rattle.std.proofs.Common.{◌≡◌, drop}
use Rattle.stmt_tokens.specs.Tokens.{scan, start_of_scan}
use Rattle.stmt_tokens.proofs.token.tokens.Given as goal

-- the bytes that are left lead to the same end
abbrev pub invariant-loop-place : goal.invariant-loop-place
invariant-loop-place l = scan l.place (drop l.place l.text) l.scan ≡ scan 0 l.text start_of_scan
