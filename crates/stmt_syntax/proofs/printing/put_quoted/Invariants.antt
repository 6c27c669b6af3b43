use Rattle.std.proofs.Common.{◌≡◌, ◌++◌, ◌∷◌, [], take, flat_map}
use Rattle.stmt_tokens.specs.Quoting.{written_byte}
use Rattle.stmt_syntax.proofs.printing.put_quoted.Given as goal

abbrev pub invariant-loop-byte : goal.invariant-loop-byte
invariant-loop-byte l = l.out ≡ l.fn.out ++ 39 ∷ [] ++ flat_map written_byte (take l.byte-index l.text)
