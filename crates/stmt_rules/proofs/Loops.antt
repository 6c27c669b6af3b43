-- A loop of a grammar, one step at a time.
use Rattle.std.proofs.Common.{◌≡◌, ℕ, suc, ◌+◌, ◌-◌, ◌<◌, List, Option, arith, ap}
use Rattle.stmt_rules.specs.Forms.{Form, and_then, read_further, read_times}
use Rattle.stmt_tokens.specs.declared.token.Token.{Token}

pub once_more : {S : Type 0} (f : S → Form (Option S)) (n k : ℕ) (s : S) (ts : List Token) → k < n
    → read_times f (n - k) s ts ≡ and_then (read_further (read_times f (n - (k + 1))) s) ((f s).read ts)
once_more f n k s ts h =
    let e : n - k ≡ suc (n - (k + 1)) = omega arith in
    ap (λ m. read_times f m s ts) e
