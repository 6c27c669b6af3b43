use Rattle.std.proofs.Common.{◌≡◌, ◌∙◌, ap, sym, ℕ, ◌+◌, ◌<◌, ◌++◌, List, length, take, drop, slice_set, slice_index_or, arith}
use Rattle.std.proofs.Math.Numerals.{add-one}
use Rattle.account_rules.specs.declared.accounts.Account.{Account}
use Rattle.account_machine.specs.Loading.{last_number, numbered_account, numbered_rows, passwords_of}
use Rattle.account_machine.specs.Looks.{accounts_of}
use Rattle.account_machine.specs.declared.rows.Row.{Row}
use Rattle.account_machine.proofs.Recorded.{few-passwords, last-more, numbered-more, still-there}
use Rattle.account_machine.proofs.loading.number_rows.Goals as goal

pub loop-row-preserved : goal.loop-row-preserved
loop-row-preserved c =
    let base : List Row = c.args.rows.now in
    let i : ℕ = c.loop-row.row-index in
    let d : Row = c.row-item.result in
    let here : Row = slice_index_or c.loop-row.rows i d in
    let short : i < length base = omega arith in
    let same : here ≡ slice_index_or base i d = ap (λ (rs : List Row). slice_index_or rs i d) c.loop-row.invariant.rows ∙ still-there 0 base i d short in
    let count : c.passwords_of-count.result ≡ passwords_of (slice_index_or base i d).account.secondary =
    c.passwords_of-count.ensures ∙ ap (λ (r : Row). passwords_of r.account.secondary) same in
    let more : last_number 0 (accounts_of (take (i + 1) base)) ≡ last_number 0 (accounts_of (take i base)) + passwords_of (slice_index_or base i d).account.secondary =
    ap (λ n. last_number 0 (accounts_of (take n base))) (add-one i) ∙ last-more 0 base i d short in
    let few = (few-passwords (slice_index_or base i d).account.secondary).1 in
    let last = c.loop-row.invariant.last in
    let most = c.loop-row.invariant.most in
    record {
      rows = ap (λ (a : Account). slice_set c.loop-row.rows i (record { account = a; tally = here.tally })) c.number_account.ensures
          ∙ ap (λ n. slice_set c.loop-row.rows i (record { account = numbered_account n here.account; tally = here.tally })) c.loop-row.invariant.last
          ∙ ap (λ (rs : List Row). slice_set rs i (record (slice_index_or rs i d) { account = numbered_account (last_number 0 (accounts_of (take i base))) (slice_index_or rs i d).account })) c.loop-row.invariant.rows
          ∙ numbered-more 0 base i d short
          ∙ ap (λ n. numbered_rows 0 (take n base) ++ drop n base) (sym (add-one i));
      last = omega arith;
      most = omega arith;
    }
