use Rattle.std.proofs.Common.{◌≡◌, ◌∙◌, ap, sym, ℕ, List, ◌++◌, length, take, drop, arith}
use Rattle.std.proofs.lemmas.List.{take-append-le, take_all}
use Rattle.account_rules.specs.declared.accounts.Account.{Account}
use Rattle.account_history.specs.Given.{greatest_given}
use Rattle.account_history.specs.Histories.{latest_moment}
use Rattle.account_machine.specs.Loading.{last_number, numbered, numbered_rows}
use Rattle.account_machine.specs.Looks.{accounts_of}
use Rattle.account_machine.specs.declared.rows.Row.{Row}
use Rattle.account_machine.proofs.Recorded.{numbered-greatest, numbered-last, numbered-moment, numbered-new}
use Rattle.account_machine.proofs.loading.numbered.Goals as goal

-- a list of as many rows in place of the others
all-written : (n : ℕ) (xs ys : List Row) → length xs ≡ n → take n (xs ++ drop (length xs) ys) ≡ xs
all-written n xs ys e = take-append-le n xs (drop (length xs) ys) (omega arith) ∙ take_all n xs (omega arith)

pub returns : goal.returns
returns c =
    let accounts : List Account = accounts_of c.args.rows.items in
    let account : c.greatest_number-account.result ≡ (greatest_given (numbered 0 accounts)).account =
    c.greatest_number-account.ensures ∙ ap (λ (rs : List Row). (greatest_given (accounts_of rs)).account) c.as_slice.ensures.value
    ∙ sym (numbered-greatest 0 accounts) in
    let last = numbered-last 0 accounts in
    let given : c.number_rows-credential.result ≡ last_number 0 accounts =
    c.number_rows-credential.ensures.last ∙ ap (λ (rs : List Row). last_number 0 (accounts_of rs)) c.as_mut_slice.ensures.value in
    let credential : c.number_rows-credential.result ≡ (greatest_given (numbered 0 accounts)).credential = omega (arith, given, last) in
    let long : length c.number_rows-credential.new.rows ≡ c.args.rows.len = omega arith in
    record {
      rows = all-written c.args.rows.len c.number_rows-credential.new.rows c.args.rows.items long
          ∙ c.number_rows-credential.ensures.rows
          ∙ ap (λ (rs : List Row). numbered_rows 0 rs) (c.as_mut_slice.ensures.value ∙ c.requires)
          ∙ numbered-new 0 accounts;
      numbers = λ i. record { account = account i; credential = credential i };
      moment = c.latest_moment-moment.ensures ∙ ap (λ (rs : List Row). latest_moment (accounts_of rs)) c.as_slice-2.ensures.value
          ∙ sym (numbered-moment 0 accounts);
    }
