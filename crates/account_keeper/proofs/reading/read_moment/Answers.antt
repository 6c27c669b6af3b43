use Rattle.std.proofs.Common.{◌<◌, ◌^◌, ◌≡◌}
use Rattle.lg_base.specs.Fields.{little_text}
use Rattle.account_keeper.proofs.Found.{eight_found, eight_long}
use Rattle.account_keeper.proofs.Parts.{refused}
use Rattle.account_keeper.proofs.reading.read_moment.Goals as goal

pub returns-in_err-read_bytes : goal.returns-in_err-read_bytes
returns-in_err-read_bytes c =
    refused (λ x v. x ≡ v) (λ n. little_text 8 n) (λ n. n < 256 ^ 8) _ _ _ _ c.from_residual.ensures.1
    (λ n more fits is. c.in_err-read_bytes.ensures (little_text 8 n) more (eight_long n) is)

pub returns : goal.returns
returns c = eight_found c.number_of.result _ _ _ c.number_of.ensures.ok c.number_of.ensures.err c.in_ok-read_bytes.ensures
