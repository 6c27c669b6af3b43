use Rattle.std.proofs.Common.{◌≡◌}
use Rattle.caching_sha2.specs.Stored.{text_of}
use Rattle.account_keeper.specs.Record.{IsSaltedSum}
use Rattle.account_keeper.proofs.Found.{not_none, same_some, sha2_long, sha2_stored}
use Rattle.account_keeper.proofs.Parts.{refused}
use Rattle.account_keeper.proofs.reading.read_sha2.Goals as goal

pub returns-in_err-read_bytes : goal.returns-in_err-read_bytes
returns-in_err-read_bytes c =
    refused (λ x v. x ≡ v) text_of IsSaltedSum _ _ _ _ c.from_residual.ensures.1
    (λ v more fits is. c.in_err-read_bytes.ensures (text_of v) more (sha2_long v fits.1 fits.2) is)

pub returns-in-Some : goal.returns-in-Some
returns-in-Some c = λ v more fits is.
    let text = c.in_ok-read_bytes.ensures (text_of v) more (sha2_long v fits.1 fits.2) is in
    (same_some _ _ (c.in-Some.ensures.found v (sha2_stored v _ fits text.0)), text.1)

pub returns-in-None : goal.returns-in-None
returns-in-None c = λ v more fits is.
    let text = c.in_ok-read_bytes.ensures (text_of v) more (sha2_long v fits.1 fits.2) is in
    absurd (not_none _ (c.in-None.ensures.found v (sha2_stored v _ fits text.0)))
