use Rattle.std.proofs.Common.{◌≡◌}
use Rattle.native_scramble.specs.Native.{native_text}
use Rattle.account_keeper.specs.Record.{IsDigest}
use Rattle.account_keeper.proofs.Found.{native_bytes, native_long, not_none, same_some}
use Rattle.account_keeper.proofs.Parts.{refused}
use Rattle.account_keeper.proofs.reading.read_native.Goals as goal

pub returns-in_err-read_bytes : goal.returns-in_err-read_bytes
returns-in_err-read_bytes c =
    refused (λ x v. x ≡ v) native_text IsDigest _ _ _ _ c.from_residual.ensures.1
    (λ v more fits is. c.in_err-read_bytes.ensures (native_text v) more (native_long v fits.0) is)

pub returns-in-Some : goal.returns-in-Some
returns-in-Some c = λ v more fits is.
    let text = c.in_ok-read_bytes.ensures (native_text v) more (native_long v fits.0) is in
    (same_some _ _ (c.in-Some.ensures.written v fits.0 (native_bytes v fits.1) text.0), text.1)

pub returns-in-None : goal.returns-in-None
returns-in-None c = λ v more fits is.
    let text = c.in_ok-read_bytes.ensures (native_text v) more (native_long v fits.0) is in
    absurd (not_none _ (c.in-None.ensures.written v fits.0 (native_bytes v fits.1) text.0))
