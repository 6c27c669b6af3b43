use Rattle.std.proofs.Common.{◌≡◌, ◌∷◌, ap, ◌∙◌, map, append-nil}
use Rattle.std.proofs.lemmas.Result.{IfOk-at_ok}
use Rattle.std.specs.Char.{to_ascii_uppercase}
use Rattle.hex.specs.Hex.{encode_lower}
use Rattle.native_scramble.proofs.UpperHex.{map-encode_lower}
use Rattle.native_scramble.proofs.write_stored.Goals as goal

pub returns : goal.returns
returns c =
    let written : c.encode_to_slice.new.output ≡ encode_lower c.args.stage2.now = IfOk-at_ok _ c.unwrap.ensures c.encode_to_slice.ensures.written ∙ ap encode_lower c.as_slice.ensures in
    let upper = map-encode_lower c.args.stage2.now in
    c.make_ascii_uppercase.ensures.after
    ∙ ap (λ text. 42 ∷ map to_ascii_uppercase text) (append-nil _ ∙ written) ∙ ap (λ text. 42 ∷ text) upper
