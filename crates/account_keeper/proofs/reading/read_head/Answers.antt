use Rattle.std.proofs.Common.{◌∙◌}
use Rattle.account_keeper.specs.Finding.{IsHead}
use Rattle.account_keeper.specs.Record.{FitsRecord, head_text}
use Rattle.account_keeper.proofs.Parts.{head_parts, refused, same_name}
use Rattle.account_keeper.proofs.reading.read_head.Goals as goal

pub returns-in_err-read_byte : goal.returns-in_err-read_byte
returns-in_err-read_byte c =
    refused IsHead head_text FitsRecord _ _ _ _ c.from_residual.ensures.1
    (λ a more fits is. c.in_err-read_byte.ensures 1 _ tt (is ∙ head_parts a more))

pub returns-then-branch-ne1 : goal.returns-then-branch-ne1
returns-then-branch-ne1 c = λ a more fits is.
    let one = c.in_ok-read_byte.ensures 1 _ tt (is ∙ head_parts a more) in
    absurd (c.if-branch-ne1.true one.0)

pub returns-in_err-user : goal.returns-in_err-user
returns-in_err-user c =
    refused IsHead head_text FitsRecord _ _ _ _ c.from_residual-in_err-user.ensures.1
    (λ a more fits is.
    let one = c.in_ok-read_byte.ensures 1 _ tt (is ∙ head_parts a more) in
    c.in_err-user.ensures a.name.user _ tt one.1)

pub returns-in_err-host : goal.returns-in_err-host
returns-in_err-host c =
    refused IsHead head_text FitsRecord _ _ _ _ c.from_residual-in_err-host.ensures.1
    (λ a more fits is.
    let one = c.in_ok-read_byte.ensures 1 _ tt (is ∙ head_parts a more) in
    let two = c.in_ok-user.ensures a.name.user _ tt one.1 in
    c.in_err-host.ensures a.name.host _ tt two.1)

pub returns-in_err-method : goal.returns-in_err-method
returns-in_err-method c =
    refused IsHead head_text FitsRecord _ _ _ _ c.from_residual-in_err-method.ensures.1
    (λ a more fits is.
    let one = c.in_ok-read_byte.ensures 1 _ tt (is ∙ head_parts a more) in
    let two = c.in_ok-user.ensures a.name.user _ tt one.1 in
    let three = c.in_ok-host.ensures a.name.host _ tt two.1 in
    c.in_err-method.ensures a.method _ tt three.1)

pub returns : goal.returns
returns c = λ a more fits is.
    let one = c.in_ok-read_byte.ensures 1 _ tt (is ∙ head_parts a more) in
    let two = c.in_ok-user.ensures a.name.user _ tt one.1 in
    let three = c.in_ok-host.ensures a.name.host _ tt two.1 in
    let four = c.in_ok-method.ensures a.method _ tt three.1 in
    ((same_name _ _ _ _ two.0 three.0, four.0), four.1)
