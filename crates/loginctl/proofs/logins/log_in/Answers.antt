use Rattle.std.proofs.Common.{refl}
use Rattle.loginctl.specs.LoginWords.{choice_of}
use Rattle.loginctl.specs.Logins.{undialled, unmade}
use Rattle.loginctl.specs.Outsides.{LinkState}
use Rattle.loginctl.proofs.LoggingIn.{logs-in, options-usable, secrets-fit, user-whole}
use Rattle.loginctl.proofs.logins.log_in.Goals as goal

pub returns-in-Err-clause-ends : goal.returns-in-Err-clause-ends
returns-in-Err-clause-ends g c = unmade refl

pub returns-in-Err-dial-clause-ends : goal.returns-in-Err-dial-clause-ends
returns-in-Err-dial-clause-ends g c = undialled c.in-Err-dial.ensures.bytes c.in-Err-dial.ensures.dialled c.in-Err-dial.ensures.cause

pub login-requires-clause-user : goal.login-requires-clause-user
unfolding choice_of
login-requires-clause-user g c = user-whole (choice_of c.args.chosen.now) c.bytes_or_none.result.now c.requires.fit c.bytes_or_none.ensures

pub login-requires-clause-secrets : goal.login-requires-clause-secrets
login-requires-clause-secrets g c = secrets-fit (choice_of c.args.chosen.now) c.in-Ok.secrets c.requires.fit c.in-Ok.ensures

pub login-requires-clause-options : goal.login-requires-clause-options
login-requires-clause-options g c = options-usable (choice_of c.args.chosen.now) c.options_of-options.result c.options_of-options.ensures

pub returns-clause-ends : goal.returns-clause-ends
unfolding choice_of
returns-clause-ends g c =
    let state = λ (l : _). let made : LinkState = record { told = g.L.Link.told l; dialled = g.L.Link.dialled l; faults = g.L.Link.fault_count l } in made in
    logs-in (choice_of c.args.chosen.now) (g.L.Link.local c.args.link.now) (g.L.Link.local c.dial.new.self)
    (state c.args.link.now) (state c.dial.new.self) (state c.login.new.link)
    c.login.result c.path_of.result.now c.bytes_or_none.result.now c.in-Ok.secrets c.options_of-options.result
    c.path_of.ensures c.bytes_or_none.ensures c.in-Ok.ensures c.options_of-options.ensures c.dial.ensures.place
    c.dial.ensures.bytes c.in-Ok-dial.ensures.dialled c.login.ensures.dialled c.dial.ensures.rising c.login.ensures.ends
