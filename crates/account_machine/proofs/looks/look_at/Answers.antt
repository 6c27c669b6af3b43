use Rattle.std.proofs.Common.{sym, ◌∙◌, ap}
use Rattle.account_history.specs.declared.entries.Who.{Who}
use Rattle.account_history.specs.Answers.{look_of}
use Rattle.account_history.specs.Records.{has_id, is_named}
use Rattle.account_machine.specs.Looks.{account_at}
use Rattle.account_machine.specs.Rows.{place_in_force}
use Rattle.account_machine.proofs.Attempts.{force-at}
use Rattle.account_machine.proofs.Seen.{found-at, login-look, named-look, ok-as, own-look}
use Rattle.digest_cache.specs.Cache.{digest_of}
use Rattle.account_machine.proofs.looks.look_at.Goals as goal

pub returns-in-Login : goal.returns-in-Login
returns-in-Login c h e known counts =
    ok-as c.make_look.result _ _
    (login-look h (digest_of c.args.digests.now) known c.in-Login.user c.as_slice-user.result.now _ _ c.as_slice-user.ensures
    (c.of.ensures ∙ counts c.as_slice-user.result.now)
    (c.account_at-found.ensures ∙ sym (force-at h c.args.rows.now c.in-Login.user c.find_in_force.result e
    (ap (λ user. place_in_force c.args.rows.now user) (sym c.as_slice.ensures) ∙ sym c.find_in_force.ensures)))
    ∙ ap (λ (w : Who). look_of h w) (sym c.in-Login.is))
    c.make_look.ensures

pub returns-in-Account : goal.returns-in-Account
returns-in-Account c h e known counts =
    ok-as c.make_look-in-Account.result _ _
    (named-look h (digest_of c.args.digests.now) known c.in-Account.name c.as_slice-user-in-Account.result.now _ _ c.as_slice-user-in-Account.ensures
    (c.of-in-Account.ensures ∙ counts c.as_slice-user-in-Account.result.now)
    (c.account_at-found-in-Account.ensures ∙ ap (λ place. account_at c.args.rows.now place) c.find_named.ensures ∙ found-at h c.args.rows.now (is_named c.in-Account.name) e)
    ∙ ap (λ (w : Who). look_of h w) (sym c.in-Account.is))
    c.make_look-in-Account.ensures

pub returns-in-Own : goal.returns-in-Own
returns-in-Own c h e known counts =
    ok-as c.make_look-in-Own.result _ _
    (own-look h (digest_of c.args.digests.now) known c.in-Own.id c.user_of-user.result.now _ _ c.user_of-user.ensures
    (c.of-in-Own.ensures ∙ counts c.user_of-user.result.now)
    (c.account_at-found-in-Own.ensures ∙ ap (λ place. account_at c.args.rows.now place) c.find_numbered.ensures ∙ found-at h c.args.rows.now (has_id c.in-Own.id) e)
    ∙ ap (λ (w : Who). look_of h w) (sym c.in-Own.is))
    c.make_look-in-Own.ensures
