use Rattle.std.proofs.Common.{ℕ, List, Option, if◌then◌else◌, ◌≡◌, ap, sym, ◌∙◌, refl, Some, None, slice_set, arith}
use Rattle.account_history.specs.Answers.{account_reply, reply_for}
use Rattle.account_history.specs.Histories.{History, ◌▹◌}
use Rattle.account_history.specs.Known.{clear_password, known, shown_by}
use Rattle.account_history.specs.Verifying.{account_verifies}
use Rattle.account_history.specs.Records.{in_force, records}
use Rattle.account_history.specs.declared.entries.Entry.TheVariants.{Attempted}
use Rattle.account_machine.proofs.Attempts.{at-place, is-tally, nobody-at, row-after, set-before, tally-after}
use Rattle.account_machine.proofs.Written.{rows-nobody, rows-on}
use Rattle.account_machine.specs.Rows.{place_in_force, row_of}
use Rattle.account_machine.specs.declared.rows.Row.{Row}
use Rattle.digest_cache.specs.Cache.{digest_of}
use Rattle.account_rules.specs.declared.accounts.Account.{Account}
use Rattle.account_history.specs.Failures.{opens}
use Rattle.account_history.specs.Naming.{or_else}
use Rattle.account_machine.specs.Digesting.{missing_in}
use Rattle.account_machine.proofs.Digested.{digests-attempted, digests-nobody}
use Rattle.account_machine.proofs.Roomy.{missing-at}
use Rattle.account_machine.proofs.attempting.attempt_on.Goals as goal

pub attempt_at-requires-clause-counted : goal.attempt_at-requires-clause-counted
attempt_at-requires-clause-counted c =
    let h : History = c.requires.0 in
    let p : place_in_force c.args.rows.now.items c.args.user.now ≡ Some c.in-Some.place =
    ap (λ rs. place_in_force rs c.args.user.now) (sym c.as_slice.ensures.value) ∙ sym c.in-Some.ensures in
    let at = at-place h c.args.rows.now.items c.args.user.now c.in-Some.place c.index_mut-row.result.now c.requires.1 p c.index_mut-row.ensures.value in
    is-tally h at.account c.index_mut-row.result.now at.is

pub attempt_at-requires-clause-since : goal.attempt_at-requires-clause-since
attempt_at-requires-clause-since c set e =
    let h : History = c.requires.0 in
    let p : place_in_force c.args.rows.now.items c.args.user.now ≡ Some c.in-Some.place =
    ap (λ rs. place_in_force rs c.args.user.now) (sym c.as_slice.ensures.value) ∙ sym c.in-Some.ensures in
    let at = at-place h c.args.rows.now.items c.args.user.now c.in-Some.place c.index_mut-row.result.now c.requires.1 p c.index_mut-row.ensures.value in
    let before = set-before h at.account set (ap (λ (row : Row). row.tally.locked) (sym at.is) ∙ e) in
    let now = c.requires.2 in omega arith

pub attempt_at-requires-clause-room : goal.attempt_at-requires-clause-room
attempt_at-requires-clause-room c =
    let h : History = c.requires.0 in
    let p : place_in_force c.args.rows.now.items c.args.user.now ≡ Some c.in-Some.place =
    ap (λ rs. place_in_force rs c.args.user.now) (sym c.as_slice.ensures.value) ∙ sym c.in-Some.ensures in
    let at = at-place h c.args.rows.now.items c.args.user.now c.in-Some.place c.index_mut-row.result.now c.requires.1 p c.index_mut-row.ensures.value in
    let its : missing_in (digest_of c.args.digests.now) c.index_mut-row.result.now.account ≡ missing_in (digest_of c.args.digests.now) at.account =
    ap (λ (row : Row). missing_in (digest_of c.args.digests.now) row.account) at.is in
    let all = missing-at (digest_of c.args.digests.now) (records h) c.in-Some.place at.account at.found in
    let room = c.requires.3.room in omega (arith, its, all, room)

pub returns-in-Some-clause-reply : goal.returns-in-Some-clause-reply
returns-in-Some-clause-reply c h e d f =
    let p : place_in_force c.args.rows.now.items c.args.user.now ≡ Some c.in-Some.place =
    ap (λ rs. place_in_force rs c.args.user.now) (sym c.as_slice.ensures.value) ∙ sym c.in-Some.ensures in
    let at = at-place h c.args.rows.now.items c.args.user.now c.in-Some.place c.index_mut-row.result.now e p c.index_mut-row.ensures.value in
    c.attempt_at.ensures.reply
    ∙ ap (λ (x : ℕ → Option (List ℕ)). account_reply c.index_mut-row.result.now.account c.index_mut-row.result.now.tally
    (account_verifies x c.index_mut-row.result.now.account c.args.evidences.now) c.args.evidences.now c.args.flags c.args.settings.now c.args.now) (λ i id. d.same id i)
    ∙ ap (λ (row : Row). account_reply row.account row.tally (account_verifies (known h) row.account c.args.evidences.now) c.args.evidences.now c.args.flags c.args.settings.now c.args.now) at.is
    ∙ ap (λ settings. account_reply at.account (row_of h at.account).tally (account_verifies (known h) at.account c.args.evidences.now) c.args.evidences.now c.args.flags settings c.args.now) f
    ∙ ap (λ found. reply_for h found c.args.evidences.now c.args.flags c.args.now) (sym at.stands)

pub returns-in-Some-clause-rows : goal.returns-in-Some-clause-rows
returns-in-Some-clause-rows c h t e d r m u v w =
    let p : place_in_force c.args.rows.now.items c.args.user.now ≡ Some c.in-Some.place =
    ap (λ rs. place_in_force rs c.args.user.now) (sym c.as_slice.ensures.value) ∙ sym c.in-Some.ensures in
    let at = at-place h c.args.rows.now.items c.args.user.now c.in-Some.place c.index_mut-row.result.now e p c.index_mut-row.ensures.value in
    let stands : in_force (records h) t.user ≡ Some at.account = ap (λ user. in_force (records h) user) u ∙ at.stands in
    let account : c.attempt_at.new.row.account ≡ at.account = c.attempt_at.ensures.account ∙ ap (λ (row : Row). row.account) at.is in
    let new : c.attempt_at.new.row ≡ row_of (h ▹ Attempted t) at.account =
    row-after h t at.account c.attempt_at.new.row c.args.evidences.now c.attempt_at.result c.args.now stands v w m account
    (tally-after h at.account c.index_mut-row.result.now c.attempt_at.new.row (digest_of c.args.digests.now) c.args.evidences.now c.attempt_at.result c.args.now d.same at.is c.attempt_at.ensures.tally) in
    ap (λ (row : Row). slice_set c.args.rows.now.items c.in-Some.place row) new
    ∙ ap (λ rows. slice_set rows c.in-Some.place (row_of (h ▹ Attempted t) at.account)) e
    ∙ rows-on h t c.in-Some.place at.account r at.found stands

pub returns-in-None-clause-reply : goal.returns-in-None-clause-reply
returns-in-None-clause-reply c h e d f =
    let p : place_in_force c.args.rows.now.items c.args.user.now ≡ None =
    ap (λ rs. place_in_force rs c.args.user.now) (sym c.as_slice.ensures.value) ∙ sym c.in-None.ensures in
    rw (nobody-at h c.args.rows.now.items c.args.user.now e p, c.uses_a_password.ensures) refl

pub returns-in-None-clause-rows : goal.returns-in-None-clause-rows
returns-in-None-clause-rows c h t e d r m u v w =
    let p : place_in_force c.args.rows.now.items c.args.user.now ≡ None =
    ap (λ rs. place_in_force rs c.args.user.now) (sym c.as_slice.ensures.value) ∙ sym c.in-None.ensures in
    let nobody : in_force (records h) t.user ≡ None = ap (λ user. in_force (records h) user) u ∙ nobody-at h c.args.rows.now.items c.args.user.now e p in
    e ∙ rows-nobody h t nobody

pub returns-in-Some-clause-digests : goal.returns-in-Some-clause-digests
returns-in-Some-clause-digests c h t e d u v w =
    let p : place_in_force c.args.rows.now.items c.args.user.now ≡ Some c.in-Some.place =
    ap (λ rs. place_in_force rs c.args.user.now) (sym c.as_slice.ensures.value) ∙ sym c.in-Some.ensures in
    let at = at-place h c.args.rows.now.items c.args.user.now c.in-Some.place c.index_mut-row.result.now e p c.index_mut-row.ensures.value in
    let stands : in_force (records h) t.user ≡ Some at.account = ap (λ user. in_force (records h) user) u ∙ at.stands in
    let account : c.index_mut-row.result.now.account ≡ at.account = ap (λ (row : Row). row.account) at.is in
    digests-attempted c.args.digests.now c.attempt_at.new.digests h t at.account c.args.evidences.now c.attempt_at.result d stands v w
    (λ q. c.attempt_at.ensures.kept q
    ∙ ap (λ (a : Account). or_else (digest_of c.args.digests.now q) (if opens c.attempt_at.result then shown_by a (clear_password c.args.evidences.now) q else None)) account)
    (c.attempt_at.ensures.room (records h) c.in-Some.place (at.found ∙ ap (λ (a : Account). Some a) (sym account)) d.room)

pub returns-in-None-clause-digests : goal.returns-in-None-clause-digests
returns-in-None-clause-digests c h t e d u v w =
    let p : place_in_force c.args.rows.now.items c.args.user.now ≡ None =
    ap (λ rs. place_in_force rs c.args.user.now) (sym c.as_slice.ensures.value) ∙ sym c.in-None.ensures in
    digests-nobody c.args.digests.now h t d (ap (λ user. in_force (records h) user) u ∙ nobody-at h c.args.rows.now.items c.args.user.now e p)
