use Rattle.std.proofs.Common.{◌≡◌, ◌∙◌, ap, sym, Bool, true, ◌≤◌, length, arith}
use Rattle.digest_cache.specs.Cache.{digest_of}
use Rattle.factor_chain.specs.Checking.{is_fit}
use Rattle.login_lock.specs.Lock.{after, tally_of}
use Rattle.account_rules.specs.declared.accounts.Account.{Account}
use Rattle.account_history.specs.Answers.{account_reply}
use Rattle.account_history.specs.Failures.{opens}
use Rattle.account_history.specs.Verifying.{account_verifies}
use Rattle.account_machine.specs.Digesting.{first_on}
use Rattle.account_machine.proofs.Shown.{opened-verifies, verdict-first, verdict-fit}
use Rattle.account_machine.proofs.attempting.attempt_at.Goals as goal

pub keep_shown-requires-clause-fit : goal.keep_shown-requires-clause-fit
keep_shown-requires-clause-fit c =
    let some : 1 ≤ length c.args.evidences.now = let count = c.len-given.ensures.count in let least = c.len-given.ensures.some in omega arith in
    let verified : c.is_fit.result ≡ account_verifies (digest_of c.args.digests.now) c.args.row.now.account c.args.evidences.now =
    c.is_fit.ensures ∙ ap is_fit c.verdict-fit.ensures ∙ verdict-fit (digest_of c.args.digests.now) c.args.row.now.account c.args.evidences.now some in
    let opened : opens c.attempt-reply.result ≡ true = sym c.is_open.ensures ∙ c.if-is_open.true in
    let fits : c.is_fit.result ≡ true =
    opened-verifies c.args.row.now.account c.args.row.now.tally c.is_fit.result c.args.evidences.now c.args.flags c.args.settings.now c.args.now
    (ap opens (sym c.attempt-reply.ensures.reply) ∙ opened) in
    c.verdict-fit.ensures ∙ verdict-first (digest_of c.args.digests.now) c.args.row.now.account c.args.evidences.now (sym verified ∙ fits)
    ∙ ap (λ (a : Account). first_on (digest_of c.args.digests.now) a c.args.evidences.now) (sym c.attempt-reply.ensures.account)

pub returns-then-is_open-clause-reply : goal.returns-then-is_open-clause-reply
returns-then-is_open-clause-reply c =
    let some : 1 ≤ length c.args.evidences.now = let count = c.len-given.ensures.count in let least = c.len-given.ensures.some in omega arith in
    let verified : c.is_fit.result ≡ account_verifies (digest_of c.args.digests.now) c.args.row.now.account c.args.evidences.now =
    c.is_fit.ensures ∙ ap is_fit c.verdict-fit.ensures ∙ verdict-fit (digest_of c.args.digests.now) c.args.row.now.account c.args.evidences.now some in
    c.attempt-reply.ensures.reply
    ∙ ap (λ (v : Bool). account_reply c.args.row.now.account c.args.row.now.tally v c.args.evidences.now c.args.flags c.args.settings.now c.args.now) verified

pub returns-then-is_open-clause-tally : goal.returns-then-is_open-clause-tally
returns-then-is_open-clause-tally c = λ failures counted.
    let some : 1 ≤ length c.args.evidences.now = let count = c.len-given.ensures.count in let least = c.len-given.ensures.some in omega arith in
    let verified : c.is_fit.result ≡ account_verifies (digest_of c.args.digests.now) c.args.row.now.account c.args.evidences.now =
    c.is_fit.ensures ∙ ap is_fit c.verdict-fit.ensures ∙ verdict-fit (digest_of c.args.digests.now) c.args.row.now.account c.args.evidences.now some in
    c.attempt-reply.ensures.tally failures counted
    ∙ ap (λ (v : Bool). tally_of c.args.row.now.account.lock (after c.args.row.now.account.lock failures (opens c.attempt-reply.result) v c.args.now)) verified

pub returns-else-is_open-clause-reply : goal.returns-else-is_open-clause-reply
returns-else-is_open-clause-reply c =
    let some : 1 ≤ length c.args.evidences.now = let count = c.len-given.ensures.count in let least = c.len-given.ensures.some in omega arith in
    let verified : c.is_fit.result ≡ account_verifies (digest_of c.args.digests.now) c.args.row.now.account c.args.evidences.now =
    c.is_fit.ensures ∙ ap is_fit c.verdict-fit.ensures ∙ verdict-fit (digest_of c.args.digests.now) c.args.row.now.account c.args.evidences.now some in
    c.attempt-reply.ensures.reply
    ∙ ap (λ (v : Bool). account_reply c.args.row.now.account c.args.row.now.tally v c.args.evidences.now c.args.flags c.args.settings.now c.args.now) verified

pub returns-else-is_open-clause-tally : goal.returns-else-is_open-clause-tally
returns-else-is_open-clause-tally c = λ failures counted.
    let some : 1 ≤ length c.args.evidences.now = let count = c.len-given.ensures.count in let least = c.len-given.ensures.some in omega arith in
    let verified : c.is_fit.result ≡ account_verifies (digest_of c.args.digests.now) c.args.row.now.account c.args.evidences.now =
    c.is_fit.ensures ∙ ap is_fit c.verdict-fit.ensures ∙ verdict-fit (digest_of c.args.digests.now) c.args.row.now.account c.args.evidences.now some in
    c.attempt-reply.ensures.tally failures counted
    ∙ ap (λ (v : Bool). tally_of c.args.row.now.account.lock (after c.args.row.now.account.lock failures (opens c.attempt-reply.result) v c.args.now)) verified
