use Rattle.std.proofs.Common.{◌≡◌, ◌+◌, ◌-◌, refl, ap, ◌∙◌, Bool, arith}
use Rattle.login_client.specs.Clients.{talk_of}
use Rattle.login_client.specs.Conversation.{conversation}
use Rattle.login_client.specs.declared.claims.Claim.{Claim}
use Rattle.login_client.proofs.Reaching.{ends-unbegun, reached-ends, reached-more, reached-none}
use Rattle.login_client.proofs.Within.{login-within}
use Rattle.login_client.proofs.logins.login.Goals as goal

pub returns-in-Err-clause-ends : goal.returns-in-Err-clause-ends
returns-in-Err-clause-ends g c = ends-unbegun _ (g.L.Link.told c.args.link.now) _ tt

pub turns-init : goal.turns-init
turns-init g c =
    let claim = λ (local : Bool). let made : Claim = record { user = c.args.user.now; secrets = c.args.secrets.now; options = c.args.options.now; local = local } in made in
    record {
      reached = reached-none (conversation (claim (g.L.Link.local c.args.link.now))) (talk_of c.in-Ok.client) (g.L.Link.told c.args.link.now) c.new_reader-frames.result
          (c.in-Ok.ensures ∙ ap (λ (local : Bool). conversation (claim local)) c.is_local.ensures) tt (login-within (claim (g.L.Link.local c.args.link.now))) c.new_reader-frames.ensures;
      unfinished = c.requires.open;
      place = refl;
      dialled = refl;
      rising = omega arith;
    }

pub returns-in-Some-clause-ends : goal.returns-in-Some-clause-ends
returns-in-Some-clause-ends g c =
    let inv = c.turns.invariant in
    let r = inv.reached in
    reached-ends (6 - c.turns._count) _ _ (g.L.Link.told c.turns.link) _ (talk_of c.turns.client) c.turns.frames _ _ c.in-Some.end r (λ rises. omega (arith, rises, inv.rising))
    (c.in-Some.ensures.ends r.next r.place (6 - c.turns._count) r.frames_are r.within)

pub turns-preserved : goal.turns-preserved
turns-preserved g c =
    let inv = c.turns.invariant in
    let r = inv.reached in
    let fewer : 6 - c.turns._count ≡ 6 - (c.turns._count + 1) + 1 = omega (arith, c.turns-test.true) in
    record {
      reached = reached-more (6 - c.turns._count) (6 - (c.turns._count + 1)) _ _ (g.L.Link.told c.turns.link) _ (talk_of c.turns.client) (talk_of c.turn.new.client) c.turns.frames c.turn.new.frames fewer r
          (c.in-None.ensures.goes_on r.next r.place (6 - c.turns._count) r.frames_are r.within);
      unfinished = c.turn.ensures.stays;
      place = c.turn.ensures.place ∙ inv.place;
      dialled = c.turn.ensures.dialled ∙ inv.dialled;
      rising = omega (arith, inv.rising, c.turn.ensures.rising);
    }
