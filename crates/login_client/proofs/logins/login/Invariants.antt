-- What was got and sent so far goes on to a whole login.
use Rattle.std.proofs.Common.{◌≡◌, ◌-◌, ◌≤◌, false}
use Rattle.login_client.specs.Clients.{talk_of}
use Rattle.login_client.specs.Conversation.{conversation}
use Rattle.login_client.proofs.Reaching.{Reached}
use Rattle.login_client.proofs.logins.login.Given as goal

abbrev pub invariant-turns : goal.invariant-turns
invariant-turns g l = record {
  reached : Reached (6 - l._count) (conversation (record { user = l.fn.user; secrets = l.fn.secrets; options = l.fn.options; local = g.L.Link.local l.fn.link }))
      (g.L.Link.told l.fn.link) (g.L.Link.told l.link) (talk_of l.client) l.frames;
  unfinished : g.L.Link.finished l.link ≡ false;
  place : g.L.Link.local l.link ≡ g.L.Link.local l.fn.link;
  dialled : g.L.Link.dialled l.link ≡ g.L.Link.dialled l.fn.link;
  rising : g.L.Link.fault_count l.fn.link ≤ g.L.Link.fault_count l.link;
}
