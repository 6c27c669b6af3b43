-- A client, as contracts see it.
use Rattle.login_client.specs.Phases.{talk_at}
use Rattle.login_client.specs.Talk.{Talk}
use Rattle.login_client.specs.declared.client.Client.{Client}

-- what is left of its talk
unfoldable pub talk_of : Client → Talk
talk_of c = talk_at c.claim c.phase
