-- A look that agrees with the accounts as they are.
use Rattle.std.specs.Prelude.{◌≡◌, None, option_map}
use Rattle.factor_chain.specs.declared.credentials.Credential.{Credential}
use Rattle.factor_chain.specs.declared.credentials.InForce.{InForce}
use Rattle.factor_chain.specs.declared.credentials.Look.{Look}
use Rattle.account_history.specs.declared.entries.Who.{Who}
use Rattle.account_history.specs.Answers.{look_of}
use Rattle.account_history.specs.Histories.{History}

abbrev pub undigested : Credential → Credential
undigested credential = record credential { digest = None }

-- what a look shows but for digests
abbrev pub undigested_account : InForce → InForce
undigested_account account = record account {
  primary = undigested account.primary;
  secondary = option_map undigested account.secondary;
}

abbrev pub undigested_look : Look → Look
undigested_look look = record look { in_force = option_map undigested_account look.in_force }

-- the look is the one that is answered now, except that digests may have become known since
abbrev pub Agrees : History → Who → Look → Type 0
Agrees h who look = undigested_look look ≡ undigested_look (look_of h who)
