-- Who logs in: the user, the secrets of the factors, and what the client may do.
use Rattle.std.specs.Prelude.{◌≡◌, IfSome, false}
use Rattle.login_client.specs.Zeros.{HasNoZero}
use Rattle.auth_packets.specs.Flags.{HasNeeded, is_set, CONNECT_WITH_DB, CONNECT_ATTRS}
use Rattle.login_client.specs.declared.claims.Claim.{Claim}
use Rattle.login_client.specs.declared.claims.Secrets.{Secrets}
use Rattle.login_client.specs.declared.claims.ClientOptions.{ClientOptions}

-- no secret holds the byte 00, which ends a secret that is written in the clear
pub record AreFit (secrets : Secrets) : Type 0 where
  pub first : HasNoZero secrets.first
  pub second : IfSome secrets.second HasNoZero
  pub third : IfSome secrets.third HasNoZero

-- the flags that both ends need are there, and none that tells of a database or of attributes
pub record AreUsable (options : ClientOptions) : Type 0 where
  pub needed : HasNeeded options.flags
  pub no_database : is_set CONNECT_WITH_DB options.flags ≡ false
  pub no_attributes : is_set CONNECT_ATTRS options.flags ≡ false

-- what a client needs of who it logs in
pub record IsSound (claim : Claim) : Type 0 where
  pub user : HasNoZero claim.user
  pub options : AreUsable claim.options
