use Rattle.login_client.specs.declared.ends.LoginEnd.TheVariants.{Opened}
use Rattle.login_client.proofs.Opened.{opened-whole}
use Rattle.login_client.proofs.Opening.{whole-talks}
use Rattle.login_client.proofs.laws.opened_logins_are_whole.Goals as goal

pub returns : goal.returns
returns c claim got written = (opened-whole claim got written, whole-talks claim got written Opened)
