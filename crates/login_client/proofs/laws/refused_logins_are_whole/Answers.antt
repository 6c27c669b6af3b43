use Rattle.login_client.proofs.Opened.{refused-talks, refused-whole}
use Rattle.login_client.proofs.laws.refused_logins_are_whole.Goals as goal

pub returns : goal.returns
returns c claim got written number = (refused-whole claim got written number, refused-talks claim got written number)
