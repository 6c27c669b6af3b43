use Rattle.session_world.proofs.Kept.{begun_is, waits_asked}
use Rattle.session_world.proofs.keeping.waits_for_call.Goals as goal

pub returns : goal.returns
returns c = waits_asked _ _ c.args.held.now.asks c.is_account_call.result c.args.held.now.fits.0 (begun_is _ c.args.held.now.fits.1) c.is_account_call.ensures
