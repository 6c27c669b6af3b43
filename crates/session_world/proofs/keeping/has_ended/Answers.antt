use Rattle.session_world.proofs.Kept.{begun_is, over_asked}
use Rattle.session_world.proofs.keeping.has_ended.Goals as goal

pub returns : goal.returns
returns c = over_asked _ _ c.args.held.now.asks c.is_end.result c.args.held.now.fits.0 (begun_is _ c.args.held.now.fits.1) c.is_end.ensures
