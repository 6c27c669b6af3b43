use Rattle.session_world.proofs.Kept.{begun_is, peer_asked}
use Rattle.session_world.proofs.keeping.is_peer_there.Goals as goal

pub returns : goal.returns
returns c = peer_asked _ _ c.args.held.now.asks c.args.held.now.seat.peer c.is_open.result c.args.held.now.fits.0 (begun_is _ c.args.held.now.fits.1) c.is_open.ensures
