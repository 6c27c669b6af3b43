use Rattle.turn_book.proofs.Seats.{kept_stand}
use Rattle.turn_book.proofs.laws.seats_stand.Goals as goal

pub returns : goal.returns
returns g c s k = kept_stand g.O.Object.start g.O.Object.entries g.O.Object.opening s k
