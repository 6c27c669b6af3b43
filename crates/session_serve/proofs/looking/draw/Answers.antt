use Rattle.session_serve.proofs.Owning.{drawn_answered}
use Rattle.session_serve.proofs.looking.draw.Goals as goal

pub returns-clause-answered : goal.returns-clause-answered
returns-clause-answered g c begun v clock keeps =
    drawn_answered begun v c.args.held.now (g.D.Draws.given c.args.draws.now) (g.D.Draws.given c.draw.new.self) clock c.draw.result c.draw.ensures.letters c.draw.ensures.given keeps
