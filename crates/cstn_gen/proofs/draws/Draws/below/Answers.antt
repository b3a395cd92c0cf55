use Rattle.cstn_gen.proofs.DrawLemmas.{next_is, drawn_is}
use Rattle.cstn_gen.proofs.draws.Draws.below.Goals as goal

pub returns-clause-drawn : goal.returns-clause-drawn
returns-clause-drawn c = drawn_is c.args.m c.args.self.now.state

pub returns-clause-state : goal.returns-clause-state
returns-clause-state c = next_is c.args.self.now.state
