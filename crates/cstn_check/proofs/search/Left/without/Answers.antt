use Rattle.cstn_check.proofs.Fewer.{taken_out}
use Rattle.cstn_check.proofs.search.Left.without.Goals as goal

pub returns-clause-net : goal.returns-clause-net
returns-clause-net c =
    taken_out c.args.id c.args.self.net c.take_out.new.self c.take_out.result c.take_out.ensures.none c.take_out.ensures.same c.take_out.ensures.gone
