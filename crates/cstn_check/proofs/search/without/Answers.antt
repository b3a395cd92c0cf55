use Rattle.std.proofs.Common.{ap, ◌∙◌}
use Rattle.cstn_check.specs.Givers.{network_without}
use Rattle.cstn_check.proofs.Fewer.{taken_out, copied}
use Rattle.cstn_check.proofs.search.without.Goals as goal

pub returns : goal.returns
returns c = record {
  without = taken_out c.args.id c.in_ok-less.less c.take_out.new.self c.take_out.result c.take_out.ensures.none c.take_out.ensures.same c.take_out.ensures.gone
      ∙ ap (network_without c.args.id) (copied c.args.net.now c.in_ok-less.less c.in_ok-less.ensures.equal);
}
