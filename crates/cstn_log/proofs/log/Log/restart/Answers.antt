use Rattle.std.proofs.Common.{arith, ap}
use Rattle.cstn_log.specs.Entries.{State}
use Rattle.cstn_log.proofs.BornLemmas.{none_again}
use Rattle.cstn_log.proofs.log.Log.restart.Goals as goal

pub returns-then-count-cap-clause-gone : goal.returns-then-count-cap-clause-gone
returns-then-count-cap-clause-gone c =
    none_again c.args.self.now.births c.args.self.now.ids c.push_bases.new.self.ids c.take_all_out.ensures.born
    (λ k id is. omega (arith, c.push_bases.ensures.ids k id is, ap (λ (s : State). s.births) c.take_all_out.ensures.empty))
