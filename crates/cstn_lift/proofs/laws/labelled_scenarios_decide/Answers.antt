use Rattle.cstn_net.proofs.Observed.{is_own, kept_value}
use Rattle.cstn_lift.proofs.Observed.{same_consistent, same_least, executed_on_observed, least_on_observed, alike_strategy}
use Rattle.cstn_lift.proofs.laws.labelled_scenarios_decide.Goals as goal

pub returns : goal.returns
returns c = record {
  consistent = same_consistent;
  least = λ m s x t good. same_least m good s x t;
  values = λ m s. (is_own m.base s, kept_value m.base s);
  executed = λ m s x good. executed_on_observed m good s x;
  any = least_on_observed;
  alike = λ m a b good. alike_strategy m good a b;
}
