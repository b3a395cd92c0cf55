use Rattle.cstn_lift.proofs.Equivalent.{mixed, mixed_defaulted, to_labelled}
use Rattle.cstn_lift.proofs.Twins.{defaulted_least}
use Rattle.cstn_lift.proofs.laws.defaults_give_a_labelled_strategy.Goals as goal

pub returns : goal.returns
returns c = record {
  twins = λ m d good. (mixed m good d, mixed_defaulted m good d);
  strategy = λ m table d twin good defaulted strategy. to_labelled m good table d twin strategy defaulted;
  least = defaulted_least;
}
