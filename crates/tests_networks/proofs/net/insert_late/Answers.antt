use Rattle.std.proofs.Common.{rules, refl, subst, sym}
use Rattle.cstn_label.specs.Labels.{IsPlain}
use Rattle.cstn_net.specs.Networks.{IsOnObserved}
use Rattle.cstn_net.specs.Read.{the_network}
use Rattle.tests_networks.proofs.net.insert_late.Goals as goal

pub insert-requires-clause-constraint : goal.insert-requires-clause-constraint
insert-requires-clause-constraint g c = record {
  from = search rules;
  to = search rules;
  plain = subst IsPlain (sym c.empty.ensures.empty) (λ p. tt);
  observed = subst (IsOnObserved (the_network c.reserve.new.self)) (sym c.empty.ensures.empty) (λ p named. absurd (named refl));
}
