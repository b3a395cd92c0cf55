use Rattle.cstn_graphml.proofs.SomeAnswer.{fit_made}
use Rattle.cstn_graphml.proofs.Held.{held}
use Rattle.cstn_sentences.specs.Plans.{plan}
use Rattle.cstn_sentences.proofs.DrawnPlans.{plan_drawn}
use Rattle.cstn_sentences.proofs.OnePlan.{one_answer, some_answer}
use Rattle.cstn_sentences.proofs.answer_laws.plans_have_one_answer.Goals as goal

pub returns : goal.returns
returns c = record {
  one = λ text deadline. one_answer c.lowest_net_fault_is_one.ensures c.lowest_lift_fault_is_one.ensures (plan text deadline);
  some = λ text deadline. some_answer (plan text deadline) (λ parts is.
      let drawn = plan_drawn text deadline parts is in
      fit_made c.builders_without_a_lowest_fault_make_networks.ensures c.labels_without_a_lowest_fault_are_in_order.ensures.labelled
      c.labels_without_a_lowest_fault_are_in_order.ensures.faultless parts drawn (held parts drawn));
  held = λ text deadline parts is. held parts (plan_drawn text deadline parts is);
  made = λ text deadline parts is. fit_made
      c.builders_without_a_lowest_fault_make_networks.ensures c.labels_without_a_lowest_fault_are_in_order.ensures.labelled
      c.labels_without_a_lowest_fault_are_in_order.ensures.faultless parts (plan_drawn text deadline parts is);
}
