use Rattle.cstn_graphml.specs.Document.{document}
use Rattle.cstn_graphml.specs.Networks.{labelled_of}
use Rattle.cstn_graphml.proofs.Fits.{one_unfit}
use Rattle.cstn_graphml.proofs.OneAnswer.{fit_is_not_unfit, fit_is_not_mislabelled, unfit_is_not_mislabelled, one_answer, some_answer}
use Rattle.cstn_graphml.proofs.OfDocuments.{are_drawn}
use Rattle.cstn_graphml.proofs.SomeAnswer.{fit_made}
use Rattle.cstn_graphml.proofs.Held.{held}
use Rattle.cstn_graphml.proofs.laws.documents_have_one_answer.Goals as goal

pub returns : goal.returns
returns c = record {
  one = λ bytes deadline. one_answer c.lowest_net_fault_is_one.ensures c.lowest_lift_fault_is_one.ensures (document bytes deadline);
  some = λ bytes deadline. some_answer (document bytes deadline) (λ parts is.
      let drawn = are_drawn bytes deadline parts is in
      fit_made c.builders_without_a_lowest_fault_make_networks.ensures c.labels_without_a_lowest_fault_are_in_order.ensures.labelled
      c.labels_without_a_lowest_fault_are_in_order.ensures.faultless parts drawn (held parts drawn));
  held = λ bytes deadline parts is. held parts (are_drawn bytes deadline parts is);
  made = λ bytes deadline parts is. fit_made
      c.builders_without_a_lowest_fault_make_networks.ensures c.labels_without_a_lowest_fault_are_in_order.ensures.labelled
      c.labels_without_a_lowest_fault_are_in_order.ensures.faultless parts (are_drawn bytes deadline parts is);
  fit = fit_is_not_unfit;
  labelled = fit_is_not_mislabelled;
  either = unfit_is_not_mislabelled;
  unfit = one_unfit c.lowest_net_fault_is_one.ensures;
  mislabelled = λ parts e f one other. c.lowest_lift_fault_is_one.ensures (labelled_of parts) e f one.fault other.fault;
}
