use Rattle.cstn_lift.proofs.FullLemmas.{full_plain, full_on, label_within, rank, rank_falls}
use Rattle.cstn_lift.proofs.laws.completed_labels_are_ordered.Goals as goal

pub returns : goal.returns
returns c = record {
  plain = λ m x good. full_plain m good x;
  observed = λ m x good. full_on m good x;
  within = λ m x j p good. label_within m good x j p;
  order = λ m good. (rank m good, rank_falls m good);
}
