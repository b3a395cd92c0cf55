use Rattle.std.proofs.Common.{refl}
use Rattle.cstn_history.proofs.WellFormed.{bared_well_formed}
use Rattle.cstn_history.proofs.Points.{points_handed}
use Rattle.cstn_history.proofs.laws.points_left_are_handed.Goals as goal

pub returns : goal.returns
returns c = record {
  network = λ m h good known timely. bared_well_formed m h 0 good known timely;
  handed = λ m h b good known timely has deadline none. points_handed m h good known timely b.points has b deadline refl none;
}
