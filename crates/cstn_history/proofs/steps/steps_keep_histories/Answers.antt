use Rattle.cstn_history.proofs.FurtherPoint.{stepped_labelled, stepped_timely, stepped_goes, placed_same, placed_kept}
use Rattle.cstn_history.proofs.steps.steps_keep_histories.Goals as goal

pub returns : goal.returns
returns c = record {
  labelled = λ m good few. stepped_labelled m good few;
  history = λ m h good known timely. stepped_timely m good h known timely;
  goes = λ m h good known. stepped_goes m good h known;
  same = placed_same;
  kept = placed_kept;
}
