use Rattle.cstn_headline.proofs.LabelledDeadlines.{lowered_at, least_same}
use Rattle.cstn_headline.proofs.laws.least_deadlines_are_lowered.Goals as goal

pub returns : goal.returns
returns c = record { lowered = lowered_at; least = λ m h good upto. least_same m good h upto }
