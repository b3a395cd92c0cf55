use Rattle.cstn_followed.proofs.Ended.{ended_exactly, ended_good, ended_bad, ended_alike}
use Rattle.cstn_followed.proofs.laws.finished_plans_are_carried_out.Goals as goal

pub returns : goal.returns
returns c = record { exactly = ended_exactly; good = ended_good; bad = ended_bad; alike = ended_alike }
