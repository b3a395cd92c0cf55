use Rattle.cstn_followed.proofs.Ending.{turns_leave_less, turns_go_on, none_left_exactly, ends_well}
use Rattle.cstn_followed.proofs.laws.followed_plans_end.Goals as goal

pub returns : goal.returns
returns c = record { turns = turns_leave_less; can = turns_go_on; none = none_left_exactly; end = ends_well }
