use Rattle.std.proofs.Common.{refl}
use Rattle.cstn_exec.specs.Runs.{awaited, is_possible}
use Rattle.cstn_exec.specs.Guides.{holds_by}
use Rattle.cstn_exec.proofs.guide_laws.guide_answers_are_known.Goals as goal

pub returns-clause-needed : goal.returns-clause-needed
unfolding awaited is_possible holds_by
returns-clause-needed c = refl

pub returns-clause-spared : goal.returns-clause-spared
unfolding awaited is_possible holds_by
returns-clause-spared c = refl

pub returns-clause-second_test : goal.returns-clause-second_test
unfolding awaited is_possible holds_by
returns-clause-second_test c = refl

pub returns-clause-no_second_test : goal.returns-clause-no_second_test
unfolding awaited is_possible holds_by
returns-clause-no_second_test c = refl

pub returns-clause-slow_second_test : goal.returns-clause-slow_second_test
unfolding awaited is_possible holds_by
returns-clause-slow_second_test c = refl
