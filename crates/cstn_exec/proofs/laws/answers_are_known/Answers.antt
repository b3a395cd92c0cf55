use Rattle.std.proofs.Common.{refl}
use Rattle.cstn_exec.specs.Runs.{awaited, is_possible}
use Rattle.cstn_exec.proofs.laws.answers_are_known.Goals as goal

pub returns-clause-branch : goal.returns-clause-branch
unfolding awaited is_possible
returns-clause-branch c = refl

pub returns-clause-true_branch : goal.returns-clause-true_branch
unfolding awaited is_possible
returns-clause-true_branch c = refl

pub returns-clause-last_tick : goal.returns-clause-last_tick
unfolding awaited is_possible
returns-clause-last_tick c = refl

pub returns-clause-slow : goal.returns-clause-slow
unfolding awaited is_possible
returns-clause-slow c = refl

pub returns-clause-crossed : goal.returns-clause-crossed
unfolding awaited is_possible
returns-clause-crossed c = refl

pub returns-clause-process : goal.returns-clause-process
unfolding awaited is_possible
returns-clause-process c = refl
