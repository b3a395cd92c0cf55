use Rattle.std.proofs.Common.{refl}
use Rattle.cstn_exec.specs.Runs.{is_possible}
use Rattle.cstn_tree.proofs.laws.broken_lines_are_known.Goals as goal

pub returns-clause-branch : goal.returns-clause-branch
unfolding is_possible
returns-clause-branch c = refl

pub returns-clause-early : goal.returns-clause-early
unfolding is_possible
returns-clause-early c = refl

pub returns-clause-at_once : goal.returns-clause-at_once
unfolding is_possible
returns-clause-at_once c = refl

pub returns-clause-left_out : goal.returns-clause-left_out
unfolding is_possible
returns-clause-left_out c = refl

pub returns-clause-unknown : goal.returns-clause-unknown
unfolding is_possible
returns-clause-unknown c = refl

pub returns-clause-known : goal.returns-clause-known
unfolding is_possible
returns-clause-known c = refl
