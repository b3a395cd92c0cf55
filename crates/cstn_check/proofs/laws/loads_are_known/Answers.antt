use Rattle.cstn_check.proofs.Examples.{log_alone, log_branch, log_last_tick, log_too_late, log_crossed, log_crossed_no, log_unknown_mark, log_process, log_drawn}
use Rattle.cstn_check.proofs.laws.loads_are_known.Goals as goal

pub returns-clause-alone : goal.returns-clause-alone
returns-clause-alone c = log_alone

pub returns-clause-branch : goal.returns-clause-branch
returns-clause-branch c = log_branch

pub returns-clause-last_tick : goal.returns-clause-last_tick
returns-clause-last_tick c = log_last_tick

pub returns-clause-too_late : goal.returns-clause-too_late
returns-clause-too_late c = log_too_late

pub returns-clause-crossed : goal.returns-clause-crossed
returns-clause-crossed c = log_crossed

pub returns-clause-crossed_no : goal.returns-clause-crossed_no
returns-clause-crossed_no c = log_crossed_no

pub returns-clause-unknown : goal.returns-clause-unknown
returns-clause-unknown c = log_unknown_mark

pub returns-clause-process : goal.returns-clause-process
returns-clause-process c = log_process

pub returns-clause-drawn : goal.returns-clause-drawn
returns-clause-drawn c = log_drawn
