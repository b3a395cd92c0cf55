use Rattle.cstn_check.proofs.Examples.{lines_crossed, lines_unknown_mark, lines_process}
use Rattle.cstn_check.proofs.laws.logs_are_known.Goals as goal

pub returns-clause-crossed : goal.returns-clause-crossed
returns-clause-crossed c = lines_crossed

pub returns-clause-unknown : goal.returns-clause-unknown
returns-clause-unknown c = lines_unknown_mark

pub returns-clause-process : goal.returns-clause-process
returns-clause-process c = lines_process
