use Rattle.cstn_run.proofs.Plain.{whole_same, heard_same}
use Rattle.cstn_run.proofs.laws.unlabelled_sessions_are_plain.Goals as goal

pub returns-clause-whole : goal.returns-clause-whole
returns-clause-whole c names m bounds lines plan none = whole_same names m bounds plan none lines

pub returns-clause-heard : goal.returns-clause-heard
returns-clause-heard c names m bounds lines plan none = heard_same names m bounds plan none lines
