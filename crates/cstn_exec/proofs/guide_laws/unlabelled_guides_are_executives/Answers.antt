use Rattle.cstn_exec.proofs.Unlabelled.{all_named, just_moved, see_as_before}
use Rattle.cstn_exec.proofs.guide_laws.unlabelled_guides_are_executives.Goals as goal

pub returns-clause-named : goal.returns-clause-named
returns-clause-named c m bounds run t good none = all_named m good none bounds run t

pub returns-clause-advanced : goal.returns-clause-advanced
returns-clause-advanced c m bounds g t good none = just_moved m good none bounds g t

pub returns-clause-see : goal.returns-clause-see
returns-clause-see c m g p good none right = see_as_before m good none g p right
