use Rattle.cstn_run.proofs.hosts.Apart.{each_apart}
use Rattle.cstn_run.proofs.hosted.session_laws.lines_of_other_ids_make_no_difference.Goals as goal

pub returns : goal.returns
returns c = record { each = each_apart }
