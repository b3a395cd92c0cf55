use Rattle.std.proofs.Common.{refl}
use Rattle.cstn_exec.specs.Runs.{awaited, is_possible}
use Rattle.cstn_run.proofs.hosted.laws.answers_are_known.Goals as goal

pub returns : goal.returns
unfolding awaited is_possible
returns c = record { branch = refl }
