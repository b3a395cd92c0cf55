use Rattle.cstn_followed.proofs.Paired.{tried_is}
use Rattle.cstn_followed.proofs.marks_laws.trials_change_nothing.Goals as goal

pub returns : goal.returns
returns c = λ t next other bytes tried text answer line reads also is so. tried_is t next other text answer line bytes tried reads also is so
