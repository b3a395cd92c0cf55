use Rattle.std.proofs.Common.{subst}
use Rattle.cstn_net.specs.Networks.{IsWellFormed}
use Rattle.cstn_lift.specs.Read.{the_labelled}
use Rattle.cstn_save.proofs.document.is_fit.Goals as goal

pub returns : goal.returns
returns c = λ names.
    c.documents_are_read_back.ensures.fit (the_labelled c.args.net.now) names c.base.ensures.labelled
    (subst IsWellFormed c.lowered.ensures.lowered c.lowered.ensures.well_formed)
