use Rattle.std.proofs.Common.{ap, ◌∙◌, Some, None}
use Rattle.std.specs.Prelude.{Ok}
use Rattle.cstn_graphml.specs.Document.{Parts}
use Rattle.cstn_graphml.specs.Networks.{labelled_of}
use Rattle.cstn_restated.proofs.PartsBack.{parts_again}
use Rattle.cstn_restated.proofs.ThereAndBack.{there_and_back}
use Rattle.cstn_restated.proofs.laws.sentences_are_read_back.Goals as goal

pub returns-clause-back : goal.returns-clause-back
returns-clause-back c m names good is short = there_and_back m names None good is short

pub returns-clause-handed : goal.returns-clause-handed
returns-clause-handed c m names deadline good is short = there_and_back m names (Some deadline) good is short

pub returns-clause-same : goal.returns-clause-same
returns-clause-same c p fit is short =
    there_and_back (labelled_of p) p.names None fit.labelled is short ∙ ap (λ (q : Parts). Ok q) (parts_again p fit.labelled.base.network)
