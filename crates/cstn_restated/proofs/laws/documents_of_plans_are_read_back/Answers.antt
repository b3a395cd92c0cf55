use Rattle.std.proofs.Common.{ap, ◌∙◌}
use Rattle.std.specs.Prelude.{Ok}
use Rattle.cstn_graphml.specs.Document.{Parts}
use Rattle.cstn_graphml.specs.Networks.{labelled_of}
use Rattle.cstn_save.proofs.LawLemmas.{document_back}
use Rattle.cstn_restated.proofs.PartsBack.{parts_again}
use Rattle.cstn_restated.proofs.laws.documents_of_plans_are_read_back.Goals as goal

pub returns : goal.returns
returns c p fit is = document_back (labelled_of p) p.names fit.labelled is ∙ ap (λ (q : Parts). Ok q) (parts_again p fit.labelled.base.network)
