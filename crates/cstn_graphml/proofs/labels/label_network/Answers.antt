use Rattle.std.proofs.Common.{sym, subst}
use Rattle.cstn_lift.specs.Labelled.{Labelled}
use Rattle.cstn_lift.specs.Faults.{HasLiftFault, IsLiftRefusal}
use Rattle.cstn_graphml.proofs.LabelsRead.{handed, lifted, lift_refused}
use Rattle.cstn_graphml.specs.Labels.{with_labels_of}
use Rattle.cstn_graphml.proofs.labels.label_network.Goals as goal

pub returns-in-Ok-clause-labelled : goal.returns-in-Ok-clause-labelled
returns-in-Ok-clause-labelled c =
    lifted c.args.network c.args.graph c.in_ok-labels.labels.items c.in-Ok.labelled c.in_ok-labels.ensures c.in-Ok.ensures.base c.in-Ok.ensures.labels

pub returns-in-Ok-clause-faultless : goal.returns-in-Ok-clause-faultless
returns-in-Ok-clause-faultless c = λ e fault.
    c.in-Ok.ensures.faultless e (subst (λ (m : Labelled). HasLiftFault m e) (sym (handed c.args.network c.args.graph c.in_ok-labels.labels.items c.in_ok-labels.ensures)) fault)

pub returns-in-Err-clause-refused : goal.returns-in-Err-clause-refused
returns-in-Err-clause-refused c =
    lift_refused (with_labels_of c.args.network c.args.graph) c.args.graph.names c.in-Err.error c.names_of-in-Err.result c.refusal.result c.names_of-in-Err.ensures
    (subst (λ (m : Labelled). IsLiftRefusal m c.in-Err.error) (handed c.args.network c.args.graph c.in_ok-labels.labels.items c.in_ok-labels.ensures) c.in-Err.ensures.refused) c.refusal.ensures
