use Rattle.std.proofs.Common.{◌≡◌, refl, ap, ◌∙◌, arith}
use Rattle.std.proofs.lemmas.List.{length-map}
use Rattle.cstn_graphml.specs.DrawnGraphSeen.{observed_seen}
use Rattle.cstn_graphml.proofs.Built.{made_count}
use Rattle.cstn_graphml.proofs.KeptGraphs.{kept_drawn}
use Rattle.cstn_sentences.specs.Drawn.{graph_of}
use Rattle.cstn_sentences.specs.Meaning.{Meaning}
use Rattle.cstn_sentences.specs.SeenDeclared.{the_declared}
use Rattle.cstn_sentences.specs.SeenMeaning.{the_meaning}
use Rattle.cstn_sentences.proofs.KeptPlans.{whole_seen}
use Rattle.cstn_sentences.proofs.PlanAnswers.{as_kept, plan_unfit, plan_fit, plan_mislabelled}
use Rattle.cstn_sentences.proofs.reading.answer.Goals as goal

pub build_network-requires : goal.build_network-requires
build_network-requires c =
    let d = the_declared c.args.d in
    let g = c.graph_of-graph.result in
    let whole = c.requires.0 in
    let is = c.requires.1 in
    kept_drawn (graph_of d whole) g (as_kept c.args.deadline d whole g is.drawn (whole_seen d (the_meaning c.args.m) whole g c.graph_of-graph.ensures is.kept_is))

pub returns-in-Err-clause-refused : goal.returns-in-Err-clause-refused
returns-in-Err-clause-refused c = λ whole is.
    let d = the_declared c.args.d in
    let g = c.graph_of-graph.result in
    plan_unfit c.args.deadline d whole g is.drawn (whole_seen d (the_meaning c.args.m) whole g c.graph_of-graph.ensures is.kept_is)
    c.in-Err.error g.names c.refusal.result refl c.in-Err.ensures.refused c.refusal.ensures

pub label_network-requires : goal.label_network-requires
label_network-requires c =
    let d = the_declared c.args.d in
    let g = c.graph_of-graph.result in
    let whole = c.requires.0 in
    let is = c.requires.1 in
    let graph = kept_drawn (graph_of d whole) g (as_kept c.args.deadline d whole g is.drawn (whole_seen d (the_meaning c.args.m) whole g c.graph_of-graph.ensures is.kept_is)) in
    let named = made_count c.args.deadline g c.in-Ok.network c.in-Ok.ensures.accepted (omega (arith, graph.each, length-map g.observes.items observed_seen)) in
    omega (arith, graph.labelled, named)

pub returns-in-Ok-label_network-clause-accepted : goal.returns-in-Ok-label_network-clause-accepted
returns-in-Ok-label_network-clause-accepted c = λ whole is.
    let d = the_declared c.args.d in
    let g = c.graph_of-graph.result in
    let read = c.in-Ok-label_network.read in
    let told = c.in-Ok-label_network.ensures in
    plan_fit c.args.deadline d whole g is.drawn (whole_seen d (the_meaning c.args.m) whole g c.graph_of-graph.ensures is.kept_is)
    c.in-Ok.network c.in-Ok.ensures.accepted c.in-Ok.ensures.well_formed read.0 read.1 told.labelled told.names told.in_order told.faultless

pub returns-in-Err-label_network-clause-refused : goal.returns-in-Err-label_network-clause-refused
returns-in-Err-label_network-clause-refused c = λ whole is.
    let d = the_declared c.args.d in
    let g = c.graph_of-graph.result in
    plan_mislabelled c.args.deadline d whole g is.drawn (whole_seen d (the_meaning c.args.m) whole g c.graph_of-graph.ensures is.kept_is)
    c.in-Ok.network c.in-Ok.ensures.accepted c.in-Ok.ensures.well_formed c.in-Err-label_network.error c.label_refusal.result c.in-Err-label_network.ensures.refused c.label_refusal.ensures
