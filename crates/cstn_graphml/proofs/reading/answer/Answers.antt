use Rattle.std.proofs.Common.{ap, sym, ◌∙◌, arith}
use Rattle.std.specs.Prelude.{Option, ℕ}
use Rattle.std.proofs.lemmas.List.{length-map}
use Rattle.std.proofs.lemmas.Result.{err_from_is_err_and}
use Rattle.cstn_graphml.specs.Document.{document, first_of_two}
use Rattle.cstn_graphml.specs.DrawnGraphSeen.{observed_seen}
use Rattle.cstn_graphml.specs.Answers.{RefusesDocument, IsLabelRefusal}
use Rattle.cstn_graphml.specs.Labels.{with_labels_of}
use Rattle.cstn_graphml.proofs.Built.{made_count}
use Rattle.cstn_graphml.proofs.Refusing.{not_text, refused_before, lacks_deadline, has_deadline, was_read, read_is_drawn, same_deadline, made_whole, all_made, mislabelled_is_refused, unfit_is_refused}
use Rattle.cstn_graphml.proofs.OfDocuments.{each_error}
use Rattle.cstn_graphml.proofs.reading.answer.Goals as goal

pub returns-in-Err-clause-refused : goal.returns-in-Err-clause-refused
returns-in-Err-clause-refused c = not_text c.args.bytes.now c.args.deadline c.valid_up_to.result c.in-Err.ensures.cases.0 (c.valid_up_to.ensures ∙ c.in-Err.ensures.valid_len)

pub returns-in_err-graph-clause-refused : goal.returns-in_err-graph-clause-refused
returns-in_err-graph-clause-refused c =
    let p = err_from_is_err_and c.from_residual.result c.from_residual.ensures.1 in
    rw (p.1, p.2) (refused_before c.args.bytes.now c.args.deadline _ c.in_err-graph.field-0.0 c.in_default.ensures.cases.1 c.new-scanner.ensures.new c.in_err-graph.ensures)

pub returns-in_default-first_of_two-clause-refused : goal.returns-in_default-first_of_two-clause-refused
returns-in_default-first_of_two-clause-refused c =
    let read = was_read c.args.bytes.now _ c.in_ok-graph.graph c.new-scanner.ensures.new c.in_ok-graph.ensures in
    let none = ap (λ (o : Option ℕ). first_of_two c.args.deadline o) (same_deadline c.args.bytes.now c.in_ok-graph.graph read) ∙ sym c.first_of_two.ensures ∙ c.in_default-first_of_two.is in
    lacks_deadline c.args.bytes.now c.args.deadline read.whole c.in_default.ensures.cases.1 read.told none

pub build_network-requires : goal.build_network-requires
build_network-requires c = read_is_drawn c.args.bytes.now c.in_ok-graph.graph (was_read c.args.bytes.now _ c.in_ok-graph.graph c.new-scanner.ensures.new c.in_ok-graph.ensures)

pub returns-in-Err-build_network-clause-refused : goal.returns-in-Err-build_network-clause-refused
returns-in-Err-build_network-clause-refused c =
    let bytes = c.args.bytes.now in
    let graph = c.in_ok-graph.graph in
    let read = was_read bytes _ graph c.new-scanner.ensures.new c.in_ok-graph.ensures in
    let some = ap (λ (o : Option ℕ). first_of_two c.args.deadline o) (same_deadline bytes graph read) ∙ sym c.first_of_two.ensures ∙ c.in-Some.is in
    unfit_is_refused (document bytes c.args.deadline) bytes c.in-Some.deadline graph read c.names_of.result c.refusal.result
    (has_deadline bytes c.args.deadline c.in-Some.deadline read.whole c.in_default.ensures.cases.1 read.told some) c.names_of.ensures
    c.in-Err-build_network.error c.in-Err-build_network.ensures.refused c.refusal.ensures

pub label_network-requires : goal.label_network-requires
label_network-requires c =
    let read = was_read c.args.bytes.now _ c.in_ok-graph.graph c.new-scanner.ensures.new c.in_ok-graph.ensures in
    let graph = read_is_drawn c.args.bytes.now c.in_ok-graph.graph read in
    let named = made_count c.in-Some.deadline c.in_ok-graph.graph c.in-Ok.network c.in-Ok.ensures.accepted (omega (arith, graph.each, length-map c.in_ok-graph.graph.observes.items observed_seen)) in
    omega (arith, graph.labelled, named)

pub returns-in-Ok-clause-accepted : goal.returns-in-Ok-clause-accepted
returns-in-Ok-clause-accepted c =
    let read = was_read c.args.bytes.now _ c.in_ok-graph.graph c.new-scanner.ensures.new c.in_ok-graph.ensures in
    let told = made_whole c.args.bytes.now c.in_ok-graph.graph read c.in-Some.deadline c.in-Ok.network c.in-Ok.ensures.accepted c.in-Ok.ensures.well_formed in
    all_made (document c.args.bytes.now c.args.deadline) c.in-Some.deadline c.in_ok-graph.graph c.in-Ok.network
    (has_deadline c.args.bytes.now c.args.deadline c.in-Some.deadline _ c.in_default.ensures.cases.1 told (sym c.first_of_two.ensures ∙ c.in-Some.is)) c.in-Ok.ensures.accepted c.in-Ok.ensures.well_formed
    c.label_network.result c.label_network.ensures.labelled c.label_network.ensures.names c.label_network.ensures.in_order c.label_network.ensures.faultless

pub returns-in-Ok-clause-refused : goal.returns-in-Ok-clause-refused
returns-in-Ok-clause-refused c =
    let read = was_read c.args.bytes.now _ c.in_ok-graph.graph c.new-scanner.ensures.new c.in_ok-graph.ensures in
    let told = made_whole c.args.bytes.now c.in_ok-graph.graph read c.in-Some.deadline c.in-Ok.network c.in-Ok.ensures.accepted c.in-Ok.ensures.well_formed in
    let is = document c.args.bytes.now c.args.deadline in
    each_error (IsLabelRefusal (with_labels_of c.in-Ok.network c.in_ok-graph.graph) c.in_ok-graph.graph.names) (RefusesDocument is) c.label_network.result
    (λ e h. mislabelled_is_refused is c.in-Some.deadline c.in_ok-graph.graph c.in-Ok.network
    (has_deadline c.args.bytes.now c.args.deadline c.in-Some.deadline _ c.in_default.ensures.cases.1 told (sym c.first_of_two.ensures ∙ c.in-Some.is)) c.in-Ok.ensures.accepted c.in-Ok.ensures.well_formed e h)
    c.label_network.ensures.refused
