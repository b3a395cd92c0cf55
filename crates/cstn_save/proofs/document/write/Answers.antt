use Rattle.std.proofs.Common.{◌≡◌, ℕ, List, ◌++◌, None, ap, ◌∙◌}
use Rattle.cstn_net.specs.Networks.{count}
use Rattle.cstn_net.specs.Read.{NetworkParts, the_network}
use Rattle.cstn_lift.specs.Labelled.{Labelled}
use Rattle.cstn_lift.specs.Read.{the_labelled}
use Rattle.cstn_graphml.specs.Document.{document}
use Rattle.cstn_save.specs.Canonical.{canonical, timed_observations, head, nodes_below, edges, tail}
use Rattle.cstn_save.proofs.JoinLemmas.{four}
use Rattle.cstn_save.proofs.LawLemmas.{document_back}
use Rattle.cstn_save.proofs.document.write.Goals as goal

pub returns-clause-read_back : goal.returns-clause-read_back
returns-clause-read_back c =
    let m : Labelled = the_labelled c.args.net.now in
    let names : List (List ℕ) = c.args.names.now in
    let nodes : List ℕ = nodes_below names (timed_observations m.base) m.labels (count m.base) in
    let lines : List ℕ = edges names (the_network c.base-base.result.now).constraints in
    let is : c.extend_from_slice.new.self.items ≡ canonical m names =
    four c.new-text.result.items (head c.deadline.result) nodes lines tail _ _ _ _ c.in_ok-push_head.ensures c.in_ok-push_nodes.ensures c.in_ok-push_edges.ensures c.in_ok-extend_from_slice.ensures.items
    ∙ ap (λ (text : List ℕ). text ++ (head c.deadline.result ++ nodes ++ lines ++ tail)) c.new-text.ensures.items
    ∙ ap (λ deadline. head deadline ++ nodes ++ lines ++ tail) c.deadline.ensures.deadline
    ∙ ap (λ (n : NetworkParts). head (the_network n).deadline ++ nodes ++ edges names (the_network n).constraints ++ tail) c.base-base.ensures.base in
    ap (λ (text : List ℕ). document text None) is
    ∙ document_back m names c.base-base.ensures.labelled (record { named = c.count.ensures.names; each = c.requires.named; origin = c.requires.origin })

pub returns-clause-accepted : goal.returns-clause-accepted
returns-clause-accepted c = c.is_fit.ensures c.args.names.now
