use Rattle.std.proofs.Common.{◌≡◌, Some, sym, ap, ◌∙◌}
use Rattle.std.specs.Prelude.{option_map}
use Rattle.cstn_net.specs.Read.{NetworkParts, the_network}
use Rattle.cstn_check.specs.Givers.{ids_of}
use Rattle.cstn_check.specs.Needs.{said}
use Rattle.cstn_check.specs.Search.{left_over}
use Rattle.cstn_check.proofs.Leaving.{left_said}
use Rattle.cstn_conflict.proofs.ConflictLemmas.{found_conflict}
use Rattle.cstn_conflict.proofs.conflicts.conflict_of.Goals as goal

pub returns-in_default-clause-full : goal.returns-in_default-clause-full
returns-in_default-clause-full c none =
    ap (option_map ids_of) (sym c.in_ok-left.ensures.left ∙ ap (option_map (λ (n : NetworkParts). the_network n)) c.in_default.is)

pub refutation_of-requires : goal.refutation_of-requires
refutation_of-requires c =
    let net = the_network c.args.net in
    let is : left_over (said c.args.cap.entries) net ≡ Some (the_network c.in-Some.left) =
    sym c.in_ok-left.ensures.left ∙ ap (option_map (λ (n : NetworkParts). the_network n)) c.in-Some.is in
    record { no = left_said (said c.args.cap.entries) (ids_of net) net (the_network c.in-Some.left) c.requires.no is }

pub returns-clause-found : goal.returns-clause-found
returns-clause-found c =
    let net = the_network c.args.net in
    let is : left_over (said c.args.cap.entries) net ≡ Some (the_network c.in-Some.left) =
    sym c.in_ok-left.ensures.left ∙ ap (option_map (λ (n : NetworkParts). the_network n)) c.in-Some.is in
    let found = found_conflict c.args.cap.entries net (the_network c.in-Some.left) c.of.result c.in_ok-refutation.refutation is (c.of.ensures.ids ∙ c.in_ok-ids.ensures)
    c.in_ok-refutation.ensures.refutation in
    record { ids = found.0; refutation = found.1 }
