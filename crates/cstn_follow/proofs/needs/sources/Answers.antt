use Rattle.std.proofs.Common.{◌≡◌, ◌<◌, [], ◌∷◌, ◌++◌, length, map, take, sym, subst, ap, ◌∙◌}
use Rattle.std.specs.Prelude.{slice_index_or, if◌then◌else◌}
use Rattle.std.specs.List.{filter_map}
use Rattle.cstn_net.specs.Networks.{Constraint}
use Rattle.cstn_net.specs.Read.{NetworkParts, the_constraint}
use Rattle.cstn_lift.specs.Lowered.{with_full_label}
use Rattle.cstn_lift.specs.Read.{the_labelled}
use Rattle.cstn_follow.proofs.Needed.{sources_next, constraint_at}
use Rattle.cstn_follow.proofs.needs.sources.Goals as goal

pub is_plain-requires-clause-given : goal.is_plain-requires-clause-given
is_plain-requires-clause-given c =
    let given = c.constraints-c-items.ensures.constraints ∙ ap (λ (b : NetworkParts). b.constraints) c.base.ensures.base in
    let i = c.loop-c.c-index in
    let item = c.c-item.result in
    constraint_at c.args.network.now.base.constraints i item (subst (λ xs. i < length xs) given c.loop-c-test.true)
    (subst (λ xs. item ≡ slice_index_or xs i item) given c.c-item.is)

pub loop-c-preserved : goal.loop-c-preserved
loop-c-preserved c =
    let m = the_labelled c.args.network.now in
    let cs = c.args.network.now.base.constraints in
    let i = c.loop-c.c-index in
    let item = c.c-item.result in
    let given = c.constraints-c-items.ensures.constraints ∙ ap (λ (b : NetworkParts). b.constraints) c.base.ensures.base in
    let inside = subst (λ xs. i < length xs) given c.loop-c-test.true in
    let is = subst (λ xs. item ≡ slice_index_or xs i item) given c.c-item.is in
    let first = map (λ (e : Constraint). e.id) (filter_map (with_full_label m) (map the_constraint (take i cs))) in
    c.in_ok-push_if.ensures
    ∙ ap (λ l. l ++ (if c.is_plain.result then item.id ∷ [] else [])) c.loop-c.invariant
    ∙ ap (λ b. first ++ (if b then item.id ∷ [] else [])) c.is_plain.ensures
    ∙ sym (sources_next m cs i item inside is)
