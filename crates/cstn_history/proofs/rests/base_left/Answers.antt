use Rattle.std.proofs.Common.{◌≡◌, ◌++◌, length, arith, sym, subst, ap, ◌∙◌}
use Rattle.std.specs.Prelude.{map}
use Rattle.std.specs.List.{filter_map}
use Rattle.std.proofs.lemmas.List.{length-map, length-append, map-append}
use Rattle.cstn_net.specs.Networks.{AreConstraintsFor}
use Rattle.cstn_net.specs.Read.{the_network, the_constraint, observed}
use Rattle.cstn_lift.specs.Lowered.{numbered}
use Rattle.cstn_lift.specs.Read.{the_labelled}
use Rattle.cstn_history.specs.Rest.{constraint_left, added, rest}
use Rattle.cstn_history.specs.Read.{the_history}
use Rattle.cstn_history.specs.Handed.{bared}
use Rattle.cstn_history.proofs.WellFormed.{kept_fit, whole_fit}
use Rattle.cstn_history.proofs.rests.base_left.Goals as goal

pub insert_all-requires-clause-fit : goal.insert_all-requires-clause-fit
insert_all-requires-clause-fit c =
    let m = the_labelled c.args.network.now in
    let h = the_history c.args.history.now in
    let n = c.reserve.new.self in
    let observes : map observed n.points ≡ (bared m h).observes =
    ap (λ k. map observed k.points) c.in_default.ensures.same ∙ ap (λ k. k.observes) c.in-Ok-points_left.ensures.bared in
    let list : map the_constraint (n.constraints ++ c.deref-4.result.now) ≡ filter_map (constraint_left m h) m.base.constraints =
    ap (λ l. map the_constraint (l ++ c.deref-4.result.now)) (ap (λ k. k.constraints) c.in_default.ensures.same ∙ c.in-Ok-points_left.ensures.none)
    ∙ ap (map the_constraint) c.deref-4.ensures.value ∙ c.in-Ok.ensures.kept in
    let few = c.in-Ok.ensures.few in
    let long = ap length c.in-Ok.ensures.kept in
    let same = length-map c.in-Ok.kept.items the_constraint in
    subst (AreConstraintsFor (the_network n)) (sym list)
    (kept_fit m h c.args.fresh c.requires.labelled c.requires.kept.history c.requires.kept.in_time c.requires.above (the_network n) observes (omega arith))

pub insert_all-requires-2-clause-fit : goal.insert_all-requires-2-clause-fit
insert_all-requires-2-clause-fit c =
    let m = the_labelled c.args.network.now in
    let h = the_history c.args.history.now in
    let n = c.insert_all.new.net in
    let kept = c.in-Ok.kept.items in
    let more = c.in-Ok-added.added.items in
    let observes : map observed n.points ≡ (bared m h).observes =
    ap (map observed) c.insert_all.ensures.same.1 ∙ ap (λ k. map observed k.points) c.in_default.ensures.same ∙ ap (λ k. k.observes) c.in-Ok-points_left.ensures.bared in
    let list : map the_constraint (n.constraints ++ c.deref-5.result.now) ≡ (rest m h c.args.fresh).base.constraints =
    ap (λ l. map the_constraint (l ++ c.deref-5.result.now)) (c.insert_all.ensures.inserted
    ∙ ap (λ l. l ++ c.deref-4.result.now) (ap (λ k. k.constraints) c.in_default.ensures.same ∙ c.in-Ok-points_left.ensures.none) ∙ c.deref-4.ensures.value)
    ∙ ap (λ l. map the_constraint (kept ++ l)) c.deref-5.ensures.value ∙ map-append the_constraint kept more
    ∙ ap (λ l. l ++ map the_constraint more) c.in-Ok.ensures.kept
    ∙ ap (λ l. filter_map (constraint_left m h) m.base.constraints ++ l) c.in-Ok-added.ensures.added in
    let kept_long = ap length c.in-Ok.ensures.kept in
    let kept_same = length-map kept the_constraint in
    let more_long = ap length c.in-Ok-added.ensures.added in
    let more_same = length-map more the_constraint in
    let both = length-append (filter_map (constraint_left m h) m.base.constraints) (numbered c.args.fresh (added m h)) in
    let a = c.len.ensures in
    let b = c.len-2.ensures in
    let kept_items = c.in-Ok.kept.ok.0 in
    let more_items = c.in-Ok-added.added.ok.0 in
    let few = c.if-count-gt-MAX_CONSTRAINTS.false in
    subst (AreConstraintsFor (the_network n)) (sym list)
    (whole_fit m h c.args.fresh c.requires.labelled c.requires.kept.history c.requires.kept.in_time c.requires.above (the_network n) observes (omega arith))
