use Rattle.std.proofs.Common.{◌∷◌, ◌++◌, [], map, take, ap, sym, ◌∙◌}
use Rattle.std.proofs.lemmas.List.{map_more, take_all}
use Rattle.cstn_net.specs.declared.constraints.Constraint.{Constraint}
use Rattle.cstn_check.proofs.Fewer.{the_ids}
use Rattle.cstn_check.proofs.search.ids_of.Goals as goal

pub loop-constraint-init : goal.loop-constraint-init
loop-constraint-init c = c.in_ok-ids.ensures.items

pub loop-constraint-preserved : goal.loop-constraint-preserved
loop-constraint-preserved c =
    let f : Constraint → _ = λ d. d.id in
    let cs = c.constraints-constraints.result.now in
    let loop = c.loop-constraint in
    c.in_ok-push.ensures.items
    ∙ ap (λ ids. ids ++ c.constraint-item.result.id ∷ []) loop.invariant
    ∙ ap (λ d. map f (take loop.constraint-index cs) ++ d.id ∷ []) c.constraint-item.is
    ∙ sym (map_more f cs loop.constraint-index c.constraint-item.result c.loop-constraint-test.true)

pub returns : goal.returns
returns c =
    c.loop-constraint.invariant
    ∙ ap (map (λ (d : Constraint). d.id)) (take_all c.loop-constraint.constraint-index c.constraints-constraints.result.now c.loop-constraint-test.false
    ∙ c.constraints-constraints.ensures.constraints)
    ∙ sym (the_ids c.args.net.now.constraints)
