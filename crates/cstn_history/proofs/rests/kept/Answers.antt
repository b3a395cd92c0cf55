use Rattle.std.proofs.Common.{◌≡◌, ◌<◌, ◌≤◌, [], Option, Some, None, length, arith, subst, ap, ◌∙◌}
use Rattle.std.specs.Prelude.{slice_index_or}
use Rattle.std.specs.List.{cons_option}
use Rattle.std.proofs.lemmas.List.{length-append}
use Rattle.cstn_net.specs.declared.constraints.Constraint.{Constraint}
use Rattle.cstn_lift.specs.Read.{the_labelled}
use Rattle.cstn_history.specs.Read.{the_history}
use Rattle.cstn_history.proofs.Points.{kept_turn}
use Rattle.cstn_history.proofs.rests.kept.Goals as goal

one_more : (d : Option Constraint) → length (cons_option d []) ≤ 1
one_more None = omega arith
one_more (Some c) = omega arith

pub loop-c-preserved : goal.loop-c-preserved
loop-c-preserved c =
    let m = the_labelled c.args.network.now in
    let h = the_history c.args.history.now in
    let cs = c.args.network.now.base.constraints in
    let i = c.loop-c.c-index in
    let item = c.c-item.result in
    let given = c.constraints-c-items.ensures.constraints ∙ ap (λ b. b.constraints) c.base.ensures.base in
    let inside = subst (λ xs. i < length xs) given c.loop-c-test.true in
    let is = subst (λ xs. item ≡ slice_index_or xs i item) given c.c-item.is in
    let kept = c.loop-c.kept.items in
    let d = c.constraint_left.result in
    let few = c.loop-c.invariant.few in
    let long = ap length c.in_ok-push_some.ensures ∙ length-append kept (cons_option d []) in
    let more = one_more d in
    record {
      kept = kept_turn m h cs kept c.push_some.new.kept.items i item d inside is c.loop-c.invariant.kept c.constraint_left.ensures c.in_ok-push_some.ensures;
      few = omega arith;
    }
