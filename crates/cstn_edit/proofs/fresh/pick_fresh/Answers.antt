use Rattle.std.proofs.Common.{ℕ, ◌≡◌, ◌∷◌, ◌++◌, [], List, Some, get_or, arith, refl, sym, subst, ap, ◌∙◌, length-append}
use Rattle.std.specs.Prelude.{slice_get}
use Rattle.std.proofs.lemmas.List.{length-map, take_all}
use Rattle.std.proofs.lemmas.Option.{slice_get-map, slice_get-get_or}
use Rattle.cstn_net.specs.declared.constraints.Constraint.{Constraint}
use Rattle.cstn_edit.specs.Fresh.{constraint_ids, fresh_with}
use Rattle.cstn_edit.proofs.FreshLemmas.{picked_step}
use Rattle.cstn_edit.proofs.fresh.pick_fresh.Goals.{then-is_picked, else-is_picked}
use Rattle.cstn_edit.proofs.fresh.pick_fresh.Goals as goal

pub unwrap-requires : goal.unwrap-requires
unwrap-requires c =
    c.push.ensures.succeeds (omega (arith, c.loop-k.invariant.short, c.loop-k.invariant.room, c.loop-k.invariant.end, c.loop-k-test.true, c.requires.room, c.loop-k.list.ok))

pub loop-k-preserved : goal.loop-k-preserved
loop-k-preserved c =
    let was = c.loop-k.invariant in
    let k = c.loop-k.k in
    let cs = c.constraints-constraints.result.now in
    let ids = constraint_ids c.args.net.now.constraints in
    let x = get_or cs k c.index-constraints-k.result in
    let read : slice_get (constraint_ids cs) k ≡ Some x.id = slice_get-map (λ (d : Constraint). d.id) cs k ∙ rw (slice_get-get_or cs k c.index-constraints-k.result c.loop-k-test.true) refl in
    let there : slice_get ids k ≡ Some x.id = subst (λ (ds : List Constraint). slice_get (constraint_ids ds) k ≡ Some x.id) c.constraints-constraints.ensures.constraints read in
    let step = picked_step c.args.id c.args.fresh.now ids k x.id there in
    elim c.if-is_picked.branch [
      | then-is_picked w ↦
          let put = rw w.unwrap.ensures at w.push.ensures.items in
          let picked = sym c.is_picked.ensures ∙ w.if-is_picked.true in
          record {
            end = was.end;
            picked = rw (w.list-is, put) (ap (λ (ys : List ℕ). ys ++ x.id ∷ []) was.picked ∙ sym (step.0 picked));
            short = rw (w.list-is, put) (omega (arith, length-append c.loop-k.list.items (x.id ∷ []), was.short));
            room = rw w.list-is (omega (arith, w.push.ensures.capacity, w.push.ensures.lower_bound, was.room));
          }
      | else-is_picked w ↦
          let left = sym c.is_picked.ensures ∙ w.if-is_picked.false in
          record {
            end = was.end;
            picked = rw w.list-is (was.picked ∙ sym (step.1 left));
            short = rw w.list-is (omega (arith, was.short));
            room = rw w.list-is was.room;
          }
    ]

pub returns-clause-picked : goal.returns-clause-picked
returns-clause-picked c =
    let ids = constraint_ids c.args.net.now.constraints in
    c.loop-k.invariant.picked
    ∙ ap (fresh_with c.args.id c.args.fresh.now) (take_all c.loop-k.k ids (omega (arith, c.loop-k-test.false, c.loop-k.invariant.end, length-map c.args.net.now.constraints (λ (d : Constraint). d.id))))
