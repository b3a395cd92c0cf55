use Rattle.std.proofs.Common.{◌<◌, List, Some, length, get_or, refl, sym, subst, ap, ◌∙◌}
use Rattle.std.specs.Prelude.{ℤ}
use Rattle.std.specs.Int.{w32}
use Rattle.std.proofs.lemmas.Int.{to_z-of_z}
use Rattle.cstn_net.specs.declared.constraints.Constraint.{Constraint}
use Rattle.cstn_net.proofs.Values.{value_fits}
use Rattle.cstn_follow.proofs.ValueAt.{nowhere, value_at}
use Rattle.cstn_follow.proofs.raises.value_of.Goals as goal

pub returns-in_default : goal.returns-in_default
returns-in_default c =
    let none = rw c.in_default.is at c.place_of.ensures.none in
    record { value = sym (nowhere c.args.id c.args.network.now.constraints (none.0 refl)) }

pub returns : goal.returns
returns c =
    let cs = c.args.network.now.constraints in
    let place = c.in-Some.place in
    let d = c.index-constraints-place.result in
    let here = rw c.in-Some.is at c.place_of.ensures.place in
    let same = c.constraints.ensures.constraints in
    let inside = subst (λ (l : List Constraint). place < length l) (sym same) here.0 in
    let fits = value_fits (get_or c.constraints.result.now place d).most (c.constraints.ensures.ranges place d inside).value in
    record {
      value = ap (λ (z : ℤ). Some z) (to_z-of_z w32 (get_or c.constraints.result.now place d).most fits)
          ∙ ap (λ (l : List Constraint). Some (get_or l place d).most) same
          ∙ sym (value_at c.args.id cs place d c.constraints.ensures.well_formed.ascending here.0 (here.1 d));
    }
