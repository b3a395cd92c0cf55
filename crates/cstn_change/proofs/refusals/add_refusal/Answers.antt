use Rattle.std.proofs.Common.{ℕ, ◌≡◌, ◌<◌, w32, List, length, map, Some, None, refl, ap, arith, sym, subst, ◌∙◌}
use Rattle.std.proofs.lemmas.Bool.{false≢true}
use Rattle.std.proofs.lemmas.Int.{to_z-of_z}
use Rattle.std.proofs.lemmas.List.{length-map}
use Rattle.cstn_label.specs.declared.props.Prop.{Prop}
use Rattle.cstn_label.specs.Read.{marks}
use Rattle.cstn_net.specs.declared.constraints.Constraint.{Constraint}
use Rattle.cstn_net.specs.Networks.{IsValue, IsLeastUnobserved}
use Rattle.cstn_net.specs.Read.{the_network, the_constraint}
use Rattle.cstn_change.specs.Changes.{ValueRange}
use Rattle.cstn_change.specs.declared.errors.EditError.TheVariants.{NotObserved}
use Rattle.cstn_label.proofs.PlainLabels.{plain_true}
use Rattle.cstn_change.proofs.RefusalLemmas.{add_out_of_range, add_not_plain, add_by_observed, value_true, value_false, plain_false, least_first, none_first}
use Rattle.cstn_change.proofs.RefusalLemmas.{least_prop}
use Rattle.cstn_change.proofs.refusals.add_refusal.Goals as goal

-- there is room for one more among the constraints of the definition
in_room : (cs ds : List Constraint) (room : ℕ) → cs ≡ ds → length cs < room → length (map the_constraint ds) < room
in_room cs ds room same short = omega (arith, short, ap length same, length-map ds the_constraint)

pub returns-then-not-is_value-clause-refusal : goal.returns-then-not-is_value-clause-refusal
returns-then-not-is_value-clause-refusal c = λ fresh x y.
    let same = to_z-of_z w32 c.args.most c.ranges.most in
    ap (λ z. Some (ValueRange z)) same
    ∙ add_out_of_range (the_network c.args.net.now) c.args.edits c.args.room fresh x y c.args.most (marks c.args.label) c.if-edits-ge-MAX_EDITS.false
    (in_room c.constraints.result.now c.args.net.now.constraints c.args.room c.constraints.ensures.constraints c.if-constraints-room.false)
    (value_false c.args.most (λ value. false≢true (sym c.if-not-is_value.true ∙ c.is_value.ensures.1 (subst IsValue (sym same) value))))

pub returns-then-not-is_plain-clause-refusal : goal.returns-then-not-is_plain-clause-refusal
returns-then-not-is_plain-clause-refusal c = λ fresh x y.
    let a = marks c.args.label in
    add_not_plain (the_network c.args.net.now) c.args.edits c.args.room fresh x y c.args.most a c.if-edits-ge-MAX_EDITS.false
    (in_room c.constraints.result.now c.args.net.now.constraints c.args.room c.constraints.ensures.constraints c.if-constraints-room.false)
    (value_true c.args.most (subst IsValue (to_z-of_z w32 c.args.most c.ranges.most) (c.if-not-is_value.ensures.0 refl)))
    (plain_false a (c.labels_are_their_marks.ensures.above c.args.label) (λ plain. false≢true (sym c.if-not-is_plain.true ∙ c.is_plain.ensures.plain.1 plain)))

pub returns-in-Some-clause-observed : goal.returns-in-Some-clause-observed
returns-in-Some-clause-observed c p =
    let least = c.in-Some.ensures in
    let short : length c.args.net.now.constraints < c.args.room =
    subst (λ (cs : List Constraint). length cs < c.args.room) c.constraints.ensures.constraints c.if-constraints-room.false in
    let value = subst IsValue (to_z-of_z w32 c.args.most c.ranges.most) (c.if-not-is_value.ensures.0 refl) in (
      λ e.
          let same : c.in-Some.prop ≡ p = cc in (
            c.if-edits-ge-MAX_EDITS.false,
            short,
            value,
            c.if-not-is_plain.ensures.plain.0 refl,
            subst (λ (q : Prop). IsLeastUnobserved (the_network c.args.net.now) (marks c.args.label) q.index) same least,
          ),
      λ h. ap (λ q. Some (NotObserved q)) (least_prop (the_network c.args.net.now) (marks c.args.label) c.in-Some.prop p least h.4),
    )

pub returns-in-Some-clause-refusal : goal.returns-in-Some-clause-refusal
returns-in-Some-clause-refusal c = λ fresh x y.
    let net = the_network c.args.net.now in
    let a = marks c.args.label in
    let p = c.in-Some.prop in
    add_by_observed net c.args.edits c.args.room fresh x y c.args.most a (Some p.index) c.if-edits-ge-MAX_EDITS.false
    (in_room c.constraints.result.now c.args.net.now.constraints c.args.room c.constraints.ensures.constraints c.if-constraints-room.false)
    (value_true c.args.most (subst IsValue (to_z-of_z w32 c.args.most c.ranges.most) (c.if-not-is_value.ensures.0 refl)))
    (plain_true a (c.if-not-is_plain.ensures.plain.0 refl)) (least_first net a p.index p.in_range c.in-Some.ensures)

pub returns-in-None-clause-refusal : goal.returns-in-None-clause-refusal
returns-in-None-clause-refusal c = λ fresh x y.
    let net = the_network c.args.net.now in
    let a = marks c.args.label in
    add_by_observed net c.args.edits c.args.room fresh x y c.args.most a None c.if-edits-ge-MAX_EDITS.false
    (in_room c.constraints.result.now c.args.net.now.constraints c.args.room c.constraints.ensures.constraints c.if-constraints-room.false)
    (value_true c.args.most (subst IsValue (to_z-of_z w32 c.args.most c.ranges.most) (c.if-not-is_value.ensures.0 refl)))
    (plain_true a (c.if-not-is_plain.ensures.plain.0 refl)) (none_first net a c.in-None.ensures)
