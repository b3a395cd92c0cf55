-- The lowered network is well-formed where it has no more than 16,384 constraints.
use Rattle.std.proofs.Common.{ℕ, ◌≡◌, inl, inr, ◌≤◌, length, arith, sym, subst, ◌++◌}
use Rattle.std.specs.Prelude.{pos, ◌-ℤ◌}
use Rattle.std.specs.List.{Contains}
use Rattle.std.proofs.lemmas.Int.{ints}
use Rattle.std.proofs.lemmas.List.Elements.{All-contains, All-contains_itself, All-weaker}
use Rattle.cstn_label.specs.declared.marks.Mark.TheVariants.{Absent}
use Rattle.cstn_label.specs.Labels.{Label, IsPlain}
use Rattle.cstn_label.proofs.MarkLemmas.{absent_or_not}
use Rattle.cstn_net.specs.Limits.{most_constraints}
use Rattle.cstn_net.specs.Networks.{Constraint, IsConstraint, IsOnObserved, IsValue, IsWellFormed}
use Rattle.cstn_net.proofs.Knowledge.{observer_within}
use Rattle.cstn_lift.specs.Labelled.{Labelled}
use Rattle.cstn_lift.specs.Completion.{completed_label, full_label}
use Rattle.cstn_lift.specs.WellFormed.{IsLabelled}
use Rattle.cstn_lift.specs.Lowered.{full_constraints, guards, lowered}
use Rattle.cstn_lift.proofs.FullLemmas.{full_plain, full_on}
use Rattle.cstn_lift.proofs.ListLemmas.{numbered_ascending}
use Rattle.cstn_lift.proofs.LoweredLemmas.{IsOfLowered, only, plain_back}
use Rattle.cstn_lift.proofs.Equivalent.{full_observed}

module _ (m : Labelled) (good : IsLabelled m) where
  -- a label that names only observed propositions marks none with a number above 51
  pub above : (a : Label) → IsOnObserved m.base a → (p : ℕ) → 52 ≤ p → a p ≡ Absent
  above a on p past = elim (absent_or_not (a p)) [
    | inl gone ↦ gone
    | inr marked ↦ let o = on p marked in let letter = good.base.letters o.0 p o.1 in absurd (omega arith)
  ]

  observed_there : (a b : Label) → a ≡ b → IsOnObserved m.base b → IsOnObserved (lowered m) a
  observed_there a b same on p marked =
      let o = on p (subst (λ l. l p ≡ Absent → ⊥) same marked) in
      (o.0, record { what = o.1.what })

  constraint_there : (d : Constraint) → IsOfLowered m d → IsConstraint (lowered m) d
  constraint_there d (inl f) =
      let c = f.0 in
      let own = All-contains (IsConstraint m.base) m.base.constraints c good.base.network.constraints f.1 in
      let full = full_label m c in
      let on = full_observed m good c f.1 in
      let from = own.from in
      let to = own.to in
      let from_is = f.3.from in
      let to_is = f.3.to in
      record {
        from = omega arith;
        to = omega arith;
        plain = subst IsPlain (sym f.3.marks) (plain_back full (above full on) f.2);
        observed = observed_there d.label full f.3.marks on;
      }
  constraint_there d (inr g) =
      let x = g.0 in
      let b = g.3.between in
      let inside = g.3.here in
      let other = observer_within m.base g.1 g.2 g.3.observes in
      let from_is = b.from in
      let to_is = b.to in
      record {
        from = omega arith;
        to = omega arith;
        plain = subst IsPlain (sym b.marks) (full_plain m good x);
        observed = observed_there d.label (completed_label m x) b.marks (full_on m good x);
      }

  pub plain_and_observed : (d : Constraint) → IsOfLowered m d → IsPlain d.label × IsOnObserved m.base d.label
  plain_and_observed d of =
      let there = constraint_there d of in
      (there.plain, λ p marked. let o = there.observed p marked in (o.0, record { what = o.1.what }))

  value_there : (d : Constraint) → IsOfLowered m d → IsValue d.most
  value_there d (inl f) =
      let c = f.0 in
      subst IsValue (sym f.3.value) (All-contains (λ c. IsValue c.most) m.base.constraints c good.base.values f.1)
  value_there d (inr g) =
      let soon = good.base.soon g.1 g.2 g.3.observes in
      let range : IsValue (pos 0 -ℤ pos (m.base.reaction g.2)) = (omega (arith, ints), omega (arith, ints)) in
      subst IsValue (sym g.3.between.value) range

  pub lowered_well_formed : length (lowered m).constraints ≤ most_constraints → IsWellFormed (lowered m)
  lowered_well_formed few =
      let cs = (lowered m).constraints in
      record {
        network = record {
          origin = good.base.network.origin;
          one_observer = λ x y p o q. good.base.network.one_observer x y p (record { what = o.what }) (record { what = q.what });
          reacts = λ x p o. good.base.network.reacts x p (record { what = o.what });
          constraints = All-weaker (Contains cs) (IsConstraint (lowered m)) (λ d has. constraint_there d (only m good d has)) cs (All-contains_itself cs);
        };
        few_points = good.base.few_points;
        letters = λ x p o. good.base.letters x p (record { what = o.what });
        soon = λ x p o. good.base.soon x p (record { what = o.what });
        few_constraints = few;
        ascending = (numbered_ascending 0 (full_constraints m ++ guards m)).1;
        values = All-weaker (Contains cs) (λ d. IsValue d.most) (λ d has. value_there d (only m good d has)) cs (All-contains_itself cs);
        in_time = good.base.in_time;
      }
