-- The constraints of the lowered network.
use Rattle.std.proofs.Common.{ℕ, ◌≡◌, ◌⊎◌, inl, inr, ◌<◌, ◌≤◌, Bool, true, false, Option, Some, None, arith, refl, sym, subst, ap, ◌∙◌, ◌++◌}
use Rattle.std.specs.Prelude.{map, slice_index_or, if◌then◌else◌, option_map, ℤ, pos, ◌-ℤ◌}
use Rattle.std.specs.List.{All, Contains, range_with_len}
use Rattle.std.proofs.lemmas.Bool.{cases_lt, cases_Bool, eq-eqb}
use Rattle.std.proofs.lemmas.List.{get_or-map}
use Rattle.std.proofs.lemmas.List.Elements.{All-append, All-contains, All-contains_itself, All-weaker, Contains-append_left, Contains-append_right}
use Rattle.std.proofs.lemmas.List.Quantifiers.{position-Some}
use Rattle.std.proofs.lemmas.List.Sums.{list_all-from_AllPass, AllPass-from_list_all}
use Rattle.cstn_facts.proofs.Members.{filter_map_contains, flat_map_contains, filter_map_all, flat_map_all}
use Rattle.cstn_facts.proofs.Ranges.{range_contains, range_all}
use Rattle.cstn_facts.proofs.Filters.{position_at}
use Rattle.cstn_label.specs.declared.marks.Mark.TheVariants.{Absent}
use Rattle.cstn_label.specs.Labels.{Label, IsMarked, IsMarkPlain, IsPlain, empty}
use Rattle.cstn_label.specs.Marks.{is_marked, is_mark_plain}
use Rattle.cstn_net.specs.Networks.{Network, IsNetwork, Constraint, Observes, count, is_prop}
use Rattle.cstn_net.proofs.Knowledge.{observer_within}
use Rattle.cstn_lift.specs.Labelled.{Labelled, label_in}
use Rattle.cstn_lift.specs.Completion.{completed, completed_label, full_label}
use Rattle.cstn_lift.specs.WellFormed.{IsLabelled}
use Rattle.cstn_lift.specs.Lowered.{is_plain, observer_of, with_full_label, full_constraints, guard, guards_of, guards_with, guards, lowered}
use Rattle.cstn_lift.proofs.ListLemmas.{numbered_contains, numbered_all}
use Rattle.cstn_label.proofs.PlainLabels.{mark_plain_true, true_mark_plain}
use Rattle.cstn_net.proofs.Observed.{prop_true}
use Rattle.cstn_label.proofs.MarkLemmas.{marked_true, true_marked}

pub plain_true : (a : Label) → IsPlain a → is_plain a ≡ true
unfolding is_plain
plain_true a h = list_all-from_AllPass (λ p. is_mark_plain (a p)) (range_with_len 0 52)
    (range_all (λ p. is_mark_plain (a p) ≡ true) 0 52 (λ p low high. mark_plain_true (a p) (h p)))

pub plain_back : (a : Label) → ((p : ℕ) → 52 ≤ p → a p ≡ Absent) → is_plain a ≡ true → IsPlain a
unfolding is_plain
plain_back a above h p = elim (cases_lt p 52) [
  | inl inside ↦ true_mark_plain (a p) (All-contains (λ q. is_mark_plain (a q) ≡ true) (range_with_len 0 52) p
      (AllPass-from_list_all (λ q. is_mark_plain (a q)) (range_with_len 0 52) h) (range_contains 52 p inside))
  | inr past ↦ subst IsMarkPlain (sym (above p past)) tt
]

-- the time-point that is found for a proposition is its observer
pub observer_found : (net : Network) → IsNetwork net → (j p : ℕ) → Observes net j p → observer_of net p ≡ Some j
observer_found net good j p o =
    position_at (is_prop p) net.observes j None (observer_within net j p o)
    (λ k before. elim (cases_Bool (is_prop p (slice_index_or net.observes k None))) [
      | inr other ↦ other
      | inl found ↦
          let same = good.one_observer k j p (record { what = prop_true p (slice_index_or net.observes k None) found }) o in
          absurd (omega arith)
    ])
    (ap (is_prop p) o.what ∙ eq-eqb p p refl)

pub observer_back : (net : Network) (j p : ℕ) → observer_of net p ≡ Some j → Observes net j p
observer_back net j p e =
    let at = position-Some (is_prop p) net.observes j None e in
    record { what = prop_true p (slice_index_or net.observes j None) at.1 }

some_or_none : (o : Option ℕ) → ((j : ℕ) × (o ≡ Some j)) ⊎ (o ≡ None)
some_or_none None = inr refl
some_or_none (Some j) = inl (j, refl)

pub observer_none : (net : Network) (p : ℕ) → ((x : ℕ) → Observes net x p → ⊥) → observer_of net p ≡ None
observer_none net p none = elim (some_or_none (observer_of net p)) [
  | inr absent ↦ absent
  | inl found ↦ absurd (none found.0 (observer_back net found.0 p found.1))
]

-- a constraint between x and y with this value and label
pub record IsBetween (c : Constraint) (x y : ℕ) (most : ℤ) (label : Label) : Type 0 where
  pub from : c.from ≡ x
  pub to : c.to ≡ y
  pub value : c.most ≡ most
  pub marks : c.label ≡ label

-- by the constraint, x comes the reaction of p or more after the observer j of p, which the completed label of x marks
pub record IsGuard (m : Labelled) (c : Constraint) (x j p : ℕ) : Type 0 where
  pub here : x < count m.base
  pub observes : Observes m.base j p
  pub marked : IsMarked (completed_label m x) p
  pub between : IsBetween c x j (pos 0 -ℤ pos (m.base.reaction p)) (completed_label m x)

-- a constraint of the lowered network is one of the network with its full label, or a guard
abbrev pub IsOfLowered : Labelled → Constraint → Type 0
IsOfLowered m d =
    ((c : Constraint) × Contains m.base.constraints c × (is_plain (full_label m c) ≡ true) × IsBetween d c.from c.to c.most (full_label m c))
    ⊎ ((x : ℕ) × (j : ℕ) × (p : ℕ) × IsGuard m d x j p)

module _ (m : Labelled) (good : IsLabelled m) where
  -- the label at the place x of the completed labels is the completed label of x
  pub completed_at : (x : ℕ) → x < count m.base → label_in (map (completed m) m.labels) x ≡ completed_label m x
  completed_at x inside = let long = good.one_each in get_or-map (completed m) m.labels x empty empty (omega arith)

  pub forced : (c : Constraint) → Contains m.base.constraints c → IsPlain (full_label m c) →
      (d : Constraint) × Contains (lowered m).constraints d × IsBetween d c.from c.to c.most (full_label m c)
  forced c has plain =
      let given : with_full_label m c ≡ Some (record c { label = full_label m c }) =
      ap (λ b. if b then Some (record c { label = full_label m c }) else None) (plain_true (full_label m c) plain) in
      let among = Contains-append_left (full_constraints m) (guards m) (record c { label = full_label m c })
      (filter_map_contains (with_full_label m) m.base.constraints c (record c { label = full_label m c }) has given) in
      let there = numbered_contains 0 (full_constraints m ++ guards m) (record c { label = full_label m c }) among in
      (record c { id = there.0; label = full_label m c }, there.1, record { from = refl; to = refl; value = refl; marks = refl })

  pub guard_is : (x j p : ℕ) (a : Label) → Observes m.base j p → IsMarked a p →
      guard m.base x a p ≡ Some (record { id = 0; from = x; to = j; most = pos 0 -ℤ pos (m.base.reaction p); label = a })
  guard_is x j p a o marked = rw (marked_true (a p) marked, observer_found m.base good.base.network j p o) refl

  pub guarded : (x j p : ℕ) → x < count m.base → Observes m.base j p → IsMarked (completed_label m x) p →
      (d : Constraint) × Contains (lowered m).constraints d × IsGuard m d x j p
  unfolding guards_of
  guarded x j p here o marked =
      let a = label_in (map (completed m) m.labels) x in
      let same : a ≡ completed_label m x = completed_at x here in
      let c : Constraint = record { id = 0; from = x; to = j; most = pos 0 -ℤ pos (m.base.reaction p); label = a } in
      let marked_a : IsMarked a p = subst (λ l. IsMarked l p) (sym same) marked in
      let own = filter_map_contains (guard m.base x a) (range_with_len 0 52) p c (range_contains 52 p (good.base.letters j p o)) (guard_is x j p a o marked_a) in
      let among = Contains-append_right (full_constraints m) (guards m) c
      (flat_map_contains (guards_with m.base (map (completed m) m.labels)) (range_with_len 0 (count m.base)) x c (range_contains (count m.base) x here) own) in
      let there = numbered_contains 0 (full_constraints m ++ guards m) c among in
      (record c { id = there.0 }, there.1, record { here = here; observes = o; marked = marked; between = record { from = refl; to = refl; value = refl; marks = same } })

  full_only : All (λ d. (id : ℕ) → IsOfLowered m (record d { id = id })) (full_constraints m)
  full_only = filter_map_all (λ d. (id : ℕ) → IsOfLowered m (record d { id = id })) (with_full_label m) m.base.constraints
      (All-weaker (Contains m.base.constraints) (λ c. (d : Constraint) → with_full_label m c ≡ Some d → (id : ℕ) → IsOfLowered m (record d { id = id }))
      (λ c has d is id. of_given c has d (is_plain (full_label m c)) refl is id) m.base.constraints (All-contains_itself m.base.constraints))
    where
      of_given : (c : Constraint) → Contains m.base.constraints c → (d : Constraint) (b : Bool) → is_plain (full_label m c) ≡ b →
          (if b then Some (record c { label = full_label m c }) else None) ≡ Some d → (id : ℕ) → IsOfLowered m (record d { id = id })
      of_given c has d false e is id = absurd (cc)
      of_given c has d true e is id =
          let same : record c { label = full_label m c } ≡ d = cc in
          subst (λ f. IsOfLowered m (record f { id = id })) same
          (inl (c, has, e, record { from = refl; to = refl; value = refl; marks = refl }))

  of_guard : (x p : ℕ) → x < count m.base → (a : Label) → a ≡ completed_label m x → (d : Constraint) (b : Bool) → is_marked (a p) ≡ b →
      (o : Option ℕ) → observer_of m.base p ≡ o →
      (if b then option_map (λ j. record { id = 0; from = x; to = j; most = pos 0 -ℤ pos (m.base.reaction p); label = a }) o else None) ≡ Some d →
      (id : ℕ) → IsOfLowered m (record d { id = id })
  of_guard x p here a whole d false e o f is id = absurd (cc)
  of_guard x p here a whole d true e None f is id = absurd (cc)
  of_guard x p here a whole d true e (Some j) f is id =
      let c : Constraint = record { id = 0; from = x; to = j; most = pos 0 -ℤ pos (m.base.reaction p); label = a } in
      let same : c ≡ d = cc in
      subst (λ g. IsOfLowered m (record g { id = id })) same (inr (
        x,
        j,
        p,
        record {
          here = here;
          observes = observer_back m.base j p f;
          marked = subst (λ l. IsMarked l p) whole (true_marked (a p) e);
          between = record { from = refl; to = refl; value = refl; marks = whole };
        },
      ))

  guards_only : All (λ d. (id : ℕ) → IsOfLowered m (record d { id = id })) (guards m)
  unfolding guards_of
  guards_only =
      let own = map (completed m) m.labels in
      let P : Constraint → Type 0 = λ d. (id : ℕ) → IsOfLowered m (record d { id = id }) in
      flat_map_all P (guards_with m.base own) (range_with_len 0 (count m.base))
      (range_all (λ x. All P (guards_with m.base own x)) 0 (count m.base) (λ x low here.
      filter_map_all P (guard m.base x (label_in own x)) (range_with_len 0 52)
      (range_all (λ p. (d : Constraint) → guard m.base x (label_in own x) p ≡ Some d → P d) 0 52 (λ p low_p high_p d is.
      let inside : x < count m.base = omega arith in
      of_guard x p inside (label_in own x) (completed_at x inside) d (is_marked (label_in own x p)) refl (observer_of m.base p) refl is))))

  pub only : (d : Constraint) → Contains (lowered m).constraints d → IsOfLowered m d
  only d = All-contains (IsOfLowered m) (lowered m).constraints d
      (numbered_all (IsOfLowered m) 0 (full_constraints m ++ guards m)
      (All-append (λ d. (id : ℕ) → IsOfLowered m (record d { id = id })) (full_constraints m) (guards m) full_only guards_only))
