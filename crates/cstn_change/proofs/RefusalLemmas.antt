-- Why changes are refused, by the definition.
use Rattle.std.proofs.Common.{ℕ, zero, suc, ◌≡◌, ◌+◌, ◌<◌, ◌≤◌, inl, inr, Bool, true, false, not, ◌&&◌, List, [], ◌∷◌, length, get_or, Option, Some, None}
use Rattle.std.proofs.Common.{arith, refl, sym, ap, ◌∙◌}
use Rattle.std.specs.Prelude.{ℤ, nat_le, if◌then◌else◌}
use Rattle.std.specs.List.{list_any, position, range_with_len}
use Rattle.std.specs.Option.{option_map}
use Rattle.std.proofs.lemmas.Bool.{cases_Bool, cases_lt, lt-leb, le-leb, cond-true, cond-false, false≢true, eq-eqb, and_from, and_parts, or_left, or_right}
use Rattle.std.proofs.lemmas.Bool.{not_from_true, not_from_false, false_from_ne_true}
use Rattle.std.proofs.lemmas.Int.{ints}
use Rattle.std.proofs.lemmas.Option.{none-some}
use Rattle.std.proofs.lemmas.List.FromFn.{get_or-range_with_len, length-range_with_len}
use Rattle.std.proofs.lemmas.List.Quantifiers.{position-Some}
use Rattle.cstn_label.specs.declared.marks.Mark.{Mark}
use Rattle.cstn_label.specs.declared.marks.Mark.TheVariants.{Absent}
use Rattle.cstn_label.specs.declared.props.Prop.{Prop}
use Rattle.cstn_label.specs.Labels.{Label, IsPlain}
use Rattle.cstn_label.specs.Marks.{is_absent, is_plain}
use Rattle.cstn_label.specs.OnLetters.{IsOnLetters}
use Rattle.cstn_label.proofs.PlainLabels.{true_plain}
use Rattle.cstn_net.specs.Limits.{most_edits}
use Rattle.cstn_net.specs.Networks.{Network, IsOnObserved, IsValue, is_prop, IsUnobserved, IsLeastUnobserved}
use Rattle.cstn_net.specs.Scenarios.{is_observed}
use Rattle.cstn_net.proofs.Observed.{place_of}
use Rattle.cstn_net.proofs.Same.{same_prop}
use Rattle.cstn_facts.proofs.Filters.{none_passes, position_at}
use Rattle.cstn_facts.proofs.Options.{none_where}
use Rattle.cstn_change.specs.Changes.{EditedNetwork, adds, removes, revalues, ChangeRefusal, EditLimit, NoRoom, NoSuch, ValueRange, NotPlain, NotObserved, is_value}
use Rattle.cstn_change.specs.Changes.{least_unobserved, has_constraint, refusal}

-- the test of the value passes exactly where it is in range
pub true_value : (most : ℤ) → is_value most ≡ true → IsValue most
true_value most e = grind (arith, ints)

pub value_true : (most : ℤ) → IsValue most → is_value most ≡ true
value_true most h = grind (arith, ints)

pub value_false : (most : ℤ) → (IsValue most → ⊥) → is_value most ≡ false
value_false most out = false_from_ne_true (is_value most) (λ t. out (true_value most t))

-- the test of the label passes exactly where it is plain
pub plain_false : (a : Label) → IsOnLetters a → (IsPlain a → ⊥) → is_plain a ≡ false
plain_false a small odd = false_from_ne_true (is_plain a) (λ t. odd (true_plain a small t))

-- the test of the observers passes exactly where a time-point observes the proposition
observed_true : (os : List (Option ℕ)) (x p : ℕ) → get_or os x None ≡ Some p → list_any (is_prop p) os ≡ true
observed_true [] x p e = absurd (none-some p e)
observed_true (o ∷ os) zero p e =
    or_left (is_prop p o) (list_any (is_prop p) os) (ap (is_prop p) e ∙ eq-eqb p p refl)
observed_true (o ∷ os) (suc x) p e = or_right (is_prop p o) (list_any (is_prop p) os) (observed_true os x p e)

pub none_mapped : {X Y : Type 0} (f : X → Y) (o : Option X) → option_map f o ≡ None → o ≡ None
none_mapped f None e = refl
none_mapped f (Some x) e = cc

named_true : (m : Mark) → (m ≡ Absent → ⊥) → not (is_absent m) ≡ true
named_true m named = grind arith

true_named : (m : Mark) → not (is_absent m) ≡ true → m ≡ Absent → ⊥
true_named m e is = grind arith

module _ (net : Network) (a : Label) where
  -- the label names the proposition, which nothing observes
  is_stray : ℕ → Bool
  is_stray p = not (is_absent (a p)) && not (is_observed net p)

  stray_true : (p : ℕ) → IsUnobserved net a p → is_stray p ≡ true
  unfolding is_stray
  stray_true p u =
      and_from (not (is_absent (a p))) (not (is_observed net p)) (named_true (a p) u.0)
      (not_from_false (is_observed net p) (false_from_ne_true (is_observed net p)
      (λ t. let o = place_of net.observes p t in u.1 o.0 (record { what = o.1 }))))

  true_stray : (p : ℕ) → is_stray p ≡ true → IsUnobserved net a p
  unfolding is_stray
  true_stray p e =
      let both = and_parts (not (is_absent (a p))) (not (is_observed net p)) e in (
        true_named (a p) both.0,
        λ x o. false≢true (sym (not_from_true (is_observed net p) (observed_true net.observes x p o.what)) ∙ both.1),
      )

  stray_at : (p : ℕ) (b : Bool) → p < 52 → is_stray p ≡ b → is_stray (get_or (range_with_len 0 52) p 0) ≡ b
  stray_at p b small e =
      let at : get_or (range_with_len 0 52) p 0 ≡ p = get_or-range_with_len 0 52 p 0 small ∙ (let same : 0 + p ≡ p = omega arith in same) in
      ap is_stray at ∙ e

  is_first : least_unobserved net a ≡ position is_stray (range_with_len 0 52)
  unfolding is_stray least_unobserved
  is_first = refl

  -- the least proposition that the label names and nothing observes is the one found
  pub least_first : (p : ℕ) → p < 52 → IsLeastUnobserved net a p → least_unobserved net a ≡ Some p
  least_first p small least =
      is_first ∙ position_at is_stray (range_with_len 0 52) p 0 (omega (arith, length-range_with_len 0 52))
      (λ q before. stray_at q false (omega arith)
      (false_from_ne_true (is_stray q) (λ t. least.1 q before (true_stray q t))))
      (stray_at p true small (stray_true p least.0))

  -- none is found where the label names observed propositions alone
  pub none_first : IsOnObserved net a → least_unobserved net a ≡ None
  none_first on = is_first ∙ none_where (position is_stray (range_with_len 0 52)) (λ k e.
      let found = position-Some is_stray (range_with_len 0 52) k 0 e in
      let u = true_stray (get_or (range_with_len 0 52) k 0) found.1 in
      let o = on (get_or (range_with_len 0 52) k 0) u.0 in
      u.1 o.0 o.1)

  pub on_observed : IsOnLetters a → least_unobserved net a ≡ None → IsOnObserved net a
  on_observed small none p named = elim (cases_Bool (is_observed net p)) [
    | inl t ↦ let o = place_of net.observes p t in (o.0, record { what = o.1 })
    | inr f ↦
        let u : IsUnobserved net a p = (named, λ x o. false≢true (sym f ∙ observed_true net.observes x p o.what)) in
        elim (cases_lt p 52) [
          | inr above ↦ absurd (named (small p above))
          | inl below ↦
              let stands = none_passes is_stray (range_with_len 0 52) (sym is_first ∙ none) p 0 (omega (arith, length-range_with_len 0 52)) in
              absurd (false≢true (sym stands ∙ stray_at p true below (stray_true p u)))
        ]
  ]

-- ---- the first reason that applies, of an addition

module _ (net : Network) (edits room fresh x y : ℕ) (most : ℤ) (a : Label) where
  abbrev why : Option ChangeRefusal
  why = refusal room (record { net = net; fresh = fresh; edits = edits }) (adds x y most a)

  pub add_at_limit : most_edits ≤ edits → Some EditLimit ≡ why
  add_at_limit many = sym (cond-true _ _ _ (le-leb most_edits edits many))

  below_limit : edits < most_edits → why
      ≡ (if nat_le room (length net.constraints) then Some (NoRoom room)
      else if not (is_value most) then Some (ValueRange most)
      else if not (is_plain a) then Some NotPlain else option_map NotObserved (least_unobserved net a))
  below_limit few = cond-false _ _ _ (lt-leb most_edits edits few)

  pub add_no_room : edits < most_edits → room ≤ length net.constraints → Some (NoRoom room) ≡ why
  add_no_room few full = sym (below_limit few ∙ cond-true _ _ _ (le-leb room (length net.constraints) full))

  in_room : edits < most_edits → length net.constraints < room → why
      ≡ (if not (is_value most) then Some (ValueRange most)
      else if not (is_plain a) then Some NotPlain else option_map NotObserved (least_unobserved net a))
  in_room few short = below_limit few ∙ cond-false _ _ _ (lt-leb room (length net.constraints) short)

  pub add_out_of_range : edits < most_edits → length net.constraints < room → is_value most ≡ false → Some (ValueRange most) ≡ why
  add_out_of_range few short out = sym (in_room few short ∙ cond-true _ _ _ (ap not out))

  in_range : edits < most_edits → length net.constraints < room → is_value most ≡ true → why
      ≡ (if not (is_plain a) then Some NotPlain else option_map NotObserved (least_unobserved net a))
  in_range few short value = in_room few short ∙ cond-false _ _ _ (ap not value)

  pub add_not_plain : edits < most_edits → length net.constraints < room → is_value most ≡ true → is_plain a ≡ false → Some NotPlain ≡ why
  add_not_plain few short value odd = sym (in_range few short value ∙ cond-true _ _ _ (ap not odd))

  pub add_by_observed : (o : Option ℕ) → edits < most_edits → length net.constraints < room → is_value most ≡ true → is_plain a ≡ true
      → least_unobserved net a ≡ o → option_map NotObserved o ≡ why
  add_by_observed o few short value plain first =
      ap (option_map NotObserved) (sym first) ∙ sym (in_range few short value ∙ cond-false _ _ _ (ap not plain))

-- ---- and of a constraint that is removed or gets another value

module _ (net : Network) (edits room fresh id : ℕ) where
  abbrev edited : EditedNetwork
  edited = record { net = net; fresh = fresh; edits = edits }

  pub remove_at_limit : most_edits ≤ edits → Some EditLimit ≡ refusal room edited (removes id)
  remove_at_limit many = sym (cond-true _ _ _ (le-leb most_edits edits many))

  pub remove_none : edits < most_edits → has_constraint net id ≡ false → Some (NoSuch id) ≡ refusal room edited (removes id)
  remove_none few none = sym (cond-false _ _ _ (lt-leb most_edits edits few) ∙ cond-false _ _ _ none)

  pub remove_some : edits < most_edits → has_constraint net id ≡ true → None ≡ refusal room edited (removes id)
  remove_some few some = sym (cond-false _ _ _ (lt-leb most_edits edits few) ∙ cond-true _ _ _ some)

  pub revalue_at_limit : (most : ℤ) → most_edits ≤ edits → Some EditLimit ≡ refusal room edited (revalues id most)
  revalue_at_limit most many = sym (cond-true _ _ _ (le-leb most_edits edits many))

  pub revalue_none : (most : ℤ) → edits < most_edits → has_constraint net id ≡ false → Some (NoSuch id) ≡ refusal room edited (revalues id most)
  revalue_none most few none = sym (cond-false _ _ _ (lt-leb most_edits edits few) ∙ cond-true _ _ _ (ap not none))

  pub revalue_out_of_range : (most : ℤ) → edits < most_edits → has_constraint net id ≡ true → is_value most ≡ false
      → Some (ValueRange most) ≡ refusal room edited (revalues id most)
  revalue_out_of_range most few some out =
      sym (cond-false _ _ _ (lt-leb most_edits edits few) ∙ cond-false _ _ _ (ap not some) ∙ cond-false _ _ _ out)

  pub revalue_some : (most : ℤ) → edits < most_edits → has_constraint net id ≡ true → is_value most ≡ true → None ≡ refusal room edited (revalues id most)
  revalue_some most few some value =
      sym (cond-false _ _ _ (lt-leb most_edits edits few) ∙ cond-false _ _ _ (ap not some) ∙ cond-true _ _ _ value)

-- ---- one proposition at most is the least

-- at most one proposition is the least that the label names and nothing observes
least_once : (net : Network) (a : Label) (p q : ℕ) → IsLeastUnobserved net a p → IsLeastUnobserved net a q → p ≡ q
least_once net a p q one other = elim (cases_lt p q) [
  | inl below ↦ absurd (other.1 p below one.0)
  | inr upto ↦ elim (cases_lt q p) [
    | inl above ↦ absurd (one.1 q above other.0)
    | inr same ↦ omega arith
  ]
]

pub least_prop : (net : Network) (a : Label) (p q : Prop) → IsLeastUnobserved net a p.index → IsLeastUnobserved net a q.index → p ≡ q
least_prop net a p q one other = same_prop p q (least_once net a p.index q.index one other)
