-- Networks that are changed stay in order.
use Rattle.std.proofs.Common.{ℕ, ℤ, ◌≡◌, ◌<◌, Bool, true, false, not, List, ◌∷◌, [], length, map, get_or, Option, Some, None, arith, refl, inl, inr}
use Rattle.std.proofs.Common.{length-append}
use Rattle.std.specs.Prelude.{◌==◌, nat_le, if◌then◌else◌}
use Rattle.std.specs.List.{All}
use Rattle.std.proofs.lemmas.Bool.{cases_Bool, not-false, leb-false}
use Rattle.std.proofs.lemmas.List.{length-map}
use Rattle.std.proofs.lemmas.List.Elements.{All-filter, All-map, All-push, All-weaker}
use Rattle.std.proofs.lemmas.List.Filters.{length-filter_both}
use Rattle.std.proofs.lemmas.List.Kept.{AllPairs-filter}
use Rattle.std.proofs.lemmas.List.Quantifiers.{all_pairs_push}
use Rattle.cstn_facts.proofs.Pairs.{pairs_map}
use Rattle.cstn_label.specs.Labels.{Label}
use Rattle.cstn_label.specs.Marks.{is_plain}
use Rattle.cstn_label.specs.OnLetters.{IsOnLetters}
use Rattle.cstn_label.proofs.PlainLabels.{true_plain}
use Rattle.cstn_net.specs.Limits.{most_constraints, most_edits}
use Rattle.cstn_net.specs.Networks.{Network, Constraint, IsConstraint, IsValue, IsWellFormed}
use Rattle.cstn_net.proofs.WellFormed.{well_formed_with}
use Rattle.cstn_change.specs.Changes.{EditedNetwork, Change, adds, removes, revalues, refusal, is_value, has_constraint, least_unobserved, with_value}
use Rattle.cstn_change.specs.Changes.{new_constraint, constraints_after, HasTimePointEnds, CanAdd, CanChange}
use Rattle.cstn_change.proofs.IdLemmas.{value_id}
use Rattle.cstn_change.proofs.RefusalLemmas.{true_value, none_mapped, on_observed}

-- where a test and the rest refuse nothing, the test is false
pub none_refused : {X : Type 0} (b : Bool) (r : X) (o : Option X) → (if b then Some r else o) ≡ None → (b ≡ false) × (o ≡ None)
none_refused true r o e = absurd (cc)
none_refused false r o e = (refl, e)

refused_unless : {X : Type 0} (b : Bool) (r : X) → (if b then None else Some r) ≡ None → b ≡ true
refused_unless true r e = refl
refused_unless false r e = absurd (cc)

-- the label of a constraint that is added names letters alone
abbrev pub IsOfLetters : Change → Type 0
IsOfLetters (adds from to most a) = IsOnLetters a
IsOfLetters (removes id) = Unit {0}
IsOfLetters (revalues id most) = Unit {0}

-- a change that isn't refused can be made
module _ (e : EditedNetwork) where
  can_add : (from to : ℕ) (most : ℤ) (a : Label) → IsOnLetters a → refusal most_constraints e (adds from to most a) ≡ None → CanAdd most_constraints e.net most a
  can_add from to most a letters none =
      let one = none_refused (nat_le most_edits e.edits) _ _ none in
      let two = none_refused (nat_le most_constraints (length e.net.constraints)) _ _ one.1 in
      let three = none_refused (not (is_value most)) _ _ two.1 in
      let four = none_refused (not (is_plain a)) _ _ three.1 in
      record {
        room = leb-false most_constraints (length e.net.constraints) two.0;
        value = true_value most (not-false (is_value most) three.0);
        plain = true_plain a letters (not-false (is_plain a) four.0);
        observed = on_observed e.net a letters (none_mapped _ (least_unobserved e.net a) four.1);
      }

  can_revalue : (id : ℕ) (most : ℤ) → refusal most_constraints e (revalues id most) ≡ None → IsValue most
  can_revalue id most none =
      let one = none_refused (nat_le most_edits e.edits) _ _ none in
      let two = none_refused (not (has_constraint e.net id)) _ _ one.1 in
      true_value most (refused_unless (is_value most) _ two.1)

  pub can_change : (change : Change) → IsOfLetters change → refusal most_constraints e change ≡ None → CanChange most_constraints e.net change
  can_change (adds from to most a) letters none = can_add from to most a letters none
  can_change (removes id) letters none = tt
  can_change (revalues id most) letters none = can_revalue id most none

-- and leads to a network in order
module _ (net : Network) (good : IsWellFormed net) where
  abbrev cs : List Constraint
  cs = net.constraints

  added_in_order : (fresh from to : ℕ) (most : ℤ) (a : Label) → All (λ c. c.id < fresh) cs → HasTimePointEnds net (adds from to most a)
      → CanAdd most_constraints net most a → IsWellFormed (record net { constraints = constraints_after cs fresh (adds from to most a) })
  added_in_order fresh from to most a above between can =
      let c = new_constraint fresh from to most a in
      well_formed_with net (constraints_after cs fresh (adds from to most a)) good
      (let long = length-append cs (c ∷ []) in let less = can.room in omega arith)
      (All-push (IsConstraint net) cs c good.network.constraints
      (record { from = between.0; to = between.1; plain = can.plain; observed = can.observed }))
      (all_pairs_push (λ b d. b.id < d.id) cs c good.ascending above)
      (All-push (λ d. IsValue d.most) cs c good.values can.value)

  removed_in_order : (fresh id : ℕ) → IsWellFormed (record net { constraints = constraints_after cs fresh (removes id) })
  removed_in_order fresh id =
      let test : Constraint → Bool = λ c. not (c.id == id) in
      well_formed_with net (constraints_after cs fresh (removes id)) good
      (let both = length-filter_both (λ (c : Constraint). c.id == id) test (λ c. refl) cs in let few = good.few_constraints in omega arith)
      (All-filter test (IsConstraint net) cs good.network.constraints)
      (AllPairs-filter (λ b c. b.id < c.id) test cs good.ascending)
      (All-filter test (λ c. IsValue c.most) cs good.values)

  one_with : (id : ℕ) (most : ℤ) (c : Constraint) → IsConstraint net c → IsConstraint net (with_value id most c)
  one_with id most c h = elim (cases_Bool (c.id == id)) [
    | inl t ↦ rw t (record { from = h.from; to = h.to; plain = h.plain; observed = h.observed })
    | inr f ↦ rw f h
  ]

  value_with : (id : ℕ) (most : ℤ) (c : Constraint) → IsValue most → IsValue c.most → IsValue (with_value id most c).most
  value_with id most c new old = elim (cases_Bool (c.id == id)) [ inl t ↦ rw t new | inr f ↦ rw f old ]

  revalued_in_order : (fresh id : ℕ) (most : ℤ) → IsValue most → IsWellFormed (record net { constraints = constraints_after cs fresh (revalues id most) })
  revalued_in_order fresh id most value =
      let f : Constraint → Constraint = with_value id most in
      well_formed_with net (map f cs) good
      (let same = length-map cs f in let few = good.few_constraints in omega arith)
      (All-map (IsConstraint net) f cs (All-weaker _ _ (one_with id most) cs good.network.constraints))
      (pairs_map (λ b c. b.id < c.id) f cs (λ i j d before inside.
      let ordered = good.ascending i j d before inside in
      let one = value_id id most (get_or cs i d) in
      let other = value_id id most (get_or cs j d) in
      omega arith))
      (All-map (λ c. IsValue c.most) f cs (All-weaker _ _ (λ c. value_with id most c value) cs good.values))

  pub changed_in_order : (fresh : ℕ) (change : Change) → All (λ c. c.id < fresh) cs → HasTimePointEnds net change → CanChange most_constraints net change
      → IsWellFormed (record net { constraints = constraints_after cs fresh change })
  changed_in_order fresh (adds from to most a) above between can = added_in_order fresh from to most a above between can
  changed_in_order fresh (removes id) above between can = removed_in_order fresh id
  changed_in_order fresh (revalues id most) above between can = revalued_in_order fresh id most can
