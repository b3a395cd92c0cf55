-- Constraints by their ids.
use Rattle.std.proofs.Common.{ℕ, ◌≡◌, ◌≢◌, ◌<◌, ◌≤◌, List, Ok, Err, length, get_or, map, arith, inl, inr, sym, subst, ap, ◌∙◌}
use Rattle.std.specs.List.{All, AllPairs, Contains, HoldsAt}
use Rattle.std.specs.List.Sorted.{IsBinarySearchResult, IsNonDecreasingBy}
use Rattle.std.specs.Ordering.{nat_cmp, ordering_index}
use Rattle.std.proofs.lemmas.Bool.{cases_lt}
use Rattle.std.proofs.lemmas.Bool.Decides.{nat_tests}
use Rattle.std.proofs.lemmas.Cmp.{ranked}
use Rattle.std.proofs.lemmas.List.{get_or_default, get_or-map, length-map}
use Rattle.cstn_net.specs.declared.constraints.Constraint.{Constraint}
use Rattle.cstn_net.specs.Networks.{Constraint as TheConstraint}
use Rattle.cstn_net.specs.Read.{the_constraint}

-- where ids ascend, a constraint is known by its id
pub one_id : (cs : List TheConstraint) (c d : TheConstraint) → AllPairs (λ b c. b.id < c.id) cs → Contains cs c →
    Contains cs d → c.id ≡ d.id → c ≡ d
one_id cs c d ascending is that same =
    let other = get_or_default cs that.0 c d that.1 ∙ that.2 in
    elim (cases_lt is.0 that.0) [
      | inl before ↦
          let rises : c.id < d.id = subst (λ x. x.id < d.id) is.2 (subst (λ y. (get_or cs is.0 c).id < y.id) other (ascending is.0 that.0 c before that.1)) in
          absurd (omega arith)
      | inr past ↦ elim (cases_lt that.0 is.0) [
        | inl after ↦
            let rises : d.id < c.id = subst (λ y. d.id < y.id) is.2 (subst (λ x. x.id < (get_or cs is.0 c).id) other (ascending that.0 is.0 c after is.1)) in
            absurd (omega arith)
        | inr before ↦
            let here : is.0 ≡ that.0 = omega arith in
            sym is.2 ∙ ap (λ k. get_or cs k c) here ∙ other
      ]
    ]

-- a place that a search by the id finds has it
pub found_at : (cs : List Constraint) (id at : ℕ) → IsBinarySearchResult (λ c. nat_cmp c.id id) cs (Ok at) →
    HoldsAt (λ c. c.id ≡ id) cs at
found_at cs id at equal d = ranked _ id _ (sym (equal d))

-- the ids of the images ascend exactly where the ids do
pub ascending_ids : (cs : List Constraint) → AllPairs (λ b c. b.id < c.id) (map the_constraint cs) →
    AllPairs (λ b c. b.id < c.id) cs
ascending_ids cs all = λ i j d before inside.
    let there : j < length (map the_constraint cs) = rw (length-map cs the_constraint) inside in
    let one = get_or-map the_constraint cs i d (the_constraint d) (omega arith) in
    let other = get_or-map the_constraint cs j d (the_constraint d) inside in
    subst (λ y. (get_or cs i d).id < y.id) other
    (subst (λ x. x.id < (get_or (map the_constraint cs) j (the_constraint d)).id) one (all i j (the_constraint d) before there))

module _ (cs : List Constraint) (ascending : AllPairs (λ b c. b.id < c.id) cs) (id : ℕ) where
  -- the comparisons with the id rise along the list
  comparisons_rise : IsNonDecreasingBy (λ c. ordering_index (nat_cmp c.id id)) cs
  comparisons_rise i j d le inside = elim (cases_lt i j) [
    | inl before ↦ let rises = ascending i j d before inside in grind (arith, nat_tests)
    | inr past ↦ let same : i ≡ j = omega arith in subst (λ k. ordering_index (nat_cmp (get_or cs i d).id id) ≤ ordering_index (nat_cmp (get_or cs k d).id id)) same (omega arith)
  ]

  -- where a search by the id finds none, none is there
  pub none_found : (at : ℕ) → IsBinarySearchResult (λ c. nat_cmp c.id id) cs (Err at) → All (λ c. c.id ≢ id) cs
  none_found at parted k d inside = elim (cases_lt k at) [
    | inl before ↦ let less : (get_or cs k d).id < id = ranked _ id _ (sym ((parted comparisons_rise).0 k d (omega arith) before)) in λ e. omega arith
    | inr past ↦ let more : id < (get_or cs k d).id = ranked _ id _ (sym ((parted comparisons_rise).1 k d (omega arith) inside)) in λ e. omega arith
  ]
