-- What stands without constraints that gave none of its entries.
use Rattle.std.proofs.Common.{ℕ, zero, suc, ◌≡◌, ◌≤◌, inl, inr, Bool, true, false, not, eqb, List, [], ◌∷◌, Some, length, arith, refl, sym, subst, ap, ◌∙◌}
use Rattle.std.specs.Prelude.{slice_get}
use Rattle.std.specs.List.{Contains, filter}
use Rattle.std.proofs.lemmas.Bool.{or_parts, cases_Bool, both_ways, eq-eqb, false_from_ne_true}
use Rattle.cstn_label.specs.Bounds.{Bound}
use Rattle.cstn_net.specs.Networks.{Network, Constraint, IsWellFormed}
use Rattle.cstn_rules.specs.declared.entries.Why.TheVariants.{Chain}
use Rattle.cstn_rules.specs.Derivations.{Entry, IsRefutation}
use Rattle.cstn_rules.proofs.Derived.{derivation_elsewhere, refuted_inconsistent}
use Rattle.cstn_check.specs.Givers.{is_by, gave, with_some}
use Rattle.cstn_check.specs.Growth.{is_refuted, load_of, most_entries}
use Rattle.cstn_check.specs.Room.{DecidesByList}
use Rattle.cstn_check.specs.Verdicts.{is_consistent}
use Rattle.cstn_check.proofs.Decides.{decided, load_bounded}
use Rattle.cstn_check.proofs.Fewer.{contains_passing, some_well_formed}
use Rattle.cstn_check.proofs.Idle.{log_same}

-- the other constraints are those of the network that the steps use, and more perhaps
abbrev pub HasUsed : Network → List Constraint → List Entry → Type 0
HasUsed net cs steps =
    (c : Constraint) (b : Bound) (k i : ℕ) → Contains net.constraints c →
    slice_get steps k ≡ Some (record { bound = b; why = Chain c.id i }) → Contains cs c

pub refutation_elsewhere : (net : Network) (cs : List Constraint) (steps : List Entry) → HasUsed net cs steps → IsRefutation net steps →
    IsRefutation (record net { constraints = cs }) steps
refutation_elsewhere net cs steps used r = record {
  derivation = derivation_elsewhere net cs steps used r.derivation;
  last = r.last;
  is_last = r.is_last;
  refutes = record { node = r.refutes.node; plain = r.refutes.plain; above = r.refutes.above };
}

-- a constraint that gave no entry gave none of them
not_by : (id : ℕ) (steps : List Entry) (k : ℕ) (e : Entry) → gave id steps ≡ false → slice_get steps k ≡ Some e → is_by id e.why ≡ false
not_by id [] k e none there = let f : ⊥ = cc in absurd f
not_by id (x ∷ xs) zero e none there =
    let same : x ≡ e = cc in
    subst (λ (y : Entry). is_by id y.why ≡ false) same (or_parts (is_by id x.why) (gave id xs) none).0
not_by id (x ∷ xs) (suc k) e none there = not_by id xs k e (or_parts (is_by id x.why) (gave id xs) none).1 there

module _ (net : Network) (test : ℕ → Bool) (list : List Entry) (none : (id : ℕ) → test id ≡ false → gave id list ≡ false) where
  pub refutation_stands : IsRefutation net list → IsRefutation (with_some net test) list
  refutation_stands =
      refutation_elsewhere net (filter (λ c. test c.id) net.constraints) list
      (λ c b k i inside there. contains_passing (λ (d : Constraint). test d.id) net.constraints c (elim (cases_Bool (test c.id)) [
        | inl passes ↦ passes
        | inr fails ↦ absurd (both_ways (eqb c.id c.id) (not_by c.id list k (record { bound = b; why = Chain c.id i }) (none c.id fails) there) (eq-eqb c.id c.id refl))
      ]) inside)

  module _ (good : IsWellFormed net) (cap : ℕ) (refuted : is_consistent net ≡ false) (within : load_of net ≤ cap) where
    -- a no stands, with the list that decides
    pub no_stands : (roomy : Bool) → DecidesByList cap net roomy list →
        (is_consistent (with_some net test) ≡ false) × (load_of (with_some net test) ≤ cap) × DecidesByList cap (with_some net test) roomy list
    no_stands true decides =
        let less = some_well_formed net (λ c. test c.id) good in
        let again = refutation_stands decides.0 in (
          false_from_ne_true (is_consistent (with_some net test)) (λ t. refuted_inconsistent (with_some net test) list less.network again ((decided (with_some net test) less).0 t)),
          (let most = load_bounded (with_some net test) less in let room : most_entries (with_some net test) ≤ cap = decides.1 in omega arith),
          (again, decides.1),
        )
    no_stands false is =
        let same = log_same net test (λ id fails. subst (λ l. gave id l ≡ false) is (none id fails)) in
        (ap (λ l. not (is_refuted net l)) same ∙ refuted, (let size = ap length same in omega arith), is ∙ sym same)
