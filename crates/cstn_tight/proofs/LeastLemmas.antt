-- Networks at other deadlines, and their least deadline.
use Rattle.std.proofs.Common.{ℕ, zero, suc, ◌≡◌, ◌≤◌, ◌+◌, ◌-◌, ◌⊎◌, true, inl, inr, arith, refl, sym, subst}
use Rattle.std.specs.Prelude.{◌↔◌}
use Rattle.std.proofs.lemmas.Bool.{cases_Bool, cases_lt, cond-true, cond-false, both_ways}
use Rattle.cstn_net.specs.Limits.{most_deadline}
use Rattle.cstn_net.specs.Networks.{Network, IsWellFormed}
use Rattle.cstn_net.specs.Strategies.{IsConsistent}
use Rattle.cstn_net.proofs.Kept.{later_deadline}
use Rattle.cstn_net.proofs.WellFormed.{well_formed_by}
use Rattle.cstn_check.specs.Growth.{load_of}
use Rattle.cstn_check.specs.Verdicts.{is_consistent}
use Rattle.cstn_check.proofs.DeadlineLemmas.{load_lower}
use Rattle.cstn_check.proofs.Decides.{decided}
use Rattle.cstn_tight.specs.Deadlines.{at_deadline, IsLeastDeadline, first_deadline, least_deadline}

-- a network that is consistent at a deadline is so at every later one
pub consistent_later : (net : Network) (h k : ℕ) → h ≤ k → IsConsistent (at_deadline net h) → IsConsistent (at_deadline net k)
consistent_later net h k upto consistent = (consistent.0, later_deadline (at_deadline net h) consistent.0 k upto consistent.1)

-- a network is consistent at no deadline before the least one
pub least_upto : (net : Network) (h k : ℕ) → IsLeastDeadline net h → IsConsistent (at_deadline net k) → h ≤ k
least_upto net h k least consistent = elim (cases_lt k h) [
  | inr upto ↦ upto
  | inl before ↦ elim least.least [
    | inl none ↦ absurd (omega arith)
    | inr never ↦ absurd (never (consistent_later net k (h - 1) (omega arith) consistent))
  ]
]

pub one_least : (net : Network) (g h : ℕ) → IsLeastDeadline net g → IsLeastDeadline net h → g ≡ h
one_least net g h first second =
    let up = least_upto net g h first second.consistent in
    let down = least_upto net h g second first.consistent in
    omega arith

-- the network isn't consistent at this deadline, and the load is within the cap
pub record IsRefuted (cap : ℕ) (net : Network) (h : ℕ) : Type 0 where
  pub never : IsConsistent (at_deadline net h) → ⊥
  pub within : load_of (at_deadline net h) ≤ cap

-- what holds of the least deadline of a network whose load is within the cap
pub record IsFound (cap : ℕ) (net : Network) (h : ℕ) : Type 0 where
  pub least : IsLeastDeadline net h
  pub upto : h ≤ net.deadline
  pub within : load_of (at_deadline net h) ≤ cap
  pub below : (h ≡ 0) ⊎ IsRefuted cap net (h - 1)

module _ (net : Network) (good : IsWellFormed net) where
  pub good_at_deadline : (h : ℕ) → h ≤ most_deadline → IsWellFormed (at_deadline net h)
  good_at_deadline h upto = well_formed_by net h good upto

  decided_at : (h : ℕ) → h ≤ most_deadline → (is_consistent (at_deadline net h) ≡ true) ↔ IsConsistent (at_deadline net h)
  decided_at h upto = decided (at_deadline net h) (good_at_deadline h upto)

  module _ (consistent : IsConsistent net) where
    -- the first deadline from h on is the least one, where the network isn't consistent one tick below h
    first_least : (n h : ℕ) → h + n ≡ net.deadline → (h ≡ 0) ⊎ (IsConsistent (at_deadline net (h - 1)) → ⊥) → IsLeastDeadline net (first_deadline net n h)
    unfolding first_deadline
    first_least zero h all below =
        let own : net.deadline ≡ h = omega arith in
        record { consistent = subst (λ k. IsConsistent (at_deadline net k)) own consistent; least = below }
    first_least (suc n) h all below =
        let in_time = good.in_time in
        let decides = decided_at h (omega arith) in
        elim (cases_Bool (is_consistent (at_deadline net h))) [
          | inl t ↦ subst (IsLeastDeadline net) (sym (cond-true (is_consistent (at_deadline net h)) h (first_deadline net n (suc h)) t))
              (record { consistent = decides.0 t; least = below })
          | inr f ↦ subst (IsLeastDeadline net) (sym (cond-false (is_consistent (at_deadline net h)) h (first_deadline net n (suc h)) f))
              (first_least n (suc h) (omega arith) (inr (λ c. both_ways (is_consistent (at_deadline net h)) f (decides.1 (subst (λ k. IsConsistent (at_deadline net k)) (omega arith) c)))))
        ]

    pub least_found : IsLeastDeadline net (least_deadline net)
    least_found = first_least net.deadline 0 (omega arith) (inl refl)

    pub found : (cap : ℕ) → load_of net ≤ cap → IsFound cap net (least_deadline net)
    found cap fits =
        let least = least_found in
        let upto = least_upto net (least_deadline net) net.deadline least consistent in
        record {
          least = least;
          upto = upto;
          within = (let there = load_lower net (least_deadline net) good upto in omega arith);
          below = elim least.least [
            | inl none ↦ inl none
            | inr never ↦ inr (record {
              never = never;
              within = (let there = load_lower net (least_deadline net - 1) good (omega arith) in omega arith);
            })
          ];
        }
