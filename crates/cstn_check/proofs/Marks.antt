-- Which constraints gave entries, as marks at their places.
use Rattle.std.proofs.Common.{ℕ, zero, suc, ◌≡◌, ◌≢◌, ◌<◌, inl, inr, Bool, true, false, ◌||◌, List, [], ◌∷◌, ◌++◌, length, get_or, set, map, arith, sym, ap, ◌∙◌}
use Rattle.std.specs.List.{All, HoldsAt}
use Rattle.std.proofs.lemmas.Bool.{cases_eq, cases_lt, ne_eqb, both_ways}
use Rattle.std.proofs.lemmas.List.{get_or-set_same, get_or-set_other, length-map, length-set}
use Rattle.std.proofs.lemmas.List.Elements.{All-map}
use Rattle.std.proofs.lemmas.List.Folds.{list_any-append}
use Rattle.cstn_net.specs.declared.constraints.Constraint.{Constraint as DeclaredConstraint}
use Rattle.cstn_net.specs.Networks.{IsWellFormed}
use Rattle.cstn_net.specs.Read.{NetworkParts, the_network}
use Rattle.cstn_rules.specs.declared.entries.Why.TheVariants.{Chain}
use Rattle.cstn_rules.specs.Derivations.{Entry}
use Rattle.cstn_check.specs.Givers.{is_by, gave, ids_of}
use Rattle.cstn_check.specs.Needs.{AreMarked}
use Rattle.cstn_check.proofs.Fewer.{the_ids}
use Rattle.cstn_check.proofs.Parts.{ids_ascend}

-- ---- the ids of the program's constraints

pub ids_are : (net : NetworkParts) → ids_of (the_network net) ≡ map (λ (c : DeclaredConstraint). c.id) net.constraints
ids_are net = the_ids net.constraints

ids_at : (id : ℕ) (cs : List DeclaredConstraint) (place : ℕ) → place < length cs → HoldsAt (λ c. c.id ≡ id) cs place → get_or (map (λ (c : DeclaredConstraint). c.id) cs) place 0 ≡ id
ids_at id [] place inside at = absurd (omega arith)
ids_at id (c ∷ cs) zero inside at = at c
ids_at id (c ∷ cs) (suc k) inside at = ids_at id cs k (omega arith) at

-- ---- marks with one more entry

module _ (net : NetworkParts) (list : List Entry) (e : Entry) (marks : List Bool) (marked : AreMarked (the_network net) marks list) where
  abbrev ids : List ℕ
  ids = ids_of (the_network net)

  still : (id : ℕ) → gave id list ≡ false → is_by id e.why ≡ false → gave id (list ++ e ∷ []) ≡ false
  still id none other =
      list_any-append (λ x. is_by id x.why) list (e ∷ []) ∙ ap (λ b. b || (is_by id e.why || false)) none
      ∙ ap (λ b. false || (b || false)) other

  -- none of the constraints gave the entry
  pub marked_other : ((id : ℕ) → is_by id e.why ≡ false) → AreMarked (the_network net) marks (list ++ e ∷ [])
  marked_other other k inside clear = still (get_or ids k 0) (marked k inside clear) (other (get_or ids k 0))

  pub marked_absent : (id j : ℕ) → e.why ≡ Chain id j → All (λ c. c.id ≢ id) net.constraints → length marks ≡ length net.constraints →
      AreMarked (the_network net) marks (list ++ e ∷ [])
  marked_absent id j by absent size k inside clear =
      let all = All-map (λ i. i ≢ id) (λ (c : DeclaredConstraint). c.id) net.constraints absent in
      let many = length-map net.constraints (λ (c : DeclaredConstraint). c.id) in
      let here : get_or ids k 0 ≢ id = λ same. all k 0 (omega arith) (sym (ap (λ l. get_or l k 0) (ids_are net)) ∙ same) in
      still (get_or ids k 0) (marked k inside clear) (ap (is_by (get_or ids k 0)) by ∙ ne_eqb id (get_or ids k 0) (λ same. here (sym same)))

  -- the constraint at a place did
  pub marked_there : (id j place : ℕ) → e.why ≡ Chain id j → IsWellFormed (the_network net) → length marks ≡ length net.constraints → place < length net.constraints →
      HoldsAt (λ c. c.id ≡ id) net.constraints place → AreMarked (the_network net) (set marks place true) (list ++ e ∷ [])
  marked_there id j place by good size there at k inside clear = elim (cases_eq k place) [
    | inl same ↦ absurd (both_ways (get_or (set marks place true) k true) clear
        (ap (λ i. get_or (set marks place true) i true) same ∙ get_or-set_same marks place true true (omega arith)))
    | inr other ↦
        let long = length-set marks place true in
        let old : get_or marks k true ≡ false = sym (get_or-set_other marks place k true true other) ∙ clear in
        let here : get_or ids place 0 ≡ id = ap (λ l. get_or l place 0) (ids_are net) ∙ ids_at id net.constraints place there at in
        let many = ap length (ids_are net) ∙ length-map net.constraints (λ (c : DeclaredConstraint). c.id) in
        let differs : id ≢ get_or ids k 0 = λ same. elim (cases_lt k place) [
          | inl before ↦ let less = ids_ascend (the_network net) good k place 0 before (omega arith) in omega arith
          | inr after ↦ let more = ids_ascend (the_network net) good place k 0 (omega arith) (omega arith) in omega arith
        ] in
        still (get_or ids k 0) (marked k (omega arith) old) (ap (is_by (get_or ids k 0)) by ∙ ne_eqb id (get_or ids k 0) differs)
  ]
