-- Cut lists by ancestors.
use Rattle.std.proofs.Common.{ℕ, zero, suc, ◌≡◌, ◌⊎◌, inl, inr, ◌+◌, ◌-◌, ◌<◌, Bool, true, false, Option, Some, None, List, [], ◌∷◌, ◌++◌, length, set, replicate, arith, refl, sym, subst, ◌∙◌, ap}
use Rattle.std.specs.Prelude.{slice_get, not, nat_eq}
use Rattle.std.proofs.lemmas.Bool.{cases_eq, and_from, ne_eqb}
use Rattle.std.proofs.lemmas.List.{get_or-set_same, get_or-set_other, length-replicate}
use Rattle.std.proofs.lemmas.Option.{slice_get_within}
use Rattle.cstn_rules.specs.declared.entries.Why.{Why}
use Rattle.cstn_rules.specs.declared.entries.Why.TheVariants.{Base, Chain, Wait}
use Rattle.cstn_rules.specs.Derivations.{Entry}
use Rattle.cstn_log.specs.Cuts.{PremisesBelow, AllEarlier, is_place_marked, PremisesMarked, IsClosedUnder, with_premises, with_premises_of, with_ancestors, last_marked, last_with_ancestors, stays, marked_staying, dropped}
use Rattle.cstn_log.specs.Ancestors.{IsPremise, IsPremiseOf, LeadsToEntry, IsAncestor, IsGivenBy, DependsOn, HasThose}
use Rattle.cstn_log.proofs.MarkLemmas.{ancestors_marked, ancestors_closed, length_last, stays_marked, staying_closed, other_constraint}

-- ---- marks that are closed under premises

premise_marked : (marks : List Bool) (i : ℕ) (why : Why) → IsPremise i why → PremisesMarked marks why → is_place_marked marks i ≡ true
premise_marked marks i Base is all = absurd is
premise_marked marks i (Chain id j) is all = subst (λ n. is_place_marked marks n ≡ true) (sym is) all
premise_marked marks i (Wait j k) is all = elim is [
  | inl first ↦ subst (λ n. is_place_marked marks n ≡ true) (sym first) all.0
  | inr second ↦ subst (λ n. is_place_marked marks n ≡ true) (sym second) all.1
]

-- the ancestors of a marked entry are marked
line_marked : (marks : List Bool) (steps : List Entry) → IsClosedUnder marks steps → (i k : ℕ) (between : List ℕ) → LeadsToEntry steps i between k →
    is_place_marked marks k ≡ true → is_place_marked marks i ≡ true
line_marked marks steps closed i k [] is marked = premise_marked marks i is.entry.why is.premise (closed k is.entry is.there marked)
line_marked marks steps closed i k (j ∷ js) is marked =
    let next = line_marked marks steps closed j k js is.1 marked in
    premise_marked marks i is.0.entry.why is.0.premise (closed j is.0.entry is.0.there next)

-- ---- the last entry with its ancestors

module _ (steps : List Entry) (last : ℕ) where
  -- the place is the last one, or that of an ancestor
  abbrev IsKin : ℕ → Type 0
  IsKin k = (k ≡ last) ⊎ IsAncestor steps k last

  kin_of : (i k : ℕ) → IsPremiseOf steps i k → IsKin k → IsKin i
  kin_of i k is (inl here) = inr ([], subst (λ n. IsPremiseOf steps i n) here is)
  kin_of i k is (inr above) = inr (k ∷ above.0, (is, above.1))

  -- each marked place is one of these
  abbrev AllKin : List Bool → Type 0
  AllKin marks = (k : ℕ) → is_place_marked marks k ≡ true → IsKin k

  kin_set : (marks : List Bool) (i : ℕ) → IsKin i → AllKin marks → AllKin (set marks i true)
  kin_set marks i kin all k marked = elim (cases_eq k i) [
    | inl same ↦ subst IsKin (sym same) kin
    | inr other ↦ all k (sym (get_or-set_other marks i k true false other) ∙ marked)
  ]

  kin_premises : (marks : List Bool) (why : Why) → ((i : ℕ) → IsPremise i why → IsKin i) → AllKin marks → AllKin (with_premises why marks)
  kin_premises marks Base each all = all
  kin_premises marks (Chain id i) each all = kin_set marks i (each i refl) all
  kin_premises marks (Wait i j) each all = kin_set (set marks i true) j (each j (inr refl)) (kin_set marks i (each i (inl refl)) all)

  kin_of_one : (marks : List Bool) (k : ℕ) (o : Option Entry) (b : Bool) → slice_get steps k ≡ o → is_place_marked marks k ≡ b → AllKin marks →
      AllKin (with_premises_of o b marks)
  kin_of_one marks k None b at here all = all
  kin_of_one marks k (Some e) false at here all = all
  kin_of_one marks k (Some e) true at here all =
      kin_premises marks e.why (λ i is. kin_of i k (record { entry = e; there = at; premise = is }) (all k here)) all

  kin_ancestors : (k : ℕ) (marks : List Bool) → AllKin marks → AllKin (with_ancestors steps k marks)
  kin_ancestors zero marks all = all
  kin_ancestors (suc k) marks all =
      kin_ancestors k (with_premises_of (slice_get steps k) (is_place_marked marks k) marks)
      (kin_of_one marks k (slice_get steps k) (is_place_marked marks k) refl refl all)

none_marked : (n k : ℕ) → is_place_marked (replicate n false) k ≡ true → ⊥
none_marked zero k marked = cc
none_marked (suc n) zero marked = cc
none_marked (suc n) (suc k) marked = none_marked n k marked

pub part_by_ancestors : (steps : List Entry) → AllEarlier steps → 0 < length steps →
    HasThose (λ k. (k ≡ length steps - 1) ⊎ IsAncestor steps k (length steps - 1)) steps (last_with_ancestors steps)
part_by_ancestors steps earlier some =
    let n = length steps in
    let last = n - 1 in
    let marks = with_ancestors steps n (last_marked n) in
    let start : is_place_marked (last_marked n) last ≡ true = get_or-set_same (replicate n false) last true false (omega (arith, some, length-replicate n false)) in
    let marked : is_place_marked marks last ≡ true = ancestors_marked steps n (last_marked n) last start in
    let closed : IsClosedUnder marks steps = ancestors_closed steps earlier.below n (last_marked n) (length_last n) (λ j e over there here. absurd (omega (arith, over, slice_get_within steps j e there))) in
    record {
      marks = marks;
      is = refl;
      exactly = λ k inside. (
        kin_ancestors steps last n (last_marked n) (kin_set steps last (replicate n false) last (inl refl) (λ j here. absurd (none_marked n j here))) k,
        λ kin. elim kin [
          | inl here ↦ subst (λ m. is_place_marked marks m ≡ true) (sym here) marked
          | inr above ↦ line_marked marks steps closed k last above.0 above.1 marked
        ],
      );
    }

-- ---- what stays without a constraint

leads_on : (steps : List Entry) (i j k : ℕ) (between : List ℕ) → LeadsToEntry steps i between j → IsPremiseOf steps j k → LeadsToEntry steps i (between ++ j ∷ []) k
leads_on steps i j k [] is next = (is, next)
leads_on steps i j k (m ∷ ms) is next = (is.0, leads_on steps m j k ms is.1 next)

-- an entry depends on what its premises depend on
depends_on_premise : (steps : List Entry) (id i k : ℕ) → IsPremiseOf steps i k → DependsOn steps id i → DependsOn steps id k
depends_on_premise steps id i k is (inl gave) = inr (i, ([], is), gave)
depends_on_premise steps id i k is (inr above) = inr (above.0, (above.1.0 ++ i ∷ [], leads_on steps above.0 i k above.1.0 above.1.1 is), above.2)

module _ (steps : List Entry) (id : ℕ) (earlier : AllEarlier steps) where
  abbrev staying : List Bool
  staying = marked_staying id [] steps

  stay_is : (k : ℕ) (e : Entry) → slice_get steps k ≡ Some e → is_place_marked staying k ≡ stays id staying e.why
  stay_is k e there =
      let at : (n : ℕ) → 0 + n ≡ n = λ n. omega arith in
      subst (λ n. is_place_marked staying n ≡ stays id staying e.why) (at k)
      (stays_marked id [] steps k e (λ j d here. subst (λ n. PremisesBelow n d.why) (sym (at j)) (earlier.below j d here)) there)

  not_given : (k : ℕ) → is_place_marked staying k ≡ true → IsGivenBy steps id k → ⊥
  not_given k marked gave =
      let rule : is_place_marked staying k ≡ stays id staying (Chain id gave.premise) = stay_is k gave.entry gave.there ∙ ap (stays id staying) gave.why in
      other_constraint id id gave.premise staying (sym rule ∙ marked) refl

  marked_stands : (k : ℕ) → is_place_marked staying k ≡ true → DependsOn steps id k → ⊥
  marked_stands k marked (inl gave) = not_given k marked gave
  marked_stands k marked (inr above) = not_given above.0 (line_marked staying steps (staying_closed steps id earlier) above.0 k above.1.0 above.1.1 marked) above.2

  -- what depends on the constraint in no way stays, each place below n being known already
  rule_stays : (k : ℕ) (e : Entry) → slice_get steps k ≡ Some e → (why : Why) → e.why ≡ why → PremisesBelow k why →
      ((i : ℕ) → i < k → (DependsOn steps id i → ⊥) → is_place_marked staying i ≡ true) → (DependsOn steps id k → ⊥) → stays id staying why ≡ true
  rule_stays k e there Base is low before stands = refl
  rule_stays k e there (Chain c i) is low before stands =
      and_from (not (nat_eq c id)) (is_place_marked staying i)
      (ap not (ne_eqb c id (λ same. stands (inl (record { entry = e; there = there; premise = i; why = is ∙ ap (λ n. Chain n i) same })))))
      (before i low (λ on. stands (depends_on_premise steps id i k (record { entry = e; there = there; premise = subst (IsPremise i) (sym is) refl }) on)))
  rule_stays k e there (Wait i j) is low before stands =
      and_from (is_place_marked staying i) (is_place_marked staying j)
      (before i low.0 (λ on. stands (depends_on_premise steps id i k (record { entry = e; there = there; premise = subst (IsPremise i) (sym is) (inl refl) }) on)))
      (before j low.1 (λ on. stands (depends_on_premise steps id j k (record { entry = e; there = there; premise = subst (IsPremise j) (sym is) (inr refl) }) on)))

  entry_at : (xs : List Entry) (k : ℕ) → k < length xs → (e : Entry) × (slice_get xs k ≡ Some e)
  entry_at [] k inside = absurd (omega (arith, inside))
  entry_at (x ∷ xs) zero inside = (x, refl)
  entry_at (x ∷ xs) (suc k) inside = entry_at xs k (omega (arith, inside))

  stands_marked : (n k : ℕ) → k < n → k < length steps → (DependsOn steps id k → ⊥) → is_place_marked staying k ≡ true
  stands_marked zero k less inside stands = absurd (omega (arith, less))
  stands_marked (suc n) k less inside stands =
      let at = entry_at steps k inside in
      stay_is k at.0 at.1
      ∙ rule_stays k at.0 at.1 at.0.why refl (earlier.below k at.0 at.1)
      (λ i low free. stands_marked n i (omega (arith, low, less)) (omega (arith, low, inside)) free) stands

  pub dropped_by_ancestors : HasThose (λ k. DependsOn steps id k → ⊥) steps (dropped steps id)
  dropped_by_ancestors = record {
    marks = staying;
    is = refl;
    exactly = λ k inside. (marked_stands k, stands_marked (suc k) k (omega arith) inside);
  }
