-- The tests by true and false decide the relations.
use Rattle.std.proofs.Common.{ℕ, zero, suc, ◌≡◌, ◌<◌, inl, inr, true, not, List, [], ◌∷◌, length, Some, arith, refl, sym, subst, ap, ◌∙◌}
use Rattle.std.specs.Prelude.{slice_get, slice_index_or, None, ◌↔◌}
use Rattle.std.specs.List.{Contains}
use Rattle.std.proofs.lemmas.Bool.{cases_Bool, false≢true}
use Rattle.std.proofs.lemmas.List.Elements.{All-contains}
use Rattle.std.proofs.lemmas.Option.{same_Some}
use Rattle.cstn_label.specs.declared.marks.Mark.{Mark}
use Rattle.cstn_label.specs.declared.marks.Mark.TheVariants.{Absent}
use Rattle.cstn_label.specs.Labels.{Label, IsWithin, joined_mark, joined}
use Rattle.cstn_label.specs.Bounds.{Bound, Dominates}
use Rattle.cstn_net.specs.Networks.{Network, Constraint, IsConstraint, IsWellFormed}
use Rattle.cstn_rules.specs.Rules.{Refutes, IsChain, IsWait}
use Rattle.cstn_rules.specs.Derivations.{Entry}
use Rattle.cstn_rules.specs.Tests.{refutes, chain_of, wait_of}
use Rattle.cstn_label.specs.Tests.{is_within, dominates}
use Rattle.cstn_check.specs.Growth.{is_covered, is_live, is_refuted, live_bounds}
use Rattle.cstn_label.specs.OnLetters.{IsOnLetters}
use Rattle.cstn_check.specs.Relations.{AreOnLetters, IsCoveredByEntry, IsLiveAt, IsRefuted}
use Rattle.cstn_check.proofs.Decided.{within_true, true_within, dominates_true, true_dominates, refutes_true, chain_gives, wait_gives}
use Rattle.cstn_check.proofs.Lists.{covered_by, live_entry, live_listed, listed_live}
use Rattle.cstn_check.proofs.Derives.{small_of, chain_when, wait_is}
use Rattle.cstn_check.proofs.Bounded.{covered_at}
use Rattle.cstn_check.proofs.Last.{refuted_from_last}
use Rattle.cstn_check.proofs.Decides.{true_refutes, refuted_at}

pub within_decides : (a b : Label) → IsOnLetters a → is_within a b ≡ true ↔ IsWithin a b
within_decides a b small = (true_within a b small, within_true a b)

pub dominates_decides : (a b : Bound) → IsOnLetters a.label → dominates a b ≡ true ↔ Dominates a b
dominates_decides a b small = (true_dominates a b small, dominates_true a b)

pub refutes_decides : (net : Network) (b : Bound) → IsOnLetters b.label → refutes net b ≡ true ↔ Refutes net b
refutes_decides net b small = (true_refutes net b small, refutes_true net b)

joined_letters : (a b : Label) → IsOnLetters a → IsOnLetters b → IsOnLetters (joined a b)
joined_letters a b first second p past = both (a p) (b p) (first p past) (second p past)
  where
    both : (m n : Mark) → m ≡ Absent → n ≡ Absent → joined_mark m n ≡ Absent
    both m n one other = grind arith

pub chain_decides : (net : Network) (c : Constraint) (b r : Bound) → IsOnLetters b.label → IsOnLetters c.label → chain_of net c b ≡ Some r ↔ IsChain net c b r
chain_decides net c b r small of_constraint =
    (chain_when net c b r small (joined_letters b.label c.label small of_constraint), chain_gives net c b r)

pub wait_decides : (net : Network) (seen b r : Bound) → wait_of net seen b ≡ Some r ↔ ((p : ℕ) × IsWait net p seen b r)
wait_decides net seen b r = (
  wait_is net (slice_index_or net.observes seen.node None) seen b r refl,
  λ found. wait_gives net found.0 seen b r found.1,
)

pub constraint_letters : (net : Network) (c : Constraint) → IsWellFormed net → Contains net.constraints c → IsOnLetters c.label
constraint_letters net c good has =
    small_of net c.label good.letters (All-contains (IsConstraint net) net.constraints c good.network.constraints has).observed

-- ---- lists

pub covered_decides : (list : List Entry) (r : Bound) → AreOnLetters list → is_covered list r ≡ true ↔ IsCoveredByEntry list r
covered_decides list r small = (
  λ h. (let d = covered_by list r small h in (d.place, d.entry, d.there, d.dominates)),
  λ found. covered_at list found.0 found.1 r found.2 found.3,
)

live_none : (list : List Entry) (k : ℕ) → is_live list k ≡ true → (j : ℕ) (e f : Entry) → k < j → slice_get list k ≡ Some e →
    slice_get list j ≡ Some f → Dominates f.bound e.bound → ⊥
live_none [] k live j e f less at_k at_j over = false≢true live
live_none (x ∷ xs) zero live zero e f less at_k at_j over = omega (arith, less)
live_none (x ∷ xs) zero live (suc j) e f less at_k at_j over =
    let same : x ≡ e = same_Some x e at_k in
    let covered = covered_at xs j f x.bound at_j (subst (λ y. Dominates f.bound y.bound) (sym same) over) in
    false≢true (sym (ap not covered) ∙ live)
live_none (x ∷ xs) (suc k) live zero e f less at_k at_j over = omega (arith, less)
live_none (x ∷ xs) (suc k) live (suc j) e f less at_k at_j over = live_none xs k live j e f (omega (arith, less)) at_k at_j over

none_live : (list : List Entry) (k : ℕ) → AreOnLetters list → k < length list →
    ((j : ℕ) (e f : Entry) → k < j → slice_get list k ≡ Some e → slice_get list j ≡ Some f → Dominates f.bound e.bound → ⊥) → is_live list k ≡ true
none_live [] k small inside none = absurd (omega (arith, inside))
none_live (x ∷ xs) zero small inside none = elim (cases_Bool (is_covered xs x.bound)) [
  | inl covered ↦
      let d = covered_by xs x.bound (λ k e there. small (suc k) e there) covered in
      absurd (none (suc d.place) x d.entry (omega arith) refl d.there d.dominates)
  | inr free ↦ ap not free
]
none_live (x ∷ xs) (suc k) small inside none =
    none_live xs k (λ j e there. small (suc j) e there) (omega (arith, inside))
    (λ j e f less at_k at_j. none (suc j) e f (omega (arith, less)) at_k at_j)

pub live_decides : (list : List Entry) (k : ℕ) → AreOnLetters list → is_live list k ≡ true ↔ IsLiveAt list k
live_decides list k small = (
  λ live. record { inside = (live_entry list k live).0; none_over = live_none list k live },
  λ is. none_live list k small is.inside is.none_over,
)

pub refuted_decides : (net : Network) (list : List Entry) → AreOnLetters list → is_refuted net list ≡ true ↔ IsRefuted net list
refuted_decides net list small = (
  λ over. (let r = refuted_at net list small over in (r.place, r.entry, r.there, r.refutes)),
  λ found. refuted_from_last net list found.0 found.1 found.2 (refutes_true net found.1.bound found.3),
)

pub live_bounds_are : (list : List Entry) (b : Bound) → AreOnLetters list →
    Contains (live_bounds list) b ↔ ((k : ℕ) × (e : Entry) × (slice_get list k ≡ Some e) × IsLiveAt list k × (e.bound ≡ b))
live_bounds_are list b small = (
  λ has. (let at = listed_live list b has in (at.place, at.entry, at.there, (live_decides list at.place small).0 at.live, at.bound)),
  λ found. subst (Contains (live_bounds list)) found.4 (live_listed list found.0 found.1 found.2 ((live_decides list found.0 small).1 found.3)),
)
