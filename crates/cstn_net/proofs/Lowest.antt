-- First places and lowest faults: how they are found, and that there is at most one of each.
use Rattle.std.proofs.Common.{ℕ, ◌≡◌, inl, inr, ◌<◌, List, length, take, get_or, subst, sym, arith, ◌∙◌}
use Rattle.std.specs.List.{All}
use Rattle.std.proofs.lemmas.Bool.{cases_lt}
use Rattle.std.proofs.lemmas.List.{length-take, get_or-take, get_or_default}
use Rattle.cstn_net.specs.Drafts.{IsLeastOfFirst}
use Rattle.cstn_net.specs.Faults.{IsFirstBelow, IsFirst, IsLowestFault}

-- where x stands at k and the fact holds of it, and of nothing before it, k is the first place
pub first_at : {X : Type 0} (P : X → Type 0) (xs : List X) (k : ℕ) (x : X) → k < length xs → x ≡ get_or xs k x → P x →
    All (λ y. P y → ⊥) (take k xs) → IsFirst P xs k
first_at P xs k x inside is here none = record {
  inside = inside;
  here = λ d. subst P (is ∙ get_or_default xs k x d inside) here;
  before = λ i before held.
      let long = length-take k xs in
      none i x (omega arith) (subst P (sym (get_or-take k xs i x before)) (held x));
}

-- where x stands at k and the fact fails of it, and of nothing before it, k is the first place at which it fails
pub fails_first : {X : Type 0} (P : X → Type 0) (xs : List X) (k : ℕ) (x : X) → k < length xs → x ≡ get_or xs k x → (P x → ⊥) →
    All P (take k xs) → IsFirst (λ y. P y → ⊥) xs k
fails_first P xs k x inside is fails all =
    first_at (λ y. P y → ⊥) xs k x inside is fails (λ i d below no. no (all i d below))

-- where x stands at k, p is the least number for which the fact holds of x, and it holds for none of anything before x, p is the
-- least at the first place
pub least_at : {X : Type 0} (P : ℕ → X → Type 0) (xs : List X) (k : ℕ) (x : X) (p : ℕ) → k < length xs → x ≡ get_or xs k x → P p x →
    ((q : ℕ) → q < p → P q x → ⊥) → All (λ y. (q : ℕ) → P q y → ⊥) (take k xs) → IsLeastOfFirst P xs p
least_at {X} P xs k x p inside is here least none =
    let at : (d : X) → x ≡ get_or xs k d = λ d. is ∙ get_or_default xs k x d inside in
    record {
      place = k;
      first = first_at (λ y. (q : ℕ) × P q y) xs k x inside is (p, here) (λ i d below held. none i d below held.0 held.1);
      has = λ d. subst (P p) (at d) here;
      least = λ q below d held. least q below (subst (P q) (sym (at d)) held);
    }

-- at most one number is the least of which the fact holds
pub least_once : (P : ℕ → Type 0) (x y : ℕ) → P x → ((z : ℕ) → z < x → P z → ⊥) → P y → ((z : ℕ) → z < y → P z → ⊥) → x ≡ y
least_once P x y here before there earlier = elim (cases_lt x y) [
  | inl lower ↦ absurd (earlier x lower here)
  | inr upto ↦ elim (cases_lt y x) [
    | inl higher ↦ absurd (before y higher there)
    | inr downto ↦ omega arith
  ]
]

pub first_once : (n : ℕ) (P : ℕ → Type 0) (x y : ℕ) → IsFirstBelow n P x → IsFirstBelow n P y → x ≡ y
first_once n P x y one other = least_once P x y one.here one.before other.here other.before

-- where two faults with one number are one, there is at most one lowest fault
pub lowest_once : {E : Type 0} (HasFault : E → Type 0) (number : E → ℕ) →
    ((e f : E) → HasFault e → HasFault f → number e ≡ number f → e ≡ f) →
    (e f : E) → IsLowestFault HasFault number e → IsLowestFault HasFault number f → e ≡ f
lowest_once HasFault number same e f one other =
    let upto = one.lowest f other.has in
    let downto = other.lowest e one.has in
    same e f one.has other.has (omega arith)
