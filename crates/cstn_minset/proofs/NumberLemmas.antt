-- Walks through chains in which each slot's key is its own number.
use Rattle.std.proofs.Common.{◌≡◌, inl, inr, ℕ, ◌+◌, ◌-◌, ◌<◌, ◌≤◌, length, refl, subst, arith}
use Rattle.std.specs.Prelude.{Option, None, Some}
use Rattle.cstn_minset.specs.Chains.{SlotChains, IsIn, HasLeastKey, IsFirstKey}
use Rattle.cstn_minset.specs.Links.{IsStart, IsPrev, AreOwnKeys}
use Rattle.cstn_minset.proofs.LinkLemmas.{in_inside}

-- how many places from this one on there are
abbrev pub left : ℕ → Option ℕ → ℕ
left n None = 0
left n (Some place) = n - place

-- a walk through a chain: `before` is the last slot behind which it came, all up to there are below `slot`, and `place` is next
pub record IsReached (table : SlotChains) (n heads head slot before : ℕ) (place : Option ℕ) : Type 0 where
  pub low : ℕ
  pub start : IsStart table n heads before head low
  pub up : low ≤ slot
  pub here : IsFirstKey table head low place

-- a later place of the chain is nearer to the end
pub nearer : (table : SlotChains) (n head slot k : ℕ) (next : Option ℕ) → length table ≡ n → AreOwnKeys table → IsIn table head slot k → IsFirstKey table head (slot + 1) next → left n next < left n (Some slot)
nearer table n head slot k None size numbers here none = let inside = in_inside table head slot k here in omega (arith, inside)
nearer table n head slot k (Some next) size numbers here first =
    let inside = in_inside table head next first.key first.there in
    omega (arith, inside, first.above, numbers next head first.key first.there)

-- the place that comes next has its own number as its key
pub key_is : (table : SlotChains) (head low slot : ℕ) → AreOwnKeys table → (here : HasLeastKey table head low slot) → IsIn table head slot slot
key_is table head low slot numbers here = subst (λ k. IsIn table head slot k) (numbers slot head here.key here.there) here.there

pub reached_start : (table : SlotChains) (n heads head slot before : ℕ) (place : Option ℕ) → before ≡ n + head → head < heads → IsFirstKey table head 0 place → IsReached table n heads head slot before place
reached_start table n heads head slot before place end inside first = record { low = 0; start = inr (end, inside, refl); up = omega arith; here = first }

pub reached_more : (table : SlotChains) (n heads head slot before here : ℕ) (next : Option ℕ) → AreOwnKeys table → IsReached table n heads head slot before (Some here) → here < slot → ((h k : ℕ) → IsIn table h here k → IsFirstKey table h (k + 1) next) → IsReached table n heads head slot here next
reached_more table n heads head slot before here next numbers walk less step =
    let there = key_is table head walk.low here numbers walk.here in
    record { low = here + 1; start = inl (here, there, refl); up = omega arith; here = step head here there }

pub reached_stop : (table : SlotChains) (n heads head slot before here : ℕ) → AreOwnKeys table → IsReached table n heads head slot before (Some here) → slot ≤ here → IsPrev table n heads head slot before
reached_stop table n heads head slot before here numbers walk most = record {
  low = walk.low;
  start = walk.start;
  up = walk.up;
  gap = λ u j there. elim (walk.here.least u j there) [ inl below ↦ inl below | inr above ↦ inr (omega (arith, above, most, numbers here head walk.here.key walk.here.there)) ];
}

pub reached_end : (table : SlotChains) (n heads head slot before : ℕ) (place : Option ℕ) → ((s : ℕ) → place ≡ Some s → ⊥) → IsReached table n heads head slot before place → IsPrev table n heads head slot before
reached_end table n heads head slot before None not walk = record { low = walk.low; start = walk.start; up = walk.up; gap = λ u j there. inl (walk.here u j there) }
reached_end table n heads head slot before (Some here) not walk = absurd (not here refl)
