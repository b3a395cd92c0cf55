-- What a list has, and where.
use Rattle.std.proofs.Common.{ℕ, ◌≡◌, ◌+◌, ◌≤◌, ◌<◌, List, Some, length, get_or, arith, inl, inr, ap, ◌∙◌, subst}
use Rattle.std.specs.Prelude.{slice_get, map, option_map}
use Rattle.std.specs.List.{Contains}
use Rattle.std.proofs.lemmas.Bool.{cases_lt}
use Rattle.std.proofs.lemmas.List.{get_or_default}
use Rattle.std.proofs.lemmas.Option.{slice_get-map, slice_get_within}
use Rattle.cstn_facts.proofs.Members.{there_is, is_there}
use Rattle.cstn_facts.proofs.Places.{one_there}
use Rattle.cstn_label.specs.declared.bounds.Bound.{Bound as Declared}
use Rattle.cstn_label.specs.Bounds.{Bound}
use Rattle.cstn_label.specs.Read.{the_bound}
use Rattle.cstn_net.specs.Networks.{Network}
use Rattle.cstn_closed.specs.Faults.{IsFitBound}
use Rattle.cstn_closed.specs.Instances.{AreFit, IsSoBefore, IsSoAt}

pub so_none : (P : Bound → Type 0) (bounds : List Bound) → IsSoBefore P bounds 0
so_none P bounds j b h there = absurd (omega arith)

pub so_more : (P : Bound → Type 0) (bounds : List Bound) (i : ℕ) → IsSoBefore P bounds i → ((b : Bound) → slice_get bounds i ≡ Some b → P b) →
    IsSoBefore P bounds (i + 1)
so_more P bounds i before here j b h there = elim (cases_lt j i) [
  | inl earlier ↦ before j b earlier there
  | inr past ↦ let same : j ≡ i = omega arith in here b (subst (λ k. slice_get bounds k ≡ Some b) same there)
]

-- P holds of the bounds at the first n + 1 of some places, where it does at the first n and at the next
pub so_next : (P : Bound → Type 0) (bounds : List Bound) (places : List ℕ) (n d : ℕ) → n < length places → ((m : ℕ) → m < n → IsSoAt P bounds (get_or places m 0)) →
    IsSoAt P bounds (get_or places n d) → (m : ℕ) → m < n + 1 → IsSoAt P bounds (get_or places m 0)
so_next P bounds places n d inside done here m before = elim (cases_lt m n) [
  | inl earlier ↦ done m earlier
  | inr past ↦ subst (IsSoAt P bounds) (get_or_default places n d 0 inside ∙ ap (λ k. get_or places k 0) (let e : n ≡ m = omega arith in e)) here
]

pub so_all : (P : Bound → Type 0) (bounds : List Bound) (n : ℕ) → length bounds ≤ n → IsSoBefore P bounds n → (b : Bound) → Contains bounds b → P b
so_all P bounds n long before b has =
    let there = there_is bounds b has in
    let within = slice_get_within bounds there.0 b there.1 in
    before there.0 b (omega arith) there.1

-- the bound at a place of the mapped list is the image of the one at that place
pub image_there : (bounds : List Declared) (i : ℕ) (b : Declared) → slice_get bounds i ≡ Some b → slice_get (map the_bound bounds) i ≡ Some (the_bound b)
image_there bounds i b there = slice_get-map the_bound bounds i ∙ ap (option_map the_bound) there

pub so_here : (P : Bound → Type 0) (bounds : List Declared) (i : ℕ) (b : Declared) → slice_get bounds i ≡ Some b → P (the_bound b) →
    (d : Bound) → slice_get (map the_bound bounds) i ≡ Some d → P d
so_here P bounds i b there so d at = subst P (one_there (map the_bound bounds) i (the_bound b) d (image_there bounds i b there) at) so

pub fit_here : (net : Network) (bounds : List Declared) (i : ℕ) (b : Declared) → AreFit net (map the_bound bounds) → slice_get bounds i ≡ Some b → IsFitBound net (the_bound b)
fit_here net bounds i b fit there = fit (the_bound b) (is_there (map the_bound bounds) i (the_bound b) (image_there bounds i b there))
