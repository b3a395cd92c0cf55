-- The bounds of a list, kept one after the other.
use Rattle.std.proofs.Common.{ℕ, ◌≡◌, ◌+◌, ◌<◌, List, [], ◌∷◌, ◌++◌, length, get_or, map, take, arith, sym, subst, ap, ◌∙◌}
use Rattle.std.specs.Prelude.{Vec}
use Rattle.std.specs.declared.alloc.Global.{Global}
use Rattle.std.proofs.lemmas.List.{length-map, length-take, map_more}
use Rattle.cstn_label.specs.declared.bounds.Bound.{Bound as Declared}
use Rattle.cstn_label.specs.Bounds.{Bound}
use Rattle.cstn_label.specs.Read.{the_bound}
use Rattle.cstn_rules.specs.Closed.{IsCovered}
use Rattle.cstn_closed.specs.Minimal.{AreKept, AreFresh, IsPut}
use Rattle.cstn_closed.proofs.CoverLemmas.{kept_put, kept_still}
use Rattle.cstn_closed.proofs.FreshLemmas.{fresh_put, fresh_still}

-- the first k bounds are kept, and their places are told that no earlier one dominates
pub record AreKeptUpto (xs : List Declared) (k : ℕ) (lists : List (Vec Declared Global)) (places : List ℕ) : Type 0 where
  pub kept : AreKept (map the_bound (take k xs)) lists
  pub fresh : AreFresh (map the_bound (take k xs)) places

module _ (xs : List Declared) (k : ℕ) (x : Declared) (lists : List (Vec Declared Global)) (places : List ℕ) (inside : k < length xs) (there : x ≡ get_or xs k x)
    (upto : AreKeptUpto xs k lists places) where
  more : map the_bound (take (k + 1) xs) ≡ map the_bound (take k xs) ++ the_bound x ∷ []
  more = map_more the_bound xs k x inside ∙ ap (λ y. map the_bound (take k xs) ++ the_bound y ∷ []) (sym there)

  count : length (map the_bound (take k xs)) ≡ k
  count = omega (arith, length-map (take k xs) the_bound, length-take k xs)

  pub next_put : (new : List (Vec Declared Global)) (after : List ℕ) → IsPut (the_bound x) lists new → after ≡ places ++ k ∷ [] → AreKeptUpto xs (k + 1) new after
  next_put new after put added = record {
    kept = subst (λ (bs : List Bound). AreKept bs new) (sym more) (kept_put (map the_bound (take k xs)) (the_bound x) lists new upto.kept put);
    fresh = subst (λ (bs : List Bound). AreFresh bs after) (sym more)
        (subst (λ (ps : List ℕ). AreFresh (map the_bound (take k xs) ++ the_bound x ∷ []) ps) (ap (λ n. places ++ n ∷ []) count ∙ sym added)
        (fresh_put (map the_bound (take k xs)) (the_bound x) places upto.fresh));
  }

  pub next_still : IsCovered (map the_bound (take k xs)) (the_bound x) → AreKeptUpto xs (k + 1) lists places
  next_still covered = record {
    kept = subst (λ (bs : List Bound). AreKept bs lists) (sym more) (kept_still (map the_bound (take k xs)) (the_bound x) lists upto.kept covered);
    fresh = subst (λ (bs : List Bound). AreFresh bs places) (sym more) (fresh_still (map the_bound (take k xs)) (the_bound x) places upto.fresh covered);
  }
