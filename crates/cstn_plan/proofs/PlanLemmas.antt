-- Bounds of plans, and the strategy of a sound one.
use Rattle.std.proofs.Common.{◌≡◌, ℕ, List, Some, ap, ◌∙◌}
use Rattle.std.specs.Prelude.{slice_get, option_map}
use Rattle.std.specs.List.{Contains}
use Rattle.std.proofs.lemmas.Option.{slice_get-map, slice_get_within, get_or_from_slice_get}
use Rattle.cstn_label.specs.declared.bounds.Bound.{Bound as DeclaredBound}
use Rattle.cstn_label.specs.Bounds.{Bound}
use Rattle.cstn_label.specs.Read.{the_bound}
use Rattle.cstn_net.specs.Networks.{Network, IsNetwork}
use Rattle.cstn_rules.specs.Closed.{IsClosed}
use Rattle.cstn_plan.specs.Asked.{AllSound, asked}
use Rattle.cstn_plan.specs.Plans.{the_bounds, IsEarliest}
use Rattle.cstn_plan.proofs.Strategies.{asked_strategy, asked_least, held_before, held_then}

-- the bound at a place is one of the plan's
pub bound_there : (bounds : List DeclaredBound) (k : ℕ) (b : DeclaredBound) → slice_get bounds k ≡ Some b → Contains (the_bounds bounds) (the_bound b)
bound_there bounds k b there =
    let image : slice_get (the_bounds bounds) k ≡ Some (the_bound b) = slice_get-map the_bound bounds k ∙ ap (option_map the_bound) there in
    (k, slice_get_within (the_bounds bounds) k (the_bound b) image, get_or_from_slice_get (the_bounds bounds) k (the_bound b) (the_bound b) image)

-- where a closed list's bounds hold in every strategy, the moments that it asks for are the earliest
pub asked_earliest : (net : Network) (bounds : List Bound) → IsNetwork net → IsClosed net bounds → AllSound net bounds → IsEarliest net bounds (asked net bounds)
asked_earliest net bounds wf closed sound = record {
  strategy = asked_strategy net bounds wf closed;
  least = asked_least net bounds wf closed sound;
  held = λ s t x here. (held_then net bounds wf closed s t x here, held_before net bounds wf closed s t x here);
}
