-- The time-points that a guide names.
use Rattle.std.proofs.Common.{◌≡◌, ℕ, ◌<◌, ◌≤◌, List, length, ap, sym, subst, arith}
use Rattle.std.specs.Prelude.{get_or}
use Rattle.std.specs.List.{All, count_by, range_with_len}
use Rattle.std.proofs.lemmas.List.Elements.{All-filter}
use Rattle.std.proofs.lemmas.List.Sums.{length-filter, count_by-le-length}
use Rattle.std.proofs.lemmas.List.FromFn.{length-range_with_len}
use Rattle.std.proofs.lemmas.List.{get_or-map, length-map}
use Rattle.cstn_label.specs.declared.nodes.NodeId.{NodeId}
use Rattle.cstn_label.specs.Bounds.{Bound}
use Rattle.cstn_net.specs.Networks.{count}
use Rattle.cstn_lift.specs.Labelled.{Labelled}
use Rattle.cstn_lift.specs.Lowered.{lowered}
use Rattle.cstn_exec.specs.Runs.{Run, is_free, called}
use Rattle.cstn_exec.specs.Guides.{holds_at, named}
use Rattle.cstn_exec.specs.Running.{the_nodes}
use Rattle.cstn_exec.proofs.Names.{range_below}

-- each number that a guide names at a moment is a time-point
pub named_inside : (m : Labelled) (bounds : List Bound) (run : Run) (t : ℕ) (xs : List NodeId) (n : ℕ) → the_nodes xs ≡ named m bounds run t → n ≡ count m.base → All (λ (x : NodeId). x.0 < n) xs
named_inside m bounds run t xs n is size = λ k d inside.
    let within : k < length (the_nodes xs) = subst (λ (m : ℕ). k < m) (sym (length-map xs (λ (x : NodeId). x.0))) inside in
    let all : All (λ (x : ℕ). x < count m.base) (the_nodes xs) = subst (λ (ys : List ℕ). All (λ (x : ℕ). x < count m.base) ys) (sym is) (All-filter (holds_at m run t) (λ x. x < count m.base) (called (lowered m) bounds run t) (All-filter (is_free (lowered m) bounds run t) (λ x. x < count m.base) (range_with_len 0 (count m.base)) (range_below (count m.base)))) in
    subst (λ (m : ℕ). (get_or xs k d).0 < m) (sym size) (subst (λ (x : ℕ). x < count m.base) (get_or-map (λ (x : NodeId). x.0) xs k d 0 inside) (all k 0 within))

-- at a moment, a guide names at most as many time-points as the network has
pub named_few : (m : Labelled) (bounds : List Bound) (run : Run) (t : ℕ) (xs : List NodeId) → the_nodes xs ≡ named m bounds run t → length xs ≤ count m.base
named_few m bounds run t xs is =
    let size : length (the_nodes xs) ≡ length xs = length-map xs (λ (x : NodeId). x.0) in
    let same : length (the_nodes xs) ≡ length (named m bounds run t) = ap length is in
    let some : length (named m bounds run t) ≡ count_by (holds_at m run t) (called (lowered m) bounds run t) = length-filter (holds_at m run t) (called (lowered m) bounds run t) in
    let most = count_by-le-length (holds_at m run t) (called (lowered m) bounds run t) in
    let few : length (called (lowered m) bounds run t) ≡ count_by (is_free (lowered m) bounds run t) (range_with_len 0 (count m.base)) = length-filter (is_free (lowered m) bounds run t) (range_with_len 0 (count m.base)) in
    let all = count_by-le-length (is_free (lowered m) bounds run t) (range_with_len 0 (count m.base)) in
    let points : length (range_with_len 0 (count m.base)) ≡ count m.base = length-range_with_len 0 (count m.base) in
    omega (arith, size, same, some, most, few, all, points)
