-- Going through a list of time-points, some of which are named and the rest left out.
use Rattle.std.proofs.Common.{ℕ, zero, suc, ◌≡◌, ◌<◌, ◌≤◌, List, [], ◌∷◌, length, map, arith, refl, sym, ap, ◌∙◌}
use Rattle.std.specs.Prelude.{slice_index_or}
use Rattle.std.specs.List.{AllPairs}
use Rattle.std.proofs.lemmas.List.{get_or-map, length-map}
use Rattle.cstn_label.specs.declared.nodes.NodeId.{NodeId}

pub any_default : (xs : List ℕ) (k d e : ℕ) → k < length xs → slice_index_or xs k d ≡ slice_index_or xs k e
any_default [] k d e inside = absurd (omega arith)
any_default (x ∷ xs) zero d e inside = refl
any_default (x ∷ xs) (suc k) d e inside = any_default xs k d e (omega arith)

-- the name at place k has the number at place k
pub name_at : (ns : List NodeId) (xs : List ℕ) (k : ℕ) (d : NodeId) → map (λ n. n.0) ns ≡ xs → k < length xs →
    (k < length ns) × (slice_index_or xs k (slice_index_or ns k d).0 ≡ (slice_index_or ns k d).0)
name_at ns xs k d same inside =
    let long = length-map ns (λ n. n.0) in
    let size = ap length same in
    let here : k < length ns = omega arith in (
      here,
      any_default xs k (slice_index_or ns k d).0 d.0 inside
          ∙ ap (λ l. slice_index_or l k d.0) (sym same) ∙ get_or-map (λ n. n.0) ns k d d.0 here,
    )

-- each number of an ascending list is at least its place
pub place_below : (xs : List ℕ) → AllPairs (λ x y. x < y) xs → (k d : ℕ) → k < length xs → k ≤ slice_index_or xs k d
place_below xs rises zero d inside = omega arith
place_below xs rises (suc k) d inside =
    let before = place_below xs rises k d (omega arith) in
    let step = rises k (suc k) d (omega arith) inside in
    omega arith
