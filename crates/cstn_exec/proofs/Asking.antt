-- The moments that bounds ask for by what is known, when one bound after another is read.
use Rattle.std.proofs.Common.{ℕ, ◌≡◌, ◌+◌, max, Bool, true, false, cond, ◌&&◌, List, [], ◌∷◌, ◌++◌, Some, map, take, arith, refl, sym, ap, ◌∙◌}
use Rattle.std.specs.Prelude.{◌==◌, slice_get}
use Rattle.std.proofs.Math.Path.{fun_ext}
use Rattle.std.proofs.lemmas.Option.{get_or_from_slice_get, slice_get_within}
use Rattle.std.proofs.lemmas.List.{take_more, map-append}
use Rattle.cstn_label.specs.declared.knowledge.Known.{Known}
use Rattle.cstn_label.specs.Bounds.{Bound}
use Rattle.cstn_label.specs.declared.bounds.Bound.{Bound as ProgramBound}
use Rattle.cstn_label.specs.Read.{the_bound, known_value}
use Rattle.cstn_net.specs.Networks.{Network}
use Rattle.cstn_plan.specs.Asked.{greatest, moment_of}
use Rattle.cstn_plan.specs.Plans.{the_bounds}
use Rattle.cstn_exec.specs.Runs.{Run, known, is_possible, earliest_moment}

-- a test of one bound and that of another may be made in either order
swapped : (c d : Bool) (m n k : ℕ) →
    cond c (max m (cond d (max n k) n)) (cond d (max n k) n) ≡ cond d (max (cond c (max m n) n) k) (cond c (max m n) n)
swapped true true m n k = omega arith
swapped true false m n k = refl
swapped false true m n k = refl
swapped false false m n k = refl

first_asked : (c : Bool) (k : ℕ) → cond c (max k 0) 0 ≡ cond c (max 0 k) 0
first_asked true k = omega arith
first_asked false k = refl

greatest_push : (test : Bound → Bool) (xs : List Bound) (b : Bound) →
    greatest test (xs ++ b ∷ []) ≡ cond (test b) (max (greatest test xs) (moment_of b.least)) (greatest test xs)
greatest_push test [] b = first_asked (test b) (moment_of b.least)
greatest_push test (x ∷ xs) b =
    ap (λ n. cond (test x) (max (moment_of x.least) n) n) (greatest_push test xs b)
    ∙ swapped (test x) (test b) (moment_of x.least) (greatest test xs) (moment_of b.least)

-- the greatest moment that the first k + 1 bounds ask for, from that of the first k
pub greatest_more : (test : Bound → Bool) (bounds : List ProgramBound) (k : ℕ) (b : ProgramBound) (before now : ℕ) → slice_get bounds k ≡ Some b →
    before ≡ greatest test (the_bounds (take k bounds)) → now ≡ cond (test (the_bound b)) (max before (moment_of b.least)) before →
    now ≡ greatest test (the_bounds (take (k + 1) bounds))
greatest_more test bounds k b before now at old new =
    let inside = slice_get_within bounds k b at in
    let here = get_or_from_slice_get bounds k b b at in
    let more : the_bounds (take (k + 1) bounds) ≡ the_bounds (take k bounds) ++ the_bound b ∷ [] =
    ap (map the_bound) (take_more bounds k b inside ∙ ap (λ c. take k bounds ++ c ∷ []) here)
    ∙ map-append the_bound (take k bounds) (b ∷ []) in
    new ∙ ap (λ n. cond (test (the_bound b)) (max n (moment_of b.least)) n) old
    ∙ sym (ap (greatest test) more ∙ greatest_push test (the_bounds (take k bounds)) (the_bound b))

-- bounds ask for the same moment by the words k, where these hold exactly the values that are known before u
pub earliest_by : (net : Network) (bounds : List Bound) (run : Run) (u x : ℕ) (k : Known) →
    ((p : ℕ) → known_value k p ≡ known net run u p) →
    greatest (λ b. (b.node == x) && is_possible (known_value k) b.label) bounds ≡ earliest_moment net bounds run u x
earliest_by net bounds run u x k same =
    let e : known_value k ≡ known net run u = fun_ext same in
    ap (λ values. greatest (λ b. (b.node == x) && is_possible values b.label) bounds) e
