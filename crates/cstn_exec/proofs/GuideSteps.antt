-- What the calls of a guide make of its parts.
use Rattle.std.proofs.Common.{ℕ, ◌≡◌, ◌⊎◌, inl, inr, ◌+◌, Bool, false, not, List, [], ◌++◌, Option, Some, None, Result, Ok, Err, take, ◌-◌, arith, refl, ap, ◌∙◌}
use Rattle.std.specs.Prelude.{replicate, IsNone, IfNone, OnOk, OnErr}
use Rattle.std.specs.List.{filter}
use Rattle.std.proofs.lemmas.List.{take_all}
use Rattle.cstn_label.specs.declared.bounds.Bound.{Bound as ProgramBound}
use Rattle.cstn_label.specs.Bounds.{Bound}
use Rattle.cstn_net.specs.Networks.{Network}
use Rattle.cstn_lift.specs.Labelled.{Labelled}
use Rattle.cstn_lift.specs.Lowered.{lowered}
use Rattle.cstn_lift.specs.Read.{LabelledParts}
use Rattle.cstn_exec.specs.declared.errors.ExecError.{ExecError}
use Rattle.cstn_exec.specs.Runs.{Run, known, called}
use Rattle.cstn_exec.specs.Moves.{run_moved}
use Rattle.cstn_exec.specs.Read.{event_refusal}
use Rattle.cstn_exec.specs.Guides.{Guided, holding, others, holds_at, named, left_out, advanced, all_denied, with_left}
use Rattle.cstn_exec.specs.GuideRead.{guide_parts}

pub same_parts : (labels : LabelledParts) (a b : List ProgramBound) (g h : Guided) (xs ys : List ℕ) → a ≡ b → g ≡ h → xs ≡ ys →
    guide_parts labels a g xs ≡ guide_parts labels b h ys
same_parts labels a b g h xs ys bounds state names =
    ap (λ (l : List ProgramBound). guide_parts labels l g xs) bounds ∙ ap (λ (s : Guided). guide_parts labels b s xs) state
    ∙ ap (λ (l : List ℕ). guide_parts labels b h l) names

-- the state after `sort_out` went through the time-points that are called at t
pub sorted_state : (m : Labelled) (bounds : List Bound) (g : Guided) (t : ℕ) (values : ℕ → Option Bool) (net : Network) (run after : Run)
    (names : List ℕ) (left : List Bool) → values ≡ known (lowered m) g.run (t + 1) → net ≡ lowered m → run ≡ run_moved (lowered m) bounds g.run t →
    names ≡ called (lowered m) bounds g.run t →
    after ≡ all_denied net (others m values names) run →
    left ≡ with_left (others m values names) g.left →
    record { run = after; left = left } ≡ advanced m bounds g t
sorted_state m bounds g t values net run after names left same_values same_net same_run same_names after_is left_is =
    let out = left_out m bounds g.run t in
    let gone = others m values names in
    let same : gone ≡ out =
    ap (λ (v : ℕ → Option Bool). others m v names) same_values
    ∙ ap (filter (λ x. not (holds_at m g.run t x))) same_names in
    let run_is : after ≡ all_denied (lowered m) out (run_moved (lowered m) bounds g.run t) =
    after_is ∙ ap (λ (n : Network). all_denied n gone run) same_net ∙ ap (λ (ys : List ℕ). all_denied (lowered m) ys run) same
    ∙ ap (λ (r : Run). all_denied (lowered m) out r) same_run in
    let marks_are : left ≡ with_left out g.left = left_is ∙ ap (λ (ys : List ℕ). with_left ys g.left) same in
    ap (λ (r : Run). record { run = r; left = left }) run_is
    ∙ ap (λ (l : List Bool). record { run = all_denied (lowered m) out (run_moved (lowered m) bounds g.run t); left = l }) marks_are

pub sorted_names : (m : Labelled) (bounds : List Bound) (run : Run) (t : ℕ) (values : ℕ → Option Bool) (names after : List ℕ) →
    values ≡ known (lowered m) run (t + 1) → names ≡ called (lowered m) bounds run t →
    after ≡ holding m values names → after ≡ named m bounds run t
sorted_names m bounds run t values names after same_values same_names after_is =
    after_is ∙ ap (λ (v : ℕ → Option Bool). holding m v names) same_values
    ∙ ap (filter (holds_at m run t)) same_names

-- an outcome was accepted, or refused
pub see_cases : {X : Type 0} (r : Result X ExecError) (P Q : Type 0) → OnOk r P → OnErr r Q → ((event_refusal r ≡ None) × P) ⊎ Q
see_cases (Ok x) P Q p q = inl (refl, p)
see_cases (Err e) P Q p q = inr q

pub if_none : (o : Option ℕ) (P : Type 0) → (IsNone o → P) → IfNone o P
if_none None P h = h refl
if_none (Some t) P h = tt

pub filled_with : (old new : List Bool) (n k : ℕ) → old ≡ [] → k ≡ 0 → new ≡ take n old ++ replicate (n - k) false → new ≡ replicate n false
filled_with old new n k none zero_is e =
    let left : n - k ≡ n = omega arith in
    e ∙ ap (λ l. take n l ++ replicate (n - k) false) none ∙ ap (λ l. l ++ replicate (n - k) false) (take_all n [] (omega arith))
    ∙ ap (λ m. replicate m false) left
