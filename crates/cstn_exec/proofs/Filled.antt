-- Lists that repeat one value.
use Rattle.std.proofs.Common.{ℕ, ◌≡◌, List, [], ◌++◌, Option, None, ◌-◌, take, arith, ap, ◌∙◌}
use Rattle.std.specs.Prelude.{replicate}
use Rattle.std.proofs.lemmas.List.{take_all}

pub filled : (old new : List (Option ℕ)) (n k : ℕ) → old ≡ [] → k ≡ 0 → new ≡ take n old ++ replicate (n - k) None → new ≡ replicate n None
filled old new n k none zero_is e =
    let left : n - k ≡ n = omega arith in
    e ∙ ap (λ l. take n l ++ replicate (n - k) None) none ∙ ap (λ l. l ++ replicate (n - k) None) (take_all n [] (omega arith))
    ∙ ap (λ m. replicate m None) left
