-- Ranges of pages.
use Rattle.std.proofs.Common.{◌++◌, List, [], ◌∷◌, arith}
use Rattle.std.specs.Prelude.{ℤ, ◌≤ℤ◌, All}
use Rattle.std.proofs.lemmas.Int.{ints}
use Rattle.std.proofs.lemmas.List.Elements.{All-push}
use Rattle.cstn_minset.specs.declared.columns.Record.{Record}

-- a wider range holds of one record more
pub page_with : (low high low' high' : ℤ) (rs : List Record) (r : Record) → All (λ x. (low ≤ℤ x.least) × (x.least ≤ℤ high)) rs → (low' ≤ℤ low) × (low' ≤ℤ r.least) → (high ≤ℤ high') × (r.least ≤ℤ high') → All (λ x. (low' ≤ℤ x.least) × (x.least ≤ℤ high')) (rs ++ r ∷ [])
page_with low high low' high' rs r is lower higher =
    All-push (λ x. (low' ≤ℤ x.least) × (x.least ≤ℤ high')) rs r
    (λ k d inside. let old = is k d inside in (omega (arith, ints, old.0, lower.0), omega (arith, ints, old.1, higher.0)))
    (lower.1, higher.1)
