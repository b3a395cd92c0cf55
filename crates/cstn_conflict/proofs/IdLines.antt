-- Lines of ids.
use Rattle.std.proofs.Common.{◌≡◌, ℕ, suc, ◌+◌, ◌<◌, List, [], ◌∷◌, ◌++◌, take, length, get_or, sym, ◌∙◌, ap, arith}
use Rattle.std.specs.Prelude.{flat_map, decimal}
use Rattle.std.proofs.Math.Seq.{take-suc}
use Rattle.std.proofs.lemmas.List.{flat_map_more}

-- an id after a space
abbrev pub spaced : ℕ → List ℕ
spaced id = 32 ∷ decimal id

-- the first i ids, and then the next one, are the first i + 1
pub ids_more : (text now new ids : List ℕ) (i d : ℕ) → now ≡ text ++ flat_map spaced (take i ids) → i < length ids → new ≡ now ++ spaced (get_or ids i d) → new ≡ text ++ flat_map spaced (take (i + 1) ids)
ids_more text now new ids i d before inside is =
    let next : take (i + 1) ids ≡ take i ids ++ get_or ids i d ∷ [] = ap (λ (n : ℕ). take n ids) (plus_one i) ∙ take-suc ids i d inside in
    is ∙ ap (λ (bs : List ℕ). bs ++ spaced (get_or ids i d)) before
    ∙ flat_map_more spaced text (take i ids) (get_or ids i d)
    ∙ ap (λ (xs : List ℕ). text ++ flat_map spaced xs) (sym next)
  where
    plus_one : (n : ℕ) → n + 1 ≡ suc n
    plus_one n = omega arith
