-- The places of a list at which bounds mark a proposition.
use Rattle.std.specs.Prelude.{ℕ, ◌+◌, Bool, true, false, List, [], ◌∷◌, map, Vec}
use Rattle.std.specs.List.{range_with_len}
use Rattle.std.specs.declared.alloc.Global.{Global}
use Rattle.cstn_label.specs.Marks.{is_marked}
use Rattle.cstn_label.specs.Bounds.{Bound}

-- the places with k put before them, if there is a mark
abbrev pub put_place_if : Bool → ℕ → List ℕ → List ℕ
put_place_if true k places = k ∷ places
put_place_if false k places = places

-- the places of the bounds that mark p, in ascending order, where the first bound of the list is at the place k
abbrev pub marking_from : ℕ → ℕ → List Bound → List ℕ
marking_from p k [] = []
marking_from p k (b ∷ bounds) = put_place_if (is_marked (b.label p)) k (marking_from p (k + 1) bounds)

-- the places of the bounds that mark p, in ascending order
abbrev pub marking : ℕ → List Bound → List ℕ
marking p bounds = marking_from p 0 bounds

-- for each of the 52 propositions the places of the bounds that mark it
abbrev pub markings : List Bound → List (List ℕ)
markings bounds = map (λ p. marking p bounds) (range_with_len 0 52)

-- the numbers that a vector holds
abbrev pub items : Vec ℕ Global → List ℕ
items v = v.items
