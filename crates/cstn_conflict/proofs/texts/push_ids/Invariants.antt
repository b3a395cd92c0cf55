use Rattle.std.proofs.Common.{◌≡◌, ◌++◌, ◌∷◌, take, flat_map, decimal}
use Rattle.cstn_conflict.proofs.texts.push_ids.Given as goal

abbrev pub invariant-loop-id : goal.invariant-loop-id
invariant-loop-id l = l.text.items ≡ l.fn.text.items ++ flat_map (λ id. 32 ∷ decimal id) (take l.id-index l.ids)
