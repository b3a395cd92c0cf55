-- A name that has no number isn't in the list.
use Rattle.std.proofs.Common.{◌≡◌, ℕ, ◌<◌, ◌+◌, suc, not, Bool, true, false, List, [], ◌∷◌, length, Option, Some, None, cond, ap, arith, lt-ltb}
use Rattle.std.specs.Prelude.{◌||◌, Contains, if◌then◌else◌, is_some}
use Rattle.std.specs.List.{list_any, position, position_or_len}
use Rattle.std.specs.Str.{bytes_eq}
use Rattle.std.proofs.lemmas.Cmp.{nat_list_eq_equiv}
use Rattle.std.proofs.lemmas.Map.Views.{list_any-from_Contains}
use Rattle.cstn_markup.specs.Bytes.{is_same, when}
use Rattle.cstn_text.specs.Names.{number_of}
use Rattle.cstn_graphml.specs.DrawnGraph.{DrawnGraph, origin_name, node_of}

any_by : (b c : Bool) (k n : ℕ) → (b || c) ≡ true → (c ≡ true → k < n) → cond (not b) (1 + k) 0 < suc n
any_by true c k n e h = omega arith
any_by false c k n e h = omega (arith, h e)

any_place : (p : List ℕ → Bool) (xs : List (List ℕ)) → list_any p xs ≡ true → position_or_len p xs < length xs
any_place p [] e = absurd (cc)
any_place p (x ∷ xs) e = any_by (p x) (list_any p xs) (position_or_len p xs) (length xs) e (λ h. any_place p xs h)

nowhere : (p : List ℕ → Bool) (xs : List (List ℕ)) → position p xs ≡ None → list_any p xs ≡ true → ⊥
nowhere p xs e h =
    let k : ℕ = position_or_len p xs in
    let there : position p xs ≡ Some k = ap (λ b. cond b (Some k) None) (lt-ltb k (length xs) (any_place p xs h)) in
    absurd (cc)

-- a name that no node has, and that isn't the origin's, has no number
fresh_by : (b c : Bool) (later : Option ℕ) → (if b then when c 0 else later) ≡ None → b ≡ false → later ≡ None
fresh_by true c later e f = absurd (cc)
fresh_by false c later e f = e

pub fresh : (name : List ℕ) (graph : DrawnGraph) → node_of name graph ≡ None → is_same name origin_name ≡ false → Contains graph.names name → ⊥
fresh name graph e other there =
    nowhere (bytes_eq name) graph.names (fresh_by (is_same name origin_name) (is_some graph.origin) (number_of graph.names name) e other)
    (list_any-from_Contains {eq = bytes_eq} nat_list_eq_equiv name graph.names there)
