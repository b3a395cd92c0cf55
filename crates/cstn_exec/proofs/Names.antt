-- The names of time-points in a line.
use Rattle.std.proofs.Common.{◌≡◌, ℕ, suc, ◌+◌, ◌*◌, ◌<◌, ◌≤◌, List, [], ◌∷◌, ◌++◌, length, take, map, ap, sym, ◌∙◌, subst, arith, append_assoc, String, Global, string_bytes}
use Rattle.std.specs.Prelude.{get_or, flat_map, slice_get, Some}
use Rattle.std.specs.List.{All, count_by, range_with_len}
use Rattle.std.proofs.lemmas.List.Elements.{All-filter}
use Rattle.std.proofs.lemmas.List.Sums.{length-filter, count_by-le-length}
use Rattle.std.proofs.lemmas.List.FromFn.{length-range_with_len, get_or-range_with_len}
use Rattle.std.proofs.Math.Seq.{take-suc}
use Rattle.std.proofs.lemmas.List.{get_or-map, length-map, map-append, take_all}
use Rattle.std.proofs.lemmas.Option.{slice_get_within, slice_get-get_or}
use Rattle.std.proofs.lemmas.Grind.{flat_map-append, common_steps}
use Rattle.std.proofs.lemmas.List.Folds.{flat_map-map}
use Rattle.cstn_label.specs.declared.nodes.NodeId.{NodeId}
use Rattle.cstn_label.specs.Bounds.{Bound}
use Rattle.cstn_net.specs.Networks.{Network, count}
use Rattle.cstn_exec.specs.Runs.{Run, is_free, called}
use Rattle.cstn_text.specs.Names.{AreNames}
use Rattle.cstn_text.specs.PrintedNames.{printed_name}
use Rattle.cstn_exec.specs.Running.{spaced, the_nodes}

-- a time-point's name after a space
abbrev spaced_name : List (List ℕ) → NodeId → List ℕ
spaced_name names x = 32 ∷ get_or names x.0 []

spaced_by : (names : List (List ℕ)) (xs : List NodeId) → spaced names (the_nodes xs) ≡ flat_map (spaced_name names) xs
spaced_by names xs = flat_map-map (λ (x : ℕ). 32 ∷ get_or names x []) (λ (x : NodeId). x.0) xs

-- the names of the first i + 1 time-points are those of the first i, and the next name
pub spaced_more : (names : List (List ℕ)) (xs : List NodeId) (i : ℕ) (d : NodeId) → i < length xs → spaced names (the_nodes (take (i + 1) xs)) ≡ spaced names (the_nodes (take i xs)) ++ 32 ∷ get_or names (get_or xs i d).0 []
spaced_more names xs i d inside =
    let next : take (i + 1) xs ≡ take i xs ++ get_or xs i d ∷ [] = ap (λ (n : ℕ). take n xs) (plus_one i) ∙ take-suc xs i d inside in
    ap (λ (ys : List NodeId). spaced names (the_nodes ys)) next
    ∙ spaced_by names (take i xs ++ get_or xs i d ∷ [])
    ∙ flat_map-append (spaced_name names) (take i xs) (get_or xs i d ∷ [])
    ∙ ap (λ (bs : List ℕ). bs ++ flat_map (spaced_name names) (get_or xs i d ∷ [])) (sym (spaced_by names (take i xs)))
    ∙ ap (λ (bs : List ℕ). spaced names (the_nodes (take i xs)) ++ bs) (nothing_after (spaced_name names (get_or xs i d)))
  where
    plus_one : (n : ℕ) → n + 1 ≡ suc n
    plus_one n = omega arith

    nothing_after : (bs : List ℕ) → bs ++ [] ≡ bs
    nothing_after bs = grind (arith, common_steps)

-- printed names are at most three times as long as the names
abbrev ArePrintedShort : Type 0
ArePrintedShort = (name : List ℕ) → length (printed_name name) ≤ 3 * length name

-- printed names are short
pub printed_short : ArePrintedShort → (names : List (List ℕ)) → AreNames names → All (λ name. length name ≤ 192) (map printed_name names)
printed_short most names are = λ k d inside.
    let within : k < length names = subst (λ (n : ℕ). k < n) (length-map names printed_name) inside in
    let name : List ℕ = get_or names k [] in
    let few = (are.each k [] within).few in
    subst (λ (text : List ℕ). length text ≤ 192) (sym (get_or-map printed_name names k [] d within)) (omega (arith, few, most name))

pub range_below : (n : ℕ) → All (λ (x : ℕ). x < n) (range_with_len 0 n)
range_below n = λ k d inside.
    let within : k < n = subst (λ (m : ℕ). k < m) (length-range_with_len 0 n) inside in
    subst (λ (x : ℕ). x < n) (sym (get_or-range_with_len 0 n k d within)) (omega (arith, within))

-- each number that is named at a moment is a time-point
pub called_inside : (net : Network) (bounds : List Bound) (run : Run) (t : ℕ) (xs : List NodeId) (n : ℕ) → the_nodes xs ≡ called net bounds run t → n ≡ count net → All (λ (x : NodeId). x.0 < n) xs
called_inside net bounds run t xs n is size = λ k d inside.
    let within : k < length (the_nodes xs) = subst (λ (m : ℕ). k < m) (sym (length-map xs (λ (x : NodeId). x.0))) inside in
    let all : All (λ (x : ℕ). x < count net) (the_nodes xs) = subst (λ (ys : List ℕ). All (λ (x : ℕ). x < count net) ys) (sym is) (All-filter (is_free net bounds run t) (λ x. x < count net) (range_with_len 0 (count net)) (range_below (count net))) in
    subst (λ (m : ℕ). (get_or xs k d).0 < m) (sym size) (subst (λ (x : ℕ). x < count net) (get_or-map (λ (x : NodeId). x.0) xs k d 0 inside) (all k 0 within))

-- at a moment, at most as many time-points are named as the network has
pub called_few : (net : Network) (bounds : List Bound) (run : Run) (t : ℕ) (xs : List NodeId) → the_nodes xs ≡ called net bounds run t → length xs ≤ count net
called_few net bounds run t xs is =
    let size : length (the_nodes xs) ≡ length xs = length-map xs (λ (x : NodeId). x.0) in
    let same : length (the_nodes xs) ≡ length (called net bounds run t) = ap length is in
    let few : length (called net bounds run t) ≡ count_by (is_free net bounds run t) (range_with_len 0 (count net)) = length-filter (is_free net bounds run t) (range_with_len 0 (count net)) in
    let most = count_by-le-length (is_free net bounds run t) (range_with_len 0 (count net)) in
    let all : length (range_with_len 0 (count net)) ≡ count net = length-range_with_len 0 (count net) in
    omega (arith, size, same, few, most, all)

-- the name that is put for a time-point
pub name_at : (names : List (String Global)) (named' : List NodeId) (k i : ℕ) (name : String Global) (shown : List ℕ) → i ≡ (get_or named' k (record { 0 = 0 })).0 → name ≡ get_or names i name → (get_or named' k (record { 0 = 0 })).0 < length names → shown ≡ string_bytes name → shown ≡ get_or (map string_bytes names) (get_or named' k (record { 0 = 0 })).0 []
name_at names named' k i name shown i_is name_is inside shown_is =
    shown_is ∙ ap string_bytes name_is
    ∙ sym (get_or-map string_bytes names i name [] (subst (λ (j : ℕ). j < length names) (sym i_is) inside))
    ∙ ap (λ (j : ℕ). get_or (map string_bytes names) j []) i_is

-- the name that is put has at most 192 bytes
pub shown_short : (names : List (String Global)) (j : ℕ) (shown : List ℕ) → All (λ name. length name ≤ 192) (map string_bytes names) → j < length names → shown ≡ get_or (map string_bytes names) j [] → length shown ≤ 192
shown_short names j shown short inside is =
    subst (λ (text : List ℕ). length text ≤ 192) (sym is) (short j [] (subst (λ (n : ℕ). j < n) (sym (length-map names string_bytes)) inside))

-- a text with the names of the first k time-points, and then the next name, has the names of the first k + 1
pub next_name : (names : List (List ℕ)) (named' : List NodeId) (k : ℕ) (old now new shown : List ℕ) → now ≡ old ++ spaced names (the_nodes (take k named')) → new ≡ now ++ 32 ∷ shown → k < length named' → shown ≡ get_or names (get_or named' k (record { 0 = 0 })).0 [] → new ≡ old ++ spaced names (the_nodes (take (k + 1) named'))
next_name names named' k old now new shown now_is new_is inside shown_is =
    new_is ∙ ap (λ (xs : List ℕ). xs ++ 32 ∷ shown) now_is
    ∙ append_assoc old (spaced names (the_nodes (take k named'))) (32 ∷ shown)
    ∙ ap (λ (xs : List ℕ). old ++ xs) (ap (λ (xs : List ℕ). spaced names (the_nodes (take k named')) ++ 32 ∷ xs) shown_is ∙ sym (spaced_more names named' k (record { 0 = 0 }) inside))

-- the printed names of the first k, and the next printed name, are those of the first k + 1
pub printed_more : (names : List (List ℕ)) (k : ℕ) (texts new : List (String Global)) (text : String Global) (name : List ℕ) → map string_bytes texts ≡ map printed_name (take k names) → new ≡ texts ++ text ∷ [] → string_bytes text ≡ printed_name name → slice_get names k ≡ Some name → map string_bytes new ≡ map printed_name (take (k + 1) names)
printed_more names k texts new text name so_far new_is printed there =
    let inside : k < length names = slice_get_within names k name there in
    let found : slice_get names k ≡ Some (get_or names k name) = slice_get-get_or names k name inside in
    let same : get_or names k name ≡ name = cc in
    let next : take (k + 1) names ≡ take k names ++ get_or names k name ∷ [] = ap (λ (n : ℕ). take n names) (plus_one k) ∙ take-suc names k name inside in
    ap (map string_bytes) new_is ∙ map-append string_bytes texts (text ∷ [])
    ∙ ap (λ (xs : List (List ℕ)). xs ++ string_bytes text ∷ []) so_far
    ∙ ap (λ (xs : List ℕ). map printed_name (take k names) ++ xs ∷ []) (printed ∙ ap printed_name (sym same))
    ∙ sym (map-append printed_name (take k names) (get_or names k name ∷ []))
    ∙ ap (map printed_name) (sym next)
  where
    plus_one : (n : ℕ) → n + 1 ≡ suc n
    plus_one n = omega arith

-- all printed names are short
pub all_short : ArePrintedShort → (names : List (List ℕ)) (k : ℕ) (texts : List (String Global)) → AreNames names → map string_bytes texts ≡ map printed_name (take k names) → length names ≤ k → All (λ name. length name ≤ 192) (map string_bytes texts)
all_short most names k texts are printed all =
    let whole : map string_bytes texts ≡ map printed_name names = printed ∙ ap (map printed_name) (take_all k names (omega (arith, all))) in
    subst (λ (xs : List (List ℕ)). All (λ name. length name ≤ 192) xs) (sym whole) (printed_short most names are)
