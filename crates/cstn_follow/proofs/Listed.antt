-- Lists that are put into a text one after another.
use Rattle.std.proofs.Common.{ℕ, ◌≡◌, ◌+◌, ◌<◌, List, [], ◌∷◌, ◌++◌, length, take, map, sym, ap, ◌∙◌}
use Rattle.std.specs.Prelude.{slice_index_or}
use Rattle.std.specs.List.{flat_map}
use Rattle.std.proofs.lemmas.List.{take_more, map-append, append_assoc, append-nil, flat_map_more}
use Rattle.std.proofs.lemmas.Grind.{flat_map-append}
use Rattle.cstn_label.specs.Letters.{letter_of}
use Rattle.cstn_label.specs.declared.nodes.NodeId.{NodeId}
use Rattle.cstn_label.specs.declared.props.Prop.{Prop}

-- the next letter
pub letters_turn : (ps : List Prop) (old before new : List ℕ) (i : ℕ) (p : Prop) → i < length ps → p ≡ slice_index_or ps i p
    → before ≡ old ++ map letter_of (map (λ q. q.index) (take i ps)) → new ≡ before ++ letter_of p.index ∷ []
    → new ≡ old ++ map letter_of (map (λ q. q.index) (take (i + 1) ps))
letters_turn ps old before new i p inside is so_far news =
    let index = λ (q : Prop). q.index in
    let first = map index (take i ps) in
    news ∙ ap (λ l. l ++ letter_of p.index ∷ []) so_far ∙ append_assoc old (map letter_of first) (letter_of p.index ∷ [])
    ∙ ap (λ l. old ++ l) (sym (map-append letter_of first (p.index ∷ [])))
    ∙ ap (λ l. old ++ map letter_of l) (sym (map-append index (take i ps) (p ∷ [])))
    ∙ ap (λ l. old ++ map letter_of (map index l)) (ap (λ e. take i ps ++ e ∷ []) is ∙ sym (take_more ps i p inside))

-- the next of numbers
pub numbers_turn : (f : ℕ → List ℕ) (xs old before new : List ℕ) (i d : ℕ) → i < length xs → before ≡ old ++ flat_map f (take i xs)
    → new ≡ before ++ f (slice_index_or xs i d) → new ≡ old ++ flat_map f (take (i + 1) xs)
numbers_turn f xs old before new i d inside so_far news =
    news ∙ ap (λ l. l ++ f (slice_index_or xs i d)) so_far ∙ flat_map_more f old (take i xs) (slice_index_or xs i d)
    ∙ ap (λ l. old ++ flat_map f l) (sym (take_more xs i d inside))

-- the next name
pub names_turn : (f : ℕ → List ℕ) (xs : List NodeId) (old before new : List ℕ) (i : ℕ) (x : NodeId) → i < length xs → x ≡ slice_index_or xs i x
    → before ≡ old ++ flat_map f (map (λ y. y.0) (take i xs)) → new ≡ before ++ f x.0
    → new ≡ old ++ flat_map f (map (λ y. y.0) (take (i + 1) xs))
names_turn f xs old before new i x inside is so_far news =
    let number = λ (y : NodeId). y.0 in
    let first = map number (take i xs) in
    news ∙ ap (λ l. l ++ f x.0) so_far ∙ append_assoc old (flat_map f first) (f x.0)
    ∙ ap (λ l. old ++ (flat_map f first ++ l)) (sym (append-nil (f x.0)))
    ∙ ap (λ l. old ++ l) (sym (flat_map-append f first (x.0 ∷ [])))
    ∙ ap (λ l. old ++ flat_map f l) (sym (map-append number (take i xs) (x ∷ [])))
    ∙ ap (λ l. old ++ flat_map f (map number l)) (ap (λ e. take i xs ++ e ∷ []) is ∙ sym (take_more xs i x inside))
