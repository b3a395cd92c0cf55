-- The lines of a document, one after the other.
use Rattle.std.proofs.lemmas.Bool.{true≢false}
use Rattle.std.proofs.Common.{◌≡◌, ◌≢◌, Bool, true, false, refl, ℕ, ◌+◌, ◌<◌, List, [], ◌∷◌, ◌++◌, ◌∙◌, ap, sym, append-nil, add-one, length, length-append, arith, take, map, get_or, Option, Some, None}
use Rattle.std.specs.Prelude.{◌==◌, if◌then◌else◌, codes, slice_get, slice_index_or, Result, Ok, Err, is_ok, OnOk}
use Rattle.std.proofs.lemmas.Grind.{flat_map-append}
use Rattle.std.proofs.lemmas.List.{take_more, map-append}
use Rattle.std.proofs.lemmas.Option.{get_or_from_slice_get}
use Rattle.cstn_facts.proofs.Booleans.{some_there}
use Rattle.cstn_label.specs.Labels.{Label}
use Rattle.cstn_label.specs.Letters.{letter_of}
use Rattle.cstn_text.specs.Numbers.{printed_number}
use Rattle.cstn_net.specs.Networks.{Constraint}
use Rattle.cstn_net.specs.declared.constraints.Constraint.{Constraint as NetConstraint}
use Rattle.cstn_net.specs.Read.{the_constraint}
use Rattle.cstn_lift.specs.Labelled.{label_in}
use Rattle.cstn_graphml.specs.DrawnGraph.{Observation}
use Rattle.cstn_save.specs.Canonical.{literal_text, literals_below, or_empty, reaction_data, label_data, node_end, node_line, nodes_below, edge_tag, edge_data, edge_line, edges}
use Rattle.cstn_save.proofs.JoinLemmas.{two, three}

-- the two pieces of a constraint's line are put at the end of the text
pub edge_put : (names : List (List ℕ)) (c : Constraint) (source target old t1 t2 : List ℕ) → slice_get names c.from ≡ Some source → slice_get names c.to ≡ Some target
    → t1 ≡ old ++ edge_tag source target → t2 ≡ t1 ++ edge_data c.most c.label → t2 ≡ old ++ edge_line names c
edge_put names c source target old t1 t2 from to e1 e2 =
    let s : source ≡ get_or names c.from [] = sym (get_or_from_slice_get names c.from source [] from) in
    let t : target ≡ get_or names c.to [] = sym (get_or_from_slice_get names c.to target [] to) in
    let tag : edge_tag source target ≡ edge_tag (get_or names c.from []) (get_or names c.to []) = ap (λ (x : List ℕ). edge_tag x target) s ∙ ap (λ (x : List ℕ). edge_tag (get_or names c.from []) x) t in
    two old (edge_tag (get_or names c.from []) (get_or names c.to [])) (edge_data c.most c.label) t1 t2 (e1 ∙ ap (λ (x : List ℕ). old ++ x) tag) e2

-- the lines of one more constraint
pub edges_more : (names : List (List ℕ)) (xs : List NetConstraint) (i : ℕ) (x : NetConstraint) (old text new : List ℕ) → i < length xs → x ≡ get_or xs i x
    → text ≡ old ++ edges names (map the_constraint (take i xs)) → new ≡ text ++ edge_line names (the_constraint x) → new ≡ old ++ edges names (map the_constraint (take (i + 1) xs))
edges_more names xs i x old text new inside is so_far put =
    let more : take (i + 1) xs ≡ take i xs ++ x ∷ [] = take_more xs i x inside ∙ ap (λ (y : NetConstraint). take i xs ++ y ∷ []) (sym is) in
    let lines : edges names (map the_constraint (take (i + 1) xs)) ≡ edges names (map the_constraint (take i xs)) ++ edge_line names (the_constraint x) =
    ap (λ (ys : List NetConstraint). edges names (map the_constraint ys)) more
    ∙ ap (edges names) (map-append the_constraint (take i xs) (x ∷ []))
    ∙ flat_map-append (edge_line names) (map the_constraint (take i xs)) (the_constraint x ∷ [])
    ∙ ap (λ (ys : List ℕ). edges names (map the_constraint (take i xs)) ++ ys) (append-nil (edge_line names (the_constraint x))) in
    two old (edges names (map the_constraint (take i xs))) (edge_line names (the_constraint x)) text new so_far put ∙ ap (λ (ys : List ℕ). old ++ ys) (sym lines)

pub nodes_none : (names : List (List ℕ)) (observes : List (Option Observation)) (labels : List Label) (old : List ℕ) → old ≡ old ++ nodes_below names observes labels 0
unfolding nodes_below
nodes_none names observes labels old = sym (append-nil old)

-- the lines of one more time-point
pub nodes_more : (names : List (List ℕ)) (observes : List (Option Observation)) (labels : List Label) (n : ℕ) (name : List ℕ) (o : Option Observation) (a : Label) (old text new : List ℕ) → slice_get names n ≡ Some name → o ≡ slice_index_or observes n None → a ≡ label_in labels n
    → text ≡ old ++ nodes_below names observes labels n → new ≡ text ++ node_line name o a → new ≡ old ++ nodes_below names observes labels (n + 1)
unfolding nodes_below
nodes_more names observes labels n name o a old text new named observed labelled so_far put =
    let same : node_line name o a ≡ node_line (get_or names n []) (slice_index_or observes n None) (label_in labels n) =
    ap (λ (x : List ℕ). node_line x o a) (sym (get_or_from_slice_get names n name [] named)) ∙ ap (λ (y : Option Observation). node_line (get_or names n []) y a) observed
    ∙ ap (λ (b : Label). node_line (get_or names n []) (slice_index_or observes n None) b) labelled in
    rw add-one (two old (nodes_below names observes labels n) (node_line (get_or names n []) (slice_index_or observes n None) (label_in labels n)) text new so_far (put ∙ ap (λ (x : List ℕ). text ++ x) same))

-- the end of the line of a time-point that has data
pub end_put : (inner_bytes old t1 t2 t3 : List ℕ) (b : Bool) → b ≡ (length inner_bytes == 0) → b ≡ false → t1 ≡ old ++ codes "\">" → t2 ≡ t1 ++ inner_bytes → t3 ≡ t2 ++ codes "</node>\n" → t3 ≡ old ++ node_end inner_bytes
end_put [] old t1 t2 t3 b is some e1 e2 e3 = absurd (true≢false (sym is ∙ some))
end_put (x ∷ inner_bytes) old t1 t2 t3 b is some e1 e2 e3 = three old (codes "\">") (x ∷ inner_bytes) (codes "</node>\n") t1 t2 t3 e1 e2 e3

-- the end of the line of a time-point that has no data
pub end_bare : {U E : Type 0} (inner_bytes old new : List ℕ) (b : Bool) (r : Result U E) → b ≡ (length inner_bytes == 0) → b ≡ true → new ≡ (if is_ok r then old ++ codes "\"/>\n" else old) → OnOk r (new ≡ old ++ node_end inner_bytes)
end_bare [] old new b (Ok u) is none put = put
end_bare [] old new b (Err e) is none put = tt
end_bare (x ∷ inner_bytes) old new b r is none put = absurd (some_there (length inner_bytes) b (length (x ∷ inner_bytes)) is none refl)

-- the data of a label that has literals
pub label_put : (literals old t1 t2 t3 : List ℕ) (b : Bool) → b ≡ (length literals == 0) → b ≡ false → t1 ≡ old ++ codes "<data key=\"Label\">" → t2 ≡ t1 ++ literals → t3 ≡ t2 ++ codes "</data>" → t3 ≡ old ++ label_data literals
label_put [] old t1 t2 t3 b is some e1 e2 e3 = absurd (true≢false (sym is ∙ some))
label_put (x ∷ literals) old t1 t2 t3 b is some e1 e2 e3 = three old (codes "<data key=\"Label\">") (x ∷ literals) (codes "</data>") t1 t2 t3 e1 e2 e3

pub label_bare : (literals old : List ℕ) (b : Bool) → b ≡ (length literals == 0) → b ≡ true → old ≡ old ++ label_data literals
label_bare [] old b is none = sym (append-nil old)
label_bare (x ∷ literals) old b is none = absurd (some_there (length literals) b (length (x ∷ literals)) is none refl)

pub literals_none : (a : Label) (old : List ℕ) → old ≡ old ++ literals_below a 0
unfolding literals_below
literals_none a old = sym (append-nil old)

-- one more literal
pub literals_more : (a : Label) (n : ℕ) (old text new : List ℕ) → text ≡ old ++ literals_below a n → new ≡ text ++ literal_text (letter_of n) (a n) → new ≡ old ++ literals_below a (n + 1)
unfolding literals_below
literals_more a n old text new so_far put = rw add-one (two old (literals_below a n) (literal_text (letter_of n) (a n)) text new so_far put)

-- where the literals add nothing to the text, the sign of the empty label is put
pub no_literal : (literals old text new : List ℕ) → text ≡ old ++ literals → length text ≡ length old → new ≡ text ++ (226 ∷ 138 ∷ 161 ∷ []) → new ≡ old ++ or_empty literals
no_literal [] old text new is same put = put ∙ ap (λ (t : List ℕ). t ++ (226 ∷ 138 ∷ 161 ∷ [])) (is ∙ append-nil old)
no_literal (b ∷ literals) old text new is same put = absurd (omega (arith, same, ap length is, length-append old (b ∷ literals)))

pub some_literal : (literals old text : List ℕ) → text ≡ old ++ literals → (length text ≡ length old → ⊥) → text ≡ old ++ or_empty literals
some_literal [] old text is other = absurd (other (ap length (is ∙ append-nil old)))
some_literal (b ∷ literals) old text is other = is

-- the data of a reaction of other than 1 tick
pub reaction_put : (ticks : ℕ) (old new : List ℕ) → ticks ≢ 1 → new ≡ old ++ (codes "<data key=\"Reaction\">" ++ printed_number ticks ++ codes "</data>") → new ≡ old ++ reaction_data ticks
reaction_put ticks old new other put = let no : (ticks == 1) ≡ false = grind arith in rw no put
