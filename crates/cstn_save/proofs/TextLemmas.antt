-- The canonical document is UTF-8 where its names are.
use Rattle.std.proofs.Common.{◌≡◌, ℕ, zero, suc, ◌<◌, ◌≤◌, ◌^◌, List, [], ◌∷◌, ◌++◌, refl, sym, arith, Bool, true, false, append_assoc, subst, Some, None}
use Rattle.std.specs.Prelude.{codes, ◌==◌, nat_lt, decimal, if◌then◌else◌, Option, ℤ, pos, negsuc, FitsSigned, slice_index_or}
use Rattle.std.specs.Char.{is_ascii_digit, IsScalar, encode_utf8}
use Rattle.std.specs.List.{list_all, All}
use Rattle.std.specs.Str.{IsUtf8, is_utf8, chars}
use Rattle.std.specs.Int.{w32}
use Rattle.cstn_label.specs.Labels.{Label}
use Rattle.cstn_label.specs.Letters.{letter_of}
use Rattle.cstn_label.specs.declared.marks.Mark.{Mark}
use Rattle.cstn_label.specs.declared.marks.Mark.TheVariants.{Absent, Yes, No, Unknown}
use Rattle.std.proofs.lemmas.Bool.{and_parts}
use Rattle.std.proofs.lemmas.Str.{IsUtf8-append, IsUtf8-encode, IsUtf8-nil, IsUtf8-from_is_utf8, encode_ascii}
use Rattle.cstn_markup.proofs.Utf8.{past_ascii}
use Rattle.cstn_markup.proofs.Resolving.{cut}
use Rattle.cstn_text.specs.Numbers.{printed_number, printed_value}
use Rattle.cstn_lift.specs.Labelled.{label_in}
use Rattle.cstn_graphml.specs.DrawnGraph.{Observation}
use Rattle.cstn_save.specs.Canonical.{is_numbered, escaped_byte, escaped_name, literal_text, literals_below, or_empty, document_label, head, observation_data, reaction_data, label_data, node_data, node_end, node_line, nodes_below, edge_tag, edge_data, edge_line, edges, tail}
use Rattle.cstn_net.specs.Networks.{Constraint}
use Rattle.cstn_save.proofs.WholeLemmas.{IsInReach}
use Rattle.cstn_save.proofs.NumberTextLemmas.{decimal_digits}
use Rattle.cstn_save.proofs.RunLemmas.{all_for, both_all}

single : (b : ℕ) → b < 128 → IsUtf8 (b ∷ [])
single b h = let is : IsScalar b = grind arith in subst IsUtf8 (encode_ascii b h) (IsUtf8-encode b is)

pub ascii_utf8 : (bytes : List ℕ) → list_all (λ b. nat_lt b 128) bytes ≡ true → IsUtf8 bytes
ascii_utf8 [] h = IsUtf8-nil
ascii_utf8 (b ∷ bytes) h =
    let both = and_parts (nat_lt b 128) (list_all (λ c. nat_lt c 128) bytes) h in
    let low : b < 128 = low_byte b both.0 in
    IsUtf8-append (b ∷ []) bytes (single b low) (ascii_utf8 bytes both.1)
  where
    low_byte : (c : ℕ) → nat_lt c 128 ≡ true → c < 128
    low_byte c e = grind arith

digit_low : (b : ℕ) → is_ascii_digit b ≡ true → nat_lt b 128 ≡ true
digit_low b h = grind arith

low_cases : (b : ℕ) (n a l g q : Bool) → b < 128
    → list_all (λ c. nat_lt c 128) (if a then codes "&amp;" else if l then codes "&lt;" else if g then codes "&gt;" else if q then codes "&quot;" else if n then codes "&#" ++ printed_number b ++ codes ";" else b ∷ []) ≡ true
low_cases b n true l g q h = refl
low_cases b n false true g q h = refl
low_cases b n false false true q h = refl
low_cases b n false false false true h = refl
low_cases b true false false false false h = both_all (λ c. nat_lt c 128) (printed_number b) (codes ";") (all_for is_ascii_digit (λ c. nat_lt c 128) (decimal b) digit_low (decimal_digits b (omega arith))) refl
low_cases b false false false false false h = let t : nat_lt b 128 ≡ true = grind arith in rw t refl

high_byte : (b : ℕ) → 128 ≤ b → escaped_byte b ≡ b ∷ []
high_byte b h =
    let n : is_numbered b ≡ false = grind arith in
    let a : (b == 38) ≡ false = grind arith in
    let l : (b == 60) ≡ false = grind arith in
    let g : (b == 62) ≡ false = grind arith in
    let q : (b == 34) ≡ false = grind arith in
    rw (a, l, g, q, n) refl

low_is : (b : ℕ) → nat_lt b 128 ≡ true → b < 128
low_is b e = grind arith

high_is : (b : ℕ) → nat_lt b 128 ≡ false → 128 ≤ b
high_is b e = grind arith

low_text : (b : ℕ) → b < 128 → IsUtf8 (escaped_byte b)
low_text b h = ascii_utf8 (escaped_byte b) (low_cases b (is_numbered b) (b == 38) (b == 60) (b == 62) (b == 34) h)

name_step : (front name : List ℕ) (b : ℕ) (low : Bool) → nat_lt b 128 ≡ low → IsUtf8 (front ++ (b ∷ name)) → ((more : List ℕ) → IsUtf8 (more ++ name) → IsUtf8 (more ++ escaped_name name)) → IsUtf8 (front ++ (escaped_byte b ++ escaped_name name))
name_step front name b true e u later =
    let c = cut front name b (low_is b e) u in
    IsUtf8-append front (escaped_byte b ++ escaped_name name) c.0 (IsUtf8-append (escaped_byte b) (escaped_name name) (low_text b (low_is b e)) (later [] (past_ascii b name (low_is b e) c.1)))
name_step front name b false e u later =
    rw (high_byte b (high_is b e)) (subst IsUtf8 (append_assoc front (b ∷ []) (escaped_name name)) (later (front ++ b ∷ []) (subst IsUtf8 (sym (append_assoc front (b ∷ []) name)) u)))

name_by : (front name : List ℕ) → IsUtf8 (front ++ name) → IsUtf8 (front ++ escaped_name name)
name_by front [] u = u
name_by front (b ∷ name) u = name_step front name b (nat_lt b 128) refl u (λ more. name_by more name)

-- an escaped name is UTF-8
pub name_utf8 : (name : List ℕ) → IsUtf8 name → IsUtf8 (escaped_name name)
name_utf8 name u = name_by [] name u

is_negation : is_utf8 (194 ∷ 172 ∷ []) ≡ true
unfolding chars encode_utf8 is_utf8
is_negation = refl

is_empty_sign : is_utf8 (226 ∷ 138 ∷ 161 ∷ []) ≡ true
unfolding chars encode_utf8 is_utf8
is_empty_sign = refl

letter_low : (n : ℕ) → n < 52 → letter_of n < 128
letter_low n small = grind arith

-- the label of a document is UTF-8
literal_utf8 : (n : ℕ) (m : Mark) → n < 52 → IsUtf8 (literal_text (letter_of n) m)
literal_utf8 n Absent small = IsUtf8-nil
literal_utf8 n Yes small = single (letter_of n) (letter_low n small)
literal_utf8 n No small = IsUtf8-append (194 ∷ 172 ∷ []) (letter_of n ∷ []) (IsUtf8-from_is_utf8 (194 ∷ 172 ∷ []) is_negation) (single (letter_of n) (letter_low n small))
literal_utf8 n Unknown small = IsUtf8-nil

literals_utf8 : (a : Label) (n : ℕ) → n ≤ 52 → IsUtf8 (literals_below a n)
unfolding literals_below
literals_utf8 a zero small = IsUtf8-nil
literals_utf8 a (suc n) small = IsUtf8-append (literals_below a n) (literal_text (letter_of n) (a n)) (literals_utf8 a n (omega arith)) (literal_utf8 n (a n) (omega arith))

or_empty_utf8 : (bytes : List ℕ) → IsUtf8 bytes → IsUtf8 (or_empty bytes)
or_empty_utf8 [] u = IsUtf8-from_is_utf8 (226 ∷ 138 ∷ 161 ∷ []) is_empty_sign
or_empty_utf8 (b ∷ bytes) u = u

pub label_utf8 : (a : Label) → IsUtf8 (document_label a)
label_utf8 a = or_empty_utf8 (literals_below a 52) (literals_utf8 a 52 (omega arith))

value_utf8 : (v : ℤ) → FitsSigned w32 v → IsUtf8 (printed_value v)
value_utf8 (pos n) fits = ascii_utf8 (decimal n) (all_for is_ascii_digit (λ c. nat_lt c 128) (decimal n) digit_low (decimal_digits n (omega (arith, fits.sfits))))
value_utf8 (negsuc n) fits = ascii_utf8 (45 ∷ decimal (suc n)) (all_for is_ascii_digit (λ c. nat_lt c 128) (decimal (suc n)) digit_low (decimal_digits (suc n) (omega (arith, fits.sfits))))

both : (xs ys : List ℕ) → IsUtf8 xs → IsUtf8 ys → IsUtf8 (xs ++ ys)
both xs ys a b = IsUtf8-append xs ys a b

five : (a b c d e : List ℕ) → IsUtf8 a → IsUtf8 b → IsUtf8 c → IsUtf8 d → IsUtf8 e → IsUtf8 (a ++ b ++ c ++ d ++ e)
five a b c d e ua ub uc ud ue = both (a ++ b ++ c ++ d) e (both (a ++ b ++ c) d (both (a ++ b) c (both a b ua ub) uc) ud) ue

three : (a b c : List ℕ) → IsUtf8 a → IsUtf8 b → IsUtf8 c → IsUtf8 (a ++ b ++ c)
three a b c ua ub uc = both (a ++ b) c (both a b ua ub) uc

pub edge_utf8 : (source target : List ℕ) (v : ℤ) (a : Label) → IsUtf8 source → IsUtf8 target → FitsSigned w32 v → IsUtf8 (edge_tag source target ++ edge_data v a)
edge_utf8 source target v a s t fits =
    both (edge_tag source target) (edge_data v a)
    (five (codes "<edge source=\"") (escaped_name source) (codes "\" target=\"") (escaped_name target) (codes "\">") (ascii_utf8 (codes "<edge source=\"") refl) (name_utf8 source s) (ascii_utf8 (codes "\" target=\"") refl) (name_utf8 target t) (ascii_utf8 (codes "\">") refl))
    (five (codes "<data key=\"Type\">requirement</data><data key=\"LabeledValues\">{(") (printed_value v) (codes ", ") (document_label a) (codes ")}</data></edge>\n")
    (ascii_utf8 (codes "<data key=\"Type\">requirement</data><data key=\"LabeledValues\">{(") refl) (value_utf8 v fits) (ascii_utf8 (codes ", ") refl) (label_utf8 a) (ascii_utf8 (codes ")}</data></edge>\n") refl))

or_none : (b : Bool) (text : List ℕ) → IsUtf8 text → IsUtf8 (if b then [] else text)
or_none true text u = IsUtf8-nil
or_none false text u = u

reaction_utf8 : (ticks : ℕ) → ticks < 2 ^ 64 → IsUtf8 (reaction_data ticks)
reaction_utf8 ticks small =
    or_none (ticks == 1) (codes "<data key=\"Reaction\">" ++ printed_number ticks ++ codes "</data>")
    (three (codes "<data key=\"Reaction\">") (printed_number ticks) (codes "</data>") (ascii_utf8 (codes "<data key=\"Reaction\">") refl)
    (ascii_utf8 (decimal ticks) (all_for is_ascii_digit (λ c. nat_lt c 128) (decimal ticks) digit_low (decimal_digits ticks small)))
    (ascii_utf8 (codes "</data>") refl))

observation_utf8 : (o : Option Observation) → IsInReach o → IsUtf8 (observation_data o)
observation_utf8 None small = IsUtf8-nil
observation_utf8 (Some o) reach =
    both (codes "<data key=\"Obs\">" ++ letter_of o.prop ∷ codes "</data>") (reaction_data o.reaction)
    (both (codes "<data key=\"Obs\">") (letter_of o.prop ∷ codes "</data>") (ascii_utf8 (codes "<data key=\"Obs\">") refl)
    (both (letter_of o.prop ∷ []) (codes "</data>") (single (letter_of o.prop) (letter_low o.prop reach.0)) (ascii_utf8 (codes "</data>") refl)))
    (reaction_utf8 o.reaction (omega (arith, reach.2)))

label_data_utf8 : (literals : List ℕ) → IsUtf8 literals → IsUtf8 (label_data literals)
label_data_utf8 [] u = IsUtf8-nil
label_data_utf8 (b ∷ literals) u = three (codes "<data key=\"Label\">") (b ∷ literals) (codes "</data>") (ascii_utf8 (codes "<data key=\"Label\">") refl) u (ascii_utf8 (codes "</data>") refl)

node_end_utf8 : (inner_bytes : List ℕ) → IsUtf8 inner_bytes → IsUtf8 (node_end inner_bytes)
node_end_utf8 [] u = ascii_utf8 (codes "\"/>\n") refl
node_end_utf8 (b ∷ inner_bytes) u = three (codes "\">") (b ∷ inner_bytes) (codes "</node>\n") (ascii_utf8 (codes "\">") refl) u (ascii_utf8 (codes "</node>\n") refl)

pub nodes_utf8 : (names : List (List ℕ)) (observes : List (Option Observation)) (labels : List Label) (n : ℕ) → ((i : ℕ) → i < n → IsUtf8 (slice_index_or names i []) × IsInReach (slice_index_or observes i None)) → IsUtf8 (nodes_below names observes labels n)
unfolding nodes_below
nodes_utf8 names observes labels zero each = IsUtf8-nil
nodes_utf8 names observes labels (suc n) each =
    let here = each n (omega arith) in
    let name : List ℕ = slice_index_or names n [] in
    let o : Option Observation = slice_index_or observes n None in
    let a : Label = label_in labels n in
    both (nodes_below names observes labels n) (node_line name o a) (nodes_utf8 names observes labels n (λ i h. each i (omega (arith, h))))
    (three (codes "<node id=\"") (escaped_name name) (node_end (node_data o a)) (ascii_utf8 (codes "<node id=\"") refl) (name_utf8 name here.0)
    (node_end_utf8 (node_data o a) (both (observation_data o) (label_data (literals_below a 52)) (observation_utf8 o here.1) (label_data_utf8 (literals_below a 52) (literals_utf8 a 52 (omega arith))))))

pub edges_utf8 : (names : List (List ℕ)) (cs : List Constraint) → All (λ c. IsUtf8 (edge_line names c)) cs → IsUtf8 (edges names cs)
edges_utf8 names [] each = IsUtf8-nil
edges_utf8 names (c ∷ cs) each = both (edge_line names c) (edges names cs) (each 0 c (omega arith)) (edges_utf8 names cs (λ k d h. each (suc k) d (omega (arith, h))))

pub head_utf8 : (deadline : ℕ) → deadline < 2 ^ 64 → IsUtf8 (head deadline)
head_utf8 deadline small =
    three (codes "<?xml version=\"1.0\" encoding=\"UTF-8\"?>\n<graphml>\n<graph edgedefault=\"directed\">\n<data key=\"Deadline\">") (printed_number deadline) (codes "</data>\n")
    (ascii_utf8 (codes "<?xml version=\"1.0\" encoding=\"UTF-8\"?>\n<graphml>\n<graph edgedefault=\"directed\">\n<data key=\"Deadline\">") refl)
    (ascii_utf8 (decimal deadline) (all_for is_ascii_digit (λ c. nat_lt c 128) (decimal deadline) digit_low (decimal_digits deadline small)))
    (ascii_utf8 (codes "</data>\n") refl)

pub tail_utf8 : IsUtf8 tail
tail_utf8 = ascii_utf8 tail refl
