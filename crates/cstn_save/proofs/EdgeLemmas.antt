-- The lines of constraints are read back.
use Rattle.std.proofs.Common.{◌≡◌, ℕ, suc, ◌-◌, ◌≤◌, List, [], ◌∷◌, ◌++◌, length, refl, ap, sym, ◌∙◌, arith, Bool, true, not, append_assoc, subst}
use Rattle.std.specs.Prelude.{Some, codes, ◌==◌, ℤ, pos, negsuc, slice_index_or, FitsSigned, decimal}
use Rattle.std.specs.Int.{w32}
use Rattle.std.specs.Char.{is_ascii_digit}
use Rattle.std.specs.List.{list_all, prefix_len, suffix_len}
use Rattle.std.proofs.lemmas.List.{take_all, reverse-append}
use Rattle.cstn_label.specs.Labels.{Label, IsPlain}
use Rattle.cstn_label.specs.declared.marks.Mark.TheVariants.{Absent}
use Rattle.cstn_net.specs.Networks.{Constraint}
use Rattle.cstn_text.specs.Numbers.{printed_value}
use Rattle.cstn_markup.specs.Bytes.{is_white}
use Rattle.cstn_element.specs.WhiteSpace.{trimmed}
use Rattle.cstn_element.specs.ValueTexts.{values_of}
use Rattle.cstn_graphml.specs.DrawnGraph.{DrawnGraph, node_of, with_drawn_constraint}
use Rattle.cstn_save.specs.Canonical.{escaped_name, or_empty, literals_below, document_label, edge_tag, edge_data, edge_line, edges, tail}
use Rattle.cstn_save.specs.ReadBack.{without_its_id}
use Rattle.cstn_save.proofs.NumberTextLemmas.{decimal_digits}
use Rattle.cstn_save.proofs.ValueTextLemmas.{values_back, is_of_literal, literals_bytes}
use Rattle.cstn_save.proofs.RunLemmas.{all_for, both_all, joined_five}
use Rattle.cstn_save.proofs.LineLemmas.{Makes, edge_made, then}

pub joined_six : (a b c d e f : List ℕ) → a ++ b ++ c ++ d ++ e ++ f ≡ a ++ (b ++ (c ++ (d ++ (e ++ f))))
joined_six a b c d e f = append_assoc (a ++ b ++ c ++ d) e f ∙ joined_five a b c d (e ++ f)

-- the bytes of an edge one after the other
pub edge_flat : (t1 es t2 et t3 d pv cm dl e rest : List ℕ) → t1 ++ es ++ t2 ++ et ++ t3 ++ (d ++ pv ++ cm ++ dl ++ e) ++ rest ≡ t1 ++ (es ++ (t2 ++ (et ++ (t3 ++ (d ++ (pv ++ (cm ++ (dl ++ (e ++ rest)))))))))
edge_flat t1 es t2 et t3 d pv cm dl e rest =
    append_assoc (t1 ++ es ++ t2 ++ et ++ t3) (d ++ pv ++ cm ++ dl ++ e) rest
    ∙ joined_six t1 es t2 et t3 (d ++ pv ++ cm ++ dl ++ e ++ rest)
    ∙ ap (λ (x : List ℕ). t1 ++ (es ++ (t2 ++ (et ++ (t3 ++ x))))) (joined_six d pv cm dl e rest)

value_flat : (a pv cm dl z e : List ℕ) → (a ++ (pv ++ (cm ++ (dl ++ z)))) ++ e ≡ a ++ (pv ++ (cm ++ (dl ++ (z ++ e))))
value_flat a pv cm dl z e = ap (λ (x : List ℕ). x ++ e) (sym (joined_five a pv cm dl z)) ∙ joined_six a pv cm dl z e

-- what holds of digits and the minus sign holds of each byte of a printed value
value_all : (p : ℕ → Bool) (v : ℤ) → FitsSigned w32 v → ((b : ℕ) → is_ascii_digit b ≡ true → p b ≡ true) → p 45 ≡ true → list_all p (printed_value v) ≡ true
value_all p (pos n) fits f m = all_for is_ascii_digit p (decimal n) f (decimal_digits n (omega (arith, fits.sfits)))
value_all p (negsuc n) fits f m = rw m (all_for is_ascii_digit p (decimal (suc n)) f (decimal_digits (suc n) (omega (arith, fits.sfits))))

or_empty_all : (p : ℕ → Bool) (bytes : List ℕ) → ((b : ℕ) → is_of_literal b ≡ true → p b ≡ true) → list_all p (226 ∷ 138 ∷ 161 ∷ []) ≡ true → list_all is_of_literal bytes ≡ true → list_all p (or_empty bytes) ≡ true
or_empty_all p [] f e h = e
or_empty_all p (b ∷ bytes) f e h = all_for is_of_literal p (b ∷ bytes) f h

label_all : (p : ℕ → Bool) (a : Label) → ((b : ℕ) → is_of_literal b ≡ true → p b ≡ true) → list_all p (226 ∷ 138 ∷ 161 ∷ []) ≡ true → list_all p (document_label a) ≡ true
label_all p a f e = or_empty_all p (literals_below a 52) f e (literals_bytes a 52 (omega arith))

-- what stands in the braces of a text of values, and the last brace
abbrev values_inside : ℤ → Label → List ℕ
values_inside v a = 40 ∷ (printed_value v ++ 44 ∷ 32 ∷ (document_label a ++ 41 ∷ 125 ∷ []))

inside_all : (p : ℕ → Bool) (v : ℤ) (a : Label) → FitsSigned w32 v → ((b : ℕ) → is_ascii_digit b ≡ true → p b ≡ true) → ((b : ℕ) → is_of_literal b ≡ true → p b ≡ true)
    → list_all p (226 ∷ 138 ∷ 161 ∷ []) ≡ true → p 45 ≡ true → list_all p (codes "{(") ≡ true → list_all p (codes ", ") ≡ true → list_all p (codes ")}") ≡ true → list_all p (123 ∷ values_inside v a) ≡ true
inside_all p v a fits f g e m front comma behind =
    both_all p (codes "{(") (printed_value v ++ 44 ∷ 32 ∷ (document_label a ++ 41 ∷ 125 ∷ [])) front
    (both_all p (printed_value v) (44 ∷ 32 ∷ (document_label a ++ 41 ∷ 125 ∷ [])) (value_all p v fits f m)
    (both_all p (codes ", ") (document_label a ++ 41 ∷ 125 ∷ []) comma
    (both_all p (document_label a) (codes ")}") (label_all p a g e) behind)))

no_less : (v : ℤ) (a : Label) → FitsSigned w32 v → list_all (λ c. not (c == 60)) (123 ∷ values_inside v a) ≡ true
no_less v a fits = inside_all (λ c. not (c == 60)) v a fits (λ b h. grind arith) (λ b h. grind arith) refl refl refl refl refl

no_ampersand : (v : ℤ) (a : Label) → FitsSigned w32 v → list_all (λ c. not (c == 38)) (123 ∷ values_inside v a) ≡ true
no_ampersand v a fits = inside_all (λ c. not (c == 38)) v a fits (λ b h. grind arith) (λ b h. grind arith) refl refl refl refl refl

trimmed_braces : (xs : List ℕ) → trimmed (123 ∷ (xs ++ 125 ∷ [])) ≡ 123 ∷ (xs ++ 125 ∷ [])
trimmed_braces xs =
    let none : suffix_len is_white (123 ∷ (xs ++ 125 ∷ [])) ≡ 0 = ap (prefix_len is_white) (reverse-append (123 ∷ xs) (125 ∷ [])) in
    let all : length (123 ∷ (xs ++ 125 ∷ [])) - 0 ≡ length (123 ∷ (xs ++ 125 ∷ [])) = omega arith in
    rw (none, all) (take_all (length (123 ∷ (xs ++ 125 ∷ []))) (123 ∷ (xs ++ 125 ∷ [])) (omega arith))

values_trimmed : (v : ℤ) (a : Label) → trimmed (123 ∷ values_inside v a) ≡ 123 ∷ values_inside v a
values_trimmed v a =
    subst (λ (x : List ℕ). trimmed (123 ∷ x) ≡ 123 ∷ x) (value_flat (codes "(") (printed_value v) (codes ", ") (document_label a) (codes ")") (codes "}"))
    (trimmed_braces (40 ∷ (printed_value v ++ 44 ∷ 32 ∷ (document_label a ++ 41 ∷ []))))

-- a constraint between two time-points that were read
pub record IsKnown (names : List (List ℕ)) (d : DrawnGraph) (c : Constraint) : Type 0 where
  pub fits : FitsSigned w32 c.most
  pub plain : IsPlain c.label
  pub letters : (p : ℕ) → 52 ≤ p → c.label p ≡ Absent
  pub from : node_of (slice_index_or names c.from []) d ≡ Some c.from
  pub to : node_of (slice_index_or names c.to []) d ≡ Some c.to

line_flat : (source target rest : List ℕ) (v : ℤ) (a : Label) → edge_tag source target ++ edge_data v a ++ 60 ∷ rest
    ≡ codes "<edge source=" ++ 34 ∷ (escaped_name source ++ 34 ∷ (codes " target=" ++ 34 ∷ (escaped_name target ++ 34 ∷ 62 ∷ (codes "<data key=\"Type\">requirement</data><data key=\"LabeledValues\">" ++ 123 ∷ (values_inside v a ++ (codes "</data></edge>\n" ++ 60 ∷ rest))))))
line_flat source target rest v a =
    edge_flat (codes "<edge source=\"") (escaped_name source) (codes "\" target=\"") (escaped_name target) (codes "\">") (codes "<data key=\"Type\">requirement</data><data key=\"LabeledValues\">{(") (printed_value v) (codes ", ") (document_label a) (codes ")}</data></edge>\n") (60 ∷ rest)
    ∙ ap (λ (x : List ℕ). codes "<edge source=" ++ 34 ∷ (escaped_name source ++ 34 ∷ (codes " target=" ++ 34 ∷ (escaped_name target ++ 34 ∷ 62 ∷ (codes "<data key=\"Type\">requirement</data><data key=\"LabeledValues\">" ++ x)))))
    (sym (value_flat (codes "{(") (printed_value v) (codes ", ") (document_label a) (codes ")}") (codes "</data></edge>\n" ++ 60 ∷ rest)))

pub edge_line_made : (names : List (List ℕ)) (c : Constraint) (rest : List ℕ) (at : ℕ) (d : DrawnGraph) → IsKnown names d c → Makes d (with_drawn_constraint (without_its_id c) d) at (edge_line names c ++ 60 ∷ rest) (60 ∷ rest)
edge_line_made names c rest at d is =
    let source : List ℕ = slice_index_or names c.from [] in
    let target : List ℕ = slice_index_or names c.to [] in
    let values : values_of (123 ∷ values_inside c.most c.label) ≡ Some (record { most = c.most; label = Some c.label } ∷ []) =
    ap values_of (sym (joined_five (codes "{(") (printed_value c.most) (codes ", ") (document_label c.label) (codes ")}"))) ∙ values_back c.most c.label is.fits is.plain is.letters in
    subst (λ (x : List ℕ). Makes d (with_drawn_constraint (without_its_id c) d) at x (60 ∷ rest)) (sym (line_flat source target rest c.most c.label))
    (edge_made source target (values_inside c.most c.label) rest c.from c.to at c.most c.label d (no_less c.most c.label is.fits) (no_ampersand c.most c.label is.fits) (values_trimmed c.most c.label) values is.from is.to)

-- the draft with these constraints put in
unfoldable pub with_all : List Constraint → DrawnGraph → DrawnGraph
with_all [] d = d
with_all (c ∷ cs) d = with_all cs (with_drawn_constraint (without_its_id c) d)

unfoldable pub AreKnown : List (List ℕ) → DrawnGraph → List Constraint → Type 0
AreKnown names d [] = Unit {0}
AreKnown names d (c ∷ cs) = IsKnown names d c × AreKnown names (with_drawn_constraint (without_its_id c) d) cs

pub edges_begin : (names : List (List ℕ)) (cs : List Constraint) → (rest : List ℕ) × (edges names cs ++ tail ≡ 60 ∷ rest)
edges_begin names [] = (_, refl)
edges_begin names (c ∷ cs) = (_, refl)

pub edges_made : (names : List (List ℕ)) (cs : List Constraint) (at : ℕ) (d : DrawnGraph) → AreKnown names d cs → Makes d (with_all cs d) at (edges names cs ++ tail) tail
unfolding with_all AreKnown
edges_made names [] at d known = record { place = at; told = refl; left = refl }
edges_made names (c ∷ cs) at d known =
    let begin = edges_begin names cs in
    let line : Makes d (with_drawn_constraint (without_its_id c) d) at (edge_line names c ++ (edges names cs ++ tail)) (edges names cs ++ tail) =
    subst (λ (x : List ℕ). Makes d (with_drawn_constraint (without_its_id c) d) at (edge_line names c ++ x) x) (sym begin.1) (edge_line_made names c begin.0 at d known.0) in
    subst (λ (x : List ℕ). Makes d (with_all cs (with_drawn_constraint (without_its_id c) d)) at x tail) (sym (append_assoc (edge_line names c) (edges names cs) tail))
    (then line (λ place. edges_made names cs place (with_drawn_constraint (without_its_id c) d) known.1))
