-- The canonical document, read as a whole.
use Rattle.std.proofs.Common.{◌≡◌, ℕ, zero, suc, ◌<◌, ◌^◌, List, [], ◌∷◌, ◌++◌, length, refl, ap, ◌∙◌, arith, true, not, append_assoc, Ok, subst}
use Rattle.std.specs.Prelude.{Option, Some, None, codes, ◌==◌, slice_index_or}
use Rattle.std.specs.Char.{is_ascii_digit}
use Rattle.std.specs.List.{list_all}
use Rattle.std.proofs.lemmas.Fmt.{decimal_nonempty}
use Rattle.cstn_label.specs.Labels.{Label}
use Rattle.cstn_net.specs.Networks.{Network, count}
use Rattle.cstn_lift.specs.Labelled.{Labelled, label_in}
use Rattle.cstn_text.specs.Numbers.{printed_number}
use Rattle.cstn_markup.specs.Tokens.{tokens}
use Rattle.cstn_element.specs.NumberTexts.{short_number}
use Rattle.cstn_element.specs.Contents.{content_of}
use Rattle.cstn_graphml.specs.DrawnGraph.{DrawnGraph, empty_graph, with_deadline}
use Rattle.cstn_graphml.specs.Document.{in_document}
use Rattle.cstn_graphml.specs.DrawnGraph.{Observation}
use Rattle.cstn_save.specs.Canonical.{escaped_name, head, node_data, node_end, node_line, timed_observations, nodes_below, nodes, edges, tail, canonical}
use Rattle.cstn_save.proofs.NumberTextLemmas.{decimal_digits, short_back}
use Rattle.cstn_save.proofs.ValueTextLemmas.{trimmed_solid, digit_solid, is_solid}
use Rattle.cstn_save.proofs.RunLemmas.{all_for}
use Rattle.cstn_save.proofs.LineLemmas.{Makes, deadline_made, makes_ending, tail_ending, head_ending}
use Rattle.cstn_save.proofs.WholeLemmas.{joined_four, drafted, IsNew, nodes_made}
use Rattle.cstn_save.proofs.EdgeLemmas.{with_all, AreKnown, edges_begin, edges_made}

-- the draft with a deadline alone, of a data element at a place
abbrev pub begun : ℕ → ℕ → DrawnGraph
begun deadline at = with_deadline (record { key = codes "Deadline"; at = at; value = printed_number deadline }) deadline empty_graph

digits_made : (digits rest : List ℕ) (n at : ℕ) → 0 < length digits → list_all is_ascii_digit digits ≡ true → short_number 4294967296 digits ≡ Some n
    → Makes empty_graph (with_deadline (record { key = codes "Deadline"; at = at; value = digits }) n empty_graph) at (codes "<data key=\"Deadline\">" ++ (digits ++ (codes "</data>\n" ++ 60 ∷ rest))) (60 ∷ rest)
digits_made [] rest n at some h e = absurd (omega arith)
digits_made (d ∷ ds) rest n at some h e =
    deadline_made d n ds rest at (all_for is_ascii_digit (λ c. not (c == 60)) (d ∷ ds) (λ b k. grind arith) h) (all_for is_ascii_digit (λ c. not (c == 38)) (d ∷ ds) (λ b k. grind arith) h)
    (trimmed_solid (d ∷ ds) (all_for is_ascii_digit is_solid (d ∷ ds) digit_solid h)) e

nodes_begin : (names : List (List ℕ)) (observes : List (Option Observation)) (labels : List Label) (n : ℕ) (rest : List ℕ) → (more : List ℕ) × (nodes_below names observes labels n ++ 60 ∷ rest ≡ 60 ∷ more)
unfolding nodes_below
nodes_begin names observes labels zero rest = (rest, refl)
nodes_begin names observes labels (suc n) rest =
    let name : List ℕ = slice_index_or names n [] in
    let o : Option Observation = slice_index_or observes n None in
    let a : Label = label_in labels n in
    let more = nodes_begin names observes labels n (codes "node id=\"" ++ escaped_name name ++ node_end (node_data o a) ++ 60 ∷ rest) in
    (more.0, append_assoc (nodes_below names observes labels n) (node_line name o a) (60 ∷ rest) ∙ more.1)

-- the draft of all time-points
abbrev pub drafted_of : Labelled → List (List ℕ) → ℕ → DrawnGraph
drafted_of m names at = drafted names (timed_observations m.base) m.labels (begun m.base.deadline at) (count m.base)

canonical_flat : (m : Labelled) (names : List (List ℕ)) → canonical m names ≡ codes "<?xml version=\"1.0\" encoding=\"UTF-8\"?>\n<graphml>\n<graph edgedefault=\"directed\">\n" ++ 60 ∷ (codes "data key=\"Deadline\">"
    ++ (printed_number m.base.deadline ++ (codes "</data>\n" ++ (nodes names m ++ (edges names m.base.constraints ++ tail)))))
canonical_flat m names =
    joined_four (head m.base.deadline) (nodes names m) (edges names m.base.constraints) tail
    ∙ joined_four (codes "<?xml version=\"1.0\" encoding=\"UTF-8\"?>\n<graphml>\n<graph edgedefault=\"directed\">\n<data key=\"Deadline\">") (printed_number m.base.deadline) (codes "</data>\n") (nodes names m ++ (edges names m.base.constraints ++ tail))

-- the canonical document gives the draft with the deadline, all time-points and all constraints
pub canonical_drafted : (m : Labelled) (names : List (List ℕ)) → m.base.deadline < 2 ^ 32 → ((at i : ℕ) → i < count m.base → IsNew names (timed_observations m.base) m.labels (begun m.base.deadline at) i)
    → ((at : ℕ) → AreKnown names (drafted_of m names at) m.base.constraints)
    → (at : ℕ) × (in_document (content_of (tokens (canonical m names))) ≡ Ok (with_all m.base.constraints (drafted_of m names at)))
canonical_drafted m names small new known =
    let net : Network = m.base in
    let e = edges_begin names net.constraints in
    let b = nodes_begin names (timed_observations net) m.labels (count net) e.0 in
    let n64 : net.deadline < 2 ^ 64 = omega arith in
    let both : nodes names m ++ (edges names net.constraints ++ tail) ≡ 60 ∷ b.0 = ap (λ (x : List ℕ). nodes names m ++ x) e.1 ∙ b.1 in
    let h = head_ending (codes "data key=\"Deadline\">" ++ (printed_number net.deadline ++ (codes "</data>\n" ++ 60 ∷ b.0))) in
    let m1 : Makes empty_graph (begun net.deadline h.0) h.0 (codes "<data key=\"Deadline\">" ++ (printed_number net.deadline ++ (codes "</data>\n" ++ 60 ∷ b.0))) (60 ∷ b.0) =
    digits_made (printed_number net.deadline) b.0 net.deadline h.0 (decimal_nonempty net.deadline n64) (decimal_digits net.deadline n64) (short_back 4294967296 net.deadline small (omega arith)) in
    let m2 : Makes (begun net.deadline h.0) (drafted_of m names h.0) m1.place (60 ∷ b.0) (60 ∷ e.0) =
    subst (λ (x : List ℕ). Makes (begun net.deadline h.0) (drafted_of m names h.0) m1.place x (60 ∷ e.0)) b.1 (nodes_made names (timed_observations net) m.labels (begun net.deadline h.0) (count net) m1.place e.0 (new h.0)) in
    let m3 : Makes (drafted_of m names h.0) (with_all net.constraints (drafted_of m names h.0)) m2.place (60 ∷ e.0) tail =
    subst (λ (x : List ℕ). Makes (drafted_of m names h.0) (with_all net.constraints (drafted_of m names h.0)) m2.place x tail) e.1
    (edges_made names net.constraints m2.place (drafted_of m names h.0) (known h.0)) in (
      h.0,
      ap (λ (x : List ℕ). in_document (content_of (tokens x))) (canonical_flat m names ∙ ap (λ (x : List ℕ). codes "<?xml version=\"1.0\" encoding=\"UTF-8\"?>\n<graphml>\n<graph edgedefault=\"directed\">\n" ++ 60 ∷ (codes "data key=\"Deadline\">" ++ (printed_number net.deadline ++ (codes "</data>\n" ++ x)))) both)
          ∙ h.1 ∙ makes_ending m1 ∙ makes_ending m2 ∙ makes_ending m3 ∙ tail_ending (with_all net.constraints (drafted_of m names h.0)) m3.place,
    )
