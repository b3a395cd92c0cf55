-- The lines of a document, read one after the other.
use Rattle.std.proofs.Common.{◌≡◌, ℕ, ◌-◌, ◌≤◌, List, [], ◌∷◌, ◌++◌, length, refl, ◌∙◌, arith, true, false, not, Ok, Result}
use Rattle.std.specs.Prelude.{Option, Some, None, codes, ◌==◌, nat_lt, nat_le, ◌&&◌, ℤ}
use Rattle.std.specs.List.{list_all, list_any}
use Rattle.std.proofs.lemmas.List.{length-append}
use Rattle.cstn_label.specs.Labels.{Label, empty}
use Rattle.cstn_markup.specs.Bytes.{is_same, resolved, resolved_after, past_first, piece_at as bytes_piece_at}
use Rattle.cstn_markup.specs.Tokens.{Kind, tokens, tokens_after, piece_at, tail_at}
use Rattle.cstn_markup.proofs.Resolving.{resolved_plain}
use Rattle.cstn_markup.proofs.Stepping.{tokens_skip}
use Rattle.cstn_element.specs.Results.{Refusal, ◌>>=◌}
use Rattle.cstn_element.specs.WhiteSpace.{trimmed}
use Rattle.cstn_element.specs.NumberTexts.{short_number}
use Rattle.cstn_element.specs.ValueTexts.{values_of}
use Rattle.cstn_graphml.specs.Judged.{with_pairs, prop_in_datum, reacting, labelled}
use Rattle.cstn_element.specs.Contents.{Content, contents, inner, outer, content_of}
use Rattle.cstn_element.specs.Elements.{Datum, read_by, data_reading, datum_of}
use Rattle.cstn_graphml.specs.DrawnGraph.{Observation, observation, DrawnGraph, empty_graph, node_of, with_node, with_drawn_constraint, with_deadline}
use Rattle.cstn_graphml.specs.Document.{in_graph, in_document, root_reading, document_reading}
use Rattle.cstn_save.specs.Canonical.{escaped_name, tail}
use Rattle.cstn_save.proofs.EscapedNameLemmas.{name_back}
use Rattle.cstn_save.proofs.TokenLemmas.{next_token, text_piece, graphml_tag, graph_tag, node_closed, node_open, node_end_tag, edge_open, edge_end_tag, deadline_tag, type_tag, values_tag, data_end, line_end}

-- the names of the elements around a line
abbrev pub around : List (List ℕ)
around = codes "graph" ∷ codes "graphml" ∷ []

-- reading the bytes in front of the rest makes the draft `after` of the draft `before`
pub record Makes (before after : DrawnGraph) (at : ℕ) (bytes rest : List ℕ) : Type 0 where
  pub place : ℕ
  pub told : in_graph before (inner (contents around (tokens_after 0 at bytes))) ≡ in_graph after (inner (contents around (tokens_after 0 place rest)))
  pub left : outer (contents around (tokens_after 0 at bytes)) ≡ outer (contents around (tokens_after 0 place rest))

-- the line of a time-point without data is read
pub plain_node : (name rest : List ℕ) (at : ℕ) (draft : DrawnGraph) → (nat_lt 0 (length name) && nat_le (length name) 64) ≡ true → node_of name draft ≡ None
    → Makes draft (with_node name None empty draft) at (codes "<node id=" ++ 34 ∷ (escaped_name name ++ 34 ∷ 47 ∷ 62 ∷ 10 ∷ 60 ∷ rest)) (60 ∷ rest)
unfolding contents read_by
plain_node name rest at draft sized fresh =
    let t1 = next_token 60 (codes "node id=" ++ 34 ∷ (escaped_name name ++ 34 ∷ 47 ∷ 62 ∷ 10 ∷ 60 ∷ rest)) (10 ∷ 60 ∷ rest) at _ (node_closed name (10 ∷ 60 ∷ rest)) in
    let t2 = next_token 10 (60 ∷ rest) (60 ∷ rest) t1.0 _ (line_end rest) in
    record {
      place = t2.0;
      told = rw (t1.1, t2.1, name_back name, sized, fresh) refl;
      left = rw (t1.1, t2.1) refl;
    }

pub obs_read : resolved (codes "Obs") ≡ Some (codes "Obs")
obs_read = resolved_plain (codes "Obs") refl

type_read : resolved (codes "Type") ≡ Some (codes "Type")
type_read = resolved_plain (codes "Type") refl

values_read : resolved (codes "LabeledValues") ≡ Some (codes "LabeledValues")
values_read = resolved_plain (codes "LabeledValues") refl

deadline_read : resolved (codes "Deadline") ≡ Some (codes "Deadline")
deadline_read = resolved_plain (codes "Deadline") refl

pub reaction_read : resolved (codes "Reaction") ≡ Some (codes "Reaction")
reaction_read = resolved_plain (codes "Reaction") refl

pub label_read : resolved (codes "Label") ≡ Some (codes "Label")
label_read = resolved_plain (codes "Label") refl

-- the keys that a time-point uses, and the names of the elements around its data
abbrev pub node_keys : List (List ℕ)
node_keys = codes "Obs" ∷ (codes "Reaction" ∷ (codes "Label" ∷ []))

abbrev pub in_node : List (List ℕ)
in_node = codes "node" ∷ around

-- reading the bytes in front of the rest takes the data found of a time-point from `before` to `after`
pub record Finds (before after : List Datum) (at : ℕ) (bytes rest : List ℕ) : Type 0 where
  pub place : ℕ
  pub told : read_by (data_reading node_keys) before (inner (contents in_node (tokens_after 0 at bytes))) ≡ read_by (data_reading node_keys) after (inner (contents in_node (tokens_after 0 place rest)))
  pub left : outer (contents in_node (tokens_after 0 at bytes)) ≡ outer (contents in_node (tokens_after 0 place rest))

-- a data element with this key, place and value
abbrev datum_with : List ℕ → ℕ → List ℕ → Datum
datum_with key at value = record { key = key; at = at; value = value }

pub datum_found : (key front : List ℕ) (d : ℕ) (ds rest : List ℕ) (at : ℕ) (found : List Datum)
    → ((r : List ℕ) → piece_at (60 ∷ (front ++ r)) ≡ Some (Some (Kind.start_tag (codes "data") (record { name = codes "key"; raw = key } ∷ []) false), r))
    → resolved key ≡ Some key → list_any (λ u. is_same u key) node_keys ≡ true → list_any (λ (q : Datum). is_same q.key key) found ≡ false
    → list_all (λ c. not (c == 60)) (d ∷ ds) ≡ true → list_all (λ c. not (c == 38)) (d ∷ ds) ≡ true → trimmed (d ∷ ds) ≡ d ∷ ds
    → Finds found (found ++ (datum_with key at (d ∷ ds) ∷ [])) at (60 ∷ (front ++ d ∷ (ds ++ (codes "</data>" ++ rest)))) rest
unfolding contents read_by
datum_found key front d ds rest at found tag key_read used fresh few plain trims =
    let r2 : List ℕ = codes "</data>" ++ rest in
    let r1 : List ℕ = d ∷ (ds ++ r2) in
    let t1 = next_token 60 (front ++ r1) r1 at _ (tag r1) in
    let t2 = next_token d (ds ++ r2) r2 t1.0 _ (text_piece d ds (codes "/data>" ++ rest) few plain) in
    let t3 = next_token 60 (codes "/data>" ++ rest) rest t2.0 _ (data_end rest) in
    record {
      place = t3.0;
      told = rw (t1.1, t2.1, t3.1, key_read, used, fresh, resolved_plain (d ∷ ds) plain, trims) refl;
      left = rw (t1.1, t2.1, t3.1) refl;
    }

pub finds_then : {a b c : List Datum} {at : ℕ} {x y z : List ℕ} → (m : Finds a b at x y) → Finds b c m.place y z → Finds a c at x z
finds_then m n = record { place = n.place; told = m.told ∙ n.told; left = m.left ∙ n.left }

-- the data say that a time-point observes o and has the label a
pub record Says (o : Option Observation) (a : Label) (found : List Datum) : Type 0 where
  pub prop : Option ℕ
  pub ticks : ℕ
  pub observes : prop_in_datum (datum_of (codes "Obs") found) ≡ Ok prop
  pub reacts : reacting (datum_of (codes "Reaction") found) ≡ Ok ticks
  pub labels : labelled (datum_of (codes "Label") found) ≡ Ok a
  pub is : observation prop ticks ≡ o

-- the line of a time-point with data is read
pub open_node : (name bytes rest : List ℕ) (at : ℕ) (o : Option Observation) (a : Label) (draft : DrawnGraph) → (nat_lt 0 (length name) && nat_le (length name) 64) ≡ true → node_of name draft ≡ None
    → ((place : ℕ) → (found : List Datum) × Says o a found × Finds [] found place bytes (codes "</node>\n" ++ 60 ∷ rest))
    → Makes draft (with_node name o a draft) at (codes "<node id=" ++ 34 ∷ (escaped_name name ++ 34 ∷ 62 ∷ bytes)) (60 ∷ rest)
unfolding contents read_by
open_node name bytes rest at o a draft sized fresh finds =
    let t1 = next_token 60 (codes "node id=" ++ 34 ∷ (escaped_name name ++ 34 ∷ 62 ∷ bytes)) bytes at _ (node_open name bytes) in
    let f = finds t1.0 in
    let says = f.1 in
    let m = f.2 in
    let t2 = next_token 60 (codes "/node>" ++ (10 ∷ 60 ∷ rest)) (10 ∷ 60 ∷ rest) m.place _ (node_end_tag (10 ∷ 60 ∷ rest)) in
    let t3 = next_token 10 (60 ∷ rest) (60 ∷ rest) t2.0 _ (line_end rest) in
    record {
      place = t3.0;
      told = rw (t1.1, m.told, m.left, t2.1, t3.1, name_back name, sized, fresh, says.observes, says.reacts, says.labels, says.is) refl;
      left = rw (t1.1, m.left, t2.1, t3.1) refl;
    }

requirement_read : resolved (codes "requirement") ≡ Some (codes "requirement")
requirement_read = resolved_plain (codes "requirement") refl

-- the line of a constraint is read
pub edge_made : (source target raw rest : List ℕ) (from to at : ℕ) (v : ℤ) (a : Label) (draft : DrawnGraph)
    → list_all (λ c. not (c == 60)) (123 ∷ raw) ≡ true → list_all (λ c. not (c == 38)) (123 ∷ raw) ≡ true → trimmed (123 ∷ raw) ≡ 123 ∷ raw
    → values_of (123 ∷ raw) ≡ Some (record { most = v; label = Some a } ∷ []) → node_of source draft ≡ Some from → node_of target draft ≡ Some to
    → Makes draft (with_drawn_constraint (record { from = from; to = to; most = v; label = a }) draft) at
    (codes "<edge source=" ++ 34 ∷ (escaped_name source ++ 34 ∷ (codes " target=" ++ 34 ∷ (escaped_name target ++ 34 ∷ 62 ∷ (codes "<data key=\"Type\">requirement</data><data key=\"LabeledValues\">" ++ 123 ∷ (raw ++ (codes "</data></edge>\n" ++ 60 ∷ rest))))))) (60 ∷ rest)
unfolding contents read_by with_pairs
edge_made source target raw rest from to at v a draft h k trims values is_from is_to =
    let r7 : List ℕ = codes "</edge>\n" ++ 60 ∷ rest in
    let r6 : List ℕ = codes "</data></edge>\n" ++ 60 ∷ rest in
    let r5 : List ℕ = 123 ∷ (raw ++ r6) in
    let r4 : List ℕ = codes "<data key=\"LabeledValues\">" ++ r5 in
    let r3 : List ℕ = codes "</data>" ++ r4 in
    let r2 : List ℕ = codes "requirement" ++ r3 in
    let r1 : List ℕ = codes "<data key=\"Type\">" ++ r2 in
    let t1 = next_token 60 (codes "edge source=" ++ 34 ∷ (escaped_name source ++ 34 ∷ (codes " target=" ++ 34 ∷ (escaped_name target ++ 34 ∷ 62 ∷ r1)))) r1 at _ (edge_open source target r1) in
    let t2 = next_token 60 (codes "data key=\"Type\">" ++ r2) r2 t1.0 _ (type_tag r2) in
    let t3 = next_token 114 (codes "equirement" ++ r3) r3 t2.0 _ (text_piece 114 (codes "equirement") (codes "/data>" ++ r4) refl refl) in
    let t4 = next_token 60 (codes "/data>" ++ r4) r4 t3.0 _ (data_end r4) in
    let t5 = next_token 60 (codes "data key=\"LabeledValues\">" ++ r5) r5 t4.0 _ (values_tag r5) in
    let t6 = next_token 123 (raw ++ r6) r6 t5.0 _ (text_piece 123 raw (codes "/data></edge>\n" ++ 60 ∷ rest) h k) in
    let t7 = next_token 60 (codes "/data>" ++ r7) r7 t6.0 _ (data_end r7) in
    let t8 = next_token 60 (codes "/edge>" ++ (10 ∷ 60 ∷ rest)) (10 ∷ 60 ∷ rest) t7.0 _ (edge_end_tag (10 ∷ 60 ∷ rest)) in
    let t9 = next_token 10 (60 ∷ rest) (60 ∷ rest) t8.0 _ (line_end rest) in
    record {
      place = t9.0;
      told = rw (t1.1, t2.1, t3.1, t4.1, t5.1, t6.1, t7.1, t8.1, t9.1, type_read, requirement_read, values_read, resolved_plain (123 ∷ raw) k, trims, name_back source, name_back target, is_from, is_to, values) refl;
      left = rw (t1.1, t2.1, t3.1, t4.1, t5.1, t6.1, t7.1, t8.1, t9.1) refl;
    }

-- the line of the deadline is read
pub deadline_made : (d n : ℕ) (ds rest : List ℕ) (at : ℕ) → list_all (λ c. not (c == 60)) (d ∷ ds) ≡ true → list_all (λ c. not (c == 38)) (d ∷ ds) ≡ true → trimmed (d ∷ ds) ≡ d ∷ ds → short_number 4294967296 (d ∷ ds) ≡ Some n
    → Makes empty_graph (with_deadline (record { key = codes "Deadline"; at = at; value = d ∷ ds }) n empty_graph) at (codes "<data key=\"Deadline\">" ++ d ∷ (ds ++ (codes "</data>\n" ++ 60 ∷ rest))) (60 ∷ rest)
unfolding contents read_by
deadline_made d n ds rest at h k trims number =
    let r2 : List ℕ = codes "</data>\n" ++ 60 ∷ rest in
    let r1 : List ℕ = d ∷ (ds ++ r2) in
    let t1 = next_token 60 (codes "data key=\"Deadline\">" ++ r1) r1 at _ (deadline_tag r1) in
    let t2 = next_token d (ds ++ r2) r2 t1.0 _ (text_piece d ds (codes "/data>\n" ++ 60 ∷ rest) h k) in
    let t3 = next_token 60 (codes "/data>" ++ (10 ∷ 60 ∷ rest)) (10 ∷ 60 ∷ rest) t2.0 _ (data_end (10 ∷ 60 ∷ rest)) in
    let t4 = next_token 10 (60 ∷ rest) (60 ∷ rest) t3.0 _ (line_end rest) in
    record {
      place = t4.0;
      told = rw (t1.1, t2.1, t3.1, t4.1, deadline_read, resolved_plain (d ∷ ds) k, trims, number) refl;
      left = rw (t1.1, t2.1, t3.1, t4.1) refl;
    }

-- what two runs of bytes, read one after the other, make of a draft
pub then : {a b c : DrawnGraph} {at : ℕ} {x y z : List ℕ} → Makes a b at x y → ((place : ℕ) → Makes b c place y z) → Makes a c at x z
then m next = let n = next m.place in record { place = n.place; told = m.told ∙ n.told; left = m.left ∙ n.left }

-- what the contents left of the graph, the root and the document make of a draft
abbrev pub ending : DrawnGraph → List Content → Result DrawnGraph Refusal
ending d cs = (((in_graph d (inner cs) >>= λ draft. Ok (Some draft)) >>= λ seen. read_by root_reading seen (inner (outer cs))) >>= λ draft. Ok (Some draft)) >>= λ seen. read_by document_reading seen (inner (outer (outer cs)))

pub makes_ending : {a b : DrawnGraph} {at : ℕ} {x y : List ℕ} → (m : Makes a b at x y) → ending a (contents around (tokens_after 0 at x)) ≡ ending b (contents around (tokens_after 0 m.place y))
makes_ending m = rw (m.told, m.left) refl

pub tail_ending : (d : DrawnGraph) (at : ℕ) → ending d (contents around (tokens_after 0 at tail)) ≡ Ok d
unfolding contents read_by tokens_after resolved_after bytes_piece_at tail_at
tail_ending d at = refl

-- the lines in front of the deadline are read
pub head_ending : (rest : List ℕ) → (place : ℕ) × (in_document (content_of (tokens (codes "<?xml version=\"1.0\" encoding=\"UTF-8\"?>\n<graphml>\n<graph edgedefault=\"directed\">\n" ++ 60 ∷ rest))) ≡ ending empty_graph (contents around (tokens_after 0 place (60 ∷ rest))))
unfolding contents read_by past_first
head_ending rest =
    let r4 : List ℕ = 60 ∷ rest in
    let r3 : List ℕ = codes "\n" ++ r4 in
    let r2 : List ℕ = codes "<graph edgedefault=\"directed\">" ++ r3 in
    let r1 : List ℕ = codes "\n" ++ r2 in
    let r0 : List ℕ = codes "<graphml>" ++ r1 in
    let whole : List ℕ = codes "<?xml version=\"1.0\" encoding=\"UTF-8\"?>\n" ++ r0 in
    let size : length (codes "<?xml version=\"1.0\" encoding=\"UTF-8\"?>\n" ++ r0) - length (10 ∷ r0) ≡ 38 = omega (arith, length-append (codes "<?xml version=\"1.0\" encoding=\"UTF-8\"?>\n") r0) in
    let inside : 38 ≤ length (codes "<?xml version=\"1.0\" encoding=\"UTF-8\"?>\n" ++ r0) = omega (arith, length-append (codes "<?xml version=\"1.0\" encoding=\"UTF-8\"?>\n") r0) in
    let t1 = next_token 10 r0 r0 38 _ (line_end (codes "graphml>" ++ r1)) in
    let t2 = next_token 60 (codes "graphml>" ++ r1) r1 t1.0 _ (graphml_tag r1) in
    let t3 = next_token 10 r2 r2 t2.0 _ (line_end (codes "graph edgedefault=\"directed\">" ++ r3)) in
    let t4 = next_token 60 (codes "graph edgedefault=\"directed\">" ++ r3) r3 t3.0 _ (graph_tag r3) in
    let t5 = next_token 10 (60 ∷ rest) (60 ∷ rest) t4.0 _ (line_end rest) in
    (t5.0, rw (size, tokens_skip 38 0 whole inside, t1.1, t2.1, t3.1, t4.1, t5.1) refl)
