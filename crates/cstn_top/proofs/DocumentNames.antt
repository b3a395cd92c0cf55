-- The names of a document's time-points are names: different texts of 1 to 64 bytes.
use Rattle.std.proofs.Common.{◌≡◌, ℕ, ◌+◌, ◌<◌, Bool, true, false, List, [], ◌∷◌, length, refl, ap, sym, ◌∙◌, subst, arith, ◌≢◌, zero, suc, ◌^◌, ◌++◌, map, Option, Some, None, Result, Ok}
use Rattle.std.specs.Prelude.{if◌then◌else◌, Option, None, Some, Result, Ok, codes, is_some, not, nat_lt, nat_le, ◌&&◌}
use Rattle.cstn_label.specs.Labels.{Label}
use Rattle.cstn_element.specs.Results.{Refusal, or_refused, ◌>>=◌, demand}
use Rattle.cstn_element.specs.Results.Refusal.{no_deadline, shape, bad_value, unknown_node, name_twice, label_text}
use Rattle.cstn_graphml.specs.Document.{Parts, document, in_document, is_text, drawn_parts, first_of_two, or_nothing, Part, graph_child, graph_reading, in_graph, root_child, root_reading, in_root, document_child, document_reading, part_of}
use Rattle.cstn_graphml.proofs.DrawnGraphLaws.{bind_ok, document_is_drawn}
use Rattle.std.specs.List.{All, AllPairs, AllByRecursion, Contains, list_any}
use Rattle.std.specs.Str.{IsAscii, IsUtf8, is_utf8}
use Rattle.std.proofs.lemmas.List.{get_or_default}
use Rattle.std.proofs.lemmas.List.Elements.{All-push}
use Rattle.std.proofs.lemmas.List.Quantifiers.{all_pairs_push}
use Rattle.std.proofs.lemmas.Str.{IsUtf8-nil, IsUtf8-from_ascii, IsUtf8-from_is_utf8}
use Rattle.cstn_markup.specs.Bytes.{is_same, resolved}
use Rattle.cstn_markup.specs.Tokens.{Attribute, Kind, Token, raw_with, tokens}
use Rattle.cstn_markup.specs.Tokens.Kind.{start_tag, end_tag, text_run, wrong, finish}
use Rattle.cstn_markup.specs.Spans.{attribute_spans, spans, AreInPlace}
use Rattle.cstn_markup.proofs.Laws.{tokens_in_place}
use Rattle.cstn_markup.proofs.Places.{spans_utf8}
use Rattle.cstn_markup.proofs.Resolving.{resolved_utf8}
use Rattle.cstn_text.specs.Names.{IsName, AreNames}
use Rattle.cstn_text.proofs.NameLemmas.{shaped}
use Rattle.cstn_element.specs.ValueTexts.{Pair, values_of}
use Rattle.cstn_element.specs.NumberTexts.{deadline_of}
use Rattle.cstn_element.specs.Contents.{Tag, Content, inner, outer, opened, closed_by, contents_by, contents, content_of}
use Rattle.cstn_element.specs.Contents.Content.{done, cut, run, element}
use Rattle.cstn_element.specs.Elements.{Reading, read_by, Datum, blank, passed, datum, data_of, datum_of, attribute, read_of, read_option, or_no_bytes}
use Rattle.cstn_graphml.specs.DrawnGraph.{Observation, observation, DrawnGraph, empty_graph, origin_name, node_of, with_node, with_drawn_constraint, with_deadline}
use Rattle.cstn_graphml.specs.Judged.{judged_node, judged_edge, judged_deadline, with_pair, with_pairs, with_values, with_edge, is_edge_kept, prop_in_datum, reacting, labelled}
use Rattle.cstn_graphml.specs.Document.Part.{a_datum, a_node, an_edge, another}
use Rattle.cstn_graphml.proofs.FreshNames.{fresh}

-- the names and values of a tag are UTF-8, or those of all tags of a content
abbrev IsClearTag : Tag → Type 0
IsClearTag tag = AllByRecursion IsUtf8 (attribute_spans tag.attributes)

abbrev IsClear : Content → Type 0
IsClear (done at) = Unit {0}
IsClear (cut at) = Unit {0}
IsClear (run at raw after) = IsClear after
IsClear (element tag inside after) = IsClearTag tag × IsClear inside × IsClear after

abbrev AreClear : List Content → Type 0
AreClear contents' = AllByRecursion IsClear contents'

abbrev AreClearTokens : List Token → Type 0
AreClearTokens ts = AllByRecursion (λ t. AllByRecursion IsUtf8 (spans t.kind)) ts

clear_tokens : (text : List ℕ) (ts : List Token) → IsUtf8 text → AreInPlace text ts → AreClearTokens ts
clear_tokens text [] u places = absurd places
clear_tokens text (t ∷ []) u places = (subst (AllByRecursion IsUtf8) (sym places.1) tt, tt)
clear_tokens text (t ∷ (next ∷ later)) u places = (spans_utf8 text t.at next.at (spans t.kind) u places.1, clear_tokens text (next ∷ later) u places.2)

inner_clear : (cs : List Content) → AreClear cs → IsClear (inner cs)
inner_clear [] all = tt
inner_clear (c ∷ cs) all = all.0

outer_clear : (cs : List Content) → AreClear cs → AreClear (outer cs)
outer_clear [] all = tt
outer_clear (c ∷ cs) all = all.1

cut_clear : (names : List (List ℕ)) (at : ℕ) → AreClear (map (λ (name : List ℕ). cut at) names)
cut_clear [] at = tt
cut_clear (name ∷ names) at = (tt, cut_clear names at)

opened_clear : (allowed closed : Bool) (names : List (List ℕ)) (tag : Tag) (later : List (List ℕ) → List Content) → IsClearTag tag → ((others : List (List ℕ)) → AreClear (later others)) → AreClear (opened allowed closed names tag later)
opened_clear true true names tag later clear rest = ((clear, tt, inner_clear (later names) (rest names)), outer_clear (later names) (rest names))
opened_clear true false names tag later clear rest =
    let under = later (tag.name ∷ names) in
    let all = rest (tag.name ∷ names) in
    ((clear, inner_clear under all, inner_clear (outer under) (outer_clear under all)), outer_clear (outer under) (outer_clear under all))
opened_clear false closed names tag later clear rest = (tt, cut_clear names tag.at)

ended_clear : (same : Bool) (names : List (List ℕ)) (name : List ℕ) (at : ℕ) (later : List (List ℕ) → List Content) → ((others : List (List ℕ)) → AreClear (later others)) → AreClear (closed_by same names name at later)
ended_clear true names name at later rest = (tt, rest names)
ended_clear false names name at later rest = (tt, cut_clear (name ∷ names) at)

kind_clear : (names : List (List ℕ)) (at : ℕ) (k : Kind) (later : List (List ℕ) → List Content) → AllByRecursion IsUtf8 (spans k) → ((others : List (List ℕ)) → AreClear (later others)) → AreClear (contents_by names at k later)
kind_clear names at (start_tag name attributes closed) later clear rest = opened_clear (nat_lt (length names) 32) closed names (record { at = at; name = name; attributes = attributes }) later clear.1 rest
kind_clear [] at (end_tag last) later clear rest = (tt, tt)
kind_clear (name ∷ names) at (end_tag last) later clear rest = ended_clear (is_same last name) names name at later rest
kind_clear names at (text_run raw) later clear rest = (inner_clear (later names) (rest names), outer_clear (later names) (rest names))
kind_clear names at wrong later clear rest = (tt, cut_clear names at)
kind_clear [] at finish later clear rest = (tt, tt)
kind_clear (name ∷ names) at finish later clear rest = (tt, cut_clear (name ∷ names) at)

contents_clear : (names : List (List ℕ)) (ts : List Token) → AreClearTokens ts → AreClear (contents names ts)
unfolding contents
contents_clear names [] all = (tt, cut_clear names 0)
contents_clear names (t ∷ ts) all = kind_clear names t.at t.kind (λ others. contents others ts) all.0 (λ others. contents_clear others ts all.1)

pub text_clear : (text : List ℕ) → IsUtf8 text → IsClear (content_of (tokens text))
text_clear text u = inner_clear (contents [] (tokens text)) (contents_clear [] (tokens text) (clear_tokens text (tokens text) u (tokens_in_place text u)))

-- the value of an attribute is UTF-8
raw_clear : (name : List ℕ) (attributes : List Attribute) (raw : List ℕ) → AllByRecursion IsUtf8 (attribute_spans attributes) → raw_with name attributes ≡ Some raw → IsUtf8 raw
raw_clear name [] raw all is = absurd (cc)
raw_clear name (a ∷ attributes) raw all is = by_name (raw_clear name attributes raw all.1.1) (is_same a.name name) is
  where
    by_name : (raw_with name attributes ≡ Some raw → IsUtf8 raw) → (b : Bool) → (if b then Some a.raw else raw_with name attributes) ≡ Some raw → IsUtf8 raw
    by_name rest true e = let same : a.raw ≡ raw = cc in subst IsUtf8 same all.1.0
    by_name rest false e = rest e

read_clear : (raw : List ℕ) → IsUtf8 raw → IsUtf8 (read_of raw)
read_clear raw u = by_value (resolved raw) refl
  where
    by_value : (o : Option (List ℕ)) → resolved raw ≡ o → IsUtf8 (or_no_bytes o)
    by_value (Some v) e = resolved_utf8 raw v u e
    by_value None e = IsUtf8-nil

attribute_clear : (name : List ℕ) (tag : Tag) (value : List ℕ) → IsClearTag tag → attribute name tag ≡ Some value → IsUtf8 value
attribute_clear name tag value clear is = by_raw (raw_with name tag.attributes) refl is
  where
    by_raw : (o : Option (List ℕ)) → raw_with name tag.attributes ≡ o → read_option o ≡ Some value → IsUtf8 value
    by_raw None e h = absurd (cc)
    by_raw (Some raw) e h = let same : read_of raw ≡ value = cc in subst IsUtf8 same (read_clear raw (raw_clear name tag.attributes raw clear e))

ok_is : {A : Type 0} (x y : A) → ◌≡◌ {A = Result A Refusal} (Ok x) (Ok y) → x ≡ y
ok_is x y e = cc

given : {A : Type 0} (o : Option A) (e : Refusal) (x : A) → or_refused o e ≡ Ok x → o ≡ Some x
given (Some y) e x h = cc
given None e x h = absurd (cc)

demanded : (b : Bool) (e : Refusal) (u : Unit {0}) → demand b e ≡ Ok u → b ≡ true
demanded true e u h = refl
demanded false e u h = absurd (cc)

-- what each step keeps, the reading of a clear content keeps
read_keeps : {S A : Type 0} (r : Reading S A) (P : S → Type 0) (Q : A → Type 0)
    → ((s : S) (at : ℕ) (a : A) → P s → r.ends s at ≡ Ok a → Q a)
    → ((s t : S) (at : ℕ) (raw : List ℕ) → P s → r.runs s at raw ≡ Ok t → P t)
    → ((s t : S) (tag : Tag) (inside : Content) → IsClearTag tag → IsClear inside → P s → r.elements s tag inside ≡ Ok t → P t)
    → (c : Content) (s : S) (a : A) → IsClear c → P s → read_by r s c ≡ Ok a → Q a
unfolding read_by
read_keeps r P Q ends runs elements (done at) s a clear p h = ends s at a p h
read_keeps r P Q ends runs elements (cut at) s a clear p h = absurd (cc)
read_keeps r P Q ends runs elements (run at raw after) s a clear p h =
    let b = bind_ok (r.runs s at raw) (λ t. read_by r t after) a h in
    read_keeps r P Q ends runs elements after b.0 a clear (runs s b.0 at raw p b.1) b.2
read_keeps r P Q ends runs elements (element tag inside after) s a clear p h =
    let b = bind_ok (r.elements s tag inside) (λ t. read_by r t after) a h in
    read_keeps r P Q ends runs elements after b.0 a clear.2 (elements s b.0 tag inside clear.0 clear.1 p b.1) b.2

blank_keeps : {S : Type 0} (P : S → Type 0) (s t : S) (at : ℕ) (raw : List ℕ) → P s → (blank at raw >>= λ same. Ok s) ≡ Ok t → P t
blank_keeps P s t at raw p h = let b = bind_ok (blank at raw) (λ same. Ok s) t h in subst P (ok_is s t b.2) p

-- the names of a graph are different texts of 1 to 64 bytes
record IsNamedGraph (d : DrawnGraph) : Type 0 where
  pub each : All IsName d.names
  pub different : AllPairs (λ (a b : List ℕ). a ≢ b) d.names

renamed : (d e : DrawnGraph) → d.names ≡ e.names → IsNamedGraph d → IsNamedGraph e
renamed d e same h = record { each = subst (All IsName) same h.each; different = subst (AllPairs (λ (a b : List ℕ). a ≢ b)) same h.different }

-- edges leave the names as they are
pairs_names : (at from to : ℕ) (pairs : List Pair) (d e : DrawnGraph) → with_pairs at from to pairs d ≡ Ok e → d.names ≡ e.names
unfolding with_pairs
pairs_names at from to [] d e k = ap (λ (g : DrawnGraph). g.names) (ok_is d e k)
pairs_names at from to (p ∷ pairs) d e k =
    let b = bind_ok (with_pair at from to p d) (with_pairs at from to pairs) e k in
    let q = bind_ok (or_refused p.label (label_text at)) (λ label. Ok (with_drawn_constraint (record { from = from; to = to; most = p.most; label = label }) d)) b.0 b.1 in
    let is = ok_is (with_drawn_constraint (record { from = from; to = to; most = p.most; label = q.0 }) d) b.0 q.2 in
    ap (λ (g : DrawnGraph). g.names) is ∙ pairs_names at from to pairs b.0 e b.2

values_names : (from to : ℕ) (found : Option Datum) (d e : DrawnGraph) → with_values from to found d ≡ Ok e → d.names ≡ e.names
values_names from to None d e k = ap (λ (g : DrawnGraph). g.names) (ok_is d e k)
values_names from to (Some x) d e k =
    let b = bind_ok (or_refused (values_of x.value) (bad_value x.at)) (λ pairs. with_pairs x.at from to pairs d) e k in
    pairs_names x.at from to b.0 d e b.2

edge_names : (keeps : Bool) (at : ℕ) (source target : List ℕ) (d e : DrawnGraph) (found : List Datum) → with_edge keeps at source target d found ≡ Ok e → d.names ≡ e.names
edge_names false at source target d e found k = ap (λ (g : DrawnGraph). g.names) (ok_is d e k)
edge_names true at source target d e found k =
    let a = bind_ok (or_refused (node_of source d) (unknown_node at)) (λ from. or_refused (node_of target d) (unknown_node at) >>= λ to. with_values from to (datum_of (codes "LabeledValues") found) d) e k in
    let b = bind_ok (or_refused (node_of target d) (unknown_node at)) (λ to. with_values a.0 to (datum_of (codes "LabeledValues") found) d) e a.2 in
    values_names a.0 b.0 (datum_of (codes "LabeledValues") found) d e b.2

edge_judged : (tag : Tag) (d e : DrawnGraph) (found : List Datum) → IsNamedGraph d → judged_edge tag d found ≡ Ok e → IsNamedGraph e
edge_judged tag d e found h k =
    let a = bind_ok (or_refused (attribute (codes "source") tag) (shape tag.at)) (λ source. or_refused (attribute (codes "target") tag) (shape tag.at) >>= λ target. is_edge_kept (datum_of (codes "Type") found) >>= λ keeps. with_edge keeps tag.at source target d found) e k in
    let b = bind_ok (or_refused (attribute (codes "target") tag) (shape tag.at)) (λ target. is_edge_kept (datum_of (codes "Type") found) >>= λ keeps. with_edge keeps tag.at a.0 target d found) e a.2 in
    let c = bind_ok (is_edge_kept (datum_of (codes "Type") found)) (λ keeps. with_edge keeps tag.at a.0 b.0 d found) e b.2 in
    renamed d e (edge_names c.0 tag.at a.0 b.0 d e found c.2) h

deadline_judged : (d e : DrawnGraph) (found : Option Datum) → IsNamedGraph d → judged_deadline d found ≡ Ok e → IsNamedGraph e
deadline_judged d e None h k = subst IsNamedGraph (ok_is d e k) h
deadline_judged d e (Some x) h k =
    let b = bind_ok (or_refused (deadline_of x.value) (bad_value x.at)) (λ n. Ok (with_deadline x n d)) e k in
    renamed d e (ap (λ (g : DrawnGraph). g.names) (ok_is (with_deadline x b.0 d) e b.2)) h

node_added : (is_origin : Bool) (name : List ℕ) (observed' : Option Observation) (label : Label) (d : DrawnGraph) → IsNamedGraph d → IsName name → (is_origin ≡ false → Contains d.names name → ⊥) →
    IsNamedGraph (if is_origin then record d { origin = Some observed'; origin_label = label } else record d { names = d.names ++ (name ∷ []); observes = d.observes ++ (observed' ∷ []); labels = d.labels ++ (label ∷ []) })
node_added true name observed' label d h is fresh' = record { each = h.each; different = h.different }
node_added false name observed' label d h is fresh' = record {
  each = All-push IsName d.names name h.each is;
  different = all_pairs_push (λ (a b : List ℕ). a ≢ b) d.names name h.different (λ k e inside same. fresh' refl (k, inside, get_or_default d.names k name e inside ∙ same));
}

node_judged : (tag : Tag) (d e : DrawnGraph) (found : List Datum) → IsClearTag tag → IsNamedGraph d → judged_node tag d found ≡ Ok e → IsNamedGraph e
node_judged tag d e found clear h k =
    let a = bind_ok (or_refused (attribute (codes "id") tag) (shape tag.at)) (λ id. demand (nat_lt 0 (length id) && nat_le (length id) 64) (bad_value tag.at) >>= λ sized. demand (not (is_some (node_of id d))) (name_twice tag.at) >>= λ fresh. prop_in_datum (datum_of (codes "Obs") found) >>= λ prop. reacting (datum_of (codes "Reaction") found) >>= λ ticks. labelled (datum_of (codes "Label") found) >>= λ label. Ok (with_node id (observation prop ticks) label d)) e k in
    let b = bind_ok (demand (nat_lt 0 (length a.0) && nat_le (length a.0) 64) (bad_value tag.at)) (λ sized. demand (not (is_some (node_of a.0 d))) (name_twice tag.at) >>= λ fresh. prop_in_datum (datum_of (codes "Obs") found) >>= λ prop. reacting (datum_of (codes "Reaction") found) >>= λ ticks. labelled (datum_of (codes "Label") found) >>= λ label. Ok (with_node a.0 (observation prop ticks) label d)) e a.2 in
    let c = bind_ok (demand (not (is_some (node_of a.0 d))) (name_twice tag.at)) (λ fresh. prop_in_datum (datum_of (codes "Obs") found) >>= λ prop. reacting (datum_of (codes "Reaction") found) >>= λ ticks. labelled (datum_of (codes "Label") found) >>= λ label. Ok (with_node a.0 (observation prop ticks) label d)) e b.2 in
    let p = bind_ok (prop_in_datum (datum_of (codes "Obs") found)) (λ prop. reacting (datum_of (codes "Reaction") found) >>= λ ticks. labelled (datum_of (codes "Label") found) >>= λ label. Ok (with_node a.0 (observation prop ticks) label d)) e c.2 in
    let r = bind_ok (reacting (datum_of (codes "Reaction") found)) (λ ticks. labelled (datum_of (codes "Label") found) >>= λ label. Ok (with_node a.0 (observation p.0 ticks) label d)) e p.2 in
    let u = bind_ok (labelled (datum_of (codes "Label") found)) (λ label. Ok (with_node a.0 (observation p.0 r.0) label d)) e r.2 in
    let is = shaped a.0 (demanded _ (bad_value tag.at) b.0 b.1) (attribute_clear (codes "id") tag a.0 clear (given (attribute (codes "id") tag) (shape tag.at) a.0 a.1)) in
    let new = none_there (node_of a.0 d) (demanded _ (name_twice tag.at) c.0 c.1) in
    subst IsNamedGraph (ok_is (with_node a.0 (observation p.0 r.0) u.0 d) e u.2)
    (node_added (is_same a.0 origin_name) a.0 (observation p.0 r.0) u.0 d h is (λ other. fresh a.0 d new other))
  where
    none_there : (o : Option ℕ) → not (is_some o) ≡ true → o ≡ None
    none_there (Some x) t = let f : ⊥ = cc in absurd f
    none_there None t = refl

child_keeps : (part : Part) (d e : DrawnGraph) (tag : Tag) (inside : Content) → IsClearTag tag → IsNamedGraph d → graph_child part d tag inside ≡ Ok e → IsNamedGraph e
child_keeps a_datum d e tag inside clear h k = let b = bind_ok (datum (codes "Deadline" ∷ []) (λ key. list_any (λ (q : Datum). is_same q.key key) d.own) tag inside) (judged_deadline d) e k in deadline_judged d e b.0 h b.2
child_keeps a_node d e tag inside clear h k = let b = bind_ok (data_of (codes "Obs" ∷ (codes "Reaction" ∷ (codes "Label" ∷ []))) inside) (judged_node tag d) e k in node_judged tag d e b.0 clear h b.2
child_keeps an_edge d e tag inside clear h k = let b = bind_ok (data_of (codes "Type" ∷ (codes "LabeledValues" ∷ [])) inside) (judged_edge tag d) e k in edge_judged tag d e b.0 h b.2
child_keeps another d e tag inside clear h k = let b = bind_ok (passed inside) (λ same. Ok d) e k in subst IsNamedGraph (ok_is d e b.2) h

origin_ascii : IsAscii origin_name
origin_ascii zero = omega arith
origin_ascii (suc i) = omega arith

origin_is_name : IsName origin_name
origin_is_name = shaped origin_name refl (IsUtf8-from_ascii origin_name origin_ascii)

empty_named : IsNamedGraph empty_graph
empty_named = record {
  each = All-push IsName [] origin_name (λ k d inside. absurd (omega (arith, inside))) origin_is_name;
  different = λ i j d less inside. absurd (omega arith);
}

graph_named : (inside : Content) (d : DrawnGraph) → IsClear inside → in_graph empty_graph inside ≡ Ok d → IsNamedGraph d
graph_named inside d clear k = read_keeps graph_reading IsNamedGraph IsNamedGraph (λ s at a h e. subst IsNamedGraph (ok_is s a e) h) (λ s t at raw h e. blank_keeps IsNamedGraph s t at raw h e)
    (λ s t tag content clear' within h e. child_keeps (part_of tag.name) s t tag content clear' h e) inside empty_graph d clear empty_named k

abbrev Seen : Option DrawnGraph → Type 0
Seen (Some d) = IsNamedGraph d
Seen None = Unit {0}

ended : (seen : Option DrawnGraph) (at : ℕ) (d : DrawnGraph) → Seen seen → or_refused seen (shape at) ≡ Ok d → IsNamedGraph d
ended (Some x) at d h e = subst IsNamedGraph (ok_is x d e) h
ended None at d h e = absurd (cc)

root_keeps : (b : Bool) (s t : Option DrawnGraph) (tag : Tag) (inside : Content) → IsClear inside → Seen s → root_child b s tag inside ≡ Ok t → Seen t
root_keeps true (Some d) t tag inside clear h k = absurd (cc)
root_keeps true None t tag inside clear h k = let b = bind_ok (in_graph empty_graph inside) (λ d. Ok (Some d)) t k in subst Seen (ok_is (Some b.0) t b.2) (graph_named inside b.0 clear b.1)
root_keeps false s t tag inside clear h k = let b = bind_ok (passed inside) (λ same. Ok s) t k in subst Seen (ok_is s t b.2) h

root_named : (inside : Content) (d : DrawnGraph) → IsClear inside → in_root inside ≡ Ok d → IsNamedGraph d
root_named inside d clear k = read_keeps root_reading Seen IsNamedGraph (λ s at a h e. ended s at a h e) (λ s t at raw h e. blank_keeps Seen s t at raw h e)
    (λ s t tag content clear' within h e. root_keeps (is_same tag.name (codes "graph")) s t tag content within h e) inside None d clear tt k

whole_keeps : (s t : Option DrawnGraph) (tag : Tag) (inside : Content) → IsClear inside → Seen s → document_child s tag inside ≡ Ok t → Seen t
whole_keeps (Some d) t tag inside clear h k = absurd (cc)
whole_keeps None t tag inside clear h k =
    let a = bind_ok (demand (is_same tag.name (codes "graphml")) (shape tag.at)) (λ same. in_root inside >>= λ d. Ok (Some d)) t k in
    let b = bind_ok (in_root inside) (λ d. Ok (Some d)) t a.2 in
    subst Seen (ok_is (Some b.0) t b.2) (root_named inside b.0 clear b.1)

document_graph_named : (whole : Content) (d : DrawnGraph) → IsClear whole → in_document whole ≡ Ok d → IsNamedGraph d
document_graph_named whole d clear k = read_keeps document_reading Seen IsNamedGraph (λ s at a h e. ended s at a h e) (λ s t at raw h e. blank_keeps Seen s t at raw h e)
    (λ s t tag content clear' within h e. whole_keeps s t tag content within h e) whole None d clear tt k

-- the names of a document, where they are fewer than 2^32
pub document_names : (bytes : List ℕ) (deadline : Option ℕ) (parts : Parts) → document bytes deadline ≡ Ok parts → length parts.names < 2 ^ 32 → AreNames parts.names
document_names bytes deadline parts is few =
    let text = bind_ok (is_text bytes) _ parts is in
    let graph = bind_ok (in_document (content_of (tokens bytes))) (drawn_parts deadline) parts text.2 in
    let whole : ℕ → Parts = λ n. record { deadline = n; names = graph.0.names; observes = or_nothing graph.0.origin ∷ graph.0.observes; labels = graph.0.origin_label ∷ graph.0.labels; constraints = graph.0.constraints } in
    let timed = bind_ok (or_refused (first_of_two deadline graph.0.deadline) no_deadline) (λ n. Ok (whole n)) parts graph.2 in
    let clear = text_clear bytes (IsUtf8-from_is_utf8 bytes (demanded (is_utf8 bytes) _ text.0 text.1)) in
    let named = document_graph_named (content_of (tokens bytes)) graph.0 clear graph.1 in
    let same : graph.0.names ≡ parts.names = ap (λ (p : Parts). p.names) (ok_is (whole timed.0) parts timed.2) in
    record {
      each = subst (All IsName) same named.each;
      different = subst (AllPairs (λ (a b : List ℕ). a ≢ b)) same named.different;
      few = few;
    }

-- each time-point of a document has a name
pub document_named : (bytes : List ℕ) (deadline : Option ℕ) (parts : Parts) → document bytes deadline ≡ Ok parts → length parts.names ≡ length parts.observes
document_named bytes deadline parts is =
    let text = bind_ok (is_text bytes) _ parts is in
    let graph = bind_ok (in_document _) (drawn_parts deadline) parts text.2 in
    let whole : ℕ → Parts = λ n. record { deadline = n; names = graph.0.names; observes = or_nothing graph.0.origin ∷ graph.0.observes; labels = graph.0.origin_label ∷ graph.0.labels; constraints = graph.0.constraints } in
    let timed = bind_ok (or_refused (first_of_two deadline graph.0.deadline) no_deadline) (λ n. Ok (whole n)) parts graph.2 in
    let each = (document_is_drawn _ graph.0 graph.1).each in
    let told : ◌≡◌ {A = Result Parts Refusal} (Ok (whole timed.0)) (Ok parts) = timed.2 in
    let same : whole timed.0 ≡ parts = cc in
    subst (λ (p : Parts). length p.names ≡ length p.observes) same (omega (arith, each))
