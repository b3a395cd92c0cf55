-- What is kept of a graph while it is read is what is kept of all that is read.
use Rattle.std.proofs.Common.{◌≡◌, ℕ, zero, suc, Bool, true, false, List, [], ◌∷◌, ◌++◌, take, length, map, refl, ap, sym, ◌∙◌, subst, arith, Option, Some, None, Result, Ok, Err}
use Rattle.std.specs.Prelude.{option_map, codes, if◌then◌else◌, not, nat_lt, nat_le, ◌&&◌, is_some, ℤ}
use Rattle.std.proofs.lemmas.List.{take_all, length-take, length-map, take-map, map-append}
use Rattle.cstn_label.specs.Labels.{Label}
use Rattle.cstn_markup.specs.Bytes.{is_same}
use Rattle.cstn_markup.specs.Tokens.{Token}
use Rattle.cstn_element.specs.NumberTexts.{deadline_of}
use Rattle.cstn_element.specs.ValueTexts.{Pair, values_of}
use Rattle.cstn_element.specs.declared.errors.DocError.{DocError}
use Rattle.cstn_element.specs.declared.errors.DocError.TheVariants.{NotUtf8, Shape, NameTwice, UnknownNode, Value, LabelText, Contingent, EdgeType, NoDeadline, Net, Lift, Memory}
use Rattle.cstn_element.specs.Results.{Refusal, ◌>>=◌, or_refused, demand}
use Rattle.cstn_element.specs.Results.Refusal.{not_utf8, shape, name_twice, unknown_node, bad_value, label_text, contingent, edge_type, no_deadline}
use Rattle.cstn_element.specs.Contents.{Tag, Content}
use Rattle.cstn_element.specs.Contents.Content.{done, cut, run, element}
use Rattle.cstn_element.specs.Elements.{Reading, read_by, Datum, attribute, blank, passed, datum, datum_of, data_of, has_key}
use Rattle.cstn_element.specs.Reads.{Fails, Gives, ReadsWhole, inside}
use Rattle.cstn_graphml.specs.declared.drawn_graph.DrawnConstraint.{DrawnConstraint as LentDrawn}
use Rattle.cstn_graphml.specs.declared.drawn_graph.DrawnGraph.{DrawnGraph as LentGraph}
use Rattle.cstn_graphml.specs.DrawnGraph.{Observation, DrawnConstraint, DrawnGraph, empty_graph, observation, node_of, origin_name, with_drawn_constraint, with_deadline}
use Rattle.cstn_graphml.specs.DrawnGraphSeen.{graph_seen, drawn_seen}
use Rattle.cstn_graphml.specs.Judged.{prop_in_datum, reacting, labelled, judged_node, is_edge_kept, with_pair, with_pairs, with_values, with_edge, judged_edge, judged_deadline}
use Rattle.cstn_graphml.specs.Document.{Part, part_of, graph_child, graph_reading, in_graph, root_child, root_reading, in_root, document_child, document_reading, in_document}
use Rattle.cstn_graphml.specs.Document.Part.{a_datum, a_node, an_edge, another}
use Rattle.cstn_graphml.specs.Kept.{kept, kept_by, keeping, in_kept_graph, in_kept_root, in_kept_document}
use Rattle.cstn_graphml.proofs.DrawnGraphLaws.{bind_ok, ok_is}

-- ---- graphs

take_push : {X : Type 0} (n : ℕ) (xs : List X) (x : X) → take n (take n xs ++ (x ∷ [])) ≡ take n (xs ++ (x ∷ []))
take_push zero xs x = refl
take_push (suc n) [] x = refl
take_push (suc n) (y ∷ xs) x = ap (λ zs. y ∷ zs) (take_push n xs x)

take_twice : {X : Type 0} (n : ℕ) (xs : List X) → take n (take n xs) ≡ take n xs
take_twice n xs = take_all n (take n xs) (omega (arith, length-take n xs))

kept_twice : (g : DrawnGraph) → kept (kept g) ≡ kept g
kept_twice g = ap (λ (cs : List DrawnConstraint). record g { constraints = cs }) (take_twice 16385 g.constraints)

kept_constraint : (c : DrawnConstraint) (g : DrawnGraph) → kept (with_drawn_constraint c (kept g)) ≡ kept (with_drawn_constraint c g)
kept_constraint c g = ap (λ (cs : List DrawnConstraint). record g { constraints = cs }) (take_push 16385 g.constraints c)

kept_node : (b : Bool) (name : List ℕ) (prop_in_datum : Option Observation) (label : Label) (g : DrawnGraph)
    → kept (if b then record (kept g) { origin = Some prop_in_datum; origin_label = label } else record (kept g) { names = g.names ++ (name ∷ []); observes = g.observes ++ (prop_in_datum ∷ []); labels = g.labels ++ (label ∷ []) })
    ≡ kept (if b then record g { origin = Some prop_in_datum; origin_label = label } else record g { names = g.names ++ (name ∷ []); observes = g.observes ++ (prop_in_datum ∷ []); labels = g.labels ++ (label ∷ []) })
kept_node true name prop_in_datum label g = kept_twice (record g { origin = Some prop_in_datum; origin_label = label })
kept_node false name prop_in_datum label g = kept_twice (record g { names = g.names ++ (name ∷ []); observes = g.observes ++ (prop_in_datum ∷ []); labels = g.labels ++ (label ∷ []) })

-- all that the program has of a graph is kept
pub seen_kept : (d : LentGraph) → kept (graph_seen d) ≡ graph_seen d
seen_kept d =
    ap (λ (cs : List DrawnConstraint). record (graph_seen d) { constraints = cs })
    (take_all 16385 (map drawn_seen d.constraints.list.items) (omega (arith, d.constraints.few, length-map d.constraints.list.items drawn_seen)))

pub put_kept : (d : LentGraph) (c : LentDrawn) (items : List LentDrawn) → items ≡ take 16385 (d.constraints.list.items ++ (c ∷ []))
    → record (graph_seen d) { constraints = map drawn_seen items } ≡ kept (with_drawn_constraint (drawn_seen c) (graph_seen d))
put_kept d c items is =
    let list : List LentDrawn = d.constraints.list.items in
    ap (λ (cs : List DrawnConstraint). record (graph_seen d) { constraints = cs })
    (ap (map drawn_seen) is ∙ sym (take-map drawn_seen 16385 (list ++ (c ∷ []))) ∙ ap (take 16385) (map-append drawn_seen list (c ∷ [])))

-- ---- steps: where the state is one that was kept, the same is kept of what they make

bind_kept : {A S : Type 0} (keep : S → S) (o : Result A Refusal) (f g : A → Result S Refusal) → ((x : A) → kept_by keep (f x) ≡ kept_by keep (g x)) → kept_by keep (o >>= f) ≡ kept_by keep (o >>= g)
bind_kept keep (Ok x) f g h = h x
bind_kept keep (Err e) f g h = refl

deadline_alike : (g : DrawnGraph) (found : Option Datum) → kept_by kept (judged_deadline (kept g) found) ≡ kept_by kept (judged_deadline g found)
deadline_alike g None = ap (λ s. Ok s) (kept_twice g)
deadline_alike g (Some d) = bind_kept kept (or_refused (deadline_of d.value) (bad_value d.at)) _ _ (λ n. ap (λ s. Ok s) (kept_twice (with_deadline d n g)))

node_alike : (tag : Tag) (g : DrawnGraph) (found : List Datum) → kept_by kept (judged_node tag (kept g) found) ≡ kept_by kept (judged_node tag g found)
node_alike tag g found =
    bind_kept kept (or_refused (attribute (codes "id") tag) (shape tag.at)) _ _ (λ id.
    bind_kept kept (demand (nat_lt 0 (length id) && nat_le (length id) 64) (bad_value tag.at)) _ _ (λ sized.
    bind_kept kept (demand (not (is_some (node_of id g))) (name_twice tag.at)) _ _ (λ fresh.
    bind_kept kept (prop_in_datum (datum_of (codes "Obs") found)) _ _ (λ prop.
    bind_kept kept (reacting (datum_of (codes "Reaction") found)) _ _ (λ ticks.
    bind_kept kept (labelled (datum_of (codes "Label") found)) _ _ (λ label.
    ap (λ s. Ok s) (kept_node (is_same id origin_name) id (observation prop ticks) label g)))))))

pair_alike : (at from to : ℕ) (most : ℤ) (label : Option Label) (pairs : List Pair) (g : DrawnGraph)
    → ((h : DrawnGraph) → kept_by kept (with_pairs at from to pairs (kept h)) ≡ kept_by kept (with_pairs at from to pairs h))
    → kept_by kept ((or_refused label (label_text at) >>= λ l. Ok (with_drawn_constraint (record { from = from; to = to; most = most; label = l }) (kept g))) >>= with_pairs at from to pairs)
    ≡ kept_by kept ((or_refused label (label_text at) >>= λ l. Ok (with_drawn_constraint (record { from = from; to = to; most = most; label = l }) g)) >>= with_pairs at from to pairs)
pair_alike at from to most None pairs g later = refl
pair_alike at from to most (Some l) pairs g later =
    let c : DrawnConstraint = record { from = from; to = to; most = most; label = l } in
    sym (later (with_drawn_constraint c (kept g))) ∙ ap (λ h. kept_by kept (with_pairs at from to pairs h)) (kept_constraint c g) ∙ later (with_drawn_constraint c g)

pairs_alike : (at from to : ℕ) (pairs : List Pair) (g : DrawnGraph) → kept_by kept (with_pairs at from to pairs (kept g)) ≡ kept_by kept (with_pairs at from to pairs g)
unfolding with_pairs
pairs_alike at from to [] g = ap (λ s. Ok s) (kept_twice g)
pairs_alike at from to (p ∷ pairs) g = pair_alike at from to p.most p.label pairs g (λ h. pairs_alike at from to pairs h)

-- a pair of the list was put in, and the others are left
pub pair_step : (at from to : ℕ) (p : Pair) (pairs before : List Pair) (g : DrawnGraph) (d : LentGraph) → before ≡ p ∷ pairs
    → kept_by kept (with_pair at from to p g) ≡ Ok (graph_seen d) → kept_by kept (with_pairs at from to before g) ≡ kept_by kept (with_pairs at from to pairs (graph_seen d))
unfolding with_pairs
pair_step at from to p pairs before g d is put =
    let h = bind_ok (with_pair at from to p g) (λ s. Ok (kept s)) (graph_seen d) put in
    ap (λ ps. kept_by kept (with_pairs at from to ps g)) is
    ∙ ap (λ o. kept_by kept (o >>= with_pairs at from to pairs)) h.1
    ∙ sym (pairs_alike at from to pairs h.0)
    ∙ ap (λ s. kept_by kept (with_pairs at from to pairs s)) (ok_is (kept h.0) (graph_seen d) h.2)

values_alike : (from to : ℕ) (found : Option Datum) (g : DrawnGraph) → kept_by kept (with_values from to found (kept g)) ≡ kept_by kept (with_values from to found g)
values_alike from to None g = ap (λ s. Ok s) (kept_twice g)
values_alike from to (Some d) g = bind_kept kept (or_refused (values_of d.value) (bad_value d.at)) _ _ (λ pairs. pairs_alike d.at from to pairs g)

edge_by_alike : (keeps : Bool) (at : ℕ) (source target : List ℕ) (g : DrawnGraph) (found : List Datum) → kept_by kept (with_edge keeps at source target (kept g) found) ≡ kept_by kept (with_edge keeps at source target g found)
edge_by_alike false at source target g found = ap (λ s. Ok s) (kept_twice g)
edge_by_alike true at source target g found =
    bind_kept kept (or_refused (node_of source g) (unknown_node at)) _ _ (λ from.
    bind_kept kept (or_refused (node_of target g) (unknown_node at)) _ _ (λ to.
    values_alike from to (datum_of (codes "LabeledValues") found) g))

edge_alike : (tag : Tag) (g : DrawnGraph) (found : List Datum) → kept_by kept (judged_edge tag (kept g) found) ≡ kept_by kept (judged_edge tag g found)
edge_alike tag g found =
    bind_kept kept (or_refused (attribute (codes "source") tag) (shape tag.at)) _ _ (λ source.
    bind_kept kept (or_refused (attribute (codes "target") tag) (shape tag.at)) _ _ (λ target.
    bind_kept kept (is_edge_kept (datum_of (codes "Type") found)) _ _ (λ keeps.
    edge_by_alike keeps tag.at source target g found)))

child_alike : (part : Part) (g : DrawnGraph) (tag : Tag) (inside : Content) → kept_by kept (graph_child part (kept g) tag inside) ≡ kept_by kept (graph_child part g tag inside)
child_alike a_datum g tag inside = bind_kept kept (datum (codes "Deadline" ∷ []) (has_key g.own) tag inside) _ _ (λ found. deadline_alike g found)
child_alike a_node g tag inside = bind_kept kept (data_of (codes "Obs" ∷ (codes "Reaction" ∷ (codes "Label" ∷ []))) inside) _ _ (λ found. node_alike tag g found)
child_alike an_edge g tag inside = bind_kept kept (data_of (codes "Type" ∷ (codes "LabeledValues" ∷ [])) inside) _ _ (λ found. edge_alike tag g found)
child_alike another g tag inside = bind_kept kept (passed inside) _ _ (λ same. ap (λ s. Ok s) (kept_twice g))

-- ---- readings

module _ {S A : Type 0} (keep : S → S) (keep_found : A → A) (r : Reading S A)
    (ends : (s : S) (at : ℕ) → r.ends (keep s) at ≡ kept_by keep_found (r.ends s at))
    (runs : (s : S) (at : ℕ) (raw : List ℕ) → r.runs (keep s) at raw ≡ kept_by keep (r.runs s at raw))
    (elements : (s : S) (tag : Tag) (inside : Content) → kept_by keep (r.elements (keep s) tag inside) ≡ kept_by keep (r.elements s tag inside)) where
  step_kept : (o : Result S Refusal) (f g : S → Result A Refusal) → ((s : S) → f (keep s) ≡ kept_by keep_found (g s)) → (kept_by keep o >>= f) ≡ kept_by keep_found (o >>= g)
  step_kept (Ok s) f g same = same s
  step_kept (Err e) f g same = refl

  reading_kept : (c : Content) (s : S) → read_by (keeping keep r) (keep s) c ≡ kept_by keep_found (read_by r s c)
  unfolding read_by
  reading_kept (done at) s = ends s at
  reading_kept (cut at) s = refl
  reading_kept (run at raw after) s =
      ap (λ o. o >>= λ t. read_by (keeping keep r) t after) (runs s at raw)
      ∙ step_kept (r.runs s at raw) (λ t. read_by (keeping keep r) t after) (λ t. read_by r t after) (λ t. reading_kept after t)
  reading_kept (element tag inside after) s =
      ap (λ o. o >>= λ t. read_by (keeping keep r) t after) (elements s tag inside)
      ∙ step_kept (r.elements s tag inside) (λ t. read_by (keeping keep r) t after) (λ t. read_by r t after) (λ t. reading_kept after t)

blank_kept : {S : Type 0} (keep : S → S) (s : S) (o : Result (Unit {0}) Refusal) → (o >>= λ same. Ok (keep s)) ≡ kept_by keep (o >>= λ same. Ok s)
blank_kept keep s (Ok same) = refl
blank_kept keep s (Err e) = refl

end_kept : (s : Option DrawnGraph) (at : ℕ) → or_refused (option_map kept s) (shape at) ≡ kept_by kept (or_refused s (shape at))
end_kept (Some g) at = refl
end_kept None at = refl

some_twice : (s : Option DrawnGraph) → option_map kept (option_map kept s) ≡ option_map kept s
some_twice (Some g) = ap (λ h. Some h) (kept_twice g)
some_twice None = refl

root_alike : (b : Bool) (s : Option DrawnGraph) (tag : Tag) (inside : Content) → kept_by (option_map kept) (root_child b (option_map kept s) tag inside) ≡ kept_by (option_map kept) (root_child b s tag inside)
root_alike true (Some g) tag inside = refl
root_alike true None tag inside = refl
root_alike false s tag inside = bind_kept (option_map kept) (passed inside) _ _ (λ same. ap (λ t. Ok t) (some_twice s))

whole_alike : (s : Option DrawnGraph) (tag : Tag) (inside : Content) → kept_by (option_map kept) (document_child (option_map kept s) tag inside) ≡ kept_by (option_map kept) (document_child s tag inside)
whole_alike (Some g) tag inside = refl
whole_alike None tag inside = refl

graph_kept : (c : Content) → in_kept_graph c ≡ kept_by kept (in_graph empty_graph c)
graph_kept c = reading_kept kept kept graph_reading (λ s at. refl) (λ s at raw. blank_kept kept s (blank at raw)) (λ s tag inside. child_alike (part_of tag.name) s tag inside) c empty_graph

root_kept : (c : Content) → in_kept_root c ≡ kept_by kept (in_root c)
root_kept c =
    reading_kept (option_map kept) kept root_reading end_kept (λ s at raw. blank_kept (option_map kept) s (blank at raw))
    (λ s tag inside. root_alike (is_same tag.name (codes "graph")) s tag inside) c None

pub document_kept : (c : Content) → in_kept_document c ≡ kept_by kept (in_document c)
document_kept c = reading_kept (option_map kept) kept document_reading end_kept (λ s at raw. blank_kept (option_map kept) s (blank at raw)) whole_alike c None

-- ---- what was returned

some_kept : (o : Result DrawnGraph Refusal) → kept_by (option_map kept) (o >>= λ g. Ok (Some g)) ≡ (kept_by kept o >>= λ g. Ok (Some g))
some_kept (Ok g) = refl
some_kept (Err e) = refl

-- what is kept where the graph of a content was the first in the root, and where the root was the first in the document
root_found : (inside : Content) → kept_by (option_map kept) (in_graph empty_graph inside >>= λ g. Ok (Some g)) ≡ (in_kept_graph inside >>= λ g. Ok (Some g))
root_found inside = some_kept (in_graph empty_graph inside) ∙ ap (λ o. o >>= λ g. Ok (Some g)) (sym (graph_kept inside))

document_found : (inside : Content) → kept_by (option_map kept) (in_root inside >>= λ g. Ok (Some g)) ≡ (in_kept_root inside >>= λ g. Ok (Some g))
document_found inside = some_kept (in_root inside) ∙ ap (λ o. o >>= λ g. Ok (Some g)) (sym (root_kept inside))

-- what is refused stays refused, whatever would come next
refused_on : {A B : Type 0} (e : DocError) (told : Result A Refusal) (f : A → Result B Refusal) → Fails e told → Fails e (told >>= f)
refused_on (NotUtf8 at) told f h = ap (λ o. o >>= f) h
refused_on (Shape at) told f h = ap (λ o. o >>= f) h
refused_on (NameTwice at) told f h = ap (λ o. o >>= f) h
refused_on (UnknownNode at) told f h = ap (λ o. o >>= f) h
refused_on (Value at) told f h = ap (λ o. o >>= f) h
refused_on (LabelText at) told f h = ap (λ o. o >>= f) h
refused_on (Contingent at) told f h = ap (λ o. o >>= f) h
refused_on (EdgeType at) told f h = ap (λ o. o >>= f) h
refused_on NoDeadline told f h = ap (λ o. o >>= f) h
refused_on (Net error names) told f h = absurd h
refused_on (Lift error names) told f h = absurd h
refused_on (Memory e) told f h = tt

err_back : {S : Type 0} (keep : S → S) (told : Result S Refusal) (r : Refusal) → kept_by keep told ≡ Err r → told ≡ Err r
err_back keep (Ok s) r h = absurd (cc)
err_back keep (Err e) r h = cc

-- where nothing is kept because of a refusal, that is the refusal
pub refused_whole : {S : Type 0} (keep : S → S) (e : DocError) (told : Result S Refusal) → Fails e (kept_by keep told) → Fails e told
refused_whole keep (NotUtf8 at) told h = err_back keep told (not_utf8 at) h
refused_whole keep (Shape at) told h = err_back keep told (shape at) h
refused_whole keep (NameTwice at) told h = err_back keep told (name_twice at) h
refused_whole keep (UnknownNode at) told h = err_back keep told (unknown_node at) h
refused_whole keep (Value at) told h = err_back keep told (bad_value at) h
refused_whole keep (LabelText at) told h = err_back keep told (label_text at) h
refused_whole keep (Contingent at) told h = err_back keep told (contingent at) h
refused_whole keep (EdgeType at) told h = err_back keep told (edge_type at) h
refused_whole keep NoDeadline told h = err_back keep told no_deadline h
refused_whole keep (Net error names) told h = absurd h
refused_whole keep (Lift error names) told h = absurd h
refused_whole keep (Memory e) told h = tt

-- where the state returned is as it is kept, so is what the step is told to make
gives_kept : {A S : Type 0} (keep : S → S) (view : A → S) (r : Result A DocError) (told : Result S Refusal) → ((x : A) → keep (view x) ≡ view x) → Gives view r told → Gives view r (kept_by keep told)
gives_kept keep view (Ok x) told same h = ap (λ o. kept_by keep o) h ∙ ap (λ s. Ok s) (same x)
gives_kept keep view (Err e) told same h = refused_on e told (λ s. Ok (keep s)) h

pub reads_kept : {A S : Type 0} (keep : S → S) (view : A → S) (meaning : Content → Result S Refusal) (closed : Bool) (at : ℕ) (name : List ℕ) (names : List (List ℕ)) (before after : List Token) (r : Result A DocError)
    → ((x : A) → keep (view x) ≡ view x) → ReadsWhole view meaning closed at name names before after r → ReadsWhole view (λ inside. kept_by keep (meaning inside)) closed at name names before after r
reads_kept keep view meaning closed at name names before after r same h = record { told = gives_kept keep view r _ same h.told; left = h.left }

bind_assoc : {A B C : Type 0} (o : Result A Refusal) (f : A → Result B Refusal) (g : B → Result C Refusal) → (o >>= λ x. f x >>= g) ≡ ((o >>= f) >>= g)
bind_assoc (Ok x) f g = refl
bind_assoc (Err e) f g = refl

-- the step that keeps part of what it makes may stand behind another as well as within it
pub reads_then_kept : {D S U : Type 0} (keep : S → S) (view : U → S) (meaning : Content → Result D Refusal) (f : D → Result S Refusal) (closed : Bool) (at : ℕ) (name : List ℕ) (names : List (List ℕ)) (before after : List Token) (r : Result U DocError)
    → ReadsWhole view (λ inside. meaning inside >>= λ x. kept_by keep (f x)) closed at name names before after r → ReadsWhole view (λ inside. kept_by keep (meaning inside >>= f)) closed at name names before after r
reads_then_kept keep view meaning f closed at name names before after r h = record { told = subst (Gives view r) (bind_assoc (meaning _) f (λ s. Ok (keep s))) h.told; left = h.left }

-- a data element or a node in the graph was read
pub part_kept : (q part : Part) (d : DrawnGraph) (new : LentGraph) (tag : Tag) (closed : Bool) (name : List ℕ) (names : List (List ℕ)) (before after : List Token) (r : Result (Unit {0}) DocError) → q ≡ part
    → ReadsWhole {A = Unit {0}} (λ u. graph_seen new) (graph_child q d tag) closed tag.at name names before after r
    → ReadsWhole {A = Unit {0}} (λ u. graph_seen new) (λ inside. kept_by kept (graph_child part d tag inside)) closed tag.at name names before after r
part_kept q part d new tag closed name names before after r is h =
    subst (λ p. ReadsWhole {A = Unit {0}} (λ u. graph_seen new) (λ inside. kept_by kept (graph_child p d tag inside)) closed tag.at name names before after r) is
    (reads_kept kept (λ (u : Unit {0}). graph_seen new) (graph_child q d tag) closed tag.at name names before after r (λ u. seen_kept new) h)

-- ---- a graph in the root, and a root in the document

pub some_seen : (s : Option LentGraph) → option_map kept (option_map graph_seen s) ≡ option_map graph_seen s
some_seen (Some d) = ap (λ g. Some g) (seen_kept d)
some_seen None = refl

abbrev or_some : Result DrawnGraph Refusal → Result (Option DrawnGraph) Refusal
or_some o = o >>= λ g. Ok (Some g)

root_begun : (b : Bool) (s : Option DrawnGraph) (tag : Tag) (content : Content) → b ≡ true → s ≡ None → kept_by (option_map kept) (root_child b s tag content) ≡ or_some (in_kept_graph content)
root_begun b s tag content e n =
    ap (λ q. kept_by (option_map kept) (root_child q s tag content)) e ∙ ap (λ o. kept_by (option_map kept) (root_child true o tag content)) n ∙ root_found content

document_begun : (s : Option DrawnGraph) (tag : Tag) (content : Content) → is_same tag.name (codes "graphml") ≡ true → s ≡ None
    → kept_by (option_map kept) (document_child s tag content) ≡ or_some (in_kept_root content)
document_begun s tag content e n =
    ap (λ o. kept_by (option_map kept) (document_child o tag content)) n
    ∙ ap (λ q. kept_by (option_map kept) (demand q (shape tag.at) >>= λ same. or_some (in_root content))) e ∙ document_found content

-- the first graph in the root was read, and is the root's; where it was refused, so is the root
module _ (b : Bool) (s : Option DrawnGraph) (tag : Tag) (closed : Bool) (name : List ℕ) (names : List (List ℕ)) (before after : List Token) (is : b ≡ true) (none : s ≡ None) where
  pub root_read : (d : LentGraph) → ReadsWhole graph_seen in_kept_graph closed tag.at name names before after (Ok d)
      → ReadsWhole {A = Unit {0}} (λ u. Some (graph_seen d)) (λ content. kept_by (option_map kept) (root_child b s tag content)) closed tag.at name names before after (Ok tt)
  root_read d h = record { told = root_begun b s tag (inside closed tag.at name names before) is none ∙ ap or_some h.told; left = h.left }

  pub root_refused : (view : Unit {0} → Option DrawnGraph) (e : DocError) → ReadsWhole graph_seen in_kept_graph closed tag.at name names before after (Err e)
      → ReadsWhole {A = Unit {0}} view (λ content. kept_by (option_map kept) (root_child b s tag content)) closed tag.at name names before after (Err e)
  root_refused view e h = record {
    told = subst (Fails e) (sym (root_begun b s tag (inside closed tag.at name names before) is none)) (refused_on e _ (λ g. Ok (Some g)) h.told);
    left = tt;
  }

-- the root of the document likewise
module _ (s : Option DrawnGraph) (tag : Tag) (closed : Bool) (name : List ℕ) (names : List (List ℕ)) (before after : List Token) (is : is_same tag.name (codes "graphml") ≡ true) (none : s ≡ None) where
  pub document_read : (d : LentGraph) → ReadsWhole graph_seen in_kept_root closed tag.at name names before after (Ok d)
      → ReadsWhole {A = Unit {0}} (λ u. Some (graph_seen d)) (λ content. kept_by (option_map kept) (document_child s tag content)) closed tag.at name names before after (Ok tt)
  document_read d h = record { told = document_begun s tag (inside closed tag.at name names before) is none ∙ ap or_some h.told; left = h.left }

  pub document_refused : (view : Unit {0} → Option DrawnGraph) (e : DocError) → ReadsWhole graph_seen in_kept_root closed tag.at name names before after (Err e)
      → ReadsWhole {A = Unit {0}} view (λ content. kept_by (option_map kept) (document_child s tag content)) closed tag.at name names before after (Err e)
  document_refused view e h = record {
    told = subst (Fails e) (sym (document_begun s tag (inside closed tag.at name names before) is none)) (refused_on e _ (λ g. Ok (Some g)) h.told);
    left = tt;
  }
