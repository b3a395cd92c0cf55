-- The laws of drawn graphs hold of everything that is read.
use Rattle.std.proofs.Common.{◌≡◌, ℕ, ◌<◌, Bool, true, false, List, [], ◌∷◌, ◌++◌, length, refl, ap, subst, arith, Option, Some, None, Result, Ok, Err}
use Rattle.std.specs.Prelude.{if◌then◌else◌, is_some, codes, not, nat_lt, nat_le, ◌&&◌}
use Rattle.std.specs.List.{All, list_any}
use Rattle.std.proofs.lemmas.List.{length-append}
use Rattle.std.proofs.lemmas.List.Elements.{All-push, All-weaker, All-head, All-tail}
use Rattle.std.proofs.lemmas.List.Quantifiers.{position-Some}
use Rattle.cstn_markup.specs.Bytes.{is_same, when}
use Rattle.cstn_text.specs.Names.{number_of}
use Rattle.cstn_element.specs.Results.{Refusal, ◌>>=◌, or_refused, demand}
use Rattle.cstn_element.specs.Results.Refusal.{shape, bad_value, unknown_node, name_twice, label_text}
use Rattle.cstn_element.specs.NumberTexts.{deadline_of, reaction_in, IsReaction}
use Rattle.cstn_element.specs.ValueTexts.{Pair, values_of}
use Rattle.cstn_element.specs.Contents.{Tag, Content}
use Rattle.cstn_element.specs.Contents.Content.{done, cut, run, element}
use Rattle.cstn_element.specs.Elements.{Reading, read_by, Datum, blank, passed, datum, data_of, datum_of, attribute}
use Rattle.cstn_graphml.specs.DrawnGraph.{Observation, observation, DrawnGraph, DrawnConstraint, empty_graph, origin_name, node_of, with_node, with_drawn_constraint, with_deadline}
use Rattle.cstn_graphml.specs.Judged.{judged_node, judged_edge, judged_deadline, with_pair, with_pairs, with_values, with_edge, is_edge_kept, prop_in_datum, reacting, labelled}
use Rattle.cstn_graphml.specs.Document.{Part, graph_child, graph_reading, in_graph, root_child, root_reading, in_root, document_child, document_reading, in_document, part_of}
use Rattle.cstn_graphml.specs.Document.Part.{a_datum, a_node, an_edge, another}
use Rattle.cstn_graphml.specs.DrawnGraphLaws.{IsDrawnGraph, IsDrawnAmong, IsWithReaction, IsLettered}
use Rattle.cstn_label.specs.Labels.{Label, empty}
use Rattle.cstn_label.specs.Letters.{prop_of}
use Rattle.cstn_element.specs.LabelTexts.{label_of_text, IsOfLiterals}
use Rattle.cstn_element.specs.ObservedLetters.{observed_in, maybe_prop}
use Rattle.cstn_element.proofs.ReactionLemmas.{reaction_in_reach}
use Rattle.cstn_element.proofs.LiteralLabels.{HasLiterals, empty_of_literals, label_of_literals, values_of_literals}
use Rattle.cstn_label.proofs.LetterLemmas.{prop_small}

pub bind_ok : {A B : Type 0} (o : Result A Refusal) (f : A → Result B Refusal) (y : B) → (o >>= f) ≡ Ok y → (x : A) × (o ≡ Ok x) × (f x ≡ Ok y)
bind_ok (Ok x) f y e = (x, refl, e)
bind_ok (Err r) f y e = absurd (cc)

pub ok_is : {A : Type 0} (x y : A) → ◌≡◌ {A = Result A Refusal} (Ok x) (Ok y) → x ≡ y
ok_is x y e = cc

given : {A : Type 0} (o : Option A) (e : Refusal) (x : A) → or_refused o e ≡ Ok x → o ≡ Some x
given (Some y) e x h = cc
given None e x h = absurd (cc)

-- what each step keeps, the whole reading keeps
read_keeps : {S A : Type 0} (r : Reading S A) (P : S → Type 0) (Q : A → Type 0)
    → ((s : S) (at : ℕ) (a : A) → P s → r.ends s at ≡ Ok a → Q a)
    → ((s t : S) (at : ℕ) (raw : List ℕ) → P s → r.runs s at raw ≡ Ok t → P t)
    → ((s t : S) (tag : Tag) (inside : Content) → P s → r.elements s tag inside ≡ Ok t → P t)
    → (c : Content) (s : S) (a : A) → P s → read_by r s c ≡ Ok a → Q a
unfolding read_by
read_keeps r P Q ends runs elements (done at) s a p h = ends s at a p h
read_keeps r P Q ends runs elements (cut at) s a p h = absurd (cc)
read_keeps r P Q ends runs elements (run at raw after) s a p h =
    let b = bind_ok (r.runs s at raw) (λ t. read_by r t after) a h in
    read_keeps r P Q ends runs elements after b.0 a (runs s b.0 at raw p b.1) b.2
read_keeps r P Q ends runs elements (element tag inside after) s a p h =
    let b = bind_ok (r.elements s tag inside) (λ t. read_by r t after) a h in
    read_keeps r P Q ends runs elements after b.0 a (elements s b.0 tag inside p b.1) b.2

-- a blank text changes nothing
blank_keeps : {S : Type 0} (P : S → Type 0) (s t : S) (at : ℕ) (raw : List ℕ) → P s → (blank at raw >>= λ same. Ok s) ≡ Ok t → P t
blank_keeps P s t at raw p h = let b = bind_ok (blank at raw) (λ same. Ok s) t h in subst P (ok_is s t b.2) p

pub empty_is : IsDrawnGraph empty_graph
empty_is = record { later = []; first = refl; each = refl; labelled = refl; among = λ k d inside. absurd (omega (arith, inside)); origin_timely = tt; timely = λ k d inside. absurd (omega (arith, inside)); origin_lettered = tt; lettered = λ k d inside. absurd (omega (arith, inside)); literals = λ k d inside. absurd (omega (arith, inside)); origin_literals = empty_of_literals; label_literals = λ k d inside. absurd (omega (arith, inside)) }

picked : (b c : Bool) (later : Option ℕ) (k n : ℕ) → (if b then when c 0 else later) ≡ Some k → 0 < n → ((j : ℕ) → later ≡ Some j → j < n) → k < n
picked true true later k n e z h = let i : 0 ≡ k = cc in subst (λ j. j < n) i z
picked true false later k n e z h = absurd (cc)
picked false c later k n e z h = h k e

-- a node that was read has the number of a name
node_inside : (name : List ℕ) (d : DrawnGraph) (k : ℕ) → IsDrawnGraph d → node_of name d ≡ Some k → k < length d.names
node_inside name d k h e = picked (is_same name origin_name) (is_some d.origin) (number_of d.names name) k (length d.names) e (omega (arith, h.each)) (λ j f. (position-Some _ d.names j [] f).0)

constraint_kept : (c : DrawnConstraint) (d : DrawnGraph) → IsDrawnGraph d → IsDrawnAmong (length d.names) c → IsOfLiterals c.label → IsDrawnGraph (with_drawn_constraint c d)
constraint_kept c d h i p = record {
  later = h.later;
  first = h.first;
  each = h.each;
  labelled = h.labelled;
  among = All-push (IsDrawnAmong (length d.names)) d.constraints c h.among i;
  origin_timely = h.origin_timely;
  timely = h.timely;
  origin_lettered = h.origin_lettered;
  lettered = h.lettered;
  literals = All-push (λ (c : DrawnConstraint). IsOfLiterals c.label) d.constraints c h.literals p;
  origin_literals = h.origin_literals;
  label_literals = h.label_literals;
}

deadline_kept : (found : Datum) (n : ℕ) (d : DrawnGraph) → IsDrawnGraph d → IsDrawnGraph (with_deadline found n d)
deadline_kept found n d h = record { later = h.later; first = h.first; each = h.each; labelled = h.labelled; among = h.among; origin_timely = h.origin_timely; timely = h.timely; origin_lettered = h.origin_lettered; lettered = h.lettered; literals = h.literals; origin_literals = h.origin_literals; label_literals = h.label_literals }

node_by : (b : Bool) (name : List ℕ) (prop_in_datum : Option Observation) (label : Label) (d : DrawnGraph) → IsDrawnGraph d → IsWithReaction prop_in_datum → IsLettered prop_in_datum → IsOfLiterals label
    → IsDrawnGraph (if b then record d { origin = Some prop_in_datum; origin_label = label } else record d { names = d.names ++ (name ∷ []); observes = d.observes ++ (prop_in_datum ∷ []); labels = d.labels ++ (label ∷ []) })
node_by true name prop_in_datum label d h t l p = record { later = h.later; first = h.first; each = h.each; labelled = h.labelled; among = h.among; origin_timely = t; timely = h.timely; origin_lettered = l; lettered = h.lettered; literals = h.literals; origin_literals = p; label_literals = h.label_literals }
node_by false name prop_in_datum label d h t l p =
    let longer = length-append d.names (name ∷ []) in
    let each = length-append d.observes (prop_in_datum ∷ []) in
    let labelled = length-append d.labels (label ∷ []) in
    record {
      later = h.later ++ (name ∷ []);
      first = ap (λ names. names ++ (name ∷ [])) h.first;
      each = omega (arith, longer, each, h.each);
      labelled = omega (arith, longer, labelled, h.labelled);
      among = All-weaker (IsDrawnAmong (length d.names)) (IsDrawnAmong (length (d.names ++ (name ∷ [])))) (λ c i. (omega (arith, longer, i.0), omega (arith, longer, i.1))) d.constraints h.among;
      origin_timely = h.origin_timely;
      timely = All-push IsWithReaction d.observes prop_in_datum h.timely t;
      origin_lettered = h.origin_lettered;
      lettered = All-push IsLettered d.observes prop_in_datum h.lettered l;
      literals = h.literals;
      origin_literals = h.origin_literals;
      label_literals = All-push IsOfLiterals d.labels label h.label_literals p;
    }

node_kept : (name : List ℕ) (prop_in_datum : Option Observation) (label : Label) (d : DrawnGraph) → IsDrawnGraph d → IsWithReaction prop_in_datum → IsLettered prop_in_datum → IsOfLiterals label → IsDrawnGraph (with_node name prop_in_datum label d)
node_kept name prop_in_datum label d h t l p = node_by (is_same name origin_name) name prop_in_datum label d h t l p

-- the reaction of a node is in range
reacting_in_reach : (found : Option Datum) (ticks : ℕ) → reacting found ≡ Ok ticks → IsReaction ticks
reacting_in_reach None ticks e = subst IsReaction (ok_is 1 ticks e) (omega arith, omega arith)
reacting_in_reach (Some x) ticks e = reaction_in_reach x.value ticks (given (reaction_in x.value) (bad_value x.at) ticks e)

-- what a node observes has a letter
letter_named : (o : Option ℕ) (prop : Option ℕ) → ((p : ℕ) → o ≡ Some p → p < 52) → maybe_prop o ≡ Some prop → (ticks : ℕ) → IsLettered (observation prop ticks)
letter_named (Some p) prop small e ticks =
    let is : Some p ≡ prop = cc in
    subst (λ o. IsLettered (observation o ticks)) is (small p refl)
letter_named None prop small e ticks = absurd (cc)

text_lettered : (text : List ℕ) (prop : Option ℕ) → observed_in text ≡ Some prop → (ticks : ℕ) → IsLettered (observation prop ticks)
text_lettered [] prop e ticks = let is : None ≡ prop = cc in subst (λ o. IsLettered (observation o ticks)) is tt
text_lettered (b ∷ []) prop e ticks = letter_named (prop_of b) prop (prop_small b) e ticks
text_lettered (b ∷ c ∷ bytes) prop e ticks = absurd (cc)

observed_lettered : (found : Option Datum) (prop : Option ℕ) (ticks : ℕ) → prop_in_datum found ≡ Ok prop → IsLettered (observation prop ticks)
observed_lettered None prop ticks e = subst (λ o. IsLettered (observation o ticks)) (ok_is None prop e) tt
observed_lettered (Some x) prop ticks e = text_lettered x.value prop (given (observed_in x.value) (label_text x.at) prop e) ticks

-- the label of a node consists of literals
labelled_literals : (found : Option Datum) (label : Label) → labelled found ≡ Ok label → IsOfLiterals label
labelled_literals None label e = subst IsOfLiterals (ok_is empty label e) empty_of_literals
labelled_literals (Some x) label e = label_of_literals x.value label (given (label_of_text x.value) (label_text x.at) label e)

observation_timely : (prop : Option ℕ) (ticks : ℕ) → IsReaction ticks → IsWithReaction (observation prop ticks)
observation_timely (Some p) ticks h = h
observation_timely None ticks h = tt

pairs_kept : (at from to : ℕ) (pairs : List Pair) (d e : DrawnGraph) → IsDrawnGraph d → All HasLiterals pairs → from < length d.names → to < length d.names → with_pairs at from to pairs d ≡ Ok e → IsDrawnGraph e
unfolding with_pairs
pairs_kept at from to [] d e h literals f t k = subst IsDrawnGraph (ok_is d e k) h
pairs_kept at from to (p ∷ pairs) d e h literals f t k =
    let b = bind_ok (with_pair at from to p d) (with_pairs at from to pairs) e k in
    let q = bind_ok (or_refused p.label (label_text at)) (λ label. Ok (with_drawn_constraint (record { from = from; to = to; most = p.most; label = label }) d)) b.0 b.1 in
    let is = ok_is (with_drawn_constraint (record { from = from; to = to; most = p.most; label = q.0 }) d) b.0 q.2 in
    let here : IsOfLiterals q.0 = All-head HasLiterals p pairs literals q.0 (given p.label (label_text at) q.0 q.1) in
    pairs_kept at from to pairs b.0 e (subst IsDrawnGraph is (constraint_kept (record { from = from; to = to; most = p.most; label = q.0 }) d h (f, t) here)) (All-tail HasLiterals p pairs literals) (subst (λ (x : DrawnGraph). from < length x.names) is f) (subst (λ (x : DrawnGraph). to < length x.names) is t) b.2

values_kept : (from to : ℕ) (found : Option Datum) (d e : DrawnGraph) → IsDrawnGraph d → from < length d.names → to < length d.names → with_values from to found d ≡ Ok e → IsDrawnGraph e
values_kept from to None d e h f t k = subst IsDrawnGraph (ok_is d e k) h
values_kept from to (Some x) d e h f t k = let b = bind_ok (or_refused (values_of x.value) (bad_value x.at)) (λ pairs. with_pairs x.at from to pairs d) e k in pairs_kept x.at from to b.0 d e h (values_of_literals x.value b.0 (given (values_of x.value) (bad_value x.at) b.0 b.1)) f t b.2

edge_by : (keeps : Bool) (at : ℕ) (source target : List ℕ) (d e : DrawnGraph) (found : List Datum) → IsDrawnGraph d → with_edge keeps at source target d found ≡ Ok e → IsDrawnGraph e
edge_by false at source target d e found h k = subst IsDrawnGraph (ok_is d e k) h
edge_by true at source target d e found h k =
    let a = bind_ok (or_refused (node_of source d) (unknown_node at)) (λ from. or_refused (node_of target d) (unknown_node at) >>= λ to. with_values from to (datum_of (codes "LabeledValues") found) d) e k in
    let b = bind_ok (or_refused (node_of target d) (unknown_node at)) (λ to. with_values a.0 to (datum_of (codes "LabeledValues") found) d) e a.2 in
    values_kept a.0 b.0 (datum_of (codes "LabeledValues") found) d e h (node_inside source d a.0 h (given (node_of source d) (unknown_node at) a.0 a.1)) (node_inside target d b.0 h (given (node_of target d) (unknown_node at) b.0 b.1)) b.2

edge_kept : (tag : Tag) (d e : DrawnGraph) (found : List Datum) → IsDrawnGraph d → judged_edge tag d found ≡ Ok e → IsDrawnGraph e
edge_kept tag d e found h k =
    let a = bind_ok (or_refused (attribute (codes "source") tag) (shape tag.at)) (λ source. or_refused (attribute (codes "target") tag) (shape tag.at) >>= λ target. is_edge_kept (datum_of (codes "Type") found) >>= λ keeps. with_edge keeps tag.at source target d found) e k in
    let b = bind_ok (or_refused (attribute (codes "target") tag) (shape tag.at)) (λ target. is_edge_kept (datum_of (codes "Type") found) >>= λ keeps. with_edge keeps tag.at a.0 target d found) e a.2 in
    let c = bind_ok (is_edge_kept (datum_of (codes "Type") found)) (λ keeps. with_edge keeps tag.at a.0 b.0 d found) e b.2 in
    edge_by c.0 tag.at a.0 b.0 d e found h c.2

node_judged : (tag : Tag) (d e : DrawnGraph) (found : List Datum) → IsDrawnGraph d → judged_node tag d found ≡ Ok e → IsDrawnGraph e
node_judged tag d e found h k =
    let a = bind_ok (or_refused (attribute (codes "id") tag) (shape tag.at)) (λ id. demand (nat_lt 0 (length id) && nat_le (length id) 64) (bad_value tag.at) >>= λ sized. demand (not (is_some (node_of id d))) (name_twice tag.at) >>= λ fresh. prop_in_datum (datum_of (codes "Obs") found) >>= λ prop. reacting (datum_of (codes "Reaction") found) >>= λ ticks. labelled (datum_of (codes "Label") found) >>= λ label. Ok (with_node id (observation prop ticks) label d)) e k in
    let b = bind_ok (demand (nat_lt 0 (length a.0) && nat_le (length a.0) 64) (bad_value tag.at)) (λ sized. demand (not (is_some (node_of a.0 d))) (name_twice tag.at) >>= λ fresh. prop_in_datum (datum_of (codes "Obs") found) >>= λ prop. reacting (datum_of (codes "Reaction") found) >>= λ ticks. labelled (datum_of (codes "Label") found) >>= λ label. Ok (with_node a.0 (observation prop ticks) label d)) e a.2 in
    let c = bind_ok (demand (not (is_some (node_of a.0 d))) (name_twice tag.at)) (λ fresh. prop_in_datum (datum_of (codes "Obs") found) >>= λ prop. reacting (datum_of (codes "Reaction") found) >>= λ ticks. labelled (datum_of (codes "Label") found) >>= λ label. Ok (with_node a.0 (observation prop ticks) label d)) e b.2 in
    let p = bind_ok (prop_in_datum (datum_of (codes "Obs") found)) (λ prop. reacting (datum_of (codes "Reaction") found) >>= λ ticks. labelled (datum_of (codes "Label") found) >>= λ label. Ok (with_node a.0 (observation prop ticks) label d)) e c.2 in
    let r = bind_ok (reacting (datum_of (codes "Reaction") found)) (λ ticks. labelled (datum_of (codes "Label") found) >>= λ label. Ok (with_node a.0 (observation p.0 ticks) label d)) e p.2 in
    let u = bind_ok (labelled (datum_of (codes "Label") found)) (λ label. Ok (with_node a.0 (observation p.0 r.0) label d)) e r.2 in
    subst IsDrawnGraph (ok_is (with_node a.0 (observation p.0 r.0) u.0 d) e u.2)
    (node_kept a.0 (observation p.0 r.0) u.0 d h (observation_timely p.0 r.0 (reacting_in_reach (datum_of (codes "Reaction") found) r.0 r.1)) (observed_lettered (datum_of (codes "Obs") found) p.0 r.0 p.1)
    (labelled_literals (datum_of (codes "Label") found) u.0 u.1))

deadline_judged : (d e : DrawnGraph) (found : Option Datum) → IsDrawnGraph d → judged_deadline d found ≡ Ok e → IsDrawnGraph e
deadline_judged d e None h k = subst IsDrawnGraph (ok_is d e k) h
deadline_judged d e (Some x) h k = let b = bind_ok (or_refused (deadline_of x.value) (bad_value x.at)) (λ n. Ok (with_deadline x n d)) e k in subst IsDrawnGraph (ok_is (with_deadline x b.0 d) e b.2) (deadline_kept x b.0 d h)

child_kept : (part : Part) (d e : DrawnGraph) (tag : Tag) (inside : Content) → IsDrawnGraph d → graph_child part d tag inside ≡ Ok e → IsDrawnGraph e
child_kept a_datum d e tag inside h k = let b = bind_ok (datum (codes "Deadline" ∷ []) (λ key. list_any (λ (q : Datum). is_same q.key key) d.own) tag inside) (judged_deadline d) e k in deadline_judged d e b.0 h b.2
child_kept a_node d e tag inside h k = let b = bind_ok (data_of (codes "Obs" ∷ (codes "Reaction" ∷ (codes "Label" ∷ []))) inside) (judged_node tag d) e k in node_judged tag d e b.0 h b.2
child_kept an_edge d e tag inside h k = let b = bind_ok (data_of (codes "Type" ∷ (codes "LabeledValues" ∷ [])) inside) (judged_edge tag d) e k in edge_kept tag d e b.0 h b.2
child_kept another d e tag inside h k = let b = bind_ok (passed inside) (λ same. Ok d) e k in subst IsDrawnGraph (ok_is d e b.2) h

pub graph_is_drawn : (inside : Content) (d : DrawnGraph) → in_graph empty_graph inside ≡ Ok d → IsDrawnGraph d
graph_is_drawn inside d k = read_keeps graph_reading IsDrawnGraph IsDrawnGraph (λ s at a h e. subst IsDrawnGraph (ok_is s a e) h) (λ s t at raw h e. blank_keeps IsDrawnGraph s t at raw h e)
    (λ s t tag content h e. child_kept (part_of tag.name) s t tag content h e) inside empty_graph d empty_is k

-- the laws of drawn graphs hold of the graph, if one was read
abbrev Seen : Option DrawnGraph → Type 0
Seen (Some d) = IsDrawnGraph d
Seen None = Unit {0}

ended : (seen : Option DrawnGraph) (at : ℕ) (d : DrawnGraph) → Seen seen → or_refused seen (shape at) ≡ Ok d → IsDrawnGraph d
ended (Some x) at d h e = subst IsDrawnGraph (ok_is x d e) h
ended None at d h e = absurd (cc)

root_kept : (b : Bool) (s t : Option DrawnGraph) (tag : Tag) (inside : Content) → Seen s → root_child b s tag inside ≡ Ok t → Seen t
root_kept true (Some d) t tag inside h k = absurd (cc)
root_kept true None t tag inside h k = let b = bind_ok (in_graph empty_graph inside) (λ d. Ok (Some d)) t k in subst Seen (ok_is (Some b.0) t b.2) (graph_is_drawn inside b.0 b.1)
root_kept false s t tag inside h k = let b = bind_ok (passed inside) (λ same. Ok s) t k in subst Seen (ok_is s t b.2) h

root_is_drawn : (inside : Content) (d : DrawnGraph) → in_root inside ≡ Ok d → IsDrawnGraph d
root_is_drawn inside d k = read_keeps root_reading Seen IsDrawnGraph (λ s at a h e. ended s at a h e) (λ s t at raw h e. blank_keeps Seen s t at raw h e)
    (λ s t tag content h e. root_kept (is_same tag.name (codes "graph")) s t tag content h e) inside None d tt k

whole_kept : (s t : Option DrawnGraph) (tag : Tag) (inside : Content) → Seen s → document_child s tag inside ≡ Ok t → Seen t
whole_kept (Some d) t tag inside h k = absurd (cc)
whole_kept None t tag inside h k =
    let a = bind_ok (demand (is_same tag.name (codes "graphml")) (shape tag.at)) (λ same. in_root inside >>= λ d. Ok (Some d)) t k in
    let b = bind_ok (in_root inside) (λ d. Ok (Some d)) t a.2 in
    subst Seen (ok_is (Some b.0) t b.2) (root_is_drawn inside b.0 b.1)

pub document_is_drawn : (whole : Content) (d : DrawnGraph) → in_document whole ≡ Ok d → IsDrawnGraph d
document_is_drawn whole d k = read_keeps document_reading Seen IsDrawnGraph (λ s at a h e. ended s at a h e) (λ s t at raw h e. blank_keeps Seen s t at raw h e) whole_kept whole None d tt k
