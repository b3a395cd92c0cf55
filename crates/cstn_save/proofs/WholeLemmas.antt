-- The whole document is read back.
use Rattle.std.proofs.Common.{◌≡◌, ℕ, zero, suc, ◌<◌, ◌≤◌, List, [], ◌∷◌, ◌++◌, length, refl, sym, ◌∙◌, ◌^◌, ap, arith, Bool, true, false, not, append_assoc, subst, Ok}
use Rattle.std.specs.Prelude.{Option, Some, None, codes, ◌==◌, nat_lt, nat_le, ◌&&◌, slice_index_or}
use Rattle.std.specs.List.{list_all, list_any}
use Rattle.std.specs.Char.{is_ascii_digit}
use Rattle.std.proofs.lemmas.Bool.{eqb-true}
use Rattle.std.proofs.lemmas.Fmt.{decimal_nonempty}
use Rattle.cstn_label.specs.Labels.{Label, IsPlain, empty}
use Rattle.cstn_label.specs.declared.marks.Mark.TheVariants.{Absent}
use Rattle.cstn_net.specs.Limits.{most_reaction}
use Rattle.cstn_lift.specs.Labelled.{label_in}
use Rattle.cstn_markup.specs.Bytes.{is_same}
use Rattle.cstn_label.specs.Letters.{letter_of, prop_of}
use Rattle.cstn_text.specs.Numbers.{printed_number}
use Rattle.cstn_element.specs.LabelTexts.{label_of_text}
use Rattle.cstn_element.specs.Results.{or_refused}
use Rattle.cstn_element.specs.Results.Refusal.{label_text}
use Rattle.cstn_element.specs.Elements.{Datum, datum_of}
use Rattle.cstn_graphml.specs.Judged.{prop_in_datum, reacting, labelled}
use Rattle.cstn_element.specs.NumberTexts.{reaction_in}
use Rattle.cstn_graphml.specs.DrawnGraph.{Observation, observation, DrawnGraph, node_of, with_node}
use Rattle.cstn_save.specs.Canonical.{escaped_name, or_empty, literals_below, observation_data, label_data, node_data, node_end, node_line, nodes_below}
use Rattle.cstn_save.proofs.ValueTextLemmas.{trimmed_solid, digit_solid, is_solid, is_of_literal, literals_bytes, label_solid}
use Rattle.cstn_save.proofs.LabelTextLemmas.{label_back}
use Rattle.cstn_save.proofs.TokenLemmas.{obs_tag, reaction_tag, label_tag}
use Rattle.cstn_save.proofs.NumberTextLemmas.{decimal_digits, reaction_back}
use Rattle.cstn_save.proofs.RunLemmas.{all_for}
use Rattle.cstn_save.proofs.LineLemmas.{Makes, Finds, Says, plain_node, obs_read, reaction_read, label_read, datum_found, finds_then, open_node, then}
use Rattle.cstn_label.proofs.LetterLemmas.{letter_back}

pub joined_four : (a b c d : List ℕ) → a ++ b ++ c ++ d ≡ a ++ (b ++ (c ++ d))
joined_four a b c d = append_assoc (a ++ b) c d ∙ append_assoc a b (c ++ d)

-- the text of a letter has neither `<` nor `&`, and is solid
letter_text : (p : ℕ) → p < 52 → (list_all (λ c. not (c == 60)) (letter_of p ∷ []) ≡ true) × (list_all (λ c. not (c == 38)) (letter_of p ∷ []) ≡ true) × (list_all is_solid (letter_of p ∷ []) ≡ true)
letter_text p small =
    let low : 65 ≤ letter_of p = grind arith in
    let high : letter_of p < 123 = grind arith in
    by_range (letter_of p) low high
  where
    by_range : (l : ℕ) → 65 ≤ l → l < 123 → (list_all (λ c. not (c == 60)) (l ∷ []) ≡ true) × (list_all (λ c. not (c == 38)) (l ∷ []) ≡ true) × (list_all is_solid (l ∷ []) ≡ true)
    by_range l low high = (grind arith, grind arith, grind arith)

-- what a time-point observes is one of the 52 propositions, and its reaction is from 1 to 1,000 ticks
abbrev pub IsInReach : Option Observation → Type 0
IsInReach None = Unit {0}
IsInReach (Some o) = (o.prop < 52) × (0 < o.reaction) × (o.reaction ≤ most_reaction)

-- a label that a document can have: plain, and of the 52 letters
pub record IsDocumentLabel (a : Label) : Type 0 where
  pub plain : IsPlain a
  pub high : (p : ℕ) → 52 ≤ p → a p ≡ Absent

-- the data say what a time-point observes, and still do with the data element of a label behind them
record Opens (o : Option Observation) (found : List Datum) : Type 0 where
  prop : Option ℕ
  ticks : ℕ
  is : observation prop ticks ≡ o
  fresh : list_any (λ (q : Datum). is_same q.key (codes "Label")) found ≡ false
  observes : prop_in_datum (datum_of (codes "Obs") found) ≡ Ok prop
  reacts : reacting (datum_of (codes "Reaction") found) ≡ Ok ticks
  none : datum_of (codes "Label") found ≡ None
  observes_too : (d : Datum) → d.key ≡ codes "Label" → prop_in_datum (datum_of (codes "Obs") (found ++ (d ∷ []))) ≡ Ok prop
  reacts_too : (d : Datum) → d.key ≡ codes "Label" → reacting (datum_of (codes "Reaction") (found ++ (d ∷ []))) ≡ Ok ticks
  some : (d : Datum) → d.key ≡ codes "Label" → datum_of (codes "Label") (found ++ (d ∷ [])) ≡ Some d

reaction_digits : (digits next : List ℕ) (l p ticks at : ℕ) → prop_of l ≡ Some p → 0 < length digits → list_all is_ascii_digit digits ≡ true → reaction_in digits ≡ Some ticks → (place : ℕ)
    → (found : List Datum) × Opens (Some (record { prop = p; reaction = ticks })) found × Finds (record { key = codes "Obs"; at = at; value = l ∷ [] } ∷ []) found place (codes "<data key=\"Reaction\">" ++ (digits ++ (codes "</data>" ++ next))) next
reaction_digits [] next l p ticks at letter some digits number place = absurd (omega arith)
reaction_digits (d ∷ ds) next l p ticks at letter some digits number place =
    let one : Datum = record { key = codes "Obs"; at = at; value = l ∷ [] } in
    let two : Datum = record { key = codes "Reaction"; at = place; value = d ∷ ds } in (
      one ∷ (two ∷ []),
      record {
        prop = Some p;
        ticks = ticks;
        is = refl;
        fresh = refl;
        observes = rw letter refl;
        reacts = rw number refl;
        none = refl;
        observes_too = λ x e. rw letter refl;
        reacts_too = λ x e. rw number refl;
        some = λ x e. rw e refl;
      },
      datum_found (codes "Reaction") (codes "data key=\"Reaction\">") d ds next place (one ∷ []) reaction_tag reaction_read refl refl
          (all_for is_ascii_digit (λ c. not (c == 60)) (d ∷ ds) (λ b k. grind arith) digits) (all_for is_ascii_digit (λ c. not (c == 38)) (d ∷ ds) (λ b k. grind arith) digits)
          (trimmed_solid (d ∷ ds) (all_for is_ascii_digit is_solid (d ∷ ds) digit_solid digits)),
    )

-- the data of what a time-point observes are found
observed_by_data : (o : Observation) (b : Bool) (next : List ℕ) (place : ℕ) → (o.reaction == 1) ≡ b → IsInReach (Some o)
    → (found : List Datum) × Opens (Some o) found × Finds [] found place (observation_data (Some o) ++ next) next
observed_by_data o true next place e reach =
    let l = letter_text o.prop reach.0 in
    let tick : 1 ≡ o.reaction = sym (eqb-true o.reaction 1 e) in
    let flat : observation_data (Some o) ++ next ≡ codes "<data key=\"Obs\">" ++ letter_of o.prop ∷ (codes "</data>" ++ next) = rw e refl in
    let letter : prop_of (letter_of o.prop) ≡ Some o.prop = letter_back o.prop reach.0 in
    let one : Datum = record { key = codes "Obs"; at = place; value = letter_of o.prop ∷ [] } in (
      one ∷ [],
      record {
        prop = Some o.prop;
        ticks = 1;
        is = ap (λ n. Some (record { prop = o.prop; reaction = n })) tick;
        fresh = refl;
        observes = rw letter refl;
        reacts = refl;
        none = refl;
        observes_too = λ x h. rw letter refl;
        reacts_too = λ x h. rw h refl;
        some = λ x h. rw h refl;
      },
      subst (λ (x : List ℕ). Finds [] (one ∷ []) place x next) (sym flat)
          (datum_found (codes "Obs") (codes "data key=\"Obs\">") (letter_of o.prop) [] next place [] obs_tag obs_read refl refl l.0 l.1 (trimmed_solid (letter_of o.prop ∷ []) l.2)),
    )
observed_by_data o false next place e reach =
    let l = letter_text o.prop reach.0 in
    let n64 : o.reaction < 2 ^ 64 = omega (arith, reach.2) in
    let digits : List ℕ = printed_number o.reaction in
    let behind : List ℕ = codes "<data key=\"Reaction\">" ++ (digits ++ (codes "</data>" ++ next)) in
    let flat : observation_data (Some o) ++ next ≡ codes "<data key=\"Obs\">" ++ letter_of o.prop ∷ (codes "</data>" ++ behind) =
    rw e (ap (λ (x : List ℕ). codes "<data key=\"Obs\">" ++ letter_of o.prop ∷ (codes "</data><data key=\"Reaction\">" ++ x)) (append_assoc digits (codes "</data>") next)) in
    let one : Datum = record { key = codes "Obs"; at = place; value = letter_of o.prop ∷ [] } in
    let first : Finds [] (one ∷ []) place (codes "<data key=\"Obs\">" ++ letter_of o.prop ∷ (codes "</data>" ++ behind)) behind =
    datum_found (codes "Obs") (codes "data key=\"Obs\">") (letter_of o.prop) [] behind place [] obs_tag obs_read refl refl l.0 l.1 (trimmed_solid (letter_of o.prop ∷ []) l.2) in
    let later = reaction_digits digits next (letter_of o.prop) o.prop o.reaction place (letter_back o.prop reach.0) (decimal_nonempty o.reaction n64) (decimal_digits o.reaction n64) (reaction_back o.reaction reach.1 reach.2) first.place in
    (later.0, later.1, subst (λ (x : List ℕ). Finds [] later.0 place x next) (sym flat) (finds_then first later.2))

observation_found : (o : Option Observation) (next : List ℕ) (place : ℕ) → IsInReach o → (found : List Datum) × Opens o found × Finds [] found place (observation_data o ++ next) next
observation_found None next place reach = (
  [],
  record { prop = None; ticks = 1; is = refl; fresh = refl; observes = refl; reacts = refl; none = refl; observes_too = λ x h. rw h refl; reacts_too = λ x h. rw h refl; some = λ x h. rw h refl },
  record { place = place; told = refl; left = refl },
)
observation_found (Some o) next place reach = observed_by_data o (o.reaction == 1) next place refl reach

-- the literals are those of the label: reading them gives the label back
record IsWritten (a : Label) (literals : List ℕ) : Type 0 where
  back : label_of_text (or_empty literals) ≡ Some a
  bytes : list_all is_of_literal literals ≡ true
  solid : list_all is_solid (or_empty literals) ≡ true

no_literals : (a : Label) → IsWritten a [] → empty ≡ a
no_literals a is = let same : Some empty ≡ Some a = is.back in cc

label_found : (o : Option Observation) (a : Label) (found : List Datum) (literals next : List ℕ) (place : ℕ) → Opens o found → IsWritten a literals
    → (all : List Datum) × Says o a all × Finds found all place (label_data literals ++ next) next
label_found o a found [] next place opens is = (
  found,
  record { prop = opens.prop; ticks = opens.ticks; observes = opens.observes; reacts = opens.reacts; labels = ap labelled opens.none ∙ ap (λ (x : Label). Ok x) (no_literals a is); is = opens.is },
  record { place = place; told = refl; left = refl },
)
label_found o a found (b ∷ literals) next place opens is =
    let flat : label_data (b ∷ literals) ++ next ≡ codes "<data key=\"Label\">" ++ b ∷ (literals ++ (codes "</data>" ++ next)) =
    ap (λ (x : List ℕ). codes "<data key=\"Label\">" ++ b ∷ x) (append_assoc literals (codes "</data>") next) in
    let d : Datum = record { key = codes "Label"; at = place; value = b ∷ literals } in (
      found ++ (d ∷ []),
      record {
        prop = opens.prop;
        ticks = opens.ticks;
        observes = opens.observes_too d refl;
        reacts = opens.reacts_too d refl;
        labels = ap labelled (opens.some d refl) ∙ ap (λ (x : Option Label). or_refused x (label_text place)) is.back;
        is = opens.is;
      },
      subst (λ (x : List ℕ). Finds found (found ++ (d ∷ [])) place x next) (sym flat)
          (datum_found (codes "Label") (codes "data key=\"Label\">") b literals next place found label_tag label_read refl opens.fresh
          (all_for is_of_literal (λ c. not (c == 60)) (b ∷ literals) (λ x k. grind arith) is.bytes) (all_for is_of_literal (λ c. not (c == 38)) (b ∷ literals) (λ x k. grind arith) is.bytes)
          (trimmed_solid (b ∷ literals) is.solid)),
    )

-- the data of a time-point are found
data_found : (o : Option Observation) (a : Label) (literals next : List ℕ) (place : ℕ) → IsInReach o → IsWritten a literals
    → (found : List Datum) × Says o a found × Finds [] found place ((observation_data o ++ label_data literals) ++ next) next
data_found o a literals next place reach is =
    let one = observation_found o (label_data literals ++ next) place reach in
    let two = label_found o a one.0 literals next one.2.place one.1 is in
    (two.0, two.1, subst (λ (x : List ℕ). Finds [] two.0 place x next) (sym (append_assoc (observation_data o) (label_data literals) next)) (finds_then one.2 two.2))

-- the line of a time-point with data is read
opened_node : (name inner_bytes rest : List ℕ) (o : Option Observation) (a : Label) (at : ℕ) (draft : DrawnGraph) → (nat_lt 0 (length name) && nat_le (length name) 64) ≡ true → node_of name draft ≡ None
    → ((place : ℕ) → (found : List Datum) × Says o a found × Finds [] found place (inner_bytes ++ (codes "</node>\n" ++ 60 ∷ rest)) (codes "</node>\n" ++ 60 ∷ rest))
    → Makes draft (with_node name o a draft) at (codes "<node id=\"" ++ (escaped_name name ++ ((codes "\">" ++ inner_bytes ++ codes "</node>\n") ++ 60 ∷ rest))) (60 ∷ rest)
opened_node name inner_bytes rest o a at draft sized fresh finds =
    subst (λ (x : List ℕ). Makes draft (with_node name o a draft) at (codes "<node id=\"" ++ (escaped_name name ++ 34 ∷ 62 ∷ x)) (60 ∷ rest)) (sym (append_assoc inner_bytes (codes "</node>\n") (60 ∷ rest)))
    (open_node name (inner_bytes ++ (codes "</node>\n" ++ 60 ∷ rest)) rest at o a draft sized fresh finds)

made_by : (name rest : List ℕ) (o : Option Observation) (a : Label) (literals : List ℕ) (at : ℕ) (draft : DrawnGraph) → (nat_lt 0 (length name) && nat_le (length name) 64) ≡ true → node_of name draft ≡ None → IsInReach o → IsWritten a literals
    → Makes draft (with_node name o a draft) at (codes "<node id=\"" ++ (escaped_name name ++ (node_end (observation_data o ++ label_data literals) ++ 60 ∷ rest))) (60 ∷ rest)
made_by name rest None a [] at draft sized fresh reach is =
    subst (λ (x : Label). Makes draft (with_node name None x draft) at (codes "<node id=\"" ++ (escaped_name name ++ (codes "\"/>\n" ++ 60 ∷ rest))) (60 ∷ rest)) (no_literals a is) (plain_node name rest at draft sized fresh)
made_by name rest None a (b ∷ literals) at draft sized fresh reach is =
    opened_node name (label_data (b ∷ literals)) rest None a at draft sized fresh (λ place. data_found None a (b ∷ literals) (codes "</node>\n" ++ 60 ∷ rest) place reach is)
made_by name rest (Some o) a literals at draft sized fresh reach is =
    opened_node name (observation_data (Some o) ++ label_data literals) rest (Some o) a at draft sized fresh (λ place. data_found (Some o) a literals (codes "</node>\n" ++ 60 ∷ rest) place reach is)

-- the line of a time-point is read
pub node_made : (name rest : List ℕ) (o : Option Observation) (a : Label) (at : ℕ) (draft : DrawnGraph) → (nat_lt 0 (length name) && nat_le (length name) 64) ≡ true → node_of name draft ≡ None → IsInReach o → IsDocumentLabel a
    → Makes draft (with_node name o a draft) at (node_line name o a ++ 60 ∷ rest) (60 ∷ rest)
node_made name rest o a at draft sized fresh reach is =
    subst (λ (x : List ℕ). Makes draft (with_node name o a draft) at x (60 ∷ rest)) (sym (joined_four (codes "<node id=\"") (escaped_name name) (node_end (node_data o a)) (60 ∷ rest)))
    (made_by name rest o a (literals_below a 52) at draft sized fresh reach (record { back = label_back a is.plain is.high; bytes = literals_bytes a 52 (omega arith); solid = label_solid a }))

-- the draft with the first n time-points
unfoldable pub drafted : List (List ℕ) → List (Option Observation) → List Label → DrawnGraph → ℕ → DrawnGraph
drafted names observes labels d zero = d
drafted names observes labels d (suc n) = with_node (slice_index_or names n []) (slice_index_or observes n None) (label_in labels n) (drafted names observes labels d n)

-- the time-point n can be put into the draft of those before it: its name is new there, and all its parts are in range
pub record IsNew (names : List (List ℕ)) (observes : List (Option Observation)) (labels : List Label) (d : DrawnGraph) (n : ℕ) : Type 0 where
  pub sized : (nat_lt 0 (length (slice_index_or names n [])) && nat_le (length (slice_index_or names n [])) 64) ≡ true
  pub fresh : node_of (slice_index_or names n []) (drafted names observes labels d n) ≡ None
  pub prop : IsInReach (slice_index_or observes n None)
  pub label : IsDocumentLabel (label_in labels n)

pub nodes_made : (names : List (List ℕ)) (observes : List (Option Observation)) (labels : List Label) (d : DrawnGraph) (n at : ℕ) (rest : List ℕ) → ((i : ℕ) → i < n → IsNew names observes labels d i)
    → Makes d (drafted names observes labels d n) at (nodes_below names observes labels n ++ 60 ∷ rest) (60 ∷ rest)
unfolding drafted nodes_below
nodes_made names observes labels d zero at rest new = record { place = at; told = refl; left = refl }
nodes_made names observes labels d (suc n) at rest new =
    let line : List ℕ = node_line (slice_index_or names n []) (slice_index_or observes n None) (label_in labels n) in
    let is = new n (omega arith) in
    subst (λ (x : List ℕ). Makes d (with_node (slice_index_or names n []) (slice_index_or observes n None) (label_in labels n) (drafted names observes labels d n)) at x (60 ∷ rest)) (sym (append_assoc (nodes_below names observes labels n) line (60 ∷ rest)))
    (then (nodes_made names observes labels d n at _ (λ i h. new i (omega (arith, h))))
    (λ place. node_made (slice_index_or names n []) rest (slice_index_or observes n None) (label_in labels n) place (drafted names observes labels d n) is.sized is.fresh is.prop is.label))
