-- Reading what is saved gives the same names, and the same labelled network but for ids.
use Rattle.std.proofs.Common.{◌≡◌, ◌≢◌, ℕ, zero, suc, ◌-◌, ◌<◌, ◌≤◌, ◌^◌, List, [], ◌∷◌, ◌++◌, length, refl, ap, sym, ◌∙◌, arith, true, subst, map, Ok}
use Rattle.std.specs.Prelude.{Option, Some, None, codes, slice_index_or, ℤ, pos, negsuc, ◌≤ℤ◌, FitsSigned}
use Rattle.std.specs.Int.{w32}
use Rattle.std.specs.List.{All}
use Rattle.std.specs.Str.{is_utf8, IsUtf8}
use Rattle.std.proofs.lemmas.Str.{IsUtf8-append, IsUtf8-from_is_utf8, is_utf8-from_IsUtf8}
use Rattle.cstn_net.specs.Limits.{most_value, least_value}
use Rattle.cstn_save.proofs.TextLemmas.{nodes_utf8, edges_utf8, edge_utf8, head_utf8, tail_utf8}
use Rattle.std.proofs.lemmas.Bool.{false≢true}
use Rattle.std.proofs.lemmas.List.{take_all, length-map}
use Rattle.std.proofs.lemmas.Int.{ints}
use Rattle.std.proofs.lemmas.Option.{get_or_from_slice_get}
use Rattle.cstn_label.specs.declared.marks.Mark.{Mark}
use Rattle.cstn_label.specs.declared.marks.Mark.TheVariants.{Absent, Yes, No, Unknown}
use Rattle.cstn_label.specs.Labels.{Label}
use Rattle.cstn_label.specs.Marks.{is_absent}
use Rattle.cstn_net.specs.Networks.{Network, Constraint, count, IsWellFormed, IsOnObserved, IsValue}
use Rattle.cstn_net.proofs.Values.{value_fits}
use Rattle.cstn_lift.specs.Labelled.{Labelled, label_of}
use Rattle.cstn_lift.specs.WellFormed.{IsLabelled}
use Rattle.cstn_markup.specs.Tokens.{tokens}
use Rattle.cstn_element.specs.Results.{◌>>=◌}
use Rattle.cstn_element.specs.Contents.{content_of}
use Rattle.cstn_graphml.specs.DrawnGraph.{Observation, DrawnGraph, with_drawn_constraint}
use Rattle.cstn_graphml.specs.Document.{in_document, drawn_parts, document}
use Rattle.cstn_save.specs.Canonical.{canonical, observation_by, timed_observations, head, nodes_below, edges, tail}
use Rattle.cstn_save.specs.ReadBack.{without_its_id, parts}
use Rattle.cstn_save.specs.Names.{AreNamesOf}
use Rattle.cstn_save.proofs.WholeLemmas.{drafted, IsNew, IsInReach}
use Rattle.cstn_save.proofs.EdgeLemmas.{IsKnown, AreKnown}
use Rattle.cstn_save.proofs.ReadBackLemmas.{begun, drafted_of, canonical_drafted}
use Rattle.cstn_save.proofs.DraftedLemmas.{AreGiven, IsShaped, shaped, fresh, found, with_all_is}
use Rattle.cstn_text.proofs.PrintedNameLemmas.{shape_true}

-- what a time-point observes, with the reaction of the proposition
observed_at : (reaction : ℕ → ℕ) (os : List (Option ℕ)) (i : ℕ) → slice_index_or (map (observation_by reaction) os) i None ≡ observation_by reaction (slice_index_or os i None)
observed_at reaction [] i = refl
observed_at reaction (o ∷ os) zero = refl
observed_at reaction (o ∷ os) (suc i) = observed_at reaction os i

reach_by : (net : Network) (i : ℕ) (o : Option ℕ) → IsWellFormed net → slice_index_or net.observes i None ≡ o → IsInReach (observation_by net.reaction o)
reach_by net i None wf e = tt
reach_by net i (Some p) wf e = (wf.letters i p (record { what = e }), wf.network.reacts i p (record { what = e }), wf.soon i p (record { what = e }))

in_reach : (net : Network) (i : ℕ) → IsWellFormed net → IsInReach (slice_index_or (timed_observations net) i None)
in_reach net i wf = subst IsInReach (sym (observed_at net.reaction net.observes i)) (reach_by net i (slice_index_or net.observes i None) wf refl)

observations_count : (net : Network) → length (timed_observations net) ≡ count net
observations_count net = length-map net.observes (observation_by net.reaction)

given_of : (m : Labelled) (names : List (List ℕ)) → IsLabelled m → AreNamesOf m.base names → AreGiven names (timed_observations m.base) m.labels
given_of m names good is =
    let net : Network = m.base in
    record {
      sized = λ i h. let n = is.named.each i [] h in shape_true (length (slice_index_or names i [])) n.some n.few;
      different = is.named.different;
      origin = get_or_from_slice_get names 0 (codes "Z") [] is.origin;
      each = is.each ∙ sym (observations_count net);
      labelled = is.each ∙ sym good.one_each;
      some = omega (arith, is.each, good.base.network.origin);
      props = λ i h. in_reach net i good.base;
    }

absent_by : (a : Label) (p : ℕ) (mark : Mark) → ((a p ≢ Absent) → p < 52) → a p ≡ mark → 52 ≤ p → a p ≡ Absent
absent_by a p Absent low e high = e
absent_by a p Yes low e high = absurd (omega (arith, high, low (λ none. false≢true (ap is_absent (sym e ∙ none)))))
absent_by a p No low e high = absurd (omega (arith, high, low (λ none. false≢true (ap is_absent (sym e ∙ none)))))
absent_by a p Unknown low e high = absurd (omega (arith, high, low (λ none. false≢true (ap is_absent (sym e ∙ none)))))

-- a label of observed propositions alone marks no proposition above 51
high_of : (net : Network) (a : Label) → IsWellFormed net → IsOnObserved net a → (p : ℕ) → 52 ≤ p → a p ≡ Absent
high_of net a wf observed p high = absent_by a p (a p) (λ marked. let o = observed p marked in wf.letters o.0 p o.1) refl high

all_known : (names : List (List ℕ)) (cs : List Constraint) (d : DrawnGraph) → All (IsKnown names d) cs → AreKnown names d cs
unfolding AreKnown
all_known names [] d all = tt
all_known names (c ∷ cs) d all = (
  all 0 c (omega arith),
  all_known names cs (with_drawn_constraint (without_its_id c) d)
      (λ k x h. let known = all (suc k) x (omega (arith, h)) in record { fits = known.fits; plain = known.plain; letters = known.letters; from = known.from; to = known.to }),
)

parts_told : (m : Labelled) (names : List (List ℕ)) (n : ℕ) (d : DrawnGraph) → suc n ≡ length names → suc n ≡ count m.base → suc n ≡ length m.labels → IsShaped names (timed_observations m.base) m.labels m.base.deadline n d
    → drawn_parts None (record d { constraints = d.constraints ++ map without_its_id m.base.constraints }) ≡ Ok (parts m names)
parts_told m names n d all count_is labels_are so =
    rw (so.deadline_is, so.origin_is, so.names_are, take_all (suc n) names (omega (arith, all)), so.none, so.labels_are, take_all (suc n) m.labels (omega (arith, labels_are)), so.observes_are, take_all (suc n) (timed_observations m.base) (omega (arith, count_is, observations_count m.base))) refl

-- the content of the canonical document has the parts of the labelled network
pub content_back : (m : Labelled) (names : List (List ℕ)) → IsLabelled m → AreNamesOf m.base names → (in_document (content_of (tokens (canonical m names))) >>= drawn_parts None) ≡ Ok (parts m names)
content_back m names good is =
    let net : Network = m.base in
    let os : List (Option Observation) = timed_observations net in
    let wf = good.base in
    let given = given_of m names good is in
    let n : ℕ = count net - 1 in
    let count_is : suc n ≡ count net = omega (arith, wf.network.origin) in
    let all : suc n ≡ length names = omega (arith, count_is, is.each) in
    let shape : (at : ℕ) → IsShaped names os m.labels net.deadline n (drafted_of m names at) =
    λ at. subst (λ k. IsShaped names os m.labels net.deadline n (drafted names os m.labels (begun net.deadline at) k)) count_is (shaped names os m.labels net.deadline at n given (omega (arith, all))) in
    let new : (at i : ℕ) → i < count net → IsNew names os m.labels (begun net.deadline at) i =
    λ at i h. record {
      sized = given.sized i (omega (arith, h, is.each));
      fresh = fresh names os m.labels net.deadline at i given (omega (arith, h, is.each));
      prop = given.props i (omega (arith, h, observations_count net));
      label = record { plain = good.plain i h; high = high_of net (label_of m i) wf (good.observed i h) };
    } in
    let known : (at : ℕ) → All (IsKnown names (drafted_of m names at)) net.constraints =
    λ at k x h. let c = wf.network.constraints k x h in let v = wf.values k x h in record {
      fits = value_fits (slice_index_or net.constraints k x).most v;
      plain = c.plain;
      letters = λ p high. high_of net (slice_index_or net.constraints k x).label wf c.observed p high;
      from = found names os m.labels net.deadline n (slice_index_or net.constraints k x).from _ given all (shape at) (omega (arith, c.from, is.each));
      to = found names os m.labels net.deadline n (slice_index_or net.constraints k x).to _ given all (shape at) (omega (arith, c.to, is.each));
    } in
    let drafted_is = canonical_drafted m names (omega (arith, wf.in_time)) new (λ at. all_known names net.constraints (drafted_of m names at) (known at)) in
    ap (λ r. r >>= drawn_parts None) drafted_is.1
    ∙ ap (drawn_parts None) (with_all_is net.constraints (drafted_of m names drafted_is.0))
    ∙ parts_told m names n (drafted_of m names drafted_is.0) all count_is (omega (arith, count_is, good.one_each)) (shape drafted_is.0)

-- the canonical document is UTF-8
canonical_utf8 : (m : Labelled) (names : List (List ℕ)) → IsWellFormed m.base → AreNamesOf m.base names → is_utf8 (canonical m names) ≡ true
canonical_utf8 m names wf is =
    let net : Network = m.base in
    let text : List ℕ = nodes_below names (timed_observations net) m.labels (count net) in
    let name : (i : ℕ) → i < length names → IsUtf8 (slice_index_or names i []) = λ i h. IsUtf8-from_is_utf8 (slice_index_or names i []) (is.named.each i [] h).utf8 in
    let nodes = nodes_utf8 names (timed_observations net) m.labels (count net) (λ i h. (name i (omega (arith, h, is.each)), in_reach net i wf)) in
    let lines = edges_utf8 names net.constraints (λ k x h. let c = wf.network.constraints k x h in let e = slice_index_or net.constraints k x in
    edge_utf8 (slice_index_or names e.from []) (slice_index_or names e.to []) e.most e.label (name e.from (omega (arith, c.from, is.each))) (name e.to (omega (arith, c.to, is.each))) (value_fits e.most (wf.values k x h))) in
    is_utf8-from_IsUtf8 (canonical m names)
    (IsUtf8-append (head net.deadline ++ text ++ edges names net.constraints) tail (IsUtf8-append (head net.deadline ++ text) (edges names net.constraints) (IsUtf8-append (head net.deadline) text (head_utf8 net.deadline (omega (arith, wf.in_time))) nodes) lines) tail_utf8)

-- the canonical document has the parts of the labelled network
pub document_back : (m : Labelled) (names : List (List ℕ)) → IsLabelled m → AreNamesOf m.base names → document (canonical m names) None ≡ Ok (parts m names)
document_back m names good is = rw (canonical_utf8 m names good.base is) (content_back m names good is)
