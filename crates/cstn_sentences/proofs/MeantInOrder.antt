-- What the lines mean is in order: each time-point of a name has its label, constraints are between time-points of names, and labels
-- consist of literals.
use Rattle.std.proofs.Common.{◌≡◌, ℕ, ◌+◌, ◌<◌, Bool, true, false, List, [], ◌∷◌, length, refl, ap, sym, subst, arith, cond, Option, Some, None, Result, Ok}
use Rattle.std.specs.Prelude.{◌&&◌, ◌==◌, if◌then◌else◌, flat_map, option_map, option_to_list, slice_index_or, bytes_eq, ℤ, pos, ◌+ℤ◌}
use Rattle.std.specs.List.{All, list_all}
use Rattle.std.proofs.lemmas.Bool.{and_parts}
use Rattle.std.proofs.lemmas.List.Elements.{All-nil, All-cons, All-head, All-tail, All-append}
use Rattle.std.proofs.lemmas.List.Quantifiers.{position-Some}
use Rattle.cstn_label.specs.declared.marks.Mark.{Mark}
use Rattle.cstn_label.specs.Marks.{is_absent}
use Rattle.cstn_label.specs.Labels.{Label, empty, with_mark, IsMarkPlain}
use Rattle.cstn_label.specs.Letters.{prop_of}
use Rattle.cstn_markup.proofs.Rests.{some_is}
use Rattle.cstn_label.proofs.LetterLemmas.{prop_small, with_small}
use Rattle.cstn_net.specs.Networks.{is_prop}
use Rattle.cstn_element.specs.LabelTexts.{IsOfLiterals}
use Rattle.cstn_element.proofs.LiteralLabels.{empty_of_literals}
use Rattle.cstn_text.specs.Names.{number_of}
use Rattle.cstn_graphml.specs.DrawnGraph.{Observation, DrawnConstraint}
use Rattle.cstn_graphml.specs.DrawnGraphLaws.{IsDrawnAmong}
use Rattle.cstn_graphml.specs.Networks.{observed_prop, observed_reaction}
use Rattle.cstn_sentences.specs.declared.bounds.Bounds.{Bounds}
use Rattle.cstn_sentences.specs.declared.declarations.Meant.{Meant}
use Rattle.cstn_sentences.specs.declared.lines.Literal.{Literal}
use Rattle.cstn_sentences.specs.declared.lines.Point.{Point}
use Rattle.cstn_sentences.specs.declared.lines.Reference.{Reference}
use Rattle.cstn_sentences.specs.declared.lines.Reference.TheVariants.{Moment, Outcome}
use Rattle.cstn_sentences.specs.declared.lines.Says.{Says}
use Rattle.cstn_sentences.specs.declared.lines.Says.TheVariants.{At, By, Between, ByAfter, Within, NotBefore, Together}
use Rattle.cstn_sentences.specs.declared.lines.Side.{Side}
use Rattle.cstn_sentences.specs.declared.lines.Side.TheVariants.{Alone, First, Last}
use Rattle.cstn_sentences.specs.Results.{◌>>?◌, some_or, holds_or}
use Rattle.cstn_sentences.specs.Refusals.{PlanRefusal, out_of_range, stands_twice, no_name, no_letter}
use Rattle.cstn_sentences.specs.Lines.{Rule}
use Rattle.cstn_sentences.specs.Declarations.{Declared}
use Rattle.cstn_sentences.specs.Meaning.{Meaning, letter_in, prop_in, mark_said, label_meant_after, label_meant, side_of, point_in, declared_observations, first_observer, Moment_after, known_after, outcome_in, moment_in, moments_in}
use Rattle.cstn_sentences.specs.Meaning.{bounds_of, is_of_end, since_origin, are_in_order, are_sized_from, at_least, at_most, constraints_of, with_rule, mean_rule}
use Rattle.cstn_sentences.proofs.Accepted.{bind_ok, ok_is, given}
use Rattle.cstn_sentences.proofs.DeclaredInOrder.{IsInOrder}

-- among so many time-points
pub record IsMeantAmong (n : ℕ) (m : Meaning) : Type 0 where
  pub among : All (IsDrawnAmong n) m.constraints
  pub literals : All (λ (c : DrawnConstraint). IsOfLiterals c.label) m.constraints
  pub origin_literals : IsOfLiterals m.origin_label
  pub label_literals : All IsOfLiterals m.labels

-- ---- labels

said_plain : (here holds : Bool) (other : Mark) → IsMarkPlain other → IsMarkPlain (cond here (mark_said holds) other)
said_plain true true other plain = tt
said_plain true false other plain = tt
said_plain false holds other plain = plain

literal_kept : (a : Label) (p : ℕ) (holds : Bool) → IsOfLiterals a → p < 52 → IsOfLiterals (with_mark a p (mark_said holds))
literal_kept a p holds h small = record {
  plain = λ q. said_plain (q == p) holds (a q) (h.plain q);
  letters = λ q high. with_small q p (mark_said holds) (a q) small high (h.letters q high);
}

prop_lettered : (n : ℕ) (words : List Meant) (prop : List ℕ) (p : ℕ) → prop_in n words prop ≡ Ok p → p < 52
prop_lettered n words prop p e =
    let a = bind_ok (some_or (letter_in words prop) (no_letter n prop)) (λ letter. some_or (prop_of letter) (no_letter n prop)) p e in
    prop_small a.0 p (given (prop_of a.0) (no_letter n prop) p a.2)

pub label_literals : (n : ℕ) (words : List Meant) (a b : Label) (ls : List Literal) → IsOfLiterals a → label_meant_after n words a ls ≡ Ok b → IsOfLiterals b
label_literals n words a b [] h e = subst IsOfLiterals (ok_is a b e) h
label_literals n words a b (l ∷ ls) h e =
    let found = bind_ok (prop_in n words l.prop) (λ p. holds_or (is_absent (a p)) (stands_twice n l.prop) >>? λ new. label_meant_after n words (with_mark a p (mark_said l.holds)) ls) b e in
    let p : ℕ = found.0 in
    let new = bind_ok (holds_or (is_absent (a p)) (stands_twice n l.prop))
    (λ new. label_meant_after n words (with_mark a p (mark_said l.holds)) ls) b found.2 in
    label_literals n words (with_mark a p (mark_said l.holds)) b ls (literal_kept a p l.holds h (prop_lettered n words l.prop p found.1)) new.2

-- ---- time-points

pub named : (names : List (List ℕ)) (name : List ℕ) (k : ℕ) → number_of names name ≡ Some k → k < length names
named names name k e = (position-Some (bytes_eq name) names k [] e).0

side_by : (ends : Bool) (k x n : ℕ) → k < n → (ends ≡ true → k + 1 < n) → (if ends then k + 1 else k) ≡ x → x < n
side_by true k x n h last e = subst (λ y. y < n) e (last refl)
side_by false k x n h last e = subst (λ y. y < n) e h

side_among : (side : Side) (is_end is_task : Bool) (k x n : ℕ) → k < n → (is_task ≡ true → k + 1 < n) → side_of side is_end k is_task ≡ Some x → x < n
side_among Alone is_end is_task k x n h last e = side_by (is_task && is_end) k x n h (λ t. last (and_parts is_task is_end t).0) (some_is e)
side_among First is_end true k x n h last e = subst (λ y. y < n) (some_is e) h
side_among First is_end false k x n h last e = absurd (cc)
side_among Last is_end true k x n h last e = subst (λ y. y < n) (some_is e) (last refl)
side_among Last is_end false k x n h last e = absurd (cc)

point_among : (n : ℕ) (d : Declared) (is_end : Bool) (p : Point) (x : ℕ) → IsInOrder d → point_in n d is_end p ≡ Ok x → x < length d.names
point_among n d is_end p x h e =
    let a = bind_ok (some_or (number_of d.names p.name) (no_name n p.name)) (λ k. some_or (side_of p.side is_end k (slice_index_or d.begins_task k false)) (no_name n p.name)) x e in
    let k : ℕ = a.0 in
    side_among p.side is_end (slice_index_or d.begins_task k false) k x (length d.names) (named d.names p.name k (given (number_of d.names p.name) (no_name n p.name) k a.1)) (h.has_end k)
    (given (side_of p.side is_end k (slice_index_or d.begins_task k false)) (no_name n p.name) x a.2)

observer_by : (b : Bool) (p k : ℕ) (o : Option Observation) (later : List (Option Observation)) (x : ℕ × ℕ)
    → (first_observer p (k + 1) later ≡ Some x → x.0 < (k + 1) + length later)
    → (if b then Some (k, observed_reaction o) else first_observer p (k + 1) later) ≡ Some x → x.0 < k + length (o ∷ later)
observer_by true p k o later x rest e = let is : k ≡ x.0 = cc in omega (arith, is)
observer_by false p k o later x rest e = omega (arith, rest e)

observer_among : (p k : ℕ) (os : List (Option Observation)) (x : ℕ × ℕ) → first_observer p k os ≡ Some x → x.0 < k + length os
observer_among p k [] x e = absurd (cc)
observer_among p k (o ∷ later) x e = observer_by (is_prop p (observed_prop o)) p k o later x (λ r. observer_among p (k + 1) later x r) e

outcome_among : (n : ℕ) (d : Declared) (prop : List ℕ) (m : Moment_after) → IsInOrder d → outcome_in n d prop ≡ Ok m → m.0 < length d.names
outcome_among n d prop m h e =
    let seen : ℕ × ℕ → Result Moment_after PlanRefusal = λ x. Ok (known_after x) in
    let a = bind_ok (prop_in n d.words prop) (λ p. some_or (first_observer p 0 (declared_observations d)) (no_letter n prop) >>? seen) m e in
    let b = bind_ok (some_or (first_observer a.0 0 (declared_observations d)) (no_letter n prop)) seen m a.2 in
    let there = observer_among a.0 0 (declared_observations d) b.0 (given (first_observer a.0 0 (declared_observations d)) (no_letter n prop) b.0 b.1) in
    let is = ap (λ (y : Moment_after). y.0) (ok_is (known_after b.0) m b.2) in
    omega (arith, there, is, h.each)

-- a moment is counted from one of so many time-points
abbrev pub IsFromAmong : ℕ → Moment_after → Type 0
IsFromAmong n m = m.0 < n

moment_among : (n : ℕ) (d : Declared) (r : Reference) (m : Moment_after) → IsInOrder d → moment_in n d r ≡ Ok m → m.0 < length d.names
moment_among n d (Moment p) m h e =
    let a = bind_ok (point_in n d true p) (λ x. Ok (x, pos 0)) m e in
    let there = point_among n d true p a.0 h a.1 in
    let is = ap (λ (y : Moment_after). y.0) (ok_is (a.0, pos 0) m a.2) in
    omega (arith, there, is)
moment_among n d (Outcome prop) m h e = outcome_among n d prop m h e

moments_among : (n : ℕ) (d : Declared) (rs : List Reference) (ms : List Moment_after) → IsInOrder d → moments_in n d rs ≡ Ok ms → All (IsFromAmong (length d.names)) ms
moments_among n d [] ms h e = subst (All (IsFromAmong (length d.names))) (ok_is [] ms e) (All-nil (IsFromAmong (length d.names)))
moments_among n d (r ∷ rs) ms h e =
    let a = bind_ok (moment_in n d r) (λ m. moments_in n d rs >>? λ more. Ok (m ∷ more)) ms e in
    let b = bind_ok (moments_in n d rs) (λ more. Ok (a.0 ∷ more)) ms a.2 in
    subst (All (IsFromAmong (length d.names))) (ok_is (a.0 ∷ b.0) ms b.2)
    (All-cons (IsFromAmong (length d.names)) a.0 b.0 (moment_among n d r a.0 h a.1) (moments_among n d rs b.0 h b.1))

since_among : (says : Says) (ms : List Moment_after) (n : ℕ) → 0 < n → All (IsFromAmong n) ms → All (IsFromAmong n) (since_origin says ms)
since_among (At r) ms n some all = All-cons (IsFromAmong n) (0, pos 0) [] some (All-nil (IsFromAmong n))
since_among (By t) ms n some all = All-cons (IsFromAmong n) (0, pos 0) [] some (All-nil (IsFromAmong n))
since_among (Between r) ms n some all = all
since_among (ByAfter t) ms n some all = all
since_among (Within t) ms n some all = all
since_among NotBefore ms n some all = all
since_among Together ms n some all = all

-- ---- constraints

abbrev IsSound : ℕ → DrawnConstraint → Type 0
IsSound n c = IsDrawnAmong n c × IsOfLiterals c.label

least_sound : (x n : ℕ) (least : Option ℤ) (label : Label) (m : Moment_after) → x < n → m.0 < n → IsOfLiterals label
    → All (IsSound n) (option_to_list (option_map (λ a. at_least x m.0 (a +ℤ m.1) label) least))
least_sound x n None label m h k l = All-nil (IsSound n)
least_sound x n (Some a) label m h k l = All-cons (IsSound n) (at_least x m.0 (a +ℤ m.1) label) [] (assumption (h, k), l) (All-nil (IsSound n))

most_sound : (x n : ℕ) (most : Option ℤ) (label : Label) (m : Moment_after) → x < n → m.0 < n → IsOfLiterals label
    → All (IsSound n) (option_to_list (option_map (λ a. at_most x m.0 (a +ℤ m.1) label) most))
most_sound x n None label m h k l = All-nil (IsSound n)
most_sound x n (Some a) label m h k l = All-cons (IsSound n) (at_most x m.0 (a +ℤ m.1) label) [] (assumption (h, k), l) (All-nil (IsSound n))

rule_sound : (x n : ℕ) (b : Bounds) (label : Label) (ms : List Moment_after) → x < n → All (IsFromAmong n) ms → IsOfLiterals label
    → All (IsSound n) (flat_map (constraints_of x b label) ms)
rule_sound x n b label [] h all l = All-nil (IsSound n)
rule_sound x n b label (m ∷ ms) h all l =
    let here = All-head (IsFromAmong n) m ms all in
    All-append (IsSound n) (constraints_of x b label m) (flat_map (constraints_of x b label) ms)
    (All-append (IsSound n) (option_to_list (option_map (λ a. at_least x m.0 (a +ℤ m.1) label) b.least)) (option_to_list (option_map (λ a. at_most x m.0 (a +ℤ m.1) label) b.most))
    (least_sound x n b.least label m h here l) (most_sound x n b.most label m h here l))
    (rule_sound x n b label ms h (All-tail (IsFromAmong n) m ms all) l)

first_each : {X : Type 0} (P Q : X → Type 0) (xs : List X) → All (λ x. P x × Q x) xs → All P xs
first_each P Q [] all = All-nil P
first_each P Q (x ∷ xs) all = All-cons P x xs (All-head (λ x. P x × Q x) x xs all).0 (first_each P Q xs (All-tail (λ x. P x × Q x) x xs all))

second_each : {X : Type 0} (P Q : X → Type 0) (xs : List X) → All (λ x. P x × Q x) xs → All Q xs
second_each P Q [] all = All-nil Q
second_each P Q (x ∷ xs) all = All-cons Q x xs (All-head (λ x. P x × Q x) x xs all).1 (second_each P Q xs (All-tail (λ x. P x × Q x) x xs all))

pub rule_kept : (n x : ℕ) (b : Bounds) (label : Label) (ms : List Moment_after) (m : Meaning) → IsMeantAmong n m → x < n → All (IsFromAmong n) ms → IsOfLiterals label
    → IsMeantAmong n (with_rule x b label ms m)
rule_kept n x b label ms m h below all l =
    let more : List DrawnConstraint = flat_map (constraints_of x b label) ms in
    let sound = rule_sound x n b label ms below all l in
    record {
      among = All-append (IsDrawnAmong n) m.constraints more h.among (first_each (IsDrawnAmong n) (λ (c : DrawnConstraint). IsOfLiterals c.label) more sound);
      literals = All-append (λ (c : DrawnConstraint). IsOfLiterals c.label) m.constraints more h.literals (second_each (IsDrawnAmong n) (λ (c : DrawnConstraint). IsOfLiterals c.label) more sound);
      origin_literals = h.origin_literals;
      label_literals = h.label_literals;
    }

pub some_named : (d : Declared) → IsInOrder d → 0 < length d.names
some_named d h = omega (arith, h.each)

-- a rule keeps the labels of the time-points
pub rule_meant : (n : ℕ) (d : Declared) (r : Rule) (m k : Meaning) → IsInOrder d → IsMeantAmong (length d.names) m → mean_rule n d r m ≡ Ok k
    → IsMeantAmong (length d.names) k × (k.labels ≡ m.labels)
rule_meant n d r m k h is e =
    let b : Bounds = bounds_of d.start r.says in
    let done : ℕ → List Moment_after → Label → Result Meaning PlanRefusal = λ x ms label. Ok (with_rule x b label (since_origin r.says ms) m) in
    let sized : ℕ → List Moment_after → Label → Result Meaning PlanRefusal = λ x ms label. holds_or (list_all (are_sized_from b) (since_origin r.says ms)) (out_of_range n) >>? λ s. done x ms label in
    let x = bind_ok (point_in n d (is_of_end r.says) r.point) (λ x. holds_or (are_in_order b.least b.most) (out_of_range n) >>? λ ordered. moments_in n d r.since >>? λ ms. label_meant n d r.label >>? λ label. sized x ms label) k e in
    let ordered = bind_ok (holds_or (are_in_order b.least b.most) (out_of_range n)) (λ ordered. moments_in n d r.since >>? λ ms. label_meant n d r.label >>? λ label. sized x.0 ms label) k x.2 in
    let ms = bind_ok (moments_in n d r.since) (λ ms. label_meant n d r.label >>? λ label. sized x.0 ms label) k ordered.2 in
    let label = bind_ok (label_meant n d r.label) (λ label. sized x.0 ms.0 label) k ms.2 in
    let fits = bind_ok (holds_or (list_all (are_sized_from b) (since_origin r.says ms.0)) (out_of_range n)) (λ s. done x.0 ms.0 label.0) k label.2 in
    let is_k = ok_is (with_rule x.0 b label.0 (since_origin r.says ms.0) m) k fits.2 in
    let kept =
    rule_kept (length d.names) x.0 b label.0 (since_origin r.says ms.0) m is (point_among n d (is_of_end r.says) r.point x.0 h x.1)
    (since_among r.says ms.0 (length d.names) (some_named d h) (moments_among n d r.since ms.0 h ms.1)) (label_literals n d.words empty label.0 r.label empty_of_literals label.1) in
    (subst (IsMeantAmong (length d.names)) is_k kept, ap (λ (y : Meaning). y.labels) (sym is_k))
