-- The graph of a plan is a drawn graph: what its lines declare and what they mean are in order, and each time-point has a label.
use Rattle.std.proofs.Common.{◌≡◌, ℕ, ◌+◌, ◌≤◌, ◌<◌, Bool, true, false, List, [], ◌∷◌, ◌++◌, length, get_or, refl, ap, sym, ◌∙◌, subst, arith, Option, Some, None, Result, Ok, inl, inr}
use Rattle.std.specs.Prelude.{is_none, if◌then◌else◌, bytes_eq, codes, pos}
use Rattle.std.specs.List.{list_all}
use Rattle.std.proofs.lemmas.Bool.{cases_lt}
use Rattle.std.proofs.lemmas.List.{length-append, append_assoc, append-nil}
use Rattle.std.proofs.lemmas.List.Elements.{All-nil, All-cons, All-push}
use Rattle.std.proofs.lemmas.List.Quantifiers.{position-Some}
use Rattle.std.proofs.lemmas.Slice.Eq.{bytes_eq-Decides}
use Rattle.cstn_label.specs.Labels.{Label, empty}
use Rattle.cstn_element.specs.LabelTexts.{IsOfLiterals}
use Rattle.cstn_element.proofs.LiteralLabels.{empty_of_literals}
use Rattle.cstn_text.specs.Names.{number_of}
use Rattle.cstn_graphml.specs.DrawnGraph.{Observation, DrawnConstraint}
use Rattle.cstn_graphml.specs.DrawnGraphLaws.{IsDrawnGraph, IsDrawnAmong}
use Rattle.cstn_sentences.specs.declared.lines.Range.{Range}
use Rattle.cstn_sentences.specs.declared.lines.Says.TheVariants.{Between}
use Rattle.cstn_sentences.specs.Results.{◌>>?◌, some_or, holds_or}
use Rattle.cstn_sentences.specs.Refusals.{PlanRefusal, out_of_range, stands_twice, no_name}
use Rattle.cstn_sentences.specs.Lines.{PlanStep, PlanLine, nothing, deadline, start, step, task, rule}
use Rattle.cstn_sentences.specs.Judged.{line_of_text}
use Rattle.cstn_sentences.specs.Declarations.{Declared, nothing_declared, is_origin, end_name, step_observation, are_new_literals, with_point, declare, declared_line, declared_after}
use Rattle.cstn_sentences.specs.Meaning.{Meaning, nothing_meant, label_meant, bounds_of, are_sized_from, with_rule, with_label, with_task_labels, mean_task, mean, meant_line, meant_after}
use Rattle.cstn_sentences.specs.Drawn.{graph_of}
use Rattle.cstn_sentences.proofs.Accepted.{bind_ok, ok_is, given}
use Rattle.cstn_sentences.proofs.DeclaredInOrder.{IsInOrder, step_declared, task_declared, nothing_in_order, lines_kept}
use Rattle.cstn_sentences.proofs.MeantInOrder.{IsMeantAmong, IsFromAmong, label_literals, named, rule_kept, rule_meant}

-- ---- names are put in behind the others

abbrev pub Grows : List (List ℕ) → List (List ℕ) → Type 0
Grows xs ys = (more : List (List ℕ)) × (ys ≡ xs ++ more)

same_grows : (xs ys : List (List ℕ)) → xs ≡ ys → Grows xs ys
same_grows xs ys e = ([], sym e ∙ sym (append-nil xs))

step_grows : (b : Bool) (d : Declared) (name : List ℕ) (observed : Option Observation) → Grows d.names (if b then record d { origin = Some observed } else with_point name false observed d).names
step_grows true d name observed = same_grows d.names d.names refl
step_grows false d name observed = (name ∷ [], refl)

line_grows : (n : ℕ) (l : PlanLine) (d e : Declared) → declare n d l ≡ Ok e → Grows d.names e.names
line_grows n nothing d e k = same_grows d.names e.names (ap (λ (x : Declared). x.names) (ok_is d e k))
line_grows n (deadline t) d e k =
    let a = bind_ok (holds_or (is_none d.deadline) (stands_twice n (codes "deadline"))) (λ first. Ok (record d { deadline = Some t })) e k in
    same_grows d.names e.names (ap (λ (x : Declared). x.names) (ok_is (record d { deadline = Some t }) e a.2))
line_grows n (start t) d e k =
    let a = bind_ok (holds_or (is_none d.start) (stands_twice n (codes "start"))) (λ first. Ok (record d { start = Some t.ticks })) e k in
    same_grows d.names e.names (ap (λ (x : Declared). x.names) (ok_is (record d { start = Some t.ticks }) e a.2))
line_grows n (step s) d e k =
    let a = step_declared n s d e k in
    subst (λ (x : Declared). Grows d.names x.names) a.1 (step_grows (is_origin s.name) (record d { words = a.0 }) s.name (step_observation s.observed))
line_grows n (task s r) d e k =
    let a = task_declared n s d e k in (
      s.name ∷ (end_name s.name ∷ []),
      ap (λ (x : Declared). x.names) (sym a.1) ∙ append_assoc d.names (s.name ∷ []) (end_name s.name ∷ []),
    )
line_grows n (rule r) d e k =
    let a = bind_ok (are_new_literals n [] r.label) (λ new. Ok d) e k in
    same_grows d.names e.names (ap (λ (x : Declared). x.names) (ok_is d e a.2))

pub lines_grow : (n : ℕ) (lines : List (List ℕ)) (d e : Declared) → declared_after n d lines ≡ Ok e → Grows d.names e.names
unfolding declared_after
lines_grow n [] d e k = same_grows d.names e.names (ap (λ (x : Declared). x.names) (ok_is d e k))
lines_grow n (line ∷ lines) d e k =
    let a = bind_ok (declared_line n d line) (λ more. declared_after (n + 1) more lines) e k in
    let b = bind_ok (line_of_text n line) (declare n d) a.0 a.1 in
    let here = line_grows n b.0 d a.0 b.2 in
    let later = lines_grow (n + 1) lines a.0 e a.2 in
    (here.0 ++ later.0, later.1 ∙ ap (λ (ns : List (List ℕ)). ns ++ later.0) here.1 ∙ append_assoc d.names here.0 later.0)

-- ---- a task's end stands behind its start

put_at : (names : List (List ℕ)) (name : List ℕ) (rest : List (List ℕ)) → get_or ((names ++ (name ∷ [])) ++ rest) (length names) [] ≡ name
put_at [] name rest = refl
put_at (x ∷ names) name rest = put_at names name rest

-- a name isn't found behind the place at which it was put in
found_by : (names : List (List ℕ)) (name : List ℕ) (rest : List (List ℕ)) (x : ℕ) → number_of ((names ++ (name ∷ [])) ++ rest) name ≡ Some x → x ≤ length names
found_by names name rest x e =
    let all : List (List ℕ) = (names ++ (name ∷ [])) ++ rest in
    let found = position-Some (bytes_eq name) all x [] e in
    elim (cases_lt (length names) x) [
      | inl behind ↦
          let here : bytes_eq name name ≡ false = ap (bytes_eq name) (sym (put_at names name rest)) ∙ found.2 (length names) behind in
          let same : bytes_eq name name ≡ true = (bytes_eq-Decides name name).1 refl in
          absurd (cc)
      | inr before ↦ before
    ]

end_among : (names : List (List ℕ)) (name last : List ℕ) (more all : List (List ℕ)) (x : ℕ) → all ≡ ((names ++ (name ∷ [])) ++ (last ∷ [])) ++ more → number_of all name ≡ Some x → x + 1 < length all
end_among names name last more all x is e =
    let grown : all ≡ (names ++ (name ∷ [])) ++ (last ∷ more) = is ∙ append_assoc (names ++ (name ∷ [])) (last ∷ []) more in
    let found = found_by names name (last ∷ more) x (ap (λ (ns : List (List ℕ)). number_of ns name) (sym grown) ∙ e) in
    omega (arith, found, ap length grown, length-append (names ++ (name ∷ [])) (last ∷ more), length-append names (name ∷ []))

-- ---- lines

-- what a line means is in order, and it has a label for each name that the line declares
abbrev IsKept : ℕ → List (List ℕ) → List (List ℕ) → Meaning → Meaning → Type 0
IsKept n before after m k = IsMeantAmong n k × (length after + length m.labels ≡ length before + length k.labels)

unlabelled : (n : ℕ) (before after : List (List ℕ)) (m k : Meaning) → IsMeantAmong n m → before ≡ after → m ≡ k → IsKept n before after m k
unlabelled n before after m k h same is = (subst (IsMeantAmong n) is h, ap (λ (ns : List (List ℕ)). length ns + length m.labels) (sym same) ∙ ap (λ (x : Meaning). length before + length x.labels) is)

step_by : (b : Bool) (n : ℕ) (d : Declared) (name : List ℕ) (observed : Option Observation) (label : Label) (m : Meaning) → IsMeantAmong n m → IsOfLiterals label
    → IsKept n d.names (if b then record d { origin = Some observed } else with_point name false observed d).names m (if b then record m { origin_label = label } else record m { labels = m.labels ++ (label ∷ []) })
step_by true n d name observed label m h l = (record { among = h.among; literals = h.literals; origin_literals = l; label_literals = h.label_literals }, refl)
step_by false n d name observed label m h l = (
  record { among = h.among; literals = h.literals; origin_literals = h.origin_literals; label_literals = All-push IsOfLiterals m.labels label h.label_literals l },
  omega (arith, length-append d.names (name ∷ []), length-append m.labels (label ∷ [])),
)

labels_kept : (n : ℕ) (label : Label) (m : Meaning) → IsMeantAmong n m → IsOfLiterals label → IsMeantAmong n (with_task_labels label m)
labels_kept n label m h l = record {
  among = h.among;
  literals = h.literals;
  origin_literals = h.origin_literals;
  label_literals = All-push IsOfLiterals (m.labels ++ (label ∷ [])) label (All-push IsOfLiterals m.labels label h.label_literals l) l;
}

task_meant : (n : ℕ) (s : PlanStep) (r : Range) (before after d : Declared) (m k : Meaning) → IsMeantAmong (length d.names) m
    → ((x : ℕ) → number_of d.names s.name ≡ Some x → x + 1 < length d.names) → after.names ≡ (before.names ++ (s.name ∷ [])) ++ (end_name s.name ∷ []) → mean_task n d s r m ≡ Ok k
    → IsKept (length d.names) before.names after.names m k
task_meant n s r before after d m k h last grown e =
    let done : ℕ → Label → Result Meaning PlanRefusal = λ x label. Ok (with_rule (x + 1) (bounds_of None (Between r)) empty ((x, pos 0) ∷ []) (with_task_labels label m)) in
    let sized : ℕ → Label → Result Meaning PlanRefusal = λ x label. holds_or (list_all (are_sized_from (bounds_of None (Between r))) ((x, pos 0) ∷ [])) (out_of_range n) >>? λ s. done x label in
    let a = bind_ok (label_meant n d s.label) (λ label. some_or (number_of d.names s.name) (no_name n s.name) >>? λ x. sized x label) k e in
    let b = bind_ok (some_or (number_of d.names s.name) (no_name n s.name)) (λ x. sized x a.0) k a.2 in
    let x : ℕ = b.0 in
    let c = bind_ok (holds_or (list_all (are_sized_from (bounds_of None (Between r))) ((x, pos 0) ∷ [])) (out_of_range n)) (λ s. done x a.0) k b.2 in
    let is_k = ok_is (with_rule (x + 1) (bounds_of None (Between r)) empty ((x, pos 0) ∷ []) (with_task_labels a.0 m)) k c.2 in
    let l = label_literals n d.words empty a.0 s.label empty_of_literals a.1 in
    let found = given (number_of d.names s.name) (no_name n s.name) x b.1 in
    let kept =
    rule_kept (length d.names) (x + 1) (bounds_of None (Between r)) empty ((x, pos 0) ∷ []) (with_task_labels a.0 m) (labels_kept (length d.names) a.0 m h l) (last x found)
    (All-cons (IsFromAmong (length d.names)) (x, pos 0) [] (named d.names s.name x found) (All-nil (IsFromAmong (length d.names)))) empty_of_literals in (
      subst (IsMeantAmong (length d.names)) is_k kept,
      omega (
        arith,
        ap length grown,
        length-append (before.names ++ (s.name ∷ [])) (end_name s.name ∷ []),
        length-append before.names (s.name ∷ []),
        ap (λ (y : Meaning). length y.labels) is_k,
        length-append (m.labels ++ (a.0 ∷ [])) (a.0 ∷ []),
        length-append m.labels (a.0 ∷ []),
      ),
    )

line_meant : (n : ℕ) (l : PlanLine) (before after d : Declared) (m k : Meaning) → IsInOrder d → IsMeantAmong (length d.names) m → declare n before l ≡ Ok after → Grows after.names d.names
    → mean n d m l ≡ Ok k → IsKept (length d.names) before.names after.names m k
line_meant n nothing before after d m k h is e grown f =
    unlabelled (length d.names) before.names after.names m k is (ap (λ (x : Declared). x.names) (ok_is before after e)) (ok_is m k f)
line_meant n (deadline t) before after d m k h is e grown f =
    let a = bind_ok (holds_or (is_none before.deadline) (stands_twice n (codes "deadline"))) (λ first. Ok (record before { deadline = Some t })) after e in
    unlabelled (length d.names) before.names after.names m k is (ap (λ (x : Declared). x.names) (ok_is (record before { deadline = Some t }) after a.2)) (ok_is m k f)
line_meant n (start t) before after d m k h is e grown f =
    let a = bind_ok (holds_or (is_none before.start) (stands_twice n (codes "start"))) (λ first. Ok (record before { start = Some t.ticks })) after e in
    unlabelled (length d.names) before.names after.names m k is (ap (λ (x : Declared). x.names) (ok_is (record before { start = Some t.ticks }) after a.2)) (ok_is m k f)
line_meant n (step s) before after d m k h is e grown f =
    let a = step_declared n s before after e in
    let b = bind_ok (label_meant n d s.label) (λ label. Ok (with_label s.name label m)) k f in
    let is_k = ok_is (with_label s.name b.0 m) k b.2 in
    subst (λ (x : Declared). IsKept (length d.names) before.names x.names m k) a.1
    (subst (λ (y : Meaning). IsKept (length d.names) before.names (if is_origin s.name then record before { words = a.0; origin = Some (step_observation s.observed) } else with_point s.name false (step_observation s.observed) (record before { words = a.0 })).names m y) is_k
    (step_by (is_origin s.name) (length d.names) (record before { words = a.0 }) s.name (step_observation s.observed) b.0 m is (label_literals n d.words empty b.0 s.label empty_of_literals b.1)))
line_meant n (task s r) before after d m k h is e grown f =
    let a = task_declared n s before after e in
    let names : after.names ≡ (before.names ++ (s.name ∷ [])) ++ (end_name s.name ∷ []) = ap (λ (x : Declared). x.names) (sym a.1) in
    task_meant n s r before after d m k is
    (λ x found. end_among before.names s.name (end_name s.name) grown.0 d.names x (grown.1 ∙ ap (λ (ns : List (List ℕ)). ns ++ grown.0) names) found) names f
line_meant n (rule r) before after d m k h is e grown f =
    let a = bind_ok (are_new_literals n [] r.label) (λ new. Ok before) after e in
    let same : before ≡ after = ok_is before after a.2 in
    let meant = rule_meant n d r m k h is f in
    (meant.0, ap (λ (x : Declared). length x.names + length m.labels) (sym same) ∙ ap (λ (ls : List Label). length before.names + length ls) (sym meant.1))

lines_meant : (n : ℕ) (lines : List (List ℕ)) (before d : Declared) (m k : Meaning) → IsInOrder d → IsMeantAmong (length d.names) m → declared_after n before lines ≡ Ok d → meant_after n d m lines ≡ Ok k
    → IsKept (length d.names) before.names d.names m k
unfolding declared_after meant_after
lines_meant n [] before d m k h is e f =
    unlabelled (length d.names) before.names d.names m k is (ap (λ (x : Declared). x.names) (ok_is before d e)) (ok_is m k f)
lines_meant n (line ∷ lines) before d m k h is e f =
    let a = bind_ok (declared_line n before line) (λ more. declared_after (n + 1) more lines) d e in
    let b = bind_ok (line_of_text n line) (declare n before) a.0 a.1 in
    let c = bind_ok (meant_line n d m line) (λ more. meant_after (n + 1) d more lines) k f in
    let g = bind_ok (line_of_text n line) (mean n d m) c.0 c.1 in
    let same : g.0 ≡ b.0 = ok_is g.0 b.0 (sym g.1 ∙ b.1) in
    let here = line_meant n b.0 before a.0 d m c.0 h is b.2 (lines_grow (n + 1) lines a.0 d a.2) (ap (mean n d m) (sym same) ∙ g.2) in
    let later = lines_meant (n + 1) lines a.0 d c.0 k h here.0 a.2 c.2 in
    (later.0, omega (arith, here.1, later.1))

nothing_among : (n : ℕ) → IsMeantAmong n nothing_meant
nothing_among n = record {
  among = All-nil (IsDrawnAmong n);
  literals = All-nil (λ (c : DrawnConstraint). IsOfLiterals c.label);
  origin_literals = empty_of_literals;
  label_literals = All-nil IsOfLiterals;
}

pub graph_is_drawn : (lines : List (List ℕ)) (d : Declared) (m : Meaning) → declared_after 1 nothing_declared lines ≡ Ok d → meant_after 1 d nothing_meant lines ≡ Ok m → IsDrawnGraph (graph_of d m)
graph_is_drawn lines d m e f =
    let h = lines_kept 1 lines nothing_declared d nothing_in_order e in
    let meant = lines_meant 1 lines nothing_declared d nothing_meant m h (nothing_among (length d.names)) e f in
    record {
      later = h.later;
      first = h.first;
      each = h.each;
      labelled = omega (arith, meant.1);
      among = meant.0.among;
      origin_timely = h.origin_timely;
      timely = h.timely;
      origin_lettered = h.origin_lettered;
      lettered = h.lettered;
      literals = meant.0.literals;
      origin_literals = meant.0.origin_literals;
      label_literals = meant.0.label_literals;
    }
