-- Each line of a plan has its part of the network, and the network asks what its lines say.
use Rattle.std.proofs.Common.{◌≡◌, ◌↔◌, ◌⊎◌, inl, inr, ℕ, ◌+◌, Bool, true, false, List, [], ◌∷◌, ◌++◌, length, map, refl, ap, sym, ◌∙◌, subst, arith, Option, Some, None, Result, Ok}
use Rattle.std.specs.Prelude.{codes, is_none, if◌then◌else◌, flat_map, nat_le, option_map, option_to_list, ℤ, pos, ◌+ℤ◌}
use Rattle.std.specs.List.{All, AllZip, Contains}
use Rattle.std.proofs.lemmas.Bool.{false_from_ne_true}
use Rattle.std.proofs.lemmas.List.{append-nil}
use Rattle.std.proofs.lemmas.List.Elements.{All-nil, All-cons, All-append, All-contains, Contains-append_left, Contains-append_right, Contains-append_cases}
use Rattle.cstn_markup.proofs.Rests.{some_is}
use Rattle.cstn_facts.proofs.Members.{all_from, contains_map, map_from}
use Rattle.cstn_label.specs.Labels.{Label, empty, Scenario, Holds}
use Rattle.cstn_net.specs.Networks.{Constraint}
use Rattle.cstn_net.specs.Strategies.{Schedule, Meets}
use Rattle.cstn_lift.proofs.ListLemmas.{numbered_contains, numbered_all}
use Rattle.cstn_text.specs.Names.{number_of}
use Rattle.cstn_graphml.specs.DrawnGraph.{Observation, DrawnConstraint}
use Rattle.cstn_graphml.specs.Document.{Parts, first_of_two, or_nothing}
use Rattle.cstn_graphml.specs.Networks.{constraint_drawn, numbered_drawn, network_of}
use Rattle.cstn_sentences.specs.declared.bounds.Bounds.{Bounds}
use Rattle.cstn_sentences.specs.declared.lines.Reference.{Reference}
use Rattle.cstn_sentences.specs.declared.lines.Reference.TheVariants.{Moment, Outcome}
use Rattle.cstn_sentences.specs.declared.lines.Says.{Says}
use Rattle.cstn_sentences.specs.declared.lines.Says.TheVariants.{Between}
use Rattle.cstn_sentences.specs.Limits.{most_plan}
use Rattle.cstn_sentences.specs.Results.{◌>>?◌, some_or, holds_or}
use Rattle.cstn_sentences.specs.Refusals.{PlanRefusal, stands_twice, too_long, no_deadline}
use Rattle.cstn_sentences.specs.Lines.{PlanLine, nothing, deadline, start, step, task, rule}
use Rattle.cstn_sentences.specs.Words.{plan_lines}
use Rattle.cstn_sentences.specs.Judged.{line_of_text}
use Rattle.cstn_sentences.specs.Declarations.{Declared, nothing_declared, is_origin, step_observation, with_point, are_new_literals, declare, declared_line, declared_after}
use Rattle.cstn_sentences.specs.Meaning.{Meaning, nothing_meant, label_meant, point_in, Moment_after, outcome_in, moment_in, moments_in, bounds_of, is_of_end, since_origin, at_least, at_most, constraints_of, with_label, mean, meant_line, meant_after}
use Rattle.cstn_sentences.specs.Moments.{IsSaid, MeetsEach}
use Rattle.cstn_sentences.specs.Plans.{deadline_in, plan_parts, plan}
use Rattle.cstn_sentences.specs.MeantLines.{MeetsInScenario, IsOutcomeMeant, IsReferenceMeant, IsMeant, HoldsAsMeant, IsPointOf, IsLineMeant, IsLineTrue, IsLinePoint, IsOriginStep, AreLinesMeant}
use Rattle.cstn_sentences.proofs.Accepted.{bind_ok, ok_is, given}
use Rattle.cstn_sentences.proofs.DeclaredInOrder.{IsInOrder, step_declared, task_declared, nothing_in_order}
use Rattle.cstn_sentences.proofs.MomentLemmas.{IsMet}
use Rattle.cstn_sentences.proofs.MeantForms.{rule_steps, task_steps}
use Rattle.cstn_sentences.proofs.LaterLines.{OriginOnce, IsLater, IsAtPlace, line_at}
use Rattle.cstn_sentences.proofs.OtherPoints.{HasNumber, IsNumbered, numbered_by}
use Rattle.cstn_sentences.proofs.PointsMeant.{NameOnce, step_meant, task_meant}

-- what the laws of forms, of names and of steps say
pub record WhatFormsSay : Type 0 where
  pub said : (first : Option ℤ) (at : Schedule) (x : ℕ) (says : Says) (ms : List Moment_after) (label : Label) → at 0 ≡ 0
      → MeetsEach at (flat_map (constraints_of x (bounds_of first says) label) (since_origin says ms)) → IsSaid first at x says ms
  pub asked : (first : Option ℤ) (at : Schedule) (x : ℕ) (says : Says) (ms : List Moment_after) (label : Label) → at 0 ≡ 0
      → IsSaid first at x says ms → MeetsEach at (flat_map (constraints_of x (bounds_of first says) label) (since_origin says ms))
  pub result : (n t : ℕ) (d : Declared) (k : Meaning) (prop : List ℕ) (m : Moment_after) → outcome_in n d prop ≡ Ok m
      → IsOutcomeMeant n d (network_of (plan_parts t d k)) prop m
  pub origin_once : OriginOnce
  pub name_once : NameOnce

-- ---- labels of constraints

abbrev HasLabel : Label → DrawnConstraint → Type 0
HasLabel label c = c.label ≡ label

least_labelled : (x : ℕ) (least : Option ℤ) (label : Label) (m : Moment_after)
    → All (HasLabel label) (option_to_list (option_map (λ a. at_least x m.0 (a +ℤ m.1) label) least))
least_labelled x None label m = All-nil (HasLabel label)
least_labelled x (Some a) label m = All-cons (HasLabel label) (at_least x m.0 (a +ℤ m.1) label) [] refl (All-nil (HasLabel label))

most_labelled : (x : ℕ) (most : Option ℤ) (label : Label) (m : Moment_after)
    → All (HasLabel label) (option_to_list (option_map (λ a. at_most x m.0 (a +ℤ m.1) label) most))
most_labelled x None label m = All-nil (HasLabel label)
most_labelled x (Some a) label m = All-cons (HasLabel label) (at_most x m.0 (a +ℤ m.1) label) [] refl (All-nil (HasLabel label))

rule_labelled : (x : ℕ) (b : Bounds) (label : Label) (ms : List Moment_after) → All (HasLabel label) (flat_map (constraints_of x b label) ms)
rule_labelled x b label [] = All-nil (HasLabel label)
rule_labelled x b label (m ∷ ms) =
    All-append (HasLabel label) (constraints_of x b label m) (flat_map (constraints_of x b label) ms)
    (All-append (HasLabel label) (option_to_list (option_map (λ a. at_least x m.0 (a +ℤ m.1) label) b.least))
    (option_to_list (option_map (λ a. at_most x m.0 (a +ℤ m.1) label) b.most))
    (least_labelled x b.least label m) (most_labelled x b.most label m))
    (rule_labelled x b label ms)

-- constraints of one label are met, where the label holds
abbrev AreMet : Scenario → Schedule → List DrawnConstraint → Type 0
AreMet s at cs = (c : DrawnConstraint) → Contains cs c → Holds s c.label → IsMet at c

met_under : (s : Scenario) (at : Schedule) (label : Label) (cs : List DrawnConstraint) → All (HasLabel label) cs → (Holds s label → MeetsEach at cs) ↔ AreMet s at cs
met_under s at label cs labelled = (
  λ met c there holds. All-contains (IsMet at) cs c (met (subst (Holds s) (All-contains (HasLabel label) cs c labelled there) holds)) there,
  λ met holds. all_from (IsMet at) cs (λ c there. met c there (subst (Holds s) (sym (All-contains (HasLabel label) cs c labelled there)) holds)),
)

-- ---- the constraints that a line adds

abbrev Adds : ℕ → Declared → PlanLine → List DrawnConstraint → Type 0
Adds n d nothing cs = cs ≡ []
Adds n d (deadline t) cs = cs ≡ []
Adds n d (start t) cs = cs ≡ []
Adds n d (step s) cs = cs ≡ []
Adds n d (task s r) cs = (x : ℕ) × (number_of d.names s.name ≡ Some x) × (cs ≡ flat_map (constraints_of (x + 1) (bounds_of None (Between r)) empty) ((x, pos 0) ∷ []))
Adds n d (rule r) cs = (x : ℕ) × (ms : List Moment_after) × (label : Label) × (point_in n d (is_of_end r.says) r.point ≡ Ok x) × (moments_in n d r.since ≡ Ok ms) × (label_meant n d r.label ≡ Ok label)
    × (cs ≡ flat_map (constraints_of x (bounds_of d.start r.says) label) (since_origin r.says ms))

record IsAdded (n : ℕ) (d : Declared) (l : PlanLine) (m k : Meaning) : Type 0 where
  cs : List DrawnConstraint
  adds : Adds n d l cs
  grown : k.constraints ≡ m.constraints ++ cs

none_more : (m k : Meaning) → m.constraints ≡ k.constraints → k.constraints ≡ m.constraints ++ []
none_more m k e = sym e ∙ sym (append-nil m.constraints)

line_adds : (n : ℕ) (d : Declared) (l : PlanLine) (m k : Meaning) → mean n d m l ≡ Ok k → IsAdded n d l m k
line_adds n d nothing m k e = record { cs = []; adds = refl; grown = none_more m k (ap (λ (y : Meaning). y.constraints) (ok_is m k e)) }
line_adds n d (deadline t) m k e = record { cs = []; adds = refl; grown = none_more m k (ap (λ (y : Meaning). y.constraints) (ok_is m k e)) }
line_adds n d (start t) m k e = record { cs = []; adds = refl; grown = none_more m k (ap (λ (y : Meaning). y.constraints) (ok_is m k e)) }
line_adds n d (step s) m k e =
    let a = bind_ok (label_meant n d s.label) (λ label. Ok (with_label s.name label m)) k e in
    record { cs = []; adds = refl; grown = none_more m k (same_constraints (is_origin s.name) a.0 ∙ ap (λ (y : Meaning). y.constraints) (ok_is (with_label s.name a.0 m) k a.2)) }
  where
    same_constraints : (by : Bool) (label : Label) → m.constraints ≡ (if by then record m { origin_label = label } else record m { labels = m.labels ++ (label ∷ []) }).constraints
    same_constraints true label = refl
    same_constraints false label = refl
line_adds n d (task s r) m k e =
    let a = task_steps n d s r m k e in
    record { cs = flat_map (constraints_of (a.first + 1) (bounds_of None (Between r)) empty) ((a.first, pos 0) ∷ []); adds = (a.first, a.first_is, refl); grown = ap (λ (y : Meaning). y.constraints) (sym a.meaning_is) }
line_adds n d (rule r) m k e =
    let a = rule_steps n d r m k e in
    record {
      cs = flat_map (constraints_of a.x (bounds_of d.start r.says) a.label) (since_origin r.says a.moments);
      adds = (a.x, a.moments, a.label, a.point_is, a.moments_are, a.label_is, refl);
      grown = ap (λ (y : Meaning). y.constraints) (sym a.meaning_is);
    }

none_asked : (s : Scenario) (at : Schedule) (cs : List DrawnConstraint) → cs ≡ [] → Unit {0} ↔ AreMet s at cs
none_asked s at cs none = (λ u c has. absurd (let inside = (subst (λ ds. Contains ds c) none has).1 in omega arith), λ met. tt)

-- a line is true of a schedule exactly where the constraints that it adds are met
line_asks : WhatFormsSay → (n : ℕ) (d : Declared) (parts : Parts) (l : PlanLine) (m : IsMeant n d parts l) (cs : List DrawnConstraint) (s : Scenario) (at : Schedule) → parts.names ≡ d.names
    → at 0 ≡ 0 → Adds n d l cs → HoldsAsMeant n d parts l m s at ↔ AreMet s at cs
line_asks w n d parts nothing m cs s at same zero adds = none_asked s at cs adds
line_asks w n d parts (deadline t) m cs s at same zero adds = none_asked s at cs adds
line_asks w n d parts (start t) m cs s at same zero adds = none_asked s at cs adds
line_asks w n d parts (step p) m cs s at same zero adds = none_asked s at cs adds
line_asks w n d parts (task p r) m cs s at same zero adds =
    let mine : List DrawnConstraint = flat_map (constraints_of (m.first + 1) (bounds_of None (Between r)) empty) ((m.first, pos 0) ∷ []) in
    let is : cs ≡ mine = adds.2 ∙ ap (λ x. flat_map (constraints_of (x + 1) (bounds_of None (Between r)) empty) ((x, pos 0) ∷ [])) (some_is (sym adds.1 ∙ m.starts.number)) in
    let under = met_under s at empty mine (rule_labelled (m.first + 1) (bounds_of None (Between r)) empty ((m.first, pos 0) ∷ [])) in
    subst (λ ds. IsSaid None at (m.first + 1) (Between r) ((m.first, pos 0) ∷ []) ↔ AreMet s at ds) (sym is) (
      λ said. under.0 (λ holds. w.asked None at (m.first + 1) (Between r) ((m.first, pos 0) ∷ []) empty zero said),
      λ met. w.said None at (m.first + 1) (Between r) ((m.first, pos 0) ∷ []) empty zero (under.1 met (λ p. tt)),
    )
line_asks w n d parts (rule r) m cs s at same zero adds =
    let b : Bounds = bounds_of d.start r.says in
    let mine : List DrawnConstraint = flat_map (constraints_of m.x b m.label) (since_origin r.says m.moments) in
    let x_is : adds.0 ≡ m.x = ok_is adds.0 m.x (sym adds.3 ∙ m.point_is) in
    let ms_are : adds.1 ≡ m.moments = ok_is adds.1 m.moments (sym adds.4 ∙ m.moments_are) in
    let label_is : adds.2 ≡ m.label = ok_is adds.2 m.label (sym adds.5 ∙ m.label_is) in
    let is : cs ≡ mine = adds.6
    ∙ ap (λ x. flat_map (constraints_of x b adds.2) (since_origin r.says adds.1)) x_is
    ∙ ap (λ ms. flat_map (constraints_of m.x b adds.2) (since_origin r.says ms)) ms_are
    ∙ ap (λ (label : Label). flat_map (constraints_of m.x b label) (since_origin r.says m.moments)) label_is in
    let under = met_under s at m.label mine (rule_labelled m.x b m.label (since_origin r.says m.moments)) in
    subst (λ ds. (Holds s m.label → IsSaid d.start at m.x r.says m.moments) ↔ AreMet s at ds) (sym is) (
      λ said. under.0 (λ holds. w.asked d.start at m.x r.says m.moments m.label zero (said holds)),
      λ met holds. w.said d.start at m.x r.says m.moments m.label zero (under.1 met holds),
    )

-- ---- the network asks what its lines ask

-- a constraint that a line of these adds, of which the first is number n
record ComesFrom (n : ℕ) (lines : List (List ℕ)) (d : Declared) (c : DrawnConstraint) : Type 0 where
  before : List (List ℕ)
  text : List ℕ
  after : List (List ℕ)
  split : lines ≡ before ++ (text ∷ after)
  line : PlanLine
  line_is : line_of_text (n + length before) text ≡ Ok line
  cs : List DrawnConstraint
  adds : Adds (n + length before) d line cs
  there : Contains cs c

one_later : (n : ℕ) (line : List ℕ) (lines : List (List ℕ)) (d : Declared) (c : DrawnConstraint) → ComesFrom (n + 1) lines d c → ComesFrom n (line ∷ lines) d c
one_later n line lines d c h =
    let number : (n + 1) + length h.before ≡ n + length (line ∷ h.before) = omega arith in
    record {
      before = line ∷ h.before;
      text = h.text;
      after = h.after;
      split = ap (λ (ls : List (List ℕ)). line ∷ ls) h.split;
      line = h.line;
      line_is = subst (λ i. line_of_text i h.text ≡ Ok h.line) number h.line_is;
      cs = h.cs;
      adds = subst (λ i. Adds i d h.line h.cs) number h.adds;
      there = h.there;
    }

comes : (lines : List (List ℕ)) (n : ℕ) (d : Declared) (m k : Meaning) (c : DrawnConstraint) → meant_after n d m lines ≡ Ok k → Contains k.constraints c → Contains m.constraints c ⊎ ComesFrom n lines d c
unfolding meant_after
comes [] n d m k c e has = inl (subst (λ (y : Meaning). Contains y.constraints c) (sym (ok_is m k e)) has)
comes (line ∷ lines) n d m k c e has =
    let a = bind_ok (meant_line n d m line) (λ more. meant_after (n + 1) d more lines) k e in
    let b = bind_ok (line_of_text n line) (mean n d m) a.0 a.1 in
    let added = line_adds n d b.0 m a.0 b.2 in
    let number : n ≡ n + length {A = List ℕ} [] = omega arith in
    elim (comes lines (n + 1) d a.0 k c a.2 has) [
      | inr later ↦ inr (one_later n line lines d c later)
      | inl here ↦ elim (Contains-append_cases m.constraints added.cs c (subst (λ ds. Contains ds c) added.grown here)) [
        | inl before ↦ inl before
        | inr there ↦ inr (record {
          before = [];
          text = line;
          after = lines;
          split = refl;
          line = b.0;
          line_is = subst (λ i. line_of_text i line ≡ Ok b.0) number b.1;
          cs = added.cs;
          adds = subst (λ i. Adds i d b.0 added.cs) number added.adds;
          there = there;
        })
      ]
    ]

-- ---- the moments that a rule counts from

reference_meant : WhatFormsSay → (n t : ℕ) (d : Declared) (k : Meaning) (r : Reference) (m : Moment_after) → moment_in n d r ≡ Ok m
    → IsReferenceMeant n d (network_of (plan_parts t d k)) r m
reference_meant w n t d k (Moment p) m e =
    let a = bind_ok (point_in n d true p) (λ x. Ok (x, pos 0)) m e in
    let is = ok_is (a.0, pos 0) m a.2 in
    (subst (λ (z : Moment_after). point_in n d true p ≡ Ok z.0) is a.1, sym (ap (λ (z : Moment_after). z.1) is))
reference_meant w n t d k (Outcome prop) m e = w.result n t d k prop m e

references_meant : WhatFormsSay → (n t : ℕ) (d : Declared) (k : Meaning) (rs : List Reference) (ms : List Moment_after) → moments_in n d rs ≡ Ok ms
    → AllZip (IsReferenceMeant n d (network_of (plan_parts t d k))) rs ms
references_meant w n t d k [] ms e = subst (AllZip (IsReferenceMeant n d (network_of (plan_parts t d k))) []) (ok_is [] ms e) tt
references_meant w n t d k (r ∷ rs) ms e =
    let a = bind_ok (moment_in n d r) (λ m. moments_in n d rs >>? λ more. Ok (m ∷ more)) ms e in
    let b = bind_ok (moments_in n d rs) (λ more. Ok (a.0 ∷ more)) ms a.2 in
    subst (AllZip (IsReferenceMeant n d (network_of (plan_parts t d k))) (r ∷ rs)) (ok_is (a.0 ∷ b.0) ms b.2)
    (reference_meant w n t d k r a.0 a.1, references_meant w n t d k rs b.0 b.1)

-- ---- lines

meant_by : WhatFormsSay → (n t : ℕ) (d : Declared) (k : Meaning) (l : PlanLine) (b a : Declared) (m o : Meaning) → IsInOrder b → length b.names ≡ length m.labels + 1
    → declare n b l ≡ Ok a → mean n d m l ≡ Ok o → IsLater a d o k → IsMeant n d (plan_parts t d k) l
meant_by w n t d k nothing b a m o order labelled e f later = tt
meant_by w n t d k (deadline u) b a m o order labelled e f later =
    let h = bind_ok (holds_or (is_none b.deadline) (stands_twice n (codes "deadline"))) (λ first. Ok (record b { deadline = Some u })) a e in
    later.deadline u (ap (λ (y : Declared). y.deadline) (sym (ok_is (record b { deadline = Some u }) a h.2)))
meant_by w n t d k (start u) b a m o order labelled e f later =
    let h = bind_ok (holds_or (is_none b.start) (stands_twice n (codes "start"))) (λ first. Ok (record b { start = Some u.ticks })) a e in
    later.start u.ticks (ap (λ (y : Declared). y.start) (sym (ok_is (record b { start = Some u.ticks }) a h.2)))
meant_by w n t d k (step s) b a m o order labelled e f later = step_meant w.name_once n t s b a d m o k order labelled e f later
meant_by w n t d k (task s r) b a m o order labelled e f later = task_meant n t s r b a d m o k order labelled e f later
meant_by w n t d k (rule r) b a m o order labelled e f later =
    let h = rule_steps n d r m o f in
    record {
      x = h.x;
      moments = h.moments;
      label = h.label;
      point_is = h.point_is;
      moments_are = h.moments_are;
      each_is = references_meant w n t d k r.since h.moments h.moments_are;
      label_is = h.label_is;
    }

line_meant : WhatFormsSay → (n t : ℕ) (d : Declared) (k : Meaning) (text : List ℕ) → IsAtPlace n text d k → IsLineMeant n d (plan_parts t d k) text
line_meant w n t d k text h = record {
  line = h.line;
  line_is = h.line_is;
  meant = meant_by w n t d k h.line h.before h.after h.from h.to h.in_order h.labelled h.declared h.meant h.later;
}

-- the schedule meets the constraints of the network, so it meets those that a line adds
asked_line : WhatFormsSay → (n t : ℕ) (d : Declared) (k : Meaning) (text : List ℕ) (h : IsAtPlace n text d k) (m : IsLineMeant n d (plan_parts t d k) text) (s : Scenario) (at : Schedule) → at 0 ≡ 0
    → MeetsInScenario (network_of (plan_parts t d k)) s at → IsLineTrue n d (plan_parts t d k) text m s at
asked_line w n t d k text h m s at zero meets =
    let same : h.line ≡ m.line = ok_is h.line m.line (sym h.line_is ∙ m.line_is) in
    let added = line_adds n d h.line h.from h.to h.meant in
    (line_asks w n d (plan_parts t d k) m.line m.meant added.cs s at refl zero (subst (λ (l : PlanLine). Adds n d l added.cs) same added.adds)).1
    (λ c there holds.
    let in_to : Contains h.to.constraints c = subst (λ ds. Contains ds c) (sym added.grown) (Contains-append_right h.from.constraints added.cs c there) in
    let in_all : Contains k.constraints c = subst (λ ds. Contains ds c) (sym h.later.constraints.1) (Contains-append_left h.to.constraints h.later.constraints.0 c in_to) in
    let numbered = numbered_contains 0 (map constraint_drawn k.constraints) (constraint_drawn c) (contains_map constraint_drawn k.constraints c in_all) in
    meets (record (constraint_drawn c) { id = numbered.0 }) numbered.1 holds)

-- each line is true of the schedule, so it meets the constraints of the network
meets_all : (s : Scenario) (at : Schedule) (cs : List DrawnConstraint) → AreMet s at cs → (c : Constraint) → Contains (numbered_drawn 0 cs) c → Holds s c.label → Meets at c
meets_all s at cs met c has =
    let P : Constraint → Type 0 = λ e. Holds s e.label → Meets at e in
    All-contains P (numbered_drawn 0 cs) c
    (numbered_all P 0 (map constraint_drawn cs) (all_from (λ e. (id : ℕ) → P (record e { id = id })) (map constraint_drawn cs) (λ e there id holds.
    let from = map_from constraint_drawn cs e there in
    subst (Meets at) (ap (λ (y : Constraint). record y { id = id }) from.2) (met from.0 from.1 (subst (λ (y : Constraint). Holds s y.label) (sym from.2) holds)))))
    has

true_lines : WhatFormsSay → (t : ℕ) (d : Declared) (k : Meaning) (lines : List (List ℕ)) (s : Scenario) (at : Schedule) → at 0 ≡ 0 → meant_after 1 d nothing_meant lines ≡ Ok k
    → (each : (before : List (List ℕ)) (line : List ℕ) (after : List (List ℕ)) → lines ≡ before ++ (line ∷ after) → IsLineMeant (length before + 1) d (plan_parts t d k) line)
    → ((before : List (List ℕ)) (line : List ℕ) (after : List (List ℕ)) (here : lines ≡ before ++ (line ∷ after)) → IsLineTrue (length before + 1) d (plan_parts t d k) line (each before line after here) s at)
    → MeetsInScenario (network_of (plan_parts t d k)) s at
true_lines w t d k lines s at zero e each true_of = meets_all s at k.constraints (λ c has holds.
    elim (comes lines 1 d nothing_meant k c e has) [
      | inl nowhere ↦ absurd (let inside = nowhere.1 in omega arith)
      | inr h ↦
          let number : 1 + length h.before ≡ length h.before + 1 = omega arith in
          let m = each h.before h.text h.after h.split in
          let read : line_of_text (length h.before + 1) h.text ≡ Ok h.line = subst (λ i. line_of_text i h.text ≡ Ok h.line) number h.line_is in
          let same : h.line ≡ m.line = ok_is h.line m.line (sym read ∙ m.line_is) in
          let adds : Adds (length h.before + 1) d m.line h.cs = subst (λ (l : PlanLine). Adds (length h.before + 1) d l h.cs) same (subst (λ i. Adds i d h.line h.cs) number h.adds) in
          (line_asks w (length h.before + 1) d (plan_parts t d k) m.line m.meant h.cs s at refl zero adds).0 (true_of h.before h.text h.after h.split) c h.there holds
    ])

-- ---- time-points

point_by : (n : ℕ) (d : Declared) (parts : Parts) (l : PlanLine) (m : IsMeant n d parts l) (x : ℕ) → HasNumber parts.names l x → IsPointOf n d parts l m x
point_by n d parts nothing m x h = absurd h
point_by n d parts (deadline t) m x h = absurd h
point_by n d parts (start t) m x h = absurd h
point_by n d parts (step s) m x h = some_is (sym m.x_is ∙ h)
point_by n d parts (task s r) m x (inl h) = inl (some_is (sym m.first_is ∙ h))
point_by n d parts (task s r) m x (inr h) = inr (some_is (sym m.last_is ∙ h))
point_by n d parts (rule r) m x h = absurd h

point_of : (d : Declared) (parts : Parts) (lines : List (List ℕ)) (x : ℕ)
    → (each : (before : List (List ℕ)) (line : List ℕ) (after : List (List ℕ)) → lines ≡ before ++ (line ∷ after) → IsLineMeant (length before + 1) d parts line)
    → IsNumbered 1 lines parts.names x → (before : List (List ℕ)) × (line : List ℕ) × (after : List (List ℕ)) × (here : lines ≡ before ++ (line ∷ after)) × IsLinePoint (length before + 1) d parts line (each before line after here) x
point_of d parts lines x each h =
    let number : 1 + length h.before ≡ length h.before + 1 = omega arith in
    let m = each h.before h.text h.after h.split in
    let read : line_of_text (length h.before + 1) h.text ≡ Ok h.line = subst (λ i. line_of_text i h.text ≡ Ok h.line) number h.line_is in
    let same : h.line ≡ m.line = ok_is h.line m.line (sym read ∙ m.line_is) in
    (h.before, h.text, h.after, h.split, point_by (length h.before + 1) d parts m.line m.meant x (subst (λ (l : PlanLine). HasNumber parts.names l x) same h.there))

-- ---- the origin without a step

origin_by : (by : Bool) (b : Declared) (name : List ℕ) (observed : Option Observation) (label : Label) (m : Meaning) → by ≡ false
    → ((if by then record b { origin = Some observed } else with_point name false observed b).origin ≡ b.origin)
    × ((if by then record m { origin_label = label } else record m { labels = m.labels ++ (label ∷ []) }).origin_label ≡ m.origin_label)
origin_by true b name observed label m other = absurd (cc)
origin_by false b name observed label m other = (refl, refl)

line_still : (n : ℕ) (l : PlanLine) (b a d : Declared) (m k : Meaning) → (IsOriginStep l → ⊥) → declare n b l ≡ Ok a → mean n d m l ≡ Ok k → (a.origin ≡ b.origin) × (k.origin_label ≡ m.origin_label)
line_still n nothing b a d m k other e f = (ap (λ (y : Declared). y.origin) (sym (ok_is b a e)), ap (λ (y : Meaning). y.origin_label) (sym (ok_is m k f)))
line_still n (deadline t) b a d m k other e f =
    let h = bind_ok (holds_or (is_none b.deadline) (stands_twice n (codes "deadline"))) (λ first. Ok (record b { deadline = Some t })) a e in
    (ap (λ (y : Declared). y.origin) (sym (ok_is (record b { deadline = Some t }) a h.2)), ap (λ (y : Meaning). y.origin_label) (sym (ok_is m k f)))
line_still n (start t) b a d m k other e f =
    let h = bind_ok (holds_or (is_none b.start) (stands_twice n (codes "start"))) (λ first. Ok (record b { start = Some t.ticks })) a e in
    (ap (λ (y : Declared). y.origin) (sym (ok_is (record b { start = Some t.ticks }) a h.2)), ap (λ (y : Meaning). y.origin_label) (sym (ok_is m k f)))
line_still n (step s) b a d m k other e f =
    let h = step_declared n s b a e in
    let g = bind_ok (label_meant n d s.label) (λ label. Ok (with_label s.name label m)) k f in
    let same = origin_by (is_origin s.name) (record b { words = h.0 }) s.name (step_observation s.observed) g.0 m (false_from_ne_true (is_origin s.name) other) in
    (ap (λ (y : Declared). y.origin) (sym h.1) ∙ same.0, ap (λ (y : Meaning). y.origin_label) (sym (ok_is (with_label s.name g.0 m) k g.2)) ∙ same.1)
line_still n (task s r) b a d m k other e f =
    (ap (λ (y : Declared). y.origin) (sym (task_declared n s b a e).1), ap (λ (y : Meaning). y.origin_label) (sym (task_steps n d s r m k f).meaning_is))
line_still n (rule r) b a d m k other e f =
    let h = bind_ok (are_new_literals n [] r.label) (λ new. Ok b) a e in
    (ap (λ (y : Declared). y.origin) (sym (ok_is b a h.2)), ap (λ (y : Meaning). y.origin_label) (sym (rule_steps n d r m k f).meaning_is))

-- no line of these, of which the first is number n, is the step of the origin
abbrev HasNoOriginStep : ℕ → List (List ℕ) → Type 0
HasNoOriginStep n lines = (before : List (List ℕ)) (text : List ℕ) (after : List (List ℕ)) (l : PlanLine) → lines ≡ before ++ (text ∷ after) → line_of_text (n + length before) text ≡ Ok l → IsOriginStep l → ⊥

lines_still : (lines : List (List ℕ)) (n : ℕ) (b a d : Declared) (m k : Meaning) → HasNoOriginStep n lines → declared_after n b lines ≡ Ok a → meant_after n d m lines ≡ Ok k
    → (a.origin ≡ b.origin) × (k.origin_label ≡ m.origin_label)
unfolding declared_after meant_after
lines_still [] n b a d m k other e f = (ap (λ (y : Declared). y.origin) (sym (ok_is b a e)), ap (λ (y : Meaning). y.origin_label) (sym (ok_is m k f)))
lines_still (line ∷ lines) n b a d m k other e f =
    let p = bind_ok (declared_line n b line) (λ more. declared_after (n + 1) more lines) a e in
    let q = bind_ok (line_of_text n line) (declare n b) p.0 p.1 in
    let r = bind_ok (meant_line n d m line) (λ more. meant_after (n + 1) d more lines) k f in
    let s = bind_ok (line_of_text n line) (mean n d m) r.0 r.1 in
    let same : s.0 ≡ q.0 = ok_is s.0 q.0 (sym s.1 ∙ q.1) in
    let number : n ≡ n + length {A = List ℕ} [] = omega arith in
    let here = line_still n q.0 b p.0 d m r.0 (other [] line lines q.0 refl (subst (λ i. line_of_text i line ≡ Ok q.0) number q.1)) q.2 (ap (mean n d m) (sym same) ∙ s.2) in
    let rest : HasNoOriginStep (n + 1) lines = λ before text after l split read.
    let next : (n + 1) + length before ≡ n + length (line ∷ before) = omega arith in
    other (line ∷ before) text after l (ap (λ (ls : List (List ℕ)). line ∷ ls) split) (subst (λ i. line_of_text i text ≡ Ok l) next read) in
    let later = lines_still lines (n + 1) p.0 a d r.0 k rest p.2 r.2 in
    (later.0 ∙ here.0, later.1 ∙ here.1)

origin_alone : (d : Declared) (k : Meaning) (t : ℕ) (lines : List (List ℕ)) → declared_after 1 nothing_declared lines ≡ Ok d → meant_after 1 d nothing_meant lines ≡ Ok k
    → (each : (before : List (List ℕ)) (line : List ℕ) (after : List (List ℕ)) → lines ≡ before ++ (line ∷ after) → IsLineMeant (length before + 1) d (plan_parts t d k) line)
    → ((before : List (List ℕ)) (line : List ℕ) (after : List (List ℕ)) (here : lines ≡ before ++ (line ∷ after)) → IsOriginStep (each before line after here).line → ⊥)
    → (or_nothing d.origin ≡ None) × (k.origin_label ≡ empty)
origin_alone d k t lines e f each other =
    let none : HasNoOriginStep 1 lines = λ before text after l split read is.
    let number : 1 + length before ≡ length before + 1 = omega arith in
    let m = each before text after split in
    let same : l ≡ m.line = ok_is l m.line (sym (subst (λ i. line_of_text i text ≡ Ok l) number read) ∙ m.line_is) in
    other before text after split (subst IsOriginStep same is) in
    let still = lines_still lines 1 nothing_declared d d nothing_meant k none e f in
    (ap or_nothing still.0, still.1)

-- each line of a plan says what it says
pub lines_meant : WhatFormsSay → (text : List ℕ) (handed : Option ℕ) (parts : Parts) → plan text handed ≡ Ok parts → AreLinesMeant text handed parts
lines_meant w text handed parts e =
    let lines : List (List ℕ) = plan_lines text in
    let done : Declared → Meaning → ℕ → Result Parts PlanRefusal = λ d m t. Ok (plan_parts t d m) in
    let timed : Declared → Meaning → Result Parts PlanRefusal = λ d m. some_or (first_of_two handed (deadline_in d)) no_deadline >>? done d m in
    let meant : Declared → Result Parts PlanRefusal = λ d. meant_after 1 d nothing_meant lines >>? timed d in
    let a = bind_ok (holds_or (nat_le (length text) most_plan) too_long) (λ short. declared_after 1 nothing_declared lines >>? meant) parts e in
    let b = bind_ok (declared_after 1 nothing_declared lines) meant parts a.2 in
    let c = bind_ok (meant_after 1 b.0 nothing_meant lines) (timed b.0) parts b.2 in
    let f = bind_ok (some_or (first_of_two handed (deadline_in b.0)) no_deadline) (done b.0 c.0) parts c.2 in
    let place : (before : List (List ℕ)) (line : List ℕ) (after : List (List ℕ)) → lines ≡ before ++ (line ∷ after) → IsAtPlace (length before + 1) line b.0 c.0 =
    λ before line after split.
    let declared = subst (λ (ls : List (List ℕ)). declared_after 1 nothing_declared ls ≡ Ok b.0) {x = lines} split b.1 in
    let here = subst (λ (ls : List (List ℕ)). meant_after 1 b.0 nothing_meant ls ≡ Ok c.0) {x = lines} split c.1 in
    let number : 1 + length before ≡ length before + 1 = omega arith in
    line_at w.origin_once before line after 1 (length before + 1) nothing_declared b.0 nothing_meant c.0 nothing_in_order refl declared here number in
    let each : (before : List (List ℕ)) (line : List ℕ) (after : List (List ℕ)) → lines ≡ before ++ (line ∷ after) → IsLineMeant (length before + 1) b.0 (plan_parts f.0 b.0 c.0) line =
    λ before line after split. line_meant w (length before + 1) f.0 b.0 c.0 line (place before line after split) in
    subst (AreLinesMeant text handed) {x = plan_parts f.0 b.0 c.0} (ok_is (plan_parts f.0 b.0 c.0) parts f.2) (record {
      declared = b.0;
      declared_is = b.1;
      names_are = refl {a = b.0.names};
      deadline_is = given (first_of_two handed (deadline_in b.0)) no_deadline f.0 f.1;
      each = each;
      origin = origin_alone b.0 c.0 f.0 lines b.1 c.1 each;
      points = λ x some inside. elim (numbered_by w.name_once lines 1 nothing_declared b.0 x b.1 inside) [
        | inl origin ↦ absurd (omega (arith, some, origin))
        | inr h ↦ point_of b.0 (plan_parts f.0 b.0 c.0) lines x each h
      ];
      exact = λ s at zero. (
        λ meets before line after split. asked_line w (length before + 1) f.0 b.0 c.0 line (place before line after split) (each before line after split) s at zero meets,
        true_lines w f.0 b.0 c.0 lines s at zero c.1 each,
      );
    })
