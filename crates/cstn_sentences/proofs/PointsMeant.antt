-- The time-points of steps and tasks.
use Rattle.std.proofs.Common.{◌≡◌, ℕ, zero, suc, ◌+◌, Bool, true, false, List, [], ◌∷◌, ◌++◌, length, refl, ap, sym, ◌∙◌, arith, Option, Some, None, Ok}
use Rattle.std.specs.Prelude.{bytes_eq, if◌then◌else◌, slice_index_or}
use Rattle.std.proofs.lemmas.List.{length-append, append_assoc}
use Rattle.cstn_facts.proofs.Filters.{position_at}
use Rattle.cstn_label.specs.Labels.{Label, empty}
use Rattle.cstn_text.specs.Names.{number_of}
use Rattle.cstn_graphml.specs.DrawnGraph.{Observation, origin_name}
use Rattle.cstn_graphml.specs.Document.{or_nothing}
use Rattle.cstn_sentences.specs.declared.lines.Range.{Range}
use Rattle.cstn_sentences.specs.declared.declarations.Meant.{Meant}
use Rattle.cstn_sentences.specs.Lines.{PlanStep}
use Rattle.cstn_sentences.specs.Declarations.{Declared, is_origin, end_name, step_observation, with_point, declare_step, declare_task}
use Rattle.cstn_sentences.specs.Meaning.{Meaning, label_meant, with_label, mean_step, mean_task}
use Rattle.cstn_sentences.specs.Plans.{plan_parts}
use Rattle.cstn_sentences.specs.MeantLines.{IsStepMeant, IsTaskMeant}
use Rattle.cstn_sentences.proofs.Accepted.{bind_ok, ok_is}
use Rattle.cstn_sentences.proofs.DeclaredInOrder.{IsInOrder, step_declared, task_declared}
use Rattle.cstn_sentences.proofs.MeantForms.{IsTask, task_steps}
use Rattle.cstn_sentences.proofs.PutNames.{number_put, task_numbers}
use Rattle.cstn_sentences.proofs.LaterLines.{GoesOn, IsLater}

-- ---- places

put_here : {X : Type 0} (xs : List X) (x : X) (more : List X) (d : X) → slice_index_or (xs ++ (x ∷ more)) (length xs) d ≡ x
put_here [] x more d = refl
put_here (y ∷ xs) x more d = put_here xs x more d

at_place : {X : Type 0} (xs : List X) (x : X) (more all : List X) (i : ℕ) (d : X) → i ≡ length xs → all ≡ xs ++ (x ∷ more) → slice_index_or all i d ≡ x
at_place xs x more all i d e is = ap (λ k. slice_index_or all k d) e ∙ ap (λ l. slice_index_or l (length xs) d) is ∙ put_here xs x more d

-- behind a first item
behind : {X : Type 0} (o : X) (xs : List X) (x : X) (more all : List X) (i : ℕ) (d : X) → i ≡ length xs + 1 → all ≡ xs ++ (x ∷ more) → slice_index_or (o ∷ all) i d ≡ x
behind o xs x more all zero d e is = absurd (omega (arith, e))
behind o xs x more all (suc j) d e is =
    let here : j ≡ length xs = omega (arith, e) in
    at_place xs x more all j d here is

-- one more, and whatever comes later
one_more : {X : Type 0} (xs : List X) (x : X) (ys all : List X) (later : GoesOn ys all) → ys ≡ xs ++ (x ∷ []) → all ≡ xs ++ (x ∷ later.0)
one_more xs x ys all later is = later.1 ∙ ap (λ l. l ++ later.0) is ∙ append_assoc xs (x ∷ []) later.0

-- two more
first_of : {X : Type 0} (xs : List X) (x y : X) (ys all : List X) (later : GoesOn ys all) → ys ≡ (xs ++ (x ∷ [])) ++ (y ∷ []) → all ≡ xs ++ (x ∷ (y ∷ later.0))
first_of xs x y ys all later is = later.1 ∙ ap (λ l. l ++ later.0) is ∙ append_assoc (xs ++ (x ∷ [])) (y ∷ []) later.0 ∙ append_assoc xs (x ∷ []) (y ∷ later.0)

second_of : {X : Type 0} (xs : List X) (x y : X) (ys all : List X) (later : GoesOn ys all) → ys ≡ (xs ++ (x ∷ [])) ++ (y ∷ []) → all ≡ (xs ++ (x ∷ [])) ++ (y ∷ later.0)
second_of xs x y ys all later is = later.1 ∙ ap (λ l. l ++ later.0) is ∙ append_assoc (xs ++ (x ∷ [])) (y ∷ []) later.0

-- ---- steps

origin_number : (names later : List (List ℕ)) (name : List ℕ) → names ≡ origin_name ∷ later → is_origin name ≡ true → number_of names name ≡ Some 0
origin_number names later name is origin =
    ap (λ (ns : List (List ℕ)). number_of ns name) is
    ∙ position_at (bytes_eq name) (origin_name ∷ later) 0 [] (omega arith) (λ k inside. absurd (omega (arith, inside))) origin

-- a step is declared once
abbrev pub NameOnce : Type 0
NameOnce = (n : ℕ) (s : PlanStep) (b a : Declared) → declare_step n s b ≡ Ok a → is_origin s.name ≡ false → number_of b.names s.name ≡ None

step_by : NameOnce → (by : Bool) (i t : ℕ) (s : PlanStep) (b a d : Declared) (m l k : Meaning) (label : Label) → is_origin s.name ≡ by → IsInOrder b → length b.names ≡ length m.labels + 1
    → declare_step i s b ≡ Ok a → (if by then record b { origin = Some (step_observation s.observed) } else with_point s.name false (step_observation s.observed) b).names ≡ a.names
    → (if by then record b { origin = Some (step_observation s.observed) } else with_point s.name false (step_observation s.observed) b).observes ≡ a.observes
    → (if by then record b { origin = Some (step_observation s.observed) } else with_point s.name false (step_observation s.observed) b).origin ≡ a.origin
    → label_meant i d s.label ≡ Ok label → (if by then record m { origin_label = label } else record m { labels = m.labels ++ (label ∷ []) }) ≡ l → IsLater a d l k
    → IsStepMeant i d (plan_parts t d k) s
step_by once true i t s b a d m l k label is order labelled e names observes origin label_is meant later =
    let kept = later.origin (step_observation s.observed) (sym origin) in
    let first : d.names ≡ origin_name ∷ (order.later ++ later.names.0) = later.names.1 ∙ ap (λ (ns : List (List ℕ)). ns ++ later.names.0) (sym names ∙ order.first) in
    record {
      x = 0;
      x_is = origin_number d.names (order.later ++ later.names.0) s.name first is;
      observes = ap or_nothing kept.0;
      label_is = label_is ∙ ap Ok (sym (kept.1 ∙ ap (λ (y : Meaning). y.origin_label) (sym meant)));
    }
step_by once false i t s b a d m l k label is order labelled e names observes origin label_is meant later =
    let x : ℕ = length b.names in
    let named : d.names ≡ b.names ++ (s.name ∷ later.names.0) = one_more b.names s.name a.names d.names later.names (sym names) in
    record {
      x = x;
      x_is = ap (λ (ns : List (List ℕ)). number_of ns s.name) named ∙ number_put b.names s.name later.names.0 (once i s b a e is);
      observes = behind (or_nothing d.origin) b.observes (step_observation s.observed) later.observes.0 d.observes x None order.each
          (one_more b.observes (step_observation s.observed) a.observes d.observes later.observes (sym observes));
      label_is = label_is ∙ ap Ok (sym (behind k.origin_label m.labels label later.labels.0 k.labels x empty labelled
          (one_more m.labels label l.labels k.labels later.labels (ap (λ (y : Meaning). y.labels) (sym meant)))));
    }

pub step_meant : NameOnce → (i t : ℕ) (s : PlanStep) (b a d : Declared) (m l k : Meaning) → IsInOrder b → length b.names ≡ length m.labels + 1
    → declare_step i s b ≡ Ok a → mean_step i d s m ≡ Ok l → IsLater a d l k → IsStepMeant i d (plan_parts t d k) s
step_meant once i t s b a d m l k order labelled e f later =
    let h = step_declared i s b a e in
    let g = bind_ok (label_meant i d s.label) (λ label. Ok (with_label s.name label m)) l f in
    step_by once (is_origin s.name) i t s b a d m l k g.0 refl order labelled e (put_names (is_origin s.name) h.0 ∙ ap (λ (y : Declared). y.names) h.1)
    (put_observes (is_origin s.name) h.0 ∙ ap (λ (y : Declared). y.observes) h.1) (put_origin (is_origin s.name) h.0 ∙ ap (λ (y : Declared). y.origin) h.1)
    g.1 (ok_is (with_label s.name g.0 m) l g.2) later
  where
    put_names : (by : Bool) (words : List Meant) → (if by then record b { origin = Some (step_observation s.observed) } else with_point s.name false (step_observation s.observed) b).names
        ≡ (if by then record b { words = words; origin = Some (step_observation s.observed) } else with_point s.name false (step_observation s.observed) (record b { words = words })).names
    put_names true words = refl
    put_names false words = refl

    put_observes : (by : Bool) (words : List Meant) → (if by then record b { origin = Some (step_observation s.observed) } else with_point s.name false (step_observation s.observed) b).observes
        ≡ (if by then record b { words = words; origin = Some (step_observation s.observed) } else with_point s.name false (step_observation s.observed) (record b { words = words })).observes
    put_observes true words = refl
    put_observes false words = refl

    put_origin : (by : Bool) (words : List Meant) → (if by then record b { origin = Some (step_observation s.observed) } else with_point s.name false (step_observation s.observed) b).origin
        ≡ (if by then record b { words = words; origin = Some (step_observation s.observed) } else with_point s.name false (step_observation s.observed) (record b { words = words })).origin
    put_origin true words = refl
    put_origin false words = refl

-- ---- tasks

pub task_meant : (i t : ℕ) (s : PlanStep) (r : Range) (b a d : Declared) (m l k : Meaning) → IsInOrder b → length b.names ≡ length m.labels + 1
    → declare_task i s b ≡ Ok a → mean_task i d s r m ≡ Ok l → IsLater a d l k → IsTaskMeant i d (plan_parts t d k) s
task_meant i t s r b a d m l k order labelled e f later =
    let h = task_declared i s b a e in
    let g : IsTask i d s r m l = task_steps i d s r m l f in
    let x : ℕ = length b.names in
    let seen : Option Observation = step_observation s.observed in
    let names : a.names ≡ (b.names ++ (s.name ∷ [])) ++ (end_name s.name ∷ []) = ap (λ (y : Declared). y.names) (sym h.1) in
    let begins : a.begins_task ≡ (b.begins_task ++ (true ∷ [])) ++ (false ∷ []) = ap (λ (y : Declared). y.begins_task) (sym h.1) in
    let observes : a.observes ≡ (b.observes ++ (None ∷ [])) ++ (seen ∷ []) = ap (λ (y : Declared). y.observes) (sym h.1) in
    let labels : l.labels ≡ (m.labels ++ (g.label ∷ [])) ++ (g.label ∷ []) = ap (λ (y : Meaning). y.labels) (sym g.meaning_is) in
    let numbers = task_numbers i s b a later.names.0 d.names e (later.names.1 ∙ ap (λ (ns : List (List ℕ)). ns ++ later.names.0) names) in
    let more_observes : x + 1 ≡ length (b.observes ++ (None ∷ [])) + 1 = omega (arith, order.each, length-append b.observes (None ∷ [])) in
    let more_labels : x + 1 ≡ length (m.labels ++ (g.label ∷ [])) + 1 = omega (arith, labelled, length-append m.labels (g.label ∷ [])) in
    record {
      first = x;
      starts = record {
        number = numbers.0;
        begins = at_place b.begins_task true (false ∷ later.begins.0) d.begins_task x false (sym order.as_many) (first_of b.begins_task true false a.begins_task d.begins_task later.begins begins);
      };
      first_is = numbers.0;
      last_is = numbers.1;
      first_observes = behind (or_nothing d.origin) b.observes None (seen ∷ later.observes.0) d.observes x None order.each (first_of b.observes None seen a.observes d.observes later.observes observes);
      last_observes = behind (or_nothing d.origin) (b.observes ++ (None ∷ [])) seen later.observes.0 d.observes (x + 1) None more_observes (second_of b.observes None seen a.observes d.observes later.observes observes);
      first_label_is = g.label_is ∙ ap Ok (sym (behind k.origin_label m.labels g.label (g.label ∷ later.labels.0) k.labels x empty labelled (first_of m.labels g.label g.label l.labels k.labels later.labels labels)));
      last_label_is = g.label_is ∙ ap Ok (sym (behind k.origin_label (m.labels ++ (g.label ∷ [])) g.label later.labels.0 k.labels (x + 1) empty more_labels (second_of m.labels g.label g.label l.labels k.labels later.labels labels)));
    }
