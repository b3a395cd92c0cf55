-- What a line declares and means stays, whatever lines come later.
use Rattle.std.proofs.Common.{◌≡◌, ℕ, ◌+◌, Bool, true, false, List, [], ◌∷◌, ◌++◌, length, refl, ap, sym, ◌∙◌, subst, arith, Option, Some, None, Ok}
use Rattle.std.specs.Prelude.{is_none, if◌then◌else◌, flat_map, codes, pos, ℤ}
use Rattle.std.proofs.lemmas.List.{length-append, append_assoc, append-nil}
use Rattle.cstn_label.specs.Labels.{Label, empty}
use Rattle.cstn_graphml.specs.DrawnGraph.{Observation, DrawnConstraint}
use Rattle.cstn_sentences.specs.declared.lines.Says.TheVariants.{Between}
use Rattle.cstn_sentences.specs.declared.lines.Span.{Span}
use Rattle.cstn_sentences.specs.declared.declarations.Meant.{Meant}
use Rattle.cstn_sentences.specs.Results.{holds_or}
use Rattle.cstn_sentences.specs.Refusals.{stands_twice}
use Rattle.cstn_sentences.specs.Lines.{PlanStep, PlanLine, nothing, deadline, start, step, task, rule}
use Rattle.cstn_sentences.specs.Judged.{line_of_text}
use Rattle.cstn_sentences.specs.Declarations.{Declared, declare_step, is_origin, end_name, step_observation, are_new_literals, with_point, with_step, declare, declared_line, declared_after}
use Rattle.cstn_sentences.specs.Meaning.{Meaning, label_meant, bounds_of, since_origin, constraints_of, with_rule, with_label, with_task_labels, mean, meant_line, meant_after}
use Rattle.cstn_sentences.proofs.Accepted.{bind_ok, ok_is, demanded}
use Rattle.cstn_sentences.proofs.DeclaredInOrder.{IsInOrder, step_declared, task_declared, text_kept}
use Rattle.cstn_sentences.proofs.MeantForms.{IsRule, rule_steps, IsTask, task_steps}

-- a list that goes on behind another one
abbrev pub GoesOn : {X : Type 0} → List X → List X → Type 0
GoesOn {X} xs ys = (more : List X) × (ys ≡ xs ++ more)

all_of : {X : Type 0} (xs : List X) → GoesOn xs xs
all_of xs = ([], sym (append-nil xs))

farther : {X : Type 0} (xs ys zs : List X) → GoesOn xs ys → GoesOn ys zs → GoesOn xs zs
farther xs ys zs f g = (f.0 ++ g.0, g.1 ∙ ap (λ l. l ++ g.0) f.1 ∙ append_assoc xs f.0 g.0)

-- what was declared and meant is there later, in its place
pub record IsLater (b a : Declared) (m k : Meaning) : Type 0 where
  pub names : GoesOn b.names a.names
  pub begins : GoesOn b.begins_task a.begins_task
  pub observes : GoesOn b.observes a.observes
  pub labels : GoesOn m.labels k.labels
  pub constraints : GoesOn m.constraints k.constraints
  pub origin : (o : Option Observation) → b.origin ≡ Some o → (a.origin ≡ Some o) × (k.origin_label ≡ m.origin_label)
  pub deadline : (t : Span) → b.deadline ≡ Some t → a.deadline ≡ Some t
  pub start : (t : ℤ) → b.start ≡ Some t → a.start ≡ Some t

later_still : (a b c : Declared) (k l m : Meaning) → IsLater a b k l → IsLater b c l m → IsLater a c k m
later_still a b c k l m f g = record {
  names = farther a.names b.names c.names f.names g.names;
  begins = farther a.begins_task b.begins_task c.begins_task f.begins g.begins;
  observes = farther a.observes b.observes c.observes f.observes g.observes;
  labels = farther k.labels l.labels m.labels f.labels g.labels;
  constraints = farther k.constraints l.constraints m.constraints f.constraints g.constraints;
  origin = λ o e. let here = f.origin o e in let there = g.origin o here.0 in (there.0, there.1 ∙ here.1);
  deadline = λ t e. g.deadline t (f.deadline t e);
  start = λ t e. g.start t (f.start t e);
}

-- later, by one label more for each name more
abbrev pub IsNext : Declared → Declared → Meaning → Meaning → Type 0
IsNext b a m k = IsLater b a m k × (length a.names + length m.labels ≡ length b.names + length k.labels)

-- ---- lines without a time-point

same_next : (b : Declared) (m : Meaning) → IsNext b b m m
same_next b m = (
  record {
    names = all_of b.names;
    begins = all_of b.begins_task;
    observes = all_of b.observes;
    labels = all_of m.labels;
    constraints = all_of m.constraints;
    origin = λ o e. (e, refl);
    deadline = λ t e. e;
    start = λ t e. e;
  },
  refl,
)

-- ---- steps, tasks and rules

worded : (b a : Declared) (words : List Meant) (m k : Meaning) → IsNext (record b { words = words }) a m k → IsNext b a m k
worded b a words m k h = (
  record {
    names = h.0.names;
    begins = h.0.begins;
    observes = h.0.observes;
    labels = h.0.labels;
    constraints = h.0.constraints;
    origin = h.0.origin;
    deadline = h.0.deadline;
    start = h.0.start;
  },
  h.1,
)

-- a step Z is declared once
abbrev pub OriginOnce : Type 0
OriginOnce = (n : ℕ) (s : PlanStep) (b a : Declared) → declare_step n s b ≡ Ok a → is_origin s.name ≡ true → b.origin ≡ None

step_by : (by : Bool) (b : Declared) (name : List ℕ) (observed : Option Observation) (label : Label) (m : Meaning) → (by ≡ true → b.origin ≡ None)
    → IsNext b (if by then record b { origin = Some observed } else with_point name false observed b) m (if by then record m { origin_label = label } else record m { labels = m.labels ++ (label ∷ []) })
step_by true b name observed label m new = (
  record {
    names = all_of b.names;
    begins = all_of b.begins_task;
    observes = all_of b.observes;
    labels = all_of m.labels;
    constraints = all_of m.constraints;
    origin = λ o e. absurd (let none = new refl in cc);
    deadline = λ t e. e;
    start = λ t e. e;
  },
  refl,
)
step_by false b name observed label m new = (
  record {
    names = (name ∷ [], refl);
    begins = (false ∷ [], refl);
    observes = (observed ∷ [], refl);
    labels = (label ∷ [], refl);
    constraints = all_of m.constraints;
    origin = λ o e. (e, refl);
    deadline = λ t e. e;
    start = λ t e. e;
  },
  omega (arith, length-append b.names (name ∷ []), length-append m.labels (label ∷ [])),
)

task_next : (b : Declared) (name last : List ℕ) (observed : Option Observation) (label : Label) (more : List DrawnConstraint) (m : Meaning)
    → IsNext b (with_point last false observed (with_point name true None b)) m (record (with_task_labels label m) { constraints = m.constraints ++ more })
task_next b name last observed label more m = (
  record {
    names = (name ∷ (last ∷ []), append_assoc b.names (name ∷ []) (last ∷ []));
    begins = (true ∷ (false ∷ []), append_assoc b.begins_task (true ∷ []) (false ∷ []));
    observes = (None ∷ (observed ∷ []), append_assoc b.observes (None ∷ []) (observed ∷ []));
    labels = (label ∷ (label ∷ []), append_assoc m.labels (label ∷ []) (label ∷ []));
    constraints = (more, refl);
    origin = λ o e. (e, refl);
    deadline = λ t e. e;
    start = λ t e. e;
  },
  omega (
    arith,
    length-append (b.names ++ (name ∷ [])) (last ∷ []),
    length-append b.names (name ∷ []),
    length-append (m.labels ++ (label ∷ [])) (label ∷ []),
    length-append m.labels (label ∷ []),
  ),
)

rule_next : (b : Declared) (more : List DrawnConstraint) (m : Meaning) → IsNext b b m (record m { constraints = m.constraints ++ more })
rule_next b more m = (
  record {
    names = all_of b.names;
    begins = all_of b.begins_task;
    observes = all_of b.observes;
    labels = all_of m.labels;
    constraints = (more, refl);
    origin = λ o e. (e, refl);
    deadline = λ t e. e;
    start = λ t e. e;
  },
  refl,
)

-- ---- lines

isnt_none : {X : Type 0} (o : Option X) (x : X) → is_none o ≡ true → o ≡ Some x → ⊥
isnt_none None x none is = absurd (cc)
isnt_none (Some y) x none is = absurd (cc)

line_next : OriginOnce → (n : ℕ) (l : PlanLine) (b a d : Declared) (m k : Meaning) → declare n b l ≡ Ok a → mean n d m l ≡ Ok k → IsNext b a m k
line_next once n nothing b a d m k e f = subst (λ (x : Declared). IsNext b x m k) (ok_is b a e) (subst (IsNext b b m) (ok_is m k f) (same_next b m))
line_next once n (deadline t) b a d m k e f =
    let h = bind_ok (holds_or (is_none b.deadline) (stands_twice n (codes "deadline"))) (λ first. Ok (record b { deadline = Some t })) a e in
    let same = same_next b m in
    subst (λ (x : Declared). IsNext b x m k) (ok_is (record b { deadline = Some t }) a h.2)
    (subst (IsNext b (record b { deadline = Some t }) m) (ok_is m k f) (
      record {
        names = same.0.names;
        begins = same.0.begins;
        observes = same.0.observes;
        labels = same.0.labels;
        constraints = same.0.constraints;
        origin = same.0.origin;
        deadline = λ u is. absurd (isnt_none b.deadline u (demanded (is_none b.deadline) (stands_twice n (codes "deadline")) h.0 h.1) is);
        start = same.0.start;
      },
      refl,
    ))
line_next once n (start t) b a d m k e f =
    let h = bind_ok (holds_or (is_none b.start) (stands_twice n (codes "start"))) (λ first. Ok (record b { start = Some t.ticks })) a e in
    let same = same_next b m in
    subst (λ (x : Declared). IsNext b x m k) (ok_is (record b { start = Some t.ticks }) a h.2)
    (subst (IsNext b (record b { start = Some t.ticks }) m) (ok_is m k f) (
      record {
        names = same.0.names;
        begins = same.0.begins;
        observes = same.0.observes;
        labels = same.0.labels;
        constraints = same.0.constraints;
        origin = same.0.origin;
        deadline = same.0.deadline;
        start = λ u is. absurd (isnt_none b.start u (demanded (is_none b.start) (stands_twice n (codes "start")) h.0 h.1) is);
      },
      refl,
    ))
line_next once n (step s) b a d m k e f =
    let h = step_declared n s b a e in
    let g = bind_ok (label_meant n d s.label) (λ label. Ok (with_label s.name label m)) k f in
    subst (λ (x : Declared). IsNext b x m k) h.1
    (subst (IsNext b (with_step s.name (step_observation s.observed) (record b { words = h.0 })) m) (ok_is (with_label s.name g.0 m) k g.2)
    (worded b (with_step s.name (step_observation s.observed) (record b { words = h.0 })) h.0 m (with_label s.name g.0 m)
    (step_by (is_origin s.name) (record b { words = h.0 }) s.name (step_observation s.observed) g.0 m (once n s b a e))))
line_next once n (task s r) b a d m k e f =
    let h = task_declared n s b a e in
    let g : IsTask n d s r m k = task_steps n d s r m k f in
    let put : Declared = with_point (end_name s.name) false (step_observation s.observed) (with_point s.name true None (record b { words = h.0 })) in
    let meant : Meaning = with_rule (g.first + 1) (bounds_of None (Between r)) empty ((g.first, pos 0) ∷ []) (with_task_labels g.label m) in
    subst (λ (x : Declared). IsNext b x m k) h.1
    (subst (IsNext b put m) g.meaning_is
    (worded b put h.0 m meant
    (task_next (record b { words = h.0 }) s.name (end_name s.name) (step_observation s.observed) g.label
    (flat_map (constraints_of (g.first + 1) (bounds_of None (Between r)) empty) ((g.first, pos 0) ∷ [])) m)))
line_next once n (rule r) b a d m k e f =
    let h = bind_ok (are_new_literals n [] r.label) (λ new. Ok b) a e in
    let g : IsRule n d r m k = rule_steps n d r m k f in
    subst (λ (x : Declared). IsNext b x m k) (ok_is b a h.2)
    (subst (IsNext b b m) g.meaning_is
    (rule_next b (flat_map (constraints_of g.x (bounds_of d.start r.says) g.label) (since_origin r.says g.moments)) m))

-- the lines from number n on
pub lines_later : OriginOnce → (lines : List (List ℕ)) (n : ℕ) (b a d : Declared) (m k : Meaning) → declared_after n b lines ≡ Ok a → meant_after n d m lines ≡ Ok k → IsLater b a m k
unfolding declared_after meant_after
lines_later once [] n b a d m k e f = subst (λ (x : Declared). IsLater b x m k) (ok_is b a e) (subst (IsLater b b m) (ok_is m k f) (same_next b m).0)
lines_later once (line ∷ lines) n b a d m k e f =
    let p = bind_ok (declared_line n b line) (λ more. declared_after (n + 1) more lines) a e in
    let q = bind_ok (line_of_text n line) (declare n b) p.0 p.1 in
    let r = bind_ok (meant_line n d m line) (λ more. meant_after (n + 1) d more lines) k f in
    let s = bind_ok (line_of_text n line) (mean n d m) r.0 r.1 in
    let same : s.0 ≡ q.0 = ok_is s.0 q.0 (sym s.1 ∙ q.1) in
    later_still b p.0 a m r.0 k (line_next once n q.0 b p.0 d m r.0 q.2 (ap (mean n d m) (sym same) ∙ s.2)).0 (lines_later once lines (n + 1) p.0 a d r.0 k p.2 r.2)

-- ---- the line at a place

-- line i is this one, between what was declared and meant before it and after it; the rest is there later
pub record IsAtPlace (i : ℕ) (text : List ℕ) (d : Declared) (k : Meaning) : Type 0 where
  pub line : PlanLine
  pub before : Declared
  pub after : Declared
  pub from : Meaning
  pub to : Meaning
  pub line_is : line_of_text i text ≡ Ok line
  pub declared : declare i before line ≡ Ok after
  pub meant : mean i d from line ≡ Ok to
  pub in_order : IsInOrder before
  pub labelled : length before.names ≡ length from.labels + 1
  pub later : IsLater after d to k

pub line_at : OriginOnce → (before : List (List ℕ)) (text : List ℕ) (after : List (List ℕ)) (n i : ℕ) (b d : Declared) (m k : Meaning) → IsInOrder b → length b.names ≡ length m.labels + 1
    → declared_after n b (before ++ (text ∷ after)) ≡ Ok d → meant_after n d m (before ++ (text ∷ after)) ≡ Ok k → n + length before ≡ i → IsAtPlace i text d k
unfolding declared_after meant_after
line_at once [] text after n i b d m k order labelled e f is =
    let p = bind_ok (declared_line n b text) (λ more. declared_after (n + 1) more after) d e in
    let q = bind_ok (line_of_text n text) (declare n b) p.0 p.1 in
    let r = bind_ok (meant_line n d m text) (λ more. meant_after (n + 1) d more after) k f in
    let s = bind_ok (line_of_text n text) (mean n d m) r.0 r.1 in
    let same : s.0 ≡ q.0 = ok_is s.0 q.0 (sym s.1 ∙ q.1) in
    let number : n ≡ i = omega (arith, is) in
    subst (λ j. IsAtPlace j text d k) number (record {
      line = q.0;
      before = b;
      after = p.0;
      from = m;
      to = r.0;
      line_is = q.1;
      declared = q.2;
      meant = ap (mean n d m) (sym same) ∙ s.2;
      in_order = order;
      labelled = labelled;
      later = lines_later once after (n + 1) p.0 d d r.0 k p.2 r.2;
    })
line_at once (line ∷ before) text after n i b d m k order labelled e f is =
    let p = bind_ok (declared_line n b line) (λ more. declared_after (n + 1) more (before ++ (text ∷ after))) d e in
    let q = bind_ok (line_of_text n line) (declare n b) p.0 p.1 in
    let r = bind_ok (meant_line n d m line) (λ more. meant_after (n + 1) d more (before ++ (text ∷ after))) k f in
    let s = bind_ok (line_of_text n line) (mean n d m) r.0 r.1 in
    let same : s.0 ≡ q.0 = ok_is s.0 q.0 (sym s.1 ∙ q.1) in
    let next = line_next once n q.0 b p.0 d m r.0 q.2 (ap (mean n d m) (sym same) ∙ s.2) in
    let number : (n + 1) + length before ≡ i = omega (arith, is) in
    let more : length p.0.names ≡ length r.0.labels + 1 = omega (arith, labelled, next.1) in
    line_at once before text after (n + 1) i p.0 d r.0 k (text_kept n line b p.0 order p.1) more p.2 r.2 number
