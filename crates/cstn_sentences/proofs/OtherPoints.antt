-- Each time-point but the origin is of a line.
use Rattle.std.proofs.Common.{◌≡◌, ◌⊎◌, inl, inr, ℕ, ◌+◌, ◌<◌, Bool, true, false, List, [], ◌∷◌, ◌++◌, length, refl, ap, sym, ◌∙◌, subst, arith, Option, Some, None, Ok}
use Rattle.std.specs.Prelude.{is_none, if◌then◌else◌, codes}
use Rattle.std.proofs.lemmas.Bool.{cases_lt}
use Rattle.std.proofs.lemmas.List.{length-append, append_assoc}
use Rattle.cstn_text.specs.Names.{number_of}
use Rattle.cstn_graphml.specs.DrawnGraph.{Observation}
use Rattle.cstn_sentences.specs.Results.{holds_or}
use Rattle.cstn_sentences.specs.Refusals.{stands_twice}
use Rattle.cstn_sentences.specs.Lines.{PlanLine, nothing, deadline, start, step, task, rule}
use Rattle.cstn_sentences.specs.Judged.{line_of_text}
use Rattle.cstn_sentences.specs.Declarations.{Declared, is_origin, end_name, step_observation, are_new_literals, with_point, declare, declared_line, declared_after}
use Rattle.cstn_sentences.proofs.Accepted.{bind_ok, ok_is}
use Rattle.cstn_sentences.proofs.DeclaredInOrder.{step_declared, task_declared}
use Rattle.cstn_sentences.proofs.PlanInOrder.{lines_grow}
use Rattle.cstn_sentences.proofs.PutNames.{number_put, task_numbers}
use Rattle.cstn_sentences.proofs.LaterLines.{GoesOn}
use Rattle.cstn_sentences.proofs.PointsMeant.{NameOnce}

-- the number is that of a name of the line
abbrev pub HasNumber : List (List ℕ) → PlanLine → ℕ → Type 0
HasNumber names nothing x = ⊥
HasNumber names (deadline t) x = ⊥
HasNumber names (start t) x = ⊥
HasNumber names (step s) x = number_of names s.name ≡ Some x
HasNumber names (task s r) x = (number_of names s.name ≡ Some x) ⊎ (number_of names (end_name s.name) ≡ Some x)
HasNumber names (rule r) x = ⊥

same_names : (b a : Declared) (x : ℕ) (P : Type 0) → b.names ≡ a.names → x < length a.names → (x < length b.names) ⊎ P
same_names b a x P e inside = inl (subst (λ (ns : List (List ℕ)). x < length ns) (sym e) inside)

step_by : (by : Bool) (b a : Declared) (name : List ℕ) (observed : Option Observation) (more all : List (List ℕ)) (x : ℕ) → (by ≡ false → number_of b.names name ≡ None)
    → (if by then record b { origin = Some observed } else with_point name false observed b).names ≡ a.names → all ≡ a.names ++ more → x < length a.names
    → (x < length b.names) ⊎ (number_of all name ≡ Some x)
step_by true b a name observed more all x new put grown inside = same_names b a x (number_of all name ≡ Some x) put inside
step_by false b a name observed more all x new put grown inside = elim (cases_lt x (length b.names)) [
  | inl before ↦ inl before
  | inr behind ↦
      let last : length b.names ≡ x = omega (arith, inside, behind, ap length put, length-append b.names (name ∷ [])) in
      let is : all ≡ b.names ++ (name ∷ more) = grown ∙ ap (λ (ns : List (List ℕ)). ns ++ more) (sym put) ∙ append_assoc b.names (name ∷ []) more in
      inr (ap (λ (ns : List (List ℕ)). number_of ns name) is ∙ number_put b.names name more (new refl) ∙ ap Some last)
]

line_numbers : NameOnce → (n : ℕ) (l : PlanLine) (b a : Declared) (all : List (List ℕ)) (x : ℕ) → declare n b l ≡ Ok a → GoesOn a.names all → x < length a.names → (x < length b.names) ⊎ HasNumber all l x
line_numbers once n nothing b a all x e grown inside = same_names b a x ⊥ (ap (λ (y : Declared). y.names) (ok_is b a e)) inside
line_numbers once n (deadline t) b a all x e grown inside =
    let h = bind_ok (holds_or (is_none b.deadline) (stands_twice n (codes "deadline"))) (λ first. Ok (record b { deadline = Some t })) a e in
    same_names b a x ⊥ (ap (λ (y : Declared). y.names) (ok_is (record b { deadline = Some t }) a h.2)) inside
line_numbers once n (start t) b a all x e grown inside =
    let h = bind_ok (holds_or (is_none b.start) (stands_twice n (codes "start"))) (λ first. Ok (record b { start = Some t.ticks })) a e in
    same_names b a x ⊥ (ap (λ (y : Declared). y.names) (ok_is (record b { start = Some t.ticks }) a h.2)) inside
line_numbers once n (step s) b a all x e grown inside =
    let h = step_declared n s b a e in
    step_by (is_origin s.name) (record b { words = h.0 }) a s.name (step_observation s.observed) grown.0 all x (once n s b a e) (ap (λ (y : Declared). y.names) h.1) grown.1 inside
line_numbers once n (task s r) b a all x e grown inside =
    let h = task_declared n s b a e in
    let names : a.names ≡ (b.names ++ (s.name ∷ [])) ++ (end_name s.name ∷ []) = ap (λ (y : Declared). y.names) (sym h.1) in
    let numbers = task_numbers n s b a grown.0 all e (grown.1 ∙ ap (λ (ns : List (List ℕ)). ns ++ grown.0) names) in
    elim (cases_lt x (length b.names)) [
      | inl before ↦ inl before
      | inr behind ↦ elim (cases_lt (length b.names) x) [
        | inl later ↦
            let last : length b.names + 1 ≡ x = omega (arith, inside, later, ap length names, length-append (b.names ++ (s.name ∷ [])) (end_name s.name ∷ []), length-append b.names (s.name ∷ [])) in
            inr (inr (numbers.1 ∙ ap Some last))
        | inr not_later ↦ let first : length b.names ≡ x = omega (arith, behind, not_later) in inr (inl (numbers.0 ∙ ap Some first))
      ]
    ]
line_numbers once n (rule r) b a all x e grown inside =
    let h = bind_ok (are_new_literals n [] r.label) (λ new. Ok b) a e in
    same_names b a x ⊥ (ap (λ (y : Declared). y.names) (ok_is b a h.2)) inside

-- a line of these, of which the first is number n, has the number
pub record IsNumbered (n : ℕ) (lines names : List (List ℕ)) (x : ℕ) : Type 0 where
  pub before : List (List ℕ)
  pub text : List ℕ
  pub after : List (List ℕ)
  pub split : lines ≡ before ++ (text ∷ after)
  pub line : PlanLine
  pub line_is : line_of_text (n + length before) text ≡ Ok line
  pub there : HasNumber names line x

one_later : (n : ℕ) (line : List ℕ) (lines names : List (List ℕ)) (x : ℕ) → IsNumbered (n + 1) lines names x → IsNumbered n (line ∷ lines) names x
one_later n line lines names x h =
    let number : (n + 1) + length h.before ≡ n + length (line ∷ h.before) = omega arith in
    record {
      before = line ∷ h.before;
      text = h.text;
      after = h.after;
      split = ap (λ (ls : List (List ℕ)). line ∷ ls) h.split;
      line = h.line;
      line_is = subst (λ i. line_of_text i h.text ≡ Ok h.line) number h.line_is;
      there = h.there;
    }

pub numbered_by : NameOnce → (lines : List (List ℕ)) (n : ℕ) (b d : Declared) (x : ℕ) → declared_after n b lines ≡ Ok d → x < length d.names → (x < length b.names) ⊎ IsNumbered n lines d.names x
unfolding declared_after
numbered_by once [] n b d x e inside = same_names b d x (IsNumbered n [] d.names x) (ap (λ (y : Declared). y.names) (ok_is b d e)) inside
numbered_by once (line ∷ lines) n b d x e inside =
    let p = bind_ok (declared_line n b line) (λ more. declared_after (n + 1) more lines) d e in
    let q = bind_ok (line_of_text n line) (declare n b) p.0 p.1 in
    let number : n ≡ n + length {A = List ℕ} [] = omega arith in
    elim (numbered_by once lines (n + 1) p.0 d x p.2 inside) [
      | inr later ↦ inr (one_later n line lines d.names x later)
      | inl here ↦ elim (line_numbers once n q.0 b p.0 d.names x q.2 (lines_grow (n + 1) lines p.0 d p.2) here) [
        | inl before ↦ inl before
        | inr there ↦ inr (record {
          before = [];
          text = line;
          after = lines;
          split = refl;
          line = q.0;
          line_is = subst (λ i. line_of_text i line ≡ Ok q.0) number q.1;
          there = there;
        })
      ]
    ]
