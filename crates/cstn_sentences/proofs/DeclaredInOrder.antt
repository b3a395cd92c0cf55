-- What the lines declare is in order: the origin's name stands first, what stands after it is as long as the names, a task has its
-- end, and what is observed has a letter and a reaction in range.
use Rattle.std.proofs.Common.{◌≡◌, ℕ, zero, suc, ◌+◌, ◌≤◌, ◌<◌, Bool, true, false, List, [], ◌∷◌, ◌++◌, length, refl, ap, subst, ◌∙◌, arith, Option, Some, None, Result, Ok, ◌⊎◌, inl, inr}
use Rattle.std.specs.Prelude.{◌&&◌, not, nat_lt, nat_le, nat_abs, option_map, is_none, if◌then◌else◌, codes, slice_index_or}
use Rattle.std.specs.List.{All, list_all}
use Rattle.std.proofs.lemmas.List.{length-append}
use Rattle.std.proofs.lemmas.Bool.{and_parts}
use Rattle.std.proofs.lemmas.List.Elements.{All-nil, All-push}
use Rattle.cstn_net.specs.Limits.{most_reaction}
use Rattle.cstn_label.specs.Letters.{prop_of}
use Rattle.cstn_label.proofs.LetterLemmas.{prop_small}
use Rattle.cstn_graphml.specs.DrawnGraph.{Observation, origin_name}
use Rattle.cstn_graphml.specs.DrawnGraphLaws.{IsWithReaction, IsLettered}
use Rattle.cstn_graphml.specs.Document.{or_nothing}
use Rattle.cstn_sentences.specs.declared.lines.Observed.{Observed}
use Rattle.cstn_sentences.specs.declared.declarations.Meant.{Meant}
use Rattle.cstn_sentences.specs.Results.{◌>>?◌, holds_or}
use Rattle.cstn_sentences.specs.Refusals.{PlanRefusal, wrong_word, out_of_range, stands_twice}
use Rattle.cstn_sentences.specs.Words.{words_of, is_of_words}
use Rattle.cstn_sentences.specs.Lines.{PlanStep, PlanLine, nothing, deadline, start, step, task, rule}
use Rattle.cstn_sentences.specs.Grammar.{plan_line_read}
use Rattle.cstn_sentences.specs.Judged.{is_range, is_timely, is_line_in_range, at_word, line_of_text}
use Rattle.cstn_sentences.specs.Declarations.{Declared, nothing_declared, is_declared, is_origin, end_name, step_observation, are_new_literals, words_with, with_point, with_step, is_task, declare_step, declare_task, declare, declared_line, declared_after}
use Rattle.cstn_sentences.proofs.Accepted.{bind_ok, ok_is, demanded}

pub record IsInOrder (d : Declared) : Type 0 where
  pub later : List (List ℕ)
  pub first : d.names ≡ origin_name ∷ later
  pub each : length d.names ≡ length d.observes + 1
  pub as_many : length d.begins_task ≡ length d.names
  pub has_end : (k : ℕ) → slice_index_or d.begins_task k false ≡ true → k + 1 < length d.names
  pub origin_timely : IsWithReaction (or_nothing d.origin)
  pub timely : All IsWithReaction d.observes
  pub origin_lettered : IsLettered (or_nothing d.origin)
  pub lettered : All IsLettered d.observes

-- ---- what is observed

in_reach : (ticks : ℕ) → (nat_lt 0 ticks && nat_le ticks most_reaction) ≡ true → (0 < ticks) × (ticks ≤ most_reaction)
in_reach ticks h = (grind arith, grind arith)

timely_by : (prop : Option ℕ) (ticks : ℕ) → (nat_lt 0 ticks && nat_le ticks most_reaction) ≡ true → IsWithReaction (option_map (λ p. record { prop = p; reaction = ticks }) prop)
timely_by None ticks h = tt
timely_by (Some p) ticks h = in_reach ticks h

timely : (observed : Option Observed) → is_timely observed ≡ true → IsWithReaction (step_observation observed)
timely None h = tt
timely (Some o) h = timely_by (prop_of o.letter) (nat_abs o.reaction.ticks) h

lettered_by : (prop : Option ℕ) (ticks : ℕ) → ((p : ℕ) → prop ≡ Some p → p < 52) → IsLettered (option_map (λ p. record { prop = p; reaction = ticks }) prop)
lettered_by None ticks small = tt
lettered_by (Some p) ticks small = small p refl

lettered : (observed : Option Observed) → IsLettered (step_observation observed)
lettered None = tt
lettered (Some o) = lettered_by (prop_of o.letter) (nat_abs o.reaction.ticks) (λ p e. prop_small o.letter p e)

-- ---- which time-points begin a task

pushed : (bs : List Bool) (b : Bool) (k : ℕ) → slice_index_or (bs ++ (b ∷ [])) k false ≡ true → (slice_index_or bs k false ≡ true) ⊎ ((k ≡ length bs) × (b ≡ true))
pushed [] b zero e = inr (refl, e)
pushed [] b (suc k) e = absurd (cc)
pushed (x ∷ bs) b zero e = inl e
pushed (x ∷ bs) b (suc k) e = elim (pushed bs b k e) [
  | inl h ↦ inl h
  | inr h ↦ inr (ap suc h.0, h.1)
]

step_ends : (bs : List Bool) (n m : ℕ) → ((k : ℕ) → slice_index_or bs k false ≡ true → k + 1 < n) → m ≡ n + 1 → (k : ℕ) → slice_index_or (bs ++ (false ∷ [])) k false ≡ true → k + 1 < m
step_ends bs n m h more k e = elim (pushed bs false k e) [
  | inl there ↦ omega (arith, h k there, more)
  | inr last ↦ absurd (let wrong = last.1 in cc)
]

task_ends : (bs : List Bool) (n m : ℕ) → length bs ≡ n → ((k : ℕ) → slice_index_or bs k false ≡ true → k + 1 < n) → m ≡ n + 2 → (k : ℕ)
    → slice_index_or ((bs ++ (true ∷ [])) ++ (false ∷ [])) k false ≡ true → k + 1 < m
task_ends bs n m as_many h more k e = elim (pushed (bs ++ (true ∷ [])) false k e) [
  | inl there ↦ elim (pushed bs true k there) [
    | inl before ↦ omega (arith, h k before, more)
    | inr last ↦ omega (arith, last.0, as_many, more)
  ]
  | inr last ↦ absurd (let wrong = last.1 in cc)
]

-- ---- steps and tasks

worded : (d : Declared) (words : List Meant) → IsInOrder d → IsInOrder (record d { words = words })
worded d words h = record {
  later = h.later;
  first = h.first;
  each = h.each;
  as_many = h.as_many;
  has_end = h.has_end;
  origin_timely = h.origin_timely;
  timely = h.timely;
  origin_lettered = h.origin_lettered;
  lettered = h.lettered;
}

origin_kept : (d : Declared) (observed : Option Observation) → IsInOrder d → IsWithReaction observed → IsLettered observed → IsInOrder (record d { origin = Some observed })
origin_kept d observed h t l = record {
  later = h.later;
  first = h.first;
  each = h.each;
  as_many = h.as_many;
  has_end = h.has_end;
  origin_timely = t;
  timely = h.timely;
  origin_lettered = l;
  lettered = h.lettered;
}

point_kept : (d : Declared) (name : List ℕ) (observed : Option Observation) → IsInOrder d → IsWithReaction observed → IsLettered observed → IsInOrder (with_point name false observed d)
point_kept d name observed h t l =
    let names = length-append d.names (name ∷ []) in
    let observes = length-append d.observes (observed ∷ []) in
    let begins = length-append d.begins_task (false ∷ []) in
    record {
      later = h.later ++ (name ∷ []);
      first = ap (λ (ns : List (List ℕ)). ns ++ (name ∷ [])) h.first;
      each = omega (arith, names, observes, h.each);
      as_many = omega (arith, names, begins, h.as_many);
      has_end = step_ends d.begins_task (length d.names) (length (d.names ++ (name ∷ []))) h.has_end names;
      origin_timely = h.origin_timely;
      timely = All-push IsWithReaction d.observes observed h.timely t;
      origin_lettered = h.origin_lettered;
      lettered = All-push IsLettered d.observes observed h.lettered l;
    }

task_kept : (d : Declared) (name last : List ℕ) (observed : Option Observation) → IsInOrder d → IsWithReaction observed → IsLettered observed
    → IsInOrder (with_point last false observed (with_point name true None d))
task_kept d name last observed h t l =
    let names = length-append d.names (name ∷ []) in
    let more_names = length-append (d.names ++ (name ∷ [])) (last ∷ []) in
    let observes = length-append d.observes (None ∷ []) in
    let more_observes = length-append (d.observes ++ (None ∷ [])) (observed ∷ []) in
    let begins = length-append d.begins_task (true ∷ []) in
    let more_begins = length-append (d.begins_task ++ (true ∷ [])) (false ∷ []) in
    record {
      later = (h.later ++ (name ∷ [])) ++ (last ∷ []);
      first = ap (λ (ns : List (List ℕ)). (ns ++ (name ∷ [])) ++ (last ∷ [])) h.first;
      each = omega (arith, names, more_names, observes, more_observes, h.each);
      as_many = omega (arith, names, more_names, begins, more_begins, h.as_many);
      has_end = task_ends d.begins_task (length d.names) (length ((d.names ++ (name ∷ [])) ++ (last ∷ []))) h.as_many h.has_end (omega (arith, names, more_names));
      origin_timely = h.origin_timely;
      timely = All-push IsWithReaction (d.observes ++ (None ∷ [])) observed (All-push IsWithReaction d.observes None h.timely tt) t;
      origin_lettered = h.origin_lettered;
      lettered = All-push IsLettered (d.observes ++ (None ∷ [])) observed (All-push IsLettered d.observes None h.lettered tt) l;
    }

step_by : (b : Bool) (d : Declared) (name : List ℕ) (observed : Option Observation) → IsInOrder d → IsWithReaction observed → IsLettered observed
    → IsInOrder (if b then record d { origin = Some observed } else with_point name false observed d)
step_by true d name observed h t l = origin_kept d observed h t l
step_by false d name observed h t l = point_kept d name observed h t l

-- ---- lines

-- what a step and a task declare
pub step_declared : (n : ℕ) (s : PlanStep) (d e : Declared) → declare_step n s d ≡ Ok e
    → (words : List Meant) × (with_step s.name (step_observation s.observed) (record d { words = words }) ≡ e)
step_declared n s d e h =
    let a = bind_ok (holds_or (not (is_declared s.name d)) (stands_twice n s.name)) (λ new. words_with n s d.words >>? λ words. Ok (with_step s.name (step_observation s.observed) (record d { words = words }))) e h in
    let b = bind_ok (words_with n s d.words) (λ words. Ok (with_step s.name (step_observation s.observed) (record d { words = words }))) e a.2 in
    (b.0, ok_is (with_step s.name (step_observation s.observed) (record d { words = b.0 })) e b.2)

pub task_declared : (n : ℕ) (s : PlanStep) (d e : Declared) → declare_task n s d ≡ Ok e
    → (words : List Meant) × (with_point (end_name s.name) false (step_observation s.observed) (with_point s.name true None (record d { words = words })) ≡ e)
task_declared n s d e h =
    let done : List Meant → Result Declared PlanRefusal = λ words. Ok (with_point (end_name s.name) false (step_observation s.observed) (with_point s.name true None (record d { words = words }))) in
    let a = bind_ok (is_task n s.name d) (λ named. words_with n s d.words >>? done) e h in
    let b = bind_ok (words_with n s d.words) done e a.2 in
    (b.0, ok_is (with_point (end_name s.name) false (step_observation s.observed) (with_point s.name true None (record d { words = b.0 }))) e b.2)

-- the line of a text has its numbers in range
pub numbered_line : (n : ℕ) (text : List ℕ) (l : PlanLine) → line_of_text n text ≡ Ok l → is_line_in_range l ≡ true
numbered_line n text l e =
    let judged : PlanLine → Result PlanLine PlanRefusal = λ line. holds_or (is_line_in_range line) (out_of_range n) >>? λ numbered. Ok line in
    let a = bind_ok (holds_or (is_of_words text) (wrong_word n 0)) (λ whole. at_word n (words_of text) (plan_line_read (words_of text)) >>? judged) l e in
    let b = bind_ok (at_word n (words_of text) (plan_line_read (words_of text))) judged l a.2 in
    let c = bind_ok (holds_or (is_line_in_range b.0) (out_of_range n)) (λ numbered. Ok b.0) l b.2 in
    subst (λ (x : PlanLine). is_line_in_range x ≡ true) (ok_is b.0 l c.2) (demanded (is_line_in_range b.0) (out_of_range n) c.0 c.1)

line_kept : (n : ℕ) (l : PlanLine) (d e : Declared) → IsInOrder d → is_line_in_range l ≡ true → declare n d l ≡ Ok e → IsInOrder e
line_kept n nothing d e h numbered k = subst IsInOrder (ok_is d e k) h
line_kept n (deadline t) d e h numbered k =
    let a = bind_ok (holds_or (is_none d.deadline) (stands_twice n (codes "deadline"))) (λ first. Ok (record d { deadline = Some t })) e k in
    subst IsInOrder (ok_is (record d { deadline = Some t }) e a.2) (record { later = h.later; first = h.first; each = h.each; as_many = h.as_many; has_end = h.has_end; origin_timely = h.origin_timely; timely = h.timely; origin_lettered = h.origin_lettered; lettered = h.lettered })
line_kept n (start t) d e h numbered k =
    let a = bind_ok (holds_or (is_none d.start) (stands_twice n (codes "start"))) (λ first. Ok (record d { start = Some t.ticks })) e k in
    subst IsInOrder (ok_is (record d { start = Some t.ticks }) e a.2) (record { later = h.later; first = h.first; each = h.each; as_many = h.as_many; has_end = h.has_end; origin_timely = h.origin_timely; timely = h.timely; origin_lettered = h.origin_lettered; lettered = h.lettered })
line_kept n (step s) d e h numbered k =
    let a = step_declared n s d e k in
    subst IsInOrder a.1 (step_by (is_origin s.name) (record d { words = a.0 }) s.name (step_observation s.observed) (worded d a.0 h) (timely s.observed numbered) (lettered s.observed))
line_kept n (task s r) d e h numbered k =
    let a = task_declared n s d e k in
    subst IsInOrder a.1
    (task_kept (record d { words = a.0 }) s.name (end_name s.name) (step_observation s.observed) (worded d a.0 h) (timely s.observed (and_parts (is_range r) (is_timely s.observed) numbered).1) (lettered s.observed))
line_kept n (rule r) d e h numbered k =
    let a = bind_ok (are_new_literals n [] r.label) (λ new. Ok d) e k in
    subst IsInOrder (ok_is d e a.2) h

pub nothing_in_order : IsInOrder nothing_declared
nothing_in_order = record {
  later = [];
  first = refl;
  each = refl;
  as_many = refl;
  has_end = none_begins;
  origin_timely = tt;
  timely = All-nil IsWithReaction;
  origin_lettered = tt;
  lettered = All-nil IsLettered;
}
  where
    none_begins : (k : ℕ) → slice_index_or (false ∷ []) k false ≡ true → k + 1 < 1
    none_begins zero e = absurd (cc)
    none_begins (suc k) e = absurd (cc)

pub text_kept : (n : ℕ) (text : List ℕ) (d e : Declared) → IsInOrder d → declared_line n d text ≡ Ok e → IsInOrder e
text_kept n text d e h k =
    let a = bind_ok (line_of_text n text) (declare n d) e k in
    line_kept n a.0 d e h (numbered_line n text a.0 a.1) a.2

pub lines_kept : (n : ℕ) (lines : List (List ℕ)) (d e : Declared) → IsInOrder d → declared_after n d lines ≡ Ok e → IsInOrder e
unfolding declared_after
lines_kept n [] d e h k = subst IsInOrder (ok_is d e k) h
lines_kept n (line ∷ lines) d e h k =
    let a = bind_ok (declared_line n d line) (λ more. declared_after (n + 1) more lines) e k in
    lines_kept (n + 1) lines a.0 e (text_kept n line d a.0 h a.1) a.2

-- each line of a plan whose lines were read is of words
text_of_words : (n : ℕ) (text : List ℕ) (l : PlanLine) → line_of_text n text ≡ Ok l → is_of_words text ≡ true
text_of_words n text l e =
    let judged : PlanLine → Result PlanLine PlanRefusal = λ line. holds_or (is_line_in_range line) (out_of_range n) >>? λ numbered. Ok line in
    let a = bind_ok (holds_or (is_of_words text) (wrong_word n 0)) (λ whole. at_word n (words_of text) (plan_line_read (words_of text)) >>? judged) l e in
    demanded (is_of_words text) (wrong_word n 0) a.0 a.1

pub lines_of_words : (n : ℕ) (lines : List (List ℕ)) (d e : Declared) → declared_after n d lines ≡ Ok e → list_all is_of_words lines ≡ true
unfolding declared_after
lines_of_words n [] d e k = refl
lines_of_words n (line ∷ lines) d e k =
    let a = bind_ok (declared_line n d line) (λ more. declared_after (n + 1) more lines) e k in
    let l = bind_ok (line_of_text n line) (declare n d) a.0 a.1 in
    ap (λ (b : Bool). b && list_all is_of_words lines) (text_of_words n line l.0 l.1) ∙ lines_of_words (n + 1) lines a.0 e a.2
