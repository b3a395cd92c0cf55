-- What a rule and a task of a line mean.
use Rattle.std.proofs.Common.{◌≡◌, ℕ, ◌+◌, List, [], ◌∷◌, Some, None, Result, Ok}
use Rattle.std.specs.Prelude.{pos}
use Rattle.std.specs.List.{list_all}
use Rattle.cstn_label.specs.Labels.{Label, empty}
use Rattle.cstn_text.specs.Names.{number_of}
use Rattle.cstn_sentences.specs.declared.bounds.Bounds.{Bounds}
use Rattle.cstn_sentences.specs.declared.lines.Range.{Range}
use Rattle.cstn_sentences.specs.declared.lines.Says.TheVariants.{Between}
use Rattle.cstn_sentences.specs.Results.{◌>>?◌, some_or, holds_or}
use Rattle.cstn_sentences.specs.Refusals.{PlanRefusal, out_of_range, no_name}
use Rattle.cstn_sentences.specs.Lines.{PlanStep, Rule}
use Rattle.cstn_sentences.specs.Declarations.{Declared}
use Rattle.cstn_sentences.specs.Meaning.{Meaning, label_meant, point_in, Moment_after, moments_in, bounds_of, is_of_end, since_origin, are_in_order, are_sized_from, with_rule, mean_rule, with_task_labels, mean_task}
use Rattle.cstn_sentences.proofs.Accepted.{bind_ok, ok_is, given}

pub record IsRule (n : ℕ) (d : Declared) (r : Rule) (m k : Meaning) : Type 0 where
  pub x : ℕ
  pub moments : List Moment_after
  pub label : Label
  pub point_is : point_in n d (is_of_end r.says) r.point ≡ Ok x
  pub moments_are : moments_in n d r.since ≡ Ok moments
  pub label_is : label_meant n d r.label ≡ Ok label
  pub meaning_is : with_rule x (bounds_of d.start r.says) label (since_origin r.says moments) m ≡ k

pub rule_steps : (n : ℕ) (d : Declared) (r : Rule) (m k : Meaning) → mean_rule n d r m ≡ Ok k → IsRule n d r m k
rule_steps n d r m k e =
    let b : Bounds = bounds_of d.start r.says in
    let done : ℕ → List Moment_after → Label → Result Meaning PlanRefusal = λ x ms label. Ok (with_rule x b label (since_origin r.says ms) m) in
    let sized : ℕ → List Moment_after → Label → Result Meaning PlanRefusal =
    λ x ms label. holds_or (list_all (are_sized_from b) (since_origin r.says ms)) (out_of_range n) >>? λ s. done x ms label in
    let x =
    bind_ok (point_in n d (is_of_end r.says) r.point)
    (λ x. holds_or (are_in_order b.least b.most) (out_of_range n) >>? λ ordered. moments_in n d r.since >>? λ ms. label_meant n d r.label >>? λ label. sized x ms label)
    k e in
    let ordered =
    bind_ok (holds_or (are_in_order b.least b.most) (out_of_range n))
    (λ ordered. moments_in n d r.since >>? λ ms. label_meant n d r.label >>? λ label. sized x.0 ms label) k x.2 in
    let ms = bind_ok (moments_in n d r.since) (λ ms. label_meant n d r.label >>? λ label. sized x.0 ms label) k ordered.2 in
    let label = bind_ok (label_meant n d r.label) (λ label. sized x.0 ms.0 label) k ms.2 in
    let fits = bind_ok (holds_or (list_all (are_sized_from b) (since_origin r.says ms.0)) (out_of_range n)) (λ s. done x.0 ms.0 label.0) k label.2 in
    record {
      x = x.0;
      moments = ms.0;
      label = label.0;
      point_is = x.1;
      moments_are = ms.1;
      label_is = label.1;
      meaning_is = ok_is (with_rule x.0 b label.0 (since_origin r.says ms.0) m) k fits.2;
    }

pub record IsTask (n : ℕ) (d : Declared) (s : PlanStep) (r : Range) (m k : Meaning) : Type 0 where
  pub first : ℕ
  pub label : Label
  pub label_is : label_meant n d s.label ≡ Ok label
  pub first_is : number_of d.names s.name ≡ Some first
  pub meaning_is : with_rule (first + 1) (bounds_of None (Between r)) empty ((first, pos 0) ∷ []) (with_task_labels label m) ≡ k

pub task_steps : (n : ℕ) (d : Declared) (s : PlanStep) (r : Range) (m k : Meaning) → mean_task n d s r m ≡ Ok k → IsTask n d s r m k
task_steps n d s r m k e =
    let done : ℕ → Label → Result Meaning PlanRefusal =
    λ x label. Ok (with_rule (x + 1) (bounds_of None (Between r)) empty ((x, pos 0) ∷ []) (with_task_labels label m)) in
    let sized : ℕ → Label → Result Meaning PlanRefusal =
    λ x label. holds_or (list_all (are_sized_from (bounds_of None (Between r))) ((x, pos 0) ∷ [])) (out_of_range n) >>? λ s. done x label in
    let a = bind_ok (label_meant n d s.label) (λ label. some_or (number_of d.names s.name) (no_name n s.name) >>? λ x. sized x label) k e in
    let b = bind_ok (some_or (number_of d.names s.name) (no_name n s.name)) (λ x. sized x a.0) k a.2 in
    let x : ℕ = b.0 in
    let c = bind_ok (holds_or (list_all (are_sized_from (bounds_of None (Between r))) ((x, pos 0) ∷ [])) (out_of_range n)) (λ s. done x a.0) k b.2 in
    record {
      first = x;
      label = a.0;
      label_is = a.1;
      first_is = given (number_of d.names s.name) (no_name n s.name) x b.1;
      meaning_is = ok_is (with_rule (x + 1) (bounds_of None (Between r)) empty ((x, pos 0) ∷ []) (with_task_labels a.0 m)) k c.2;
    }
