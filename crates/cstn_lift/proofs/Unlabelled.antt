-- A network without labels is its own lowered network, but for ids.
use Rattle.std.proofs.Common.{ℕ, suc, ◌≡◌, inl, inr, ◌+◌, ◌<◌, Some, None, List, [], ◌∷◌, ◌++◌, length, arith, refl, sym, subst, ap, ◌∙◌}
use Rattle.std.specs.Prelude.{map, slice_index_or, if◌then◌else◌}
use Rattle.std.specs.List.{range_with_len}
use Rattle.std.proofs.lemmas.Bool.{cases_lt}
use Rattle.std.proofs.lemmas.List.{append-nil}
use Rattle.std.proofs.lemmas.List.Elements.{All-weaker}
use Rattle.cstn_facts.proofs.Ranges.{range_all}
use Rattle.cstn_facts.proofs.Members.{filter_map_whole, filter_map_none, flat_map_none}
use Rattle.cstn_label.specs.Labels.{Label, IsPlain, IsWithin, empty, joined}
use Rattle.cstn_label.proofs.LabelLemmas.{within_itself, within_same, joined_empty}
use Rattle.cstn_net.specs.Networks.{Constraint, IsConstraint, count}
use Rattle.cstn_lift.specs.Labelled.{Labelled, label_in, label_of}
use Rattle.cstn_lift.specs.Completion.{completed, full_label}
use Rattle.cstn_lift.specs.WellFormed.{IsLabelled}
use Rattle.cstn_lift.specs.Lowered.{with_full_label, full_constraints, guard, guards_of, guards_with, guards, numbered, lowered}
use Rattle.cstn_lift.proofs.CompletionLemmas.{completed_contains, completed_least, empty_within}
use Rattle.cstn_lift.proofs.FullLemmas.{past_empty}
use Rattle.cstn_lift.proofs.LoweredLemmas.{plain_true, completed_at}

pub numbered_same : (k : ℕ) (cs : List Constraint) → ((i : ℕ) (d : Constraint) → i < length cs → (slice_index_or cs i d).id ≡ k + i) →
    numbered k cs ≡ cs
numbered_same k [] ids = refl
numbered_same k (c ∷ cs) ids =
    let first : c.id ≡ k = ids 0 c (omega arith) ∙ omega arith in
    let rest = numbered_same (k + 1) cs (λ i d inside. ids (suc i) d (omega arith) ∙ omega arith) in
    ap (λ n. record c { id = n } ∷ numbered (k + 1) cs) (sym first) ∙ ap (λ ds. c ∷ ds) rest

module _ (m : Labelled) (good : IsLabelled m) (none : (x : ℕ) → x < count m.base → label_of m x ≡ empty) where
  pub all_empty : (x : ℕ) → label_of m x ≡ empty
  all_empty x = elim (cases_lt x (count m.base)) [
    | inl inside ↦ none x inside
    | inr past ↦ past_empty m good x past
  ]

  completed_same : (a : Label) → completed m a ≡ a
  completed_same a = within_same (completed m a) a
      (completed_least m a a (within_itself a) (λ x p o marked. subst (λ l. IsWithin l a) (sym (all_empty x)) (empty_within a)))
      (completed_contains m a)

  full_same : (c : Constraint) → full_label m c ≡ c.label
  full_same c =
      completed_same (joined c.label (joined (label_of m c.from) (label_of m c.to)))
      ∙ ap (λ a. joined c.label (joined a (label_of m c.to))) (all_empty c.from)
      ∙ ap (λ a. joined c.label (joined empty a)) (all_empty c.to)
      ∙ joined_empty c.label

  with_full_same : (c : Constraint) → IsPlain c.label → with_full_label m c ≡ Some c
  with_full_same c plain =
      ap (λ b. if b then Some (record c { label = full_label m c }) else None) (plain_true (full_label m c) (subst IsPlain (sym (full_same c)) plain))
      ∙ ap (λ a. Some (record c { label = a })) (full_same c)

  full_whole : full_constraints m ≡ m.base.constraints
  full_whole = filter_map_whole (with_full_label m) m.base.constraints
      (All-weaker (IsConstraint m.base) (λ c. with_full_label m c ≡ Some c) (λ c h. with_full_same c h.plain) m.base.constraints good.base.network.constraints)

  waits_none : (x : ℕ) (a : Label) → a ≡ empty → guards_of m.base x a ≡ []
  unfolding guards_of
  waits_none x a is = filter_map_none (guard m.base x a) (range_with_len 0 52)
      (range_all (λ p. guard m.base x a p ≡ None) 0 52 (λ p low high. rw is refl))

  guards_none : guards m ≡ []
  guards_none =
      let own = map (completed m) m.labels in
      flat_map_none (guards_with m.base own) (range_with_len 0 (count m.base))
      (range_all (λ x. guards_with m.base own x ≡ []) 0 (count m.base) (λ x low here.
      let inside : x < count m.base = omega arith in
      waits_none x (label_in own x) (completed_at m good x inside ∙ completed_same (label_of m x) ∙ all_empty x)))

  pub unlabelled_lowered : lowered m ≡ record m.base { constraints = numbered 0 m.base.constraints }
  unlabelled_lowered =
      ap (λ cs. record m.base { constraints = numbered 0 (cs ++ guards m) }) full_whole
      ∙ ap (λ cs. record m.base { constraints = numbered 0 (m.base.constraints ++ cs) }) guards_none
      ∙ ap (λ cs. record m.base { constraints = numbered 0 cs }) (append-nil m.base.constraints)
