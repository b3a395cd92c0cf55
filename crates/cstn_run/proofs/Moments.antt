-- Which time-points are named after a moment that a guide accepts.
use Rattle.std.proofs.Common.{ℕ, ◌≡◌, ◌⊎◌, inl, inr, ◌<◌, false, List, length, Some, None, arith, sym, ◌∙◌}
use Rattle.std.specs.List.{Contains}
use Rattle.std.proofs.lemmas.Bool.{cases_Bool, cond-true, cond-false, both_ways}
use Rattle.cstn_facts.proofs.Options.{some_or_none}
use Rattle.cstn_facts.proofs.Places.{get_or_repeated, some_within}
use Rattle.cstn_label.specs.Bounds.{Bound}
use Rattle.cstn_net.specs.Networks.{Network, count}
use Rattle.cstn_lift.specs.Labelled.{Labelled}
use Rattle.cstn_lift.specs.Lowered.{lowered}
use Rattle.cstn_exec.specs.Runs.{start_of_run, executed_at, called}
use Rattle.cstn_exec.specs.Moves.{moment_refusal, run_moved}
use Rattle.cstn_exec.proofs.Dues.{accepted_right}
use Rattle.cstn_exec.specs.Guides.{Guided, guide_begun, was_left_out, named_at, holds_at, named, left_out, advanced}
use Rattle.cstn_exec.specs.Sound.{IsPlanned, IsGuided}
use Rattle.cstn_exec.proofs.GuideNaming.{moved_kept, moved_was, called_waits, called_executed, named_holding, named_when, left_parts, left_from}
use Rattle.cstn_exec.proofs.Denying.{all_executed, left_kept, left_in, left_not}
use Rattle.cstn_exec.proofs.Advancing.{advanced_guided}

-- a time-point that was named was executed and not left out
pub named_parts : (g : Guided) (x t : ℕ) → named_at g x ≡ Some t → (was_left_out g x ≡ false) × (executed_at g.run x ≡ Some t)
named_parts g x t e = elim (cases_Bool (was_left_out g x)) [
  | inl left ↦ absurd (some_or_none (named_at g x) t e (cond-true (was_left_out g x) None (executed_at g.run x) left))
  | inr kept ↦ (kept, sym (cond-false (was_left_out g x) None (executed_at g.run x) kept) ∙ e)
]

named_from : (g : Guided) (x t : ℕ) → was_left_out g x ≡ false → executed_at g.run x ≡ Some t → named_at g x ≡ Some t
named_from g x t kept e = cond-false (was_left_out g x) None (executed_at g.run x) kept ∙ e

-- no time-point is named at the beginning
pub nobody_named : (n x t : ℕ) → named_at (guide_begun n) x ≡ Some t → ⊥
nobody_named n x t e = some_or_none (executed_at (start_of_run n) x) t (named_parts (guide_begun n) x t e).1 (get_or_repeated n x None)

module _ (m : Labelled) (bounds : List Bound) (plan : IsPlanned m bounds) (g : Guided) (right : IsGuided m g) (t : ℕ)
    (ok : moment_refusal (lowered m) bounds g.run t ≡ None) where
  abbrev net : Network
  net = lowered m

  abbrev out : List ℕ
  out = left_out m bounds g.run t

  abbrev after : Guided
  after = advanced m bounds g t

  pub after_guided : IsGuided m (advanced m bounds g t)
  after_guided = advanced_guided m bounds plan.table plan.labelled plan.well_formed plan.earliest g right t ok

  -- a time-point whose moment it is wasn't left out before
  waits_kept : (x : ℕ) → Contains (called net bounds g.run t) x → was_left_out g x ≡ false
  waits_kept x c = elim (cases_Bool (was_left_out g x)) [
    | inr kept ↦ kept
    | inl left ↦
        let e = right.placed x left in
        absurd (some_or_none (executed_at g.run x) e.0 e.1 (called_waits net bounds plan.well_formed g.run right.right t x c))
  ]

  -- a time-point that the answer names was named at this moment
  pub named_now : (x : ℕ) → Contains (named m bounds g.run t) x → named_at (advanced m bounds g t) x ≡ Some t
  named_now x c =
      let parts = named_holding m bounds g.run t x c in
      let stays = left_not out g.left x (λ there. both_ways (holds_at m g.run t x) (left_parts m bounds g.run t x there).1 parts.1) in
      named_from after x t (stays ∙ waits_kept x parts.0)
      (all_executed net out (run_moved net bounds g.run t) x ∙ called_executed net bounds plan.well_formed g.run right.right t x parts.0)

  -- a time-point that was named before still is
  pub named_still : (x u : ℕ) → named_at g x ≡ Some u → named_at (advanced m bounds g t) x ≡ Some u
  named_still x u e =
      let parts = named_parts g x u e in
      let stays = left_not out g.left x (λ there.
      some_or_none (executed_at g.run x) u parts.1 (called_waits net bounds plan.well_formed g.run right.right t x (left_parts m bounds g.run t x there).0)) in
      named_from after x u (stays ∙ parts.0)
      (all_executed net out (run_moved net bounds g.run t) x ∙ moved_kept net bounds plan.well_formed g.run right.right t x u parts.1)

  -- a time-point that is named after the moment was named before, or by its answer
  pub named_back : (x u : ℕ) → named_at (advanced m bounds g t) x ≡ Some u → (named_at g x ≡ Some u) ⊎ (Contains (named m bounds g.run t) x × (u ≡ t))
  named_back x u e =
      let parts = named_parts after x u e in
      let moved_run = run_moved net bounds g.run t in
      let at : executed_at moved_run x ≡ Some u = sym (all_executed net out moved_run x) ∙ parts.1 in
      let within = some_within moved_run.moments x u at in
      let size = (accepted_right net bounds plan.table plan.well_formed plan.earliest g.run right.right t ok).0.moments in
      let here : x < count m.base = omega arith in
      let places = right.size in
      let inside : x < length g.left = omega arith in
      elim (moved_was net bounds plan.well_formed g.run right.right t x u here at) [
        | inl before ↦ elim (cases_Bool (was_left_out g x)) [
          | inl left ↦ absurd (both_ways (was_left_out after x) parts.0 (left_kept out g.left x inside left))
          | inr kept ↦ inl (named_from g x u kept before)
        ]
        | inr now ↦ elim (cases_Bool (holds_at m g.run t x)) [
          | inl holds ↦ inr (named_when m bounds g.run t x now.0 holds, now.1)
          | inr fails ↦ absurd (both_ways (was_left_out after x) parts.0 (left_in out g.left x (left_from m bounds g.run t x now.0 fails) inside))
        ]
      ]
