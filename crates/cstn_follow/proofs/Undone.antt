-- A time-point that is left to be done.
use Rattle.std.proofs.Common.{ℕ, zero, suc, ◌≡◌, true, not, Option, Some, None, refl, ap, ◌∙◌}
use Rattle.std.specs.Prelude.{if◌then◌else◌}
use Rattle.std.specs.Option.{is_some}
use Rattle.std.proofs.lemmas.Bool.{and_parts}
use Rattle.cstn_lift.specs.Labelled.{Labelled}
use Rattle.cstn_lift.specs.Completion.{completed_label}
use Rattle.cstn_history.specs.Histories.{History, is_done, allows}
use Rattle.cstn_history.specs.Rest.{is_left, sight_left}
use Rattle.cstn_follow.specs.Pauses.{is_undone}

pub not_some : (o : Option ℕ) → not (is_some o) ≡ true → o ≡ None
not_some None e = refl
not_some (Some t) e = absurd (cc)

module _ (m : Labelled) (h : History) (x : ℕ) (undone : is_undone m h x ≡ true) where
  pub undone_coming : h.done x ≡ None
  undone_coming = not_some (h.done x) (and_parts (not (is_done h x)) (allows h (completed_label m x)) undone).0

  undone_allowed : allows h (completed_label m x) ≡ true
  undone_allowed = (and_parts (not (is_done h x)) (allows h (completed_label m x)) undone).1

pub undone_left : (m : Labelled) (h : History) (x : ℕ) → is_undone m h x ≡ true → is_left m h x ≡ true
undone_left m h zero undone = refl
undone_left m h (suc x) undone =
    ap (λ o. if is_some o then is_some (sight_left m h (suc x)) else allows h (completed_label m (suc x))) (undone_coming m h (suc x) undone)
    ∙ undone_allowed m h (suc x) undone
