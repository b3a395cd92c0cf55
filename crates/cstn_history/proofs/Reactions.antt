-- The reactions of the rest.
use Rattle.std.proofs.Common.{ℕ, zero, suc, ◌≡◌, true, false, Some, None, refl, ap, ◌∙◌}
use Rattle.std.specs.Prelude.{if◌then◌else◌, not, ◌||◌}
use Rattle.std.specs.Option.{is_some}
use Rattle.cstn_net.specs.Networks.{Observes}
use Rattle.cstn_lift.specs.Labelled.{Labelled}
use Rattle.cstn_lift.specs.WellFormed.{IsLabelled}
use Rattle.cstn_lift.proofs.LoweredLemmas.{observer_found}
use Rattle.cstn_history.specs.Histories.{History, known_at}
use Rattle.cstn_history.specs.Rest.{is_left, reaction_after, reaction_by, reaction_watched, rest}

module _ (m : Labelled) (h : History) (fresh : ℕ) (good : IsLabelled m) where
  pub reaction_left : (x p : ℕ) → Observes m.base x p → h.told p ≡ None → is_left m h x ≡ true →
      (rest m h fresh).base.reaction p ≡ reaction_after m h p x (h.done x)
  reaction_left x p o none left =
      ap (reaction_by m h p) (observer_found m.base good.base.network x p o)
      ∙ ap (λ q. if is_some q || not (is_left m h x) then 1 else reaction_after m h p x (h.done x)) none
      ∙ ap (λ b. if false || not b then 1 else reaction_after m h p x (h.done x)) left

  after_none : (x p : ℕ) → reaction_after m h p x None ≡ m.base.reaction p
  after_none zero p = refl
  after_none (suc x) p = refl

  -- that of an observer that isn't done is as it was
  pub reaction_coming : (x p : ℕ) → Observes m.base x p → h.told p ≡ None → is_left m h x ≡ true → h.done x ≡ None →
      (rest m h fresh).base.reaction p ≡ m.base.reaction p
  reaction_coming x p o none left coming = reaction_left x p o none left ∙ ap (reaction_after m h p x) coming ∙ after_none x p

  pub reaction_origin : (t p : ℕ) → Observes m.base 0 p → h.told p ≡ None → h.done 0 ≡ Some t →
      (rest m h fresh).base.reaction p ≡ known_at m h p t
  reaction_origin t p o none done = reaction_left 0 p o none refl ∙ ap (reaction_after m h p 0) done

  pub reaction_done : (x t p : ℕ) → Observes m.base (suc x) p → h.told p ≡ None → is_left m h (suc x) ≡ true → h.done (suc x) ≡ Some t →
      (rest m h fresh).base.reaction p ≡ reaction_watched m h p t
  reaction_done x t p o none left done = reaction_left (suc x) p o none left ∙ ap (reaction_after m h p (suc x)) done
