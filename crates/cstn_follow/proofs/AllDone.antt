-- What it is that nothing is left.
use Rattle.std.proofs.Common.{ℕ, zero, suc, ◌≡◌, ◌<◌, Bool, true, false, Option, Some, None, arith, refl, sym, subst, ap, ◌∙◌}
use Rattle.std.proofs.Common.{inl, inr}
use Rattle.std.specs.Prelude.{if◌then◌else◌}
use Rattle.std.specs.Option.{is_some}
use Rattle.std.proofs.lemmas.Bool.{cases_eq, or_from, or_parts, both_ways}
use Rattle.cstn_label.specs.declared.marks.Mark.{Mark}
use Rattle.cstn_label.specs.Labels.{Scenario, MarkFits}
use Rattle.cstn_label.proofs.LabelLemmas.{made_true, made_holds}
use Rattle.cstn_net.specs.Networks.{count}
use Rattle.cstn_lift.specs.Labelled.{Labelled}
use Rattle.cstn_lift.specs.Completion.{completed_label}
use Rattle.cstn_lift.specs.Strategies.{IsExecuted}
use Rattle.cstn_lift.specs.WellFormed.{IsLabelled}
use Rattle.cstn_history.specs.Histories.{History, IsHistory, AgreesWith, allows, mark_left}
use Rattle.cstn_history.specs.Rest.{sight_left}
use Rattle.cstn_history.proofs.Places.{sees_left, sees_back}
use Rattle.cstn_history.proofs.Settled.{allows_true, allows_back, as_told, told_agrees, holds_allows, holds_back}
use Rattle.cstn_next.specs.Next.{IsAllDone}
use Rattle.cstn_follow.specs.Following.{is_open, any_below}

pub any_false : (test : ℕ → Bool) (n x : ℕ) → any_below test n ≡ false → x < n → test x ≡ false
any_false test zero x none inside = absurd (omega arith)
any_false test (suc n) x none inside =
    let both = or_parts (any_below test n) (test n) none in
    elim (cases_eq x n) [
      | inl same ↦ subst (λ k. test k ≡ false) (sym same) both.1
      | inr other ↦ any_false test n x both.0 (omega arith)
    ]

pub all_false : (test : ℕ → Bool) (n : ℕ) → ((x : ℕ) → x < n → test x ≡ false) → any_below test n ≡ false
all_false test zero each = refl
all_false test (suc n) each = or_from (any_below test n) (test n) (all_false test n (λ x inside. each x (omega arith))) (each n (omega arith))

-- what is told allows a label only where it holds in some scenario that agrees
pub somewhere : (m : Labelled) (h : History) (x : ℕ) → IsLabelled m → IsHistory m h → x < count m.base → allows h (completed_label m x) ≡ true
    → (s : Scenario) × AgreesWith h s × IsExecuted m s x
somewhere m h x good known here open_ =
    let a = completed_label m x in
    let made = made_true a (λ p. false) in (
      as_told h made,
      told_agrees h made,
      holds_back h a made (allows_back m h good known a open_) (λ p. still (h.told p) (a p) (made p) (made_holds a (λ q. false) (good.completed_plain x here) p)),
    )
  where
    still : (o : Option Bool) (mark : Mark) (v : Bool) → MarkFits v mark → MarkFits v (mark_left o mark)
    still None mark v fits = fits
    still (Some w) mark v fits = tt

module _ (m : Labelled) (h : History) (good : IsLabelled m) (known : IsHistory m h) where
  open_by : (x : ℕ) (d : Option ℕ) → h.done x ≡ d → is_open m h x ≡ (if is_some d then is_some (sight_left m h x) else allows h (completed_label m x))
  open_by x d is = ap (λ o. if is_some o then is_some (sight_left m h x) else allows h (completed_label m x)) is

  pub none_open : any_below (is_open m h) (count m.base) ≡ false → IsAllDone m h
  none_open none = record {
    steps = λ s x agrees here undone executed.
        both_ways (allows h (completed_label m x)) (sym (open_by x None undone) ∙ any_false (is_open m h) (count m.base) x none here)
        (allows_true h (completed_label m x) (holds_allows h (completed_label m x) s agrees executed));
    outcomes = λ p t o untold.
        both_ways (is_some (sight_left m h o.observer))
        (sym (open_by o.observer (Some t) o.done) ∙ any_false (is_open m h) (count m.base) o.observer none (known.inside o.observer t o.done))
        (ap (λ (q : Option ℕ). is_some q) (sees_left m h o.observer p o.observes untold));
  }

  closed_by : IsAllDone m h → (x : ℕ) → x < count m.base → (d : Option ℕ) → h.done x ≡ d → is_open m h x ≡ false
  closed_by over x here None undone = open_by x None undone ∙ by_allowed (allows h (completed_label m x)) refl
    where
      by_allowed : (b : Bool) → allows h (completed_label m x) ≡ b → b ≡ false
      by_allowed true open_ = let e = somewhere m h x good known here open_ in absurd (over.steps e.0 x e.1 here undone e.2)
      by_allowed false closed = refl
  closed_by over x here (Some t) done = open_by x (Some t) done ∙ by_sight (sight_left m h x) refl
    where
      by_sight : (o : Option ℕ) → sight_left m h x ≡ o → is_some o ≡ false
      by_sight None none = refl
      by_sight (Some p) sees =
          let back = sees_back m h x p sees in
          absurd (over.outcomes p t (record { observer = x; observes = back.0; done = done }) back.1)

  pub all_closed : IsAllDone m h → any_below (is_open m h) (count m.base) ≡ false
  all_closed over = all_false (is_open m h) (count m.base) (λ x here. closed_by over x here (h.done x) refl)
