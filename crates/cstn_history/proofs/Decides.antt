-- The history can go on exactly where the rest has a strategy, with the same least moments.
use Rattle.std.proofs.Common.{ℕ, ◌≡◌, ◌<◌, ◌≤◌, None, sym, subst, ap, ◌∙◌}
use Rattle.std.specs.Prelude.{◌↔◌}
use Rattle.cstn_label.specs.Labels.{Scenario}
use Rattle.cstn_net.specs.Networks.{count}
use Rattle.cstn_net.specs.Strategies.{Table}
use Rattle.cstn_lift.specs.Labelled.{Labelled}
use Rattle.cstn_lift.specs.Completion.{completed_label}
use Rattle.cstn_lift.specs.WellFormed.{IsLabelled}
use Rattle.cstn_lift.specs.Strategies.{IsExecuted, IsLabelledStrategy, IsLabelledConsistent, IsLabelledLeast}
use Rattle.cstn_history.specs.Histories.{History, IsHistory, AgreesWith}
use Rattle.cstn_history.specs.Continuations.{Continues, Can, IsLeastNow}
use Rattle.cstn_history.specs.Rest.{number_left, rest}
use Rattle.cstn_history.proofs.Settled.{as_told, told_itself, holds_allows}
use Rattle.cstn_history.proofs.Places.{left_coming}
use Rattle.cstn_history.proofs.ToRest.{executed_left, at_coming, to_rest, to_rest_strategy}
use Rattle.cstn_history.proofs.FromRest.{from_rest, from_rest_continues}
use Rattle.cstn_history.proofs.FromRest.{at_coming as back_coming}

module _ (m : Labelled) (h : History) (fresh : ℕ) (good : IsLabelled m) (known : IsHistory m h) where
  pub can_both : Can m h ↔ IsLabelledConsistent (rest m h fresh)
  can_both = (
    (λ c. (to_rest m h fresh good known c.0 c.1, to_rest_strategy m h fresh good known c.0 c.1)),
    (λ c. (from_rest m h fresh good known c.0 c.1, from_rest_continues m h fresh good known c.0 c.1)),
  )

  module _ (s : Scenario) (x : ℕ) (agrees : AgreesWith h s) (here : x < count m.base) (none : h.done x ≡ None) (seen : IsExecuted m s x) where
    same : as_told h s ≡ s
    same = told_itself h s agrees

    moment : (table : Table) (goes : Continues m h table) → to_rest m h fresh good known table goes s (number_left m h x) ≡ table s x
    moment table goes =
        at_coming m h fresh good known table goes s x here
        (left_coming m h fresh good known x none (holds_allows h (completed_label m x) s agrees seen)) none
        ∙ ap (λ r. table r x) same

    moment_back : (strategy : Table) (plays : IsLabelledStrategy (rest m h fresh) strategy) →
        from_rest m h fresh good known strategy plays s x ≡ strategy s (number_left m h x)
    moment_back strategy plays = back_coming m h fresh good known strategy plays s x none

    least_in_rest : (t : ℕ) → IsLeastNow m h s x t → IsLabelledLeast (rest m h fresh) s (number_left m h x) t
    least_in_rest t l = record {
      executed = executed_left m h fresh good known s x here
          (left_coming m h fresh good known x none (holds_allows h (completed_label m x) s agrees seen))
          (subst (λ r. IsExecuted m r x) (sym same) seen);
      reached = (
        to_rest m h fresh good known l.reached.0 l.reached.1,
        to_rest_strategy m h fresh good known l.reached.0 l.reached.1,
        moment l.reached.0 l.reached.1 ∙ l.reached.2,
      );
      least = λ strategy plays. subst (λ u. t ≤ u) (moment_back strategy plays)
          (l.least (from_rest m h fresh good known strategy plays) (from_rest_continues m h fresh good known strategy plays));
    }

    least_now : (t : ℕ) → IsLabelledLeast (rest m h fresh) s (number_left m h x) t → IsLeastNow m h s x t
    least_now t l = record {
      coming = none;
      executed = seen;
      reached = (
        from_rest m h fresh good known l.reached.0 l.reached.1,
        from_rest_continues m h fresh good known l.reached.0 l.reached.1,
        moment_back l.reached.0 l.reached.1 ∙ l.reached.2,
      );
      least = λ table goes. subst (λ u. t ≤ u) (moment table goes)
          (l.least (to_rest m h fresh good known table goes) (to_rest_strategy m h fresh good known table goes));
    }

    pub least_both : (t : ℕ) → IsLeastNow m h s x t ↔ IsLabelledLeast (rest m h fresh) s (number_left m h x) t
    least_both t = (least_in_rest t, least_now t)
