-- The least deadline of a labelled network is that of the network it is lowered to.
use Rattle.std.proofs.Common.{◌≡◌, ℕ, ◌≤◌, ◌-◌, refl, subst, inl, inr, arith}
use Rattle.std.specs.Prelude.{◌⊎◌, ◌↔◌}
use Rattle.cstn_net.specs.Limits.{most_deadline}
use Rattle.cstn_net.specs.Networks.{Network}
use Rattle.cstn_net.specs.Strategies.{IsConsistent}
use Rattle.cstn_lift.specs.Labelled.{Labelled}
use Rattle.cstn_lift.specs.Lowered.{lowered, guards_of}
use Rattle.cstn_lift.specs.WellFormed.{IsLabelled}
use Rattle.cstn_lift.specs.Strategies.{IsLabelledConsistent}
use Rattle.cstn_lift.proofs.Equivalent.{equivalent}
use Rattle.cstn_tight.specs.Deadlines.{at_deadline, IsLeastDeadline}
use Rattle.cstn_tight.proofs.LeastLemmas.{good_at_deadline}
use Rattle.cstn_headline.specs.LabelledDeadlines.{labelled_at, IsLabelledLeastDeadline}

pub lowered_at : (m : Labelled) (h : ℕ) → lowered (labelled_at m h) ≡ at_deadline (lowered m) h
unfolding guards_of
lowered_at m h = refl

module _ (m : Labelled) (good : IsLabelled m) where
  labelled_earlier : (h : ℕ) → h ≤ m.base.deadline → IsLabelled (labelled_at m h)
  labelled_earlier h upto =
      let in_time : m.base.deadline ≤ most_deadline = good.base.in_time in
      record {
        base = good_at_deadline m.base good.base h (omega arith);
        one_each = good.one_each;
        origin = good.origin;
        plain = good.plain;
        observed = λ x within p marked. let found = good.observed x within p marked in (found.0, record { what = found.1.what });
        no_circle = λ x p o. good.no_circle x p (record { what = o.what });
        completed_plain = good.completed_plain;
      }

  same_at : (h : ℕ) → h ≤ m.base.deadline → IsLabelledConsistent (labelled_at m h) ↔ IsConsistent (at_deadline (lowered m) h)
  same_at h upto =
      subst (λ (net : Network). IsLabelledConsistent (labelled_at m h) ↔ IsConsistent net) (lowered_at m h) (equivalent (labelled_at m h) (labelled_earlier h upto)).consistent

  before : (h : ℕ) → h ≤ m.base.deadline → h - 1 ≤ m.base.deadline
  before h upto = omega arith

  pub least_same : (h : ℕ) → h ≤ m.base.deadline → IsLabelledLeastDeadline m h ↔ IsLeastDeadline (lowered m) h
  least_same h upto = (λ is. record { consistent = (same_at h upto).0 is.consistent; least = down is.least }, λ is. record { consistent = (same_at h upto).1 is.consistent; least = up is.least })
    where
      down : (h ≡ 0) ⊎ (IsLabelledConsistent (labelled_at m (h - 1)) → ⊥) → (h ≡ 0) ⊎ (IsConsistent (at_deadline (lowered m) (h - 1)) → ⊥)
      down (inl zero) = inl zero
      down (inr never) = inr (λ has. never ((same_at (h - 1) (before h upto)).1 has))

      up : (h ≡ 0) ⊎ (IsConsistent (at_deadline (lowered m) (h - 1)) → ⊥) → (h ≡ 0) ⊎ (IsLabelledConsistent (labelled_at m (h - 1)) → ⊥)
      up (inl zero) = inl zero
      up (inr never) = inr (λ has. never ((same_at (h - 1) (before h upto)).0 has))
