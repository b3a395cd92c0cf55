-- Where nothing is left, what has happened can go on exactly where the plan is carried out.
use Rattle.std.proofs.Common.{ℕ, zero, suc, ◌≡◌, ◌<◌, ◌≤◌, false, Some, arith, sym, subst, ap, ◌∙◌, inl, inr}
use Rattle.std.specs.Prelude.{◌↔◌, pos, ◌-ℤ◌, ◌≤ℤ◌}
use Rattle.std.specs.List.{Contains}
use Rattle.std.specs.Option.{unwrap_or}
use Rattle.std.proofs.lemmas.List.Elements.{All-contains}
use Rattle.cstn_label.specs.Labels.{Scenario, MarkFits}
use Rattle.cstn_label.proofs.LabelLemmas.{holds_within}
use Rattle.cstn_label.proofs.MarkLemmas.{absent_or_not, fits_absent}
use Rattle.cstn_net.specs.Networks.{Constraint, IsConstraint, count, limit}
use Rattle.cstn_net.specs.Strategies.{Table}
use Rattle.cstn_net.proofs.Knowledge.{observer_within}
use Rattle.cstn_lift.specs.Labelled.{Labelled, label_of}
use Rattle.cstn_lift.specs.Completion.{completed_label, full_label}
use Rattle.cstn_lift.specs.Strategies.{IsExecuted, IsInForce}
use Rattle.cstn_lift.specs.WellFormed.{IsLabelled}
use Rattle.cstn_lift.proofs.CompletionLemmas.{completed_least}
use Rattle.cstn_lift.proofs.Equivalent.{full_closed, full_from, full_to, full_observed}
use Rattle.cstn_history.specs.Histories.{History, IsHistory, AgreesWith}
use Rattle.cstn_history.specs.Continuations.{Continues, Can}
use Rattle.cstn_history.specs.Rest.{moment_done}
use Rattle.cstn_history.proofs.Settled.{some_or_none, as_told, told_agrees, settles_holds}
use Rattle.cstn_next.specs.Next.{IsAllDone}
use Rattle.cstn_followed.specs.Finished.{IsMet, IsCarriedOut, HaveTheSame}

within_limit : (m : Labelled) (x t : ℕ) → t ≤ limit m.base x → t ≤ m.base.deadline
within_limit m zero t upto = omega arith
within_limit m (suc x) t upto = upto

module _ (m : Labelled) (h : History) (good : IsLabelled m) (known : IsHistory m h) where
  ends_of : (c : Constraint) → Contains m.base.constraints c → IsConstraint m.base c
  ends_of c has = All-contains (IsConstraint m.base) m.base.constraints c good.base.network.constraints has

  module _ (over : IsAllDone m h) where
    executed_done : (s : Scenario) (x : ℕ) → AgreesWith h s → x < count m.base → IsExecuted m s x → (t : ℕ) × (h.done x ≡ Some t)
    executed_done s x agrees here executed = elim (some_or_none (h.done x)) [
      | inl done ↦ done
      | inr none ↦ absurd (over.steps s x agrees here none executed)
    ]

    limit_met : (table : Table) → Continues m h table → (s : Scenario) (c : Constraint) → AgreesWith h s → Contains m.base.constraints c
        → IsInForce m s c → IsMet h c
    limit_met table goes s c agrees has force =
        let ends = ends_of c has in
        let from = executed_done s c.from agrees ends.from (holds_within s (completed_label m c.from) (full_label m c) (full_from m good c) force) in
        let to = executed_done s c.to agrees ends.to (holds_within s (completed_label m c.to) (full_label m c) (full_to m good c) force) in
        let met = goes.meets s c agrees has force in
        record {
          from = from.0;
          to = to.0;
          from_done = from.1;
          to_done = to.1;
          within =
              subst (λ (t : ℕ). (pos t -ℤ pos from.0) ≤ℤ c.most) (goes.done s c.to to.0 agrees to.1)
              (subst (λ (t : ℕ). (pos (table s c.to) -ℤ pos t) ≤ℤ c.most) (goes.done s c.from from.0 agrees from.1) met);
        }

    carried : Can m h → IsCarriedOut m h
    carried can = record {
      steps = executed_done;
      limits = limit_met can.0 can.1;
      deadline = λ x t done.
          let s = as_told h (λ p. false) in
          within_limit m x t (can.1.in_time s x t (told_agrees h (λ p. false)) done);
    }

    done_at : (x t : ℕ) → h.done x ≡ Some t → moment_done h x ≡ t
    done_at x t done = ap (λ o. unwrap_or o 0) done

    upto_limit : IsCarriedOut m h → (x t : ℕ) → h.done x ≡ Some t → t ≤ limit m.base x
    upto_limit out zero t done = let same : Some t ≡ Some 0 = sym done ∙ known.origin in let at : t ≡ 0 = cc in omega arith
    upto_limit out (suc x) t done = out.deadline (suc x) t done

    goes_on : IsCarriedOut m h → Can m h
    goes_on out = (
      λ s x. moment_done h x,
      record {
        done = λ s x t agrees done. done_at x t done;
        in_time = λ s x t agrees done. upto_limit out x t done;
        from_soonest = λ s x agrees here none executed. absurd (over.steps s x agrees here none executed);
        within = λ s x agrees here none executed. absurd (over.steps s x agrees here none executed);
        meets = λ s c agrees has force.
            let met = out.limits s c agrees has force in
            subst (λ (t : ℕ). (pos t -ℤ pos (moment_done h c.from)) ≤ℤ c.most) (sym (done_at c.to met.to met.to_done))
            (subst (λ (t : ℕ). (pos met.to -ℤ pos t) ≤ℤ c.most) (sym (done_at c.from met.from met.from_done)) met.within);
        dynamic = λ s r x agrees also here none executed same. absurd (over.steps s x agrees here none executed);
      },
    )

    pub carried_exactly : Can m h ↔ IsCarriedOut m h
    carried_exactly = (carried, goes_on)

    -- what is done was settled by what was told
    alike_executed : (s r : Scenario) → AgreesWith h s → AgreesWith h r → (x : ℕ) → x < count m.base → IsExecuted m s x → IsExecuted m r x
    alike_executed s r agrees also x here executed =
        let done = executed_done s x agrees here executed in
        settles_holds h (completed_label m x) r also (known.settled x done.0 done.1)

    -- what the full label of a constraint in force marks was told
    marks_fit : (s r : Scenario) → AgreesWith h s → AgreesWith h r → (c : Constraint) → Contains m.base.constraints c → IsInForce m s c
        → (p : ℕ) → MarkFits (r p) (full_label m c p)
    marks_fit s r agrees also c has force p = elim (some_or_none (h.told p)) [
      | inl told ↦
          subst (λ v. MarkFits v (full_label m c p)) (sym (also p told.0 told.1))
          (subst (λ v. MarkFits v (full_label m c p)) (agrees p told.0 told.1) (force p))
      | inr none ↦ elim (absent_or_not (full_label m c p)) [
        | inl absent ↦ fits_absent (r p) (full_label m c p) absent
        | inr marked ↦
            let o = full_observed m good c has p marked in
            let within = completed_least m (label_of m o.0) (full_label m c) (full_closed m good c o.0 p o.1 marked) (full_closed m good c) in
            let executed = holds_within s (completed_label m o.0) (full_label m c) within force in
            let done = executed_done s o.0 agrees (observer_within m.base o.0 p o.1) executed in
            absurd (over.outcomes p done.0 (record { observer = o.0; observes = o.1; done = done.1 }) none)
      ]
    ]

    pub all_alike : (s r : Scenario) → AgreesWith h s → AgreesWith h r → HaveTheSame m s r
    all_alike s r agrees also = record {
      executed = alike_executed s r agrees also;
      in_force = λ c has force. marks_fit s r agrees also c has force;
    }
