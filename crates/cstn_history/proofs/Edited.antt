-- What stays so when the deadline and the constraints of a labelled network are edited.
use Rattle.std.proofs.Common.{ℕ, zero, suc, ◌≡◌, inl, inr, ◌≤◌, List, arith, sym, subst}
use Rattle.cstn_label.specs.Labels.{Label, Scenario, Holds}
use Rattle.cstn_label.proofs.LabelLemmas.{within_same}
use Rattle.cstn_net.specs.Networks.{Constraint, Observes, AreConstraintsOf, limit}
use Rattle.cstn_net.specs.Strategies.{Table}
use Rattle.cstn_lift.specs.Labelled.{Labelled}
use Rattle.cstn_lift.specs.Completion.{completed}
use Rattle.cstn_lift.specs.Strategies.{IsExecuted}
use Rattle.cstn_lift.proofs.CompletionLemmas.{completed_contains, completed_complete, completed_least}
use Rattle.cstn_history.specs.Histories.{History, IsHistory, IsInTime, IsTimelyHistory, IsObservedAt, Settles, edited}
use Rattle.cstn_history.specs.Continuations.{Continues, Can, IsKnownAfter}

module _ (m : Labelled) (deadline : ℕ) (cs : List Constraint) where
  abbrev new : Labelled
  new = edited m deadline cs

  observes_new : (x p : ℕ) → Observes m.base x p → Observes new.base x p
  observes_new x p o = record { what = o.what }

  observes_old : (x p : ℕ) → Observes new.base x p → Observes m.base x p
  observes_old x p o = record { what = o.what }

  -- completed labels rest on labels and observers alone
  pub completed_new : (a : Label) → completed new a ≡ completed m a
  completed_new a = within_same (completed new a) (completed m a)
      (completed_least new a (completed m a) (completed_contains m a) (λ x p o marked. completed_complete m a x p (observes_old x p o) marked))
      (completed_least m a (completed new a) (completed_contains new a) (λ x p o marked. completed_complete new a x p (observes_new x p o) marked))

  module _ (h : History) where
    observed_new : (p t : ℕ) → IsObservedAt m h p t → IsObservedAt new h p t
    observed_new p t o = record { observer = o.observer; observes = observes_new o.observer p o.observes; done = o.done }

    observed_old : (p t : ℕ) → IsObservedAt new h p t → IsObservedAt m h p t
    observed_old p t o = record { observer = o.observer; observes = observes_old o.observer p o.observes; done = o.done }

    pub history_new : IsHistory m h → IsHistory new h
    history_new known = record {
      origin = known.origin;
      inside = known.inside;
      past = known.past;
      told = λ p v e. let o = known.told p v e in (o.0, observed_new p o.0 o.1);
      expected = λ p u e. let o = known.expected p u e in (o.0, o.1, observed_new p o.0 o.2);
      settled = λ x t e. subst (Settles h) (sym (completed_new _)) (known.settled x t e);
      ready = known.ready;
    }

    pub timely_new : IsInTime m h → IsInTime new h
    timely_new timely = record {
      now = timely.now;
      expected = timely.expected;
      origin = λ p u e o. timely.origin p u e (observes_old 0 p o);
      ready = timely.ready;
    }

    executed_new : (s : Scenario) (x : ℕ) → IsExecuted m s x → IsExecuted new s x
    executed_new s x e = subst (Holds s) (sym (completed_new _)) e

    executed_old : (s : Scenario) (x : ℕ) → IsExecuted new s x → IsExecuted m s x
    executed_old s x e = subst (Holds s) (completed_new _) e

    known_new : (s : Scenario) (table : Table) (u p : ℕ) → IsKnownAfter m h s (table s) u p → IsKnownAfter new h s (table s) u p
    known_new s table u p (inl told) = inl told
    known_new s table u p (inr (inl d)) = inr (inl (record { since = d.since; observed = observed_new p d.since d.observed; passed = d.passed }))
    known_new s table u p (inr (inr c)) = inr (inr (record {
      observer = c.observer;
      observes = observes_new c.observer p c.observes;
      coming = c.coming;
      executed = executed_new s c.observer c.executed;
      passed = c.passed;
    }))

    module _ (later : m.base.deadline ≤ deadline) (fewer : AreConstraintsOf m.base cs) where
      limit_new : (x : ℕ) → limit m.base x ≤ limit new.base x
      limit_new zero = omega arith
      limit_new (suc x) = later

      pub continues_new : (table : Table) → Continues m h table → Continues new h table
      continues_new table goes = record {
        done = goes.done;
        in_time = λ s x t agrees e. let upto = goes.in_time s x t agrees e in let last = limit_new x in omega arith;
        from_soonest = λ s x agrees here none e. goes.from_soonest s x agrees here none (executed_old s x e);
        within = λ s x agrees here none e.
            let upto = goes.within s x agrees here none (executed_old s x e) in let last = limit_new x in omega arith;
        meets = λ s c agrees has force. goes.meets s c agrees (fewer c has) (subst (Holds s) (completed_new _) force);
        dynamic = λ s r x of_s of_r here none e agrees.
            let both = goes.dynamic s r x of_s of_r here none (executed_old s x e) (λ p k. agrees p (known_new s table (table s x) p k)) in
            (executed_new r x both.0, both.1);
      }

      pub can_new : Can m h → Can new h
      can_new c = (c.0, continues_new c.0 c.1)

pub timely_edited : (m : Labelled) (h : History) (deadline : ℕ) (cs : List Constraint) → IsHistory m h → IsInTime m h → IsTimelyHistory (edited m deadline cs) h
timely_edited m h deadline cs known timely = record { history = history_new m deadline cs h known; in_time = timely_new m deadline cs h timely }
