-- A labelled network with a further time-point.
use Rattle.std.proofs.Common.{ℕ, zero, suc, ◌≡◌, inl, inr, ◌+◌, ◌<◌, ◌≤◌, Bool, true, false, cond, eqb, List, [], ◌∷◌, ◌++◌, Option, None, Some, length, arith, refl, sym, subst, ap, ◌∙◌}
use Rattle.std.specs.Prelude.{◌↔◌, slice_index_or, ◌==◌, pos, ◌-ℤ◌, ◌≤ℤ◌}
use Rattle.std.specs.List.{All, Contains}
use Rattle.std.proofs.Math.Path.{fun_ext}
use Rattle.std.proofs.lemmas.Bool.{cases_lt, cases_eq, cond-true, cond-false, eq-eqb, ne_eqb}
use Rattle.std.proofs.lemmas.List.{length-append}
use Rattle.std.proofs.lemmas.List.Elements.{All-weaker, All-contains}
use Rattle.cstn_label.specs.declared.marks.Mark.TheVariants.{Absent}
use Rattle.cstn_label.specs.Labels.{Label, Scenario, Holds, IsPlain, IsWithin, MarkFits, empty, joined}
use Rattle.cstn_label.proofs.LabelLemmas.{within_same}
use Rattle.cstn_net.specs.Limits.{most_time_points}
use Rattle.cstn_net.specs.Networks.{Network, Constraint, IsConstraint, IsNetwork, IsWellFormed, Observes, IsOnObserved, count, limit}
use Rattle.cstn_net.specs.Strategies.{Schedule, Table, Meets}
use Rattle.cstn_net.proofs.Knowledge.{observer_within}
use Rattle.cstn_lift.specs.Labelled.{Labelled, label_of}
use Rattle.cstn_lift.specs.Completion.{completed, completed_label, full_label}
use Rattle.cstn_lift.specs.Strategies.{IsExecuted, IsInForce}
use Rattle.cstn_lift.specs.WellFormed.{IsLabelled}
use Rattle.cstn_lift.proofs.CompletionLemmas.{empty_within, completed_contains, completed_complete, completed_least}
use Rattle.cstn_history.specs.Histories.{History, IsHistory, IsInTime, IsTimelyHistory, IsObservedAt, Settles, AgreesWith, soonest}
use Rattle.cstn_history.specs.Continuations.{Continues, Can, IsKnownAfter}
use Rattle.cstn_history.proofs.Settled.{some_or_none, as_told, told_agrees}
use Rattle.cstn_history.specs.Read.{HistoryParts, the_history, IsKeptFor}
use Rattle.cstn_history.specs.Steps.{with_point, stepped, with_place}

-- what stands behind the last is read as what stands nowhere
pub at_end : {X : Type 0} (xs : List X) (x : ℕ) (d : X) → slice_index_or (xs ++ d ∷ []) x d ≡ slice_index_or xs x d
at_end [] zero d = refl
at_end [] (suc x) d = refl
at_end (y ∷ ys) zero d = refl
at_end (y ∷ ys) (suc x) d = at_end ys x d

past_end : {X : Type 0} (xs : List X) (x : ℕ) (d : X) → length xs ≤ x → slice_index_or xs x d ≡ d
past_end [] x d far = refl
past_end (y ∷ ys) zero d far = absurd (omega arith)
past_end (y ∷ ys) (suc x) d far = past_end ys x d (omega arith)

limit_is : (net : Network) (x : ℕ) → 0 < x → limit net x ≡ net.deadline
limit_is net zero some = absurd (omega arith)
limit_is net (suc x) some = refl

module _ (m : Labelled) where
  abbrev S : Labelled
  S = stepped m

  abbrev last : ℕ
  last = count m.base

  pub count_is : count S.base ≡ last + 1
  count_is = length-append m.base.observes (None ∷ [])

  observes_new : (x p : ℕ) → Observes m.base x p → Observes S.base x p
  observes_new x p o = record { what = at_end m.base.observes x None ∙ o.what }

  observes_old : (x p : ℕ) → Observes S.base x p → Observes m.base x p
  observes_old x p o = record { what = sym (at_end m.base.observes x None) ∙ o.what }

  label_same : (x : ℕ) → label_of S x ≡ label_of m x
  label_same x = at_end m.labels x empty

  limit_same : (x : ℕ) → limit S.base x ≡ limit m.base x
  limit_same zero = refl
  limit_same (suc x) = refl

  -- completed labels
  pub completed_same : (a : Label) → completed S a ≡ completed m a
  completed_same a = within_same (completed S a) (completed m a)
      (completed_least S a (completed m a) (completed_contains m a)
      (λ x p o marked. subst (λ b. IsWithin b (completed m a)) (sym (label_same x)) (completed_complete m a x p (observes_old x p o) marked)))
      (completed_least m a (completed S a) (completed_contains S a)
      (λ x p o marked. subst (λ b. IsWithin b (completed S a)) (label_same x) (completed_complete S a x p (observes_new x p o) marked)))

  pub label_stays : (x : ℕ) → completed_label S x ≡ completed_label m x
  label_stays x = completed_same (label_of S x) ∙ ap (completed m) (label_same x)

  pub full_stays : (c : Constraint) → full_label S c ≡ full_label m c
  full_stays c =
      completed_same (joined c.label (joined (label_of S c.from) (label_of S c.to)))
      ∙ ap (λ (a : Label). completed m (joined c.label (joined a (label_of S c.to)))) (label_same c.from)
      ∙ ap (λ (a : Label). completed m (joined c.label (joined (label_of m c.from) a))) (label_same c.to)

  completed_empty : completed m empty ≡ empty
  completed_empty = within_same (completed m empty) empty
      (completed_least m empty empty (empty_within empty) (λ x p o marked. absurd (marked refl))) (empty_within (completed m empty))

  module _ (good : IsLabelled m) where
    pub label_new : label_of m last ≡ empty
    label_new = past_end m.labels last empty (let long = good.one_each in omega arith)

    pub completed_last : completed_label m last ≡ empty
    completed_last = ap (completed m) label_new ∙ completed_empty

    pub constraint_new : (c : Constraint) → IsConstraint m.base c → IsConstraint S.base c
    constraint_new c is = record {
      from = (let inside = is.from in let more = count_is in omega arith);
      to = (let inside = is.to in let more = count_is in omega arith);
      plain = is.plain;
      observed = λ p marked. let o = is.observed p marked in (o.0, observes_new o.0 p o.1);
    }

    -- a time-point is one of those before, or the further one
    module _ (P : ℕ → Type 0) (before : (x : ℕ) → x < last → P x) (here : P last) where
      pub by_point : (x : ℕ) → x < count S.base → P x
      by_point x inside = elim (cases_lt x last) [
        | inl old ↦ before x old
        | inr new ↦ let more = count_is in let same : last ≡ x = omega arith in subst P same here
      ]

    pub stepped_formed : last < most_time_points → IsWellFormed S.base
    stepped_formed few = record {
      network = record {
        origin = (let more = count_is in omega arith);
        one_observer = λ x y p o q. good.base.network.one_observer x y p (observes_old x p o) (observes_old y p q);
        reacts = λ x p o. good.base.network.reacts x p (observes_old x p o);
        constraints = All-weaker (IsConstraint m.base) (IsConstraint S.base) constraint_new m.base.constraints good.base.network.constraints;
      };
      few_points = (let more = count_is in omega arith);
      letters = λ x p o. good.base.letters x p (observes_old x p o);
      soon = λ x p o. good.base.soon x p (observes_old x p o);
      few_constraints = good.base.few_constraints;
      ascending = good.base.ascending;
      values = good.base.values;
      in_time = good.base.in_time;
    }

    pub stepped_labelled : last < most_time_points → IsLabelled S
    stepped_labelled few = record {
      base = stepped_formed few;
      one_each = length-append m.labels (empty ∷ []) ∙ ap (λ n. n + 1) good.one_each ∙ sym count_is;
      origin = label_same 0 ∙ good.origin;
      plain = by_point (λ x. IsPlain (label_of S x)) (λ x old. subst IsPlain (sym (label_same x)) (good.plain x old))
          (subst IsPlain (sym (label_same last ∙ label_new)) (λ p. tt));
      observed = by_point (λ x. IsOnObserved S.base (label_of S x))
          (λ x old p marked.
          let o = subst (IsOnObserved m.base) (sym (label_same x)) (good.observed x old) p marked in
          (o.0, observes_new o.0 p o.1))
          (λ p marked. absurd (marked (ap (λ (a : Label). a p) (label_same last ∙ label_new))));
      no_circle = λ x p o. ap (λ (a : Label). a p) (label_stays x) ∙ good.no_circle x p (observes_old x p o);
      completed_plain = by_point (λ x. IsPlain (completed_label S x)) (λ x old. subst IsPlain (sym (label_stays x)) (good.completed_plain x old))
          (subst IsPlain (sym (label_stays last ∙ completed_last)) (λ p. tt));
    }

    module _ (h : History) (known : IsHistory m h) where
      observed_new : (p t : ℕ) → IsObservedAt m h p t → IsObservedAt S h p t
      observed_new p t o = record { observer = o.observer; observes = observes_new o.observer p o.observes; done = o.done }

      observed_old : (p t : ℕ) → IsObservedAt S h p t → IsObservedAt m h p t
      observed_old p t o = record { observer = o.observer; observes = observes_old o.observer p o.observes; done = o.done }

      -- what has happened is a history of it
      pub stepped_history : IsHistory S h
      stepped_history = record {
        origin = known.origin;
        inside = λ x t e. (let old = known.inside x t e in let more = count_is in omega arith);
        past = known.past;
        told = λ p v e. let o = known.told p v e in (o.0, observed_new p o.0 o.1);
        expected = λ p u e. let o = known.expected p u e in (o.0, o.1, observed_new p o.0 o.2);
        settled = λ x t e. subst (Settles h) (sym (label_stays x)) (known.settled x t e);
        ready = λ x past. known.ready x (let more = count_is in omega arith);
      }

      pub stepped_timely : IsInTime m h → IsTimelyHistory S h
      stepped_timely timely = record {
        history = stepped_history;
        in_time = record { now = timely.now; expected = timely.expected; origin = λ p u e o. timely.origin p u e (observes_old 0 p o); ready = timely.ready };
      }

      not_done : h.done last ≡ None
      not_done = elim (some_or_none (h.done last)) [
        | inl done ↦ let old = known.inside last done.0 done.1 in absurd (omega arith)
        | inr none ↦ none
      ]

      executed_new : (s : Scenario) (x : ℕ) → IsExecuted m s x → IsExecuted S s x
      executed_new s x e = subst (Holds s) (sym (label_stays x)) e

      executed_old : (s : Scenario) (x : ℕ) → IsExecuted S s x → IsExecuted m s x
      executed_old s x e = subst (Holds s) (label_stays x) e

      executed_last : (s : Scenario) → IsExecuted S s last
      executed_last s = subst (Holds s) (sym (label_stays last ∙ completed_last)) (λ p. tt)

      last_limit : limit S.base last ≡ m.base.deadline
      last_limit = limit_same last ∙ limit_is m.base last good.base.network.origin

      known_old : (s : Scenario) (at : Schedule) (u p : ℕ) → IsKnownAfter S h s at u p → IsKnownAfter m h s at u p
      known_old s at u p (inl told) = inl told
      known_old s at u p (inr (inl d)) = inr (inl (record { since = d.since; observed = observed_old p d.since d.observed; passed = d.passed }))
      known_old s at u p (inr (inr c)) = inr (inr (record {
        observer = c.observer;
        observes = observes_old c.observer p c.observes;
        coming = c.coming;
        executed = executed_old s c.observer c.executed;
        passed = c.passed;
      }))

      -- ---- what could go on can go on

      module _ (table : Table) (goes : Continues m h table) (now : h.now ≤ m.base.deadline) where
        -- the table in which the further time-point is at once
        abbrev more : Table
        more = λ s x. cond (x == last) h.now (table s x)

        at_old : (s : Scenario) (x : ℕ) → x < last → more s x ≡ table s x
        at_old s x old = cond-false (x == last) h.now (table s x) (ne_eqb x last (λ same. omega arith))

        at_last : (s : Scenario) → more s last ≡ h.now
        at_last s = cond-true (last == last) h.now (table s last) (eq-eqb last last refl)

        known_new : (s : Scenario) (u p : ℕ) → IsKnownAfter m h s (table s) u p → IsKnownAfter S h s (more s) u p
        known_new s u p (inl told) = inl told
        known_new s u p (inr (inl d)) = inr (inl (record { since = d.since; observed = observed_new p d.since d.observed; passed = d.passed }))
        known_new s u p (inr (inr c)) = inr (inr (record {
          observer = c.observer;
          observes = observes_new c.observer p c.observes;
          coming = c.coming;
          executed = executed_new s c.observer c.executed;
          passed = (let same = at_old s c.observer (observer_within m.base c.observer p c.observes) in let upto = c.passed in omega arith);
        }))

        ends_of : (c : Constraint) → Contains m.base.constraints c → IsConstraint m.base c
        ends_of c has = All-contains (IsConstraint m.base) m.base.constraints c good.base.network.constraints has

        more_continues : Continues S h more
        more_continues = record {
          done = λ s x t agrees e. at_old s x (known.inside x t e) ∙ goes.done s x t agrees e;
          in_time = λ s x t agrees e. subst (λ n. t ≤ n) (sym (limit_same x)) (goes.in_time s x t agrees e);
          from_soonest = λ s x agrees here.
              by_point (λ y. h.done y ≡ None → IsExecuted S s y → soonest h y ≤ more s y)
              (λ y old none e. subst (λ n. soonest h y ≤ n) (sym (at_old s y old)) (goes.from_soonest s y agrees old none (executed_old s y e)))
              (λ none e. let same = at_last s in let ready = known.ready last (omega arith) in omega arith) x here;
          within = λ s x agrees here.
              by_point (λ y. h.done y ≡ None → IsExecuted S s y → more s y ≤ limit S.base y)
              (λ y old none e.
              let same = at_old s y old in
              let upto = goes.within s y agrees old none (executed_old s y e) in
              let limits = limit_same y in
              omega arith)
              (λ none e. let same = at_last s in let limits = last_limit in omega arith) x here;
          meets = λ s c agrees has force.
              let ends = ends_of c has in
              let met = goes.meets s c agrees has (subst (Holds s) (full_stays c) force) in
              subst (λ (t : ℕ). (pos t -ℤ pos (more s c.from)) ≤ℤ c.most) (sym (at_old s c.to ends.to))
              (subst (λ (t : ℕ). (pos (table s c.to) -ℤ pos t) ≤ℤ c.most) (sym (at_old s c.from ends.from)) met);
          dynamic = λ s r x of_s of_r here.
              by_point (λ y. h.done y ≡ None → IsExecuted S s y → ((p : ℕ) → IsKnownAfter S h s (more s) (more s y) p → r p ≡ s p) →
              IsExecuted S r y × (more r y ≡ more s y))
              (λ y old none e agrees.
              let both = goes.dynamic s r y of_s of_r old none (executed_old s y e)
              (λ p k. agrees p (subst (λ n. IsKnownAfter S h s (more s) n p) (sym (at_old s y old)) (known_new s (table s y) p k))) in
              (executed_new r y both.0, at_old r y old ∙ both.1 ∙ sym (at_old s y old)))
              (λ none e agrees. (executed_last r, at_last r ∙ sym (at_last s))) x here;
        }

      less_continues : (table : Table) → Continues S h table → Continues m h table
      less_continues table goes = record {
        done = goes.done;
        in_time = λ s x t agrees e. subst (λ n. t ≤ n) (limit_same x) (goes.in_time s x t agrees e);
        from_soonest = λ s x agrees here none e. goes.from_soonest s x agrees (inside x here) none (executed_new s x e);
        within = λ s x agrees here none e. subst (λ n. table s x ≤ n) (limit_same x) (goes.within s x agrees (inside x here) none (executed_new s x e));
        meets = λ s c agrees has force. goes.meets s c agrees has (subst (Holds s) (sym (full_stays c)) force);
        dynamic = λ s r x of_s of_r here none e agrees.
            let both = goes.dynamic s r x of_s of_r (inside x here) none (executed_new s x e) (λ p k. agrees p (known_old s (table s) (table s x) p k)) in
            (executed_old r x both.0, both.1);
      }
        where
          inside : (x : ℕ) → x < last → x < count S.base
          inside x here = let more = count_is in omega arith

      in_time_left : (table : Table) → Continues S h table → h.now ≤ m.base.deadline
      in_time_left table goes =
          let s = as_told h (λ p. false) in
          let agrees = told_agrees h (λ p. false) in
          let here : last < count S.base = let more = count_is in omega arith in
          let low = goes.from_soonest s last agrees here not_done (executed_last s) in
          let high = goes.within s last agrees here not_done (executed_last s) in
          let limits = last_limit in
          omega arith

      -- what has happened can go on with the further time-point exactly where it can without it and it isn't past the deadline
      pub stepped_goes : Can S h ↔ (Can m h × (h.now ≤ m.base.deadline))
      stepped_goes = (
        λ can. ((can.0, less_continues can.0 can.1), in_time_left can.0 can.1),
        λ both. (more both.0.0 both.0.1 both.1, more_continues both.0.0 both.0.1 both.1),
      )

-- what has happened is what had happened, whose time-points have a place each
pub placed_same : (h : HistoryParts) → the_history (with_place h) ≡ the_history h
placed_same h =
    ap (λ (f : ℕ → Option ℕ). record (the_history (with_place h)) { done = f }) (fun_ext (λ x. at_end h.done x None))
    ∙ ap (λ (f : ℕ → ℕ). record (the_history h) { ready = f }) (fun_ext (λ x. at_end h.ready x 0))

pub placed_kept : (m : Labelled) (h : HistoryParts) → IsLabelled m → IsKeptFor m h → IsKeptFor (stepped m) (with_place h)
placed_kept m h good kept =
    let timely = stepped_timely m good (the_history h) kept.history kept.in_time in
    let same = sym (placed_same h) in
    record {
      one_each = length-append h.done (None ∷ []) ∙ ap (λ n. n + 1) kept.one_each ∙ sym (count_is m);
      wide = kept.wide;
      ready_each = length-append h.ready (0 ∷ []) ∙ ap (λ n. n + 1) kept.ready_each ∙ sym (count_is m);
      history = subst (IsHistory (stepped m)) same timely.history;
      in_time = subst (IsInTime (stepped m)) same timely.in_time;
    }
