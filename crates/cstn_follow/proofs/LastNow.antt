-- Until when nothing at all may happen.
use Rattle.std.proofs.Common.{ℕ, zero, suc, ◌≡◌, ◌<◌, ◌≤◌, inl, inr, Bool, true, false, not, ◌&&◌, ◌||◌, Option, Some, None, arith, refl, sym, subst, ap, ◌∙◌}
use Rattle.std.specs.Prelude.{max, if◌then◌else◌}
use Rattle.std.specs.Option.{is_some}
use Rattle.std.specs.List.{All}
use Rattle.std.proofs.lemmas.Bool.{cases_lt, cases_eq, both_ways, and_parts}
use Rattle.cstn_label.specs.Labels.{Scenario}
use Rattle.cstn_net.specs.Limits.{most_deadline}
use Rattle.cstn_net.specs.Networks.{count, limit}
use Rattle.cstn_net.specs.Strategies.{Table}
use Rattle.cstn_lift.specs.Labelled.{Labelled}
use Rattle.cstn_lift.specs.Completion.{completed_label}
use Rattle.cstn_lift.specs.Strategies.{IsExecuted}
use Rattle.cstn_lift.specs.WellFormed.{IsLabelled}
use Rattle.cstn_check.specs.Search.{halving}
use Rattle.cstn_check.specs.declared.verdicts.Verdict.{Verdict}
use Rattle.cstn_check.specs.declared.verdicts.Verdict.TheVariants.{Yes, No, Full}
use Rattle.cstn_check.proofs.Halves.{last_found}
use Rattle.cstn_history.specs.Histories.{History, IsTimelyHistory, AgreesWith, allows, is_done, known_at, soonest}
use Rattle.cstn_history.specs.Continuations.{Continues, Can, IsKnownAfter}
use Rattle.cstn_history.specs.Facts.{now_refusal, at_now, with_ready}
use Rattle.cstn_history.proofs.Recorded.{timely_now, ready_there, ready_other}
use Rattle.cstn_history.proofs.Settled.{allows_true, holds_allows}
use Rattle.cstn_follow.specs.Eased.{IsEased}
use Rattle.cstn_follow.specs.Following.{any_below, verdict_left}
use Rattle.cstn_follow.specs.Pauses.{said_of, is_undone, is_any_undone, is_any_left, IsLastNow, said_at, pause_found, has_room_later, pause_until}
use Rattle.cstn_follow.specs.Pauses.{pause_by, pause_of, IsPauseFull, IsRightPause}
use Rattle.cstn_follow.specs.declared.answers.Pause.TheVariants.{Finished, TooManyConstraints}
use Rattle.cstn_follow.proofs.AllDone.{any_false, somewhere, none_open}
use Rattle.cstn_follow.proofs.GoesOn.{verdict_right}
use Rattle.cstn_follow.proofs.Halved.{none_within}
use Rattle.cstn_follow.proofs.Roomy.{now_fits}
use Rattle.cstn_follow.proofs.Undone.{not_some}

-- ---- earlier is no worse

max_upto : (a b u : ℕ) → a ≤ u → b ≤ u → max a b ≤ u
max_upto a b u = grind arith

now_upto : (h : History) (x u : ℕ) → soonest h x ≤ u → h.now ≤ u
now_upto h x u upto = omega arith

module _ (m : Labelled) (h g : History) (table : Table) (eased : IsEased m h g) (goes : Continues m h table) where
  agrees_too : (s : Scenario) → AgreesWith g s → AgreesWith h s
  agrees_too s agrees p v e = agrees p v (eased.told p ∙ e)

  was : (x : ℕ) (o : Option ℕ) → g.done x ≡ o → h.done x ≡ o
  was x o e = sym (eased.done x) ∙ e

  -- what is known at a moment from now on is known at it
  known_still : (s : Scenario) (u p : ℕ) → h.now ≤ u → IsKnownAfter m h s (table s) u p → IsKnownAfter m g s (table s) u p
  known_still s u p from (inl told) = inl (told.0, eased.told p ∙ told.1)
  known_still s u p from (inr (inl d)) =
      let sooner = eased.known p d.since d.observed in
      let passed : known_at m h p d.since ≤ u = d.passed in
      let upto = max_upto h.now (known_at m h p d.since) u from passed in
      inr (inl (record {
        since = d.since;
        observed = record { observer = d.observed.observer; observes = d.observed.observes; done = eased.done d.observed.observer ∙ d.observed.done };
        passed = omega arith;
      }))
  known_still s u p from (inr (inr c)) = inr (inr (record {
    observer = c.observer;
    observes = c.observes;
    coming = eased.done c.observer ∙ c.coming;
    executed = c.executed;
    passed = c.passed;
  }))

  pub eased_continues : Continues m g table
  eased_continues = record {
    done = λ s x t agrees e. goes.done s x t (agrees_too s agrees) (was x (Some t) e);
    in_time = λ s x t agrees e. goes.in_time s x t (agrees_too s agrees) (was x (Some t) e);
    from_soonest = λ s x agrees here none e.
        let from = goes.from_soonest s x (agrees_too s agrees) here (was x None none) e in
        let low = eased.now in
        let ready = eased.ready x in
        omega arith;
    within = λ s x agrees here none e. goes.within s x (agrees_too s agrees) here (was x None none) e;
    meets = λ s c agrees has force. goes.meets s c (agrees_too s agrees) has force;
    dynamic = λ s r x of_s of_r here none e agrees.
        let from = now_upto h x (table s x) (goes.from_soonest s x (agrees_too s of_s) here (was x None none) e) in
        goes.dynamic s r x (agrees_too s of_s) (agrees_too r of_r) here (was x None none) e
        (λ p k. agrees p (known_still s (table s x) p from k));
  }

-- what was to be known by a moment is so whatever time it is
pub max_over : (a b : ℕ) → b ≤ max a b
max_over a b = grind arith

pub at_eased : (m : Labelled) (h : History) (t u : ℕ) → t ≤ u → IsEased m (at_now h u) (at_now h t)
at_eased m h t u upto = record { now = upto; done = λ x. refl; told = λ p. refl; ready = λ x. omega arith; known = λ p since o. max_over u (known_at m h p since) }

-- a time-point that is ready earlier
pub ready_eased : (m : Labelled) (h : History) (t u x : ℕ) → t ≤ u → IsEased m (with_ready h u x) (with_ready h t x)
ready_eased m h t u x upto = record {
  now = omega arith;
  done = λ y. refl;
  told = λ p. refl;
  ready = λ y. elim (cases_eq y x) [
    | inl same ↦
        let soon = ready_there h.ready x t y same in
        let late = ready_there h.ready x u y same in
        omega arith
    | inr other ↦
        let soon = ready_other h.ready x t y other in
        let late = ready_other h.ready x u y other in
        omega arith
  ];
  known = λ p since o. max_over h.now (known_at m h p since);
}

pub sooner : (m : Labelled) (h : History) (t u : ℕ) → t ≤ u → Can m (at_now h u) → Can m (at_now h t)
sooner m h t u upto can = (can.0, eased_continues m (at_now h u) (at_now h t) can.0 (at_eased m h t u upto) can.1)

-- ---- a time-point that is left to be done

abbrev IsSome : (ℕ → Bool) → ℕ → Type 0
IsSome test n = (x : ℕ) × (x < n) × (test x ≡ true)

any_by : (test : ℕ → Bool) (n : ℕ) (a b : Bool) → any_below test n ≡ a → test n ≡ b → (a || b) ≡ true → (any_below test n ≡ true → IsSome test n)
    → IsSome test (suc n)
any_by test n a true below here some earlier = (n, (omega arith), here)
any_by test n true false below here some earlier = let x = earlier below in (x.0, (let less = x.1 in omega arith), x.2)
any_by test n false false below here some earlier = absurd (cc)

any_true : (test : ℕ → Bool) (n : ℕ) → any_below test n ≡ true → IsSome test n
any_true test zero none = absurd (cc)
any_true test (suc n) some = any_by test n (any_below test n) (test n) refl refl some (any_true test n)

limit_upto : (m : Labelled) (y : ℕ) → limit m.base y ≤ m.base.deadline
limit_upto m zero = omega arith
limit_upto m (suc y) = omega arith

module _ (m : Labelled) (h : History) (fresh cap : ℕ) (good : IsLabelled m) (timely : IsTimelyHistory m h) (above : All (λ c. c.id < fresh) m.base.constraints) where
  never_refused : (t : ℕ) → t ≤ most_deadline → now_refusal h (max h.now t) ≡ None
  never_refused t upto = let low = timely.in_time.now in grind arith

  at_timely : (t : ℕ) → t ≤ most_deadline → IsTimelyHistory m (at_now h (max h.now t))
  at_timely t upto = timely_now m h (max h.now t) timely.history timely.in_time (never_refused t upto)

  pub said_goes : (g : History) → IsTimelyHistory m g → said_of (verdict_left m g fresh cap) ≡ Some true → Can m g
  said_goes g known says = by_verdict (verdict_left m g fresh cap) refl says
    where
      by_verdict : (o : Option Verdict) → verdict_left m g fresh cap ≡ o → said_of o ≡ Some true → Can m g
      by_verdict None is e = absurd (cc)
      by_verdict (Some (Yes load)) is e = verdict_right m g fresh cap (Yes load) good known above is
      by_verdict (Some (No load)) is e = absurd (cc)
      by_verdict (Some Full) is e = absurd (cc)

  pub said_stops : (g : History) → IsTimelyHistory m g → said_of (verdict_left m g fresh cap) ≡ Some false → Can m g → ⊥
  said_stops g known says = by_verdict (verdict_left m g fresh cap) refl says
    where
      by_verdict : (o : Option Verdict) → verdict_left m g fresh cap ≡ o → said_of o ≡ Some false → Can m g → ⊥
      by_verdict None is e = absurd (cc)
      by_verdict (Some (Yes load)) is e = absurd (cc)
      by_verdict (Some (No load)) is e = verdict_right m g fresh cap (No load) good known above is
      by_verdict (Some Full) is e = absurd (cc)

  abbrev Goes : ℕ → Type 0
  Goes t = Can m (at_now h t)

  holds : (t : ℕ) → t ≤ most_deadline → said_at m h fresh cap t ≡ Some true → Goes t
  holds t upto says =
      sooner m h t (max h.now t) (max_over h.now t) (said_goes (at_now h (max h.now t)) (at_timely t upto) says)

  module _ (can : Can m h) where
    fails : (t : ℕ) → t ≤ most_deadline → said_at m h fresh cap t ≡ Some false → Goes t → ⊥
    fails t upto says goes = elim (cases_lt t h.now) [
      | inl less ↦
          let same : max h.now t ≡ h.now = grind arith in
          said_stops (at_now h (max h.now t)) (at_timely t upto) says (subst (λ u. Can m (at_now h u)) (sym same) can)
      | inr late ↦
          let same : max h.now t ≡ t = grind arith in
          said_stops (at_now h (max h.now t)) (at_timely t upto) says (subst (λ u. Can m (at_now h u)) (sym same) goes)
    ]

    -- a time-point that is left to be done is executed somewhere by the deadline
    bounded : is_any_undone m h ≡ true → (u : ℕ) → Goes u → u ≤ m.base.deadline
    bounded some u goes =
        let x = any_true (is_undone m h) (count m.base) some in
        let two = and_parts (not (is_done h x.0)) (allows h (completed_label m x.0)) x.2 in
        let none = not_some (h.done x.0) two.0 in
        let w = somewhere m h x.0 good timely.history x.1 two.1 in
        let from = goes.1.from_soonest w.0 x.0 w.1 x.1 none w.2 in
        let upto = goes.1.within w.0 x.0 w.1 x.1 none w.2 in
        let last = limit_upto m x.0 in
        omega arith

    -- where none is left, it makes no difference what time it is
    whenever : is_any_undone m h ≡ false → (t : ℕ) → Goes t
    whenever over t = (
      can.0,
      record {
        done = can.1.done;
        in_time = can.1.in_time;
        from_soonest = λ s x agrees here none e. absurd (gone s x agrees here none e);
        within = can.1.within;
        meets = can.1.meets;
        dynamic = λ s r x of_s of_r here none e agrees. absurd (gone s x of_s here none e);
      },
    )
      where
        gone : (s : Scenario) (x : ℕ) → AgreesWith h s → x < count m.base → h.done x ≡ None → IsExecuted m s x → ⊥
        gone s x agrees here none e =
            let open_ = allows_true h (completed_label m x) (holds_allows h (completed_label m x) s agrees e) in
            let undone : is_undone m h x ≡ true = ap (λ o. not (is_some o) && allows h (completed_label m x)) none ∙ open_ in
            both_ways (is_undone m h x) (any_false (is_undone m h) (count m.base) x over here) undone

    found_by : (b : Bool) → is_any_undone m h ≡ b → (t : ℕ)
        → (if b then halving (said_at m h fresh cap) 20 (record { low = h.now; high = m.base.deadline }) else Some most_deadline) ≡ Some t → IsLastNow m h t
    found_by true some t e =
        let in_time = good.base.in_time in
        let high = bounded some in
        let last = last_found (said_at m h fresh cap) Goes most_deadline holds fails (λ t u upto goes. sooner m h t u upto goes) 20
        (record { low = h.now; high = m.base.deadline }) t (record { low = can; high = high; upto = in_time }) (omega arith) e in
        let from = last.1 h.now can in
        let upto = high t last.0 in
        record { from = from; upto = omega arith; goes = last.0; last = λ u within goes. last.1 u goes }
    found_by false over t e =
        let at : most_deadline ≡ t = cc in
        subst (IsLastNow m h) at (record { from = timely.in_time.now; upto = omega arith; goes = whenever over most_deadline; last = λ u within goes. within })

    pub pause_is_last : (t : ℕ) → pause_found m h fresh cap ≡ Some t → IsLastNow m h t
    pause_is_last t e = found_by (is_any_undone m h) refl t e

  -- ---- the answer

  module _ (v : Verdict) (is : verdict_left m h fresh cap ≡ Some v) where
    full_at : has_room_later m h fresh ≡ true → (t : ℕ) → t ≤ most_deadline → said_at m h fresh cap t ≡ None → IsPauseFull m h fresh cap
    full_at room t upto said = by_verdict (verdict_left m (at_now h (max h.now t)) fresh cap) refl said
      where
        by_verdict : (o : Option Verdict) → verdict_left m (at_now h (max h.now t)) fresh cap ≡ o → said_of o ≡ None → IsPauseFull m h fresh cap
        by_verdict None none e = absurd (now_fits m h fresh cap (max h.now t) v is room none)
        by_verdict (Some (Yes load)) some e = absurd (cc)
        by_verdict (Some (No load)) some e = absurd (cc)
        by_verdict (Some Full) some e =
            inr (max h.now t, verdict_right m (at_now h (max h.now t)) fresh cap Full good (at_timely t upto) above some)

    -- where nothing is found, a log that is tried is full
    none_full : Can m h → has_room_later m h fresh ≡ true → (b : Bool) → is_any_undone m h ≡ b
        → (if b then halving (said_at m h fresh cap) 20 (record { low = h.now; high = m.base.deadline }) else Some most_deadline) ≡ None → IsPauseFull m h fresh cap
    none_full can room true some none =
        let in_time = good.base.in_time in
        let there = none_within (said_at m h fresh cap) 20 (record { low = h.now; high = m.base.deadline }) (bounded can some h.now can) none in
        full_at room there.0 (let upto = there.2 in omega arith) there.3
    none_full can room false over none = absurd (cc)

    right_until : Can m h → has_room_later m h fresh ≡ true → (o : Option ℕ) → pause_found m h fresh cap ≡ o → IsRightPause m h fresh cap (pause_until o)
    right_until can room None e = none_full can room (is_any_undone m h) refl e
    right_until can room (Some t) e = pause_is_last can t e

    right_after : Can m h → has_room_later m h fresh ≡ true → (b : Bool) → is_any_left m h ≡ b
        → IsRightPause m h fresh cap (if b then pause_until (pause_found m h fresh cap) else Finished)
    right_after can room true some = right_until can room (pause_found m h fresh cap) refl
    right_after can room false over = (can, none_open m h good timely.history over)

  right_by : (v : Verdict) → verdict_left m h fresh cap ≡ Some v → has_room_later m h fresh ≡ true → IsRightPause m h fresh cap (pause_by m h fresh cap v)
  right_by (Yes load) is room =
      right_after (Yes load) is (verdict_right m h fresh cap (Yes load) good timely above is) room (is_any_left m h) refl
  right_by (No load) is room = verdict_right m h fresh cap (No load) good timely above is
  right_by Full is room = inl (verdict_right m h fresh cap Full good timely above is)

  right_if : (b : Bool) → has_room_later m h fresh ≡ b → (v : Verdict) → verdict_left m h fresh cap ≡ Some v
      → IsRightPause m h fresh cap (if b then pause_by m h fresh cap v else TooManyConstraints)
  right_if true room v is = right_by v is room
  right_if false room v is = room

  pub right_pause : (v : Verdict) → verdict_left m h fresh cap ≡ Some v → IsRightPause m h fresh cap (pause_of m h fresh cap v)
  right_pause v is = right_if (has_room_later m h fresh) refl v is
