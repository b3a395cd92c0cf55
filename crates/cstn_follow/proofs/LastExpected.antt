-- Until when an outcome may be late.
use Rattle.std.proofs.Common.{ℕ, zero, suc, ◌≡◌, ◌+◌, ◌<◌, ◌≤◌, inl, inr, Bool, true, false, Option, Some, None, arith, refl, sym, subst, ap, ◌∙◌}
use Rattle.std.specs.Prelude.{max, min, cond, not, ◌&&◌, nat_lt, nat_le, if◌then◌else◌}
use Rattle.std.specs.List.{All}
use Rattle.std.proofs.lemmas.Bool.{cases_eq, eq-eqb, ne_eqb, ltb-true, ltb-false}
use Rattle.cstn_net.specs.Limits.{most_deadline, most_reaction}
use Rattle.cstn_net.specs.Networks.{Observes}
use Rattle.cstn_lift.specs.Labelled.{Labelled}
use Rattle.cstn_lift.specs.Lowered.{observer_of}
use Rattle.cstn_lift.specs.WellFormed.{IsLabelled}
use Rattle.cstn_lift.proofs.LoweredLemmas.{observer_back, observer_found}
use Rattle.cstn_check.specs.Search.{halving}
use Rattle.cstn_check.specs.declared.verdicts.Verdict.{Verdict}
use Rattle.cstn_check.specs.declared.verdicts.Verdict.TheVariants.{Yes, No, Full}
use Rattle.cstn_check.proofs.Halves.{last_found}
use Rattle.cstn_history.specs.Continuations.{Can}
use Rattle.cstn_history.specs.Facts.{FactRefusal, OutOfRange, expected_after, again_expected, since, observed_since, latest_expected, expected_refusal, with_expected}
use Rattle.cstn_history.specs.Histories.{History, IsTimelyHistory, IsInTime, IsObservedAt, or_at, known_at}
use Rattle.cstn_history.proofs.Recorded.{timely_expected, latest_upto}
use Rattle.cstn_follow.specs.Eased.{IsEased}
use Rattle.cstn_follow.specs.Following.{verdict_left}
use Rattle.cstn_follow.specs.Lateness.{late_never, late_most, IsLastExpected, IsNeverInTime, unless_expected}
use Rattle.cstn_follow.specs.Lateness.{said_late, late_found, late_possible, late_first, late_tried, late_stuck, late_by, late_untold, late_since}
use Rattle.cstn_follow.specs.Lateness.{late_of, IsLateFull, IsRightLate}
use Rattle.cstn_follow.specs.Pauses.{said_of}
use Rattle.cstn_follow.proofs.GoesOn.{verdict_right}
use Rattle.cstn_follow.proofs.Halved.{none_within}
use Rattle.cstn_follow.proofs.LastNow.{max_over, eased_continues, said_goes, said_stops}
use Rattle.cstn_follow.proofs.Roomy.{expected_fits}

-- ---- an outcome that is expected earlier

expected_there : (h : History) (t p q : ℕ) → q ≡ p → (with_expected h t p).expected q ≡ Some t
expected_there h t p q same = ap (λ b. cond b (Some t) (h.expected q)) (eq-eqb q p same)

expected_other : (h : History) (t p q : ℕ) → (q ≡ p → ⊥) → (with_expected h t p).expected q ≡ h.expected q
expected_other h t p q other = ap (λ b. cond b (Some t) (h.expected q)) (ne_eqb q p other)

known_there : (m : Labelled) (h : History) (t p q u : ℕ) → q ≡ p → known_at m (with_expected h t p) q u ≡ t
known_there m h t p q u same = ap (λ o. or_at o (u + m.base.reaction q)) (expected_there h t p q same)

known_other : (m : Labelled) (h : History) (t p q u : ℕ) → (q ≡ p → ⊥) → known_at m (with_expected h t p) q u ≡ known_at m h q u
known_other m h t p q u other = ap (λ o. or_at o (u + m.base.reaction q)) (expected_other h t p q other)

-- an outcome that is expected no later than it is known, or than now
pub expected_eased : (m : Labelled) (h : History) (t p : ℕ) → ((u : ℕ) → IsObservedAt m h p u → t ≤ max h.now (known_at m h p u))
    → IsEased m h (with_expected h t p)
expected_eased m h t p soon = record {
  now = omega arith;
  done = λ x. refl;
  told = λ q. refl;
  ready = λ x. omega arith;
  known = λ q u o. elim (cases_eq q p) [
    | inl same ↦
        let at = known_there m h t p q u same in
        let there : IsObservedAt m h p u = subst (λ r. IsObservedAt m h r u) same o in
        let upto = subst (λ r. t ≤ max h.now (known_at m h r u)) (sym same) (soon u there) in
        omega arith
    | inr other ↦ let at = known_other m h t p q u other in let low = max_over h.now (known_at m h q u) in omega arith
  ];
}

-- an outcome that is expected earlier
pub earlier_eased : (m : Labelled) (h : History) (t u p : ℕ) → t ≤ max h.now u → IsEased m (with_expected h u p) (with_expected h t p)
earlier_eased m h t u p upto = record {
  now = omega arith;
  done = λ x. refl;
  told = λ q. refl;
  ready = λ x. omega arith;
  known = λ q since o. elim (cases_eq q p) [
    | inl same ↦
        let at = known_there m h t p q since same in
        let was = known_there m h u p q since same in
        let goal : t ≤ max h.now (known_at m (with_expected h u p) q since) = subst (λ k. t ≤ max h.now k) (sym was) upto in
        omega arith
    | inr other ↦
        let at = known_other m h t p q since other in
        let was = known_other m h u p q since other in
        let low = max_over h.now (known_at m (with_expected h u p) q since) in
        omega arith
  ];
}

pub earlier_can : (m : Labelled) (h : History) (t u p : ℕ) → t ≤ max h.now u → Can m (with_expected h u p) → Can m (with_expected h t p)
earlier_can m h t u p upto can =
    (can.0, eased_continues m (with_expected h u p) (with_expected h t p) can.0 (earlier_eased m h t u p upto) can.1)

-- to be expected when it is known anyhow makes no difference, nor does a moment that is over, where it is known by then
pub same_eased : (m : Labelled) (h : History) (t p : ℕ) → ((u : ℕ) → IsObservedAt m h p u → known_at m h p u ≤ max h.now t)
    → IsEased m (with_expected h t p) h
same_eased m h t p soon = record {
  now = omega arith;
  done = λ x. refl;
  told = λ q. refl;
  ready = λ x. omega arith;
  known = λ q u o. elim (cases_eq q p) [
    | inl same ↦
        let was = known_there m h t p q u same in
        let there : IsObservedAt m h p u = record { observer = o.observer; observes = subst (Observes m.base o.observer) same o.observes; done = o.done } in
        let upto = subst (λ r. known_at m h r u ≤ max h.now t) (sym same) (soon u there) in
        let goal : known_at m h q u ≤ max h.now (known_at m (with_expected h t p) q u) = subst (λ k. known_at m h q u ≤ max h.now k) (sym was) upto in
        goal
    | inr other ↦
        let was = known_other m h t p q u other in
        let low = max_over h.now (known_at m (with_expected h t p) q u) in
        omega arith
  ];
}

-- where it isn't refused to expect it, what is said is what is said of what is left then
pub late_said_by : (m : Labelled) (h later : History) (fresh cap p t : ℕ) → expected_refusal m h t p ≡ None → later ≡ with_expected h t p
    → said_of (verdict_left m later fresh cap) ≡ said_late m h fresh cap p t
late_said_by m h later fresh cap p t none is =
    ap (λ g. said_of (verdict_left m g fresh cap)) is
    ∙ sym (ap (λ o. unless_expected o (said_of (verdict_left m (with_expected h t p) fresh cap))) none)

-- where the first moment isn't too late
pub late_behind : (m : Labelled) (h : History) (fresh cap p low : ℕ) → nat_lt (late_most m p) low ≡ false
    → late_first m h fresh cap p low (said_late m h fresh cap p low) ≡ late_tried m h fresh cap p low
late_behind m h fresh cap p low upto =
    sym (ap (λ b. if b then late_never else late_first m h fresh cap p low (said_late m h fresh cap p low)) upto)

-- ---- the observer of an outcome

since_back : (h : History) (o : Option ℕ) (t : ℕ) → since h o ≡ Some t → (x : ℕ) × (o ≡ Some x) × (h.done x ≡ Some t)
since_back h None t e = absurd (cc)
since_back h (Some x) t e = (x, refl, e)

pub observed_back : (m : Labelled) (h : History) (p t : ℕ) → observed_since m h p ≡ Some t → IsObservedAt m h p t
observed_back m h p t e =
    let b = since_back h (observer_of m.base p) t e in
    record { observer = b.0; observes = observer_back m.base b.0 p b.1; done = b.2 }

pub observed_at : (m : Labelled) (h : History) → IsLabelled m → (p t : ℕ) → IsObservedAt m h p t → observed_since m h p ≡ Some t
observed_at m h good p t o = ap (since h) (observer_found m.base good.base.network o.observer p o.observes) ∙ o.done

module _ (m : Labelled) (h : History) (fresh cap : ℕ) (good : IsLabelled m) (timely : IsTimelyHistory m h) (above : All (λ c. c.id < fresh) m.base.constraints)
    (p t0 : ℕ) (is_since : observed_since m h p ≡ Some t0) where
  one_since : (u : ℕ) → IsObservedAt m h p u → u ≡ t0
  one_since u o = let at = observed_at m h good p u o in let both : ◌≡◌ {A = Option ℕ} (Some u) (Some t0) = sym at ∙ is_since in cc

  abbrev most : ℕ
  most = late_most m p

  most_upto : most ≤ most_deadline
  most_upto = latest_upto m good h timely.history timely.in_time (observer_of m.base p)

  -- an outcome of the origin is known by 1,000
  abbrev Goes : ℕ → Type 0
  Goes t = (t ≤ most) × Can m (with_expected h t p)

  said_expected : (t : ℕ) (b : Bool) → said_late m h fresh cap p t ≡ Some b
      → (expected_refusal m h t p ≡ None) × (said_of (verdict_left m (with_expected h t p) fresh cap) ≡ Some b)
  said_expected t b says = by_refusal (expected_refusal m h t p) refl says
    where
      by_refusal : (o : Option FactRefusal) → expected_refusal m h t p ≡ o → unless_expected o (said_of (verdict_left m (with_expected h t p) fresh cap)) ≡ Some b
          → (expected_refusal m h t p ≡ None) × (said_of (verdict_left m (with_expected h t p) fresh cap) ≡ Some b)
      by_refusal None none so = (none, so)
      by_refusal (Some e) some so = absurd (cc)

  holds : (t : ℕ) → said_late m h fresh cap p t ≡ Some true → Can m (with_expected h t p)
  holds t says =
      let two = said_expected t true says in
      said_goes m h fresh cap good timely above (with_expected h t p) (timely_expected m h good timely.history timely.in_time t p two.0) two.1

  fails : (t : ℕ) → said_late m h fresh cap p t ≡ Some false → Can m (with_expected h t p) → ⊥
  fails t says =
      let two = said_expected t false says in
      said_stops m h fresh cap good timely above (with_expected h t p) (timely_expected m h good timely.history timely.in_time t p two.0) two.1

  upto_most : (t : ℕ) → t ≤ most_deadline → IsInTime m (with_expected h t p) → t ≤ most
  upto_most t within in_time = by_observer (observer_of m.base p) refl
    where
      by_observer : (o : Option ℕ) → observer_of m.base p ≡ o → t ≤ latest_expected o
      by_observer None at = within
      by_observer (Some zero) at = in_time.origin p t (expected_there h t p p refl) (observer_back m.base 0 p at)
      by_observer (Some (suc x)) at = within

  goes_by : (t : ℕ) → t ≤ most_deadline → said_late m h fresh cap p t ≡ Some true → Goes t
  goes_by t within says =
      let two = said_expected t true says in
      let late = timely_expected m h good timely.history timely.in_time t p two.0 in
      (upto_most t within late.in_time, holds t says)

  -- the last moment, from one on at which it may come
  from_low : (low t : ℕ) → low ≤ most → Can m (with_expected h low p)
      → halving (said_late m h fresh cap p) 20 (record { low = low; high = most }) ≡ Some t → IsLastExpected m h p t
  from_low low t upto can e =
      let within = most_upto in
      let last = last_found (said_late m h fresh cap p) Goes most_deadline goes_by (λ u upto says goes. fails u says goes.1)
      (λ a b before goes. ((let upto_b = goes.0 in omega arith), earlier_can m h a b p (let low = max_over h.now b in omega arith) goes.1)) 20
      (record { low = low; high = most }) t (record { low = (upto, can); high = λ u goes. goes.0; upto = most_upto }) (omega arith) e in
      record { upto = last.0.0; goes = last.0.1; last = λ u before goes. last.1 u (before, goes) }

  -- a moment that comes after its observer was done, from now on, isn't refused while nothing was told
  tests : (t now u last : ℕ) → now ≤ t → u < t → t ≤ last → (not (nat_lt t now) && nat_lt u t && nat_le t last) ≡ true
  tests t now u last from after upto = grind arith

  not_refused : h.told p ≡ None → (t : ℕ) → h.now ≤ t → t0 < t → t ≤ most → expected_refusal m h t p ≡ None
  not_refused untold t from after upto =
      ap (expected_after m h t p) is_since ∙ ap (again_expected m h t p t0) untold
      ∙ ap (λ b. if b then None else Some (OutOfRange t)) (tests t h.now t0 most from after upto)

  module _ (v : Verdict) (is : verdict_left m h fresh cap ≡ Some v) (untold : h.told p ≡ None) where
    pub full_late : (t : ℕ) → h.now ≤ t → t0 < t → t ≤ most → said_late m h fresh cap p t ≡ None → IsLateFull m h fresh cap p
    full_late t from after upto said =
        let none = not_refused untold t from after upto in
        by_verdict none (verdict_left m (with_expected h t p) fresh cap) refl
        (sym (ap (λ o. unless_expected o (said_of (verdict_left m (with_expected h t p) fresh cap))) none) ∙ said)
      where
        by_verdict : expected_refusal m h t p ≡ None → (o : Option Verdict) → verdict_left m (with_expected h t p) fresh cap ≡ o → said_of o ≡ None
            → IsLateFull m h fresh cap p
        by_verdict none None some e = absurd (expected_fits m h fresh cap t p v is some)
        by_verdict none (Some (Yes load)) some e = absurd (cc)
        by_verdict none (Some (No load)) some e = absurd (cc)
        by_verdict none (Some Full) some e =
            inr (t, verdict_right m (with_expected h t p) fresh cap Full good (timely_expected m h good timely.history timely.in_time t p none) above some)

    right_found : (low : ℕ) → low ≤ most → ((t : ℕ) → low < t → t ≤ most → (h.now ≤ t) × (t0 < t)) → Can m (with_expected h low p) → (o : Option ℕ)
        → halving (said_late m h fresh cap p) 20 (record { low = low; high = most }) ≡ o → IsRightLate m h fresh cap p (late_found o)
    right_found low upto soon can None e =
        let there = none_within (said_late m h fresh cap p) 20 (record { low = low; high = most }) upto e in
        let both = soon there.0 there.1 there.2 in
        full_late there.0 both.0 both.1 there.2 there.3
    right_found low upto soon can (Some t) e = from_low low t upto can e

  -- it is known after its observer was done
  known_after : t0 < known_at m h p t0
  known_after = by_expected (h.expected p) refl (observed_back m h p t0 is_since)
    where
      by_expected : (o : Option ℕ) → h.expected p ≡ o → IsObservedAt m h p t0 → t0 < or_at o (t0 + m.base.reaction p)
      by_expected None none o = let some = good.base.network.reacts o.observer p o.observes in omega arith
      by_expected (Some e) some o =
          let there = timely.history.expected p e some in
          let same = one_since there.0 there.2 in
          let after = there.1 in
          omega arith

  min_first : (a b : ℕ) → min a b ≤ a
  min_first a b = grind arith

  min_second : (a b : ℕ) → min a b ≤ b
  min_second a b = grind arith

  min_soon : (last now known since t : ℕ) → since < known → min last (max now known) < t → t ≤ last → (now ≤ t) × (since < t)
  min_soon last now known since t after more upto = (grind arith, grind arith)

  right_possible : (v : Verdict) → verdict_left m h fresh cap ≡ Some v → h.told p ≡ None → Can m h → IsRightLate m h fresh cap p (late_possible m h fresh cap p t0)
  right_possible v is untold can =
      let low = min most (max h.now (known_at m h p t0)) in
      let eased = expected_eased m h low p (λ u o. subst (λ k. low ≤ max h.now (known_at m h p k)) (sym (one_since u o)) (min_second most (max h.now (known_at m h p t0)))) in
      right_found v is untold low (min_first most (max h.now (known_at m h p t0)))
      (λ t more upto. min_soon most h.now (known_at m h p t0) t0 t known_after more upto) (can.0, eased_continues m h (with_expected h low p) can.0 eased can.1)
      (halving (said_late m h fresh cap p) 20 (record { low = low; high = most })) refl

  abbrev first : ℕ
  first = max h.now (t0 + 1)

  -- where nothing later than now can be expected, the outcome is known by now
  known_by : most < h.now → known_at m h p t0 ≤ h.now
  known_by past = by_observer (observer_of m.base p) refl
    where
      at_origin : observer_of m.base p ≡ Some 0 → t0 ≡ 0
      at_origin at =
          let seen : h.done 0 ≡ Some t0 = sym (ap (since h) at) ∙ is_since in
          let both : ◌≡◌ {A = Option ℕ} (Some t0) (Some 0) = sym seen ∙ timely.history.origin in cc

      by_expected : (o : Option ℕ) → h.expected p ≡ o → Observes m.base 0 p → most ≡ most_reaction → t0 ≡ 0 → or_at o (t0 + m.base.reaction p) ≤ h.now
      by_expected None none o low zero_is = let soon = good.base.soon 0 p o in omega arith
      by_expected (Some e) some o low zero_is = let upto = timely.in_time.origin p e some o in omega arith

      by_observer : (o : Option ℕ) → observer_of m.base p ≡ o → known_at m h p t0 ≤ h.now
      by_observer None at = let is : most ≡ most_deadline = ap latest_expected at in let upto = timely.in_time.now in absurd (omega arith)
      by_observer (Some zero) at =
          by_expected (h.expected p) refl (observer_back m.base 0 p at) (ap latest_expected at) (at_origin at)
      by_observer (Some (suc x)) at = let is : most ≡ most_deadline = ap latest_expected at in let upto = timely.in_time.now in absurd (omega arith)

  module _ (never : Can m h → ⊥) where
    -- a moment that is over is as good as now
    over_never : (u : ℕ) → most < h.now → Can m (with_expected h u p) → ⊥
    over_never u past goes =
        let eased = same_eased m h u p (λ k o. subst (λ j. known_at m h p j ≤ max h.now u) (sym (one_since k o))
        (let known = known_by past in let low = first_over h.now u in omega arith)) in
        never (goes.0, eased_continues m (with_expected h u p) h goes.0 eased goes.1)
      where
        first_over : (a b : ℕ) → a ≤ max a b
        first_over a b = grind arith

    none_after : most < first → IsNeverInTime m h p
    none_after past k u o after upto goes =
        let same = one_since k o in
        over_never u (past_is h.now t0 most u past (omega arith) upto) goes
      where
        past_is : (now seen last u : ℕ) → last < max now (seen + 1) → seen < u → u ≤ last → last < now
        past_is now seen last u = grind arith

    none_from : said_late m h fresh cap p first ≡ Some false → IsNeverInTime m h p
    none_from says k u o after upto goes =
        let same = one_since k o in
        fails first says (earlier_can m h first u p (first_upto h.now t0 u (omega arith)) goes)
      where
        first_upto : (now seen u : ℕ) → seen < u → max now (seen + 1) ≤ max now u
        first_upto now seen u = grind arith

    first_soon : (now since t : ℕ) → max now (since + 1) < t → (now ≤ t) × (since < t)
    first_soon now since t more = (grind arith, grind arith)

    first_here : (now since : ℕ) → (now ≤ max now (since + 1)) × (since < max now (since + 1))
    first_here now since = (grind arith, grind arith)

    right_first : (v : Verdict) → verdict_left m h fresh cap ≡ Some v → h.told p ≡ None → first ≤ most → (o : Option Bool) → said_late m h fresh cap p first ≡ o → IsRightLate m h fresh cap p (late_first m h fresh cap p first o)
    right_first v is untold upto None says =
        let both = first_here h.now t0 in full_late v is untold first both.0 both.1 upto says
    right_first v is untold upto (Some true) says =
        right_found v is untold first upto (λ t more within. first_soon h.now t0 t more) (holds first says) (halving (said_late m h fresh cap p) 20 (record { low = first; high = most })) refl
    right_first v is untold upto (Some false) says = none_from says

    right_tried : (v : Verdict) → verdict_left m h fresh cap ≡ Some v → h.told p ≡ None → (b : Bool) → nat_lt most first ≡ b
        → IsRightLate m h fresh cap p (if b then late_never else late_first m h fresh cap p first (said_late m h fresh cap p first))
    right_tried v is untold true past = none_after (ltb-true most first past)
    right_tried v is untold false upto = right_first v is untold (ltb-false most first upto) (said_late m h fresh cap p first) refl

    right_stuck : (v : Verdict) → verdict_left m h fresh cap ≡ Some v → h.told p ≡ None → IsRightLate m h fresh cap p (late_stuck m h fresh cap p t0)
    right_stuck v is untold = right_tried v is untold (nat_lt most first) refl

  right_by : (v : Verdict) → verdict_left m h fresh cap ≡ Some v → h.told p ≡ None → IsRightLate m h fresh cap p (late_by m h fresh cap p t0 v)
  right_by (Yes load) is untold = right_possible (Yes load) is untold (verdict_right m h fresh cap (Yes load) good timely above is)
  right_by (No load) is untold = right_stuck (verdict_right m h fresh cap (No load) good timely above is) (No load) is untold
  right_by Full is untold = inl (verdict_right m h fresh cap Full good timely above is)

  right_untold : (v : Verdict) → verdict_left m h fresh cap ≡ Some v → (o : Option Bool) → h.told p ≡ o → IsRightLate m h fresh cap p (late_untold m h fresh cap p v t0 o)
  right_untold v is (Some value) told = told
  right_untold v is None untold = right_by v is untold

module _ (m : Labelled) (h : History) (fresh cap : ℕ) (good : IsLabelled m) (timely : IsTimelyHistory m h) (above : All (λ c. c.id < fresh) m.base.constraints)
    (p : ℕ) (v : Verdict) (is : verdict_left m h fresh cap ≡ Some v) where
  right_since : (o : Option ℕ) → observed_since m h p ≡ o → IsRightLate m h fresh cap p (late_since m h fresh cap p v o)
  right_since None none = λ u o. let some = observed_at m h good p u o in absurd (let both : ◌≡◌ {A = Option ℕ} None (Some u) = sym none ∙ some in cc)
  right_since (Some t0) some = right_untold m h fresh cap good timely above p t0 some v is (h.told p) refl

  pub right_late : IsRightLate m h fresh cap p (late_of m h fresh cap p v)
  right_late = right_since (observed_since m h p) refl
