-- What is ready, and what is awaited.
use Rattle.std.proofs.Common.{ℕ, ◌≡◌, inl, inr, ◌<◌, ◌≤◌, max, Bool, true, false, not, Option, Some, None, arith, refl, sym, subst, ap, ◌∙◌}
use Rattle.std.specs.Prelude.{if◌then◌else◌}
use Rattle.std.specs.Option.{is_some}
use Rattle.std.proofs.lemmas.Bool.{cases_Bool, false_from_ne_true, both_ways, and_parts, and_from, leb-true, le-leb}
use Rattle.cstn_label.specs.declared.marks.Mark.{Mark}
use Rattle.cstn_label.specs.declared.marks.Mark.TheVariants.{Absent}
use Rattle.cstn_label.specs.Labels.{Label, Scenario, MarkFits, IsPlain}
use Rattle.cstn_label.specs.Marks.{is_plain}
use Rattle.cstn_label.proofs.MarkLemmas.{absent_or_not}
use Rattle.cstn_label.proofs.PlainLabels.{plain_true, true_plain}
use Rattle.cstn_lift.specs.Labelled.{Labelled}
use Rattle.cstn_lift.specs.Completion.{completed_label}
use Rattle.cstn_lift.specs.Lowered.{observer_of}
use Rattle.cstn_lift.specs.Strategies.{IsExecuted}
use Rattle.cstn_lift.specs.WellFormed.{IsLabelled}
use Rattle.cstn_lift.proofs.FullLemmas.{full_on}
use Rattle.cstn_lift.proofs.LoweredLemmas.{observer_found, observer_back}
use Rattle.cstn_label.specs.OnLetters.{IsOnLetters}
use Rattle.cstn_history.specs.Histories.{History, IsObservedAt, AgreesWith, SettlesMark, is_done, known_at}
use Rattle.cstn_history.specs.Continuations.{IsAwaited}
use Rattle.cstn_history.specs.Facts.{settles, since, observed_since}
use Rattle.cstn_history.proofs.Settled.{some_or_none, as_told, told_agrees, told_same, settles_holds}
use Rattle.cstn_history.proofs.Told.{settles_true, settles_back}
use Rattle.cstn_next.specs.Next.{is_ready, awaited_since, awaited_from, is_upto}
use Rattle.cstn_next.proofs.Lists.{IsBy}

pub upto_true : (t : ℕ) (o : Option ℕ) → IsBy o t → is_upto t o ≡ true
upto_true t o by = ap (is_upto t) by.1 ∙ le-leb by.0 t by.2

pub upto_by : (t : ℕ) (o : Option ℕ) → is_upto t o ≡ true → IsBy o t
upto_by t None e = absurd (cc)
upto_by t (Some u) e = (u, refl, leb-true u t e)

not_some : (o : Option ℕ) → not (is_some o) ≡ true → o ≡ None
not_some None e = refl
not_some (Some u) e = absurd (cc)

either : (a : Mark) → MarkFits true a → MarkFits false a → a ≡ Absent
either a y n = grind arith

settled_by : (o : Option Bool) (a : Mark) → ((v : Bool) → o ≡ Some v → MarkFits v a) → (o ≡ None → a ≡ Absent) → SettlesMark o a
settled_by None a some none = none refl
settled_by (Some v) a some none = some v refl

module _ (m : Labelled) (h : History) (good : IsLabelled m) where
  on_letters : (x : ℕ) → IsOnLetters (completed_label m x)
  on_letters x p past = elim (absent_or_not (completed_label m x p)) [
    | inl none ↦ none
    | inr marked ↦
        let o = full_on m good x p marked in
        let letter = good.base.letters o.0 p o.1 in
        absurd (omega arith)
  ]

  pub ready_coming : (x : ℕ) → is_ready m h x ≡ true → h.done x ≡ None
  ready_coming x e = not_some (h.done x) (and_parts (not (is_done h x)) (settles h (completed_label m x)) e).0

  pub ready_executed : (s : Scenario) (x : ℕ) → AgreesWith h s → is_ready m h x ≡ true → IsExecuted m s x
  ready_executed s x agrees e = settles_holds h (completed_label m x) s agrees
      (settles_back h (completed_label m x) (on_letters x) (and_parts (not (is_done h x)) (settles h (completed_label m x)) e).1)

  -- what is executed in each scenario that agrees with what was told is settled by it
  pub ready_from : (x : ℕ) → h.done x ≡ None → ((s : Scenario) → AgreesWith h s → IsExecuted m s x) → is_ready m h x ≡ true
  ready_from x none always = and_from (not (is_done h x)) (settles h (completed_label m x)) (ap (λ o. not (is_some o)) none)
      (settles_true h (completed_label m x) (λ p. settled_by (h.told p) (completed_label m x p) (told p) (untold p)))
    where
      holds : (v : Bool) (p : ℕ) → MarkFits (as_told h (λ q. v) p) (completed_label m x p)
      holds v p = always (as_told h (λ q. v)) (told_agrees h (λ q. v)) p

      told : (p : ℕ) (v : Bool) → h.told p ≡ Some v → MarkFits v (completed_label m x p)
      told p v is = subst (λ w. MarkFits w (completed_label m x p)) (told_agrees h (λ q. true) p v is) (holds true p)

      untold : (p : ℕ) → h.told p ≡ None → completed_label m x p ≡ Absent
      untold p is = either (completed_label m x p)
          (subst (λ w. MarkFits w (completed_label m x p)) (told_same h (λ q. true) p is) (holds true p))
          (subst (λ w. MarkFits w (completed_label m x p)) (told_same h (λ q. false) p is) (holds false p))

  since_back : (o : Option ℕ) (t : ℕ) → since h o ≡ Some t → (x : ℕ) × (o ≡ Some x) × (h.done x ≡ Some t)
  since_back None t e = absurd (cc)
  since_back (Some x) t e = (x, refl, e)

  observed_at : (p t : ℕ) → IsObservedAt m h p t → observed_since m h p ≡ Some t
  observed_at p t o = ap (since h) (observer_found m.base good.base.network o.observer p o.observes) ∙ o.done

  observed_back : (p t : ℕ) → observed_since m h p ≡ Some t → IsObservedAt m h p t
  observed_back p t e =
      let b = since_back (observer_of m.base p) t e in
      record { observer = b.0; observes = observer_back m.base b.0 p b.1; done = b.2 }

  untold_from : (p t : ℕ) → h.told p ≡ None → observed_since m h p ≡ Some t → awaited_from m h p ≡ Some (max h.now (known_at m h p t))
  untold_from p t none e = ap (awaited_since m h p) e ∙ ap (λ o. if is_some o then None else Some (max h.now (known_at m h p t))) none

  -- from when an outcome is awaited
  pub awaited_at : (p t u : ℕ) → IsObservedAt m h p t → h.told p ≡ None → known_at m h p t ≤ u → h.now ≤ u → IsBy (awaited_from m h p) u
  awaited_at p t u o none upto from = (max h.now (known_at m h p t), untold_from p t none (observed_at p t o), omega arith)

  pub awaited_letter : (p t : ℕ) → IsObservedAt m h p t → p < 52
  awaited_letter p t o = good.base.letters o.observer p o.observes

  since_from : (p u : ℕ) (o : Option ℕ) → awaited_since m h p o ≡ Some u →
      (t : ℕ) × (o ≡ Some t) × (h.told p ≡ None) × (u ≡ max h.now (known_at m h p t))
  since_from p u None e = absurd (cc)
  since_from p u (Some t) e = elim (some_or_none (h.told p)) [
    | inl told ↦
        let gone : awaited_since m h p (Some t) ≡ None = ap (λ o. if is_some o then None else Some (max h.now (known_at m h p t))) told.1 in
        absurd (cc)
    | inr none ↦
        let at : awaited_since m h p (Some t) ≡ Some (max h.now (known_at m h p t)) =
        ap (λ o. if is_some o then None else Some (max h.now (known_at m h p t))) none in
        (t, refl, none, cc)
  ]

  pub awaited_now : (p u : ℕ) → awaited_from m h p ≡ Some u → h.now ≤ u
  awaited_now p u e = let b = (since_from p u (observed_since m h p) e).3 in omega arith

  pub awaited_back : (p t : ℕ) → IsBy (awaited_from m h p) t → IsAwaited m h t p
  awaited_back p t by =
      let b = since_from p by.0 (observed_since m h p) by.1 in
      let upto = by.2 in
      let is = b.3 in
      (b.2, record { since = b.0; observed = observed_back p b.0 b.1; passed = omega arith })

-- the test of a label, by whether it is plain
pub plain_same : (a : Label) (b : Bool) → (b ≡ true → IsPlain a) → (IsPlain a → b ≡ true) → ((p : ℕ) → 52 ≤ p → a p ≡ Absent) → b ≡ is_plain a
plain_same a b from to above = elim (cases_Bool b) [
  | inl plain ↦ plain ∙ sym (plain_true a (from plain))
  | inr not_plain ↦ not_plain ∙ sym (false_from_ne_true (is_plain a) (λ e. both_ways b not_plain (to (true_plain a above e))))
]
