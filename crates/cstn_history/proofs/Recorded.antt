-- What is recorded keeps a history one of its network.
use Rattle.std.proofs.Common.{ℕ, zero, suc, ◌≡◌, ◌⊎◌, inl, inr, ◌<◌, ◌≤◌, Bool, true, false, List, Option, Some, None, length, arith, refl, sym, subst, ap, ◌∙◌}
use Rattle.std.specs.Prelude.{cond, max, nat_lt, nat_le, ◌==◌, ◌&&◌, not, slice_index_or, slice_set, if◌then◌else◌}
use Rattle.std.proofs.Math.Path.{fun_ext}
use Rattle.std.proofs.lemmas.Bool.{cases_eq, eq-eqb, ne_eqb, and_parts, ltb-true, ltb-false, leb-true, leb-false, le-ltb}
use Rattle.std.proofs.lemmas.List.{length-set, get_or-set_same, get_or-set_other}
use Rattle.cstn_label.specs.declared.props.Prop.{Prop}
use Rattle.cstn_label.specs.declared.knowledge.Known.{Known}
use Rattle.cstn_label.specs.Labels.{MarkFits}
use Rattle.cstn_label.specs.Read.{known_value}
use Rattle.cstn_label.proofs.MarkLemmas.{absent_or_not}
use Rattle.cstn_net.specs.Limits.{most_deadline, most_reaction}
use Rattle.cstn_net.specs.Networks.{Observes, count}
use Rattle.cstn_lift.specs.Labelled.{Labelled}
use Rattle.cstn_lift.specs.Completion.{completed_label}
use Rattle.cstn_lift.specs.Lowered.{observer_of}
use Rattle.cstn_lift.specs.WellFormed.{IsLabelled}
use Rattle.cstn_lift.proofs.FullLemmas.{full_on}
use Rattle.cstn_lift.proofs.LoweredLemmas.{observer_back, observer_found}
use Rattle.cstn_label.specs.OnLetters.{IsOnLetters}
use Rattle.cstn_history.specs.Histories.{IsTimelyHistory, History, IsHistory, IsInTime, IsObservedAt, SettlesMark, Settles}
use Rattle.cstn_history.specs.Read.{HistoryParts, the_history, IsKeptFor}
use Rattle.cstn_history.specs.Facts.{FactRefusal, Past, OutOfRange, settles, is_beyond, now_refusal, again_refusal, done_refusal, since, observed_since, again_told, told_after, told_refusal, latest_expected, again_expected, expected_after, expected_refusal, at_now, with_done, with_told, with_expected, wait_refusal, ruled_out, ready_refusal, with_ready}
use Rattle.cstn_history.proofs.Settled.{settles_absent}
use Rattle.cstn_history.proofs.Told.{settles_back}

not_beyond : (t : ℕ) → nat_lt most_deadline t ≡ false → t ≤ most_deadline
not_beyond t e = grind arith

-- where a test that refuses is passed, it is false, and the rest isn't refused either
passed : (b : Bool) (e : FactRefusal) (o : Option FactRefusal) → (if b then Some e else o) ≡ None → (b ≡ false) × (o ≡ None)
passed true e o is = absurd (cc)
passed false e o is = (refl, is)

accepted : (b : Bool) (e : FactRefusal) → (if b then None else Some e) ≡ None → b ≡ true
accepted true e is = refl
accepted false e is = absurd (cc)

-- an entry that was set, and the others
module _ {T : Type 0} (f : ℕ → Option T) (x : ℕ) (v : T) where
  abbrev pub put : ℕ → Option T
  put y = cond (y == x) (Some v) (f y)

  pub put_there : (y : ℕ) → y ≡ x → put y ≡ Some v
  put_there y e = ap (λ b. cond b (Some v) (f y)) (eq-eqb y x e)

  pub put_other : (y : ℕ) → (y ≡ x → ⊥) → put y ≡ f y
  put_other y e = ap (λ b. cond b (Some v) (f y)) (ne_eqb y x e)

  pub put_from : (y : ℕ) (w : T) → put y ≡ Some w → ((y ≡ x) × (v ≡ w)) ⊎ (f y ≡ Some w)
  put_from y w e = elim (cases_eq y x) [
    | inl same ↦ let at : v ≡ w = (let is : Some v ≡ Some w = sym (put_there y same) ∙ e in cc) in inl (same, at)
    | inr other ↦ inr (sym (put_other y other) ∙ e)
  ]

  pub put_kept : (y : ℕ) (w : T) → f x ≡ None → f y ≡ Some w → put y ≡ Some w
  put_kept y w none e = put_other y (λ same. let at = subst (λ z. f z ≡ Some w) same e in cc) ∙ e

-- a list in which an entry was set
pub set_is : {T : Type 0} → (xs : List T) (x : ℕ) (v d : T) → x < length xs → (y : ℕ) →
    slice_index_or (slice_set xs x v) y d ≡ cond (y == x) v (slice_index_or xs y d)
set_is {T} xs x v d inside y = elim (cases_eq y x) [
  | inl same ↦
      let there : slice_index_or (slice_set xs x v) x d ≡ v = get_or-set_same xs x v d inside in
      ap (λ z. slice_index_or (slice_set xs x v) z d) same ∙ there ∙ sym (ap (λ b. cond b v (slice_index_or xs y d)) (eq-eqb y x same))
  | inr other ↦
      let there : slice_index_or (slice_set xs x v) y d ≡ slice_index_or xs y d = get_or-set_other xs x y v d other in
      there ∙ sym (ap (λ b. cond b v (slice_index_or xs y d)) (ne_eqb y x other))
]

-- when time-points are ready, once that of x was set
module _ (ready : ℕ → ℕ) (x t : ℕ) where
  pub ready_there : (y : ℕ) → y ≡ x → cond (y == x) t (ready y) ≡ t
  ready_there y e = ap (λ b. cond b t (ready y)) (eq-eqb y x e)

  pub ready_other : (y : ℕ) → (y ≡ x → ⊥) → cond (y == x) t (ready y) ≡ ready y
  ready_other y e = ap (λ b. cond b t (ready y)) (ne_eqb y x e)

module _ (m : Labelled) (h : History) (known : IsHistory m h) (timely : IsInTime m h) where
  -- time passes
  now_free : (t : ℕ) → now_refusal h t ≡ None → (h.now ≤ t) × (t ≤ most_deadline)
  now_free t e =
      let a = passed (nat_lt t h.now) _ _ e in
      let b = passed (is_beyond t) _ _ a.1 in
      (ltb-false t h.now a.0, not_beyond t b.0)

  pub now_history : (t : ℕ) → now_refusal h t ≡ None → IsHistory m (at_now h t)
  now_history t e =
      let free = now_free t e in
      record {
        origin = known.origin;
        inside = known.inside;
        past = λ x u is. let upto = known.past x u is in let low = free.0 in omega arith;
        told = λ p v is. let o = known.told p v is in (o.0, record { observer = o.1.observer; observes = o.1.observes; done = o.1.done });
        expected = λ p u is. let o = known.expected p u is in (o.0, o.1, record { observer = o.2.observer; observes = o.2.observes; done = o.2.done });
        settled = known.settled;
        ready = known.ready;
      }

  pub now_in_time : (t : ℕ) → now_refusal h t ≡ None → IsInTime m (at_now h t)
  now_in_time t e = record { now = (now_free t e).1; expected = timely.expected; origin = timely.origin; ready = timely.ready }

module _ (m : Labelled) (good : IsLabelled m) (h : History) (known : IsHistory m h) (timely : IsInTime m h) where
  full_below : (x : ℕ) → IsOnLetters (completed_label m x)
  full_below x p past = elim (absent_or_not (completed_label m x p)) [
    | inl none ↦ none
    | inr marked ↦ let o = full_on m good x p marked in let inside = good.base.letters o.0 p o.1 in absurd (omega arith)
  ]

  -- a time-point is done
  module _ (t x : ℕ) (e : done_refusal m h t x ≡ None) where
    in_range : t ≤ most_deadline
    in_range = not_beyond t (passed (is_beyond t) _ _ e).0

    inside : x < count m.base
    inside = leb-false (count m.base) x (passed (nat_le (count m.base) x) _ _ (passed (is_beyond t) _ _ e).1).0

    again : again_refusal m h x (h.done x) ≡ None
    again = (passed (nat_le (count m.base) x) _ _ (passed (is_beyond t) _ _ e).1).1

    again_free : (o : Option ℕ) → again_refusal m h x o ≡ None → (o ≡ None) × (settles h (completed_label m x) ≡ true)
    again_free (Some u) is = absurd (cc)
    again_free None is = (refl, accepted (settles h (completed_label m x)) _ is)

    undone : h.done x ≡ None
    undone = (again_free (h.done x) again).0

    settled_here : Settles h (completed_label m x)
    settled_here = settles_back h (completed_label m x) (full_below x) (again_free (h.done x) again).1

    still : (y u : ℕ) → h.done y ≡ Some u → (with_done h t x).done y ≡ Some u
    still y u is = put_kept h.done x t y u undone is

    pub done_history : IsHistory m (with_done h t x)
    done_history = record {
      origin = still 0 0 known.origin;
      inside = λ y u is. elim (put_from h.done x t y u is) [
        | inl new ↦ subst (λ z. z < count m.base) (sym new.0) inside
        | inr old ↦ known.inside y u old
      ];
      past = λ y u is. elim (put_from h.done x t y u is) [
        | inl new ↦ let at = new.1 in omega arith
        | inr old ↦ let upto = known.past y u old in omega arith
      ];
      told = λ p v is. let o = known.told p v is in
          (o.0, record { observer = o.1.observer; observes = o.1.observes; done = still o.1.observer o.0 o.1.done });
      expected = λ p u is. let o = known.expected p u is in
          (o.0, o.1, record { observer = o.2.observer; observes = o.2.observes; done = still o.2.observer o.0 o.2.done });
      settled = λ y u is. elim (put_from h.done x t y u is) [
        | inl new ↦ subst (λ z. Settles h (completed_label m z)) (sym new.0) settled_here
        | inr old ↦ known.settled y u old
      ];
      ready = known.ready;
    }

    pub done_in_time : IsInTime m (with_done h t x)
    done_in_time = record {
      now = (let low = timely.now in let upto = in_range in omega arith);
      expected = timely.expected;
      origin = timely.origin;
      ready = timely.ready;
    }

    pub done_inside : x < count m.base
    done_inside = inside

  -- the observer of p, by when it was done
  since_from : (p u : ℕ) (o : Option ℕ) → observer_of m.base p ≡ o → since h o ≡ Some u → IsObservedAt m h p u
  since_from p u None at is = absurd (cc)
  since_from p u (Some j) at is = record { observer = j; observes = observer_back m.base j p at; done = is }

  -- an outcome is told
  module _ (t p : ℕ) (v : Bool) (e : told_refusal m h t p ≡ None) where
    told_in_range : t ≤ most_deadline
    told_in_range = not_beyond t (passed (is_beyond t) _ _ e).0

    told_free : (o : Option ℕ) → observed_since m h p ≡ o → told_after h t p o ≡ None → (u : ℕ) × IsObservedAt m h p u × (h.told p ≡ None)
    told_free None at is = absurd (cc)
    told_free (Some u) at is = (u, since_from p u (observer_of m.base p) refl at, untold_by (h.told p) is)
      where
        untold_by : (o : Option Bool) → again_told t p u o ≡ None → o ≡ None
        untold_by None f = refl
        untold_by (Some w) f = absurd (cc)

    told_here : (u : ℕ) × IsObservedAt m h p u × (h.told p ≡ None)
    told_here = told_free (observed_since m h p) refl (passed (is_beyond t) _ _ e).1

    marks_settled : (y q : ℕ) → Settles h (completed_label m y) → SettlesMark ((with_told h t p v).told q) (completed_label m y q)
    marks_settled y q s = elim (cases_eq q p) [
      | inl same ↦
          let gone = settles_absent h (completed_label m y) q s (ap h.told same ∙ told_here.2) in
          subst (λ o. SettlesMark o (completed_label m y q)) (sym (put_there h.told p v q same)) (subst (MarkFits v) (sym gone) tt)
      | inr other ↦ subst (λ o. SettlesMark o (completed_label m y q)) (sym (put_other h.told p v q other)) (s q)
    ]

    pub told_history : IsHistory m (with_told h t p v)
    told_history = record {
      origin = known.origin;
      inside = known.inside;
      past = λ y u is. let upto = known.past y u is in omega arith;
      told = λ q w is. elim (put_from h.told p v q w is) [
        | inl new ↦
            let o = told_here.1 in
            (told_here.0, record { observer = o.observer; observes = subst (Observes m.base o.observer) (sym new.0) o.observes; done = o.done })
        | inr old ↦ let o = known.told q w old in (o.0, record { observer = o.1.observer; observes = o.1.observes; done = o.1.done })
      ];
      expected = λ q u is. let o = known.expected q u is in (o.0, o.1, record { observer = o.2.observer; observes = o.2.observes; done = o.2.done });
      settled = λ y u is q. marks_settled y q (known.settled y u is);
      ready = known.ready;
    }

    pub told_in_time : IsInTime m (with_told h t p v)
    told_in_time = record {
      now = (let low = timely.now in let upto = told_in_range in omega arith);
      expected = timely.expected;
      origin = timely.origin;
      ready = timely.ready;
    }

  pub latest_upto : (o : Option ℕ) → latest_expected o ≤ most_deadline
  latest_upto None = omega arith
  latest_upto (Some zero) = omega arith
  latest_upto (Some (suc x)) = omega arith

  -- an outcome is expected
  module _ (t p : ℕ) (e : expected_refusal m h t p ≡ None) where
    record IsFree : Type 0 where
      u : ℕ
      observed : IsObservedAt m h p u
      after : u < t
      upto : t ≤ latest_expected (observer_of m.base p)

    expected_free : (o : Option ℕ) → observed_since m h p ≡ o → expected_after m h t p o ≡ None → IsFree
    expected_free None at is = absurd (cc)
    expected_free (Some u) at is =
        let test = tested (h.told p) is in
        let a = and_parts (not (nat_lt t h.now) && nat_lt u t) (nat_le t (latest_expected (observer_of m.base p))) test in
        let b = and_parts (not (nat_lt t h.now)) (nat_lt u t) a.0 in
        record {
          u = u;
          observed = since_from p u (observer_of m.base p) refl at;
          after = ltb-true u t b.1;
          upto = leb-true t (latest_expected (observer_of m.base p)) a.1;
        }
      where
        tested : (o : Option Bool) → again_expected m h t p u o ≡ None →
            (not (nat_lt t h.now) && nat_lt u t && nat_le t (latest_expected (observer_of m.base p))) ≡ true
        tested None f = accepted (not (nat_lt t h.now) && nat_lt u t && nat_le t (latest_expected (observer_of m.base p))) _ f
        tested (Some w) f = absurd (cc)

    free : IsFree
    free = expected_free (observed_since m h p) refl e

    pub expected_history : IsHistory m (with_expected h t p)
    expected_history = record {
      origin = known.origin;
      inside = known.inside;
      past = known.past;
      told = λ q w is. let o = known.told q w is in (o.0, record { observer = o.1.observer; observes = o.1.observes; done = o.1.done });
      expected = λ q u is. elim (put_from h.expected p t q u is) [
        | inl new ↦
            let o = free.observed in
            let late = free.after in
            let at = new.1 in
            (free.u, omega arith, record { observer = o.observer; observes = subst (Observes m.base o.observer) (sym new.0) o.observes; done = o.done })
        | inr old ↦ let o = known.expected q u old in (o.0, o.1, record { observer = o.2.observer; observes = o.2.observes; done = o.2.done })
      ];
      settled = known.settled;
      ready = known.ready;
    }

    pub expected_in_time : IsInTime m (with_expected h t p)
    expected_in_time = record {
      now = timely.now;
      expected = λ q u is. elim (put_from h.expected p t q u is) [
        | inl new ↦ let at = new.1 in let upto = free.upto in let last = latest_upto (observer_of m.base p) in omega arith
        | inr old ↦ timely.expected q u old
      ];
      origin = λ q u is o. elim (put_from h.expected p t q u is) [
        | inl new ↦
            let at = new.1 in
            let found = observer_found m.base good.base.network 0 p (subst (Observes m.base 0) new.0 o) in
            let upto : t ≤ most_reaction = subst (λ j. t ≤ latest_expected j) found free.upto in
            omega arith
        | inr old ↦ timely.origin q u old o
      ];
      ready = timely.ready;
    }

  -- a time-point is ready at a moment
  module _ (t x : ℕ) (e : ready_refusal m h t x ≡ None) where
    ready_in_range : t ≤ most_deadline
    ready_in_range = not_beyond t (passed (is_beyond t) _ _ e).0

    pub ready_inside : x < count m.base
    ready_inside = leb-false (count m.base) x (passed (nat_le (count m.base) x) _ _ (passed (is_beyond t) _ _ e).1).0

    pub ready_history : IsHistory m (with_ready h t x)
    ready_history = record {
      origin = known.origin;
      inside = known.inside;
      past = known.past;
      told = λ q w is. let o = known.told q w is in (o.0, record { observer = o.1.observer; observes = o.1.observes; done = o.1.done });
      expected = λ q u is. let o = known.expected q u is in (o.0, o.1, record { observer = o.2.observer; observes = o.2.observes; done = o.2.done });
      settled = known.settled;
      ready = λ y past. ready_other h.ready x t y (λ same. let here = ready_inside in omega arith) ∙ known.ready y past;
    }

    pub ready_in_time : IsInTime m (with_ready h t x)
    ready_in_time = record {
      now = timely.now;
      expected = timely.expected;
      origin = timely.origin;
      ready = λ y. elim (cases_eq y x) [
        | inl same ↦ let at = ready_there h.ready x t y same in let upto = ready_in_range in omega arith
        | inr other ↦ let at = ready_other h.ready x t y other in let upto = timely.ready y in omega arith
      ];
    }

-- the same of the program's history
module _ (m : Labelled) (good : IsLabelled m) (q : HistoryParts) (kept : IsKeptFor m q) where
  abbrev h : History
  h = the_history q

  pub kept_done : (t x : ℕ) → done_refusal m h t x ≡ None →
      IsKeptFor m (record q { time = max q.time t; done = slice_set q.done x (Some t) })
  kept_done t x e =
      let here = done_inside m good h kept.history kept.in_time t x e in
      let long = kept.one_each in
      let is : with_done h t x ≡ the_history (record q { time = max q.time t; done = slice_set q.done x (Some t) }) =
      ap (λ f. record (with_done h t x) { done = f }) (fun_ext (λ y. sym (set_is q.done x (Some t) None (omega arith) y))) in
      record {
        one_each = length-set q.done x (Some t) ∙ kept.one_each;
        wide = kept.wide;
        ready_each = kept.ready_each;
        history = subst (IsHistory m) is (done_history m good h kept.history kept.in_time t x e);
        in_time = subst (IsInTime m) is (done_in_time m good h kept.history kept.in_time t x e);
      }

  pub kept_told : (t : ℕ) (p : Prop) (v : Bool) (k : Known) → told_refusal m h t p.index ≡ None →
      ((r : ℕ) → known_value k r ≡ cond (r == p.index) (Some v) (known_value q.told r)) →
      IsKeptFor m (record q { time = max q.time t; told = k })
  kept_told t p v k e told =
      let is : with_told h t p.index v ≡ the_history (record q { time = max q.time t; told = k }) =
      ap (λ f. record (with_told h t p.index v) { told = f }) (fun_ext (λ r. sym (told r))) in
      record {
        one_each = kept.one_each;
        wide = kept.wide;
        ready_each = kept.ready_each;
        history = subst (IsHistory m) is (told_history m good h kept.history kept.in_time t p.index v e);
        in_time = subst (IsInTime m) is (told_in_time m good h kept.history kept.in_time t p.index v e);
      }

  pub kept_expected : (t : ℕ) (p : Prop) → expected_refusal m h t p.index ≡ None →
      IsKeptFor m (record q { expected = slice_set q.expected p.index (Some t) })
  kept_expected t p e =
      let inside : p.index < length q.expected = (let letter = p.in_range in let wide = kept.wide in omega arith) in
      let is : with_expected h t p.index ≡ the_history (record q { expected = slice_set q.expected p.index (Some t) }) =
      ap (λ f. record (with_expected h t p.index) { expected = f }) (fun_ext (λ r. sym (set_is q.expected p.index (Some t) None inside r))) in
      record {
        one_each = kept.one_each;
        wide = length-set q.expected p.index (Some t) ∙ kept.wide;
        ready_each = kept.ready_each;
        history = subst (IsHistory m) is (expected_history m good h kept.history kept.in_time t p.index e);
        in_time = subst (IsInTime m) is (expected_in_time m good h kept.history kept.in_time t p.index e);
      }

  pub kept_ready : (t x : ℕ) → ready_refusal m h t x ≡ None → IsKeptFor m (record q { ready = slice_set q.ready x t })
  kept_ready t x e =
      let inside = ready_inside m good h kept.history kept.in_time t x e in
      let wide = kept.ready_each in
      let is : with_ready h t x ≡ the_history (record q { ready = slice_set q.ready x t }) =
      ap (λ f. record (with_ready h t x) { ready = f }) (fun_ext (λ y. sym (set_is q.ready x t 0 (omega arith) y))) in
      record {
        one_each = kept.one_each;
        wide = kept.wide;
        ready_each = length-set q.ready x t ∙ kept.ready_each;
        history = subst (IsHistory m) is (ready_history m good h kept.history kept.in_time t x e);
        in_time = subst (IsInTime m) is (ready_in_time m good h kept.history kept.in_time t x e);
      }

pub kept_now : (m : Labelled) (q : HistoryParts) → IsKeptFor m q → (t : ℕ) → now_refusal (the_history q) t ≡ None →
    IsKeptFor m (record q { time = t })
kept_now m q kept t e = record {
  one_each = kept.one_each;
  wide = kept.wide;
  ready_each = kept.ready_each;
  history = now_history m (the_history q) kept.history kept.in_time t e;
  in_time = now_in_time m (the_history q) kept.history kept.in_time t e;
}

pub latest_other : (x : ℕ) → (x ≡ 0 → ⊥) → latest_expected (Some x) ≡ most_deadline
latest_other zero other = absurd (other refl)
latest_other (suc x) other = refl

pub now_passes : (h : History) (t : ℕ) → h.now ≤ t → is_beyond t ≡ false → now_refusal h t ≡ None
now_passes h t low high =
    ap (λ b. if b then Some (Past h.now) else if is_beyond t then Some (OutOfRange t) else None) (le-ltb t h.now low)
    ∙ ap (λ b. if b then Some (OutOfRange t) else None) high

pub ready_free : (m : Labelled) (h : History) (t x : ℕ) → is_beyond t ≡ false → wait_refusal m h x ≡ None → ready_refusal m h t x ≡ None
ready_free m h t x high free = ap (λ b. if b then Some (OutOfRange t) else wait_refusal m h x) high ∙ free

pub timely_now : (m : Labelled) (h : History) (t : ℕ) → IsHistory m h → IsInTime m h → now_refusal h t ≡ None → IsTimelyHistory m (at_now h t)
timely_now m h t known timely e = record { history = now_history m h known timely t e; in_time = now_in_time m h known timely t e }

module _ (m : Labelled) (h : History) (good : IsLabelled m) (known : IsHistory m h) (timely : IsInTime m h) where
  pub timely_done : (t x : ℕ) → done_refusal m h t x ≡ None → IsTimelyHistory m (with_done h t x)
  timely_done t x e = record { history = done_history m good h known timely t x e; in_time = done_in_time m good h known timely t x e }

  pub timely_told : (t p : ℕ) (v : Bool) → told_refusal m h t p ≡ None → IsTimelyHistory m (with_told h t p v)
  timely_told t p v e = record { history = told_history m good h known timely t p v e; in_time = told_in_time m good h known timely t p v e }

  pub timely_expected : (t p : ℕ) → expected_refusal m h t p ≡ None → IsTimelyHistory m (with_expected h t p)
  timely_expected t p e = record { history = expected_history m good h known timely t p e; in_time = expected_in_time m good h known timely t p e }

  pub timely_ready : (t x : ℕ) → ready_refusal m h t x ≡ None → IsTimelyHistory m (with_ready h t x)
  timely_ready t x e = record { history = ready_history m good h known timely t x e; in_time = ready_in_time m good h known timely t x e }
