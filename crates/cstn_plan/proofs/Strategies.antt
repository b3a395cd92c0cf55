-- The moments that a closed list asks for are a strategy.
use Rattle.std.proofs.Common.{ℕ, zero, suc, ◌≡◌, ◌⊎◌, inl, inr, ◌+◌, ◌<◌, ◌≤◌, List, Option, Some, None, arith, refl, sym, subst, ◌∙◌}
use Rattle.std.specs.Prelude.{pos, ◌+ℤ◌, ◌-ℤ◌, ◌≤ℤ◌, ◌<ℤ◌, slice_index_or}
use Rattle.std.specs.Int.{int_min}
use Rattle.std.specs.List.{Contains}
use Rattle.std.proofs.lemmas.Int.{ints, clamps}
use Rattle.std.proofs.lemmas.Bool.{cases_lt}
use Rattle.std.proofs.lemmas.List.Elements.{All-contains}
use Rattle.cstn_label.specs.Labels.{Scenario, Holds, MarkFits, joined, without}
use Rattle.cstn_label.specs.declared.marks.Mark.TheVariants.{Absent}
use Rattle.cstn_label.proofs.MarkLemmas.{mark_fits_within, mark_fits_join, absent_or_not, fits_absent}
use Rattle.cstn_label.proofs.LabelLemmas.{kept_without, plain_from_holds, holds_joined, fits_off}
use Rattle.cstn_net.specs.Networks.{Network, IsNetwork, IsConstraint, Constraint, Observes, count, limit}
use Rattle.cstn_net.specs.Strategies.{Meets, IsStrategy, IsLeast, IsNeverLater}
use Rattle.cstn_label.specs.Bounds.{Bound}
use Rattle.cstn_rules.specs.Rules.{finished}
use Rattle.cstn_rules.specs.Closed.{IsClosed}
use Rattle.cstn_plan.specs.Asked.{AllSound, IsHeldBack, asked}
use Rattle.cstn_net.proofs.Knowledge.{observer_within, known_or_not}
use Rattle.cstn_plan.proofs.FinishLemmas.{kept_own}
use Rattle.cstn_net.proofs.Dynamic.{one_sided}
use Rattle.cstn_plan.proofs.AskedLemmas.{asked_upper, asked_attained, holds_from}

module _ (net : Network) (bounds : List Bound) (wf : IsNetwork net) (closed : IsClosed net bounds) where
  -- a bound whose label holds doesn't refute, so no moment is above its limit
  within : (s : Scenario) (x : ℕ) → x < count net → asked net bounds s x ≤ limit net x
  within s x here =
      let a = asked_attained net bounds s wf closed x here in
      elim (cases_lt (limit net x) (asked net bounds s x)) [
        | inr upto ↦ upto
        | inl above ↦
            let least = a.least in
            let below : pos (limit net x) <ℤ a.bound.least = omega (arith, ints) in
            absurd (closed.none_refutes a.bound a.in_list (record {
              node = subst (λ y. y < count net) (sym a.node) here;
              plain = plain_from_holds s a.bound.label a.holds;
              above = subst (λ y. pos (limit net y) <ℤ a.bound.least) (sym a.node) below;
            }))
      ]

  -- a bound of the list for x and a moment after u: each mark that doesn't fit s is on what isn't known at u, and none
  -- is on what the first k time-points observe
  record Late (s : Scenario) (u x k : ℕ) : Type 0 where
    bound : Bound
    in_list : Contains bounds bound
    node : bound.node ≡ x
    least : pos (suc u) ≤ℤ bound.least
    late : (j p : ℕ) → Observes net j p → MarkFits (s p) (bound.label p) ⊎ (u < asked net bounds s j + net.reaction p)
    fits : (j p : ℕ) → j < k → Observes net j p → MarkFits (s p) (bound.label p)

  late_same : (s : Scenario) (u x k : ℕ) → (b : Late s u x k) →
      ((p : ℕ) → Observes net k p → MarkFits (s p) (b.bound.label p)) → Late s u x (suc k)
  late_same s u x k b here = record {
    bound = b.bound;
    in_list = b.in_list;
    node = b.node;
    least = b.least;
    late = b.late;
    fits = λ j p upto o. elim (cases_lt j k) [
      | inl before ↦ b.fits j p before o
      | inr after ↦ let e : j ≡ k = omega arith in here p (subst (λ y. Observes net y p) e o)
    ];
  }

  -- one wait takes the mark on p off, which k observes
  wait_once : (s : Scenario) (u x k p : ℕ) → u ≤ limit net x → (b : Late s u x k) → Observes net k p →
      u < asked net bounds s k + net.reaction p → (b.bound.label p ≡ Absent → ⊥) → Late s u x (suc k)
  wait_once s u x k p room b o late marked =
      let seen = asked_attained net bounds s wf closed k (observer_within net k p o) in
      let together = joined seen.bound.label (without b.bound.label p) in
      let made : Bound = finished net (record {
        node = b.bound.node;
        least = int_min (seen.bound.least +ℤ pos (net.reaction p)) b.bound.least;
        label = together;
      }) in
      let c = closed.wait p seen.bound b.bound made seen.in_list b.in_list
      (record { observes = subst (λ y. Observes net y p) (sym seen.node) o; marked = marked; gives = refl }) in
      let fits_now : (q : ℕ) → MarkFits (s q) (without b.bound.label p q) → MarkFits (s q) (c.by.label q) = λ q h.
      mark_fits_within (s q) (c.by.label q) (made.label q) (c.dominates.label q)
      (kept_own (λ m. MarkFits (s q) m) (slice_index_or net.observes b.bound.node None) together q tt
      (mark_fits_join (s q) (seen.bound.label q) (without b.bound.label p q) (seen.holds q) h)) in
      let fits_then : (q : ℕ) → MarkFits (s q) (b.bound.label q) → MarkFits (s q) (c.by.label q) = λ q h.
      fits_now q (kept_without (λ m. MarkFits (s q) m) b.bound.label p q tt h) in
      let room_there = subst (λ y. u ≤ limit net y) (sym b.node) room in
      let covers = c.dominates.least in
      let least_seen = seen.least in
      let least_b = b.least in
      late_same s u x k (record {
        bound = c.by;
        in_list = c.in_list;
        node = c.dominates.node ∙ b.node;
        least = omega (arith, ints, clamps);
        late = λ j q oq. elim (b.late j q oq) [ inl f ↦ inl (fits_then q f) | inr l ↦ inr l ];
        fits = λ j q before oq. fits_then q (b.fits j q before oq);
      }) (λ q oq.
      let w = oq.what in
      let mine = o.what in
      let same : q ≡ p = cc in
      fits_now q (subst (λ r. MarkFits (s q) (without b.bound.label p r)) (sym same) (fits_off (s q) b.bound.label p)))

  late_next : (s : Scenario) (u x k : ℕ) → u ≤ limit net x → Late s u x k → (o : Option ℕ) →
      slice_index_or net.observes k None ≡ o → Late s u x (suc k)
  late_next s u x k room b None e = late_same s u x k b (λ p o. let w = o.what in absurd (cc))
  late_next s u x k room b (Some p) e =
      let same : (q : ℕ) → Observes net k q → q ≡ p = λ q o. let w = o.what in cc in
      let o : Observes net k p = record { what = e } in
      elim (b.late k p o) [
        | inl f ↦ late_same s u x k b (λ q oq. subst (λ r. MarkFits (s r) (b.bound.label r)) (sym (same q oq)) f)
        | inr l ↦ elim (absent_or_not (b.bound.label p)) [
          | inl none ↦ late_same s u x k b (λ q oq.
              subst (λ r. MarkFits (s r) (b.bound.label r)) (sym (same q oq)) (fits_absent (s p) (b.bound.label p) none))
          | inr marked ↦ wait_once s u x k p room b o l marked
        ]
      ]

  late_upto : (s : Scenario) (u x : ℕ) → u ≤ limit net x → Late s u x 0 → (k : ℕ) → Late s u x k
  late_upto s u x room first zero = first
  late_upto s u x room first (suc k) =
      late_next s u x k room (late_upto s u x room first k) (slice_index_or net.observes k None) refl

  -- the elimination: where a bound asks for a moment after u, and each of its marks that doesn't fit s is on what isn't known
  -- at u, its time-point is executed after u
  later : (s : Scenario) (u : ℕ) (b : Bound) → Contains bounds b → pos u <ℤ b.least → u ≤ limit net b.node →
      ((j p : ℕ) → Observes net j p → MarkFits (s p) (b.label p) ⊎ (u < asked net bounds s j + net.reaction p)) →
      u < asked net bounds s b.node
  later s u b has asks room late =
      let end = late_upto s u b.node room
      (record { bound = b; in_list = has; node = refl; least = omega (arith, ints); late = late; fits = λ j p h o. absurd (omega arith) })
      (count net) in
      let holds = holds_from net s end.bound.label (closed.observed end.bound end.in_list)
      (λ j p o. end.fits j p (observer_within net j p o) o) in
      let met = subst (λ y. end.bound.least ≤ℤ pos (asked net bounds s y)) end.node
      (asked_upper net bounds s wf closed end.bound end.in_list holds) in
      let least = end.least in
      omega (arith, ints)

  -- in a scenario that agrees with what is known when x is executed, x isn't later
  never_later : IsNeverLater net (asked net bounds)
  never_later s r x here agrees = elim (cases_lt (asked net bounds s x) (asked net bounds r x)) [
    | inr upto ↦ upto
    | inl after ↦
        let a = asked_attained net bounds r wf closed x here in
        let least = a.least in
        let room = subst (λ y. asked net bounds s x ≤ limit net y) (sym a.node) (within s x here) in
        let again = later s (asked net bounds s x) a.bound a.in_list (omega (arith, ints)) room (λ j p o.
        elim (known_or_not net (asked net bounds s) (asked net bounds s x) j p wf o) [
          | inl soon ↦ inl (subst (λ v. MarkFits v (a.bound.label p))
              (agrees p (record { observer = j; observes = o; passed = soon })) (a.holds p))
          | inr late ↦ inr late.0
        ]) in
        let there = subst (λ y. asked net bounds s x < asked net bounds s y) a.node again in
        absurd (omega arith)
  ]

  meets : (s : Scenario) (c : Constraint) → Contains net.constraints c → Holds s c.label → Meets (asked net bounds s) c
  meets s c has holds =
      let good = All-contains (IsConstraint net) net.constraints c wf.constraints has in
      let a = asked_attained net bounds s wf closed c.to good.to in
      let together = joined a.bound.label c.label in
      let together_holds = holds_joined s a.bound.label c.label a.holds holds in
      let made : Bound = finished net (record { node = c.from; least = a.bound.least -ℤ c.most; label = together }) in
      let found = closed.chain c a.bound made has a.in_list (record {
        at = a.node;
        plain = plain_from_holds s a.bound.label a.holds;
        together = plain_from_holds s together together_holds;
        gives = refl;
      }) in
      let found_holds : Holds s found.by.label = λ q. mark_fits_within (s q) (found.by.label q) (made.label q)
      (found.dominates.label q)
      (kept_own (λ m. MarkFits (s q) m) (slice_index_or net.observes c.from None) together q tt (together_holds q)) in
      let met = subst (λ y. found.by.least ≤ℤ pos (asked net bounds s y)) found.dominates.node
      (asked_upper net bounds s wf closed found.by found.in_list found_holds) in
      let asks = found.dominates.least in
      let least = a.least in
      let room = within s c.from good.from in
      omega (arith, ints, clamps)

  pub asked_strategy : IsStrategy net (asked net bounds)
  asked_strategy = record {
    within = within;
    dynamic = (one_sided net (asked net bounds) wf).1 never_later;
    meets = meets;
  }

  -- where each bound holds in every strategy, no strategy is earlier
  pub asked_least : AllSound net bounds → (s : Scenario) (x : ℕ) → x < count net → IsLeast net s x (asked net bounds s x)
  asked_least sound s x here = record {
    reached = (asked net bounds, asked_strategy, refl);
    least = λ other strategy.
        let a = asked_attained net bounds s wf closed x here in
        let met = (sound other strategy a.bound a.in_list).holds s (λ p k. a.holds p) in
        let met_there = subst (λ y. a.bound.least ≤ℤ pos (other s y)) a.node met in
        let least = a.least in
        omega (arith, ints);
  }

  -- x is held back at just the moments before its own
  pub held_before : (s : Scenario) (t x : ℕ) → x < count net → t < asked net bounds s x →
      IsHeldBack net bounds s (asked net bounds s) t x
  held_before s t x here before =
      let a = asked_attained net bounds s wf closed x here in
      let least = a.least in
      record { bound = a.bound; in_list = a.in_list; node = a.node; later = omega (arith, ints); possible = λ p k. a.holds p }

  held_upto : (s : Scenario) (t x : ℕ) → t ≤ limit net x → IsHeldBack net bounds s (asked net bounds s) t x →
      t < asked net bounds s x
  held_upto s t x room held =
      let room_there = subst (λ y. t ≤ limit net y) (sym held.node) room in
      subst (λ y. t < asked net bounds s y) held.node
      (later s t held.bound held.in_list held.later room_there (λ j p o.
      elim (known_or_not net (asked net bounds s) t j p wf o) [
        | inl soon ↦ inl (held.possible p (record { observer = j; observes = o; passed = soon }))
        | inr late ↦ inr late.0
      ]))

  pub held_then : (s : Scenario) (t x : ℕ) → x < count net → IsHeldBack net bounds s (asked net bounds s) t x →
      t < asked net bounds s x
  held_then s t x here held = elim (cases_lt (limit net x) t) [
    | inr room ↦ held_upto s t x room held
    | inl past ↦
        let later_still = held.later in
        let over = held_upto s (limit net x) x (omega arith) (record {
          bound = held.bound;
          in_list = held.in_list;
          node = held.node;
          later = omega (arith, ints);
          possible = λ p k. held.possible p (record {
            observer = k.observer;
            observes = k.observes;
            passed = let soon = k.passed in omega arith;
          });
        }) in
        let upto = within s x here in
        absurd (omega arith)
  ]
