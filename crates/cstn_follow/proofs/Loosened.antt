-- A looser limit is no worse, and beyond the deadline all limits are one.
use Rattle.std.proofs.Common.{ℕ, zero, suc, ◌≡◌, ◌<◌, ◌≤◌, ◌⊎◌, inl, inr, Bool, true, false, List, [], ◌∷◌, Option, Some, None, get_or, map, arith, refl, sym, subst, ap, ◌∙◌}
use Rattle.std.specs.Prelude.{ℤ, pos, ◌-ℤ◌, ◌≤ℤ◌, ◌<ℤ◌, ◌==◌, ◌≢◌, if◌then◌else◌}
use Rattle.std.specs.List.{All, AllPairs, Contains}
use Rattle.std.proofs.lemmas.Int.{ints}
use Rattle.std.proofs.lemmas.Bool.{cases_Bool, both_ways, eqb-true, eq-eqb}
use Rattle.std.proofs.lemmas.List.{length-map}
use Rattle.std.proofs.lemmas.List.Elements.{All-map, All-weaker, All-contains}
use Rattle.cstn_facts.proofs.Members.{contains_cases, contains_head, contains_tail, contains_map, map_from, all_from}
use Rattle.cstn_facts.proofs.Pairs.{pairs_map, pairs_head, pairs_tail}
use Rattle.cstn_label.specs.Labels.{Label, Scenario, Holds}
use Rattle.cstn_label.proofs.LabelLemmas.{holds_within}
use Rattle.cstn_net.specs.Networks.{Network, Constraint, IsConstraint, IsValue, count, limit}
use Rattle.cstn_net.specs.Strategies.{Table, Meets}
use Rattle.cstn_net.proofs.WellFormed.{well_formed_with}
use Rattle.cstn_lift.specs.Labelled.{Labelled, label_of}
use Rattle.cstn_lift.specs.Completion.{completed, completed_label, full_label}
use Rattle.cstn_lift.specs.Strategies.{IsExecuted, IsInForce}
use Rattle.cstn_lift.specs.WellFormed.{IsLabelled}
use Rattle.cstn_lift.proofs.Equivalent.{full_from, full_to}
use Rattle.cstn_change.specs.Changes.{with_value}
use Rattle.cstn_change.proofs.IdLemmas.{value_id}
use Rattle.cstn_change.proofs.Values.{one_with, value_with}
use Rattle.cstn_history.specs.Histories.{History, AgreesWith, edited}
use Rattle.cstn_history.specs.Continuations.{Continues, Can, IsKnownAfter}
use Rattle.cstn_history.proofs.Edited.{completed_new}
use Rattle.cstn_follow.specs.Raises.{with_limit, value_among}
use Rattle.cstn_follow.proofs.Constraints.{these_labelled}

-- ---- other constraints that a table meets, too

module _ (m : Labelled) (cs ds : List Constraint) where
  abbrev Old : Labelled
  Old = edited m m.base.deadline cs

  abbrev New : Labelled
  New = edited m m.base.deadline ds

  same_label : (a : Label) → completed Old a ≡ completed New a
  same_label a = completed_new m m.base.deadline cs a ∙ sym (completed_new m m.base.deadline ds a)

  executed_over : (s : Scenario) (x : ℕ) → IsExecuted Old s x → IsExecuted New s x
  executed_over s x e = subst (Holds s) (same_label (label_of m x)) e

  executed_back : (s : Scenario) (x : ℕ) → IsExecuted New s x → IsExecuted Old s x
  executed_back s x e = subst (Holds s) (sym (same_label (label_of m x))) e

  known_over : (h : History) (s : Scenario) (table : Table) (u p : ℕ) → IsKnownAfter Old h s (table s) u p → IsKnownAfter New h s (table s) u p
  known_over h s table u p (inl told) = inl told
  known_over h s table u p (inr (inl k)) = inr (inl (record {
    since = k.since;
    observed = record { observer = k.observed.observer; observes = record { what = k.observed.observes.what }; done = k.observed.done };
    passed = k.passed;
  }))
  known_over h s table u p (inr (inr c)) = inr (inr (record {
    observer = c.observer;
    observes = record { what = c.observes.what };
    coming = c.coming;
    executed = executed_over s c.observer c.executed;
    passed = c.passed;
  }))

  limit_over : (x : ℕ) → limit Old.base x ≡ limit New.base x
  limit_over zero = refl
  limit_over (suc x) = refl

  pub continues_over : (h : History) (table : Table) → Continues Old h table
      → ((s : Scenario) (c : Constraint) → AgreesWith h s → Contains ds c → IsInForce Old s c → Meets (table s) c) → Continues New h table
  continues_over h table goes meets = record {
    done = goes.done;
    in_time = λ s x t agrees is. subst (λ n. t ≤ n) (limit_over x) (goes.in_time s x t agrees is);
    from_soonest = λ s x agrees here none e. goes.from_soonest s x agrees here none (executed_back s x e);
    within = λ s x agrees here none e. subst (λ n. table s x ≤ n) (limit_over x) (goes.within s x agrees here none (executed_back s x e));
    meets = λ s c agrees has force. meets s c agrees has (subst (Holds s) (sym (same_label _)) force);
    dynamic = λ s r x of_s of_r here none e agrees.
        let both = goes.dynamic s r x of_s of_r here none (executed_back s x e) (λ p k. agrees p (known_over h s table (table s x) p k)) in
        (executed_over r x both.0, both.1);
  }

-- ---- the constraint of an id

-- it has this value
abbrev pub HasOwn : ℕ → ℤ → List Constraint → Type 0
HasOwn id own cs = (c : Constraint) → Contains cs c → c.id ≡ id → c.most ≡ own

abbrev Ascend : List Constraint → Type 0
Ascend cs = AllPairs (λ b c. b.id < c.id) cs

no_value : (id : ℕ) (cs : List Constraint) → value_among id cs ≡ None → (c : Constraint) → Contains cs c → c.id ≡ id → ⊥
no_value id [] none c has same = let inside = has.1 in absurd (omega arith)
no_value id (d ∷ ds) none c has same = by_test (λ e more. no_value id ds e c more same) (d.id == id) refl none
  where
    by_test : (value_among id ds ≡ None → Contains ds c → ⊥) → (b : Bool) → (d.id == id) ≡ b → (if b then Some d.most else value_among id ds) ≡ None → ⊥
    by_test again true test e = absurd (cc)
    by_test again false test e = elim (contains_cases d c ds has) [
      | inl first ↦ both_ways (d.id == id) test (eq-eqb d.id id (subst (λ (x : Constraint). x.id ≡ id) (sym first) same))
      | inr more ↦ again e more
    ]

pub none_own : (id : ℕ) (cs : List Constraint) → value_among id cs ≡ None → All (λ c. c.id ≢ id) cs
none_own id cs none = all_from (λ c. c.id ≢ id) cs (λ c has same. no_value id cs none c has same)

-- ids ascend, so only one constraint has it
pub own_found : (id : ℕ) (own : ℤ) (cs : List Constraint) → Ascend cs → value_among id cs ≡ Some own → HasOwn id own cs
own_found id own [] ascend is c has same = let inside = has.1 in absurd (omega arith)
own_found id own (d ∷ ds) ascend is c has same =
    by_test (λ e more. own_found id own ds (pairs_tail (λ (a b : Constraint). a.id < b.id) d ds ascend) e c more same) (d.id == id) refl is
  where
    by_test : (value_among id ds ≡ Some own → Contains ds c → c.most ≡ own) → (b : Bool) → (d.id == id) ≡ b → (if b then Some d.most else value_among id ds) ≡ Some own → c.most ≡ own
    by_test again true test e = elim (contains_cases d c ds has) [
      | inl first ↦ let value : d.most ≡ own = cc in subst (λ (x : Constraint). x.most ≡ own) first value
      | inr more ↦
          let above = All-contains (λ (x : Constraint). d.id < x.id) ds c (pairs_head (λ (a b : Constraint). a.id < b.id) d ds ascend) more in
          let at = eqb-true d.id id test in
          absurd (omega arith)
    ]
    by_test again false test e = elim (contains_cases d c ds has) [
      | inl first ↦ absurd (both_ways (d.id == id) test (eq-eqb d.id id (subst (λ (x : Constraint). x.id ≡ id) (sym first) same)))
      | inr more ↦ again e more
    ]

-- its own value changes nothing
pub own_same : (id : ℕ) (own : ℤ) (cs : List Constraint) → HasOwn id own cs → map (with_value id own) cs ≡ cs
own_same id own [] has = refl
own_same id own (d ∷ ds) has =
    ap (λ l. with_value id own d ∷ l) (own_same id own ds (λ c there. has c (contains_tail d c ds there)))
    ∙ ap (λ c. c ∷ ds) (by_test (d.id == id) refl)
  where
    by_test : (b : Bool) → (d.id == id) ≡ b → (if b then record d { most = own } else d) ≡ d
    by_test true test = ap (λ (z : ℤ). record d { most = z }) (sym (has d (contains_head d ds) (eqb-true d.id id test)))
    by_test false test = refl

-- ---- with a value in range it is a labelled network

pub limit_labelled : (m : Labelled) (id : ℕ) (most : ℤ) → IsLabelled m → IsValue most → IsLabelled (with_limit m id most)
limit_labelled m id most good value =
    let cs = m.base.constraints in
    these_labelled m (map (with_value id most) cs) good
    (well_formed_with m.base (map (with_value id most) cs) good.base
    (let same = length-map cs (with_value id most) in let few = good.base.few_constraints in omega arith)
    (All-map (IsConstraint m.base) (with_value id most) cs (All-weaker _ _ (one_with m.base id most) cs good.base.network.constraints))
    (pairs_map (λ b c. b.id < c.id) (with_value id most) cs (λ i j d before inside.
    let ordered = good.base.ascending i j d before inside in
    let one = value_id id most (get_or cs i d) in
    let other = value_id id most (get_or cs j d) in
    omega arith))
    (All-map (λ c. IsValue c.most) (with_value id most) cs (All-weaker _ _ (λ c. value_with id most c value) cs good.base.values)))

pub limit_above : (m : Labelled) (id : ℕ) (most : ℤ) (fresh : ℕ) → All (λ c. c.id < fresh) m.base.constraints
    → All (λ c. c.id < fresh) (with_limit m id most).base.constraints
limit_above m id most fresh above =
    All-map (λ c. c.id < fresh) (with_value id most) m.base.constraints
    (All-weaker (λ c. c.id < fresh) (λ c. (with_value id most c).id < fresh) (λ c below. (let same = value_id id most c in omega arith)) m.base.constraints above)

-- ---- what is met with one value is met with another that is no less, or beyond the deadline

limit_last : (m : Labelled) (cs : List Constraint) (x : ℕ) → limit (edited m m.base.deadline cs).base x ≤ m.base.deadline
limit_last m cs zero = omega arith
limit_last m cs (suc x) = omega arith

still_met : (to from last : ℕ) (v w : ℤ) → to ≤ last → from ≤ last → (pos to -ℤ pos from) ≤ℤ v
    → (v ≤ℤ w) ⊎ ((pos last ≤ℤ w) ⊎ (v <ℤ (pos 0 -ℤ pos last))) → (pos to -ℤ pos from) ≤ℤ w
still_met to from last v w to_early from_early met (inl more) = omega (arith, ints)
still_met to from last v w to_early from_early met (inr (inl beyond)) = omega (arith, ints)
still_met to from last v w to_early from_early met (inr (inr below)) = absurd (omega (arith, ints))

module _ (m : Labelled) (h : History) (id : ℕ) (good : IsLabelled m) where
  abbrev cs : List Constraint
  cs = m.base.constraints

  abbrev H : ℤ
  H = pos m.base.deadline

  abbrev pub IsEasier : ℤ → ℤ → Type 0
  IsEasier v w = (v ≤ℤ w) ⊎ ((H ≤ℤ w) ⊎ (v <ℤ (pos 0 -ℤ H)))

  module _ (v : ℤ) (table : Table) (goes : Continues (with_limit m id v) h table) (s : Scenario) (agrees : AgreesWith h s) where
    moment_upto : (x : ℕ) → x < count m.base → IsExecuted m s x → table s x ≤ m.base.deadline
    moment_upto x here e = by_done (h.done x) refl
      where
        by_done : (o : Option ℕ) → h.done x ≡ o → table s x ≤ m.base.deadline
        by_done None none =
            let there = subst (Holds s) (sym (completed_new m m.base.deadline (map (with_value id v) cs) (label_of m x))) e in
            let within = goes.within s x agrees here none there in
            let last = limit_last m (map (with_value id v) cs) x in
            omega arith
        by_done (Some t) done =
            let at = goes.done s x t agrees done in
            let within = goes.in_time s x t agrees done in
            let last = limit_last m (map (with_value id v) cs) x in
            omega arith

    module _ (w : ℤ) (easier : IsEasier v w) (c : Constraint) (has : Contains cs c) where
      abbrev valued : Bool → ℤ → Constraint
      valued b most = if b then record c { most = most } else c

      met_by : (b : Bool) → (c.id == id) ≡ b → IsInForce (with_limit m id v) s (valued b w) → Meets (table s) (valued b w)
      met_by false test force =
          goes.meets s c agrees (subst (λ t. Contains (map (with_value id v) cs) (valued t v)) test (contains_map (with_value id v) cs c has)) force
      met_by true test force =
          let there = subst (λ t. Contains (map (with_value id v) cs) (valued t v)) test (contains_map (with_value id v) cs c has) in
          let met = goes.meets s (record c { most = v }) agrees there force in
          let ends = All-contains (IsConstraint m.base) cs c good.base.network.constraints has in
          let forced = subst (Holds s) (completed_new m m.base.deadline (map (with_value id v) cs) _) force in
          let from = moment_upto c.from ends.from (holds_within s (completed_label m c.from) (full_label m c) (full_from m good c) forced) in
          let to = moment_upto c.to ends.to (holds_within s (completed_label m c.to) (full_label m c) (full_to m good c) forced) in
          still_met (table s c.to) (table s c.from) m.base.deadline v w to from met easier

  pub easier_continues : (v w : ℤ) (table : Table) → IsEasier v w → Continues (with_limit m id v) h table → Continues (with_limit m id w) h table
  easier_continues v w table easier goes =
      continues_over m (map (with_value id v) cs) (map (with_value id w) cs) h table goes
      (λ s c agrees has force.
      let from = map_from (with_value id w) cs c has in
      subst (Meets (table s)) from.2 (met_by v table goes s agrees w easier from.0 from.1 (from.0.id == id) refl (subst (IsInForce (with_limit m id v) s) (sym from.2) force)))

  pub easier_can : (v w : ℤ) → IsEasier v w → Can (with_limit m id v) h → Can (with_limit m id w) h
  easier_can v w easier can = (can.0, easier_continues v w can.0 easier can.1)

  -- with its own value it is the network as it is
  pub own_can : (own : ℤ) → HasOwn id own cs → Can (with_limit m id own) h → Can m h
  own_can own has can = subst (λ l. Can (edited m m.base.deadline l) h) (own_same id own cs has) can
