-- The rest is a labelled network, but for the number of its constraints.
use Rattle.std.proofs.Common.{ℕ, zero, suc, ◌≡◌, inl, inr, ◌+◌, ◌<◌, ◌≤◌, Bool, true, false, List, [], ◌∷◌, ◌++◌, Option, Some, None, length, arith, refl, sym, subst, ap, ◌∙◌}
use Rattle.std.specs.Prelude.{ℤ, pos, ◌-ℤ◌, if◌then◌else◌}
use Rattle.std.specs.List.{All, AllPairs, Contains, filter, filter_map, cons_option, range_with_len}
use Rattle.std.proofs.lemmas.Bool.{cases_Bool}
use Rattle.std.proofs.lemmas.Int.{ints, clamps}
use Rattle.std.proofs.lemmas.List.{length-map, length-append}
use Rattle.std.proofs.lemmas.List.Elements.{All-nil, All-head, All-tail, All-append, All-contains, All-contains_itself, All-weaker, Contains-append_left}
use Rattle.std.proofs.lemmas.List.Kept.{AllPairs-cons}
use Rattle.cstn_facts.proofs.Pairs.{pairs_tail, pairs_head}
use Rattle.cstn_facts.proofs.Members.{filter_map_all}
use Rattle.cstn_label.specs.declared.marks.Mark.{Mark}
use Rattle.cstn_label.specs.Labels.{Label, IsMarked, IsMarkPlain, IsPlain, IsWithin, joined}
use Rattle.cstn_label.proofs.MarkLemmas.{mark_within_absent}
use Rattle.cstn_label.proofs.LabelLemmas.{within_through}
use Rattle.cstn_net.specs.Limits.{most_time_points, most_constraints, most_deadline, most_reaction}
use Rattle.cstn_net.specs.Networks.{Network, Constraint, Observes, IsWellFormed, IsConstraint, IsOnObserved, IsValue, AreConstraintsFor, count, limit}
use Rattle.cstn_lift.specs.Labelled.{Labelled, label_of}
use Rattle.cstn_lift.specs.Completion.{completed, completed_label, full_label}
use Rattle.cstn_lift.specs.Lowered.{numbered}
use Rattle.cstn_lift.specs.WellFormed.{IsLabelled}
use Rattle.cstn_lift.proofs.CompletionLemmas.{completed_contains, completed_complete, within_left}
use Rattle.cstn_lift.proofs.FullLemmas.{full_within}
use Rattle.cstn_lift.proofs.Equivalent.{full_from, full_to}
use Rattle.cstn_lift.proofs.ListLemmas.{numbered_ascending}
use Rattle.cstn_history.specs.Histories.{History, IsHistory, IsInTime, known_at, or_at, mark_left, label_left, IsAllowed, soonest}
use Rattle.cstn_history.specs.Rest.{left, value_cut, value_left, is_left, number_left, end_left, moved, constraint_left, bare, late, watched, coming, added, moment_watched, rest}
use Rattle.cstn_history.proofs.Lists.{place, passing_yes, passing_no}
use Rattle.cstn_history.proofs.Settled.{some_or_none, marked_left, left_untold, allows_within}
use Rattle.cstn_history.proofs.Places.{old, left_coming, left_watching, left_allows, old_stands, new_inside, observes_left, observes_back, label_at, count_left, sees_back}
use Rattle.cstn_history.proofs.Labels.{completed_new, observer_left}
use Rattle.cstn_history.proofs.Forces.{end_done, end_coming, constraint_from, origin_empty}
use Rattle.cstn_history.proofs.Added.{late_from, watched_from, coming_from}
use Rattle.cstn_history.proofs.Reactions.{reaction_coming, reaction_origin, reaction_done}
use Rattle.cstn_history.proofs.ToRest.{watched_upto}
use Rattle.cstn_history.proofs.Inserted.{same_constraint}

place_upto : (test : ℕ → Bool) (n : ℕ) → place test n ≤ n
place_upto test zero = omega arith
place_upto test (suc n) = elim (cases_Bool (test n)) [
  | inl y ↦
      let long = ap length (passing_yes test n y) ∙ length-append (filter test (range_with_len 0 n)) (n ∷ []) in
      let before = place_upto test n in
      omega arith
  | inr z ↦ let long = ap length (passing_no test n z) in let before = place_upto test n in omega arith
]

plain_left : (o : Option Bool) (a : Mark) → IsMarkPlain a → IsMarkPlain (mark_left o a)
plain_left None a h = h
plain_left (Some v) a h = tt

pub label_plain : (h : History) (a : Label) → IsPlain a → IsPlain (label_left h a)
label_plain h a plain = λ p. plain_left (h.told p) (a p) (plain p)

module _ (m : Labelled) (h : History) (fresh : ℕ) (good : IsLabelled m) (known : IsHistory m h) (timely : IsInTime m h) where
  abbrev R : Labelled
  R = rest m h fresh

  -- the rest without its constraints
  abbrev pub bared : Network
  bared = record R.base { constraints = [] }

  -- an outcome is known after the moment of its observer, and in time where the origin observes it
  known_late : (x t p : ℕ) → Observes m.base x p → h.done x ≡ Some t → t < known_at m h p t
  known_late x t p o done = elim (some_or_none (h.expected p)) [
    | inr none ↦
        let at : known_at m h p t ≡ t + m.base.reaction p = ap (λ e. or_at e (t + m.base.reaction p)) none in
        let some = good.base.network.reacts x p o in
        omega arith
    | inl e ↦
        let at : known_at m h p t ≡ e.0 = ap (λ i. or_at i (t + m.base.reaction p)) e.1 in
        let seen = known.expected p e.0 e.1 in
        let one = good.base.network.one_observer seen.2.observer x p seen.2.observes o in
        let there = subst (λ y. h.done y ≡ Some seen.0) one seen.2.done in
        let same : seen.0 ≡ t = (let is : Some seen.0 ≡ Some t = sym there ∙ done in cc) in
        let later = seen.1 in
        omega arith
  ]

  known_soon : (p : ℕ) → Observes m.base 0 p → known_at m h p 0 ≤ most_reaction
  known_soon p o = elim (some_or_none (h.expected p)) [
    | inr none ↦
        let at : known_at m h p 0 ≡ 0 + m.base.reaction p = ap (λ e. or_at e (0 + m.base.reaction p)) none in
        let soon = good.base.soon 0 p o in
        omega arith
    | inl e ↦
        let at : known_at m h p 0 ≡ e.0 = ap (λ i. or_at i (0 + m.base.reaction p)) e.1 in
        let upto = timely.origin p e.0 e.1 o in
        omega arith
  ]

  -- reactions are in range
  reacts_by : (x p : ℕ) → Observes m.base x p → h.told p ≡ None → is_left m h x ≡ true → (0 < R.base.reaction p) × (R.base.reaction p ≤ most_reaction)
  reacts_by x p o none left = elim (some_or_none (h.done x)) [
    | inr coming ↦
        let at = reaction_coming m h fresh good x p o none left coming in
        let some = good.base.network.reacts x p o in
        let soon = good.base.soon x p o in
        (omega arith, omega arith)
    | inl done ↦ done_by x p done.0 o none left done.1
  ]
    where
      done_by : (y q t : ℕ) → Observes m.base y q → h.told q ≡ None → is_left m h y ≡ true → h.done y ≡ Some t →
          (0 < R.base.reaction q) × (R.base.reaction q ≤ most_reaction)
      done_by zero q t there unsaid kept at =
          let start = known.origin in
          let zero_moment : t ≡ 0 = (let is : Some t ≡ Some 0 = sym at ∙ start in cc) in
          let reacts = reaction_origin m h fresh good 0 q there unsaid start in
          let later = known_late 0 0 q there start in
          let soon = known_soon q there in
          (omega arith, omega arith)
      done_by (suc y) q t there unsaid kept at =
          let reacts = reaction_done m h fresh good y t q there unsaid kept at in
          let later = known_late (suc y) t q there at in
          (omega arith, omega arith)

  reacts_there : (k p : ℕ) → Observes R.base k p → (0 < R.base.reaction p) × (R.base.reaction p ≤ most_reaction)
  reacts_there k p o =
      let back = observes_back m h fresh good known k p o in
      reacts_by (old m h k) p back.2 back.1 (old_stands m h fresh good known k back.0).1

  one_observer : (k l p : ℕ) → Observes R.base k p → Observes R.base l p → k ≡ l
  one_observer k l p o q =
      let a = observes_back m h fresh good known k p o in
      let b = observes_back m h fresh good known l p q in
      let same = good.base.network.one_observer (old m h k) (old m h l) p a.2 b.2 in
      sym (old_stands m h fresh good known k a.0).2 ∙ ap (number_left m h) same ∙ (old_stands m h fresh good known l b.0).2

  few_points : count R.base ≤ most_time_points
  few_points =
      let long = count_left m h fresh good known in
      let upto = place_upto (is_left m h) (count m.base) in
      let few = good.base.few_points in
      omega arith

  some_points : 0 < count R.base
  some_points = new_inside m h fresh good known 0 good.base.network.origin refl

  -- a time-point of the bare network observes what it observes in the rest
  bare_back : (k p : ℕ) → Observes bared k p → Observes R.base k p
  bare_back k p o = record { what = o.what }

  pub bared_well_formed : IsWellFormed bared
  bared_well_formed = record {
    network = record {
      origin = some_points;
      one_observer = λ k l p o q. one_observer k l p (bare_back k p o) (bare_back l p q);
      reacts = λ k p o. (reacts_there k p (bare_back k p o)).0;
      constraints = All-nil (IsConstraint bared);
    };
    few_points = few_points;
    letters = λ k p o. let back = observes_back m h fresh good known k p (bare_back k p o) in good.base.letters (old m h k) p back.2;
    soon = λ k p o. (reacts_there k p (bare_back k p o)).1;
    few_constraints = omega arith;
    ascending = λ i j d before inside. absurd (omega arith);
    values = All-nil (λ c. IsValue c.most);
    in_time = good.base.in_time;
  }

  -- what is left of a label names only what is observed in the rest, where what is told allows a complete label that it is within
  left_on : (a b : Label) → IsWithin a (completed m b) → IsOnObserved m.base a → IsAllowed h (completed m b) → IsOnObserved R.base (label_left h a)
  left_on a b inside on all p there =
      let marked = marked_left h a p there in
      let o = on p marked.1 in
      let also : IsMarked (completed m b) p = λ e. marked.1 (mark_within_absent (a p) (completed m b p) (inside p) e) in
      let wider = full_within m good (completed m b) (completed_complete m b) o.0 p o.1 also in
      let left = observer_left m h fresh good known o.0 p o.1 marked.0 (allows_within h (completed_label m o.0) (completed m b) wider all) in
      (number_left m h o.0, observes_left m h fresh good known o.0 p o.1 marked.0 left)

  -- what is left of a constraint is a constraint of the rest
  end_inside : (x : ℕ) → x < count m.base → IsAllowed h (completed_label m x) → end_left m h x < count R.base
  end_inside x here all = elim (some_or_none (h.done x)) [
    | inl done ↦ let at = end_done m h fresh good known x done.0 done.1 in let some = some_points in omega arith
    | inr none ↦
        let at = end_coming m h fresh good known x none in
        let inside = new_inside m h fresh good known x here (left_coming m h fresh good known x none all) in
        omega arith
  ]

  moved_there : (c : Constraint) → Contains m.base.constraints c → IsAllowed h (full_label m c) → IsConstraint R.base (moved m h c)
  moved_there c has all =
      let is = All-contains (IsConstraint m.base) m.base.constraints c good.base.network.constraints has in
      let whole = joined c.label (joined (label_of m c.from) (label_of m c.to)) in
      record {
        from = end_inside c.from is.from (allows_within h (completed_label m c.from) (full_label m c) (full_from m good c) all);
        to = end_inside c.to is.to (allows_within h (completed_label m c.to) (full_label m c) (full_to m good c) all);
        plain = label_plain h c.label is.plain;
        observed = left_on c.label whole
            (within_through c.label whole (completed m whole) (within_left c.label (joined (label_of m c.from) (label_of m c.to))) (completed_contains m whole))
            is.observed all;
      }

  bare_there : (k l id : ℕ) (most : ℤ) → k < count R.base → l < count R.base → IsConstraint R.base (record (bare k l most) { id = id })
  bare_there k l id most from to = record { from = from; to = to; plain = λ p. tt; observed = λ p there. absurd (there refl) }

  -- an added constraint, under any id
  new_there : (x : ℕ) → x < count m.base → is_left m h x ≡ true → number_left m h x < count R.base
  new_there x here left = new_inside m h fresh good known x here left

  late_there : (e : Constraint) (id : ℕ) → Contains (late m h) e → IsConstraint R.base (record e { id = id }) × IsValue e.most
  late_there e id has =
      let w = late_from m h e has in
      let past = known.past w.point w.moment w.done in
      let soon = timely.now in
      let upto = limit_upto w.point in
      subst (λ d. IsConstraint R.base (record d { id = id }) × IsValue d.most) w.is
      (bare_there 0 0 id (pos (limit m.base w.point) -ℤ pos w.moment) some_points some_points, (omega (arith, ints), omega (arith, ints)))
    where
      limit_upto : (y : ℕ) → limit m.base y ≤ most_deadline
      limit_upto zero = omega arith
      limit_upto (suc y) = good.base.in_time

  watched_there : (e : Constraint) (id : ℕ) → Contains (watched m h) e → IsConstraint R.base (record e { id = id }) × IsValue e.most
  watched_there e id has =
      let w = watched_from m h e has in
      let sees = sees_back m h (suc w.point) w.prop w.sees in
      let left = left_watching m h fresh good known (suc w.point) w.moment w.prop w.done sees.0 sees.1 in
      let k = number_left m h (suc w.point) in
      let inside = new_there (suc w.point) w.here left in
      let upto = watched_upto m h w.prop w.moment in
      let soon = good.base.in_time in
      elim w.is [
        | inl low ↦ subst (λ d. IsConstraint R.base (record d { id = id }) × IsValue d.most) low
            (bare_there k 0 id (pos 0 -ℤ pos (moment_watched m h w.prop w.moment)) inside some_points, (omega (arith, ints), omega (arith, ints)))
        | inr high ↦ subst (λ d. IsConstraint R.base (record d { id = id }) × IsValue d.most) high
            (bare_there 0 k id (pos (moment_watched m h w.prop w.moment)) some_points inside, (omega (arith, ints), omega (arith, ints)))
      ]

  coming_there : (e : Constraint) (id : ℕ) → Contains (coming m h) e → IsConstraint R.base (record e { id = id }) × IsValue e.most
  coming_there e id has =
      let w = coming_from m h e has in
      let soon = timely.now in
      let upto = timely.ready w.point in
      subst (λ d. IsConstraint R.base (record d { id = id }) × IsValue d.most) w.is
      (bare_there (number_left m h w.point) 0 id (pos 0 -ℤ pos (soonest h w.point)) (new_there w.point w.here w.left) some_points, (omega (arith, ints), omega (arith, ints)))

  cut_value : (v : ℤ) → IsValue (value_cut v)
  cut_value v = (omega (arith, ints, clamps), omega (arith, ints, clamps))

  each_there : (d : Constraint) → Contains R.base.constraints d → IsConstraint R.base d × IsValue d.most
  each_there d has = elim (constraint_from m h fresh good known d has) [
    | inl of ↦ subst (λ e. IsConstraint R.base e × IsValue e.most) (sym of.3) (moved_there of.0 of.1 of.2, cut_value (value_left h of.0))
    | inr (inl a) ↦ subst (λ e. IsConstraint R.base e × IsValue e.most) (sym a.2) (late_there a.0 d.id a.1)
    | inr (inr (inl a)) ↦ subst (λ e. IsConstraint R.base e × IsValue e.most) (sym a.2) (watched_there a.0 d.id a.1)
    | inr (inr (inr a)) ↦ subst (λ e. IsConstraint R.base e × IsValue e.most) (sym a.2) (coming_there a.0 d.id a.1)
  ]

  -- ids are kept, and those that are added are above them
  id_by : (c d : Constraint) (b : Bool) → (if b then Some (moved m h c) else None) ≡ Some d → d.id ≡ c.id
  id_by c d true is = let same : moved m h c ≡ d = cc in sym (ap (λ e. e.id) same)
  id_by c d false is = absurd (cc)

  ids_all : (P : ℕ → Type 0) (cs : List Constraint) → All (λ c. P c.id) cs → All (λ c. P c.id) (filter_map (constraint_left m h) cs)
  ids_all P cs all = filter_map_all (λ c. P c.id) (constraint_left m h) cs
      (All-weaker (λ c. P c.id) (λ c. (d : Constraint) → constraint_left m h c ≡ Some d → P d.id)
      (λ c here d is. subst P (sym (id_by c d _ is)) here) cs all)

  kept_ascend : (cs : List Constraint) → AllPairs (λ b c. b.id < c.id) cs → AllPairs (λ b c. b.id < c.id) (filter_map (constraint_left m h) cs)
  kept_ascend [] pairs = λ i j d before inside. absurd (omega arith)
  kept_ascend (c ∷ cs) pairs =
      let above = ids_all (λ i. c.id < i) cs (pairs_head (λ a b. a.id < b.id) c cs pairs) in
      with_first (constraint_left m h c) (λ d is. subst (λ i. All (λ e. i < e.id) (filter_map (constraint_left m h) cs)) (sym (id_by c d _ is)) above)
      (kept_ascend cs (pairs_tail (λ a b. a.id < b.id) c cs pairs))
    where
      with_first : (o : Option Constraint) → ((d : Constraint) → o ≡ Some d → All (λ e. d.id < e.id) (filter_map (constraint_left m h) cs)) →
          AllPairs (λ a b. a.id < b.id) (filter_map (constraint_left m h) cs) → AllPairs (λ a b. a.id < b.id) (cons_option o (filter_map (constraint_left m h) cs))
      with_first None low rest = rest
      with_first (Some d) low rest = AllPairs-cons (λ a b. a.id < b.id) d (filter_map (constraint_left m h) cs) (low d refl) rest

  pairs_append : (cs ds : List Constraint) → AllPairs (λ a b. a.id < b.id) cs → AllPairs (λ a b. a.id < b.id) ds → All (λ c. c.id < fresh) cs →
      All (λ d. fresh ≤ d.id) ds → AllPairs (λ a b. a.id < b.id) (cs ++ ds)
  pairs_append [] ds a b low high = b
  pairs_append (c ∷ cs) ds a b low high =
      let first = All-head (λ e. e.id < fresh) c cs low in
      AllPairs-cons (λ x y. x.id < y.id) c (cs ++ ds)
      (All-append (λ y. c.id < y.id) cs ds (pairs_head (λ x y. x.id < y.id) c cs a) (All-weaker (λ d. fresh ≤ d.id) (λ d. c.id < d.id) (λ d here. omega arith) ds high))
      (pairs_append cs ds (pairs_tail (λ x y. x.id < y.id) c cs a) b (All-tail (λ e. e.id < fresh) c cs low) high)

  module _ (above : All (λ c. c.id < fresh) m.base.constraints) where
    pub rest_ascends : AllPairs (λ b c. b.id < c.id) R.base.constraints
    rest_ascends =
        let more = numbered_ascending fresh (added m h) in
        pairs_append (filter_map (constraint_left m h) m.base.constraints) (numbered fresh (added m h)) (kept_ascend m.base.constraints good.base.ascending) more.1
        (ids_all (λ i. i < fresh) m.base.constraints above) more.0

    pub rest_well_formed : length R.base.constraints ≤ most_constraints → IsWellFormed R.base
    rest_well_formed few = record {
      network = record {
        origin = some_points;
        one_observer = one_observer;
        reacts = λ k p o. (reacts_there k p o).0;
        constraints = All-weaker (Contains R.base.constraints) (IsConstraint R.base) (λ d has. (each_there d has).0) R.base.constraints
            (All-contains_itself R.base.constraints);
      };
      few_points = few_points;
      letters = λ k p o. let back = observes_back m h fresh good known k p o in good.base.letters (old m h k) p back.2;
      soon = λ k p o. (reacts_there k p o).1;
      few_constraints = few;
      ascending = rest_ascends;
      values = All-weaker (Contains R.base.constraints) (λ c. IsValue c.most) (λ d has. (each_there d has).1) R.base.constraints
          (All-contains_itself R.base.constraints);
      in_time = good.base.in_time;
    }

    -- but for the number of constraints, the rest is a labelled network
    pub rest_labelled : length R.base.constraints ≤ most_constraints → IsLabelled R
    rest_labelled few = record {
      base = rest_well_formed few;
      one_each = length-map (left m h) (λ x. label_left h (label_of m x)) ∙ sym (count_left m h fresh good known);
      origin = origin_empty m h fresh good known;
      plain = λ k here.
          let stands = old_stands m h fresh good known k here in
          subst IsPlain (sym (label_at m h fresh good known k here)) (label_plain h (label_of m (old m h k)) (good.plain (old m h k) stands.0));
      observed = λ k here.
          let x = old m h k in
          let stands = old_stands m h fresh good known k here in
          subst (IsOnObserved R.base) (sym (label_at m h fresh good known k here))
          (left_on (label_of m x) (label_of m x) (completed_contains m (label_of m x)) (good.observed x stands.0) (left_allows m h fresh good known x stands.1));
      no_circle = λ k p o.
          let back = observes_back m h fresh good known k p o in
          let stands = old_stands m h fresh good known k back.0 in
          ap (λ l. l p) (ap (completed_label R) (sym stands.2) ∙ completed_new m h fresh good known (old m h k) stands.0 stands.1)
          ∙ left_untold h (completed_label m (old m h k)) p back.1 ∙ good.no_circle (old m h k) p back.2;
      completed_plain = λ k here.
          let stands = old_stands m h fresh good known k here in
          subst IsPlain (sym (ap (completed_label R) (sym stands.2) ∙ completed_new m h fresh good known (old m h k) stands.0 stands.1))
          (label_plain h (completed_label m (old m h k)) (good.completed_plain (old m h k) stands.0));
    }

    -- some of the constraints of the rest may be those of a network that observes the same
    some_fit : (net : Network) (cs : List Constraint) → net.observes ≡ R.base.observes → length cs ≤ most_constraints →
        AllPairs (λ b c. b.id < c.id) cs → All (Contains R.base.constraints) cs → AreConstraintsFor net cs
    some_fit net cs same few ascending among = record {
      few = few;
      each = All-weaker (Contains R.base.constraints) (IsConstraint net) (λ d has. same_constraint net R.base d same (each_there d has).0) cs among;
      ascending = ascending;
      values = All-weaker (Contains R.base.constraints) (λ c. IsValue c.most) (λ d has. (each_there d has).1) cs among;
    }

    pub kept_fit : (net : Network) → net.observes ≡ R.base.observes → length (filter_map (constraint_left m h) m.base.constraints) ≤ most_constraints →
        AreConstraintsFor net (filter_map (constraint_left m h) m.base.constraints)
    kept_fit net same few =
        let cs = filter_map (constraint_left m h) m.base.constraints in
        some_fit net cs same few (kept_ascend m.base.constraints good.base.ascending)
        (All-weaker (Contains cs) (Contains R.base.constraints) (λ d has. Contains-append_left cs (numbered fresh (added m h)) d has) cs (All-contains_itself cs))

    pub whole_fit : (net : Network) → net.observes ≡ R.base.observes → length R.base.constraints ≤ most_constraints → AreConstraintsFor net R.base.constraints
    whole_fit net same few = some_fit net R.base.constraints same few rest_ascends (All-contains_itself R.base.constraints)
