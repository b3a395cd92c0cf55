-- Until when a time-point can wait is found by halving.
use Rattle.std.proofs.Common.{ℕ, zero, suc, ◌≡◌, inl, inr, ◌+◌, ◌<◌, ◌≤◌, Bool, true, false, List, [], ◌∷◌, ◌++◌, Some, None, length, arith, refl, sym}
use Rattle.std.proofs.Common.{subst, ap, ◌∙◌}
use Rattle.std.specs.Prelude.{◌↔◌, pos, ◌-ℤ◌, if◌then◌else◌}
use Rattle.std.specs.List.{All, filter_map}
use Rattle.std.proofs.lemmas.Int.{ints}
use Rattle.std.proofs.lemmas.Bool.{both_ways}
use Rattle.std.proofs.lemmas.List.{length-append}
use Rattle.std.proofs.lemmas.List.Quantifiers.{all_pairs_push}
use Rattle.std.proofs.lemmas.List.Elements.{All-weaker, All-append, All-cons, filter_map-append}
use Rattle.cstn_facts.proofs.Members.{filter_map_all}
use Rattle.cstn_label.specs.Labels.{Label, Scenario, MarkFits, IsPlain, empty, joined}
use Rattle.cstn_label.proofs.LabelLemmas.{made_true, made_holds, joined_empty}
use Rattle.cstn_net.specs.Limits.{most_constraints, most_deadline}
use Rattle.cstn_net.specs.Networks.{Network, Constraint, IsConstraint, IsWellFormed, IsValue, count, limit}
use Rattle.cstn_lift.specs.Labelled.{Labelled, label_of}
use Rattle.cstn_lift.specs.Completion.{completed, completed_label, full_label}
use Rattle.cstn_lift.specs.Lowered.{is_plain, with_full_label, full_of, full_constraints, numbered, lowered}
use Rattle.cstn_lift.specs.Strategies.{IsExecuted, IsLabelledConsistent}
use Rattle.cstn_lift.specs.WellFormed.{IsLabelled}
use Rattle.cstn_lift.proofs.Equivalent.{equivalent}
use Rattle.cstn_lift.proofs.ListLemmas.{numbered_length}
use Rattle.cstn_lift.proofs.LoweredLemmas.{plain_true}
use Rattle.cstn_lift.proofs.WellFormed.{lowered_well_formed}
use Rattle.cstn_check.specs.Verdicts.{is_consistent}
use Rattle.cstn_check.proofs.Decides.{decided}
use Rattle.cstn_history.specs.Histories.{History, IsHistory, IsTimelyHistory, AgreesWith}
use Rattle.cstn_history.specs.Continuations.{Can, CanWait}
use Rattle.cstn_history.specs.Rest.{is_left, number_left, bare, rest, with_constraint, rest_waiting, moved, constraint_left, constraints_left, added}
use Rattle.cstn_history.proofs.Settled.{as_told, told_agrees, told_same, some_or_none}
use Rattle.cstn_history.proofs.Places.{left_allows, new_inside}
use Rattle.cstn_history.proofs.WellFormed.{rest_labelled}
use Rattle.cstn_history.proofs.Waiting.{waits_both, waits_less, strategy_more, strategy_less, met_more}
use Rattle.cstn_check.proofs.Halves.{last_found as halved_last}
use Rattle.cstn_check.proofs.Said.{said_is}
use Rattle.cstn_follow.proofs.Constraints.{these_labelled, these_long}
use Rattle.cstn_follow.specs.Waiting.{HasRoomToWait, waiting_one, rest_until, tried_until, waits_until}

all_one : (P : Constraint → Type 0) → (d : Constraint) → P d → All P (d ∷ [])
all_one P d here = All-cons P d [] here (λ i e inside. absurd (omega arith))

-- ---- a labelled network with one constraint more, by which a time-point waits

module _ (R : Labelled) (good : IsLabelled R) (fresh k t : ℕ) where
  abbrev d : Constraint
  d = waiting_one fresh k t

  abbrev cs : List Constraint
  cs = R.base.constraints ++ d ∷ []

  pub waiting_labelled : IsWellFormed (with_constraint R d).base → IsLabelled (with_constraint R d)
  waiting_labelled = these_labelled R cs good

  plain_here : k < count R.base → is_plain (full_label R d) ≡ true
  plain_here here =
      let empty_there = ap (λ (b : Label). completed R (joined empty (joined (label_of R k) b))) good.origin
      ∙ ap (completed R) (joined_empty (label_of R k)) in
      plain_true (full_label R d) (subst IsPlain (sym empty_there) (good.completed_plain k here))

  pub waiting_long : k < count R.base → length (lowered (with_constraint R d)).constraints ≡ length (lowered R).constraints + 1
  waiting_long here =
      let last = ap (λ b. if b then Some (record d { label = full_label R d }) else None) (plain_here here) in
      let one : full_of R (d ∷ []) ≡ record d { label = full_label R d } ∷ [] = rw last refl in
      let more = ap length (filter_map-append (with_full_label R) R.base.constraints (d ∷ []) ∙ ap (λ l. full_constraints R ++ l) one) in
      let long = length-append (full_constraints R) (record d { label = full_label R d } ∷ []) in
      let new = these_long R cs in
      let old = these_long R R.base.constraints in
      omega arith

pub waiting_constraint : (net : Network) (fresh k t : ℕ) → 0 < count net → k < count net → IsConstraint net (waiting_one fresh k t)
waiting_constraint net fresh k t origin here = record {
  from = here;
  to = origin;
  plain = λ p. tt;
  observed = λ p marked. absurd (marked refl);
}

-- ---- what is left, in which x is at t or later

module _ (m : Labelled) (h : History) (fresh x : ℕ) (good : IsLabelled m) (timely : IsTimelyHistory m h) (above : All (λ c. c.id < fresh) m.base.constraints)
    (room : HasRoomToWait m h fresh) where
  abbrev known : IsHistory m h
  known = timely.history

  abbrev Rest : Labelled
  Rest = rest m h fresh

  rest_good : IsLabelled Rest
  rest_good = rest_labelled m h fresh good known timely.in_time above (let few = room.base in omega arith)

  below_more : (j : ℕ) (c : Constraint) (cs : List Constraint) → All (λ d. d.id < (j + 1) + length cs) (numbered (j + 1) cs) →
      All (λ d. d.id < j + length (c ∷ cs)) (numbered j (c ∷ cs))
  below_more j c cs later = All-cons (λ d. d.id < j + length (c ∷ cs)) (record c { id = j }) (numbered (j + 1) cs) (omega arith)
      (All-weaker (λ d. d.id < (j + 1) + length cs) (λ d. d.id < j + length (c ∷ cs)) (λ d here. omega arith) (numbered (j + 1) cs) later)

  numbered_below : (j : ℕ) (cs : List Constraint) → All (λ c. c.id < j + length cs) (numbered j cs)
  numbered_below j [] = λ i e inside. absurd (omega arith)
  numbered_below j (c ∷ cs) = below_more j c cs (numbered_below (j + 1) cs)

  id_by : (c e : Constraint) (b : Bool) → (if b then Some (moved m h c) else None) ≡ Some e → e.id ≡ c.id
  id_by c e true is = let same : moved m h c ≡ e = cc in sym (ap (λ f. f.id) same)
  id_by c e false is = absurd (cc)

  kept_below : (n : ℕ) (cs : List Constraint) → All (λ c. c.id < n) cs → All (λ c. c.id < n) (filter_map (constraint_left m h) cs)
  kept_below n cs all = filter_map_all (λ c. c.id < n) (constraint_left m h) cs
      (All-weaker (λ c. c.id < n) (λ c. (e : Constraint) → constraint_left m h c ≡ Some e → e.id < n)
      (λ c here e is. subst (λ i. i < n) (sym (id_by c e _ is)) here) cs all)

  pub ids_below : All (λ c. c.id < fresh + most_constraints) Rest.base.constraints
  ids_below =
      let long = length-append (constraints_left m h) (numbered fresh (added m h)) in
      let same = numbered_length fresh (added m h) in
      let few = room.base in
      All-append (λ c. c.id < fresh + most_constraints) (constraints_left m h) (numbered fresh (added m h))
      (kept_below (fresh + most_constraints) m.base.constraints (All-weaker (λ c. c.id < fresh) (λ c. c.id < fresh + most_constraints) (λ c here. omega arith) m.base.constraints above))
      (All-weaker (λ c. c.id < fresh + length (added m h)) (λ c. c.id < fresh + most_constraints) (λ c here. omega arith) (numbered fresh (added m h))
      (numbered_below fresh (added m h)))

  module _ (here : x < count m.base) (none : h.done x ≡ None) (left : is_left m h x ≡ true) where
    k_inside : number_left m h x < count Rest.base
    k_inside = new_inside m h fresh good known x here left

    until_base : (t : ℕ) → t ≤ most_deadline → IsWellFormed (rest_until m h fresh x t).base
    until_base t upto =
        let base = rest_good.base in
        let d : Constraint = waiting_one fresh (number_left m h x) t in
        let new : Network = (rest_until m h fresh x t).base in
        let cs = Rest.base.constraints in
        record {
          network = record {
            origin = base.network.origin;
            one_observer = λ y z p o w. base.network.one_observer y z p (record { what = o.what }) (record { what = w.what });
            reacts = λ y p o. base.network.reacts y p (record { what = o.what });
            constraints = All-append (IsConstraint new) cs (d ∷ [])
                (All-weaker (IsConstraint Rest.base) (IsConstraint new) (λ c is. record {
                  from = is.from;
                  to = is.to;
                  plain = is.plain;
                  observed = λ p marked. let o = is.observed p marked in (o.0, record { what = o.1.what });
                }) cs base.network.constraints)
                (all_one (IsConstraint new) d (waiting_constraint new fresh (number_left m h x) t base.network.origin k_inside));
          };
          few_points = base.few_points;
          letters = λ y p o. base.letters y p (record { what = o.what });
          soon = λ y p o. base.soon y p (record { what = o.what });
          few_constraints = let long = length-append cs (d ∷ []) in let few = room.base in omega arith;
          ascending = all_pairs_push (λ b c. b.id < c.id) cs d base.ascending (λ i e inside. ids_below i e inside);
          values = All-append (λ c. IsValue c.most) cs (d ∷ []) base.values
              (all_one (λ c. IsValue c.most) d ((omega (arith, ints)), (omega (arith, ints))));
          in_time = base.in_time;
        }

    until_labelled : (t : ℕ) → t ≤ most_deadline → IsLabelled (rest_until m h fresh x t)
    until_labelled t upto = waiting_labelled Rest rest_good fresh (number_left m h x) t (until_base t upto)

    until_well_formed : (t : ℕ) → t ≤ most_deadline → IsWellFormed (lowered (rest_until m h fresh x t))
    until_well_formed t upto = lowered_well_formed (rest_until m h fresh x t) (until_labelled t upto)
        (let long = waiting_long Rest rest_good fresh (number_left m h x) t k_inside in let few = room.lowered in omega arith)

    -- an id makes no difference
    other_id : (t : ℕ) → IsLabelledConsistent (rest_waiting m h fresh x t) ↔ IsLabelledConsistent (rest_until m h fresh x t)
    other_id t = (
      (λ c. (c.0, strategy_more Rest new c.0 (strategy_less Rest old c.0 c.1) (λ s force. met_more Rest old c.0 c.1 s force))),
      (λ c. (c.0, strategy_more Rest old c.0 (strategy_less Rest new c.0 c.1) (λ s force. met_more Rest new c.0 c.1 s force))),
    )
      where
        old : Constraint
        old = bare (number_left m h x) 0 (pos 0 -ℤ pos t)

        new : Constraint
        new = waiting_one fresh (number_left m h x) t

    wait_decided : (t : ℕ) → t ≤ most_deadline → (is_consistent (lowered (rest_until m h fresh x t)) ≡ true) ↔ CanWait m h x t
    wait_decided t upto =
        let a = decided (lowered (rest_until m h fresh x t)) (until_well_formed t upto) in
        let b = (equivalent (rest_until m h fresh x t) (until_labelled t upto)).consistent in
        let c = other_id t in
        let e = waits_both m h fresh x t good known here none left in (
          (λ yes. e.1 (c.1 (b.1 (a.0 yes)))),
          (λ waits. a.1 (b.0 (c.0 (e.0 waits)))),
        )

    module _ (cap : ℕ) where
      tried_is : (t : ℕ) (v : Bool) → tried_until m h fresh x cap t ≡ Some v → is_consistent (lowered (rest_until m h fresh x t)) ≡ v
      tried_is t v e = (said_is cap (lowered (rest_until m h fresh x t)) v e).0

      waits_by : (t : ℕ) → t ≤ most_deadline → tried_until m h fresh x cap t ≡ Some true → CanWait m h x t
      waits_by t upto e = (wait_decided t upto).0 (tried_is t true e)

      stops_by : (t : ℕ) → t ≤ most_deadline → tried_until m h fresh x cap t ≡ Some false → CanWait m h x t → ⊥
      stops_by t upto e waits = both_ways (is_consistent (lowered (rest_until m h fresh x t))) (tried_is t false e) ((wait_decided t upto).1 waits)

      -- x is executed in some scenario that agrees with the history
      where_executed : (s : Scenario) × AgreesWith h s × IsExecuted m s x
      where_executed =
          let a = completed_label m x in
          let made = made_true a (λ p. false) in
          let allowed = left_allows m h fresh good known x left in (
            as_told h made,
            told_agrees h made,
            λ p. elim (some_or_none (h.told p)) [
              | inl told ↦ subst (λ v. MarkFits v (a p)) (sym (told_agrees h made p told.0 told.1)) (allowed p told.0 told.1)
              | inr untold ↦ subst (λ v. MarkFits v (a p)) (sym (told_same h made p untold)) (made_holds a (λ q. false) (good.completed_plain x here) p)
            ],
          )

      limit_upto : (y : ℕ) → limit m.base y ≤ m.base.deadline
      limit_upto zero = omega arith
      limit_upto (suc y) = omega arith

      pub last_found : Can m h → (t : ℕ) → waits_until m h fresh x cap ≡ Some t → CanWait m h x t × ((u : ℕ) → CanWait m h x u → u ≤ t)
      last_found can t e =
          let in_time = good.base.in_time in
          let first : CanWait m h x h.now = (can.0, can.1, (λ s agrees seen. let from = can.1.from_soonest s x agrees here none seen in omega arith)) in
          let bounded : (u : ℕ) → CanWait m h x u → u ≤ m.base.deadline = λ u waits.
          let w = where_executed in
          let late = waits.2 w.0 w.1 w.2 in
          let upto = waits.1.within w.0 x w.1 here none w.2 in
          let last = limit_upto x in
          omega arith in
          halved_last (tried_until m h fresh x cap) (CanWait m h x) most_deadline waits_by stops_by (λ t u upto waits. waits_less m h x u t upto waits) 20
          (record { low = h.now; high = m.base.deadline }) t (record { low = first; high = bounded; upto = in_time }) (omega arith) e
