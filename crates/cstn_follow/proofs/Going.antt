-- Whoever does what is named when it is named, and tells what is awaited before time passes it, can go on.
use Rattle.std.proofs.Common.{ℕ, zero, suc, ◌≡◌, inl, inr, ◌<◌, ◌≤◌, Bool, true, false, not, List, [], ◌∷◌, Option, Some, None, arith, refl, sym, subst, ◌∙◌}
use Rattle.std.specs.Prelude.{nat_lt, nat_le, if◌then◌else◌}
use Rattle.std.proofs.lemmas.Bool.{and_parts}
use Rattle.cstn_label.specs.declared.nodes.NodeId.{NodeId}
use Rattle.cstn_label.specs.Labels.{Scenario}
use Rattle.cstn_net.specs.Limits.{most_deadline}
use Rattle.cstn_net.specs.Networks.{IsWellFormed, count, limit}
use Rattle.cstn_net.specs.Strategies.{Table, IsConsistent}
use Rattle.cstn_lift.specs.Labelled.{Labelled}
use Rattle.cstn_lift.specs.Completion.{completed_label}
use Rattle.cstn_lift.specs.Lowered.{lowered}
use Rattle.cstn_lift.specs.Strategies.{IsExecuted}
use Rattle.cstn_lift.specs.WellFormed.{IsLabelled}
use Rattle.cstn_lift.proofs.Equivalent.{equivalent, mixed, mixed_defaulted, to_labelled}
use Rattle.cstn_lift.proofs.Twins.{defaulted_least}
use Rattle.cstn_lift.proofs.WellFormed.{lowered_well_formed}
use Rattle.cstn_check.proofs.Decides.{least_exists}
use Rattle.cstn_history.specs.Histories.{History, IsHistory, IsTimelyHistory, GoesOn, is_done, soonest}
use Rattle.cstn_history.specs.Continuations.{Continues, Can, IsLeastNow, IsQuietBefore, IsAlwaysAt, IsNamed, IsLeastTable}
use Rattle.cstn_history.specs.Rest.{number_left, rest}
use Rattle.cstn_history.specs.Facts.{FactRefusal, settles, is_beyond, observed_since, again_told, told_after, done_refusal, told_refusal, with_done}
use Rattle.cstn_history.proofs.Settled.{as_told, told_agrees, told_itself, holds_allows}
use Rattle.cstn_history.proofs.Places.{left_coming, new_inside}
use Rattle.cstn_history.proofs.ToRest.{executed_left}
use Rattle.cstn_history.proofs.FromRest.{from_rest, from_rest_continues, at_coming}
use Rattle.cstn_history.proofs.Decides.{can_both, least_both}
use Rattle.cstn_history.proofs.WellFormed.{rest_labelled}
use Rattle.cstn_history.proofs.Narrows.{narrower}
use Rattle.cstn_history.proofs.NextMoment.{quiet_upto}
use Rattle.cstn_history.proofs.Followed.{time_passes, outcome_comes, step_is_done}
use Rattle.cstn_history.proofs.Recorded.{put_other, put_from, put_kept, timely_now, timely_done, timely_told}
use Rattle.cstn_follow.specs.Progress.{HasRoomLeft, IsQuietUpto, IsPassing, IsTelling, IsDoing, IsHistoryStep, AreHistorySteps, history_after}
use Rattle.cstn_next.proofs.Coming.{ready_from}

-- an outcome that is accepted wasn't told
untold_here : (m : Labelled) (h : History) (t p : ℕ) → told_refusal m h t p ≡ None → h.told p ≡ None
untold_here m h t p e = free_after (observed_since m h p) (passed (is_beyond t) _ _ e)
  where
    passed : (b : Bool) (f : FactRefusal) (o : Option FactRefusal) → (if b then Some f else o) ≡ None → o ≡ None
    passed true f o is = absurd (cc)
    passed false f o is = is

    free_again : (u : ℕ) (o : Option Bool) → again_told t p u o ≡ None → o ≡ None
    free_again u None f = refl
    free_again u (Some v) f = absurd (cc)

    free_after : (o : Option ℕ) → told_after h t p o ≡ None → h.told p ≡ None
    free_after None f = absurd (cc)
    free_after (Some u) f = free_again u (h.told p) f

module _ (m : Labelled) (h : History) (good : IsLabelled m) (timely : IsTimelyHistory m h) where
  abbrev known : IsHistory m h
  known = timely.history

  -- ---- a table of least moments

  module _ (room : HasRoomLeft m h) (can : Can m h) where
    abbrev R : Labelled
    R = rest m h room.fresh

    labelled : IsLabelled R
    labelled = rest_labelled m h room.fresh good known timely.in_time room.above room.room.base

    well_formed : IsWellFormed (lowered R)
    well_formed = lowered_well_formed R labelled room.room.lowered

    consistent : IsConsistent (lowered R)
    consistent = (equivalent R labelled).consistent.0 ((can_both m h room.fresh good known).0 can)

    abbrev default : Scenario
    default = λ p. false

    abbrev twin : Scenario → Scenario
    twin = mixed R labelled default

    pub least_table : (table : Table) × Continues m h table × IsLeastTable m h table
    least_table =
        let found = least_exists (lowered R) well_formed.network well_formed.letters consistent in
        let plays = to_labelled R labelled found.0 default twin found.1 (mixed_defaulted R labelled default) in (
          from_rest m h room.fresh good known (λ s. found.0 (twin s)) plays,
          from_rest_continues m h room.fresh good known (λ s. found.0 (twin s)) plays,
          λ s x agrees here none e.
              let left = left_coming m h room.fresh good known x none (holds_allows h (completed_label m x) s agrees e) in
              let there = executed_left m h room.fresh good known s x here left (subst (λ r. IsExecuted m r x) (sym (told_itself h s agrees)) e) in
              let least = defaulted_least R found.0 default twin labelled (mixed_defaulted R labelled default) found.2 s (number_left m h x)
              (new_inside m h room.fresh good known x here left) there in
              subst (IsLeastNow m h s x) (sym (at_coming m h room.fresh good known (λ r. found.0 (twin r)) plays s x none))
              ((least_both m h room.fresh good known s x agrees here none e (found.0 (twin s) (number_left m h x))).1 least),
        )

  -- ---- what is named can be done

  -- a table of least moments has what is named at its moment in each scenario
  always : (table : Table) (t x : ℕ) → Continues m h table → IsLeastTable m h table → IsNamed m h t x → IsAlwaysAt m h table x t
  always table t x goes least named s agrees =
      let there = named.least s agrees in
      let upto = there.least table goes in
      let downto = (least s x agrees named.here named.coming there.executed).least there.reached.0 there.reached.1 in
      let at = there.reached.2 in
      (there.executed, omega arith)

  not_lt : (a b : ℕ) → b ≤ a → nat_lt a b ≡ false
  not_lt a b upto = grind arith

  not_le : (a b : ℕ) → b < a → nat_le a b ≡ false
  not_le a b more = grind arith

  named_upto : (t x : ℕ) → IsNamed m h t x → t ≤ most_deadline
  named_upto t x named =
      let l = named.least (as_told h (λ p. false)) (told_agrees h (λ p. false)) in
      let upto = l.reached.1.within (as_told h (λ p. false)) x (told_agrees h (λ p. false)) named.here named.coming l.executed in
      let at = l.reached.2 in
      let last = limit_upto x in
      omega arith
    where
      limit_upto : (y : ℕ) → limit m.base y ≤ most_deadline
      limit_upto zero = omega arith
      limit_upto (suc y) = good.base.in_time

  pub named_accepted : (t : ℕ) (x : NodeId) → IsNamed m h t x.0 → done_refusal m h t x.0 ≡ None
  named_accepted t x named =
      let upto = named_upto t x.0 named in
      let ready = ready_from m h good x.0 named.coming (λ s agrees. (named.least s agrees).executed) in
      let settled = (and_parts (not (is_done h x.0)) (settles h (completed_label m x.0)) ready).1 in
      rw (not_lt most_deadline t upto, not_le (count m.base) x.0 named.here, named.coming, settled) refl

  -- ---- one step

  quiet_of : (table : Table) → Continues m h table → (t : ℕ) → IsQuietUpto m h t → IsQuietBefore m h table t
  quiet_of table goes t quiet = quiet_upto m h good t quiet table goes

  passes : Can m h → (later : History) → IsPassing m h later → IsTimelyHistory m later × Can m later
  passes can later p = subst (λ k. IsTimelyHistory m k × Can m k) (sym p.recorded) (
    timely_now m h p.moment known timely.in_time p.accepted,
    (can.0, time_passes m h can.0 can.1 p.moment (quiet_of can.0 can.1 p.moment p.quiet)),
  )

  tells : Can m h → (later : History) → IsTelling m h later → IsTimelyHistory m later × Can m later
  tells can later p = subst (λ k. IsTimelyHistory m k × Can m k) (sym p.recorded) (
    timely_told m h good known timely.in_time p.moment p.prop.index p.value p.accepted,
    (
      can.0,
      outcome_comes m h can.0 can.1 p.moment p.prop.index p.value
          (untold_here m h p.moment p.prop.index p.accepted) (quiet_of can.0 can.1 p.moment p.quiet),
    ),
  )

  does : HasRoomLeft m h → Can m h → (later : History) → IsDoing m h later → IsTimelyHistory m later × Can m later
  does room can later p =
      let table = least_table room can in
      subst (λ k. IsTimelyHistory m k × Can m k) (sym p.recorded) (
        timely_done m h good known timely.in_time p.moment p.node.0 (named_accepted p.moment p.node p.named),
        (
          table.0,
          step_is_done m h good known table.0 table.1 p.moment p.node.0 p.named.here p.named.coming (quiet_of table.0 table.1 p.moment p.quiet)
              (always table.0 p.moment p.node.0 table.1 table.2 p.named),
        ),
      )

  pub goes_on : Can m h → (later : History) → IsHistoryStep m h later → IsTimelyHistory m later × Can m later
  goes_on can later (room, inl p) = passes can later p
  goes_on can later (room, inr (inl p)) = tells can later p
  goes_on can later (room, inr (inr p)) = does room can later p

  -- ---- what else is named stays named once one of them is done

  module _ (room : HasRoomLeft m h) (can : Can m h) (t : ℕ) (x : NodeId) (quiet : IsQuietUpto m h t) (named : IsNamed m h t x.0) where
    abbrev later : History
    later = with_done h t x.0

    then_timely : IsTimelyHistory m later
    then_timely = timely_done m h good known timely.in_time t x.0 (named_accepted t x named)

    abbrev chosen : (table : Table) × Continues m h table × IsLeastTable m h table
    chosen = least_table room can

    from_soonest : soonest h x.0 ≤ t
    from_soonest =
        let l = named.least (as_told h (λ p. false)) (told_agrees h (λ p. false)) in
        let from = l.reached.1.from_soonest (as_told h (λ p. false)) x.0 (told_agrees h (λ p. false)) named.here named.coming l.executed in
        let at = l.reached.2 in
        omega arith

    on : GoesOn h later
    on = record {
      now = omega arith;
      kept = λ y u is. put_kept h.done x.0 t y u named.coming is;
      more = λ y u none is. elim (put_from h.done x.0 t y u is) [
        | inl new ↦ subst (λ z. soonest h z ≤ u) (sym new.0) (let low = from_soonest in let same = new.1 in omega arith)
        | inr old ↦ absurd (cc)
      ];
      told = λ p. refl;
      expected = λ p. refl;
      ready = λ y none. omega arith;
    }

    pub still_named : (y : ℕ) → IsNamed m h t y → (y ≡ x.0 → ⊥) → IsNamed m later t y
    still_named y also other = record {
      here = also.here;
      coming = put_other h.done x.0 t y other ∙ also.coming;
      least = λ s agrees.
          let there = also.least s agrees in
          let both = always chosen.0 t y chosen.1 chosen.2 also s agrees in
          record {
            coming = put_other h.done x.0 t y other ∙ also.coming;
            executed = there.executed;
            reached = (
              chosen.0,
              step_is_done m h good known chosen.0 chosen.1 t x.0 named.here named.coming (quiet_of chosen.0 chosen.1 t quiet)
                  (always chosen.0 t x.0 chosen.1 chosen.2 named),
              both.1,
            );
            least = λ table goes. there.least table (narrower m h later good known then_timely.history on table goes);
          };
    }

    pub still_quiet : IsQuietUpto m later t
    still_quiet u from before eventful = omega arith

-- ---- step after step

pub all_go_on : (m : Labelled) (h : History) (steps : List History) → IsLabelled m → IsTimelyHistory m h → Can m h → AreHistorySteps m h steps →
    IsTimelyHistory m (history_after h steps) × Can m (history_after h steps)
all_go_on m h [] good timely can are = (timely, can)
all_go_on m h (later ∷ more) good timely can are =
    let next = goes_on m h good timely can later are.0 in
    all_go_on m later more good next.0 next.1 are.1
