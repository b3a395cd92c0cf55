-- By how much a limit has to give way is found by halving.
use Rattle.std.proofs.Common.{ℕ, ◌≡◌, inl, inr, ◌<◌, ◌≤◌, Bool, true, false, Option, Some, None, map, arith, refl, subst}
use Rattle.std.specs.Prelude.{ℤ, pos, ◌+ℤ◌, ◌-ℤ◌, ◌≤ℤ◌, ◌<ℤ◌, int_lt, if◌then◌else◌}
use Rattle.std.specs.Int.{int_max}
use Rattle.std.specs.List.{All}
use Rattle.std.specs.Option.{option_map}
use Rattle.std.proofs.lemmas.Int.{ints}
use Rattle.std.proofs.lemmas.Bool.{cases_Bool, cases_lt}
use Rattle.cstn_facts.proofs.Integers.{int_lt-true, int_lt-false}
use Rattle.cstn_net.specs.Networks.{IsValue}
use Rattle.cstn_plan.specs.Asked.{moment_of}
use Rattle.cstn_lift.specs.Labelled.{Labelled}
use Rattle.cstn_lift.specs.WellFormed.{IsLabelled}
use Rattle.cstn_change.specs.Changes.{with_value}
use Rattle.cstn_check.specs.Search.{halving}
use Rattle.cstn_check.specs.declared.verdicts.Verdict.{Verdict}
use Rattle.cstn_check.specs.declared.verdicts.Verdict.TheVariants.{Yes, No, Full}
use Rattle.cstn_check.proofs.Halves.{last_found}
use Rattle.cstn_history.specs.Histories.{History, IsTimelyHistory}
use Rattle.cstn_history.specs.Continuations.{Can}
use Rattle.cstn_history.proofs.Edited.{timely_edited}
use Rattle.cstn_follow.specs.Following.{verdict_left}
use Rattle.cstn_follow.specs.Pauses.{said_of}
use Rattle.cstn_follow.specs.Raises.{with_limit, value_among, IsLeastRaise, IsRaisedInVain, said_raised, raised_to, raise_first, least_tried, raise_stuck}
use Rattle.cstn_follow.specs.Raises.{raise_by, raise_from, raise_of, IsRaiseFull, IsRightRaise}
use Rattle.cstn_follow.specs.declared.answers.Raise.TheVariants.{Never}
use Rattle.cstn_follow.proofs.GoesOn.{verdict_right}
use Rattle.cstn_follow.proofs.Halved.{none_within, moment_pos}
use Rattle.cstn_follow.proofs.LastNow.{said_goes, said_stops}
use Rattle.cstn_follow.proofs.Loosened.{HasOwn, none_own, own_found, limit_labelled, limit_above, easier_can, own_can}
use Rattle.cstn_follow.proofs.RaiseRoom.{limit_fits}

-- what is below the greater of two is below one of them
below_either : (a b z : ℤ) → z <ℤ int_max a b → b ≤ℤ z → z <ℤ a
below_either a b z less over = grind (arith, ints)

max_over : (a b : ℤ) → (a ≤ℤ int_max a b) × (b ≤ℤ int_max a b)
max_over a b = (grind (arith, ints), grind (arith, ints))

max_upto : (a b c : ℤ) → a ≤ℤ c → b ≤ℤ c → int_max a b ≤ℤ c
max_upto a b c first second = grind (arith, ints)

module _ (m : Labelled) (h : History) (fresh cap id : ℕ) (good : IsLabelled m) (timely : IsTimelyHistory m h) (above : All (λ c. c.id < fresh) m.base.constraints)
    (own : ℤ) (is_own : value_among id m.base.constraints ≡ Some own)
    (fits : (w : ℤ) → own ≤ℤ w → verdict_left (with_limit m id w) h fresh cap ≡ None → ⊥) where
  abbrev H : ℤ
  H = pos m.base.deadline

  abbrev says : ℤ → Option Bool
  says w = said_raised m h fresh cap id w

  abbrev Goes : ℤ → Type 0
  Goes w = Can (with_limit m id w) h

  has : HasOwn id own m.base.constraints
  has = own_found id own m.base.constraints good.base.ascending is_own

  in_range : (w : ℤ) → (pos 0 -ℤ H) ≤ℤ w → w ≤ℤ H → IsValue w
  in_range w low high = let most = good.base.in_time in (omega (arith, ints), omega (arith, ints))

  timely_with : (w : ℤ) → IsTimelyHistory (with_limit m id w) h
  timely_with w = timely_edited m h m.base.deadline (map (with_value id w) m.base.constraints) timely.history timely.in_time

  said_true : (w : ℤ) → IsValue w → says w ≡ Some true → Goes w
  said_true w value said =
      said_goes (with_limit m id w) h fresh cap (limit_labelled m id w good value) (timely_with w) (limit_above m id w fresh above) h (timely_with w) said

  said_false : (w : ℤ) → IsValue w → says w ≡ Some false → Goes w → ⊥
  said_false w value said =
      said_stops (with_limit m id w) h fresh cap (limit_labelled m id w good value) (timely_with w) (limit_above m id w fresh above) h (timely_with w) said

  said_none : (w : ℤ) → IsValue w → own ≤ℤ w → says w ≡ None → IsRaiseFull m h fresh cap id
  said_none w value over said = by_verdict (verdict_left (with_limit m id w) h fresh cap) refl said
    where
      by_verdict : (o : Option Verdict) → verdict_left (with_limit m id w) h fresh cap ≡ o → said_of o ≡ None → IsRaiseFull m h fresh cap id
      by_verdict None is none = absurd (fits w over is)
      by_verdict (Some (Yes load)) is none = absurd (cc)
      by_verdict (Some (No load)) is none = absurd (cc)
      by_verdict (Some Full) is none =
          inr (w, verdict_right (with_limit m id w) h fresh cap Full (limit_labelled m id w good value) (timely_with w) (limit_above m id w fresh above) is)

  module _ (never : Can m h → ⊥) where
    abbrev low : ℤ
    low = least_tried m own

    below_never : (v : ℤ) → v <ℤ low → Goes v → ⊥
    below_never v less can = elim (cases_Bool (int_lt own v)) [
      | inl more ↦
          let past = int_lt-true own v more in
          let under = below_either (pos 0 -ℤ H) (own +ℤ pos 1) v (swapped less) (omega (arith, ints)) in
          never (own_can m h id good own has (easier_can m h id good v own (inr (inr under)) can))
      | inr upto ↦ never (own_can m h id good own has (easier_can m h id good v own (inl (int_lt-false own v upto)) can))
    ]
      where
        swapped : v <ℤ low → v <ℤ int_max (pos 0 -ℤ H) (own +ℤ pos 1)
        swapped before = grind (arith, ints)

    -- beyond the deadline no value is enough
    beyond_never : H ≤ℤ own → IsRaisedInVain m h id own
    beyond_never beyond v more upto can = never (own_can m h id good own has (easier_can m h id good v own (inr (inl beyond)) can))

    module _ (under : own <ℤ H) where
      low_from : (pos 0 -ℤ H) ≤ℤ low
      low_from = (max_over (own +ℤ pos 1) (pos 0 -ℤ H)).1

      low_over : own <ℤ low
      low_over = let next = (max_over (own +ℤ pos 1) (pos 0 -ℤ H)).0 in omega (arith, ints)

      low_upto : low ≤ℤ H
      low_upto = max_upto (own +ℤ pos 1) (pos 0 -ℤ H) H (omega (arith, ints)) (omega (arith, ints))

      -- where the deadline isn't enough, no value is
      stopped : says H ≡ Some false → IsRaisedInVain m h id own
      stopped said v more upto can =
          said_false H (in_range H (omega (arith, ints)) (omega (arith, ints))) said (easier_can m h id good v H (inr (inl (omega (arith, ints)))) can)

      abbrev reach : ℕ
      reach = moment_of (H -ℤ low)

      reach_is : (H -ℤ low) ≡ pos reach
      reach_is = let upto = low_upto in moment_pos (H -ℤ low) (omega (arith, ints))

      in_reach : (u : ℕ) → u ≤ reach → IsValue (H -ℤ pos u)
      in_reach u upto = let whole = reach_is in let from = low_from in in_range (H -ℤ pos u) (omega (arith, ints)) (omega (arith, ints))

      from_high : (z : ℤ) (k : ℕ) → z ≡ pos k → (w : ℤ) → (H -ℤ w) ≡ z → w ≡ H -ℤ pos k
      from_high z k is w difference = omega (arith, ints)

      module _ (goes_high : Goes H) where
        abbrev Below : ℕ → Type 0
        Below u = Goes (H -ℤ pos u)

        high_same : H ≡ H -ℤ pos 0
        high_same = omega (arith, ints)

        ends_at : (u : ℕ) → Below u → u ≤ reach
        ends_at u goes = elim (cases_lt reach u) [
          | inl more ↦ absurd (below_never (H -ℤ pos u) (let whole = reach_is in omega (arith, ints)) goes)
          | inr upto ↦ upto
        ]

        is_least : (t : ℕ) → halving (λ u. says (H -ℤ pos u)) 21 (record { low = 0; high = reach }) ≡ Some t → IsLeastRaise m h id own (H -ℤ pos t)
        is_least t found =
            let whole = reach_is in
            let from = low_from in
            let over = low_over in
            let most = good.base.in_time in
            let last = last_found (λ u. says (H -ℤ pos u)) Below reach (λ u upto said. said_true (H -ℤ pos u) (in_reach u upto) said)
            (λ u upto said. said_false (H -ℤ pos u) (in_reach u upto) said)
            (λ u k upto goes. easier_can m h id good (H -ℤ pos k) (H -ℤ pos u) (inl (omega (arith, ints))) goes) 21 (record { low = 0; high = reach }) t
            (record { low = subst Goes high_same goes_high; high = ends_at; upto = omega arith }) (let twice : reach ≤ 2000000 = omega (arith, ints) in omega arith) found in
            let within = ends_at t last.0 in
            record {
              above = omega (arith, ints);
              upto = omega (arith, ints);
              goes = last.0;
              least = λ v more can. elim (cases_Bool (int_lt v H)) [
                | inl before ↦
                    let less = int_lt-true v H before in
                    let far = moment_pos (H -ℤ v) (omega (arith, ints)) in
                    let there = from_high (H -ℤ v) (moment_of (H -ℤ v)) far v refl in
                    let upto = last.1 (moment_of (H -ℤ v)) (subst Goes there can) in
                    omega (arith, ints)
                | inr past ↦ let beyond = int_lt-false v H past in omega (arith, ints)
              ];
            }

        right_found : (o : Option ℕ) → halving (λ u. says (H -ℤ pos u)) 21 (record { low = 0; high = reach }) ≡ o
            → IsRightRaise m h fresh cap id (raised_to (option_map (λ u. H -ℤ pos u) o))
        right_found (Some t) found = (own, is_own, is_least t found)
        right_found None none =
            let there = none_within (λ u. says (H -ℤ pos u)) 21 (record { low = 0; high = reach }) (omega arith) none in
            let whole = reach_is in
            let over = low_over in
            let within = there.2 in
            said_none (H -ℤ pos there.0) (in_reach there.0 there.2) (omega (arith, ints)) there.3

      right_first : (o : Option Bool) → says H ≡ o → IsRightRaise m h fresh cap id (raise_first m h fresh cap id low o)
      right_first None said = said_none H (in_range H (omega (arith, ints)) (omega (arith, ints))) (omega (arith, ints)) said
      right_first (Some true) said =
          right_found (said_true H (in_range H (omega (arith, ints)) (omega (arith, ints))) said)
          (halving (λ u. says (H -ℤ pos u)) 21 (record { low = 0; high = reach })) refl
      right_first (Some false) said = (own, is_own, stopped said)

    right_stuck : IsRightRaise m h fresh cap id (raise_stuck m h fresh cap id own)
    right_stuck = by_test (int_lt own H) refl
      where
        by_test : (b : Bool) → int_lt own H ≡ b → IsRightRaise m h fresh cap id (if b then raise_first m h fresh cap id low (says H) else Never)
        by_test true under = right_first (int_lt-true own H under) (says H) refl
        by_test false beyond = (own, is_own, beyond_never (int_lt-false own H beyond))

  right_by : (v : Verdict) → verdict_left m h fresh cap ≡ Some v → IsRightRaise m h fresh cap id (raise_by m h fresh cap id own v)
  right_by (Yes load) is = verdict_right m h fresh cap (Yes load) good timely above is
  right_by (No load) is = right_stuck (verdict_right m h fresh cap (No load) good timely above is)
  right_by Full is = inl (verdict_right m h fresh cap Full good timely above is)

pub right_raise : (m : Labelled) (h : History) (fresh cap id : ℕ) (v : Verdict) → IsLabelled m → IsTimelyHistory m h → All (λ c. c.id < fresh) m.base.constraints
    → verdict_left m h fresh cap ≡ Some v → IsRightRaise m h fresh cap id (raise_of m h fresh cap id v)
right_raise m h fresh cap id v good timely above is = by_own (value_among id m.base.constraints) refl
  where
    by_own : (o : Option ℤ) → value_among id m.base.constraints ≡ o → IsRightRaise m h fresh cap id (raise_from m h fresh cap id v o)
    by_own None none = none_own id m.base.constraints none
    by_own (Some own) some =
        right_by m h fresh cap id good timely above own some
        (λ w over none. limit_fits m h fresh cap id own w v (own_found id own m.base.constraints good.base.ascending some) over is none) v is
