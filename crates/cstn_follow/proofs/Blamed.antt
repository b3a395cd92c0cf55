-- Which constraints are to blame is found by leaving them out in turn.
use Rattle.std.proofs.Common.{ℕ, ◌≡◌, ◌<◌, Bool, true, false, List, Option, Some, subst}
use Rattle.std.specs.Prelude.{◌↔◌}
use Rattle.std.specs.List.{All, AllPairs, Contains}
use Rattle.std.proofs.lemmas.Bool.{both_ways}
use Rattle.cstn_net.specs.Networks.{Network}
use Rattle.cstn_check.specs.Givers.{is_of, but, with_some}
use Rattle.cstn_check.specs.Verdicts.{is_consistent}
use Rattle.cstn_check.proofs.Decides.{decided}
use Rattle.cstn_check.proofs.Leaving.{found_ascends, found_stops as ids_stop, found_needed as ids_needed}
use Rattle.cstn_check.proofs.Parts.{ids_ascend, without_one}
use Rattle.cstn_check.proofs.Said.{said_is}
use Rattle.cstn_lift.specs.Labelled.{Labelled}
use Rattle.cstn_lift.specs.Lowered.{lowered}
use Rattle.cstn_lift.specs.WellFormed.{IsLabelled}
use Rattle.cstn_lift.proofs.Equivalent.{equivalent}
use Rattle.cstn_lift.proofs.WellFormed.{lowered_well_formed}
use Rattle.cstn_history.specs.Histories.{History, IsTimelyHistory}
use Rattle.cstn_history.specs.Continuations.{Can}
use Rattle.cstn_history.specs.Rest.{rest}
use Rattle.cstn_history.specs.Handed.{HasFewConstraints}
use Rattle.cstn_history.proofs.Decides.{can_both}
use Rattle.cstn_history.proofs.Edited.{timely_edited}
use Rattle.cstn_history.proofs.WellFormed.{rest_labelled}
use Rattle.cstn_follow.specs.Blame.{network_alone, said_by_network, ids_to_blame}
use Rattle.cstn_follow.specs.Tries.{with_base}
use Rattle.cstn_follow.proofs.Parts.{part_labelled, part_above, part_room, goes_with_fewer}

pub found_ascend : (m : Labelled) (h : History) (fresh cap : ℕ) (ids : List ℕ) → IsLabelled m → ids_to_blame m h fresh cap ≡ Some ids → AllPairs (λ a b. a < b) ids
found_ascend m h fresh cap ids good is = found_ascends (said_by_network m h fresh cap) m.base ids is (ids_ascend m.base good.base)

-- ---- what is said without an id

module _ (m : Labelled) (h : History) (fresh : ℕ) (good : IsLabelled m) (timely : IsTimelyHistory m h)
    (above : All (λ c. c.id < fresh) m.base.constraints) (room : HasFewConstraints (rest m h fresh)) where
  goes : (test : ℕ → Bool) → (is_consistent (lowered (rest (network_alone m test) h fresh)) ≡ true) ↔ Can (network_alone m test) h
  goes test =
      let part = network_alone m test in
      let good_part = part_labelled m test good in
      let timely_part = timely_edited m h m.base.deadline part.base.constraints timely.history timely.in_time in
      let room_part = part_room m test good h fresh room in
      let left = rest_labelled part h fresh good_part timely_part.history timely_part.in_time (part_above m test fresh above) room_part.base in
      let a = decided (lowered (rest part h fresh)) (lowered_well_formed (rest part h fresh) left room_part.lowered) in
      let b = (equivalent (rest part h fresh) left).consistent in
      let c = can_both part h fresh good_part timely_part.history in (
        (λ yes. c.1 (b.1 (a.0 yes))),
        (λ can. a.1 (b.0 (c.0 can))),
      )

  module _ (cap : ℕ) where
    abbrev says : Network → Option Bool
    says = said_by_network m h fresh cap

    -- the history can go on by the constraints of this network
    abbrev Goes : Network → Type 0
    Goes net = Can (with_base m net) h

    goes_by : (test : ℕ → Bool) → says (with_some m.base test) ≡ Some true → Goes (with_some m.base test)
    goes_by test e = (goes test).0 (said_is cap (lowered (rest (network_alone m test) h fresh)) true e).0

    stops_by : (test : ℕ → Bool) → says (with_some m.base test) ≡ Some false → Goes (with_some m.base test) → ⊥
    stops_by test e can =
        both_ways (is_consistent (lowered (rest (network_alone m test) h fresh))) (said_is cap (lowered (rest (network_alone m test) h fresh)) false e).0 ((goes test).1 can)

    goes_fewer : (a b : ℕ → Bool) → ((id : ℕ) → a id ≡ true → b id ≡ true) → Goes (with_some m.base b) → Goes (with_some m.base a)
    goes_fewer a b fewer can = goes_with_fewer m h a b (λ c has passes. fewer c.id passes) can

    module _ (ids : List ℕ) (is : ids_to_blame m h fresh cap ≡ Some ids) where
      pub found_stops : (Can m h → ⊥) → Can (network_alone m (is_of ids)) h → ⊥
      found_stops = ids_stop says m.base ids is Goes goes_by stops_by goes_fewer

      pub found_needed : (id : ℕ) → Contains ids id → Can (network_alone m (but id (is_of ids))) h
      found_needed id among = subst Goes (without_one m.base (is_of ids) id) (ids_needed says m.base ids is Goes goes_by stops_by goes_fewer id among)
