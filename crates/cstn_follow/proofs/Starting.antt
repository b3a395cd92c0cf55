-- What a session starts with.
use Rattle.std.proofs.Common.{ℕ, ◌≡◌, ◌≤◌, length, None, sym, subst, ◌∙◌}
use Rattle.cstn_net.specs.Limits.{most_constraints}
use Rattle.cstn_lift.specs.Labelled.{Labelled}
use Rattle.cstn_lift.specs.Lowered.{lowered}
use Rattle.cstn_lift.specs.WellFormed.{IsLabelled}
use Rattle.cstn_history.specs.Histories.{nothing_yet}
use Rattle.cstn_history.specs.Handed.{HasFewConstraints}
use Rattle.cstn_history.proofs.Nothing.{rest_whole}
use Rattle.cstn_follow.specs.Following.{verdict_left}
use Rattle.cstn_follow.proofs.Edited.{left_fits}

-- at the start there is a verdict
pub starts : (m : Labelled) (fresh cap : ℕ) → IsLabelled m → length (lowered m).constraints ≤ most_constraints → verdict_left m nothing_yet fresh cap ≡ None → ⊥
starts m fresh cap good few none =
    let room : HasFewConstraints m = record { base = good.base.few_constraints; lowered = few } in
    let is = left_fits m nothing_yet fresh cap few (subst HasFewConstraints (sym (rest_whole m fresh good)) room) in
    let never = sym is ∙ none in
    absurd (cc)
