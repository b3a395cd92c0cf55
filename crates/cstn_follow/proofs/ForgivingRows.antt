-- Worked rows of what is broken, on the clinical pathway.
use Rattle.std.proofs.Common.{◌≡◌, true, [], ◌∷◌, Some, refl}
use Rattle.cstn_lift.specs.Lowered.{is_plain}
use Rattle.cstn_history.specs.Examples.{pathway, happened, of_infection, of_none}
use Rattle.cstn_history.specs.Histories.{allows, nothing_yet}
use Rattle.cstn_follow.specs.Forgiving.{broken_ids}

-- nothing is broken where nothing has happened
at_first : broken_ids pathway nothing_yet ≡ []
unfolding is_plain allows
at_first = refl

-- the antibiotic comes at 112, where it was to be given by 95
too_late : broken_ids pathway (happened 112 (Some 0 ∷ (Some 5 ∷ (Some 112 ∷ []))) (of_infection true) of_none) ≡ 2 ∷ []
unfolding is_plain allows
too_late = refl

-- the review comes at 130, which is too late where there is no infection, as may be
in_some_case : broken_ids pathway (happened 130 (Some 0 ∷ (Some 5 ∷ (of_none 2 ∷ (Some 130 ∷ [])))) of_none of_none) ≡ 5 ∷ []
unfolding is_plain allows
in_some_case = refl

-- and which isn't once an infection is told
in_no_case : broken_ids pathway (happened 130 (Some 0 ∷ (Some 5 ∷ (of_none 2 ∷ (Some 130 ∷ [])))) (of_infection true) of_none) ≡ []
unfolding is_plain allows
in_no_case = refl
