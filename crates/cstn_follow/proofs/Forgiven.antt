-- Networks and sessions in which what was done has broken is forgiven.
use Rattle.std.proofs.Common.{ℕ, suc, ◌≡◌, inl, inr, ◌+◌, ◌≤◌, Bool, true, false, not, List, [], ◌∷◌, Some, None, length, map, arith, refl, sym, ap, ◌∙◌}
use Rattle.std.specs.Prelude.{nat_le, ◌==◌, ◌&&◌, if◌then◌else◌}
use Rattle.std.specs.List.{filter}
use Rattle.std.proofs.lemmas.Bool.{cases_Bool}
use Rattle.cstn_net.specs.Limits.{most_constraints}
use Rattle.cstn_net.specs.declared.points.TimePoint.{TimePoint}
use Rattle.cstn_net.specs.Networks.{Network, Constraint}
use Rattle.cstn_net.specs.Read.{NetworkParts, the_network, observed, reaction_of}
use Rattle.cstn_lift.specs.Labelled.{Labelled}
use Rattle.cstn_lift.specs.Lowered.{lowered}
use Rattle.cstn_lift.specs.WellFormed.{IsLabelled}
use Rattle.cstn_check.specs.Givers.{is_of, with_some}
use Rattle.cstn_check.specs.Decisions.{verdict}
use Rattle.cstn_check.specs.declared.verdicts.Verdict.{Verdict}
use Rattle.cstn_history.specs.Histories.{History}
use Rattle.cstn_history.specs.Rest.{rest}
use Rattle.cstn_change.specs.Changes.{EditedNetwork, removes, edited_by, constraints_without}
use Rattle.cstn_change.specs.Read.{OnlyConstraintsDiffer}
use Rattle.cstn_follow.specs.Blame.{network_alone}
use Rattle.cstn_follow.specs.Following.{has_few, verdict_left}
use Rattle.cstn_follow.specs.Forgiving.{after_removals}
use Rattle.cstn_follow.proofs.Edited.{left_fits}
use Rattle.cstn_follow.proofs.GoesOn.{left_says}
use Rattle.cstn_follow.proofs.Roomy.{own_few}
use Rattle.cstn_follow.proofs.Parts.{part_short, part_room}

-- ---- the network without the constraints of some ids

-- an id that isn't among these
abbrev pub isnt_of : List ℕ → ℕ → Bool
isnt_of ids i = not (is_of ids i)

abbrev kept : List ℕ → List Constraint → List Constraint
kept ids cs = filter (λ c. isnt_of ids c.id) cs

kept_none : (cs : List Constraint) → kept [] cs ≡ cs
kept_none [] = refl
kept_none (c ∷ cs) = ap (λ l. c ∷ l) (kept_none cs)

kept_both : (id : ℕ) (ids : List ℕ) (cs : List Constraint) → kept ids (constraints_without id cs) ≡ kept (id ∷ ids) cs
kept_both id ids [] = refl
kept_both id ids (c ∷ cs) = elim (cases_Bool (c.id == id)) [
  | inl same ↦ rw same (kept_both id ids cs)
  | inr other ↦ elim (cases_Bool (is_of ids c.id)) [
    | inl one ↦ rw other (rw one (kept_both id ids cs))
    | inr none ↦ rw other (rw none (ap (λ l. c ∷ l) (kept_both id ids cs)))
  ]
]

abbrev made : Network → ℕ → List Constraint → ℕ → EditedNetwork
made net fresh cs edits = record { net = record net { constraints = cs }; fresh = fresh; edits = edits }

-- removal after removal is the network without all of these, with an edit for each
pub removed_is : (e : EditedNetwork) (ids : List ℕ) → after_removals e ids ≡ record { net = with_some e.net (isnt_of ids); fresh = e.fresh; edits = e.edits + length ids }
removed_is e [] =
    ap (λ cs. made e.net e.fresh cs e.edits) (sym (kept_none e.net.constraints))
    ∙ ap (made e.net e.fresh (kept [] e.net.constraints)) (let n : e.edits ≡ e.edits + 0 = omega arith in n)
removed_is e (id ∷ ids) =
    removed_is (edited_by e (removes id)) ids
    ∙ ap (λ cs. made e.net e.fresh cs ((e.edits + 1) + length ids)) (kept_both id ids e.net.constraints)
    ∙ ap (made e.net e.fresh (kept (id ∷ ids) e.net.constraints)) (let n : (e.edits + 1) + length ids ≡ e.edits + suc (length ids) = omega arith in n)

-- the program's network, once it was taken out of it
abbrev seen : List TimePoint → ℕ → List Constraint → Network
seen points deadline cs = record { deadline = deadline; observes = map observed points; reaction = reaction_of points; constraints = cs }

pub taken_next : (old new : NetworkParts) (id : ℕ) (ids : List ℕ) → OnlyConstraintsDiffer old new (constraints_without id (the_network old).constraints)
    → with_some (the_network old) (isnt_of (id ∷ ids)) ≡ with_some (the_network new) (isnt_of ids)
taken_next old new id ids taken =
    ap (seen old.points old.deadline) (sym (kept_both id ids (the_network old).constraints))
    ∙ ap (λ cs. seen old.points old.deadline (kept ids cs)) (sym taken.constraints)
    ∙ ap (λ ps. seen ps old.deadline (kept ids (the_network new).constraints)) (sym taken.points)
    ∙ ap (λ (d : ℕ). seen new.points d (kept ids (the_network new).constraints)) (sym taken.deadline)

pub all_taken : (net : NetworkParts) → with_some (the_network net) (isnt_of []) ≡ the_network net
all_taken net = ap (seen net.points net.deadline) (kept_none (the_network net).constraints)

-- ---- what is left of it

-- with fewer constraints there is a verdict, too
pub part_verdict : (m : Labelled) (test : ℕ → Bool) (h : History) (fresh cap : ℕ) (v : Verdict) → IsLabelled m → verdict_left m h fresh cap ≡ Some v
    → verdict_left (network_alone m test) h fresh cap ≡ Some (verdict cap (lowered (rest (network_alone m test) h fresh)))
part_verdict m test h fresh cap v good is =
    let few = own_few m h fresh cap v is in
    let short = part_short m test good in
    left_fits (network_alone m test) h fresh cap (omega arith) (part_room m test good h fresh (left_says m h fresh cap v is).0)
