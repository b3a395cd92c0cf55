use Rattle.std.proofs.Common.{◌≡◌, ◌<◌, length, inl, Bool, Option, Some, None, sym, subst, ap, ◌∙◌}
use Rattle.std.specs.Prelude.{ℤ, Err}
use Rattle.std.specs.Int.{w32}
use Rattle.std.proofs.lemmas.Int.{to_z-of_z}
use Rattle.cstn_net.specs.Limits.{most_constraints}
use Rattle.cstn_lift.specs.Lowered.{lowered}
use Rattle.cstn_lift.specs.Labelled.{Labelled}
use Rattle.cstn_lift.specs.Read.{the_labelled}
use Rattle.cstn_history.specs.Read.{the_history, IsKeptFor}
use Rattle.cstn_follow.specs.Executions.{ExecutionParts}
use Rattle.cstn_follow.specs.Findings.{verdict_of}
use Rattle.cstn_follow.specs.Following.{verdict_left}
use Rattle.cstn_follow.specs.Pauses.{said_of}
use Rattle.cstn_follow.specs.Raises.{with_limit, said_raised}
use Rattle.cstn_follow.proofs.Edited.{left_many}
use Rattle.cstn_follow.proofs.ValueAt.{kept_edited}
use Rattle.cstn_follow.proofs.executions.Execution.said_raised.Goals as goal

pub returns-in_default : goal.returns-in_default
returns-in_default c =
    let w = c.self.inside in
    let id = c.args.id in
    let most = c.args.most in
    let cap = c.args.cap.entries in
    let same = to_z-of_z w32 most c.ranges.most in
    let many = subst (λ (z : ℤ). most_constraints < length (lowered (with_limit (the_labelled w.network) id z)).constraints) same
    (rw c.in_default.is at c.in_ok-made.ensures.many) in
    let none = left_many (with_limit (the_labelled w.network) id most) (the_history w.history) w.fresh cap (inl many) in
    record {
      said = subst (λ (e : ExecutionParts). ◌≡◌ {A = Option Bool} None (said_raised (the_labelled e.network) (the_history e.history) e.fresh cap id most)) c.self.view_is
          (sym (ap said_of none));
    }

pub finding_replanned-requires-clause-kept : goal.finding_replanned-requires-clause-kept
finding_replanned-requires-clause-kept c =
    let w = c.self.inside in
    let m = the_labelled c.in-Some.network in
    let made = rw c.in-Some.is at c.in_ok-made.ensures.edited in
    subst (λ (e : ExecutionParts). IsKeptFor m e.history) c.self.view_is (kept_edited (the_labelled w.network) m w.history _ _ c.self.invariant.kept made)

pub returns-in-Ok : goal.returns-in-Ok
returns-in-Ok c =
    let s = c.args.self.now in
    let w = c.self.inside in
    let id = c.args.id in
    let most = c.args.most in
    let cap = c.args.cap.entries in
    let m = the_labelled c.in-Some.network in
    let f = c.in-Ok.finding in
    let made = (rw c.in-Some.is at c.in_ok-made.ensures.edited) ∙ ap (λ (z : ℤ). with_limit (the_labelled w.network) id z) (to_z-of_z w32 most c.ranges.most) in
    let verdict = subst (λ (e : ExecutionParts). verdict_left (with_limit (the_labelled e.network) id most) (the_history s.history) e.fresh cap ≡ Some (verdict_of f))
    c.self.view_is (sym (ap (λ (n : Labelled). verdict_left n (the_history s.history) w.fresh cap) made) ∙ c.in-Ok.ensures.verdict) in
    record { said = c.said_by.ensures ∙ ap (λ v. said_of (Some v)) c.verdict.ensures ∙ sym (ap said_of verdict) }

pub returns-in-Err-TooManyConstraints : goal.returns-in-Err-TooManyConstraints
returns-in-Err-TooManyConstraints c =
    let s = c.args.self.now in
    let w = c.self.inside in
    let id = c.args.id in
    let most = c.args.most in
    let cap = c.args.cap.entries in
    let made = (rw c.in-Some.is at c.in_ok-made.ensures.edited) ∙ ap (λ (z : ℤ). with_limit (the_labelled w.network) id z) (to_z-of_z w32 most c.ranges.most) in
    let many = c.finding_replanned.ensures.many (c.in-Err-TooManyConstraints.is ∙ ap (λ d. Err d) c.in-Err-TooManyConstraints.field-0-is) in
    let none = subst (λ (e : ExecutionParts). verdict_left (with_limit (the_labelled e.network) id most) (the_history s.history) e.fresh cap ≡ None)
    c.self.view_is (sym (ap (λ (n : Labelled). verdict_left n (the_history s.history) w.fresh cap) made) ∙ many) in
    record { said = sym (ap said_of none) }
