use Rattle.std.proofs.Common.{ℕ, ◌≡◌, ◌<◌, List, Some, None, sym, subst, ap, ◌∙◌}
use Rattle.std.specs.Prelude.{Err}
use Rattle.std.specs.List.{All}
use Rattle.std.proofs.lemmas.Result.{IfOk-weaker}
use Rattle.cstn_net.specs.Limits.{most_deadline}
use Rattle.cstn_net.specs.Networks.{Constraint}
use Rattle.cstn_lift.specs.Labelled.{Labelled}
use Rattle.cstn_lift.specs.Lowered.{lowered}
use Rattle.cstn_lift.specs.Read.{the_labelled}
use Rattle.cstn_history.specs.Read.{the_history, IsKeptFor}
use Rattle.cstn_history.specs.Rest.{rest}
use Rattle.cstn_follow.specs.Findings.{verdict_of, IsFindingOn}
use Rattle.cstn_follow.specs.Following.{verdict_left}
use Rattle.cstn_follow.specs.LeastDeadline.{by_deadline, least_by}
use Rattle.cstn_follow.specs.Sessions.{SessionParts}
use Rattle.cstn_follow.proofs.Changed.{due_by, kept_replanned, many_due}
use Rattle.cstn_follow.proofs.session.Session.least_found.Goals as goal

pub returns-in_default : goal.returns-in_default
returns-in_default c =
    let s = c.args.self.now in
    let many = rw c.in_default.is at c.in_ok-made.ensures.many in
    record {
      told = sym (ap (least_by (by_deadline (the_labelled s.network) most_deadline) (the_history s.history) s.fresh)
          (many_due s c.network.result.now c.network.ensures.network most_deadline many));
    }

pub finding_replanned-requires-clause-kept : goal.finding_replanned-requires-clause-kept
finding_replanned-requires-clause-kept c =
    let s = c.args.self.now in
    let m = the_labelled c.in-Some.network in
    let made = rw c.in-Some.is at c.in_ok-made.ensures.edited in
    let is = due_by s m c.network.result.now most_deadline c.network.ensures.network made in
    subst (λ (k : SessionParts). IsKeptFor m k.history) (sym c.self.view_is) (kept_replanned s m _ _ c.network.ensures.session is)

pub finding_replanned-requires-clause-above : goal.finding_replanned-requires-clause-above
finding_replanned-requires-clause-above c =
    let s = c.args.self.now in
    let m = the_labelled c.in-Some.network in
    let made = rw c.in-Some.is at c.in_ok-made.ensures.edited in
    let is = due_by s m c.network.result.now most_deadline c.network.ensures.network made in
    subst (λ (n : ℕ). All (λ d. d.id < n) m.base.constraints) (sym c.fresh.ensures.fresh)
    (subst (λ (cs : List Constraint). All (λ d. d.id < s.fresh) cs) (sym (ap (λ (n : Labelled). n.base.constraints) is))
    c.network.ensures.session.execution.above)

pub least_by-requires-clause-kept : goal.least_by-requires-clause-kept
least_by-requires-clause-kept c =
    let s = c.args.self.now in
    let m = the_labelled c.in-Some.network in
    let made = rw c.in-Some.is at c.in_ok-made.ensures.edited in
    let is = due_by s m c.network.result.now most_deadline c.network.ensures.network made in
    kept_replanned s m _ _ c.network.ensures.session is

pub least_by-requires-clause-found : goal.least_by-requires-clause-found
least_by-requires-clause-found c =
    let s = c.args.self.now in
    let w = c.self.inside in
    let m = the_labelled c.in-Some.network in
    let f = c.in-Ok.finding in
    subst (λ (k : SessionParts). IsFindingOn k.cap (lowered (rest m (the_history k.history) s.fresh)) f) c.self.view_is
    (subst (λ (n : ℕ). IsFindingOn w.cap.entries (lowered (rest m (the_history w.execution.history) n)) f) c.fresh.ensures.fresh c.in-Ok.ensures.finding)

pub returns-in-Ok : goal.returns-in-Ok
returns-in-Ok c =
    let s = c.args.self.now in
    let w = c.self.inside in
    let h = the_history s.history in
    let m = the_labelled c.in-Some.network in
    let f = c.in-Ok.finding in
    let made = rw c.in-Some.is at c.in_ok-made.ensures.edited in
    let same = due_by s m c.network.result.now most_deadline c.network.ensures.network made in
    let verdict = subst (λ (k : SessionParts). verdict_left m (the_history k.history) s.fresh k.cap ≡ Some (verdict_of f)) c.self.view_is
    (subst (λ (n : ℕ). verdict_left m (the_history w.execution.history) n w.cap.entries ≡ Some (verdict_of f)) c.fresh.ensures.fresh c.in-Ok.ensures.verdict) in
    record {
      told = IfOk-weaker c.least_by.result _ _
          (λ l is. is ∙ ap (least_by m h s.fresh) (sym verdict) ∙ ap (λ (n : Labelled). least_by n h s.fresh (verdict_left n h s.fresh s.cap)) same)
          c.least_by.ensures.told;
    }

pub returns-in-Err-TooManyConstraints : goal.returns-in-Err-TooManyConstraints
returns-in-Err-TooManyConstraints c =
    let s = c.args.self.now in
    let w = c.self.inside in
    let h = the_history s.history in
    let m = the_labelled c.in-Some.network in
    let made = rw c.in-Some.is at c.in_ok-made.ensures.edited in
    let same = due_by s m c.network.result.now most_deadline c.network.ensures.network made in
    let many = c.finding_replanned.ensures.many (c.in-Err-TooManyConstraints.is ∙ ap (λ d. Err d) c.in-Err-TooManyConstraints.field-0-is) in
    let none = subst (λ (k : SessionParts). verdict_left m (the_history k.history) s.fresh k.cap ≡ None) c.self.view_is
    (subst (λ (n : ℕ). verdict_left m (the_history w.execution.history) n w.cap.entries ≡ None) c.fresh.ensures.fresh many) in
    record {
      told = sym (ap (least_by (by_deadline (the_labelled s.network) most_deadline) h s.fresh)
          (sym (ap (λ (n : Labelled). verdict_left n h s.fresh s.cap) same) ∙ none));
    }
