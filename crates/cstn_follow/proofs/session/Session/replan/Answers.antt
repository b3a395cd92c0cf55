use Rattle.std.proofs.Common.{◌≡◌, sym, subst, ap, ◌∙◌}
use Rattle.std.specs.Prelude.{Ok, Err}
use Rattle.cstn_lift.specs.Labelled.{Labelled}
use Rattle.cstn_lift.specs.Read.{the_labelled}
use Rattle.cstn_history.specs.Read.{the_history}
use Rattle.cstn_change.specs.Changes.{EditedNetwork, edited_base}
use Rattle.cstn_follow.specs.Following.{verdict_left}
use Rattle.cstn_follow.specs.Executions.{ExecutionParts}
use Rattle.cstn_follow.specs.Replans.{Replans}
use Rattle.cstn_follow.specs.Sessions.{SessionParts, session_parts}
use Rattle.cstn_follow.proofs.Found.{is_followed, found_right}
use Rattle.cstn_follow.proofs.Changed.{labels_stay, not_replanned, replanned_by}
use Rattle.cstn_follow.proofs.session.Session.replan.Goals as goal

pub returns-in-Err-clause-replanned : goal.returns-in-Err-clause-replanned
returns-in-Err-clause-replanned c =
    let w = c.self.inside in
    let a = c.args in
    let e : EditedNetwork = edited_base (the_labelled a.network) a.fresh a.edits in
    let old : SessionParts = session_parts w.execution w.cap.entries w.edits w.finding in
    let labels = subst (λ (s : SessionParts). (the_labelled a.network).labels ≡ (the_labelled s.network).labels) (sym c.self.view_is) c.requires.labels in
    let is = sym (labels_stay old a.network a.fresh a.edits labels) in
    subst (λ (s : SessionParts). Replans e s s (Err c.in-Err.error)) c.self.view_is
    (not_replanned e old c.in-Err.error (λ many. ap (λ (m : Labelled). verdict_left m (the_history w.execution.history) a.fresh w.cap.entries) is
    ∙ c.finding_replanned.ensures.many (c.in-Err.is ∙ ap (λ d. Err d) many)))

pub invariant_of-self : goal.invariant_of-self
invariant_of-self c =
    let w = c.self.inside in
    let later : ExecutionParts = record w.execution { network = c.args.network; fresh = c.args.fresh } in
    is_followed later c.replan.new.self w.cap.entries c.args.edits c.in-Ok.finding c.replan.ensures.replanned c.replan.ensures.execution
    c.requires.few c.requires.low c.in-Ok.ensures.finding c.in-Ok.ensures.verdict

pub returns-clause-replanned : goal.returns-clause-replanned
returns-clause-replanned c =
    let w = c.self.inside in
    let a = c.args in
    let f = c.in-Ok.finding in
    let v = c.verdict-verdict.result in
    let e : EditedNetwork = edited_base (the_labelled a.network) a.fresh a.edits in
    let new : SessionParts = session_parts c.replan.new.self w.cap.entries a.edits f in
    let labels = subst (λ (s : SessionParts). (the_labelled a.network).labels ≡ (the_labelled s.network).labels) (sym c.self.view_is) c.requires.labels in
    subst (λ (s : SessionParts). Replans e s new (Ok v)) c.self.view_is
    (replanned_by w.execution c.replan.new.self a.network a.fresh w.cap.entries w.edits a.edits w.finding f v c.replan.ensures.replanned labels
    c.verdict-verdict.ensures c.in-Ok.ensures.verdict)

pub returns-clause-right : goal.returns-clause-right
returns-clause-right c =
    let w = c.self.inside in
    let later : ExecutionParts = record w.execution { network = c.args.network; fresh = c.args.fresh } in
    let good = is_followed later c.replan.new.self w.cap.entries c.args.edits c.in-Ok.finding c.replan.ensures.replanned c.replan.ensures.execution
    c.requires.few c.requires.low c.in-Ok.ensures.finding c.in-Ok.ensures.verdict in
    found_right c.replan.new.self w.cap.entries c.args.edits c.in-Ok.finding c.verdict-verdict.result good c.verdict-verdict.ensures
