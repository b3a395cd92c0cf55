use Rattle.std.proofs.Common.{ℕ, ◌≡◌, ◌≤◌, ◌+◌, subst, ap, ◌∙◌}
use Rattle.std.specs.Prelude.{max}
use Rattle.std.proofs.lemmas.Bool.{le-ltb}
use Rattle.std.proofs.lemmas.Result.{IfOk-weaker}
use Rattle.cstn_lift.specs.Read.{LabelledParts, the_labelled}
use Rattle.cstn_history.specs.Read.{HistoryParts, the_history}
use Rattle.cstn_follow.specs.Lateness.{late_most, said_late, late_first, late_tried}
use Rattle.cstn_follow.specs.Sessions.{SessionParts}
use Rattle.cstn_follow.proofs.LastExpected.{late_behind}
use Rattle.cstn_follow.proofs.session.Session.late_stuck.Goals as goal

pub returns : goal.returns
returns c =
    let a = c.args.self.now in
    let m = the_labelled a.network in
    let h = the_history a.history in
    let p = c.args.p.index in
    let first = c.max-first.result in
    let most_is = c.late_most.ensures.most ∙ ap (λ (l : LabelledParts). late_most (the_labelled l) p) c.network.ensures.network in
    let past = le-ltb (late_most m p) first (subst (λ (n : ℕ). first ≤ n) most_is c.if-late_most-first.false) in
    let said = subst (λ (s : SessionParts). c.in_ok-said.said ≡ said_late (the_labelled s.network) (the_history s.history) s.fresh s.cap p first) c.self.view_is
    c.in_ok-said.ensures.said in
    let first_is : first ≡ max h.now (c.args.since + 1) =
    c.max-first.ensures ∙ ap (λ (n : ℕ). max n (c.args.since + 1)) (c.now.ensures.now ∙ ap (λ (g : HistoryParts). g.time) c.history.ensures.history) in
    record {
      told = IfOk-weaker c.late_first.result _ _
          (λ l is. is ∙ ap (late_first m h a.fresh a.cap p first) said ∙ late_behind m h a.fresh a.cap p first past ∙ ap (late_tried m h a.fresh a.cap p) first_is)
          c.late_first.ensures.told;
    }
