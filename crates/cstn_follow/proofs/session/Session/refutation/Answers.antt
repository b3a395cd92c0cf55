use Rattle.std.proofs.Common.{subst}
use Rattle.cstn_follow.specs.Answers.{IsLeftRefuted}
use Rattle.cstn_follow.specs.Sessions.{SessionParts}
use Rattle.cstn_follow.proofs.Found.{refuted_says}
use Rattle.cstn_follow.proofs.session.Session.refutation.Goals as goal

pub returns-in-Refuted-clause-refuted : goal.returns-in-Refuted-clause-refuted
returns-in-Refuted-clause-refuted c =
    let w = c.self.inside in
    let r = c.in-Refuted.refutation in
    subst (λ (s : SessionParts). IsLeftRefuted s r) c.self.view_is
    (refuted_says w.execution w.cap.entries w.edits w.finding r c.self.invariant c.in-Refuted.is)
