use Rattle.std.proofs.Common.{ap, ◌∙◌}
use Rattle.cstn_check.specs.Checks.{CheckParts}
use Rattle.cstn_reply.specs.Read.{the_said}
use Rattle.cstn_check.proofs.Deciding.{yes_decided, no_decided}
use Rattle.cstn_check.proofs.decisions.judge.Goals as goal

pub returns-in-Yes : goal.returns-in-Yes
returns-in-Yes c =
    let yes = yes_decided c.args.cap.entries c.in-Yes.load c.args.network c.in_ok-check.check c.requires.well_formed c.in_ok-check.ensures.start c.in-Yes.ensures.yes in
    record {
      judged = (
        yes.0,
        yes.1,
        ap (λ (s : CheckParts). s.net) c.in-Yes.ensures.answered ∙ ap (λ (s : CheckParts). s.net) c.in_ok-check.ensures.start,
        ap (λ (s : CheckParts). s.verdict) c.in-Yes.ensures.answered,
      );
    }

pub returns-in_ok-said-in-No : goal.returns-in_ok-said-in-No
returns-in_ok-said-in-No c = record {
  judged = no_decided c.args.cap.entries c.in-No.load c.args.network c.args.names.now (the_said c.in_ok-said-in-No.said) c.in_ok-check.check c.run.new.self c.in_ok-check.ensures.start (ap (λ (s : CheckParts). s.net) c.in-No.ensures.answered) c.in-No.ensures.no c.in_ok-said-in-No.ensures.said;
}
