use Rattle.std.proofs.Common.{◌≡◌, inl, inr, false, None, sym, subst, ◌∙◌}
use Rattle.cstn_net.specs.Networks.{Network, IsWellFormed}
use Rattle.cstn_lift.specs.Lowered.{lowered}
use Rattle.cstn_lift.specs.Read.{the_labelled}
use Rattle.cstn_exec.specs.Moves.{outcome_refusal, handed}
use Rattle.cstn_exec.specs.Read.{ExecParts}
use Rattle.cstn_exec.specs.Guides.{Guided, is_denied}
use Rattle.cstn_exec.specs.Sound.{IsOnTime}
use Rattle.cstn_exec.specs.GuideRead.{GuideParts, IsGuide}
use Rattle.cstn_exec.proofs.Advancing.{missing_from, noted_guided}
use Rattle.cstn_exec.proofs.Timely.{on_time}
use Rattle.cstn_exec.proofs.GuideSteps.{see_cases}
use Rattle.cstn_exec.proofs.guides.Guide.see.Goals as goal

pub invariant_of-self : goal.invariant_of-self
invariant_of-self c =
    let labels = c.self.inside.labels in
    let m = the_labelled labels in
    let old = c.self.inside.executive in
    let left = c.self.inside.left.items in
    let is = c.self.invariant in
    let kept = subst (λ (v : GuideParts). is_denied (lowered (the_labelled v.labelled)) v.state c.args.p.index ≡ false) (sym c.self.view_is)
    (sym c.is_denied.ensures ∙ c.if-is_denied.false) in
    let wf = subst (λ (v : GuideParts). IsWellFormed (lowered (the_labelled v.labelled))) (sym c.self.view_is) c.is_guided.ensures.planned.well_formed in
    elim (see_cases c.see.result (c.see.new.self ≡ record old { run = handed old.run c.args.p.index c.args.value }) (c.see.new.self ≡ old)
    c.see.ensures.handed c.see.ensures.same) [
      | inr same ↦
          subst (λ (e : ExecParts). IsGuide e.net labels (record { run = e.run; left = left }) c.self.inside.named.capacity) (sym same)
          (record { lowered = is.lowered; labelled = is.labelled; guided = is.guided; room = is.room })
      | inl accepted ↦
          let ok = subst (λ (n : Network). outcome_refusal n old.run c.args.p.index ≡ None) is.lowered (sym c.see.ensures.refused ∙ accepted.0) in
          let guided = noted_guided m wf (record { run = old.run; left = left }) is.guided c.args.p.index c.args.value
          (record { kept = kept; accepted = ok; missing = missing_from (lowered m) old.run c.args.p.index ok }) c.args.p.in_range in
          subst (λ (e : ExecParts). IsGuide e.net labels (record { run = e.run; left = left }) c.self.inside.named.capacity) (sym accepted.1)
          (record { lowered = is.lowered; labelled = is.labelled; guided = guided; room = is.room })
    ]

pub returns-then-is_denied-clause-on_time : goal.returns-then-is_denied-clause-on_time
returns-then-is_denied-clause-on_time c =
    let is = c.is_guided.ensures in
    on_time (the_labelled c.args.self.now.labelled) is.planned.labelled is.planned.well_formed c.args.self.now.state is.guided

pub returns-clause-on_time : goal.returns-clause-on_time
returns-clause-on_time c =
    let after : Guided = record { run = c.see.new.self.run; left = c.self.inside.left.items } in
    let wf = subst (λ (v : GuideParts). IsWellFormed (lowered (the_labelled v.labelled))) (sym c.self.view_is) c.is_guided.ensures.planned.well_formed in
    subst (λ (v : GuideParts). IsOnTime (the_labelled v.labelled) after) c.self.view_is
    (on_time (the_labelled c.self.inside.labels) c.self.invariant.labelled wf after (invariant_of-self c).guided)
