use Rattle.std.proofs.Common.{◌<◌, length, map, subst, sym, ◌∙◌, ap, arith}
use Rattle.std.specs.List.{All}
use Rattle.cstn_net.specs.Networks.{IsWellFormed}
use Rattle.cstn_net.specs.Read.{observed}
use Rattle.cstn_net.specs.Observers.{KnowsObservers}
use Rattle.cstn_net.specs.Drafts.{IsSized, IsSound, constraints_from}
use Rattle.cstn_net.proofs.ChangeLemmas.{net_of}
use Rattle.cstn_net.proofs.DraftLemmas.{constraints_length, all_constraints}
use Rattle.cstn_net.proofs.FaultLemmas.{no_fault, made_well_formed}
use Rattle.cstn_net.proofs.builders.Builder.close.Goals as goal

pub of-requires-clause-few : goal.of-requires-clause-few
of-requires-clause-few c =
    let sized = subst IsSized (sym c.self.view_is) c.in_default.ensures in
    let few = sized.few_constraints in
    let held = ap length (c.deref-3.ensures.value ∙ c.in-Ok.ensures ∙ ap (constraints_from 0) c.deref-2.ensures.value) in
    omega (arith, held, few, constraints_length 0 c.self.inside.drafts.items)

pub of-requires-clause-inside : goal.of-requires-clause-inside
of-requires-clause-inside c =
    let inside = c.self.inside in
    let len = c.len.ensures in
    let held = inside.points.ok.0 in
    subst (All (λ d. d.to.0 < c.len.result)) (sym (c.deref-3.ensures.value ∙ c.in-Ok.ensures ∙ ap (constraints_from 0) c.deref-2.ensures.value))
    (all_constraints (λ d. d.to.0 < c.len.result) 0 inside.drafts.items (λ k d within id.
    let to = (c.self.invariant k d within).1 in omega arith))

pub new-requires-clause-well_formed : goal.new-requires-clause-well_formed
new-requires-clause-well_formed c =
    let inside = c.self.inside in
    let sized = subst IsSized (sym c.self.view_is) c.in_default.ensures in
    let sound = subst IsSound (sym c.self.view_is) c.in_default-other_fault.ensures in
    let knows = subst (λ ps. KnowsObservers (map observed ps) c.observers_of-observers.result) c.deref.ensures.value c.observers_of-observers.ensures in
    let items = c.in-Ok.ensures ∙ ap (constraints_from 0) c.deref-2.ensures.value in
    subst (λ cs. IsWellFormed (net_of inside.deadline inside.points.items cs)) (sym items)
    (made_well_formed (record { deadline = inside.deadline; points = inside.points.items; drafts = inside.drafts.items }) _
    knows sized sound c.self.invariant)

pub returns-in-Ok-of-clause-faultless : goal.returns-in-Ok-of-clause-faultless
returns-in-Ok-of-clause-faultless c = no_fault c.args.self c.in_default.ensures c.in_default-other_fault.ensures
