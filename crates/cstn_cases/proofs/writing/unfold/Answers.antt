use Rattle.std.proofs.Common.{ℕ, ◌≡◌, ◌≤◌, ◌<◌, ◌+◌, ◌++◌, ◌∷◌, [], List, Option, None, Some, false, true, length, map, arith, sym, subst, ap, refl, ◌∙◌}
use Rattle.std.specs.Prelude.{IfOk, OnOk}
use Rattle.std.specs.List.{All}
use Rattle.std.proofs.lemmas.List.{nil_from_length}
use Rattle.cstn_label.specs.Bounds.{Bound}
use Rattle.cstn_label.specs.declared.nodes.NodeId.{NodeId}
use Rattle.cstn_net.specs.Networks.{IsWellFormed, count}
use Rattle.cstn_net.specs.Read.{NetworkParts, the_network}
use Rattle.cstn_rules.specs.Closed.{IsClosed}
use Rattle.cstn_lift.specs.Labelled.{Labelled}
use Rattle.cstn_lift.specs.Lowered.{lowered}
use Rattle.cstn_lift.specs.Read.{LabelledParts, the_labelled}
use Rattle.cstn_plan.specs.Asked.{AllSound}
use Rattle.cstn_plan.specs.Plans.{the_bounds}
use Rattle.cstn_outline.specs.Read.{the_tree_line, the_tree, node_numbers}
use Rattle.cstn_outline.specs.Trees.TreeLine.{AtLine, AskLine, DoneLine}
use Rattle.cstn_cases.specs.declared.going.Case.{Case}
use Rattle.cstn_cases.specs.declared.nexts.Next.{Next}
use Rattle.cstn_cases.specs.declared.nexts.Next.TheVariants.{Over, Asks, Names}
use Rattle.cstn_cases.specs.Cases.{AreCasesOf, IsSoundlyPlanned, branches}
use Rattle.cstn_cases.specs.Going.{is_all_named, named_then}
use Rattle.cstn_cases.specs.Writing.{the_case, IsCase, IsWriting}
use Rattle.cstn_outline.specs.Trees.{Tree as TheTree}
use Rattle.cstn_cases.specs.Limits.{most_branches}
use Rattle.cstn_cases.proofs.Written.{writes_first, writes_whole, writes_cases, writes_few, writes_wide}
use Rattle.cstn_cases.proofs.writing.unfold.Goals as goal

pub loop-init : goal.loop-init
loop-init c =
    let m : Labelled = the_labelled c.args.labels.now in
    let bounds : List Bound = the_bounds c.args.plan.now.bounds in
    let net : the_network c.network.result.now ≡ lowered m = ap the_network c.network.ensures.network ∙ c.requires.lowered in
    let plan : IsSoundlyPlanned m bounds = record {
      labelled = c.base.ensures.labelled;
      well_formed = subst IsWellFormed net c.network.ensures.well_formed;
      closed = subst (λ n. IsClosed n bounds) net c.network.ensures.closed;
      sound = subst (λ n. AllSound n bounds) net c.network.ensures.sound;
    } in
    let points : c.count.result ≡ count m.base = c.count.ensures.count ∙ ap (λ (n : NetworkParts). count (the_network n)) c.base.ensures.base in
    let none = c.in_ok-writing.ensures.branches in
    record {
      writing = writes_first m bounds plan c.in_ok-writing.writing.lines.items c.in_ok-writing.writing.branches c.in_ok-writing.writing.pending.items c.in_ok-first.first
          c.in_ok-writing.ensures.lines c.in_ok-writing.ensures.branches c.in_ok-writing.ensures.pending c.in_ok-first.ensures.unbegun
          (subst (λ (n : ℕ). IsCase n c.in_ok-first.first) points c.in_ok-first.ensures.case);
      few = omega arith;
    }

pub new-requires : goal.new-requires
new-requires c =
    let m : Labelled = the_labelled c.args.labels.now in
    let bounds : List Bound = the_bounds c.args.plan.now.bounds in
    let net : the_network c.network.result.now ≡ lowered m = ap the_network c.network.ensures.network ∙ c.requires.lowered in
    let plan : IsSoundlyPlanned m bounds = record {
      labelled = c.base.ensures.labelled;
      well_formed = subst IsWellFormed net c.network.ensures.well_formed;
      closed = subst (λ n. IsClosed n bounds) net c.network.ensures.closed;
      sound = subst (λ n. AllSound n bounds) net c.network.ensures.sound;
    } in
    let none : c.loop.writing.pending.items ≡ [] = nil_from_length c.loop.writing.pending.items (sym c.loop.writing.pending.ok.0 ∙ c.in_default.ensures.cases.0) in
    record { whole = writes_whole m bounds plan c.loop.writing.lines.items c.loop.writing.branches c.loop.writing.pending.items c.loop.invariant.writing none }

pub returns-in_default-clause-tree : goal.returns-in_default-clause-tree
returns-in_default-clause-tree c =
    let m : Labelled = the_labelled c.args.labels.now in
    let bounds : List Bound = the_bounds c.args.plan.now.bounds in
    let net : the_network c.network.result.now ≡ lowered m = ap the_network c.network.ensures.network ∙ c.requires.lowered in
    let plan : IsSoundlyPlanned m bounds = record {
      labelled = c.base.ensures.labelled;
      well_formed = subst IsWellFormed net c.network.ensures.well_formed;
      closed = subst (λ n. IsClosed n bounds) net c.network.ensures.closed;
      sound = subst (λ n. AllSound n bounds) net c.network.ensures.sound;
    } in
    let none : c.loop.writing.pending.items ≡ [] = nil_from_length c.loop.writing.pending.items (sym c.loop.writing.pending.ok.0 ∙ c.in_default.ensures.cases.0) in
    subst (λ ls. AreCasesOf m bounds (the_tree ls)) (sym c.new.ensures.lines)
    (writes_cases m bounds plan c.loop.writing.lines.items c.loop.writing.branches c.loop.writing.pending.items c.loop.invariant.writing none)

pub returns-in_default-clause-few : goal.returns-in_default-clause-few
returns-in_default-clause-few c =
    let m : Labelled = the_labelled c.args.labels.now in
    let bounds : List Bound = the_bounds c.args.plan.now.bounds in
    let net : the_network c.network.result.now ≡ lowered m = ap the_network c.network.ensures.network ∙ c.requires.lowered in
    let plan : IsSoundlyPlanned m bounds = record {
      labelled = c.base.ensures.labelled;
      well_formed = subst IsWellFormed net c.network.ensures.well_formed;
      closed = subst (λ n. IsClosed n bounds) net c.network.ensures.closed;
      sound = subst (λ n. AllSound n bounds) net c.network.ensures.sound;
    } in
    let none : c.loop.writing.pending.items ≡ [] = nil_from_length c.loop.writing.pending.items (sym c.loop.writing.pending.ok.0 ∙ c.in_default.ensures.cases.0) in
    subst (λ ls. branches (the_tree ls) ≤ most_branches) (sym c.new.ensures.lines)
    (writes_few m bounds plan c.loop.writing.lines.items c.loop.writing.branches c.loop.writing.pending.items c.loop.invariant.writing none c.loop.invariant.few)

pub step-requires-clause-writing : goal.step-requires-clause-writing
step-requires-clause-writing c =
    let m : Labelled = the_labelled c.args.labels.now in
    let bounds : List Bound = the_bounds c.args.plan.now.bounds in
    subst (λ (cs : List Case). IsWriting m bounds c.loop.writing.lines.items c.loop.writing.branches cs) c.in-Some.ensures.items c.loop.invariant.writing

pub step-requires-clause-few : goal.step-requires-clause-few
step-requires-clause-few c = c.loop.invariant.few

pub returns-then-writing-gt-MOST_BRANCHES-clause-wide :
    goal.returns-then-writing-gt-MOST_BRANCHES-clause-wide
returns-then-writing-gt-MOST_BRANCHES-clause-wide c =
    let m : Labelled = the_labelled c.args.labels.now in
    let bounds : List Bound = the_bounds c.args.plan.now.bounds in
    let net : the_network c.network.result.now ≡ lowered m = ap the_network c.network.ensures.network ∙ c.requires.lowered in
    let plan : IsSoundlyPlanned m bounds = record {
      labelled = c.base.ensures.labelled;
      well_formed = subst IsWellFormed net c.network.ensures.well_formed;
      closed = subst (λ n. IsClosed n bounds) net c.network.ensures.closed;
      sound = subst (λ n. AllSound n bounds) net c.network.ensures.sound;
    } in
    λ (tree : TheTree) (of : AreCasesOf m bounds tree).
    writes_wide m bounds plan c.step.new.self.lines.items c.step.new.self.branches c.step.new.self.pending.items c.in_ok-step.ensures.writing
    (let many = c.if-writing-gt-MOST_BRANCHES.true in omega arith) tree of

pub loop-preserved : goal.loop-preserved
loop-preserved c = record {
  writing = c.in_ok-step.ensures.writing;
  few = let few = c.if-writing-gt-MOST_BRANCHES.false in omega arith;
}
