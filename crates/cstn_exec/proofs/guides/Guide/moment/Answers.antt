use Rattle.std.proofs.Common.{ℕ, ◌≡◌, ◌+◌, Bool, List, Some, None, true, false, map, arith, sym, subst, ap, ◌∙◌}
use Rattle.std.specs.Prelude.{◌↔◌, slice_index_or}
use Rattle.std.specs.List.{Contains}
use Rattle.std.specs.List.Sorted.{IsStrictlyIncreasing}
use Rattle.std.proofs.Math.Path.{fun_ext}
use Rattle.cstn_label.specs.Read.{known_value}
use Rattle.cstn_net.specs.Networks.{Network, IsWellFormed}
use Rattle.cstn_net.specs.Read.{the_network}
use Rattle.cstn_plan.specs.Plans.{the_bounds}
use Rattle.cstn_lift.specs.Labelled.{Labelled}
use Rattle.cstn_lift.specs.Lowered.{lowered}
use Rattle.cstn_lift.specs.Read.{the_labelled}
use Rattle.cstn_exec.specs.Runs.{Run, known, called}
use Rattle.cstn_exec.specs.Moves.{moment_refusal, run_moved}
use Rattle.cstn_exec.specs.Right.{IsRightRun}
use Rattle.cstn_exec.specs.Read.{ExecParts, the_event_refusal}
use Rattle.cstn_exec.specs.Guides.{Guided, named, left_out, advanced}
use Rattle.cstn_exec.specs.Sound.{IsPlanned, IsNamedAt, IsLeftAt, IsGuided, IsOnTime}
use Rattle.cstn_exec.specs.GuideRead.{GuideParts, guide_parts, advanced_on, AreWithoutOutcomes}
use Rattle.cstn_exec.proofs.GuideNaming.{named_exactly, left_exactly, named_ascend}
use Rattle.cstn_exec.proofs.Denying.{left_in}
use Rattle.cstn_exec.proofs.Advancing.{called_fresh, advanced_guided}
use Rattle.cstn_exec.proofs.Timely.{on_time}
use Rattle.cstn_exec.proofs.GuideSteps.{same_parts, sorted_state, sorted_names}
use Rattle.cstn_exec.proofs.guides.Guide.moment.Goals as goal

pub returns-in-Err-clause-refused : goal.returns-in-Err-clause-refused
returns-in-Err-clause-refused c =
    let old = c.self.inside.executive in
    subst (λ (v : GuideParts). Some (the_event_refusal c.in-Err.refusal) ≡ moment_refusal (lowered (the_labelled v.labelled)) (the_bounds v.bounds) v.state.run c.args.t)
    c.self.view_is
    (c.in-Err.ensures.refused ∙ ap (λ (n : Network). moment_refusal n (the_bounds old.bounds) old.run c.args.t) c.self.invariant.lowered)

pub returns-in-Err-clause-on_time : goal.returns-in-Err-clause-on_time
returns-in-Err-clause-on_time c =
    let is = c.is_guided.ensures in
    let left = c.self.inside.left.items in
    let before = on_time (the_labelled c.args.self.now.labelled) is.planned.labelled is.planned.well_formed c.args.self.now.state is.guided in
    subst (λ (e : ExecParts). IsOnTime (the_labelled c.args.self.now.labelled) (record { run = e.run; left = left })) (sym c.in-Err.ensures.same)
    (subst (λ (s : Guided). IsOnTime (the_labelled c.args.self.now.labelled) s) (sym (ap (λ (v : GuideParts). v.state) c.self.view_is)) before)

pub sort_out-requires-clause-well_formed : goal.sort_out-requires-clause-well_formed
sort_out-requires-clause-well_formed c =
    let wf = subst (λ (v : GuideParts). IsWellFormed (lowered (the_labelled v.labelled))) (sym c.self.view_is) c.is_guided.ensures.planned.well_formed in
    subst (λ (e : ExecParts). IsWellFormed (the_network e.net)) (sym c.in_default.ensures.moved) (subst IsWellFormed (sym c.self.invariant.lowered) wf)

pub sort_out-requires-clause-fresh : goal.sort_out-requires-clause-fresh
sort_out-requires-clause-fresh c =
    let old = c.self.inside.executive in
    let wf = subst (λ (v : GuideParts). IsWellFormed (lowered (the_labelled v.labelled))) (sym c.self.view_is) c.is_guided.ensures.planned.well_formed in
    subst (λ (e : ExecParts). AreWithoutOutcomes (the_network e.net) e.run e.named) (sym c.in_default.ensures.moved)
    (called_fresh (the_network old.net) (the_bounds old.bounds) (subst IsWellFormed (sym c.self.invariant.lowered) wf) old.run
    (subst (λ (n : Network). IsRightRun n old.run) (sym c.self.invariant.lowered) c.self.invariant.guided.right) c.args.t)

-- what holds after `sort_out` went through the time-points that are called
record Sorted (m : Labelled) (old : ExecParts) (left : List Bool) (t : ℕ) (after : Run) (marks : List Bool) (names : List ℕ) : Type 0 where
  pub ok : moment_refusal (lowered m) (the_bounds old.bounds) old.run t ≡ None
  pub plan : IsPlanned m (the_bounds old.bounds)
  pub state : record { run = after; left = marks } ≡ advanced m (the_bounds old.bounds) (record { run = old.run; left = left }) t
  pub names_are : names ≡ named m (the_bounds old.bounds) old.run t

sorted : (c : goal.After-sort_out) →
    Sorted (the_labelled c.self.inside.labels) c.self.inside.executive c.self.inside.left.items c.args.t c.sort_out.new.executive.run
    c.sort_out.new.left.items (map (λ x. x.0) c.sort_out.new.named.items)
sorted c =
    let m = the_labelled c.self.inside.labels in
    let old = c.self.inside.executive in
    let bounds = the_bounds old.bounds in
    let left = c.self.inside.left.items in
    let net = c.self.invariant.lowered in
    let values = known_value c.known-known.result in
    let plan = subst (λ (v : GuideParts). IsPlanned (the_labelled v.labelled) (the_bounds v.bounds)) (sym c.self.view_is) c.is_guided.ensures.planned in
    let same_values : values ≡ known (lowered m) old.run (c.args.t + 1) =
    fun_ext c.known-known.ensures.known ∙ ap (λ (n : Network). known n old.run (c.args.t + 1)) net in
    let there = c.in_default.ensures.moved in
    let names = ap (λ (e : ExecParts). e.named) there ∙ ap (λ (n : Network). called n bounds old.run c.args.t) net in
    let run = ap (λ (e : ExecParts). e.run) there ∙ ap (λ (n : Network). run_moved n bounds old.run c.args.t) net in
    let net_there = ap (λ (e : ExecParts). the_network e.net) there ∙ net in
    record {
      ok = subst (λ (n : Network). moment_refusal n bounds old.run c.args.t ≡ None) net (sym c.in_default.ensures.refused);
      plan = plan;
      state = sorted_state m bounds (record { run = old.run; left = left }) c.args.t values (the_network c.moment.new.self.net) c.moment.new.self.run
          c.sort_out.new.executive.run c.moment.new.self.named c.sort_out.new.left.items same_values net_there run names
          (ap (λ (e : ExecParts). e.run) c.sort_out.ensures.executive) c.sort_out.ensures.left;
      names_are = sorted_names m bounds old.run c.args.t values c.moment.new.self.named (map (λ x. x.0) c.sort_out.new.named.items) same_values names
          c.sort_out.ensures.named;
    }

guided : (c : goal.After-sort_out) →
    IsGuided (the_labelled c.self.inside.labels) (record { run = c.sort_out.new.executive.run; left = c.sort_out.new.left.items })
guided c =
    let s = sorted c in
    subst (λ (g : Guided). IsGuided (the_labelled c.self.inside.labels) g) (sym s.state)
    (advanced_guided (the_labelled c.self.inside.labels) (the_bounds c.self.inside.executive.bounds) s.plan.table c.self.invariant.labelled s.plan.well_formed s.plan.earliest
    (record { run = c.self.inside.executive.run; left = c.self.inside.left.items }) c.self.invariant.guided c.args.t s.ok)

pub invariant_of-self-2 : goal.invariant_of-self-2
invariant_of-self-2 c = record {
  lowered = ap (λ (e : ExecParts). the_network e.net) c.sort_out.ensures.executive ∙ ap (λ (e : ExecParts). the_network e.net) c.in_default.ensures.moved
      ∙ c.self.invariant.lowered;
  labelled = c.self.invariant.labelled;
  guided = guided c;
  room = let same = c.sort_out.ensures.capacity in let room = c.self.invariant.room in omega arith;
}

pub returns-clause-refused : goal.returns-clause-refused
returns-clause-refused c =
    subst (λ (v : GuideParts). None ≡ moment_refusal (lowered (the_labelled v.labelled)) (the_bounds v.bounds) v.state.run c.args.t) c.self.view_is
    (sym (sorted c).ok)

pub returns-clause-advanced : goal.returns-clause-advanced
returns-clause-advanced c =
    let s = sorted c in
    let names = map (λ x. x.0) c.sort_out.new.named.items in
    let after : Guided = record { run = c.sort_out.new.executive.run; left = c.sort_out.new.left.items } in
    let bounds = ap (λ (e : ExecParts). e.bounds) c.sort_out.ensures.executive ∙ ap (λ (e : ExecParts). e.bounds) c.in_default.ensures.moved in
    subst (λ (v : GuideParts). guide_parts c.self.inside.labels c.sort_out.new.executive.bounds after names
    ≡ advanced_on v c.args.t)
    c.self.view_is
    (same_parts c.self.inside.labels c.sort_out.new.executive.bounds c.self.inside.executive.bounds after _ names _ bounds s.state s.names_are)

pub returns-clause-named : goal.returns-clause-named
returns-clause-named c x =
    let s = sorted c in
    let m = the_labelled c.self.inside.labels in
    let old = c.self.inside.executive in
    subst (λ (v : GuideParts). Contains (map (λ x. x.0) c.sort_out.new.named.items) x ↔ IsNamedAt (the_labelled v.labelled) v.state.run c.args.t x) c.self.view_is
    (subst (λ (ns : List ℕ). Contains ns x ↔ IsNamedAt m old.run c.args.t x) (sym s.names_are)
    (named_exactly m (the_bounds old.bounds) s.plan.table old.run c.args.t c.self.invariant.labelled s.plan.well_formed s.plan.earliest c.self.invariant.guided.right s.ok x))

pub returns-clause-ascending : goal.returns-clause-ascending
returns-clause-ascending c =
    subst (λ (ns : List ℕ). IsStrictlyIncreasing ns) (sym (sorted c).names_are)
    (named_ascend (the_labelled c.self.inside.labels) (the_bounds c.self.inside.executive.bounds) c.self.inside.executive.run c.args.t)

pub returns-clause-left : goal.returns-clause-left
returns-clause-left c x at =
    let s = sorted c in
    let m = the_labelled c.self.inside.labels in
    let old = c.self.inside.executive in
    let left = c.self.inside.left.items in
    let here = subst (λ (v : GuideParts). IsLeftAt (the_labelled v.labelled) v.state.run c.args.t x) (sym c.self.view_is) at in
    let out = (left_exactly m (the_bounds old.bounds) s.plan.table old.run c.args.t c.self.invariant.labelled s.plan.well_formed s.plan.earliest c.self.invariant.guided.right s.ok x).1 here in
    let inside = here.called.inside in
    let size = c.self.invariant.guided.size in
    subst (λ (g : Guided). slice_index_or g.left x false ≡ true) (sym s.state)
    (left_in (left_out m (the_bounds old.bounds) old.run c.args.t) left x out (omega arith))

pub returns-clause-on_time : goal.returns-clause-on_time
returns-clause-on_time c =
    let after : Guided = record { run = c.sort_out.new.executive.run; left = c.sort_out.new.left.items } in
    subst (λ (v : GuideParts). IsOnTime (the_labelled v.labelled) after) c.self.view_is
    (on_time (the_labelled c.self.inside.labels) c.self.invariant.labelled (sorted c).plan.well_formed after (guided c))
