use Rattle.std.proofs.Common.{ℕ, ◌≡◌, ◌<◌, inl, inr, [], Option, Some, None, List, map, length, arith, sym, subst, ap, ◌∙◌}
use Rattle.std.specs.Prelude.{is_some}
use Rattle.std.specs.List.{filter, range_with_len}
use Rattle.std.proofs.lemmas.Bool.{cases_lt, true≢false}
use Rattle.cstn_net.specs.Read.{the_network}
use Rattle.cstn_plan.specs.Plans.{the_bounds}
use Rattle.cstn_exec.specs.Runs.{AreAskedUnlessAwaited, is_free_by, called}
use Rattle.cstn_exec.specs.Read.{ExecParts}
use Rattle.cstn_exec.proofs.Judging.{judged}
use Rattle.cstn_exec.proofs.Refusals.{accepted_before}
use Rattle.cstn_exec.proofs.Naming.{called_by}
use Rattle.cstn_exec.proofs.executive.Executive.name.Goals as goal
use Rattle.cstn_exec.proofs.executive.Executive.name.Goals.{in_default-via-in-Some+else-first-t, in_default-via-in_default}

pub returns-in-Some : goal.returns-in-Some
returns-in-Some c =
    let net = the_network c.args.self.now.net in
    let bounds = the_bounds c.args.self.now.bounds in
    let run = c.args.self.now.run in
    let first = c.args.first.now.moment in
    let moments = c.deref.ensures.value ∙ ap (λ (v : ExecParts). v.run.moments) c.self.view_is in
    let upto = (judged net bounds run c.args.t None c.requires.accepted).upto first c.requires.due in
    let from = c.if-first-t.true in
    let here : first ≡ c.args.t = omega arith in
    let asked = subst (λ u. AreAskedUnlessAwaited net bounds run u (Some c.in-Some.asked)) here
    (subst (AreAskedUnlessAwaited net bounds run first) c.in-Some.is c.requires.asked) in
    let is = c.collect.ensures.named
    ∙ ap (λ (ms : List (Option ℕ)). filter (is_free_by ms c.in-Some.asked c.args.t) (range_with_len 0 (length ms))) moments
    ∙ called_by net bounds run c.args.t c.in-Some.asked c.is_right.ensures.well_formed.few_points c.is_right.ensures.right.moments asked in
    ap (λ (v : ExecParts). record v { named = map (λ x. x.0) c.collect.new.named.items }) c.self.view_is
    ∙ ap (λ (ns : List ℕ). record c.args.self.now { named = ns }) is

pub returns-in_default : goal.returns-in_default
returns-in_default c =
    let net = the_network c.args.self.now.net in
    let bounds = the_bounds c.args.self.now.bounds in
    let run = c.args.self.now.run in
    let first = c.args.first.now.moment in
    let known = c.is_right.ensures in
    let ok = judged net bounds run c.args.t None c.requires.accepted in
    let from = ok.from in
    let before = λ (below : c.args.t < first). (accepted_before net bounds known.earliest.0 run first c.args.t known.well_formed known.earliest.1 known.right
    c.requires.due (record { from = from; below = below })).1 in
    let nobody : called net bounds run c.args.t ≡ [] = elim c.in_default.branch [
      | in_default-via-in-Some+else-first-t w ↦ before w.if-first-t.false
      | in_default-via-in_default w ↦ elim (cases_lt c.args.t first) [
        | inl below ↦ before below
        | inr above ↦
            let upto = ok.upto first c.requires.due in
            let here : first ≡ c.args.t = omega arith in
            let some = subst (λ u. AreAskedUnlessAwaited net bounds run u None) here
            (subst (AreAskedUnlessAwaited net bounds run first) w.in_default.is c.requires.asked) in
            absurd (true≢false (sym some ∙ ap is_some ok.none_awaited))
      ]
    ] in
    ap (λ (v : ExecParts). record v { named = map (λ x. x.0) c.clear.new.self.items }) c.self.view_is
    ∙ ap (λ (ns : List ℕ). record c.args.self.now { named = ns }) (ap (map (λ x. x.0)) c.clear.ensures.items ∙ sym nobody)
