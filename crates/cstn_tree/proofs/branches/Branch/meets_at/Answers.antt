use Rattle.std.proofs.Common.{sym, subst, ◌∙◌}
use Rattle.cstn_tree.specs.Good.{is_met_so_far}
use Rattle.cstn_tree.specs.Branches.{the_branch}
use Rattle.cstn_tree.proofs.StartLemmas.{IsWalked, walk_begins, walk_on, walk_fails, walk_ends, place_inside}
use Rattle.cstn_tree.proofs.branches.Branch.meets_at.Goals as goal

pub loop-at-init : goal.loop-at-init
loop-at-init c =
    walk_begins (is_met_so_far (the_branch c.args.self.now).placed (the_branch c.args.self.now).asked) c.args.end c.args.net.now.constraints c.args.x.0 c.first-at.result c.first-at.ensures.first

pub keeps-requires-clause-inside : goal.keeps-requires-clause-inside
keeps-requires-clause-inside c =
    let test = is_met_so_far (the_branch c.args.self.now).placed (the_branch c.args.self.now).asked in
    let cs = c.args.net.now.constraints in
    place_inside test c.args.end cs c.args.x.0 c.in-Some.place (subst (IsWalked test c.args.end cs c.args.x.0) c.in-Some.is c.loop-at.invariant)

pub returns-then-not-keeps-clause-broken : goal.returns-then-not-keeps-clause-broken
returns-then-not-keeps-clause-broken c = λ h.
    let test = is_met_so_far (the_branch c.args.self.now).placed (the_branch c.args.self.now).asked in
    let cs = c.args.net.now.constraints in
    walk_fails test c.args.end cs c.args.x.0 c.in-Some.place (subst (IsWalked test c.args.end cs c.args.x.0) c.in-Some.is c.loop-at.invariant)
    (λ d here. sym c.if-not-keeps.true ∙ c.keeps.ensures.kept d here)

pub loop-at-preserved : goal.loop-at-preserved
loop-at-preserved c =
    let test = is_met_so_far (the_branch c.args.self.now).placed (the_branch c.args.self.now).asked in
    let cs = c.args.net.now.constraints in
    walk_on test c.args.end cs c.args.x.0 c.in-Some.place c.next-at.result (subst (IsWalked test c.args.end cs c.args.x.0) c.in-Some.is c.loop-at.invariant)
    (λ d here. sym c.if-not-keeps.false ∙ c.keeps.ensures.kept d here) c.next-at.ensures.next

pub returns-clause-kept : goal.returns-clause-kept
returns-clause-kept c = λ h.
    let test = is_met_so_far (the_branch c.args.self.now).placed (the_branch c.args.self.now).asked in
    let cs = c.args.net.now.constraints in
    walk_ends test c.args.end cs c.args.x.0 (subst (IsWalked test c.args.end cs c.args.x.0) c.in_default.is c.loop-at.invariant)
