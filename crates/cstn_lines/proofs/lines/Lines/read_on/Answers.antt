use Rattle.std.proofs.Common.{◌≤◌, ◌<◌, ◌^◌, ◌++◌, length, length-append, arith, ap, sym, subst, ◌∙◌}
use Rattle.cstn_lines.specs.Pieces.{HasNoEnd}
use Rattle.cstn_lines.specs.Steps.{LinesState}
use Rattle.cstn_lines.proofs.StepLemmas.{more_taken, steps_from, broken, reads_on}
use Rattle.cstn_lines.proofs.lines.Lines.read_on.Goals as goal

pub returns-in-Err-clause-steps : goal.returns-in-Err-clause-steps
returns-in-Err-clause-steps g c =
    let before = c.pieces.invariant in
    let more = c.in-Err.ensures.taken in
    let all = more_taken c.args.self.now.kept _ _ _ _ _ _ _ before.taken.1 before.taken.2 more.1 more.2 in
    (before.taken.0 ++ more.0, all.1, reads_on _ c.pieces.self.kept before.taken.0 more.0 _ c.pieces.self.count _ _ _ before.taken.1 before.none before.short before.few before.count before.taken.3 c.in-Err.ensures.reads, broken c.args.self.now.kept c.pieces.self.kept more.0 (before.taken.0 ++ more.0) _ c.pieces.self.count _ before.none more.1 more.3 all.0 before.count c.in-Err.ensures.count c.in-Err.ensures.going)

pub returns-in-Ok-eq0-clause-steps : goal.returns-in-Ok-eq0-clause-steps
returns-in-Ok-eq0-clause-steps g c =
    let before = c.pieces.invariant in
    let more = c.in-Ok-eq0.ensures.taken in
    let all = more_taken c.args.self.now.kept _ _ _ _ _ _ _ before.taken.1 before.taken.2 more.1 more.2 in
    (before.taken.0 ++ more.0, all.1, reads_on _ c.pieces.self.kept before.taken.0 more.0 _ c.pieces.self.count _ _ _ before.taken.1 before.none before.short before.few before.count before.taken.3 c.in-Ok-eq0.ensures.reads, steps_from _ _ _ _ _ _ all.0 (c.in-Ok-eq0.ensures.count ∙ before.count) c.finish.ensures.steps)

pub returns-in-Some-clause-steps : goal.returns-in-Some-clause-steps
returns-in-Some-clause-steps g c =
    let before = c.pieces.invariant in
    let more = c.in-Ok.ensures.taken in
    let all = more_taken c.args.self.now.kept _ _ _ _ _ _ _ before.taken.1 before.taken.2 more.1 more.2 in
    (before.taken.0 ++ more.0, all.1, reads_on _ c.pieces.self.kept before.taken.0 more.0 _ c.pieces.self.count _ _ _ before.taken.1 before.none before.short before.few before.count before.taken.3 c.in-Ok.ensures.reads, steps_from _ _ _ _ _ _ all.0 (c.in-Ok.ensures.count ∙ before.count) c.in-Some.ensures.steps)

pub pieces-preserved : goal.pieces-preserved
pieces-preserved g c =
    let before = c.pieces.invariant in
    let more = c.in-Ok.ensures.taken in
    let all = more_taken c.args.self.now.kept _ _ _ _ _ _ _ before.taken.1 before.taken.2 more.1 more.2 in
    let back = sym c.in_default.ensures.same in
    record {
      taken = (before.taken.0 ++ more.0, ap (λ (s : LinesState). s.kept) c.in_default.ensures.same ∙ all.0, all.1, omega (arith, before.taken.3, c.in-Ok.ensures.reads, more.3, c.in-Ok.field-0-test.1, length-append before.taken.0 more.0));
      none = subst (λ (s : LinesState). HasNoEnd s.kept) back c.in_default.ensures.none;
      short = subst (λ (s : LinesState). length s.kept ≤ 4096) back c.in_default.ensures.short;
      few = subst (λ (s : LinesState). 0 < length s.kept → s.count < 2 ^ 24) back c.in_default.ensures.count;
      count = ap (λ (s : LinesState). s.count) c.in_default.ensures.same ∙ c.in-Ok.ensures.count ∙ before.count;
      going = c.in_default.ensures.ended ∙ c.in-Ok.ensures.more (omega (arith, c.in-Ok.field-0-test.1));
      later = omega (arith, before.later, c.in-Ok.ensures.cause.later);
    }
