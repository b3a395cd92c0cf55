use Rattle.std.proofs.Common.{sym}
use Rattle.cstn_label.specs.Read.{the_bound}
use Rattle.cstn_closed.proofs.CoverLemmas.{covered_by}
use Rattle.cstn_closed.proofs.minimal.is_over.Goals as goal

pub returns-in-Some : goal.returns-in-Some
returns-in-Some c =
    let kept = c.in-Some.kept.now in
    let looked = c.in-Some.ensures.lookup in
    record {
      over = λ yes. covered_by c.args.list.now (the_bound c.args.r.now) kept (c.args.place, looked.3.0, sym (looked.3.1 kept)) (c.dominates.ensures.dominates.0 yes);
    }
