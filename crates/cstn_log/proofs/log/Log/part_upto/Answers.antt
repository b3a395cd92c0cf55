use Rattle.std.proofs.Common.{◌≡◌, subst}
use Rattle.std.specs.Prelude.{IfOk}
use Rattle.cstn_log.specs.Entries.{the_entries}
use Rattle.cstn_log.proofs.StepLemmas.{front_part}
use Rattle.cstn_log.proofs.log.Log.part_upto.Goals as goal

pub returns : goal.returns
returns c =
    let L = c.args.self.now.entries in
    record {
      part = subst (λ part. IfOk c.last_and_ancestors.result (λ steps. the_entries steps.items ≡ part)) (front_part L c.args.count c.requires.upto) c.last_and_ancestors.ensures;
    }
