use Rattle.cstn_reply.specs.Written.{view}
use Rattle.cstn_headline.proofs.Told.{tells_of, call_tells}
use Rattle.cstn_headline.proofs.headline_laws.calls_tell.Goals as goal

pub returns : goal.returns
returns g c =
    let law = c.evidence_is_accepted.ensures in
    record {
      told = λ words files. tells_of law.bounds law.steps words files (view g.S.Source.left g.S.Source.faults g.S.Source.reads);
      call = call_tells law.bounds law.steps;
    }
