use Rattle.cstn_reply.specs.Written.{view}
use Rattle.cstn_headline.proofs.HeadlineCalls.{call_is}
use Rattle.cstn_headline.proofs.headline_laws.calls_are_told.Goals as goal

pub returns : goal.returns
returns g c = record { call = λ request contents live had words files. call_is request contents live had words files (view g.S.Source.left g.S.Source.faults g.S.Source.reads) }
