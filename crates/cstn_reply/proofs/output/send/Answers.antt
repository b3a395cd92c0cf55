use Rattle.cstn_reply.proofs.Written.{prefixed}
use Rattle.cstn_reply.proofs.output.send.Goals as goal

pub returns-clause-prefix : goal.returns-clause-prefix
returns-clause-prefix g c = prefixed c.flush.result _ _ _ _ c.in_ok-put_all.ensures.ok c.flush.ensures.bytes
