use Rattle.cstn_minset.proofs.LinkLemmas.{all_free}
use Rattle.cstn_minset.proofs.links.Links.start.Goals as goal

pub returns-clause-linked : goal.returns-clause-linked
returns-clause-linked c =
    all_free c.args.slots c.args.heads c.in_ok-next.next.places c.in_ok-prev.prev.places c.in_ok-next.ensures.size.1 c.in_ok-prev.ensures.size.1 c.requires c.in_ok-next.ensures.ends c.in_ok-prev.ensures.ends
