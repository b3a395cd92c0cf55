use Rattle.std.proofs.Common.{◌∙◌, ap}
use Rattle.cstn_minset.specs.Sets.{entries_of, entry_at}
use Rattle.cstn_minset.proofs.StoredLemmas.{entry_in_slot, no_entry}
use Rattle.cstn_minset.proofs.min_set.MinSet.entry.Goals as goal

pub returns-in-Some-clause-entry : goal.returns-in-Some-clause-entry
returns-in-Some-clause-entry c =
    rw c.at.ensures (entry_in_slot c.self.inside.births c.self.inside.rows c.self.inside.nodes c.args.slot (entries_of c.self.inside.births c.self.inside.rows) c.in-Some.b c.self.invariant c.in-Some.ensures.some)
    ∙ ap (λ v. entry_at v.table c.args.slot) c.self.view_is

pub returns-in-None-clause-entry : goal.returns-in-None-clause-entry
returns-in-None-clause-entry c =
    no_entry c.self.inside.births c.self.inside.rows c.self.inside.nodes c.args.slot (entries_of c.self.inside.births c.self.inside.rows) c.self.invariant c.in-None.ensures.none ∙ ap (λ v. entry_at v.table c.args.slot) c.self.view_is
