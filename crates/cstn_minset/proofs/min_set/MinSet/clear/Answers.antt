use Rattle.std.proofs.Common.{◌≡◌, None, length, replicate, ap, sym, subst, ◌∙◌}
use Rattle.cstn_minset.specs.Sets.{Places, entries_of}
use Rattle.cstn_minset.proofs.SetLemmas.{places}
use Rattle.cstn_minset.proofs.StoredLemmas.{none_stored, determined, stored_as_told}
use Rattle.cstn_minset.proofs.min_set.MinSet.clear.Goals as goal

pub invariant_of-self : goal.invariant_of-self
invariant_of-self c =
    let size = c.self.invariant.1.size in
    let stored = none_stored c.clear.new.self c.self.inside.nodes (length c.self.inside.births) (c.clear.ensures.size.0 ∙ c.self.invariant.0.heads) (c.clear.ensures.size.1 ∙ c.self.invariant.0.room ∙ sym size) c.clear.ensures.empty in
    rw c.clear-2.ensures (stored_as_told _ _ _ _ stored)

pub returns : goal.returns
returns c =
    let size = c.self.invariant.1.size in
    let stored = none_stored c.clear.new.self c.self.inside.nodes (length c.self.inside.births) (c.clear.ensures.size.0 ∙ c.self.invariant.0.heads) (c.clear.ensures.size.1 ∙ c.self.invariant.0.room ∙ sym size) c.clear.ensures.empty in
    subst (λ (v : Places). places c.self.inside.nodes (entries_of c.clear-2.new.self c.clear.new.self) ≡ places v.nodes (replicate (length v.table) None)) c.self.view_is
    (ap (places c.self.inside.nodes) (rw c.clear-2.ensures (determined _ _ _ _ stored) ∙ ap (λ n. replicate n None) size))
