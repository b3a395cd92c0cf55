use Rattle.std.proofs.Common.{◌∙◌}
use Rattle.cstn_minset.proofs.LinkLemmas.{all_free}
use Rattle.cstn_minset.proofs.links.Links.clear.Goals as goal

pub invariant_of-self : goal.invariant_of-self
invariant_of-self c =
    let inv = c.self.invariant in
    record {
      next_slots = c.clear.ensures.size.0 ∙ inv.next_slots;
      prev_slots = c.clear-2.ensures.size.0 ∙ inv.prev_slots;
      next_size = c.clear.ensures.size.1 ∙ inv.next_size;
      prev_size = c.clear-2.ensures.size.1 ∙ inv.prev_size;
      small = inv.small;
      next_inside = rw inv.next_size at c.clear.ensures.inside;
      prev_inside = rw inv.prev_size at c.clear-2.ensures.inside;
    }

pub returns-clause-linked : goal.returns-clause-linked
returns-clause-linked c =
    let inv = c.self.invariant in
    let next_ends = rw inv.next_slots at c.clear.ensures.ends in
    let prev_ends = rw inv.prev_slots at c.clear-2.ensures.ends in
    all_free c.self.inside.slots c.self.inside.heads c.clear.new.self.places c.clear-2.new.self.places (c.clear.ensures.size.1 ∙ inv.next_size) (c.clear-2.ensures.size.1 ∙ inv.prev_size) inv.small (next_ends c.self.inside.heads inv.next_size) (prev_ends c.self.inside.heads inv.prev_size)
