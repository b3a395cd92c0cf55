use Rattle.std.proofs.Common.{arith, ap, sym, ◌∙◌}
use Rattle.cstn_log.proofs.ListedLemmas.{listed_length, listed_ids, held_few}
use Rattle.cstn_log.proofs.list.EntryList.len.Goals as goal

pub returns-clause-len : goal.returns-clause-len
returns-clause-len c =
    omega (arith, listed_length c.self.inside.places.items c.self.inside.slots.items c.self.inside.pool c.self.inside.cap c.args.self.now c.self.view_is c.self.invariant.held, c.len.ensures, c.self.inside.slots.ok)

pub returns-clause-ids : goal.returns-clause-ids
returns-clause-ids c =
    let long = listed_length c.self.inside.places.items c.self.inside.slots.items c.self.inside.pool c.self.inside.cap c.args.self.now c.self.view_is c.self.invariant.held in
    listed_ids c.self.inside.places.items c.self.inside.slots.items c.self.inside.pool c.self.inside.cap c.args.self.now c.self.view_is ∙ sym long

pub returns-clause-most : goal.returns-clause-most
returns-clause-most c =
    let long = listed_length c.self.inside.places.items c.self.inside.slots.items c.self.inside.pool c.self.inside.cap c.args.self.now c.self.view_is c.self.invariant.held in
    omega (arith, long, held_few c.self.inside.pool.slots c.self.inside.slots.items c.self.invariant.held, c.self.invariant.size, ap (λ v. v.cap) c.self.view_is)
