use Rattle.std.proofs.Common.{◌∙◌, subst}
use Rattle.cstn_pool.specs.Slots.{Slots, IsBorn, joined_slots}
use Rattle.cstn_pool.proofs.PaddedLemmas.{padded_born, shown_value}
use Rattle.cstn_pool.proofs.pool.Pool.get.Goals as goal

pub returns-clause-births : goal.returns-clause-births
returns-clause-births g c =
    subst (λ (v : Slots g.row.T.Denot). IsBorn v.births v.slots) c.self.view_is (padded_born _ _ _ c.self.invariant.in_order)

pub returns-clause-value : goal.returns-clause-value
returns-clause-value g c =
    c.value_in.ensures ∙ rw (c.deref.ensures.value, c.deref-2.ensures.value) (shown_value _ _ c.args.id.slot c.args.id.birth (joined_slots c.self.inside.born.items c.self.inside.values.items) _ c.self.view_is)
