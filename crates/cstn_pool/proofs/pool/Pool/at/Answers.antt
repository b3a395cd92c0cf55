use Rattle.std.proofs.Common.{◌∙◌, arith}
use Rattle.std.proofs.lemmas.Option.{slice_get_within, get_or_from_slice_get}
use Rattle.cstn_pool.proofs.JoinedLemmas.{shown_held}
use Rattle.cstn_pool.proofs.pool.Pool.at.Goals as goal

pub index-requires : goal.index-requires
index-requires g c =
    let is = shown_held c.self.inside.capacity c.self.inside.births c.args.slot c.self.inside.born.items c.self.inside.values.items _ c.self.view_is c.requires in
    omega (arith, slice_get_within c.self.inside.values.items c.args.slot is.value is.value_is, c.self.inside.values.ok)

pub returns : goal.returns
returns g c =
    let is = shown_held c.self.inside.capacity c.self.inside.births c.args.slot c.self.inside.born.items c.self.inside.values.items _ c.self.view_is c.requires in
    (is.birth, rw (c.index.ensures ∙ get_or_from_slice_get c.self.inside.values.items c.args.slot is.value _ is.value_is) is.there)
