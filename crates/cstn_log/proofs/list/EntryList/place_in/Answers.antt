use Rattle.std.proofs.Common.{◌≡◌, ◌∙◌, Some, arith, sym, subst}
use Rattle.std.specs.Prelude.{slice_get}
use Rattle.std.proofs.lemmas.Grind.{get_or_default_zero}
use Rattle.cstn_log.specs.Lists.{Listing}
use Rattle.cstn_log.proofs.ListedLemmas.{id_filed}
use Rattle.cstn_log.proofs.list.EntryList.place_in.Goals as goal

pub index-requires : goal.index-requires
index-requires c =
    let id = c.requires in
    let back = subst (λ (v : Listing). slice_get v.ids id.1 ≡ Some (record { slot = c.args.slot; birth = id.0 })) (sym c.self.view_is) id.2.there in
    let filed = id_filed c.self.inside.places.items c.self.inside.slots.items c.self.inside.pool.slots id.1 (record { slot = c.args.slot; birth = id.0 }) c.self.invariant.filed back in
    omega (arith, filed.0, c.self.inside.places.ok)

pub returns : goal.returns
returns c = λ birth k at.
    let P = c.self.inside.places.items in
    let back = subst (λ (v : Listing). slice_get v.ids k ≡ Some (record { slot = c.args.slot; birth = birth })) (sym c.self.view_is) at.there in
    let filed = id_filed P c.self.inside.slots.items c.self.inside.pool.slots k (record { slot = c.args.slot; birth = birth }) c.self.invariant.filed back in
    c.index.ensures ∙ get_or_default_zero P c.args.slot c.index.result.now filed.0 ∙ filed.1
