use Rattle.std.proofs.Common.{◌≡◌, ◌∙◌, Some, arith, ap, subst}
use Rattle.std.specs.Prelude.{slice_get}
use Rattle.std.proofs.lemmas.Option.{slice_get-map}
use Rattle.cstn_log.specs.Lists.{Listing, id_in}
use Rattle.cstn_log.proofs.ListedLemmas.{slot_there, listed_length, id_read}
use Rattle.cstn_log.proofs.list.EntryList.id.Goals as goal

pub index-requires : goal.index-requires
index-requires c =
    omega (arith, listed_length c.self.inside.places.items c.self.inside.slots.items c.self.inside.pool c.self.inside.cap c.args.self.now c.self.view_is c.self.invariant.held, c.requires, c.self.inside.slots.ok)

pub id-requires : goal.id-requires
id-requires c =
    let there = slot_there c.self.inside.places.items c.self.inside.slots.items c.self.inside.pool c.self.inside.cap c.args.self.now c.args.k c.index.result.now c.self.view_is c.self.invariant.held c.requires c.index.ensures in
    c.self.invariant.held.held c.args.k c.index.result.now there

pub returns : goal.returns
returns c =
    let there = slot_there c.self.inside.places.items c.self.inside.slots.items c.self.inside.pool c.self.inside.cap c.args.self.now c.args.k c.index.result.now c.self.view_is c.self.invariant.held c.requires c.index.ensures in
    let pool = c.self.inside.pool.slots in
    let slots = c.self.inside.slots.items in
    let s = c.index.result.now in
    let is = id_read pool s c.id.result c.id.ensures.birth.0 c.id.ensures.slot c.id.ensures.birth.1 in
    subst (λ (v : Listing). slice_get v.ids c.args.k ≡ Some c.id.result) c.self.view_is (slice_get-map (id_in pool) slots c.args.k ∙ rw there (ap Some is))
