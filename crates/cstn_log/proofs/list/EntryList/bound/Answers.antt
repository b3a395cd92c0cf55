use Rattle.std.proofs.Common.{◌≡◌, ◌∙◌, Some, map, arith, refl, subst}
use Rattle.std.specs.Prelude.{slice_get}
use Rattle.std.proofs.lemmas.Option.{slice_get-map}
use Rattle.cstn_log.specs.Lists.{Listing, placed, stored_in}
use Rattle.cstn_log.specs.Entries.{IsBoundAt}
use Rattle.cstn_log.proofs.ListedLemmas.{slot_there, listed_length, stored_at}
use Rattle.cstn_log.proofs.list.EntryList.bound.Goals as goal

pub index-requires : goal.index-requires
index-requires c =
    omega (arith, listed_length c.self.inside.places.items c.self.inside.slots.items c.self.inside.pool c.self.inside.cap c.args.self.now c.self.view_is c.self.invariant.held, c.requires, c.self.inside.slots.ok)

pub at-requires : goal.at-requires
at-requires c =
    let there = slot_there c.self.inside.places.items c.self.inside.slots.items c.self.inside.pool c.self.inside.cap c.args.self.now c.args.k c.index.result.now c.self.view_is c.self.invariant.held c.requires c.index.ensures in
    c.self.invariant.held.held c.args.k c.index.result.now there

pub returns : goal.returns
returns c =
    let there = slot_there c.self.inside.places.items c.self.inside.slots.items c.self.inside.pool c.self.inside.cap c.args.self.now c.args.k c.index.result.now c.self.view_is c.self.invariant.held c.requires c.index.ensures in
    let P = c.self.inside.places.items in
    let S = stored_in c.self.inside.pool.slots c.self.inside.slots.items in
    let k = c.args.k in
    let e = c.at.result.now in
    let read : slice_get S k ≡ Some e = stored_at c.self.inside.pool.slots c.self.inside.slots.items k c.index.result.now (c.at.ensures.0, e) c.self.invariant.held.held there c.at.ensures.1 in
    let placed_there : slice_get (map (placed P) S) k ≡ Some (placed P e) = slice_get-map (placed P) S k ∙ rw read refl in
    subst (λ (v : Listing). IsBoundAt v.entries k e.bound) c.self.view_is (record { entry = placed P e; there = placed_there; is = refl })
