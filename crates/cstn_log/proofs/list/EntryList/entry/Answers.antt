use Rattle.std.proofs.Common.{◌≡◌, ◌∙◌, Some, map, arith, ap, sym, subst}
use Rattle.std.specs.Prelude.{slice_get, option_map}
use Rattle.std.proofs.lemmas.Option.{slice_get-map}
use Rattle.cstn_rules.specs.Read.{the_entry}
use Rattle.cstn_log.specs.Cuts.{PremisesBelow, replaced}
use Rattle.cstn_log.specs.Lists.{Listing, placed, stored_in}
use Rattle.cstn_log.proofs.ListedLemmas.{slot_there, of_rule, listed_length, slots_within, stored_at}
use Rattle.cstn_log.proofs.StepLemmas.{entry_read}
use Rattle.cstn_log.proofs.list.EntryList.entry.Goals as goal

pub index-requires : goal.index-requires
index-requires c =
    omega (arith, listed_length c.self.inside.places.items c.self.inside.slots.items c.self.inside.pool c.self.inside.cap c.args.self.now c.self.view_is c.self.invariant.held, c.requires, c.self.inside.slots.ok)

pub at-stored-requires : goal.at-stored-requires
at-stored-requires c =
    let there = slot_there c.self.inside.places.items c.self.inside.slots.items c.self.inside.pool c.self.inside.cap c.args.self.now c.args.k c.index.result.now c.self.view_is c.self.invariant.held c.requires c.index.ensures in
    c.self.invariant.held.held c.args.k c.index.result.now there

pub placed-requires : goal.placed-requires
placed-requires c =
    let there = slot_there c.self.inside.places.items c.self.inside.slots.items c.self.inside.pool c.self.inside.cap c.args.self.now c.args.k c.index.result.now c.self.view_is c.self.invariant.held c.requires c.index.ensures in
    let read = stored_at c.self.inside.pool.slots c.self.inside.slots.items c.args.k c.index.result.now (c.at-stored.ensures.0, c.at-stored.result.now) c.self.invariant.held.held there c.at-stored.ensures.1 in
    rw c.deref.ensures.value
    (slots_within c.self.inside.places.items c.self.inside.slots.items c.at-stored.result.now.why c.self.invariant.filed (c.self.invariant.named c.args.k c.at-stored.result.now read))

pub returns-clause-entry : goal.returns-clause-entry
returns-clause-entry c =
    let there = slot_there c.self.inside.places.items c.self.inside.slots.items c.self.inside.pool c.self.inside.cap c.args.self.now c.args.k c.index.result.now c.self.view_is c.self.invariant.held c.requires c.index.ensures in
    let read = stored_at c.self.inside.pool.slots c.self.inside.slots.items c.args.k c.index.result.now (c.at-stored.ensures.0, c.at-stored.result.now) c.self.invariant.held.held there c.at-stored.ensures.1 in
    let placed_there = slice_get-map (placed c.self.inside.places.items) (stored_in c.self.inside.pool.slots c.self.inside.slots.items) c.args.k ∙ ap (option_map (placed c.self.inside.places.items)) read in
    let P = c.self.inside.places.items in
    let e = c.at-stored.result.now in
    let r = c.placed.result in
    let why : r.why ≡ replaced P e.why = c.placed.ensures.why ∙ ap (λ xs. replaced xs e.why) c.deref.ensures.value in
    let whole : placed P e ≡ r = ap (of_rule e.bound) (sym why) ∙ ap (λ b. of_rule b r.why) (sym c.placed.ensures.bound) in
    subst (λ (v : Listing). slice_get v.entries c.args.k ≡ Some r) c.self.view_is (placed_there ∙ ap Some whole)

pub returns-clause-premises : goal.returns-clause-premises
returns-clause-premises c =
    let there = slot_there c.self.inside.places.items c.self.inside.slots.items c.self.inside.pool c.self.inside.cap c.args.self.now c.args.k c.index.result.now c.self.view_is c.self.invariant.held c.requires c.index.ensures in
    let read = stored_at c.self.inside.pool.slots c.self.inside.slots.items c.args.k c.index.result.now (c.at-stored.ensures.0, c.at-stored.result.now) c.self.invariant.held.held there c.at-stored.ensures.1 in
    let placed_there = slice_get-map (placed c.self.inside.places.items) (stored_in c.self.inside.pool.slots c.self.inside.slots.items) c.args.k ∙ ap (option_map (placed c.self.inside.places.items)) read in
    let P = c.self.inside.places.items in
    let k = c.args.k in
    let e = c.at-stored.result.now in
    let below : PremisesBelow k (replaced P e.why) = c.self.invariant.earlier.below k (the_entry (placed P e)) (entry_read (map (placed P) (stored_in c.self.inside.pool.slots c.self.inside.slots.items)) k (placed P e) placed_there) in
    subst (λ w. PremisesBelow k w) (sym (c.placed.ensures.why ∙ ap (λ xs. replaced xs e.why) c.deref.ensures.value)) below
