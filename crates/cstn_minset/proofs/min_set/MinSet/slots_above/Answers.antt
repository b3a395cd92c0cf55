use Rattle.std.proofs.Common.{◌≤◌, ℕ, length, sym, subst, rules, SFits, w32}
use Rattle.std.specs.Prelude.{All, vec_capacity}
use Rattle.std.specs.List.{Contains}
use Rattle.std.proofs.lemmas.Int.{to_z-of_z}
use Rattle.cstn_label.specs.declared.bounds.Bound.{Bound}
use Rattle.cstn_minset.specs.Sets.{Places, IsPlaced, IsSoughtAbove, entries_of}
use Rattle.cstn_minset.proofs.GatherLemmas.{all_mapped}
use Rattle.cstn_minset.proofs.SoughtLemmas.{sought_from, found_of_entries, held_within}
use Rattle.cstn_minset.proofs.min_set.MinSet.slots_above.Goals as goal

pub slots_above-requires : goal.slots_above-requires
slots_above-requires c =
    let inside = c.self.inside in
    record {
      room = held_within inside.rows inside.nodes (entries_of inside.births inside.rows) (vec_capacity c.args.found.now) c.self.invariant.0
          (subst (λ (v : Places). length v.table ≤ vec_capacity c.args.found.now) (sym c.self.view_is) c.requires.room);
    }

pub returns-clause-all : goal.returns-clause-all
returns-clause-all c =
    let inside = c.self.inside in
    let fits : SFits w32 c.args.floor = search rules in
    let floor = to_z-of_z w32 c.args.floor fits in
    subst (λ (v : Places). (s : ℕ) (e : ℕ × Bound) → IsPlaced v.table s e → IsSoughtAbove c.args.node.0 c.args.floor c.args.marking e.1 → Contains c.slots_above.new.found.items s) c.self.view_is
    (found_of_entries inside.rows inside.nodes (entries_of inside.births inside.rows) c.args.node.0 c.args.floor c.args.marking c.slots_above.new.found.items c.self.invariant.0 (rw floor at c.slots_above.ensures.all))

pub returns-clause-only : goal.returns-clause-only
returns-clause-only c =
    let inside = c.self.inside in
    let fits : SFits w32 c.args.floor = search rules in
    let floor = to_z-of_z w32 c.args.floor fits in
    subst (λ (v : Places). All (λ s. (e : ℕ × Bound) × IsPlaced v.table s e × IsSoughtAbove c.args.node.0 c.args.floor c.args.marking e.1) c.slots_above.new.found.items) c.self.view_is
    (all_mapped _ _ c.slots_above.new.found.items
    (λ s found. sought_from inside.rows inside.nodes (entries_of inside.births inside.rows) c.args.node.0 c.args.floor c.args.marking s c.self.invariant.0 found) (rw floor at c.slots_above.ensures.only))
