use Rattle.std.proofs.Common.{◌≡◌, ◌<◌, ℕ, List, length, set, sym, subst, arith}
use Rattle.cstn_pool.specs.Slots.{padded}
use Rattle.cstn_minset.proofs.WrittenLemmas.{resized_at}
use Rattle.cstn_minset.specs.Sets.{no_birth}
use Rattle.cstn_minset.proofs.births.Births.set.Goals as goal

pub returns : goal.returns
returns c =
    let inside = subst (λ (v : List ℕ). c.args.slot < length v) (sym c.self.view_is) c.requires in
    let all = c.blanks_fill_up_to_a_count.ensures.length no_birth c.self.inside.capacity c.self.inside.used.items c.self.invariant.0 in
    let filled = c.blanks_fill_up_to_a_count.ensures.set no_birth c.self.inside.capacity c.max-count.result c.args.slot c.args.birth c.self.inside.used.items
    (omega (arith, inside, all, c.max-count.ensures, c.len.ensures, c.self.inside.used.ok, c.self.invariant.0)) (omega (arith, c.max-count.ensures, c.len.ensures, c.self.inside.used.ok)) (omega (arith, c.max-count.ensures)) in
    subst (λ (v : List ℕ). padded no_birth c.self.inside.capacity (set c.resize.new.self.items c.args.slot c.args.birth) ≡ set v c.args.slot c.args.birth) c.self.view_is
    (resized_at no_birth c.self.inside.capacity c.max-count.result c.args.slot _ c.args.birth c.self.inside.used.items c.resize.new.self.items (rw c.unwrap.ensures at c.resize.ensures.items)
    (omega (arith, c.self.inside.used.ok)) filled)
