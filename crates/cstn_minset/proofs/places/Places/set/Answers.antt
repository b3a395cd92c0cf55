use Rattle.std.proofs.Common.{◌≡◌, ◌-◌, ◌++◌, ◌∙◌, ap, sym, set, subst, arith}
use Rattle.cstn_pool.specs.Slots.{padded}
use Rattle.cstn_minset.specs.Links.{Leads}
use Rattle.cstn_minset.proofs.WrittenLemmas.{resized_at, slot_set, end_set}
use Rattle.cstn_minset.proofs.places.Places.set.Goals as goal

pub returns-then-self-place : goal.returns-then-self-place
returns-then-self-place c =
    subst (λ (v : Leads). record { slots = c.self.inside.slots; places = padded 0 c.self.inside.slots c.self.inside.used.items ++ set c.self.inside.ends.items (c.args.place - c.self.inside.slots) c.args.to } ≡ record { slots = v.slots; places = set v.places c.args.place c.args.to }) c.self.view_is
    (ap (λ p. record { slots = c.self.inside.slots; places = p }) (sym (end_set c.self.inside.slots c.args.place c.args.to c.self.inside.used.items c.self.inside.ends.items c.self.invariant.0 c.if-self-place.true)))

pub returns : goal.returns
returns c =
    let filled = c.blanks_fill_up_to_a_count.ensures.set 0 c.self.inside.slots c.max-count.result c.args.place c.args.to c.self.inside.used.items
    (omega (arith, c.if-self-place.false, c.max-count.ensures, c.len.ensures, c.self.inside.used.ok, c.self.invariant.0)) (omega (arith, c.max-count.ensures, c.len.ensures, c.self.inside.used.ok)) (omega (arith, c.max-count.ensures)) in
    let more = resized_at 0 c.self.inside.slots c.max-count.result c.args.place _ c.args.to c.self.inside.used.items c.resize.new.self.items (rw c.unwrap.ensures at c.resize.ensures.items)
    (omega (arith, c.self.inside.used.ok)) filled in
    subst (λ (v : Leads). record { slots = c.self.inside.slots; places = padded 0 c.self.inside.slots (set c.resize.new.self.items c.args.place c.args.to) ++ c.self.inside.ends.items } ≡ record { slots = v.slots; places = set v.places c.args.place c.args.to }) c.self.view_is
    (ap (λ p. record { slots = c.self.inside.slots; places = p }) (ap (λ p. p ++ c.self.inside.ends.items) more ∙ sym (slot_set c.self.inside.slots c.args.place c.args.to c.self.inside.used.items c.self.inside.ends.items c.self.invariant.0 c.if-self-place.false)))
