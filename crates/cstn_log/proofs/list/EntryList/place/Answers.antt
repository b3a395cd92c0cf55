use Rattle.std.proofs.Common.{◌≡◌, ◌<◌, ℕ, Bool, true, false, Option, Some, None, length, nat_lt, ap, sym, ◌∙◌, arith, subst, get_or}
use Rattle.std.specs.Prelude.{slice_get, IsTrue, is_some}
use Rattle.std.proofs.lemmas.Grind.{get_or_default_zero}
use Rattle.cstn_log.specs.Lists.{Listing}
use Rattle.cstn_log.proofs.ListedLemmas.{id_filed}
use Rattle.cstn_log.proofs.list.EntryList.place.Goals as goal

not_sure : (t : Bool) → t ≡ false → IsTrue t → ⊥
not_sure t no' sure = cc

not_got : {X : Type 0} (o : Option X) → o ≡ None → is_some o ≡ true → ⊥
not_got o none some = cc

is_below : (m n : ℕ) → m < n → nat_lt m n ≡ true
is_below m n less = grind arith

pub returns-in_default-clause-none : goal.returns-in_default-clause-none
returns-in_default-clause-none c = λ has.
    let back = subst (λ (v : Listing). slice_get v.ids has.0 ≡ Some c.args.id) (sym c.self.view_is) has.1 in
    let filed = id_filed c.self.inside.places.items c.self.inside.slots.items c.self.inside.pool.slots has.0 c.args.id c.self.invariant.filed back in
    let at = c.in-Some.ensures.lookup.1 ∙ ap (λ xs. get_or xs c.args.id.slot c.in-Some.place.now) c.deref.ensures.value ∙ get_or_default_zero c.self.inside.places.items c.args.id.slot c.in-Some.place.now filed.0 ∙ filed.1 in
    let sure = c.is_id.ensures.1 (subst (λ (k : ℕ). slice_get c.args.self.now.ids k ≡ Some c.args.id) (sym at) has.1) in
    not_sure c.is_id.result c.if-is_id.false sure

pub returns-in_default-2-clause-none : goal.returns-in_default-2-clause-none
returns-in_default-2-clause-none c = λ has.
    let back = subst (λ (v : Listing). slice_get v.ids has.0 ≡ Some c.args.id) (sym c.self.view_is) has.1 in
    let filed = id_filed c.self.inside.places.items c.self.inside.slots.items c.self.inside.pool.slots has.0 c.args.id c.self.invariant.filed back in
    not_got c.get.result c.in_default.is (c.get.ensures.lookup.0 ∙ is_below c.args.id.slot (length c.deref.result.now) (omega (arith, filed.0, ap length c.deref.ensures.value)))
