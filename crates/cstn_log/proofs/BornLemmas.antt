-- Ids by their births.
use Rattle.std.proofs.Common.{ℕ, suc, ◌≡◌, ◌∙◌, inl, inr, ◌+◌, ◌<◌, ◌≤◌, List, [], ◌∷◌, ◌++◌, arith, sym, ap, subst}
use Rattle.std.proofs.lemmas.List.{map-append}
use Rattle.std.proofs.lemmas.Option.{none-some}
use Rattle.cstn_pool.specs.declared.slot_id.SlotId.{SlotId}
use Rattle.cstn_label.specs.Bounds.{Bound}
use Rattle.cstn_label.specs.Read.{the_bound}
use Rattle.cstn_rules.specs.declared.entries.Entry.{Entry}
use Rattle.cstn_rules.specs.declared.entries.Why.{Why}
use Rattle.cstn_rules.specs.declared.entries.Why.TheVariants.{Base}
use Rattle.cstn_rules.specs.Rules.{base}
use Rattle.cstn_rules.specs.Derivations.{Entry as TheEntry}
use Rattle.cstn_rules.specs.Read.{the_entry}
use Rattle.cstn_log.specs.Entries.{State, HasId, AreBornFrom, the_entries, bases}
use Rattle.cstn_facts.proofs.Places.{get_more}

pub none_born : (birth : ℕ) → AreBornFrom birth []
none_born birth k id is = absurd (none-some id is)

pub more_born : (birth : ℕ) (ids : List SlotId) (id : SlotId) → AreBornFrom birth ids → birth ≤ id.birth → AreBornFrom birth (ids ++ id ∷ [])
more_born birth ids id born late k x is = elim (get_more ids id k x is) [
  | inl old ↦ born k x old
  | inr new ↦ subst (λ (y : SlotId). birth ≤ y.birth) new.1 late
]

-- none of the ids that were born before is among those that are born from then on
pub none_again : (births : ℕ) (old new : List SlotId) → ((id : SlotId) → HasId old id → id.birth < births) → AreBornFrom births new →
    (id : SlotId) → HasId old id → ¬ HasId new id
none_again births old new before born id was is = omega (arith, before id was, born is.0 id is.1)

-- the log after a push
abbrev IsPushed : State → State → Entry → Type 0
IsPushed old new e = (slot : ℕ) × (new ≡ record old { entries = old.entries ++ e ∷ []; ids = old.ids ++ record { slot = slot; birth = old.births } ∷ []; births = old.births + 1 })

pub pushed_born : (old new : State) (e : Entry) (births n : ℕ) → IsPushed old new e → old.births ≡ births + n → AreBornFrom births old.ids → AreBornFrom births new.ids
pushed_born old new e births n pushed at born =
    subst (AreBornFrom births) (sym (ap (λ (s : State). s.ids) pushed.1))
    (more_born births old.ids (record { slot = pushed.0; birth = old.births }) born (omega (arith, at)))

abbrev made : Bound → Why → TheEntry
made b w = record { bound = b; why = w }

-- a base bound that is pushed behind the first n
pub pushed_base : (old new : State) (e : Entry) (n : ℕ) → IsPushed old new e → the_entries old.entries ≡ bases n → the_bound e.bound ≡ base n → e.why ≡ Base →
    the_entries new.entries ≡ bases (n + 1)
pushed_base old new e n pushed is bound why =
    let next : n + 1 ≡ suc n = omega arith in
    let same : the_entry e ≡ made (base n) Base = ap (λ b. made b e.why) bound ∙ ap (made (base n)) why in
    ap (λ (s : State). the_entries s.entries) pushed.1 ∙ map-append the_entry old.entries (e ∷ [])
    ∙ ap (λ l. l ++ the_entry e ∷ []) is ∙ ap (λ x. bases n ++ x ∷ []) same ∙ ap bases (sym next)
