-- Which edit lines may want memory.
use Rattle.std.proofs.Common.{◌≡◌, ℕ, ℤ, Bool, true, false, List, refl, ap, sym, ◌∙◌, subst}
use Rattle.std.specs.Prelude.{◌||◌, IsSomeAnd, if◌then◌else◌, Option, None, Some, Result, Ok, Err, OnErr, codes, bytes_eq}
use Rattle.std.specs.Option.{option_map, option_and_then}
use Rattle.cstn_label.specs.Labels.{Label}
use Rattle.cstn_text.specs.Numbers.{value_read}
use Rattle.cstn_lines.specs.LiveLines.{cut_at_space}
use Rattle.cstn_lines.specs.declared.edits.EditLine.{EditLine}
use Rattle.cstn_lines.specs.EditLines.{the_edit, Edit, added, removed, changed, asked, id_read, change_read, add_read, edited_read, edit_read, IsAdding}
use Rattle.cstn_edit.specs.Editing.{is_adding, edit_wants}

or_right : (a b : Bool) → b ≡ true → (a || b) ≡ true
or_right true b is = refl
or_right false b is = is

adding : (o : Option (List ℕ × List ℕ)) → IsSomeAnd o (λ parts. bytes_eq parts.0 (codes "add") ≡ true) → is_adding o ≡ true
adding None never = absurd never
adding (Some parts) is = is

-- a line whose word is `add`
pub adding_wants : (text : List ℕ) → IsAdding text → edit_wants text ≡ true
adding_wants text is = or_right (bytes_eq text (codes "check")) (is_adding (cut_at_space text)) (adding (cut_at_space text) is)

-- no edit, or one that removes or changes
abbrev pub Quiet : Option Edit → Type 0
Quiet None = Unit {0}
Quiet (Some (added from to most a)) = ⊥
Quiet (Some (removed id)) = Unit {0}
Quiet (Some (changed id most)) = Unit {0}
Quiet (Some asked) = ⊥

quiet_then : {A : Type 0} (o : Option A) (f : A → Option Edit) → ((a : A) → Quiet (f a)) → Quiet (option_and_then f o)
quiet_then None f each = tt
quiet_then (Some a) f each = each a

quiet_removed : (o : Option ℕ) → Quiet (option_map removed o)
quiet_removed None = tt
quiet_removed (Some id) = tt

quiet_changed : (id : ℕ) (o : Option ℤ) → Quiet (option_map (changed id) o)
quiet_changed id None = tt
quiet_changed id (Some most) = tt

-- where the word is not `add`
quiet_word : (parts : List ℕ × List ℕ) → bytes_eq parts.0 (codes "add") ≡ false → Quiet (edited_read parts)
quiet_word parts is = by_add (bytes_eq parts.0 (codes "add")) is
  where
    change_is : Quiet (change_read parts.1)
    change_is = quiet_then (cut_at_space parts.1) _ (λ ps. quiet_then (id_read ps.0) _ (λ id. quiet_changed id (value_read ps.1)))

    by_change : (b : Bool) → Quiet (if b then change_read parts.1 else None)
    by_change true = change_is
    by_change false = tt

    by_remove : (b : Bool) → Quiet (if b then option_map removed (id_read parts.1) else if bytes_eq parts.0 (codes "change") then change_read parts.1 else None)
    by_remove true = quiet_removed (id_read parts.1)
    by_remove false = by_change (bytes_eq parts.0 (codes "change"))

    by_add : (b : Bool) → b ≡ false → Quiet (if b then add_read parts.1 else if bytes_eq parts.0 (codes "remove") then option_map removed (id_read parts.1) else if bytes_eq parts.0 (codes "change") then change_read parts.1 else None)
    by_add true never = absurd (let f : ⊥ = cc in f)
    by_add false is = by_remove (bytes_eq parts.0 (codes "remove"))

quiet_cut : (o : Option (List ℕ × List ℕ)) → is_adding o ≡ false → Quiet (option_and_then edited_read o)
quiet_cut None is = tt
quiet_cut (Some parts) is = quiet_word parts is

quiet_line : (text : List ℕ) → edit_wants text ≡ false → Quiet (edit_read text)
quiet_line text is = by_check (bytes_eq text (codes "check")) is
  where
    by_check : (b : Bool) → (b || is_adding (cut_at_space text)) ≡ false → Quiet (if b then Some asked else option_and_then edited_read (cut_at_space text))
    by_check true never = absurd (let f : ⊥ = cc in f)
    by_check false is = quiet_cut (cut_at_space text) is

by_wants : (text : List ℕ) (e : Edit) (b : Bool) → edit_wants text ≡ b → edit_read text ≡ Some e → (Quiet (Some e) → ⊥) → b ≡ true
by_wants text e true at is wants = refl
by_wants text e false at is wants = absurd (wants (subst Quiet is (quiet_line text at)))

-- a line that adds
pub add_wants : (text : List ℕ) (from to : List ℕ) (most : ℤ) (a : Label) → edit_read text ≡ Some (added from to most a) → edit_wants text ≡ true
add_wants text from to most a is = by_wants text (added from to most a) (edit_wants text) refl is (λ never. never)

-- the line that checks
pub check_wants : (text : List ℕ) → edit_read text ≡ Some asked → edit_wants text ≡ true
check_wants text is = by_wants text asked (edit_wants text) refl is (λ never. never)

-- what an edit line says, by what was read of it
pub said_so : (text : List ℕ) (o : Option EditLine) (e : EditLine) (edit : Edit) → o ≡ Some e → option_map the_edit o ≡ edit_read text → the_edit e ≡ edit → edit_read text ≡ Some edit
said_so text o e edit at is says = sym is ∙ ap (option_map the_edit) at ∙ ap (λ (x : Edit). Some x) says

pub on_err : {X E : Type 0} (r : Result X E) (P : Type 0) → P → OnErr r P
on_err (Ok x) P p = tt
on_err (Err e) P p = p
