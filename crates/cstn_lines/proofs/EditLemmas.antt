-- The text of an edit line is read back as that line, and no other text is, but for the order of a label's marks.
use Rattle.std.proofs.Common.{◌≡◌, ℕ, suc, ◌<◌, ◌≤◌, ◌^◌, List, [], ◌∷◌, ◌++◌, refl, ap, sym, subst, ◌∙◌, arith, Bool, true, false, not}
use Rattle.std.specs.Prelude.{◌==◌, nat_lt, ℤ, FitsSigned, Option, Some, None, All, if◌then◌else◌, codes, bytes_eq}
use Rattle.std.specs.List.{list_all}
use Rattle.std.specs.Int.{w32}
use Rattle.std.specs.Option.{option_map, option_and_then}
use Rattle.std.proofs.lemmas.Slice.Eq.{bytes_eq-Decides}
use Rattle.cstn_facts.proofs.Options.{then_read, map_read}
use Rattle.cstn_label.specs.declared.marks.Mark.TheVariants.{Absent}
use Rattle.cstn_label.specs.Labels.{Label}
use Rattle.cstn_text.specs.Names.{IsName}
use Rattle.cstn_text.specs.Numbers.{number_read, value_read, printed_number, printed_value}
use Rattle.cstn_text.specs.PrintedNames.{name_read, printed_name}
use Rattle.cstn_text.specs.PrintedLabels.{label_read, printed_label}
use Rattle.cstn_text.proofs.NumberLemmas.{number_back, number_printed, value_back, value_printed}
use Rattle.cstn_text.proofs.PrintedNameLemmas.{name_back, name_printed}
use Rattle.cstn_text.proofs.PrintedLabelLemmas.{label_back}
use Rattle.cstn_text.proofs.LabelReadLemmas.{label_small}
use Rattle.cstn_text.proofs.CutLemmas.{cut_joined}
use Rattle.cstn_text.proofs.PartLemmas.{name_part, number_part, value_part}
use Rattle.cstn_lines.specs.LiveLines.{cut_at_space}
use Rattle.cstn_lines.specs.EditLines.{Edit, added, removed, changed, asked, id_read, change_read, ends_read, limit_read, add_read, edited_read, edit_read, IsEdit, IsTextOf, printed_edit}
use Rattle.cstn_lines.proofs.LiveLemmas.{joined_cut}

-- no byte of a part is a space
pub part_free : (text : List ℕ) → All (λ b. 32 < b) text → list_all (λ b. not (b == 32)) text ≡ true
part_free [] high = refl
part_free (b ∷ bytes) high =
    let first : not (b == 32) ≡ true = other b (high 0 0 (omega arith)) in
    rw first (part_free bytes (λ k d inside. high (suc k) d (omega arith)))
  where
    other : (b : ℕ) → 32 < b → not (b == 32) ≡ true
    other b above = grind arith

-- a number before a space is cut off there
pub number_cut : (n : ℕ) (rest : List ℕ) → n < 2 ^ 32 → cut_at_space (printed_number n ++ 32 ∷ rest) ≡ Some (printed_number n, rest)
number_cut n rest small = joined_cut (printed_number n) rest (part_free (printed_number n) (number_part n (omega arith)).high)

word_back : (word rest : List ℕ) → bytes_eq (word ++ 32 ∷ rest) (codes "check") ≡ false → list_all (λ b. not (b == 32)) word ≡ true → edit_read (word ++ 32 ∷ rest) ≡ edited_read (word, rest)
word_back word rest other part = ap (λ check. if check then Some asked else option_and_then edited_read (cut_at_space (word ++ 32 ∷ rest))) other ∙ ap (option_and_then edited_read) (joined_cut word rest part)

chosen : (n : ℕ) → n < 2 ^ 32 → (if nat_lt n (2 ^ 32) then Some n else None) ≡ Some n
chosen n small = grind arith

pub id_back : (id : ℕ) → id < 2 ^ 32 → id_read (printed_number id) ≡ Some id
id_back id small = ap (option_and_then (λ n. if nat_lt n (2 ^ 32) then Some n else None)) (number_back id (omega arith)) ∙ chosen id small

abbrev with_value : List ℕ × List ℕ → Option Edit
with_value parts = option_and_then (λ id. option_map (changed id) (value_read parts.1)) (id_read parts.0)

pub change_back : (id : ℕ) (most : ℤ) → id < 2 ^ 32 → FitsSigned w32 most → change_read (printed_number id ++ 32 ∷ printed_value most) ≡ Some (changed id most)
change_back id most small fits =
    ap (option_and_then with_value) (joined_cut (printed_number id) (printed_value most) (part_free (printed_number id) (number_part id (omega arith)).high))
    ∙ ap (option_and_then (λ i. option_map (changed i) (value_read (printed_value most)))) (id_back id small)
    ∙ ap (option_map (changed id)) (value_back most fits)

abbrev after_names : List ℕ × List ℕ → List ℕ × List ℕ → Option Edit
after_names one two = option_and_then (limit_read one.0 two.0) (cut_at_space two.1)

abbrev after_name : List ℕ × List ℕ → Option Edit
after_name one = option_and_then (after_names one) (cut_at_space one.1)

ends_back : (from to : List ℕ) (most : ℤ) (label : Label) → IsName from → IsName to → ends_read (printed_name from) (printed_name to) most label ≡ Some (added from to most label)
ends_back from to most label named also =
    ap (option_and_then (λ f. option_map (λ t. added f t most label) (name_read (printed_name to)))) (name_back from named)
    ∙ ap (option_map (λ t. added from t most label)) (name_back to also)

pub add_back : (from to : List ℕ) (most : ℤ) (label : Label) → IsName from → IsName to → FitsSigned w32 most → ((p : ℕ) → 52 ≤ p → label p ≡ Absent) →
    add_read (printed_name from ++ 32 ∷ (printed_name to ++ 32 ∷ (printed_value most ++ 32 ∷ printed_label label))) ≡ Some (added from to most label)
add_back from to most label named also fits letters =
    let pf = printed_name from in
    let pt = printed_name to in
    let pv = printed_value most in
    let pl = printed_label label in
    ap (option_and_then after_name) (joined_cut pf (pt ++ 32 ∷ (pv ++ 32 ∷ pl)) (part_free pf (name_part from named.some).high))
    ∙ ap (option_and_then (after_names (pf, pt ++ 32 ∷ (pv ++ 32 ∷ pl)))) (joined_cut pt (pv ++ 32 ∷ pl) (part_free pt (name_part to also.some).high))
    ∙ ap (option_and_then (limit_read pf pt)) (joined_cut pv pl (part_free pv (value_part most fits).high))
    ∙ ap (option_and_then (λ v. option_and_then (ends_read pf pt v) (label_read pl))) (value_back most fits)
    ∙ ap (option_and_then (ends_read pf pt most)) (label_back label letters)
    ∙ ends_back from to most label named also

pub edit_back : (line : Edit) → IsEdit line → edit_read (printed_edit line) ≡ Some line
edit_back (added from to most label) is =
    word_back (codes "add") (printed_name from ++ 32 ∷ (printed_name to ++ 32 ∷ (printed_value most ++ 32 ∷ printed_label label))) refl refl
    ∙ add_back from to most label is.0 is.1 is.2 is.3
edit_back (removed id) small = word_back (codes "remove") (printed_number id) refl refl ∙ ap (option_map removed) (id_back id small)
edit_back (changed id most) is = word_back (codes "change") (printed_number id ++ 32 ∷ printed_value most) refl refl ∙ change_back id most is.0 is.1
edit_back asked is = refl

-- the text says the line, which is one that a text can say
abbrev IsWritten : Edit → List ℕ → Type 0
IsWritten line text = IsTextOf line text × IsEdit line

same_line : (a b : Edit) (text : List ℕ) → a ≡ b → IsWritten a text → IsWritten b text
same_line a b text e is = subst (λ (line : Edit). IsWritten line text) e is

-- a text of two parts with a space between, where each part is equal to another text
pub spaced : (text left right printed more : List ℕ) → text ≡ left ++ 32 ∷ right → printed ≡ left → right ≡ more → text ≡ printed ++ 32 ∷ more
spaced text left right printed more parts first second = parts ∙ ap (λ bs. bs ++ 32 ∷ right) (sym first) ∙ ap (λ bs. printed ++ 32 ∷ bs) second

pub id_only : (text : List ℕ) (id : ℕ) → id_read text ≡ Some id → (printed_number id ≡ text) × (id < 2 ^ 32)
id_only text id is =
    let number = then_read (number_read text) (λ n. if nat_lt n (2 ^ 32) then Some n else None) id is in
    let same = below number.0 id number.2 in
    (ap printed_number (sym same.0) ∙ (number_printed text number.0 number.1).0, same.1)
  where
    below : (n id : ℕ) → (if nat_lt n (2 ^ 32) then Some n else None) ≡ Some id → (n ≡ id) × (id < 2 ^ 32)
    below n id is = grind arith

removed_only : (rest : List ℕ) (line : Edit) → option_map removed (id_read rest) ≡ Some line → IsWritten line (codes "remove" ++ 32 ∷ rest)
removed_only rest line is =
    let id = map_read (id_read rest) removed line is in
    let its = id_only rest id.0 id.1 in
    same_line (removed id.0) line _ id.2 (ap (λ bs. codes "remove" ++ 32 ∷ bs) (sym its.0), its.1)

change_only : (rest : List ℕ) (line : Edit) → change_read rest ≡ Some line → IsWritten line (codes "change" ++ 32 ∷ rest)
change_only rest line is =
    let parts = then_read (cut_at_space rest) with_value line is in
    let id = then_read (id_read parts.0.0) (λ id. option_map (changed id) (value_read parts.0.1)) line parts.2 in
    let most = map_read (value_read parts.0.1) (changed id.0) line id.2 in
    let its = id_only parts.0.0 id.0 id.1 in
    let limit = value_printed parts.0.1 most.0 most.1 in
    let whole = spaced rest parts.0.0 parts.0.1 _ _ (cut_joined 32 rest parts.0.0 parts.0.1 parts.1) its.0 (sym limit.0) in
    same_line (changed id.0 most.0) line _ most.2 (ap (λ bs. codes "change" ++ 32 ∷ bs) whole, (its.1, limit.1))

add_only : (rest : List ℕ) (line : Edit) → add_read rest ≡ Some line → IsWritten line (codes "add" ++ 32 ∷ rest)
add_only rest line is =
    let one = then_read (cut_at_space rest) after_name line is in
    let two = then_read (cut_at_space one.0.1) (after_names one.0) line one.2 in
    let three = then_read (cut_at_space two.0.1) (limit_read one.0.0 two.0.0) line two.2 in
    let most = then_read (value_read three.0.0) (λ most. option_and_then (ends_read one.0.0 two.0.0 most) (label_read three.0.1)) line three.2 in
    let label = then_read (label_read three.0.1) (ends_read one.0.0 two.0.0 most.0) line most.2 in
    let from = then_read (name_read one.0.0) (λ f. option_map (λ t. added f t most.0 label.0) (name_read two.0.0)) line label.2 in
    let to = map_read (name_read two.0.0) (λ t. added from.0 t most.0 label.0) line from.2 in
    let first = name_printed one.0.0 from.0 from.1 in
    let second = name_printed two.0.0 to.0 to.1 in
    let limit = value_printed three.0.0 most.0 most.1 in
    let last = spaced two.0.1 three.0.0 three.0.1 _ _ (cut_joined 32 two.0.1 three.0.0 three.0.1 three.1) limit.0 refl in
    let more = spaced one.0.1 two.0.0 two.0.1 _ _ (cut_joined 32 one.0.1 two.0.0 two.0.1 two.1) second.0 last in
    let whole = spaced rest one.0.0 one.0.1 _ _ (cut_joined 32 rest one.0.0 one.0.1 one.1) first.0 more in
    same_line (added from.0 to.0 most.0 label.0) line _ to.2
    ((three.0.1, label.1, ap (λ bs. codes "add" ++ 32 ∷ bs) whole), (first.1, second.1, limit.1, label_small three.0.1 label.0 label.1))

pub edited_only : (word rest : List ℕ) (line : Edit) → edited_read (word, rest) ≡ Some line → IsWritten line (word ++ 32 ∷ rest)
edited_only word rest line is = at (bytes_eq word (codes "add")) (bytes_eq word (codes "remove")) (bytes_eq word (codes "change")) refl refl refl is
  where
    spelled : (bytes : List ℕ) → bytes_eq word bytes ≡ true → IsWritten line (bytes ++ 32 ∷ rest) → IsWritten line (word ++ 32 ∷ rest)
    spelled bytes same written = subst (λ (w : List ℕ). IsWritten line (w ++ 32 ∷ rest)) (sym ((bytes_eq-Decides word bytes).0 same)) written

    at : (add remove change : Bool) → add ≡ bytes_eq word (codes "add") → remove ≡ bytes_eq word (codes "remove") → change ≡ bytes_eq word (codes "change")
        → (if add then add_read rest else if remove then option_map removed (id_read rest) else if change then change_read rest else None) ≡ Some line → IsWritten line (word ++ 32 ∷ rest)
    at true remove change a b c e = spelled (codes "add") (sym a) (add_only rest line e)
    at false true change a b c e = spelled (codes "remove") (sym b) (removed_only rest line e)
    at false false true a b c e = spelled (codes "change") (sym c) (change_only rest line e)
    at false false false a b c e = absurd (cc)

edit_written : (text : List ℕ) (line : Edit) → edit_read text ≡ Some line → IsWritten line text
edit_written text line is = at (bytes_eq text (codes "check")) refl is
  where
    just : (a b : Edit) → Some a ≡ Some b → a ≡ b
    just a b e = cc

    at : (check : Bool) → check ≡ bytes_eq text (codes "check") → (if check then Some asked else option_and_then edited_read (cut_at_space text)) ≡ Some line → IsWritten line text
    at true check e = same_line asked line text (just asked line e) ((bytes_eq-Decides text (codes "check")).0 (sym check), tt)
    at false check e =
        let parts = then_read (cut_at_space text) edited_read line e in
        subst (λ (x : List ℕ). IsWritten line x) (sym (cut_joined 32 text parts.0.0 parts.0.1 parts.1)) (edited_only parts.0.0 parts.0.1 line parts.2)

pub edit_only : (text : List ℕ) (line : Edit) → edit_read text ≡ Some line → IsTextOf line text
edit_only text line is = (edit_written text line is).0

pub edit_is : (text : List ℕ) (line : Edit) → edit_read text ≡ Some line → IsEdit line
edit_is text line is = (edit_written text line is).1
