-- The text of a line of a session that follows a plan is read back as that line, and no other text is, but for the order of a
-- label's marks.
use Rattle.std.proofs.Common.{◌≡◌, ◌≢◌, ℕ, ◌<◌, ◌≤◌, ◌^◌, List, [], ◌∷◌, ◌++◌, length, refl, ap, sym, subst, ◌∙◌, arith, Bool, true, false, not, append_assoc, append-nil}
use Rattle.std.specs.Prelude.{Option, Some, None, ◌==◌, if◌then◌else◌, flat_map, codes, bytes_eq}
use Rattle.std.specs.List.{All, list_all}
use Rattle.std.specs.Option.{option_map, option_and_then}
use Rattle.std.proofs.lemmas.Bool.{ne_eqb}
use Rattle.std.proofs.lemmas.List.Elements.{All-nil, All-cons, All-head, All-tail}
use Rattle.std.proofs.lemmas.Slice.Eq.{bytes_eq-Decides}
use Rattle.cstn_facts.proofs.Options.{then_read, map_read}
use Rattle.cstn_label.specs.Letters.{letter_of}
use Rattle.cstn_net.specs.Limits.{most_deadline}
use Rattle.cstn_text.specs.Cuts.{cut_at}
use Rattle.cstn_text.specs.Names.{IsName}
use Rattle.cstn_text.specs.SmallNumbers.{u32_read}
use Rattle.cstn_text.specs.Numbers.{number_within, printed_number, printed_value}
use Rattle.cstn_text.specs.PrintedNames.{name_read, printed_name}
use Rattle.cstn_text.specs.PrintedLabels.{printed_label}
use Rattle.cstn_text.proofs.CutLemmas.{cut_joined}
use Rattle.cstn_text.proofs.PartLemmas.{name_part}
use Rattle.cstn_text.proofs.PrintedNameLemmas.{name_back, name_printed}
use Rattle.cstn_text.specs.Parts.{SplitText, parts_at, joined}
use Rattle.cstn_text.proofs.SplitLemmas.{parts_cut, parts_open, parts_joined}
use Rattle.cstn_text.proofs.ReadingLemmas.{part_free, part_back, within_back, within_said, u32_back}
use Rattle.cstn_lines.specs.LiveLines.{cut_at_space, prop_read, truth_read, printed_truth}
use Rattle.cstn_lines.specs.EditLines.{Edit, added, removed, changed, asked, edited_read, IsEdit, printed_edit}
use Rattle.cstn_lines.specs.FollowLines.{Follow, done_at, came_at, now_at, awaited_at, ready_at, edits, ends_by, asks_next, asks_by, asks_blame, asks_rest, each_name_read, names_read, done_read, outcome_read, came_read, awaited_read, ready_read, followed_read, follow_read, IsFollow, printed_follow, IsTextOf}
use Rattle.cstn_lines.proofs.LiveLemmas.{joined_cut, letter_is_part, prop_only, truth_back, truth_only}
use Rattle.cstn_lines.proofs.EditLemmas.{number_cut, spaced, add_back, change_back, id_back, edited_only}
use Rattle.cstn_label.proofs.LetterLemmas.{letter_back}

-- ---- names, one after the other

-- the names that are still to be read come after those that were read
abbrev pub after_names : List (List ℕ) → Option (List (List ℕ)) → Option (List (List ℕ))
after_names names others = option_map (λ more. names ++ more) others

abbrev in_parts : List (List ℕ) → SplitText → Option (List (List ℕ))
in_parts names parts = after_names names (each_name_read parts.0 parts.1)

module _ (names : List (List ℕ)) (left : List ℕ) where
  pub names_on_read : (part rest name : List ℕ) → cut_at 32 left ≡ Some (part, rest) → name_read part ≡ Some name →
      after_names names (names_read left) ≡ after_names (names ++ name ∷ []) (names_read rest)
  names_on_read part rest name is read =
      ap {A = SplitText} (in_parts names) (parts_cut 32 left part rest is)
      ∙ ap (λ o. after_names names (option_and_then (λ n. option_map (λ more. n ∷ more) (names_read rest)) o)) read
      ∙ one (names_read rest)
    where
      one : (o : Option (List (List ℕ))) → after_names names (option_map (λ more. name ∷ more) o) ≡ after_names (names ++ name ∷ []) o
      one None = refl
      one (Some more) = ap (λ l. Some l) (sym (append_assoc names (name ∷ []) more))

  pub names_wrong : (part rest : List ℕ) → cut_at 32 left ≡ Some (part, rest) → name_read part ≡ None → after_names names (names_read left) ≡ None
  names_wrong part rest is read =
      ap {A = SplitText} (in_parts names) (parts_cut 32 left part rest is)
      ∙ ap (λ o. after_names names (option_and_then (λ n. option_map (λ more. n ∷ more) (names_read rest)) o)) read

  pub names_last : (name : List ℕ) → cut_at 32 left ≡ None → name_read left ≡ Some name → after_names names (names_read left) ≡ Some (names ++ name ∷ [])
  names_last name is read =
      ap {A = SplitText} (in_parts names) (parts_open 32 left is)
      ∙ ap (λ o. after_names names (option_map (λ n. n ∷ []) o)) read

  pub names_last_wrong : cut_at 32 left ≡ None → name_read left ≡ None → after_names names (names_read left) ≡ None
  names_last_wrong is read =
      ap {A = SplitText} (in_parts names) (parts_open 32 left is)
      ∙ ap (λ o. after_names names (option_map (λ n. n ∷ []) o)) read

pub nothing_before : (o : Option (List (List ℕ))) → after_names [] o ≡ o
nothing_before None = refl
nothing_before (Some names) = refl

-- ---- printed, and read back

-- a text without the byte `end` has no part that ends with it
parts_whole : (text : List ℕ) → All (λ b. b ≢ 32) text → parts_at 32 text ≡ ([], text)
unfolding parts_at
parts_whole [] free = refl
parts_whole (b ∷ text) free =
    let other = ne_eqb b 32 (free 0 b (omega arith)) in
    let more = parts_whole text (All-tail (λ b. b ≢ 32) b text free) in
    rw (other, more) refl

abbrev more_names : List (List ℕ) → List ℕ
more_names names = flat_map (λ name. 32 ∷ printed_name name) names

names_back : (name : List ℕ) (names : List (List ℕ)) → All IsName (name ∷ names) → names_read (printed_name name ++ more_names names) ≡ Some (name ∷ names)
names_back name [] are =
    let is : IsName name = All-head IsName name [] are in
    ap names_read (append-nil (printed_name name))
    ∙ ap {A = SplitText} (λ p. each_name_read p.0 p.1) (parts_whole (printed_name name) (part_free 32 (printed_name name) (omega arith) (name_part name is.some)))
    ∙ ap (option_map (λ n. n ∷ [])) (name_back name is)
names_back name (other ∷ names) are =
    let is : IsName name = All-head IsName name (other ∷ names) are in
    let rest = printed_name other ++ more_names names in
    ap {A = SplitText} (λ p. each_name_read p.0 p.1) (parts_cut 32 (printed_name name ++ 32 ∷ rest) (printed_name name) rest (part_back (printed_name name) rest (name_part name is.some)))
    ∙ ap (option_and_then (λ n. option_map (λ more. n ∷ more) (names_read rest))) (name_back name is)
    ∙ ap (option_map (λ more. name ∷ more)) (names_back other names (All-tail IsName name (other ∷ names) are))

done_back : (t : ℕ) (names : List (List ℕ)) → t < 2 ^ 32 → 1 ≤ length names → All IsName names → done_read (printed_number t ++ more_names names) ≡ Some (done_at t names)
done_back t [] small some are = absurd (omega arith)
done_back t (name ∷ names) small some are =
    let rest = printed_name name ++ more_names names in
    ap (option_and_then (λ parts. option_and_then (λ m. option_map (done_at m) (names_read parts.1)) (u32_read parts.0))) (number_cut t rest small)
    ∙ ap (option_and_then (λ m. option_map (done_at m) (names_read rest))) (u32_back t small)
    ∙ ap (option_map (done_at t)) (names_back name names are)

came_back : (t p : ℕ) (value : Bool) → t < 2 ^ 32 → p < 52 → came_read (printed_number t ++ 32 ∷ letter_of p ∷ 32 ∷ printed_truth value) ≡ Some (came_at t p value)
came_back t p value small letter =
    let rest = letter_of p ∷ 32 ∷ printed_truth value in
    ap (option_and_then (λ parts. option_and_then (λ m. outcome_read m parts.1) (u32_read parts.0))) (number_cut t rest small)
    ∙ ap (option_and_then (λ m. outcome_read m rest)) (u32_back t small)
    ∙ ap (option_and_then (λ parts. option_and_then (λ q. option_map (came_at t q) (truth_read parts.1)) (prop_read parts.0))) (joined_cut (letter_of p ∷ []) (printed_truth value) (letter_is_part p))
    ∙ ap (option_and_then (λ q. option_map (came_at t q) (truth_read (printed_truth value)))) (letter_back p letter)
    ∙ ap (option_map (came_at t p)) (truth_back value)

awaited_back : (t p : ℕ) → t < 2 ^ 32 → p < 52 → awaited_read (printed_number t ++ 32 ∷ letter_of p ∷ []) ≡ Some (awaited_at t p)
awaited_back t p small letter =
    ap (option_and_then (λ parts. option_and_then (λ m. option_map (awaited_at m) (prop_read parts.1)) (u32_read parts.0))) (number_cut t (letter_of p ∷ []) small)
    ∙ ap (option_and_then (λ m. option_map (awaited_at m) (prop_read (letter_of p ∷ [])))) (u32_back t small)
    ∙ ap (option_map (awaited_at t)) (letter_back p letter)

ready_back : (t : ℕ) (name : List ℕ) → t < 2 ^ 32 → IsName name → ready_read (printed_number t ++ 32 ∷ printed_name name) ≡ Some (ready_at t name)
ready_back t name small is =
    ap (option_and_then (λ parts. option_and_then (λ m. option_map (ready_at m) (name_read parts.1)) (u32_read parts.0))) (number_cut t (printed_name name) small)
    ∙ ap (option_and_then (λ m. option_map (ready_at m) (name_read (printed_name name)))) (u32_back t small)
    ∙ ap (option_map (ready_at t)) (name_back name is)

-- none of the words that stand alone begins a line that has a space
abbrev Stands : List ℕ → Type 0
Stands text = (bytes_eq text (codes "next") ≡ false) × (bytes_eq text (codes "blame") ≡ false) × (bytes_eq text (codes "rest") ≡ false) × (bytes_eq text (codes "check") ≡ false)

abbrev alone : (next blame rest check : Bool) → Option Follow → Option Follow
alone next blame rest check other =
    if next then Some asks_next else if blame then Some asks_blame else if rest then Some asks_rest else if check then Some (edits asked) else other

word_back : (word rest : List ℕ) → Stands (word ++ 32 ∷ rest) → list_all (λ b. not (b == 32)) word ≡ true → follow_read (word ++ 32 ∷ rest) ≡ followed_read (word, rest)
word_back word rest other part =
    let text = word ++ 32 ∷ rest in
    let said = option_and_then followed_read (cut_at_space text) in
    ap (λ t. alone t (bytes_eq text (codes "blame")) (bytes_eq text (codes "rest")) (bytes_eq text (codes "check")) said) other.0
    ∙ ap (λ t. alone false t (bytes_eq text (codes "rest")) (bytes_eq text (codes "check")) said) other.1
    ∙ ap (λ t. alone false false t (bytes_eq text (codes "check")) said) other.2
    ∙ ap (λ t. alone false false false t said) other.3
    ∙ ap (option_and_then followed_read) (joined_cut word rest part)

edit_line_back : (edit : Edit) → IsEdit edit → follow_read (printed_edit edit) ≡ Some (edits edit)
edit_line_back (added from to most label) is =
    word_back (codes "add") (printed_name from ++ 32 ∷ (printed_name to ++ 32 ∷ (printed_value most ++ 32 ∷ printed_label label))) (refl, refl, refl, refl) refl
    ∙ ap (option_map edits) (add_back from to most label is.0 is.1 is.2 is.3)
edit_line_back (removed id) is = word_back (codes "remove") (printed_number id) (refl, refl, refl, refl) refl ∙ ap (λ o. option_map edits (option_map removed o)) (id_back id is)
edit_line_back (changed id most) is =
    word_back (codes "change") (printed_number id ++ 32 ∷ printed_value most) (refl, refl, refl, refl) refl ∙ ap (option_map edits) (change_back id most is.0 is.1)
edit_line_back asked is = refl

pub follow_back : (line : Follow) → IsFollow line → follow_read (printed_follow line) ≡ Some line
follow_back (done_at t []) is = absurd (omega (arith, is.1))
follow_back (done_at t (name ∷ names)) is =
    let rest = printed_number t ++ more_names (name ∷ names) in
    word_back (codes "did") rest (refl, refl, refl, refl) refl ∙ done_back t (name ∷ names) is.0 is.1 is.2
follow_back (came_at t p value) is = word_back (codes "saw") (printed_number t ++ 32 ∷ letter_of p ∷ 32 ∷ printed_truth value) (refl, refl, refl, refl) refl ∙ came_back t p value is.0 is.1
follow_back (now_at t) is = word_back (codes "now") (printed_number t) (refl, refl, refl, refl) refl ∙ ap (option_map now_at) (u32_back t is)
follow_back (awaited_at t p) is = word_back (codes "await") (printed_number t ++ 32 ∷ letter_of p ∷ []) (refl, refl, refl, refl) refl ∙ awaited_back t p is.0 is.1
follow_back (ready_at t name) is = word_back (codes "expect") (printed_number t ++ 32 ∷ printed_name name) (refl, refl, refl, refl) refl ∙ ready_back t name is.0 is.1
follow_back (edits edit) is = edit_line_back edit is
follow_back (ends_by ticks) is =
    word_back (codes "deadline") (printed_number ticks) (refl, refl, refl, refl) refl
    ∙ ap (option_map ends_by) (within_back 0 most_deadline ticks (omega arith) is (omega arith))
follow_back asks_next is = refl
follow_back (asks_by name) is = word_back (codes "by") (printed_name name) (refl, refl, refl, refl) refl ∙ ap (option_map asks_by) (name_back name is)
follow_back asks_blame is = refl
follow_back asks_rest is = refl

-- ---- read, and printed again

-- the text says the line, which is one that a text can say
abbrev IsWritten : Follow → List ℕ → Type 0
IsWritten line text = IsTextOf line text × IsFollow line

same_line : (a b : Follow) (text : List ℕ) → a ≡ b → IsWritten a text → IsWritten b text
same_line a b text e is = subst (λ (line : Follow). IsWritten line text) e is

moment_only : (text : List ℕ) (t : ℕ) → u32_read text ≡ Some t → (printed_number t ≡ text) × (t < 2 ^ 32)
moment_only text t is = let its = within_said 0 4294967295 text t is in (sym its.2, omega (arith, its.1))

-- the names that were read are those that the parts print, joined again
each_name_only : (parts : List (List ℕ)) (tail : List ℕ) (names : List (List ℕ)) → each_name_read parts tail ≡ Some names → (1 ≤ length names) × All IsName names × (more_names names ≡ 32 ∷ joined 32 parts tail)
unfolding joined
each_name_only [] tail names is =
    let name = map_read (name_read tail) (λ n. n ∷ []) names is in
    let its = name_printed tail name.0 name.1 in
    subst (λ (ns : List (List ℕ)). (1 ≤ length ns) × All IsName ns × (more_names ns ≡ 32 ∷ tail)) name.2
    (omega arith, All-cons IsName name.0 [] its.1 (All-nil IsName), ap (λ (bs : List ℕ). 32 ∷ bs) (append-nil (printed_name name.0) ∙ its.0))
each_name_only (part ∷ parts) tail names is =
    let name = then_read (name_read part) (λ n. option_map (λ more. n ∷ more) (each_name_read parts tail)) names is in
    let more = map_read (each_name_read parts tail) (λ more. name.0 ∷ more) names name.2 in
    let its = name_printed part name.0 name.1 in
    let others = each_name_only parts tail more.0 more.1 in
    subst (λ (ns : List (List ℕ)). (1 ≤ length ns) × All IsName ns × (more_names ns ≡ 32 ∷ (part ++ 32 ∷ joined 32 parts tail))) more.2
    (omega arith, All-cons IsName name.0 more.0 its.1 others.1, ap (λ (bs : List ℕ). 32 ∷ bs) (ap (λ (bs : List ℕ). bs ++ more_names more.0) its.0 ∙ ap (λ (bs : List ℕ). part ++ bs) others.2))

names_only : (text : List ℕ) (names : List (List ℕ)) → names_read text ≡ Some names → (1 ≤ length names) × All IsName names × (more_names names ≡ 32 ∷ text)
names_only text names is =
    let its = each_name_only (parts_at 32 text).0 (parts_at 32 text).1 names is in
    (its.0, its.1, its.2 ∙ ap (λ (bs : List ℕ). 32 ∷ bs) (parts_joined 32 text))

-- a text that was cut at a space, of which the first part is a printed moment
moment_then : (text left right : List ℕ) (t : ℕ) → cut_at_space text ≡ Some (left, right) → printed_number t ≡ left → text ≡ printed_number t ++ 32 ∷ right
moment_then text left right t is printed = cut_joined 32 text left right is ∙ ap (λ (bs : List ℕ). bs ++ 32 ∷ right) (sym printed)

done_only : (rest : List ℕ) (line : Follow) → done_read rest ≡ Some line → IsWritten line (codes "did" ++ 32 ∷ rest)
done_only rest line is =
    let parts = then_read (cut_at_space rest) (λ parts. option_and_then (λ t. option_map (done_at t) (names_read parts.1)) (u32_read parts.0)) line is in
    let t = then_read (u32_read parts.0.0) (λ t. option_map (done_at t) (names_read parts.0.1)) line parts.2 in
    let names = map_read (names_read parts.0.1) (done_at t.0) line t.2 in
    let moment = moment_only parts.0.0 t.0 t.1 in
    let its = names_only parts.0.1 names.0 names.1 in
    let whole : rest ≡ printed_number t.0 ++ more_names names.0 = moment_then rest parts.0.0 parts.0.1 t.0 parts.1 moment.0 ∙ ap (λ (bs : List ℕ). printed_number t.0 ++ bs) (sym its.2) in
    same_line (done_at t.0 names.0) line _ names.2 (ap (λ (bs : List ℕ). codes "did" ++ 32 ∷ bs) whole, (moment.1, its.0, its.1))

outcome_only : (t : ℕ) (rest : List ℕ) (line : Follow) → t < 2 ^ 32 → outcome_read t rest ≡ Some line → IsWritten line (codes "saw" ++ 32 ∷ (printed_number t ++ 32 ∷ rest))
outcome_only t rest line small is =
    let parts = then_read (cut_at_space rest) (λ parts. option_and_then (λ p. option_map (came_at t p) (truth_read parts.1)) (prop_read parts.0)) line is in
    let p = then_read (prop_read parts.0.0) (λ p. option_map (came_at t p) (truth_read parts.0.1)) line parts.2 in
    let value = map_read (truth_read parts.0.1) (came_at t p.0) line p.2 in
    let letter = prop_only parts.0.0 p.0 p.1 in
    let whole = spaced rest parts.0.0 parts.0.1 _ _ (cut_joined 32 rest parts.0.0 parts.0.1 parts.1) letter.0 (sym (truth_only parts.0.1 value.0 value.1)) in
    same_line (came_at t p.0 value.0) line _ value.2 (ap (λ (bs : List ℕ). codes "saw" ++ 32 ∷ (printed_number t ++ 32 ∷ bs)) whole, (small, letter.1))

came_only : (rest : List ℕ) (line : Follow) → came_read rest ≡ Some line → IsWritten line (codes "saw" ++ 32 ∷ rest)
came_only rest line is =
    let parts = then_read (cut_at_space rest) (λ parts. option_and_then (λ t. outcome_read t parts.1) (u32_read parts.0)) line is in
    let t = then_read (u32_read parts.0.0) (λ t. outcome_read t parts.0.1) line parts.2 in
    let moment = moment_only parts.0.0 t.0 t.1 in
    subst (λ (bs : List ℕ). IsWritten line (codes "saw" ++ 32 ∷ bs)) (sym (moment_then rest parts.0.0 parts.0.1 t.0 parts.1 moment.0)) (outcome_only t.0 parts.0.1 line moment.1 t.2)

now_only : (rest : List ℕ) (line : Follow) → option_map now_at (u32_read rest) ≡ Some line → IsWritten line (codes "now" ++ 32 ∷ rest)
now_only rest line is =
    let t = map_read (u32_read rest) now_at line is in
    let moment = moment_only rest t.0 t.1 in
    same_line (now_at t.0) line _ t.2 (ap (λ (bs : List ℕ). codes "now" ++ 32 ∷ bs) (sym moment.0), moment.1)

awaited_only : (rest : List ℕ) (line : Follow) → awaited_read rest ≡ Some line → IsWritten line (codes "await" ++ 32 ∷ rest)
awaited_only rest line is =
    let parts = then_read (cut_at_space rest) (λ parts. option_and_then (λ t. option_map (awaited_at t) (prop_read parts.1)) (u32_read parts.0)) line is in
    let t = then_read (u32_read parts.0.0) (λ t. option_map (awaited_at t) (prop_read parts.0.1)) line parts.2 in
    let p = map_read (prop_read parts.0.1) (awaited_at t.0) line t.2 in
    let moment = moment_only parts.0.0 t.0 t.1 in
    let letter = prop_only parts.0.1 p.0 p.1 in
    let whole : rest ≡ printed_number t.0 ++ 32 ∷ letter_of p.0 ∷ [] = moment_then rest parts.0.0 parts.0.1 t.0 parts.1 moment.0 ∙ ap (λ (bs : List ℕ). printed_number t.0 ++ 32 ∷ bs) (sym letter.0) in
    same_line (awaited_at t.0 p.0) line _ p.2 (ap (λ (bs : List ℕ). codes "await" ++ 32 ∷ bs) whole, (moment.1, letter.1))

ready_only : (rest : List ℕ) (line : Follow) → ready_read rest ≡ Some line → IsWritten line (codes "expect" ++ 32 ∷ rest)
ready_only rest line is =
    let parts = then_read (cut_at_space rest) (λ parts. option_and_then (λ t. option_map (ready_at t) (name_read parts.1)) (u32_read parts.0)) line is in
    let t = then_read (u32_read parts.0.0) (λ t. option_map (ready_at t) (name_read parts.0.1)) line parts.2 in
    let name = map_read (name_read parts.0.1) (ready_at t.0) line t.2 in
    let moment = moment_only parts.0.0 t.0 t.1 in
    let its = name_printed parts.0.1 name.0 name.1 in
    let whole : rest ≡ printed_number t.0 ++ 32 ∷ printed_name name.0 = moment_then rest parts.0.0 parts.0.1 t.0 parts.1 moment.0 ∙ ap (λ (bs : List ℕ). printed_number t.0 ++ 32 ∷ bs) (sym its.0) in
    same_line (ready_at t.0 name.0) line _ name.2 (ap (λ (bs : List ℕ). codes "expect" ++ 32 ∷ bs) whole, (moment.1, its.1))

deadline_only : (rest : List ℕ) (line : Follow) → option_map ends_by (number_within 0 most_deadline rest) ≡ Some line → IsWritten line (codes "deadline" ++ 32 ∷ rest)
deadline_only rest line is =
    let ticks = map_read (number_within 0 most_deadline rest) ends_by line is in
    let its = within_said 0 most_deadline rest ticks.0 ticks.1 in
    same_line (ends_by ticks.0) line _ ticks.2 (ap (λ (bs : List ℕ). codes "deadline" ++ 32 ∷ bs) its.2, its.1)

by_only : (rest : List ℕ) (line : Follow) → option_map asks_by (name_read rest) ≡ Some line → IsWritten line (codes "by" ++ 32 ∷ rest)
by_only rest line is =
    let name = map_read (name_read rest) asks_by line is in
    let its = name_printed rest name.0 name.1 in
    same_line (asks_by name.0) line _ name.2 (ap (λ (bs : List ℕ). codes "by" ++ 32 ∷ bs) (sym its.0), its.1)

edit_of_only : (word rest : List ℕ) (line : Follow) → option_map edits (edited_read (word, rest)) ≡ Some line → IsWritten line (word ++ 32 ∷ rest)
edit_of_only word rest line is =
    let edit = map_read (edited_read (word, rest)) edits line is in
    let its = edited_only word rest edit.0 edit.1 in
    same_line (edits edit.0) line _ edit.2 (its.0, its.1)

followed_only : (word rest : List ℕ) (line : Follow) → followed_read (word, rest) ≡ Some line → IsWritten line (word ++ 32 ∷ rest)
followed_only word rest line is =
    at (bytes_eq word (codes "did")) (bytes_eq word (codes "saw")) (bytes_eq word (codes "now")) (bytes_eq word (codes "await")) (bytes_eq word (codes "expect"))
    (bytes_eq word (codes "deadline")) (bytes_eq word (codes "by")) refl refl refl refl refl refl refl is
  where
    spelled : (bytes : List ℕ) → bytes_eq word bytes ≡ true → IsWritten line (bytes ++ 32 ∷ rest) → IsWritten line (word ++ 32 ∷ rest)
    spelled bytes same written = subst (λ (w : List ℕ). IsWritten line (w ++ 32 ∷ rest)) (sym ((bytes_eq-Decides word bytes).0 same)) written

    at : (did saw now await expect deadline by : Bool) → did ≡ bytes_eq word (codes "did") → saw ≡ bytes_eq word (codes "saw") → now ≡ bytes_eq word (codes "now") → await ≡ bytes_eq word (codes "await") → expect ≡ bytes_eq word (codes "expect") → deadline ≡ bytes_eq word (codes "deadline") → by ≡ bytes_eq word (codes "by")
        → (if did then done_read rest else if saw then came_read rest else if now then option_map now_at (u32_read rest) else if await then awaited_read rest
        else if expect then ready_read rest else if deadline then option_map ends_by (number_within 0 most_deadline rest) else if by then option_map asks_by (name_read rest) else option_map edits (edited_read (word, rest))) ≡ Some line
        → IsWritten line (word ++ 32 ∷ rest)
    at true saw now await expect deadline by a b c d e f g said = spelled (codes "did") (sym a) (done_only rest line said)
    at false true now await expect deadline by a b c d e f g said = spelled (codes "saw") (sym b) (came_only rest line said)
    at false false true await expect deadline by a b c d e f g said = spelled (codes "now") (sym c) (now_only rest line said)
    at false false false true expect deadline by a b c d e f g said = spelled (codes "await") (sym d) (awaited_only rest line said)
    at false false false false true deadline by a b c d e f g said = spelled (codes "expect") (sym e) (ready_only rest line said)
    at false false false false false true by a b c d e f g said = spelled (codes "deadline") (sym f) (deadline_only rest line said)
    at false false false false false false true a b c d e f g said = spelled (codes "by") (sym g) (by_only rest line said)
    at false false false false false false false a b c d e f g said = edit_of_only word rest line said

follow_written : (text : List ℕ) (line : Follow) → follow_read text ≡ Some line → IsWritten line text
follow_written text line is =
    at (bytes_eq text (codes "next")) (bytes_eq text (codes "blame")) (bytes_eq text (codes "rest")) (bytes_eq text (codes "check")) refl refl refl refl is
  where
    just : (a b : Follow) → Some a ≡ Some b → a ≡ b
    just a b e = cc

    spelled : (word : List ℕ) → bytes_eq text word ≡ true → text ≡ word
    spelled word same = (bytes_eq-Decides text word).0 same

    at : (next blame rest check : Bool) → next ≡ bytes_eq text (codes "next") → blame ≡ bytes_eq text (codes "blame") → rest ≡ bytes_eq text (codes "rest") → check ≡ bytes_eq text (codes "check")
        → alone next blame rest check (option_and_then followed_read (cut_at_space text)) ≡ Some line → IsWritten line text
    at true blame rest check a b c d said = same_line asks_next line text (just asks_next line said) (spelled (codes "next") (sym a), tt)
    at false true rest check a b c d said = same_line asks_blame line text (just asks_blame line said) (spelled (codes "blame") (sym b), tt)
    at false false true check a b c d said = same_line asks_rest line text (just asks_rest line said) (spelled (codes "rest") (sym c), tt)
    at false false false true a b c d said = same_line (edits asked) line text (just (edits asked) line said) (spelled (codes "check") (sym d), tt)
    at false false false false a b c d said =
        let parts = then_read (cut_at_space text) followed_read line said in
        subst (λ (x : List ℕ). IsWritten line x) (sym (cut_joined 32 text parts.0.0 parts.0.1 parts.1)) (followed_only parts.0.0 parts.0.1 line parts.2)

pub follow_only : (text : List ℕ) (line : Follow) → follow_read text ≡ Some line → IsTextOf line text
follow_only text line is = (follow_written text line is).0

pub follow_is : (text : List ℕ) (line : Follow) → follow_read text ≡ Some line → IsFollow line
follow_is text line is = (follow_written text line is).1
