-- The printed text of a tree is read back as that tree.
use Rattle.std.proofs.Common.{ℕ, ◌≡◌, ◌≢◌, ◌+◌, ◌<◌, ◌≤◌, ◌^◌, List, [], ◌∷◌, ◌++◌, length, arith, refl, sym, subst, ap, ◌∙◌, append_assoc, append-nil}
use Rattle.std.specs.Prelude.{nat_le, if◌then◌else◌, flat_map, slice_index_or, Option, Some, None, codes}
use Rattle.std.specs.List.{All}
use Rattle.std.specs.Option.{option_and_then, option_map}
use Rattle.std.proofs.lemmas.Bool.{ne_eqb}
use Rattle.std.proofs.lemmas.List.Elements.{All-nil, All-cons, All-head, All-append, All-tail}
use Rattle.cstn_label.specs.Letters.{letter_of}
use Rattle.cstn_net.specs.Limits.{most_load}
use Rattle.cstn_text.specs.Names.{AreNames}
use Rattle.cstn_text.specs.Numbers.{number_within, printed_number}
use Rattle.cstn_text.specs.PrintedNames.{printed_name}
use Rattle.cstn_text.proofs.PartLemmas.{number_part}
use Rattle.cstn_text.specs.Parts.{SplitText, parts_at}
use Rattle.cstn_text.specs.Listings.{AreLines}
use Rattle.cstn_text.proofs.SplitLemmas.{parts_cut}
use Rattle.cstn_text.proofs.ReadingLemmas.{word_part, part_free, part_back, within_back, node_back, name_one_part, IsFree, free, space_free, spaced}
use Rattle.cstn_text.proofs.ListingLemmas.{text_back}
use Rattle.cstn_outline.specs.Trees.{Tree, TreeLine, lines_of_tree}
use Rattle.cstn_outline.specs.Trees.Tree.{at, ask, done}
use Rattle.cstn_outline.specs.Trees.TreeLine.{AtLine, AskLine, DoneLine}
use Rattle.cstn_outline.specs.Texts.{printed_line, printed_lines, tree_shown, put_first, nodes_read, tree_names_read, at_read, tree_word_read, tree_line_read, ahead_after, ahead_next, ahead_along, ahead_of, next_read, is_tree_over, tree_lines, tells, without_load, tree_told}
use Rattle.cstn_outline.specs.Written.{NamesSome, depth, TreeFitsText, IsPrintableLine, IsTreeWritten}
use Rattle.cstn_outline.specs.Read.{the_tree}
use Rattle.cstn_outline.proofs.ReadLemmas.{along_more}
use Rattle.cstn_label.proofs.LetterLemmas.{letter_back, letter_above}

-- ---- parts

-- a text without the byte `end` has no part that ends with it
parts_whole : (end : ℕ) (text : List ℕ) → All (λ b. b ≢ end) text → parts_at end text ≡ ([], text)
unfolding parts_at
parts_whole end [] free = refl
parts_whole end (b ∷ text) free =
    let other = ne_eqb b end (free 0 b (omega arith)) in
    let more = parts_whole end text (All-tail (λ b. b ≢ end) b text free) in
    rw (other, more) refl

module _ (names : List (List ℕ)) (are : AreNames names) where
  -- ---- names

  abbrev shown_name : ℕ → List ℕ
  shown_name x = printed_name (slice_index_or names x [])

  abbrev Inside : ℕ → Type 0
  Inside x = x < length names

  abbrev more_names : List ℕ → List ℕ
  more_names xs = flat_map (λ x. 32 ∷ shown_name x) xs

  names_back : (x : ℕ) (xs : List ℕ) → All Inside (x ∷ xs) → tree_names_read names (shown_name x ++ more_names xs) ≡ Some (x ∷ xs)
  names_back x [] inside =
      let here = inside 0 x (omega arith) in
      ap (tree_names_read names) (append-nil (shown_name x))
      ∙ ap {A = SplitText} (λ p. nodes_read names p.0 p.1) (parts_whole 32 (shown_name x) (part_free 32 (shown_name x) (omega arith) (name_one_part names x are here)))
      ∙ ap (option_map (λ y. y ∷ [])) (node_back names x are here)
  names_back x (y ∷ ys) inside =
      let here = inside 0 x (omega arith) in
      let rest = shown_name y ++ more_names ys in
      ap {A = SplitText} (λ p. nodes_read names p.0 p.1) (parts_cut 32 (shown_name x ++ 32 ∷ rest) (shown_name x) rest (part_back (shown_name x) rest (name_one_part names x are here)))
      ∙ ap (option_and_then (λ z. put_first z (tree_names_read names rest))) (node_back names x are here)
      ∙ ap (put_first x) (names_back y ys (All-tail Inside x (y ∷ ys) inside))

  -- ---- lines

  at_back : (t : ℕ) (xs : List ℕ) → t < 2 ^ 32 → 1 ≤ length xs → All Inside xs → at_read names (printed_number t ++ more_names xs) ≡ Some (AtLine t xs)
  at_back t [] soon some inside = absurd (omega arith)
  at_back t (x ∷ xs) soon some inside =
      let rest = shown_name x ++ more_names xs in
      ap (λ (o : Option (List ℕ × List ℕ)). option_and_then (λ found. option_and_then (λ m. option_map (AtLine m) (tree_names_read names found.1)) (number_within 0 4294967295 found.0)) o)
      (part_back (printed_number t) rest (number_part t (omega arith)))
      ∙ ap (option_and_then (λ m. option_map (AtLine m) (tree_names_read names rest))) (within_back 0 4294967295 t (omega arith) (omega arith) (omega arith))
      ∙ ap (option_map (AtLine t)) (names_back x xs inside)

  abbrev by_word : Option (List ℕ × List ℕ) → Option TreeLine
  by_word o = option_and_then (λ found. tree_word_read names found.0 found.1) o

  line_back : (l : TreeLine) → NamesSome l → IsPrintableLine names l → tree_line_read names (printed_line names l) ≡ Some l
  line_back (AtLine t xs) some is =
      ap by_word (part_back (codes "at") (printed_number t ++ more_names xs) (word_part (codes "at") (omega arith) refl)) ∙ at_back t xs is.0 some is.1
  line_back (AskLine p) some is =
      ap by_word (part_back (codes "ask") (letter_of p ∷ []) (word_part (codes "ask") (omega arith) refl)) ∙ ap (option_map AskLine) (letter_back p is)
  line_back DoneLine some is = refl

  names_free : (xs : List ℕ) → All Inside xs → IsFree (more_names xs)
  names_free [] inside = All-nil (λ b. b ≢ 10)
  names_free (x ∷ xs) inside =
      All-append (λ b. b ≢ 10) (32 ∷ shown_name x) (more_names xs) (space_free (shown_name x) (free (shown_name x) (name_one_part names x are (inside 0 x (omega arith)))))
      (names_free xs (All-tail Inside x xs inside))

  line_free : (l : TreeLine) → IsPrintableLine names l → IsFree (printed_line names l)
  line_free (AtLine t xs) is =
      let soon = is.0 in
      All-append (λ b. b ≢ 10) (codes "at " ++ printed_number t) (more_names xs)
      (spaced (codes "at") (printed_number t) (free (codes "at") (word_part (codes "at") (omega arith) refl)) (free (printed_number t) (number_part t (omega arith))))
      (names_free xs is.1)
  line_free (AskLine p) is =
      spaced (codes "ask") (letter_of p ∷ []) (free (codes "ask") (word_part (codes "ask") (omega arith) refl))
      (All-cons (λ b. b ≢ 10) (letter_of p) [] (λ e. let high = letter_above p in omega arith) (All-nil (λ b. b ≢ 10)))
  line_free DoneLine is = free (codes "done") (word_part (codes "done") (omega arith) refl)

  -- ---- trees

  -- where the trees of `ahead` are to come, the lines are theirs, with no line below the 2,100th of its branch
  abbrev AreFit : List ℕ → List TreeLine → Type 0
  AreFit [] [] = Unit {0}
  AreFit [] (l ∷ ls) = ⊥
  AreFit (d ∷ ahead) [] = ⊥
  AreFit (d ∷ ahead) (l ∷ ls) = (d ≤ 2100) × AreFit (ahead_after d ahead l) ls

  tree_fits : (tree : Tree) (d : ℕ) (ahead : List ℕ) (ls : List TreeLine) → d + depth tree ≤ 2101 → AreFit ahead ls → AreFit (d ∷ ahead) (lines_of_tree tree ++ ls)
  tree_fits (at t xs next) d ahead ls upto fit = (omega arith, tree_fits next (d + 1) ahead ls (omega arith) fit)
  tree_fits (ask p one other) d ahead ls upto fit = (
    omega arith,
    subst (AreFit ((d + 1) ∷ ((d + 1) ∷ ahead))) (sym (append_assoc (lines_of_tree one) (lines_of_tree other) ls))
        (tree_fits one (d + 1) ((d + 1) ∷ ahead) (lines_of_tree other ++ ls) (omega arith) (tree_fits other (d + 1) ahead ls (omega arith) fit)),
  )
  tree_fits done d ahead ls upto fit = (omega arith, fit)

  along_over : (ahead : List ℕ) (ls : List TreeLine) → AreFit ahead ls → ahead_along ahead ls ≡ []
  along_over [] [] fit = refl
  along_over [] (l ∷ ls) fit = absurd fit
  along_over (d ∷ ahead) [] fit = absurd fit
  along_over (d ∷ ahead) (l ∷ ls) fit = along_over (ahead_after d ahead l) ls fit.1

  within : (d : ℕ) (o : Option TreeLine) → d ≤ 2100 → (if nat_le d 2100 then o else None) ≡ o
  within d o upto = grind arith

  lines_read : (ahead : List ℕ) (before ls : List TreeLine) → ahead_of before ≡ ahead → AreFit ahead ls → All NamesSome ls → All (IsPrintableLine names) ls →
      AreLines (tree_lines names) before ls (printed_lines names ls)
  lines_read ahead before [] is fit some each = refl
  lines_read [] before (l ∷ ls) is fit some each = absurd fit
  lines_read (d ∷ ahead) before (l ∷ ls) is fit some each =
      let line = printed_line names l in
      let here = All-head (IsPrintableLine names) l ls each in (
        line,
        printed_lines names ls,
        ap (λ a. next_read names a line) is ∙ within d (tree_line_read names line) fit.0 ∙ line_back l (All-head NamesSome l ls some) here,
        line_free l here,
        append_assoc line (10 ∷ []) (printed_lines names ls),
        lines_read (ahead_after d ahead l) (before ++ l ∷ []) ls (along_more (1 ∷ []) before l ∙ ap (λ a. ahead_next a l) is) fit.1
            (All-tail NamesSome l ls some) (All-tail (IsPrintableLine names) l ls each),
      )

-- the printed text of a load and a tree says the lines of the tree
pub shown_back : (names : List (List ℕ)) (load : ℕ) (tree : Tree) → AreNames names → IsTreeWritten names load tree →
    tree_told names (tree_shown names load (lines_of_tree tree)) ≡ tells (lines_of_tree tree)
shown_back names load tree are is =
    let short = is.fits.short in
    let fit = subst (AreFit names are (1 ∷ [])) (append-nil (lines_of_tree tree)) (tree_fits names are tree 1 [] [] (omega arith) tt) in
    ap without_load (text_back (tree_lines names) (word_part (codes "yes") (omega arith) refl) (omega arith) (tree_shown names load (lines_of_tree tree)) load (lines_of_tree tree) (record {
      low = is.load_low;
      high = is.load_high;
      ends = ap is_tree_over (along_over names are (1 ∷ []) (lines_of_tree tree) fit);
      lines = printed_lines names (lines_of_tree tree);
      text = refl;
      each = lines_read names are (1 ∷ []) [] (lines_of_tree tree) refl fit is.fits.named is.each;
    }))

-- the printed text of a load and lines says these lines, where they are the lines of a tree
pub said_back : (names : List (List ℕ)) (load : ℕ) (lines : List TreeLine) (text : List ℕ) → AreNames names → 1 ≤ load → load ≤ most_load →
    lines ≡ lines_of_tree (the_tree lines) → TreeFitsText (the_tree lines) → All (IsPrintableLine names) lines → text ≡ tree_shown names load lines → tree_told names text ≡ tells lines
said_back names load lines text are low high whole fits each e =
    ap (tree_told names) (e ∙ ap (tree_shown names load) whole)
    ∙ shown_back names load (the_tree lines) are (record { load_low = low; load_high = high; fits = fits; each = subst (All (IsPrintableLine names)) whole each })
    ∙ ap tells (sym whole)
