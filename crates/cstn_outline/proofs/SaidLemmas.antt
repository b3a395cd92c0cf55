-- A text that says a tree is the printed one.
use Rattle.std.proofs.Common.{ℕ, ◌≡◌, ◌+◌, ◌<◌, ◌≤◌, Bool, true, false, List, [], ◌∷◌, ◌++◌, length, arith, refl, sym, ap, ◌∙◌, subst, append_assoc, append-nil}
use Rattle.std.specs.Prelude.{nat_le, if◌then◌else◌, bytes_eq, flat_map, slice_index_or, Option, Some, None, codes}
use Rattle.std.specs.List.{All}
use Rattle.std.specs.Option.{option_and_then, option_map}
use Rattle.std.proofs.lemmas.Option.{same_Some}
use Rattle.std.proofs.lemmas.List.Elements.{All-nil, All-cons}
use Rattle.std.proofs.lemmas.Slice.Eq.{bytes_eq-Decides}
use Rattle.cstn_facts.proofs.Options.{then_read, map_read, if_read}
use Rattle.cstn_label.specs.Letters.{letter_of, prop_of}
use Rattle.cstn_net.specs.Limits.{most_load}
use Rattle.cstn_text.specs.Names.{AreNames}
use Rattle.cstn_text.specs.Numbers.{number_within, printed_number}
use Rattle.cstn_text.specs.PrintedNames.{printed_name}
use Rattle.cstn_text.specs.Parts.{parts_at, joined, part, node_read}
use Rattle.cstn_text.specs.Listings.{Told as Listing, tells as tells_with, wrong as wrong_line, told as told_by, AreLines}
use Rattle.cstn_text.proofs.SplitLemmas.{parts_joined}
use Rattle.cstn_text.proofs.ReadingLemmas.{within_said, part_said, node_said}
use Rattle.cstn_text.proofs.ListingLemmas.{text_said as listing_said}
pub use Rattle.cstn_text.proofs.ListingLemmas.{told_first, first_wrong, told_last}
use Rattle.cstn_outline.specs.Trees.{Tree, TreeLine, lines_of_tree}
use Rattle.cstn_outline.specs.Trees.Tree.{at, ask, done}
use Rattle.cstn_outline.specs.Trees.TreeLine.{AtLine, AskLine, DoneLine}
use Rattle.cstn_outline.specs.Texts.{printed_line, printed_lines, tree_shown, put_first, nodes_read, tree_names_read, at_read, ask_read, tree_word_read, tree_line_read, ahead_after, ahead_next, ahead_of, next_read, is_tree_over, tree_lines, tells, without_load, tree_told}
use Rattle.cstn_outline.specs.Whole.{all_lines}
use Rattle.cstn_outline.specs.Written.{NamesSome, depth, TreeFitsText, IsPrintableLine, IsTextOfTree}
use Rattle.cstn_outline.specs.Read.{the_tree}
use Rattle.cstn_outline.proofs.TreeLemmas.{tree_back}
use Rattle.cstn_outline.proofs.ReadLemmas.{along_more}
use Rattle.cstn_outline.proofs.BackLemmas.{shown_back}

letter_said : (b p : ℕ) → prop_of b ≡ Some p → (p < 52) × (b ≡ letter_of p)
letter_said b p e = (low b p e, same b p e)
  where
    low : (b p : ℕ) → prop_of b ≡ Some p → p < 52
    low b p e = grind arith

    same : (b p : ℕ) → prop_of b ≡ Some p → b ≡ letter_of p
    same b p e = grind arith

module _ (names : List (List ℕ)) where
  -- ---- names

  abbrev shown_name : ℕ → List ℕ
  shown_name x = printed_name (slice_index_or names x [])

  abbrev Inside : ℕ → Type 0
  Inside x = x < length names

  abbrev more_names : List ℕ → List ℕ
  more_names xs = flat_map (λ x. 32 ∷ shown_name x) xs

  record AreNamesSaid (bytes : List ℕ) (xs : List ℕ) : Type 0 where
    some : 1 ≤ length xs
    inside : All Inside xs
    text : 32 ∷ bytes ≡ more_names xs

  nodes_said : (parts : List (List ℕ)) (tail : List ℕ) (xs : List ℕ) → nodes_read names parts tail ≡ Some xs → AreNamesSaid (joined 32 parts tail) xs
  unfolding joined
  nodes_said [] tail xs e =
      let x = map_read (node_read names tail) (λ x. x ∷ []) xs e in
      let node = node_said names tail x.0 x.1 in
      subst (AreNamesSaid tail) x.2 (record {
        some = omega arith;
        inside = All-cons Inside x.0 [] node.0 (All-nil Inside);
        text = ap (λ (t : List ℕ). 32 ∷ t) node.1 ∙ sym (append-nil (32 ∷ shown_name x.0));
      })
  nodes_said (part ∷ parts) tail xs e =
      let x = then_read (node_read names part) (λ x. put_first x (nodes_read names parts tail)) xs e in
      let others = map_read (nodes_read names parts tail) (λ ys. x.0 ∷ ys) xs x.2 in
      let node = node_said names part x.0 x.1 in
      let below = nodes_said parts tail others.0 others.1 in
      subst (AreNamesSaid (part ++ 32 ∷ joined 32 parts tail)) others.2 (record {
        some = omega arith;
        inside = All-cons Inside x.0 others.0 node.0 below.inside;
        text = ap (λ (t : List ℕ). 32 ∷ (t ++ 32 ∷ joined 32 parts tail)) node.1 ∙ ap (λ (t : List ℕ). 32 ∷ (shown_name x.0 ++ t)) below.text;
      })

  names_said : (text : List ℕ) (xs : List ℕ) → tree_names_read names text ≡ Some xs → AreNamesSaid text xs
  names_said text xs e = subst (λ (t : List ℕ). AreNamesSaid t xs) (parts_joined 32 text) (nodes_said (parts_at 32 text).0 (parts_at 32 text).1 xs e)

  -- ---- lines

  -- the text is the printed one of a line that can be written
  record IsLine (bytes : List ℕ) (l : TreeLine) : Type 0 where
    named : NamesSome l
    written : IsPrintableLine names l
    text : bytes ≡ printed_line names l

  at_said : (rest : List ℕ) (l : TreeLine) → at_read names rest ≡ Some l → IsLine (codes "at" ++ 32 ∷ rest) l
  at_said rest l e =
      let cut = then_read (part rest) (λ found. option_and_then (λ t. option_map (AtLine t) (tree_names_read names found.1)) (number_within 0 4294967295 found.0)) l e in
      let t = then_read (number_within 0 4294967295 cut.0.0) (λ t. option_map (AtLine t) (tree_names_read names cut.0.1)) l cut.2 in
      let xs = map_read (tree_names_read names cut.0.1) (AtLine t.0) l t.2 in
      let moment = within_said 0 4294967295 cut.0.0 t.0 t.1 in
      let named = names_said cut.0.1 xs.0 xs.1 in
      let high = moment.1 in
      subst (IsLine (codes "at" ++ 32 ∷ rest)) xs.2 (record {
        named = named.some;
        written = (omega arith, named.inside);
        text = ap (λ (r : List ℕ). codes "at " ++ r) (part_said rest cut.0 cut.1 ∙ ap (λ (n : List ℕ). n ++ 32 ∷ cut.0.1) moment.2 ∙ ap (λ (r : List ℕ). printed_number t.0 ++ r) named.text);
      })

  ask_said : (rest : List ℕ) (l : TreeLine) → ask_read rest ≡ Some l → IsLine (codes "ask" ++ 32 ∷ rest) l
  ask_said [] l e = absurd (cc)
  ask_said (b ∷ (other ∷ bytes)) l e = absurd (cc)
  ask_said (b ∷ []) l e =
      let p = map_read (prop_of b) AskLine l e in
      let letter = letter_said b p.0 p.1 in
      subst (IsLine (codes "ask" ++ 32 ∷ b ∷ [])) p.2 (record {
        named = tt;
        written = letter.0;
        text = ap (λ n. codes "ask " ++ n ∷ []) letter.1;
      })

  word_said : (word rest : List ℕ) (l : TreeLine) → tree_word_read names word rest ≡ Some l → IsLine (word ++ 32 ∷ rest) l
  word_said word rest l e = by_at (bytes_eq word (codes "at")) refl e
    where
      by_ask : (b : Bool) → bytes_eq word (codes "ask") ≡ b → (if b then ask_read rest else None) ≡ Some l → IsLine (word ++ 32 ∷ rest) l
      by_ask true is e = subst (λ (w : List ℕ). IsLine (w ++ 32 ∷ rest) l) (sym ((bytes_eq-Decides word (codes "ask")).0 is)) (ask_said rest l e)
      by_ask false is e = absurd (cc)

      by_at : (b : Bool) → bytes_eq word (codes "at") ≡ b → (if b then at_read names rest else if bytes_eq word (codes "ask") then ask_read rest else None) ≡ Some l → IsLine (word ++ 32 ∷ rest) l
      by_at true is e = subst (λ (w : List ℕ). IsLine (w ++ 32 ∷ rest) l) (sym ((bytes_eq-Decides word (codes "at")).0 is)) (at_said rest l e)
      by_at false is e = by_ask (bytes_eq word (codes "ask")) refl e

  line_said : (text : List ℕ) (l : TreeLine) → tree_line_read names text ≡ Some l → IsLine text l
  line_said text l e = by_done (bytes_eq text (codes "done")) refl e
    where
      by_done : (b : Bool) → bytes_eq text (codes "done") ≡ b →
          (if b then Some DoneLine else option_and_then (λ found. tree_word_read names found.0 found.1) (part text)) ≡ Some l → IsLine text l
      by_done true is e = subst (IsLine text) (same_Some _ l e) (record { named = tt; written = tt; text = (bytes_eq-Decides text (codes "done")).0 is })
      by_done false is e =
          let cut = then_read (part text) (λ found. tree_word_read names found.0 found.1) l e in
          subst (λ (t : List ℕ). IsLine t l) (sym (part_said text cut.0 cut.1)) (word_said cut.0.0 cut.0.1 l cut.2)

  -- ---- trees

  -- there is a tree for each depth, with no branch of more than 2,100 lines from the first line of the text on
  abbrev AreWithin : List ℕ → List Tree → Type 0
  AreWithin [] [] = Unit {0}
  AreWithin [] (tree ∷ trees) = ⊥
  AreWithin (d ∷ ahead) [] = ⊥
  AreWithin (d ∷ ahead) (tree ∷ trees) = (d + depth tree ≤ 2101) × AreWithin ahead trees

  -- the text is that of the lines, which are those of trees within these depths
  record AreTrees (ahead : List ℕ) (lines : List TreeLine) (bytes : List ℕ) : Type 0 where
    trees : List Tree
    within : AreWithin ahead trees
    whole : lines ≡ all_lines trees
    named : All NamesSome (all_lines trees)
    each : All (IsPrintableLine names) (all_lines trees)
    text : bytes ≡ printed_lines names (all_lines trees)

  module _ (d : ℕ) (ahead : List ℕ) (l : TreeLine) (lines : List TreeLine) (line rest : List ℕ) where
    -- the trees that begin with a line, and go on with the lines of other trees
    begun_trees : IsLine line l → (trees : List Tree) → AreWithin (d ∷ ahead) trees → (below : List Tree) → all_lines trees ≡ l ∷ all_lines below →
        lines ≡ all_lines below → All NamesSome (all_lines below) → All (IsPrintableLine names) (all_lines below) → rest ≡ printed_lines names (all_lines below) →
        AreTrees (d ∷ ahead) (l ∷ lines) (line ++ 10 ∷ rest)
    begun_trees is trees within below same whole named each text = record {
      trees = trees;
      within = within;
      whole = ap (λ ls. l ∷ ls) whole ∙ sym same;
      named = subst (All NamesSome) (sym same) (All-cons NamesSome l (all_lines below) is.named named);
      each = subst (All (IsPrintableLine names)) (sym same) (All-cons (IsPrintableLine names) l (all_lines below) is.written each);
      text = ap (λ (t : List ℕ). t ++ 10 ∷ rest) is.text
          ∙ ap (λ (t : List ℕ). printed_line names l ++ 10 ∷ t) text
          ∙ sym (append_assoc (printed_line names l) (10 ∷ []) (printed_lines names (all_lines below)))
          ∙ ap (printed_lines names) (sym same);
    }

  -- a line and the trees that it asks for are the trees that begin with it
  line_trees : (d : ℕ) (ahead : List ℕ) (l : TreeLine) (lines : List TreeLine) (line rest : List ℕ) → d ≤ 2100 → IsLine line l →
      AreTrees (ahead_after d ahead l) lines rest → AreTrees (d ∷ ahead) (l ∷ lines) (line ++ 10 ∷ rest)
  line_trees d ahead l lines line rest upto is after = go l is after.trees after.within after.whole after.named after.each after.text
    where
      go : (l : TreeLine) → IsLine line l → (trees : List Tree) → AreWithin (ahead_after d ahead l) trees → lines ≡ all_lines trees → All NamesSome (all_lines trees) →
          All (IsPrintableLine names) (all_lines trees) → rest ≡ printed_lines names (all_lines trees) → AreTrees (d ∷ ahead) (l ∷ lines) (line ++ 10 ∷ rest)
      go (AtLine t xs) is [] within whole named each text = absurd within
      go (AtLine t xs) is (next ∷ trees) within whole named each text =
          let deep = within.0 in
          begun_trees d ahead (AtLine t xs) lines line rest is (at t xs next ∷ trees) (omega arith, within.1) (next ∷ trees) refl whole named each text
      go (AskLine p) is [] within whole named each text = absurd within
      go (AskLine p) is (one ∷ []) within whole named each text = absurd within.1
      go (AskLine p) is (one ∷ (other ∷ trees)) within whole named each text =
          let deep = within.0 in
          let also = within.1.0 in
          begun_trees d ahead (AskLine p) lines line rest is (ask p one other ∷ trees) (omega arith, within.1.1) (one ∷ (other ∷ trees))
          (ap (λ ls. AskLine p ∷ ls) (append_assoc (lines_of_tree one) (lines_of_tree other) (all_lines trees))) whole named each text
      go DoneLine is trees within whole named each text =
          begun_trees d ahead DoneLine lines line rest is (done ∷ trees) (omega arith, within) trees refl whole named each text

  within_depth : (d : ℕ) (o : Option TreeLine) (l : TreeLine) → (if nat_le d 2100 then o else None) ≡ Some l → (d ≤ 2100) × (o ≡ Some l)
  within_depth d o l e = let both = if_read (nat_le d 2100) o l e in (upto both.0, both.1)
    where
      upto : nat_le d 2100 ≡ true → d ≤ 2100
      upto e = grind arith

  -- lines that are read until no tree is to come are those of trees
  lines_said : (ahead : List ℕ) (before lines : List TreeLine) (bytes : List ℕ) → ahead_of before ≡ ahead → ahead_of (before ++ lines) ≡ [] →
      AreLines (tree_lines names) before lines bytes → AreTrees ahead lines bytes
  lines_said [] before [] bytes is over are =
      record { trees = []; within = tt; whole = refl; named = All-nil NamesSome; each = All-nil (IsPrintableLine names); text = are }
  lines_said (d ∷ ahead) before [] bytes is over are =
      let same : d ∷ ahead ≡ [] = sym is ∙ ap ahead_of (sym (append-nil before)) ∙ over in
      let f : ⊥ = cc in
      absurd f
  lines_said [] before (l ∷ lines) bytes is over (line, rest, read, free, whole, are) =
      let none : None ≡ Some l = sym (ap (λ a. next_read names a line) is) ∙ read in
      let f : ⊥ = cc in
      absurd f
  lines_said (d ∷ ahead) before (l ∷ lines) bytes is over (line, rest, read, free, whole, are) =
      let here = within_depth d (tree_line_read names line) l (sym (ap (λ a. next_read names a line) is) ∙ read) in
      let next = along_more (1 ∷ []) before l ∙ ap (λ a. ahead_next a l) is in
      subst (AreTrees (d ∷ ahead) (l ∷ lines)) (sym whole)
      (line_trees d ahead l lines line rest here.0 (line_said line l here.1)
      (lines_said (ahead_after d ahead l) (before ++ l ∷ []) lines rest next (ap ahead_of (append_assoc before (l ∷ []) lines) ∙ over) are))

  -- the trees after the first line are one tree
  one_tree : (load : ℕ) (lines : List TreeLine) (bytes text : List ℕ) → 1 ≤ load → load ≤ most_load → bytes ≡ codes "yes " ++ printed_number load ++ 10 ∷ text →
      AreTrees (1 ∷ []) lines text → IsTextOfTree names lines bytes
  one_tree load lines bytes text low high first are = go are.trees are.within are.whole are.named are.each are.text
    where
      go : (trees : List Tree) → AreWithin (1 ∷ []) trees → lines ≡ all_lines trees → All NamesSome (all_lines trees) → All (IsPrintableLine names) (all_lines trees) →
          text ≡ printed_lines names (all_lines trees) → IsTextOfTree names lines bytes
      go [] within whole named each is = absurd within
      go (tree ∷ (other ∷ trees)) within whole named each is = absurd within.1
      go (tree ∷ []) within whole named each is =
          let one = append-nil (lines_of_tree tree) in
          let deep = within.0 in
          record {
            load = load;
            tree = tree;
            whole = whole ∙ one;
            written = record {
              load_low = low;
              load_high = high;
              fits = record { named = subst (All NamesSome) one named; short = omega arith };
              each = subst (All (IsPrintableLine names)) one each;
            };
            text = first ∙ ap (λ (t : List ℕ). (codes "yes " ++ printed_number load) ++ 10 ∷ t) (is ∙ ap (printed_lines names) (sym whole));
          }

-- what says lines says some load and these lines
loaded : (t : Listing TreeLine) (lines : List TreeLine) → without_load t ≡ tells lines → (load : ℕ) × (t ≡ tells_with load lines)
loaded (tells_with load ls) lines e = let same : ls ≡ lines = cc in (load, ap (tells_with load) same)
loaded (wrong_line line) lines e = let f : ⊥ = cc in absurd f

over_nil : (ahead : List ℕ) → is_tree_over ahead ≡ true → ahead ≡ []
over_nil [] e = refl
over_nil (d ∷ ahead) e = absurd (cc)

-- a text that says the lines of a tree is the one that is printed of a load and that tree
pub text_said : (names : List (List ℕ)) (bytes : List ℕ) (lines : List TreeLine) → tree_told names bytes ≡ tells lines → IsTextOfTree names lines bytes
text_said names bytes lines e =
    let says = loaded (told_by (tree_lines names) bytes) lines e in
    let is = listing_said (tree_lines names) bytes says.0 lines says.1 in
    one_tree names says.0 lines bytes is.lines is.low is.high is.text
    (lines_said names (1 ∷ []) [] lines is.lines refl (over_nil (ahead_of lines) is.ends) is.each)

pub text_says : (names : List (List ℕ)) (bytes : List ℕ) (lines : List TreeLine) → AreNames names → IsTextOfTree names lines bytes → tree_told names bytes ≡ tells lines
text_says names bytes lines are is =
    ap (tree_told names) (is.text ∙ ap (tree_shown names is.load) is.whole) ∙ shown_back names is.load is.tree are is.written ∙ ap tells (sym is.whole)

-- a tree that a text says fits the text
pub text_fits : (names : List (List ℕ)) (bytes : List ℕ) (lines : List TreeLine) → tree_told names bytes ≡ tells lines → TreeFitsText (the_tree lines)
text_fits names bytes lines e =
    let is = text_said names bytes lines e in
    subst TreeFitsText (sym (ap the_tree is.whole ∙ tree_back is.tree)) is.written.fits
