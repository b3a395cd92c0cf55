-- Texts of trees, line by line.
use Rattle.std.proofs.Common.{ℕ, ◌≡◌, ◌+◌, ◌<◌, List, [], ◌∷◌, ◌++◌, length, map, arith, refl, sym, subst, ap, ◌∙◌}
use Rattle.std.specs.Prelude.{None, Some, reverse, if◌then◌else◌}
use Rattle.std.specs.List.{All}
use Rattle.std.proofs.lemmas.List.{map-append, length-map, reverse-append}
use Rattle.std.proofs.lemmas.List.Elements.{All-push}
use Rattle.cstn_text.specs.Cuts.{cut_at}
use Rattle.cstn_text.specs.Parts.{SplitText, parts_at}
use Rattle.cstn_text.specs.Listings.{Told as Listing, tells as tells_with, wrong as wrong_line, at_end, or_wrong, told_after}
use Rattle.cstn_text.proofs.SplitLemmas.{parts_cut}
use Rattle.cstn_outline.specs.declared.trees.Line.{Line as ProgramLine}
use Rattle.cstn_outline.specs.declared.reading.Reader.{Reader}
use Rattle.cstn_outline.specs.Trees.{TreeLine, names_on}
use Rattle.cstn_outline.specs.Read.{the_tree_line}
use Rattle.cstn_outline.specs.Whole.{IsBegun}
use Rattle.cstn_outline.specs.Reading.{the_ahead, the_lines, IsReader}
use Rattle.cstn_outline.specs.Texts.{tells, wrong, line_within, ahead_after, ahead_next, ahead_along, ahead_of, next_read, is_tree_over, is_whole, tree_lines, without_load}
use Rattle.cstn_outline.proofs.TreeLemmas.{begun_first, begun_next}

-- ---- what a reader keeps

pub along_more : (ahead : List ℕ) (lines : List TreeLine) (l : TreeLine) → ahead_along ahead (lines ++ l ∷ []) ≡ ahead_next (ahead_along ahead lines) l
along_more ahead [] l = refl
along_more ahead (x ∷ lines) l = along_more (ahead_next ahead x) lines l

pub reader_first : (n : ℕ) (r : Reader) → r.lines.items ≡ [] → r.ahead.items ≡ 1 ∷ [] → IsReader n r
reader_first n r none one =
    let lines : the_lines r ≡ [] = ap (map the_tree_line) none in
    let ahead : the_ahead r ≡ 1 ∷ [] = ap reverse one in
    record {
      ahead = ahead ∙ ap ahead_of (sym lines);
      begun = subst (λ ls. IsBegun ls (length (the_ahead r))) (sym lines) (subst (λ (a : List ℕ). IsBegun [] (length a)) (sym ahead) begun_first);
      named = subst (λ ls. All (λ l. All (λ x. x < n) (names_on l)) ls) (sym lines) (λ k d inside. absurd (omega arith));
    }

pub popped : (old rest : List ℕ) (depth : ℕ) → old ≡ rest ++ depth ∷ [] → reverse old ≡ depth ∷ reverse rest
popped old rest depth e = ap reverse e ∙ reverse-append rest (depth ∷ [])

pub reader_next : (n : ℕ) (old new : Reader) (depth : ℕ) (ahead : List ℕ) (l : ProgramLine) → the_ahead old ≡ depth ∷ ahead → IsReader n old →
    the_ahead new ≡ ahead_after depth ahead (the_tree_line l) → new.lines.items ≡ old.lines.items ++ l ∷ [] → All (λ x. x < n) (names_on (the_tree_line l)) →
    IsReader n new
reader_next n old new depth ahead l first is next items names =
    let lines : the_lines new ≡ the_lines old ++ the_tree_line l ∷ [] = ap (map the_tree_line) items ∙ map-append the_tree_line old.lines.items (l ∷ []) in
    record {
      ahead = next ∙ sym (ap ahead_of lines ∙ along_more (1 ∷ []) (the_lines old) (the_tree_line l) ∙ ap (λ a. ahead_next a (the_tree_line l)) (sym is.ahead ∙ first));
      begun = subst (λ ls. IsBegun ls (length (the_ahead new))) (sym lines) (subst (λ (a : List ℕ). IsBegun (the_lines old ++ the_tree_line l ∷ []) (length a)) (sym next)
          (begun_next (the_lines old) depth ahead (the_tree_line l) (subst (λ (a : List ℕ). IsBegun (the_lines old) (length a)) first is.begun)));
      named = subst (λ ls. All (λ l. All (λ x. x < n) (names_on l)) ls) (sym lines)
          (All-push (λ l. All (λ x. x < n) (names_on l)) (the_lines old) (the_tree_line l) is.named names);
    }

-- ---- what the lines say

module _ (names : List (List ℕ)) (r : Reader) (known : the_ahead r ≡ ahead_of (the_lines r)) (load : ℕ) (text : List ℕ) (texts : List (List ℕ)) (tail : List ℕ) where
  -- what follows the next line
  abbrev after : TreeLine → Listing TreeLine
  after l = told_after (tree_lines names) load (the_lines r ++ l ∷ []) texts tail

  by_ahead : (ahead : List ℕ) → the_ahead r ≡ ahead →
      told_after (tree_lines names) load (the_lines r) (text ∷ texts) tail ≡ or_wrong (next_read names ahead text) (length (the_lines r) + 2) after
  unfolding told_after
  by_ahead ahead is = ap (λ a. or_wrong (next_read names a text) (length (the_lines r) + 2) after) (sym known ∙ is)

  pub take_end : the_ahead r ≡ [] → without_load (told_after (tree_lines names) load (the_lines r) (text ∷ texts) tail) ≡ wrong (length r.lines.items + 2)
  take_end none = ap without_load (by_ahead [] none) ∙ ap (λ n. wrong (n + 2)) (length-map r.lines.items the_tree_line)

  pub take_wrong : (depth : ℕ) (ahead : List ℕ) → the_ahead r ≡ depth ∷ ahead → line_within names depth text ≡ None →
      without_load (told_after (tree_lines names) load (the_lines r) (text ∷ texts) tail) ≡ wrong (length r.lines.items + 2)
  take_wrong depth ahead first read =
      ap without_load (by_ahead (depth ∷ ahead) first ∙ ap (λ o. or_wrong o (length (the_lines r) + 2) after) read)
      ∙ ap (λ n. wrong (n + 2)) (length-map r.lines.items the_tree_line)

  pub take_next : (new : Reader) (depth : ℕ) (ahead : List ℕ) (l : ProgramLine) → the_ahead r ≡ depth ∷ ahead → line_within names depth text ≡ Some (the_tree_line l) →
      new.lines.items ≡ r.lines.items ++ l ∷ [] →
      told_after (tree_lines names) load (the_lines r) (text ∷ texts) tail ≡ told_after (tree_lines names) load (the_lines new) texts tail
  take_next new depth ahead l first read items =
      by_ahead (depth ∷ ahead) first ∙ ap (λ o. or_wrong o (length (the_lines r) + 2) after) read
      ∙ ap (λ ls. told_after (tree_lines names) load ls texts tail) (sym (ap (map the_tree_line) items ∙ map-append the_tree_line r.lines.items (l ∷ [])))

-- ---- whole texts

pub told_cut : (names : List (List ℕ)) (load : ℕ) (lines : List TreeLine) (left line rest : List ℕ) → cut_at 10 left ≡ Some (line, rest) →
    told_after (tree_lines names) load lines (parts_at 10 left).0 (parts_at 10 left).1 ≡ told_after (tree_lines names) load lines (line ∷ (parts_at 10 rest).0) (parts_at 10 rest).1
told_cut names load lines left line rest is = ap {A = SplitText} (λ p. told_after (tree_lines names) load lines p.0 p.1) (parts_cut 10 left line rest is)

-- where no tree is still to come and no byte is left, the text says these lines
pub end_tells : (load : ℕ) (lines : List TreeLine) (left : List ℕ) → ahead_of lines ≡ [] → left ≡ [] → without_load (at_end is_whole load lines left) ≡ tells lines
end_tells load lines left none over =
    ap (λ l. without_load (at_end is_whole load lines l)) over
    ∙ ap (λ a. without_load (if is_tree_over a then tells_with load lines else wrong_line (length lines + 2))) none

pub end_ahead : (load : ℕ) (lines : List TreeLine) (left : List ℕ) → 0 < length (ahead_of lines) → without_load (at_end is_whole load lines left) ≡ wrong (length lines + 2)
end_ahead load lines (b ∷ left) some = refl
end_ahead load lines [] some = go (ahead_of lines) some
  where
    go : (ahead : List ℕ) → 0 < length ahead → without_load (if is_tree_over ahead then tells_with load lines else wrong_line (length lines + 2)) ≡ wrong (length lines + 2)
    go [] some = absurd (omega arith)
    go (d ∷ ahead) some = refl

pub end_left : (load : ℕ) (lines : List TreeLine) (left : List ℕ) → 0 < length left → without_load (at_end is_whole load lines left) ≡ wrong (length lines + 2)
end_left load lines [] some = absurd (omega arith)
end_left load lines (b ∷ left) some = refl
