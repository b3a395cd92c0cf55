-- Texts that are printed line by line.
use Rattle.std.proofs.Common.{ℕ, ◌≡◌, ◌+◌, ◌<◌, ◌≤◌, List, [], ◌∷◌, ◌++◌, length, get_or, take, map, sym, subst, ap, ◌∙◌, append_assoc, codes}
use Rattle.std.specs.Prelude.{flat_map}
use Rattle.std.specs.List.{All}
use Rattle.std.proofs.lemmas.Grind.{flat_map-append}
use Rattle.std.proofs.lemmas.List.{append-nil, map_more, take_all, get_or-map, length-map}
use Rattle.std.proofs.lemmas.List.Elements.{All-push}
use Rattle.cstn_text.specs.Numbers.{printed_number}
use Rattle.cstn_outline.specs.declared.trees.Line.{Line as ProgramLine}
use Rattle.cstn_outline.specs.Trees.{names_on}
use Rattle.cstn_outline.specs.Texts.{printed_lines, tree_shown}
use Rattle.cstn_outline.specs.Written.{IsPrintableLine}
use Rattle.cstn_outline.specs.Read.{the_tree_line}

flat_more : {X : Type 0} (f : X → List ℕ) (xs : List X) (x : X) → flat_map f (xs ++ x ∷ []) ≡ flat_map f xs ++ f x
flat_more f xs x = flat_map-append f xs (x ∷ []) ∙ ap (λ l. flat_map f xs ++ l) (append-nil (f x))

-- the text after one more element of the list is printed
pub printed_more : {X Y : Type 0} (g : Y → X) (f : X → List ℕ) (ys : List Y) (k : ℕ) (d : Y) (first old new more : List ℕ) → k < length ys →
    old ≡ first ++ flat_map f (map g (take k ys)) → new ≡ old ++ more → more ≡ f (g (get_or ys k d)) → new ≡ first ++ flat_map f (map g (take (k + 1) ys))
printed_more g f ys k d first old new more inside before pushed is =
    pushed ∙ ap (λ l. old ++ l) is ∙ ap (λ l. l ++ f (g (get_or ys k d))) before
    ∙ append_assoc first (flat_map f (map g (take k ys))) (f (g (get_or ys k d)))
    ∙ ap (λ l. first ++ l) (sym (ap (flat_map f) (map_more g ys k d inside) ∙ flat_more f (map g (take k ys)) (g (get_or ys k d))))

pub pushed_twice : (old middle new one other : List ℕ) → middle ≡ old ++ one → new ≡ middle ++ other → new ≡ old ++ (one ++ other)
pushed_twice old middle new one other first second = second ∙ ap (λ l. l ++ other) first ∙ append_assoc old one other

-- the text after the last line is printed is the whole one
pub shown_whole : (names : List (List ℕ)) (load : ℕ) (lines : List ProgramLine) (k : ℕ) (text : List ℕ) → length lines ≤ k →
    text ≡ (codes "yes " ++ printed_number load ++ 10 ∷ []) ++ printed_lines names (map the_tree_line (take k lines)) → text ≡ tree_shown names load (map the_tree_line lines)
shown_whole names load lines k text past is =
    is ∙ ap (λ l. (codes "yes " ++ printed_number load ++ 10 ∷ []) ++ printed_lines names (map the_tree_line l)) (take_all k lines past)
    ∙ append_assoc (codes "yes " ++ printed_number load) (10 ∷ []) (printed_lines names (map the_tree_line lines))

-- the first k + 1 lines can be printed, where the first k and the next one can
pub more_written : (names : List (List ℕ)) (lines : List ProgramLine) (k : ℕ) (l : ProgramLine) → k < length lines → l ≡ get_or lines k l →
    All (IsPrintableLine names) (map the_tree_line (take k lines)) → IsPrintableLine names (the_tree_line l) → All (IsPrintableLine names) (map the_tree_line (take (k + 1) lines))
more_written names lines k l inside at before is =
    subst (All (IsPrintableLine names)) (sym (map_more the_tree_line lines k l inside))
    (All-push (IsPrintableLine names) (map the_tree_line (take k lines)) (the_tree_line (get_or lines k l)) before (subst (λ x. IsPrintableLine names (the_tree_line x)) at is))

pub all_written : (names : List (List ℕ)) (lines : List ProgramLine) (k : ℕ) → length lines ≤ k → All (IsPrintableLine names) (map the_tree_line (take k lines)) →
    All (IsPrintableLine names) (map the_tree_line lines)
all_written names lines k past all = subst (λ ls. All (IsPrintableLine names) (map the_tree_line ls)) (take_all k lines past) all

-- what is so of the time-points on each line is so of those on one of them
pub names_inside : (n : ℕ) (lines : List ProgramLine) (k : ℕ) (l : ProgramLine) → k < length lines → l ≡ get_or lines k l →
    All (λ l. All (λ x. x < n) (names_on l)) (map the_tree_line lines) → All (λ x. x < n) (names_on (the_tree_line l))
names_inside n lines k l inside at all =
    let here = get_or-map the_tree_line lines k l (the_tree_line l) inside ∙ ap the_tree_line (sym at) in
    subst (λ l. All (λ x. x < n) (names_on l)) here (all k (the_tree_line l) (subst (λ m. k < m) (sym (length-map lines the_tree_line)) inside))
