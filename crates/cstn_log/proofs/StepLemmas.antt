-- The steps of marking and cutting a list, one entry at a time.
use Rattle.std.proofs.Common.{ℕ, zero, suc, ◌≡◌, inl, inr, ◌<◌, ◌≤◌, Bool, true, false, Option, Some, None, List, [], ◌∷◌, ◌++◌, length, get_or, take, drop, arith, refl, sym, ◌∙◌, ap, length-append, append_assoc}
use Rattle.std.specs.Prelude.{slice_get}
use Rattle.std.proofs.lemmas.Bool.{cases_eq}
use Rattle.std.proofs.lemmas.List.{get_or_append_left, map-append, length-map, length-take-le, take-map}
use Rattle.std.proofs.Math.Seq.{get_or-append_seam}
use Rattle.std.proofs.lemmas.Option.{slice_get-map}
use Rattle.cstn_rules.specs.declared.entries.Entry.{Entry}
use Rattle.cstn_rules.specs.declared.entries.Why.{Why}
use Rattle.cstn_rules.specs.declared.entries.Why.TheVariants.{Base, Chain, Wait}
use Rattle.cstn_rules.specs.Derivations.{Entry as TheEntry}
use Rattle.cstn_rules.specs.Read.{the_entry}
use Rattle.cstn_log.specs.Entries.{the_entries}
use Rattle.cstn_log.specs.Cuts.{PremisesBelow, is_place_marked, rank, renumbered, replaced, moved_premises, cut_from, cut, with_premises, with_premises_of, with_ancestors, last_marked, last_with_ancestors, stays, marked_staying}
use Rattle.cstn_facts.proofs.Places.{drop_step, same_front}
use Rattle.cstn_log.proofs.CutLemmas.{cut_marked, cut_unmarked}

-- what an entry of the program's list stands for
pub entry_read : (L : List Entry) (k : ℕ) (e : Entry) → slice_get L k ≡ Some e → slice_get (the_entries L) k ≡ Some (the_entry e)
entry_read L k e there = slice_get-map the_entry L k ∙ rw there refl

-- at a marked entry its premises are marked
pub below_marked : (L : List Entry) (k : ℕ) (e : Entry) (marks : List Bool) → slice_get L k ≡ Some e → is_place_marked marks k ≡ true →
    with_ancestors (the_entries L) k (with_premises e.why marks) ≡ with_ancestors (the_entries L) (suc k) marks
below_marked L k e marks there marked =
    let read = entry_read L k e there in
    sym (rw (read, marked) refl)

pub below_unmarked : (steps : List TheEntry) (k : ℕ) (marks : List Bool) → is_place_marked marks k ≡ false →
    with_ancestors steps k marks ≡ with_ancestors steps (suc k) marks
below_unmarked steps k marks unmarked = sym (ap (λ m. with_ancestors steps k m) (none (slice_get steps k)))
  where
    none : (o : Option TheEntry) → with_premises_of o (is_place_marked marks k) marks ≡ marks
    none None = refl
    none (Some e) = rw unmarked refl

-- marking one more entry
pub staying_step : (id : ℕ) (L : List Entry) (k : ℕ) (e : Entry) (marks : List Bool) → slice_get L k ≡ Some e →
    marked_staying id (marks ++ stays id marks e.why ∷ []) (drop (suc k) (the_entries L)) ≡ marked_staying id marks (drop k (the_entries L))
staying_step id L k e marks there =
    sym (rw (drop_step (the_entries L) k (the_entry e) (entry_read L k e there)) refl)

-- `places` has the rank of each place below k
abbrev pub AreRanks : List Bool → List ℕ → ℕ → Type 0
AreRanks marks places k = (length places ≡ k) × ((i : ℕ) → i < k → get_or places i 0 ≡ rank marks i)

pub ranks_step : (marks : List Bool) (places : List ℕ) (k n : ℕ) → AreRanks marks places k → n ≡ rank marks k → AreRanks marks (places ++ n ∷ []) (suc k)
ranks_step marks places k n are next = (
  omega (arith, length-append places (n ∷ []), are.0),
  λ i low. elim (cases_eq i k) [
    | inl same ↦
        let at : i ≡ length places = omega (arith, same, are.0) in
        rw at (get_or-append_seam places n [] 0) ∙ next ∙ ap (rank marks) (sym same)
    | inr other ↦ get_or_append_left places (n ∷ []) 0 i (omega (arith, low, other, are.0)) ∙ are.1 i (omega (arith, low, other))
  ],
)

pub placed_renumbered : (marks : List Bool) (places : List ℕ) (k n : ℕ) (why : Why) → AreRanks marks places n → PremisesBelow k why → k ≤ n → replaced places why ≡ renumbered marks why
placed_renumbered marks places k n Base are low over = refl
placed_renumbered marks places k n (Chain id i) are low over = ap (Chain id) (are.1 i (omega (arith, low, over)))
placed_renumbered marks places k n (Wait i j) are low over = rw (are.1 i (omega (arith, low.0, over)), are.1 j (omega (arith, low.1, over))) refl

-- after a marked entry is appended, the steps and what is still to be cut make the same list as before
pub cut_step_marked : (marks : List Bool) (L steps : List Entry) (k : ℕ) (e m : Entry) → slice_get L k ≡ Some e → is_place_marked marks k ≡ true →
    the_entry m ≡ moved_premises marks (the_entry e) →
    the_entries (steps ++ m ∷ []) ++ cut_from marks (suc k) (drop (suc k) (the_entries L)) ≡ the_entries steps ++ cut_from marks k (drop k (the_entries L))
cut_step_marked marks L steps k e m there marked is =
    let rest = cut_from marks (suc k) (drop (suc k) (the_entries L)) in
    let here : cut_from marks k (drop k (the_entries L)) ≡ the_entry m ∷ rest = rw (drop_step (the_entries L) k (the_entry e) (entry_read L k e there), is) (cut_marked marks k (the_entry e) (drop (suc k) (the_entries L)) marked) in
    let more : the_entries (steps ++ m ∷ []) ≡ the_entries steps ++ the_entry m ∷ [] = map-append the_entry steps (m ∷ []) in
    rw (more, here) (append_assoc (the_entries steps) (the_entry m ∷ []) rest)

-- after an entry that isn't marked is left out, they make the same list, too
pub cut_step_unmarked : (marks : List Bool) (L steps : List Entry) (k : ℕ) → is_place_marked marks k ≡ false →
    the_entries steps ++ cut_from marks (suc k) (drop (suc k) (the_entries L)) ≡ the_entries steps ++ cut_from marks k (drop k (the_entries L))
cut_step_unmarked marks L steps k unmarked = ap (λ xs. the_entries steps ++ xs) (sym (here (the_entries L) k))
  where
    here : (es : List TheEntry) (n : ℕ) → cut_from marks k (drop n es) ≡ cut_from marks (suc k) (drop (suc n) es)
    here [] zero = refl
    here [] (suc n) = refl
    here (x ∷ xs) zero = cut_unmarked marks k x xs unmarked
    here (x ∷ xs) (suc n) = here xs n

-- the marks of the first entries and of their ancestors don't depend on the other entries
pub front_ancestors : (steps : List TheEntry) (n k : ℕ) (marks : List Bool) → k ≤ n →
    with_ancestors steps k marks ≡ with_ancestors (take n steps) k marks
front_ancestors steps n zero marks upto = refl
front_ancestors steps n (suc k) marks upto =
    let same : slice_get (take n steps) k ≡ slice_get steps k = same_front steps n k (omega arith) in
    front_ancestors steps n k (with_premises_of (slice_get steps k) (is_place_marked marks k) marks) (omega arith)
    ∙ ap (λ o. with_ancestors (take n steps) k (with_premises_of o (is_place_marked marks k) marks)) (sym same)

-- the last of the first n entries and its ancestors are the part of the first n
pub front_part : (L : List Entry) (n : ℕ) → n ≤ length L →
    cut (with_ancestors (the_entries L) n (last_marked n)) (the_entries (take n L)) ≡ last_with_ancestors (the_entries (take n L))
front_part L n upto =
    let all : length (the_entries L) ≡ length L = length-map L the_entry in
    let front : the_entries (take n L) ≡ take n (the_entries L) = sym (take-map the_entry n L) in
    let long : length (take n (the_entries L)) ≡ n = length-take-le n (the_entries L) (omega arith) in
    ap (λ m. cut m (the_entries (take n L))) (front_ancestors (the_entries L) n n (last_marked n) (omega arith))
    ∙ ap (cut (with_ancestors (take n (the_entries L)) n (last_marked n))) front
    ∙ ap (λ k. cut (with_ancestors (take n (the_entries L)) k (last_marked k)) (take n (the_entries L))) (sym long) ∙ ap last_with_ancestors (sym front)
