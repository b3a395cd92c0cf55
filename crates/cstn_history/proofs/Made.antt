-- The parts of the rest as the program makes them.
use Rattle.std.proofs.Common.{ℕ, zero, suc, ◌≡◌, ◌+◌, ◌<◌, true, false, List, [], ◌∷◌, ◌++◌, Some, length, arith, refl, sym, subst, ap, ◌∙◌, append_assoc}
use Rattle.std.specs.Prelude.{map, slice_index_or, if◌then◌else◌, not, ◌&&◌, pos, ◌-ℤ◌}
use Rattle.std.specs.List.{flat_map, range_with_len}
use Rattle.std.proofs.lemmas.Grind.{flat_map-append}
use Rattle.std.proofs.lemmas.List.{append-nil, map-append, length-map}
use Rattle.std.proofs.lemmas.List.FromFn.{length-map-range_with_len, get_or-map-range_with_len}
use Rattle.std.proofs.lemmas.Bool.{lt-ltb}
use Rattle.cstn_facts.proofs.Ranges.{range_more}
use Rattle.cstn_net.specs.declared.constraints.Constraint.{Constraint}
use Rattle.cstn_net.specs.Networks.{Constraint as TheConstraint, count}
use Rattle.cstn_net.specs.Read.{the_constraint}
use Rattle.cstn_lift.specs.Labelled.{Labelled}
use Rattle.cstn_lift.specs.Lowered.{numbered}
use Rattle.cstn_history.proofs.Forces.{numbered_more, numbered_long}
use Rattle.cstn_history.specs.Histories.{History, is_done, soonest}
use Rattle.cstn_history.specs.Rest.{sight_left, is_left, number_left, end_left, bare, stands_at, moment_watched, watched_one, coming_one}
use Rattle.cstn_history.specs.Handed.{AreNumbers, HasAdded, AreAddedBehind}

module _ (m : Labelled) (h : History) (numbers : List ℕ) (are : AreNumbers m h numbers) (x : ℕ) (here : x < count m.base) where
  pub numbers_inside : x < length numbers
  numbers_inside = let long = ap length are ∙ length-map-range_with_len (number_left m h) 0 (count m.base) in omega arith

  pub number_there : slice_index_or numbers x 0 ≡ number_left m h x
  number_there = ap (λ l. slice_index_or l x 0) are ∙ get_or-map-range_with_len (number_left m h) 0 (count m.base) x x 0 here (omega arith)

pub end_other : (m : Labelled) (h : History) (x : ℕ) → is_done h x ≡ false → end_left m h x ≡ number_left m h x
end_other m h x e = ap (λ b. if b then 0 else number_left m h x) e

-- one constraint more
pub adds_one : (fresh : ℕ) (old new : List Constraint) (d : Constraint) (e : TheConstraint) → new ≡ old ++ d ∷ [] →
    the_constraint d ≡ record e { id = fresh + length old } → AreAddedBehind fresh old new (e ∷ [])
adds_one fresh old new d e is at cs has =
    let long : length cs ≡ length old = sym (numbered_long fresh cs) ∙ sym (ap length has) ∙ length-map old the_constraint in
    ap (map the_constraint) is ∙ map-append the_constraint old (d ∷ []) ∙ ap (λ l. l ++ the_constraint d ∷ []) has
    ∙ ap (λ f. numbered fresh cs ++ f ∷ []) at ∙ ap (λ k. numbered fresh cs ++ record e { id = fresh + k } ∷ []) (sym long)
    ∙ sym (numbered_more fresh cs e)

pub adds_none : (fresh : ℕ) (old : List Constraint) → AreAddedBehind fresh old old []
adds_none fresh old cs has = subst (λ ds. HasAdded fresh ds old) (sym (append-nil cs)) has

pub adds_both : (fresh : ℕ) (old mid new : List Constraint) (es fs : List TheConstraint) → AreAddedBehind fresh old mid es → AreAddedBehind fresh mid new fs →
    AreAddedBehind fresh old new (es ++ fs)
adds_both fresh old mid new es fs first more cs has =
    subst (λ ds. HasAdded fresh ds new) (append_assoc cs es fs) (more (cs ++ es) (first cs has))

-- those of one time-point more
pub adds_turn : (fresh : ℕ) (old mid new : List Constraint) (f : ℕ → List TheConstraint) (x : ℕ) →
    AreAddedBehind fresh old mid (flat_map f (range_with_len 0 x)) → AreAddedBehind fresh mid new (f x) → AreAddedBehind fresh old new (flat_map f (range_with_len 0 (x + 1)))
adds_turn fresh old mid new f x first more cs has =
    subst (λ ds. HasAdded fresh ds new) (next x) (more (cs ++ flat_map f (range_with_len 0 x)) (first cs has))
  where
    next : (i : ℕ) → (cs ++ flat_map f (range_with_len 0 i)) ++ f i ≡ cs ++ flat_map f (range_with_len 0 (i + 1))
    next i =
        append_assoc cs (flat_map f (range_with_len 0 i)) (f i) ∙ ap (λ l. cs ++ l)
        (ap (λ l. flat_map f (range_with_len 0 i) ++ l) (sym (append-nil (f i))) ∙ sym (flat_map-append f (range_with_len 0 i) (i ∷ []))
        ∙ ap (flat_map f) (sym (range_more 0 i i (omega arith))))

-- what is added for a watched time-point
pub watched_adds : (m : Labelled) (h : History) (x t p : ℕ) → (x ≡ 0 → ⊥) → h.done x ≡ Some t → sight_left m h x ≡ Some p →
    watched_one m h x (h.done x) (sight_left m h x) ≡ stands_at (number_left m h x) (moment_watched m h p t)
watched_adds m h zero t p other e f = absurd (other refl)
watched_adds m h (suc x) t p other e f = ap (λ o. watched_one m h (suc x) o (sight_left m h (suc x))) e ∙ ap (watched_one m h (suc x) (Some t)) f

-- what is added for a time-point that is to come
pub coming_adds : (m : Labelled) (h : History) (x : ℕ) → 0 < soonest h x → is_left m h x ≡ true → is_done h x ≡ false →
    coming_one m h x ≡ bare (number_left m h x) 0 (pos 0 -ℤ pos (soonest h x)) ∷ []
coming_adds m h x later left undone =
    let d = bare (number_left m h x) 0 (pos 0 -ℤ pos (soonest h x)) in
    ap (λ b. if b && is_left m h x && not (is_done h x) then d ∷ [] else []) (lt-ltb 0 (soonest h x) later)
    ∙ ap (λ b. if true && b && not (is_done h x) then d ∷ [] else []) left ∙ ap (λ b. if true && true && not b then d ∷ [] else []) undone
