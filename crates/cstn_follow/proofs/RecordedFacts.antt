-- How facts are refused, and what has happened once they are recorded.
use Rattle.std.proofs.Common.{ℕ, zero, suc, ◌≡◌, ◌≤◌, Bool, false, max, List, [], ◌∷◌, ◌++◌, length, Option, Some, None, arith, refl, sym, subst, ap, ◌∙◌, inl}
use Rattle.std.proofs.Common.{inr}
use Rattle.std.specs.Prelude.{◌⊎◌, cond, Result, Ok, nat_lt, nat_le, codes, decimal}
use Rattle.std.specs.List.{Contains, cons_option}
use Rattle.std.specs.Option.{option_map, is_none}
use Rattle.std.proofs.lemmas.Bool.{cases_eq}
use Rattle.cstn_facts.proofs.Members.{filter_map_contains, filter_map_from}
use Rattle.cstn_label.specs.Letters.{letter_of}
use Rattle.cstn_label.specs.declared.nodes.NodeId.{NodeId}
use Rattle.cstn_net.specs.Networks.{count}
use Rattle.cstn_text.specs.Names.{number_of}
use Rattle.cstn_text.specs.PrintedNames.{printed_name}
use Rattle.cstn_lift.specs.Labelled.{Labelled}
use Rattle.cstn_history.specs.Histories.{History}
use Rattle.cstn_history.specs.Facts.{FactRefusal, Past, OutOfRange, NoSuch, Done, Undecided, NotObserved, Told}
use Rattle.cstn_history.specs.Facts.{is_beyond, again_refusal, done_refusal, now_refusal, told_refusal, told_after, again_told, expected_refusal}
use Rattle.cstn_history.specs.Facts.{expected_after, again_expected, observed_since, at_now, with_done, with_told, with_expected, ruled_out, ready_refusal, with_ready}
use Rattle.cstn_history.proofs.Recorded.{put_there, put_other, put_kept, ready_there, ready_other}
use Rattle.cstn_lines.specs.LiveLines.{printed_truth}
use Rattle.cstn_reply.specs.Texts.{line}
use Rattle.cstn_follow.specs.Following.{name_of_point}
use Rattle.cstn_follow.specs.FactLines.{refused_fact, unless_fact_refused, all_done, unknown_of, node_numbered, node_named, nodes_of}
use Rattle.cstn_follow.proofs.InOrder.{none_refused}
use Rattle.cstn_follow.specs.Recorded.{AreDone, HasCome, HasPassed, IsExpectedAt, IsReadyFrom}

-- ---- refusals

-- the text is the line of a refusal
abbrev pub IsRefusal : List ℕ → Type 0
IsRefusal text = (why : List ℕ) × (text ≡ line (codes "refused " ++ why))

pub fact_refusal : (names : List (List ℕ)) (e : FactRefusal) → IsRefusal (line (refused_fact names e))
fact_refusal names (Past now) = (codes "F1 " ++ decimal now, refl)
fact_refusal names (OutOfRange moment) = (codes "F2 " ++ decimal moment, refl)
fact_refusal names (NoSuch x) = (codes "F3 " ++ printed_name (name_of_point names x), refl)
fact_refusal names (Done x moment) = (codes "F4 " ++ printed_name (name_of_point names x) ++ 32 ∷ decimal moment, refl)
fact_refusal names (Undecided x) = (codes "F5 " ++ printed_name (name_of_point names x), refl)
fact_refusal names (NotObserved p) = (codes "F6 " ++ letter_of p ∷ [], refl)
fact_refusal names (Told p v) = (codes "F7 " ++ letter_of p ∷ 32 ∷ printed_truth v, refl)

-- a time-point that is accepted as done wasn't done
pub undone_here : (m : Labelled) (h : History) (t x : ℕ) → done_refusal m h t x ≡ None → h.done x ≡ None
undone_here m h t x e = free (h.done x) (none_refused (nat_le (count m.base) x) _ _ (none_refused (is_beyond t) _ _ e).1).1
  where
    free : (o : Option ℕ) → again_refusal m h x o ≡ None → o ≡ None
    free None f = refl
    free (Some u) f = absurd (cc)

abbrev recorded : History → Result History FactRefusal
recorded h = Ok h

pub same_history : (h g : History) → recorded h ≡ recorded g → h ≡ g
same_history h g is = cc

-- ---- time-points that are done one after the other

module _ (m : Labelled) (t : ℕ) where
  -- the first wasn't done, and the others are done after it
  first_done : (h g : History) (x : NodeId) (xs : List NodeId) → all_done m t h (x ∷ xs) ≡ Ok g
      → (h.done x.0 ≡ None) × (all_done m t (with_done h t x.0) xs ≡ Ok g)
  first_done h g x xs is = by_refusal (done_refusal m h t x.0) refl is
    where
      by_refusal : (o : Option FactRefusal) → done_refusal m h t x.0 ≡ o → unless_fact_refused o (all_done m t (with_done h t x.0) xs) ≡ Ok g
          → (h.done x.0 ≡ None) × (all_done m t (with_done h t x.0) xs ≡ Ok g)
      by_refusal None none so = (undone_here m h t x.0 none, so)
      by_refusal (Some e) some so = absurd (cc)

  done_stays : (h g : History) (xs : List NodeId) (y u : ℕ) → all_done m t h xs ≡ Ok g → h.done y ≡ Some u → g.done y ≡ Some u
  done_stays h g [] y u is at = subst (λ (k : History). k.done y ≡ Some u) (same_history h g is) at
  done_stays h g (x ∷ xs) y u is at =
      let f = first_done h g x xs is in
      done_stays (with_done h t x.0) g xs y u f.1 (put_kept h.done x.0 t y u f.0 at)

  -- each wasn't done, and then it is
  done_each : (h g : History) (xs : List NodeId) (x : NodeId) → all_done m t h xs ≡ Ok g → Contains xs x → (h.done x.0 ≡ None) × (g.done x.0 ≡ Some t)
  done_each h g [] x is (k, inside, at) = absurd (omega arith)
  done_each h g (y ∷ ys) x is (zero, inside, at) =
      let f = first_done h g y ys is in (
        subst (λ (z : NodeId). h.done z.0 ≡ None) at f.0,
        done_stays (with_done h t y.0) g ys x.0 t f.1 (put_there h.done y.0 t x.0 (ap (λ (z : NodeId). z.0) (sym at))),
      )
  done_each h g (y ∷ ys) x is (suc k, inside, at) =
      let f = first_done h g y ys is in
      let later = done_each (with_done h t y.0) g ys x f.1 (k, omega arith, at) in
      (was (cases_eq x.0 y.0) later.0, later.1)
    where
      was : (x.0 ≡ y.0) ⊎ (x.0 ≡ y.0 → ⊥) → (with_done h t y.0).done x.0 ≡ None → h.done x.0 ≡ None
      was (inl same) none = let there = put_there h.done y.0 t x.0 same in absurd (cc)
      was (inr other) none = sym (put_other h.done y.0 t x.0 other) ∙ none

  done_others : (h g : History) (xs : List NodeId) (x : ℕ) → all_done m t h xs ≡ Ok g → ((y : NodeId) → Contains xs y → y.0 ≡ x → ⊥)
      → g.done x ≡ h.done x
  done_others h g [] x is other = ap (λ (k : History). k.done x) (sym (same_history h g is))
  done_others h g (y ∷ ys) x is other =
      let f = first_done h g y ys is in
      done_others (with_done h t y.0) g ys x f.1 (λ z has. other z (suc has.0, (let inside = has.1 in omega arith), has.2))
      ∙ put_other h.done y.0 t x (λ same. other y (0, omega arith, refl) (sym same))

  done_else : (h g : History) (xs : List NodeId) → all_done m t h xs ≡ Ok g → (g.told ≡ h.told) × (g.expected ≡ h.expected) × (g.ready ≡ h.ready)
  done_else h g [] is =
      let same = sym (same_history h g is) in (ap (λ (k : History). k.told) same, ap (λ (k : History). k.expected) same, ap (λ (k : History). k.ready) same)
  done_else h g (x ∷ xs) is = done_else (with_done h t x.0) g xs (first_done h g x xs is).1

  done_now : (h g : History) (xs : List NodeId) → t ≤ h.now → all_done m t h xs ≡ Ok g → g.now ≡ h.now
  done_now h g [] upto is = ap (λ (k : History). k.now) (sym (same_history h g is))
  done_now h g (x ∷ xs) upto is =
      let later = done_now (with_done h t x.0) g xs (omega arith) (first_done h g x xs is).1 in omega arith

  some_now : (h g : History) (x : NodeId) (xs : List NodeId) → all_done m t h (x ∷ xs) ≡ Ok g → g.now ≡ max h.now t
  some_now h g x xs is = done_now (with_done h t x.0) g xs (omega arith) (first_done h g x xs is).1

-- ---- time-points of given names

-- where no name is unknown, each is a time-point's
module _ (names : List (List ℕ)) where
  first_known : (first : List ℕ) (more : List (List ℕ)) → unknown_of names (first ∷ more) ≡ None
      → ((x : ℕ) × (number_of names first ≡ Some x)) × (unknown_of names more ≡ None)
  first_known first more none = by_number (number_of names first) refl
    where
      found : (o : Option ℕ) → number_of names first ≡ o → unknown_of names (first ∷ more) ≡ cond (is_none o) (Some first) (unknown_of names more)
      found o is = ap (λ n. cond (is_none n) (Some first) (unknown_of names more)) is

      by_number : (o : Option ℕ) → number_of names first ≡ o → ((x : ℕ) × (number_of names first ≡ Some x)) × (unknown_of names more ≡ None)
      by_number None is = let some = found None is in absurd (cc)
      by_number (Some x) is = ((x, is), sym (found (Some x) is) ∙ none)

  all_known : (given : List (List ℕ)) → unknown_of names given ≡ None → (name : List ℕ) → Contains given name → (x : ℕ) × (number_of names name ≡ Some x)
  all_known [] none name (k, inside, at) = absurd (omega arith)
  all_known (first ∷ more) none name (zero, inside, at) =
      let f = (first_known first more none).0 in (f.0, subst (λ n. number_of names n ≡ Some f.0) at f.1)
  all_known (first ∷ more) none name (suc k, inside, at) = all_known more (first_known first more none).1 name (k, omega arith, at)

  number_back : (o : Option ℕ) (y : NodeId) → option_map node_numbered o ≡ Some y → o ≡ Some y.0
  number_back None y is = absurd (cc)
  number_back (Some n) y is = let same : node_numbered n ≡ y = cc in ap (λ (z : NodeId). Some z.0) same

  pub are_done : (m : Labelled) (h g : History) (t : ℕ) (given : List (List ℕ)) → 1 ≤ length given → unknown_of names given ≡ None
      → all_done m t h (nodes_of names given) ≡ Ok g → AreDone names h t given g
  are_done m h g t [] some none is = absurd (omega arith)
  are_done m h g t (first ∷ more) some none is =
      let x = (first_known first more none).0 in
      let nodes_are : nodes_of names (first ∷ more) ≡ node_numbered x.0 ∷ nodes_of names more =
      ap (λ o. cons_option (option_map node_numbered o) (nodes_of names more)) x.1 in
      let rest_is = done_else m t h g (nodes_of names (first ∷ more)) is in
      record {
        now = some_now m t h g (node_numbered x.0) (nodes_of names more) (ap (all_done m t h) (sym nodes_are) ∙ is);
        done = λ name has.
            let y = all_known (first ∷ more) none name has in
            let there = filter_map_contains (node_named names) (first ∷ more) name (node_numbered y.0) has (ap (option_map node_numbered) y.1) in
            let both = done_each m t h g (nodes_of names (first ∷ more)) (node_numbered y.0) is there in
            (y.0, y.1, both.0, both.1);
        others = λ y other. done_others m t h g (nodes_of names (first ∷ more)) y is (λ z has same.
            let from = filter_map_from (node_named names) (first ∷ more) z has in
            other from.0 from.1 (number_back (number_of names from.0) z from.2 ∙ ap (λ (k : ℕ). Some k) same));
        told = rest_is.0;
        expected = rest_is.1;
        ready = rest_is.2;
      }

-- ---- the other facts

module _ (m : Labelled) (h : History) (t : ℕ) where
  pub has_passed : now_refusal h t ≡ None → HasPassed h t (at_now h t)
  has_passed none =
      record { from = not_before (none_refused (nat_lt t h.now) _ _ none).0; now = refl; done = refl; told = refl; expected = refl; ready = refl }
    where
      not_before : nat_lt t h.now ≡ false → h.now ≤ t
      not_before e = grind arith

  module _ (p : ℕ) where
    untold_came : told_refusal m h t p ≡ None → h.told p ≡ None
    untold_came none = since (observed_since m h p) (none_refused (is_beyond t) _ _ none).1
      where
        untold : (u : ℕ) (o : Option Bool) → again_told t p u o ≡ None → o ≡ None
        untold u None free = refl
        untold u (Some v) free = absurd (cc)

        since : (o : Option ℕ) → told_after h t p o ≡ None → h.told p ≡ None
        since None free = absurd (cc)
        since (Some u) free = untold u (h.told p) free

    pub has_come : (v : Bool) → told_refusal m h t p ≡ None → HasCome h t p v (with_told h t p v)
    has_come v none = record {
      now = refl;
      none = untold_came none;
      told = put_there h.told p v p refl;
      others = put_other h.told p v;
      done = refl;
      expected = refl;
      ready = refl;
    }

    untold_expected : expected_refusal m h t p ≡ None → h.told p ≡ None
    untold_expected none = since (observed_since m h p) none
      where
        untold : (u : ℕ) (o : Option Bool) → again_expected m h t p u o ≡ None → o ≡ None
        untold u None free = refl
        untold u (Some v) free = absurd (cc)

        since : (o : Option ℕ) → expected_after m h t p o ≡ None → h.told p ≡ None
        since None free = absurd (cc)
        since (Some u) free = untold u (h.told p) free

    pub is_expected : expected_refusal m h t p ≡ None → IsExpectedAt h t p (with_expected h t p)
    is_expected none = record {
      now = refl;
      none = untold_expected none;
      expected = put_there h.expected p t p refl;
      others = put_other h.expected p t;
      done = refl;
      told = refl;
      ready = refl;
    }

-- a time-point that is accepted as not ready isn't done
pub is_ready_from : (names : List (List ℕ)) (m : Labelled) (h : History) (t : ℕ) (name : List ℕ) (x : ℕ) → number_of names name ≡ Some x
    → ready_refusal m h t x ≡ None → IsReadyFrom names h t name (with_ready h t x)
is_ready_from names m h t name x named none = record {
  point = x;
  named = named;
  coming = free (h.done x) (none_refused (nat_le (count m.base) x) _ _ (none_refused (is_beyond t) _ _ none).1).1;
  from = ready_there h.ready x t x refl;
  others = ready_other h.ready x t;
  now = refl;
  done = refl;
  told = refl;
  expected = refl;
}
  where
    free : (o : Option ℕ) → ruled_out m h x o ≡ None → o ≡ None
    free None f = refl
    free (Some u) f = absurd (cc)
