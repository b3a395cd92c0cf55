-- Growth has at most as many entries as there are bounds.
use Rattle.std.proofs.Common.{ℕ, zero, suc, ◌≡◌, inl, inr, ◌+◌, ◌*◌, ◌^◌, ◌<◌, ◌≤◌, true, false, ◌&&◌, List, [], ◌∷◌, length, map, Option, Some, None, eqb, arith, refl, sym, subst, ap, ◌∙◌, length-append}
use Rattle.std.specs.Prelude.{ℤ, pos, negsuc, ◌-ℤ◌, ◌+ℤ◌, ◌≤ℤ◌, slice_get, slice_index_or}
use Rattle.std.specs.Int.{int_min}
use Rattle.std.proofs.Math.Arith.{digits_lt}
use Rattle.std.proofs.Math.Nat.{pow-suc}
use Rattle.std.proofs.lemmas.Int.{ints, clamps, by_lt_z}
use Rattle.std.proofs.lemmas.Bool.{cases_Bool, cases_lt, cond-true, cond-false, or_left, or_right, false≢true}
use Rattle.std.proofs.lemmas.List.Elements.{All-contains}
use Rattle.std.specs.List.{IsDistinct, AllByRecursion, list_any}
use Rattle.std.proofs.lemmas.List.{length-map}
use Rattle.std.proofs.lemmas.Map.Steps.{length-le_from_distinct_below}
use Rattle.std.proofs.lemmas.Bool.{ne_eqb, eqb-true, or_cases}
use Rattle.std.proofs.lemmas.Nat.{same_from_place}
use Rattle.cstn_label.specs.declared.marks.Mark.{Mark}
use Rattle.cstn_label.specs.Labels.{Label, IsMarkWithin, joined, without, empty}
use Rattle.cstn_label.specs.declared.marks.Mark.TheVariants.{Absent, Yes, No, Unknown}
use Rattle.cstn_label.proofs.MarkLemmas.{absent_or_not}
use Rattle.cstn_net.specs.Networks.{Network, IsNetwork, IsConstraint, Constraint, count, limit}
use Rattle.cstn_label.specs.Bounds.{Bound, Dominates}
use Rattle.cstn_label.specs.Marks.{is_absent, is_plain}
use Rattle.cstn_rules.specs.Rules.{finished}
use Rattle.cstn_rules.specs.Derivations.{Entry}
use Rattle.cstn_check.specs.Kept.{AllGood, MarksObserved, IsKeptList, IsRanged}
use Rattle.cstn_rules.specs.Tests.{chain_of, wait_for as wait_by, wait_of}
use Rattle.cstn_label.specs.Tests.{dominates}
use Rattle.cstn_check.specs.Growth.{Instance, why_of, is_covered, is_refuted, of_one, of_two, conclusion, grown, log_of, count_observed, most_entries}
use Rattle.cstn_log.specs.Entries.{bases}
use Rattle.cstn_check.proofs.Decided.{HasLetters, dominates_true}
use Rattle.cstn_check.specs.Growth.Instance.{chain_at, wait_at}
use Rattle.cstn_check.proofs.Lists.{Extends, get_kept, covered_kept, covered_by}
use Rattle.cstn_check.proofs.GoodLemmas.{good_at, good_small, good_more, bases_good, conclusion_good}
use Rattle.cstn_check.proofs.Derives.{OfNetwork, with_entry, grown_keeps, get_last}
use Rattle.cstn_check.proofs.Closes.{bases_cover}
use Rattle.cstn_net.proofs.Kept.{limit_upto}
use Rattle.cstn_label.proofs.BoundLemmas.{dominates_through}

-- ---- a number for each bound

digit : Mark → ℕ
digit Absent = 0
digit Yes = 1
digit No = 2
digit Unknown = 3

digit_lt : (m : Mark) → digit m < 4
unfolding digit
digit_lt Absent = omega arith
digit_lt Yes = omega arith
digit_lt No = omega arith
digit_lt Unknown = omega arith

mark_from : ℕ → Mark
mark_from zero = Absent
mark_from (suc zero) = Yes
mark_from (suc (suc zero)) = No
mark_from (suc (suc (suc n))) = Unknown

mark_again : (m : Mark) → mark_from (digit m) ≡ m
unfolding digit mark_from
mark_again Absent = refl
mark_again Yes = refl
mark_again No = refl
mark_again Unknown = refl

same_digit : (m n : Mark) → digit m ≡ digit n → m ≡ n
same_digit m n e = sym (mark_again m) ∙ ap mark_from e ∙ mark_again n

label_code : Label → List (Option ℕ) → ℕ
label_code a [] = 0
label_code a (None ∷ os) = label_code a os
label_code a (Some p ∷ os) = label_code a os * 4 + digit (a p)

label_code_lt : (a : Label) (os : List (Option ℕ)) → label_code a os < 4 ^ count_observed os
unfolding label_code
label_code_lt a [] = omega arith
label_code_lt a (None ∷ os) = label_code_lt a os
label_code_lt a (Some p ∷ os) = rw pow-suc (digits_lt (label_code_lt a os) (digit_lt (a p)))

same_marks : (a b : Label) (os : List (Option ℕ)) → label_code a os ≡ label_code b os → (x p : ℕ) →
    slice_index_or os x None ≡ Some p → a p ≡ b p
unfolding label_code
same_marks a b [] e x p o = let f : ⊥ = cc in absurd f
same_marks a b (None ∷ os) e zero p o = let f : ⊥ = cc in absurd f
same_marks a b (None ∷ os) e (suc x) p o = same_marks a b os e x p o
same_marks a b (Some q ∷ os) e zero p o =
    let same : q ≡ p = cc in
    let parts = same_from_place (label_code a os) (digit (a q)) (label_code b os) (digit (b q)) 4 (digit_lt (a q)) (digit_lt (b q)) e in
    subst (λ r. a r ≡ b r) same (same_digit (a q) (b q) parts.1)
same_marks a b (Some q ∷ os) e (suc x) p o =
    let parts = same_from_place (label_code a os) (digit (a q)) (label_code b os) (digit (b q)) 4 (digit_lt (a q)) (digit_lt (b q)) e in
    same_marks a b os parts.0 x p o

moment : ℤ → ℕ
moment (pos n) = n
moment (negsuc n) = 0

moment_is : (z : ℤ) → pos 0 ≤ℤ z → pos (moment z) ≡ z
unfolding moment
moment_is (pos n) h = refl
moment_is (negsuc n) h = absurd (omega (arith, ints))

code : Network → Bound → ℕ
code net b = (b.node * (net.deadline + 2) + moment b.least) * 4 ^ count_observed net.observes + label_code b.label net.observes

moment_lt : (net : Network) (b : Bound) → IsRanged net b → moment b.least < net.deadline + 2
moment_lt net b r =
    let e = moment_is b.least r.low in
    let h = r.high in
    let l = limit_upto net b.node in
    let m : pos (moment b.least) ≤ℤ pos (limit net b.node + 1) = subst (λ z. z ≤ℤ pos (limit net b.node + 1)) (sym e) h in
    omega (arith, ints)

code_lt : (net : Network) (b : Bound) → MarksObserved net b → IsRanged net b → code net b < most_entries net
unfolding code
code_lt net b good r = digits_lt (digits_lt good.node (moment_lt net b r)) (label_code_lt b.label net.observes)

same_within : (m n : Mark) → m ≡ n → IsMarkWithin m n
same_within m n e = grind arith

-- two bounds of one number dominate each other
code_dominates : (net : Network) (a b : Bound) → MarksObserved net a → IsRanged net a → IsRanged net b → code net a ≡ code net b → Dominates a b
unfolding code
code_dominates net a b good r t e =
    let one = same_from_place (a.node * (net.deadline + 2) + moment a.least) (label_code a.label net.observes)
    (b.node * (net.deadline + 2) + moment b.least) (label_code b.label net.observes) (4 ^ count_observed net.observes)
    (label_code_lt a.label net.observes) (label_code_lt b.label net.observes) e in
    let two = same_from_place a.node (moment a.least) b.node (moment b.least) (net.deadline + 2) (moment_lt net a r) (moment_lt net b t) one.0 in
    let least_a = moment_is a.least r.low in
    let least_b = moment_is b.least t.low in
    let same : a.least ≡ b.least = sym least_a ∙ ap (λ n. pos n) two.1 ∙ least_b in
    record {
      node = two.0;
      least = omega (arith, ints);
      label = λ p. elim (absent_or_not (a.label p)) [
        | inl none ↦ rw none tt
        | inr marked ↦
            let o = good.observed p marked in
            same_within (a.label p) (b.label p) (same_marks a.label b.label net.observes one.1 o.0 p o.1.what)
      ];
    }

-- ---- what growth keeps

chain_finished : (net : Network) (c : Constraint) (b r : Bound) → chain_of net c b ≡ Some r → (d : Bound) × (finished net d ≡ r)
chain_finished net c b r e =
    let raw : Bound = record { node = c.from; least = b.least -ℤ c.most; label = joined b.label c.label } in
    elim (cases_Bool ((eqb b.node c.to) && (is_plain b.label && is_plain (joined b.label c.label)))) [
      | inl given ↦ let at = cond-true _ (Some (finished net raw)) None given in (raw, cc)
      | inr none ↦ let at = cond-false _ (Some (finished net raw)) None none in let f : ⊥ = cc in absurd f
    ]

wait_finished : (net : Network) (o : Option ℕ) (seen b r : Bound) → wait_by net o seen b ≡ Some r → (d : Bound) × (finished net d ≡ r)
wait_finished net None seen b r e = let f : ⊥ = cc in absurd f
wait_finished net (Some p) seen b r e =
    let raw : Bound = record {
      node = b.node;
      least = int_min (seen.least +ℤ pos (net.reaction p)) b.least;
      label = joined seen.label (without b.label p);
    } in
    elim (cases_Bool (is_absent (b.label p))) [
      | inr marked ↦ let at = cond-false (is_absent (b.label p)) None (Some (finished net raw)) marked in (raw, cc)
      | inl none ↦ let at = cond-true (is_absent (b.label p)) None (Some (finished net raw)) none in let f : ⊥ = cc in absurd f
    ]

one_finished : (net : Network) (c : Constraint) (o : Option Entry) (r : Bound) → of_one (chain_of net c) o ≡ Some r →
    (d : Bound) × (finished net d ≡ r)
one_finished net c None r e = let f : ⊥ = cc in absurd f
one_finished net c (Some x) r e = chain_finished net c x.bound r e

two_finished : (net : Network) (o u : Option Entry) (r : Bound) → of_two (wait_of net) o u ≡ Some r → (d : Bound) × (finished net d ≡ r)
two_finished net None u r e = let f : ⊥ = cc in absurd f
two_finished net (Some x) None r e = let f : ⊥ = cc in absurd f
two_finished net (Some x) (Some y) r e = wait_finished net (slice_index_or net.observes x.bound.node None) x.bound y.bound r e

from_finish : (net : Network) (L : List Entry) (i : Instance) (r : Bound) → conclusion net L i ≡ Some r → (d : Bound) × (finished net d ≡ r)
from_finish net L (chain_at c j) r e = one_finished net c (slice_get L j) r e
from_finish net L (wait_at i j) r e = two_finished net (slice_get L i) (slice_get L j) r e

finish_high : (net : Network) (d : Bound) → (finished net d).least ≤ℤ pos (limit net (finished net d).node + 1)
finish_high net d = omega (arith, ints, clamps)

pub covered_at : (L : List Entry) (k : ℕ) (e : Entry) (r : Bound) → slice_get L k ≡ Some e → Dominates e.bound r → is_covered L r ≡ true
covered_at [] k e r there d = let f : ⊥ = cc in absurd f
covered_at (x ∷ xs) zero e r there d =
    let same : e ≡ x = cc in
    or_left (dominates x.bound r) (is_covered xs r) (dominates_true x.bound r (subst (λ y. Dominates y.bound r) same d))
covered_at (x ∷ xs) (suc k) e r there d = or_right (dominates x.bound r) (is_covered xs r) (covered_at xs k e r there d)

module _ (net : Network) (wf : IsNetwork net) (letters : HasLetters net) where
  good_conclusion : (L : List Entry) (i : Instance) (r : Bound) → OfNetwork net i → AllGood net L → conclusion net L i ≡ Some r → MarksObserved net r
  good_conclusion L (chain_at c j) r of good e =
      conclusion_good net L (chain_at c j) r good (All-contains (IsConstraint net) net.constraints c wf.constraints of) e
  good_conclusion L (wait_at i j) r of good e = conclusion_good net L (wait_at i j) r good tt e

  pub kept_more : (L : List Entry) (i : Instance) (r : Bound) → OfNetwork net i → IsKeptList net L → conclusion net L i ≡ Some r →
      is_covered L r ≡ false → is_refuted net L ≡ false → IsKeptList net (with_entry L i r)
  kept_more L i r of k e free on =
      let new : Entry = record { bound = r; why = why_of i } in
      let ext : Extends L (with_entry L i r) = record { more = new ∷ []; is = refl } in
      let good_r = good_conclusion L i r of k.good e in
      let fin = from_finish net L i r e in
      let high = subst (λ b. b.least ≤ℤ pos (limit net b.node + 1)) fin.1 (finish_high net fin.0) in
      let low : pos 0 ≤ℤ r.least = by_lt_z r.least (pos 0)
      (λ below.
      let d = covered_by L (record { node = r.node; least = pos 0; label = empty })
      (λ j x there. good_small net x.bound letters (good_at net L j x k.good there)) (k.based r.node good_r.node) in
      let over : Dominates (record { node = r.node; least = pos 0; label = empty }) r =
      record { node = refl; least = omega (arith, ints); label = λ p. tt } in
      absurd (false≢true (sym free ∙ covered_at L d.place d.entry r d.there
      (dominates_through d.entry.bound (record { node = r.node; least = pos 0; label = empty }) r d.dominates over))))
      (λ h. h) in
      record {
        good = good_more net L (new ∷ []) k.good (good_r, tt);
        based = λ x here. covered_kept L (with_entry L i r) (record { node = x; least = pos 0; label = empty }) ext (k.based x here);
        ranged = λ j x there. elim (cases_lt j (length L)) [
          | inl before ↦ k.ranged j x (sym (get_kept L (with_entry L i r) j ext before) ∙ there)
          | inr past ↦ subst (λ y. IsRanged net y.bound) (get_last L new x j there past).1 (record { low = low; high = high })
        ];
        apart = λ a b x y lt at_a at_b d. elim (cases_lt b (length L)) [
          | inl before ↦
              k.apart a b x y lt (sym (get_kept L (with_entry L i r) a ext (omega arith)) ∙ at_a)
              (sym (get_kept L (with_entry L i r) b ext before) ∙ at_b) d
          | inr past ↦
              let last = get_last L new y b at_b past in
              let at = last.0 in
              let d_new = subst (λ z. Dominates x.bound z.bound) (sym last.1) d in
              false≢true (sym free ∙ covered_at L a x r (sym (get_kept L (with_entry L i r) a ext (omega arith)) ∙ at_a) d_new)
        ];
      }

  bases_node : (n k : ℕ) (e : Entry) → slice_get (bases n) k ≡ Some e →
      (e.bound.least ≡ pos 0) × (e.bound.node ≡ k) × (k < n)
  bases_node zero k e h = let f : ⊥ = cc in absurd f
  bases_node (suc n) k e h =
      let long = bases_length n in
      elim (cases_lt k n) [
        | inl before ↦
            let r = bases_node n k e (sym (get_kept (bases n) (bases (suc n)) k (record { more = _; is = refl }) (omega arith)) ∙ h) in
            (r.0, r.1, omega arith)
        | inr past ↦
            let last = get_last (bases n) _ e k h (omega arith) in
            let at = last.0 in
            (ap (λ x. x.bound.least) (sym last.1), ap (λ x. x.bound.node) (sym last.1) ∙ (let z : n ≡ k = omega arith in z), omega arith)
      ]
    where
      bases_length : (n : ℕ) → length (bases n) ≡ n
      bases_length zero = refl
      bases_length (suc n) = length-append (bases n) _ ∙ (let e = bases_length n in omega arith)

  pub bases_kept : IsKeptList net (bases (count net))
  bases_kept = record {
    good = bases_good net (count net) (omega arith);
    based = λ x here. bases_cover (count net) x here;
    ranged = λ k e there.
        let b = bases_node (count net) k e there in
        let z = b.0 in
        record { low = omega (arith, ints); high = omega (arith, ints) };
    apart = λ i j e f lt at_i at_j d.
        let a = bases_node (count net) i e at_i in
        let b = bases_node (count net) j f at_j in
        let x = a.1 in let y = b.1 in let n = d.node in omega arith;
  }

  code_of : Entry → ℕ
  code_of e = code net e.bound

  head_new : (n : ℕ) (L : List Entry) → ((k : ℕ) (e : Entry) → slice_get L k ≡ Some e → n ≡ code net e.bound → ⊥) →
      AllByRecursion (λ m. eqb n m ≡ false) (map code_of L)
  unfolding code_of
  head_new n [] new = tt
  head_new n (x ∷ xs) new = (ne_eqb n (code net x.bound) (new 0 x refl), head_new n xs (λ k e there. new (suc k) e there))

  codes_distinct : (L : List Entry) →
      ((i j : ℕ) (e f : Entry) → i < j → slice_get L i ≡ Some e → slice_get L j ≡ Some f → code net e.bound ≡ code net f.bound → ⊥) →
      IsDistinct eqb (map code_of L)
  unfolding code_of IsDistinct
  codes_distinct [] apart = tt
  codes_distinct (x ∷ xs) apart = (
    head_new (code net x.bound) xs (λ k e there. apart 0 (suc k) x e (omega arith) refl there),
    codes_distinct xs (λ i j e f lt at_i at_j. apart (suc i) (suc j) e f (omega arith) at_i at_j),
  )

  codes_below : (L : List Entry) (m : ℕ) → ((k : ℕ) (e : Entry) → slice_get L k ≡ Some e → code net e.bound < m) → (q : ℕ) →
      list_any (eqb q) (map code_of L) ≡ true → q < m
  unfolding code_of
  codes_below [] m below q h = absurd (false≢true h)
  codes_below (x ∷ xs) m below q h = elim (or_cases (eqb q (code net x.bound)) (list_any (eqb q) (map code_of xs)) h) [
    | inl here ↦ subst (λ n. n < m) (sym (eqb-true q (code net x.bound) here)) (below 0 x refl)
    | inr there ↦ codes_below xs m (λ k e at. below (suc k) e at) q there
  ]

  kept_short : (L : List Entry) → IsKeptList net L → length L ≤ most_entries net
  kept_short L k =
      subst (λ n. n ≤ most_entries net) (length-map L code_of)
      (length-le_from_distinct_below (map code_of L) (most_entries net)
      (codes_distinct L (λ i j e f before at_i at_j codes.
      k.apart i j e f before at_i at_j
      (code_dominates net e.bound f.bound (good_at net L i e k.good at_i) (k.ranged i e at_i) (k.ranged j f at_j) codes)))
      (codes_below L (most_entries net) (λ i e at. code_lt net e.bound (good_at net L i e k.good at) (k.ranged i e at))))

  pub grown_kept : (start : List Entry) (n : ℕ) → IsKeptList net start → IsKeptList net (grown net start n)
  grown_kept = grown_keeps net (IsKeptList net) kept_more

  pub grown_short : (start : List Entry) (n : ℕ) → IsKeptList net start → length (grown net start n) ≤ most_entries net
  grown_short start n k = kept_short (grown net start n) (grown_kept start n k)

  pub log_kept : IsKeptList net (log_of net)
  log_kept = grown_kept (bases (count net)) (length (bases (count net)) + most_entries net) bases_kept
