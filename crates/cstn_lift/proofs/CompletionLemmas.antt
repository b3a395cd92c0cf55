-- Completion ends, and gives the least complete label that contains its argument.
use Rattle.std.proofs.Common.{ℕ, zero, suc, ◌≡◌, ◌⊎◌, inl, inr, ◌+◌, ◌<◌, ◌≤◌, Bool, true, false, Option, Some, None, arith, refl, sym, subst, ap, ◌∙◌}
use Rattle.std.specs.Prelude.{slice_index_or, if◌then◌else◌}
use Rattle.std.proofs.lemmas.Bool.{cases_lt}
use Rattle.cstn_label.specs.declared.marks.Mark.{Mark}
use Rattle.cstn_label.specs.declared.marks.Mark.TheVariants.{Absent}
use Rattle.cstn_label.specs.Labels.{Label, IsMarked, IsMarkWithin, IsWithin, joined, joined_mark, empty}
use Rattle.cstn_label.proofs.LabelLemmas.{within_itself, within_through, within_same, within_joined}
use Rattle.cstn_label.specs.Marks.{is_marked}
use Rattle.cstn_net.specs.Networks.{Network, Observes, count}
use Rattle.cstn_net.proofs.Knowledge.{observer_within}
use Rattle.cstn_lift.specs.Labelled.{Labelled, label_of}
use Rattle.cstn_lift.specs.Faults.{ObservesMark}
use Rattle.cstn_lift.specs.Completion.{is_observed_by, brought_by, joined_upto, rounds, completed, IsCompleteLabel, IsLabelOfObserver}
use Rattle.cstn_label.proofs.MarkLemmas.{marked_true, true_marked}

mark_within_left : (m n : Mark) → IsMarkWithin m (joined_mark m n)
mark_within_left m n = grind arith

mark_within_right : (m n : Mark) → IsMarkWithin n (joined_mark m n)
mark_within_right m n = grind arith

pub within_left : (a b : Label) → IsWithin a (joined a b)
within_left a b = λ p. mark_within_left (a p) (b p)

pub within_right : (a b : Label) → IsWithin b (joined a b)
within_right a b = λ p. mark_within_right (a p) (b p)

pub empty_within : (a : Label) → IsWithin empty a
empty_within a = λ p. tt

marked_more : (m n : Mark) → IsMarkWithin m n → is_marked m ≡ true → is_marked n ≡ true
marked_more m n h k = grind arith

observed_more : (o : Option ℕ) (a b : Label) → IsWithin a b → is_observed_by o a ≡ true → is_observed_by o b ≡ true
observed_more None a b h k = k
observed_more (Some p) a b h k = marked_more (a p) (b p) (h p) k

module _ (m : Labelled) where
  abbrev pub what : ℕ → Option ℕ
  what x = slice_index_or m.base.observes x None

  pub seen_marked : (a : Label) (x p : ℕ) → Observes m.base x p → IsMarked a p → is_observed_by (what x) a ≡ true
  seen_marked a x p o marked = rw o.what (marked_true (a p) marked)

  -- where l is within c if a marks what is observed, the label that is brought, l or the empty one, is within c
  brought_if : (a c l : Label) (o : Option ℕ) (b : Bool) → is_observed_by o a ≡ b → (b ≡ true → IsWithin l c) →
      IsWithin (if b then l else empty) c
  brought_if a c l o true e h = h refl
  brought_if a c l o false e h = empty_within c

  marked_here : (a : Label) (o : Option ℕ) → is_observed_by o a ≡ true → (p : ℕ) × (o ≡ Some p) × IsMarked a p
  marked_here a None e = absurd (cc)
  marked_here a (Some p) e = (p, refl, true_marked (a p) e)

  brought_within : (a c : Label) (x : ℕ) → ((p : ℕ) → Observes m.base x p → IsMarked a p → IsWithin (label_of m x) c) →
      IsWithin (brought_by m x a) c
  brought_within a c x h = brought_if a c (label_of m x) (what x) (is_observed_by (what x) a) refl (λ e.
      let here = marked_here a (what x) e in
      h here.0 (record { what = here.1 }) here.2)

  brought_is : (a : Label) (x p : ℕ) → Observes m.base x p → IsMarked a p → brought_by m x a ≡ label_of m x
  brought_is a x p o marked = ap (λ b. if b then label_of m x else empty) (seen_marked a x p o marked)

  upto_contains : (n : ℕ) (a : Label) → IsWithin a (joined_upto m n a)
  upto_contains zero a = within_itself a
  upto_contains (suc n) a =
      within_through a (joined_upto m n a) (joined_upto m (suc n) a) (upto_contains n a) (within_left (joined_upto m n a) (brought_by m n a))

  upto_has : (n : ℕ) (a : Label) (x p : ℕ) → x < n → Observes m.base x p → IsMarked a p → IsWithin (label_of m x) (joined_upto m n a)
  upto_has zero a x p before o marked = absurd (omega arith)
  upto_has (suc n) a x p before o marked = elim (cases_lt x n) [
    | inl earlier ↦
        within_through (label_of m x) (joined_upto m n a) (joined_upto m (suc n) a) (upto_has n a x p earlier o marked)
        (within_left (joined_upto m n a) (brought_by m n a))
    | inr later ↦
        let same : n ≡ x = omega arith in
        subst (λ l. IsWithin l (joined_upto m (suc n) a)) (ap (λ y. brought_by m y a) same ∙ brought_is a x p o marked)
        (within_right (joined_upto m n a) (brought_by m n a))
  ]

  upto_least : (n : ℕ) (a c : Label) → IsWithin a c →
      ((x p : ℕ) → Observes m.base x p → IsMarked a p → IsWithin (label_of m x) c) → IsWithin (joined_upto m n a) c
  upto_least zero a c h each = h
  upto_least (suc n) a c h each =
      within_joined (joined_upto m n a) (brought_by m n a) c (upto_least n a c h each) (brought_within a c n (λ p. each n p))

  abbrev pub round : Label → Label
  round a = joined_upto m (count m.base) a

  pub round_has : (a : Label) (x p : ℕ) → Observes m.base x p → IsMarked a p → IsWithin (label_of m x) (round a)
  round_has a x p o marked = upto_has (count m.base) a x p (observer_within m.base x p o) o marked

  pub round_contains : (a : Label) → IsWithin a (round a)
  round_contains a = upto_contains (count m.base) a

  pub round_is : (a b : Label) → IsWithin a b → ((x p : ℕ) → Observes m.base x p → IsMarked a p → IsWithin (label_of m x) b) →
      IsWithin b (round a) → b ≡ round a
  round_is a b h each below = within_same b (round a) below (upto_least (count m.base) a b h each)

  pub fixed_complete : (a : Label) → round a ≡ a → IsCompleteLabel m a
  fixed_complete a e x p o marked = subst (λ b. IsWithin (label_of m x) b) e (round_has a x p o marked)

  rounds_contain : (n : ℕ) (a : Label) → IsWithin a (rounds m n a)
  rounds_contain zero a = within_itself a
  rounds_contain (suc n) a =
      within_through a (rounds m n a) (rounds m (suc n) a) (rounds_contain n a) (round_contains (rounds m n a))

  marked_within : (a c : Label) (p : ℕ) → IsWithin a c → IsMarked a p → IsMarked c p
  marked_within a c p h marked = true_marked (c p) (marked_more (a p) (c p) (h p) (marked_true (a p) marked))

  rounds_least : (n : ℕ) (a c : Label) → IsWithin a c → IsCompleteLabel m c → IsWithin (rounds m n a) c
  rounds_least zero a c h closed = h
  rounds_least (suc n) a c h closed =
      let before = rounds_least n a c h closed in
      upto_least (count m.base) (rounds m n a) c before (λ x p o marked.
      closed x p o (marked_within (rounds m n a) c p before marked))

  -- how many of the first n time-points observe what the label marks
  bit : Bool → ℕ
  bit true = 1
  bit false = 0

  pub seen : ℕ → Label → ℕ
  seen zero a = 0
  seen (suc n) a = seen n a + bit (is_observed_by (what n) a)

  bit_upto : (b : Bool) → bit b ≤ 1
  unfolding bit
  bit_upto true = omega arith
  bit_upto false = omega arith

  seen_upto : (n : ℕ) (a : Label) → seen n a ≤ n
  unfolding seen
  seen_upto zero a = omega arith
  seen_upto (suc n) a =
      let before = seen_upto n a in
      let here = bit_upto (is_observed_by (what n) a) in
      omega arith

  bits : (b c : Bool) → (b ≡ true → c ≡ true) → ((b ≡ c) × (bit b ≡ bit c)) ⊎ ((b ≡ false) × (c ≡ true) × (bit b < bit c))
  unfolding bit
  bits true true h = inl (refl, refl)
  bits true false h = let e : false ≡ true = h refl in absurd (cc)
  bits false true h = inr (refl, refl, omega arith)
  bits false false h = inl (refl, refl)

  abbrev pub Alike : ℕ → Label → Label → Type 0
  Alike n a b = (x : ℕ) → x < n → is_observed_by (what x) a ≡ is_observed_by (what x) b

  pub same_or_more : (n : ℕ) (a b : Label) → IsWithin a b → (Alike n a b × (seen n a ≡ seen n b)) ⊎ (seen n a < seen n b)
  unfolding seen
  same_or_more zero a b h = inl ((λ x before. absurd (omega arith)), refl)
  same_or_more (suc n) a b h =
      let here = bits (is_observed_by (what n) a) (is_observed_by (what n) b) (observed_more (what n) a b h) in
      elim (same_or_more n a b h) [
        | inr less ↦ elim here [
          | inl same ↦ let e = same.1 in inr (omega arith)
          | inr more ↦ let e = more.2 in inr (omega arith)
        ]
        | inl alike ↦ elim here [
          | inl same ↦
              let e = same.1 in
              let f = alike.1 in
              inl (
                (λ x before. elim (cases_lt x n) [
                  | inl earlier ↦ alike.0 x earlier
                  | inr later ↦
                      let at : n ≡ x = omega arith in
                      subst (λ y. is_observed_by (what y) a ≡ is_observed_by (what y) b) at same.0
                ]),
                omega arith,
              )
          | inr more ↦ let e = more.2 in let f = alike.1 in inr (omega arith)
        ]
      ]

  seen_some : (n : ℕ) (a : Label) (x : ℕ) → x < n → is_observed_by (what x) a ≡ true → 0 < seen n a
  unfolding seen bit
  seen_some zero a x before e = absurd (omega arith)
  seen_some (suc n) a x before e = elim (cases_lt x n) [
    | inl earlier ↦ let some = seen_some n a x earlier e in omega arith
    | inr later ↦
        let at : x ≡ n = omega arith in
        let one : bit (is_observed_by (what n) a) ≡ 1 = ap bit (subst (λ y. is_observed_by (what y) a ≡ true) at e) in
        omega arith
  ]

  -- either a round marks more of what is observed, or the round after it changes nothing
  fixed_or_more : (a : Label) → (round (round a) ≡ round a) ⊎ (seen (count m.base) a < seen (count m.base) (round a))
  fixed_or_more a = elim (same_or_more (count m.base) a (round a) (round_contains a)) [
    | inr more ↦ inr more
    | inl alike ↦ inl (sym (round_is (round a) (round a) (within_itself (round a)) (λ x p o marked.
        let here = observer_within m.base x p o in
        let set = alike.0 x here ∙ seen_marked (round a) x p o marked in
        let back = marked_here a (what x) set in
        let same : Observes m.base x back.0 = record { what = back.1 } in
        round_has a x back.0 same back.2) (round_contains (round a))))
  ]

  fixed_or_seen : (n : ℕ) (a : Label) → (round (rounds m n a) ≡ rounds m n a) ⊎ (n < seen (count m.base) (rounds m n a))
  fixed_or_seen zero a = elim (cases_lt 0 (seen (count m.base) a)) [
    | inl some ↦ inr some
    | inr none ↦ inl (sym (round_is a a (within_itself a) (λ x p o marked.
        let some = seen_some (count m.base) a x (observer_within m.base x p o) (seen_marked a x p o marked) in
        absurd (omega arith)) (round_contains a)))
  ]
  fixed_or_seen (suc n) a = elim (fixed_or_seen n a) [
    | inl fixed ↦ inl (ap round fixed)
    | inr some ↦ elim (fixed_or_more (rounds m n a)) [
      | inl fixed ↦ inl fixed
      | inr more ↦ inr (omega arith)
    ]
  ]

  pub completed_complete : (a : Label) → IsCompleteLabel m (completed m a)
  completed_complete a = elim (fixed_or_seen (count m.base) a) [
    | inl fixed ↦ fixed_complete (completed m a) fixed
    | inr more ↦ let upto = seen_upto (count m.base) (completed m a) in absurd (omega arith)
  ]

  pub completed_contains : (a : Label) → IsWithin a (completed m a)
  completed_contains a = rounds_contain (count m.base) a

  pub completed_least : (a c : Label) → IsWithin a c → IsCompleteLabel m c → IsWithin (completed m a) c
  completed_least a c h closed = rounds_least (count m.base) a c h closed

  pub completed_idempotent : (a : Label) → completed m (completed m a) ≡ completed m a
  completed_idempotent a = within_same (completed m (completed m a)) (completed m a)
      (completed_least (completed m a) (completed m a) (within_itself (completed m a)) (completed_complete a))
      (completed_contains (completed m a))

  pub completed_grows : (a b : Label) → IsWithin a b → IsWithin (completed m a) (completed m b)
  completed_grows a b h =
      completed_least a (completed m b) (within_through a b (completed m b) h (completed_contains b)) (completed_complete b)

  -- where a further round changes nothing, the label is the completed one
  pub rounds_end : (n : ℕ) (a : Label) → round (rounds m n a) ≡ rounds m n a → rounds m n a ≡ completed m a
  rounds_end n a fixed = within_same (rounds m n a) (completed m a)
      (rounds_least n a (completed m a) (completed_contains a) (completed_complete a))
      (completed_least a (rounds m n a) (rounds_contain n a) (fixed_complete (rounds m n a) fixed))

-- the next marked proposition, p: the label of its observer, if it has one, is joined in
module _ (m : Labelled) (one : (x y p : ℕ) → Observes m.base x p → Observes m.base y p → x ≡ y) (a b c : Label) (from p : ℕ)
    (new : IsLabelOfObserver m p c) where
  pub turn_joined : ((q : ℕ) → from ≤ q → q < p → a q ≡ Absent) →
      ((x q : ℕ) → q < from → Observes m.base x q → IsMarked a q → IsWithin (label_of m x) b) →
      (x q : ℕ) → q < p + 1 → Observes m.base x q → IsMarked a q → IsWithin (label_of m x) (joined b c)
  turn_joined skipped before x q upto o marked = elim (cases_lt q from) [
    | inl earlier ↦ within_through (label_of m x) b (joined b c) (before x q earlier o marked) (within_left b c)
    | inr later ↦ elim (cases_lt q p) [
      | inl between ↦ absurd (marked (skipped q later between))
      | inr last ↦
          let at : q ≡ p = omega arith in
          let o_p : Observes m.base x p = subst (λ r. Observes m.base x r) at o in
          elim new [
            | inl found ↦
                let same : c ≡ label_of m x = found.2 ∙ ap (λ y. label_of m y) (one found.0 x p found.1 o_p) in
                subst (λ l. IsWithin l (joined b c)) same (within_right b c)
            | inr none ↦ absurd (none.0 x o_p)
          ]
    ]
  ]

  pub turn_upto : IsMarked a p → IsWithin b (round m a) → IsWithin (joined b c) (round m a)
  turn_upto marked h = within_joined b c (round m a) h (elim new [
    | inl found ↦ subst (λ l. IsWithin l (round m a)) (sym found.2) (round_has m a found.0 p found.1 marked)
    | inr none ↦ subst (λ l. IsWithin l (round m a)) (sym none.1) (empty_within (round m a))
  ])

-- the test whether a label marks what x observes
pub seen_by : (net : Network) (a b : Label) (o : Option ℕ) (x : ℕ) → o ≡ slice_index_or net.observes x None → a ≡ b →
    is_observed_by o a ≡ true → ObservesMark net b x
seen_by net a b None x at same e = absurd (cc)
seen_by net a b (Some p) x at same e =
    (p, record { what = sym at }, subst (λ l. IsMarked l p) same (true_marked (a p) e))

pub unseen_by : (net : Network) (a b : Label) (o : Option ℕ) (x : ℕ) → o ≡ slice_index_or net.observes x None → a ≡ b →
    is_observed_by o a ≡ false → ObservesMark net b x → ⊥
unseen_by net a b o x at same e seen =
    let set : is_observed_by o a ≡ true = ap (λ l. is_observed_by o l) same ∙ rw (at ∙ seen.1.what) (marked_true (b seen.0) seen.2) in
    cc
