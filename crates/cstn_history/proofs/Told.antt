-- What was told, as the program keeps it.
use Rattle.std.proofs.Common.{ℕ, ◌≡◌, inl, inr, ◌+◌, ◌<◌, ◌≤◌, Bool, true, false, Option, Some, None, arith, refl, sym, subst, ap, ◌∙◌}
use Rattle.std.specs.Option.{is_some}
use Rattle.std.specs.Prelude.{cond, ◌↔◌, IsTrue, ◌==◌, if◌then◌else◌}
use Rattle.std.specs.List.{range_with_len}
use Rattle.std.proofs.Math.Path.{fun_ext}
use Rattle.std.proofs.lemmas.Bool.{cases_lt, cases_eq, eq-eqb, ne_eqb}
use Rattle.std.proofs.lemmas.List.Elements.{All-contains}
use Rattle.std.proofs.lemmas.List.Sums.{list_all-from_AllPass, AllPass-from_list_all}
use Rattle.std.proofs.lemmas.Option.{cond_some}
use Rattle.cstn_facts.proofs.Ranges.{range_contains, range_all}
use Rattle.cstn_facts.proofs.Booleans.{same_truth}
use Rattle.cstn_label.specs.declared.marks.Mark.{Mark}
use Rattle.cstn_label.specs.declared.marks.Mark.TheVariants.{Absent}
use Rattle.cstn_label.specs.declared.knowledge.Known.{Known}
use Rattle.cstn_label.specs.Labels.{Label, MarkFits, IsPossible, without}
use Rattle.cstn_label.specs.Words.{has_bit}
use Rattle.cstn_label.specs.Read.{is_known, the_values, known_value}
use Rattle.cstn_label.specs.OnLetters.{IsOnLetters}
use Rattle.cstn_history.specs.Histories.{History, SettlesMark, Settles, allows, mark_left, label_left, IsAllowed}
use Rattle.cstn_history.specs.Facts.{settles_mark, settles}
use Rattle.cstn_history.proofs.Settled.{allows_true, allows_below, settles_left, settles_allows}
use Rattle.cstn_label.proofs.MarkLemmas.{fits_absent}

possible_allows : (k : Known) (h : History) (a : Label) → h.told ≡ known_value k → IsPossible (is_known k) (the_values k) a → IsAllowed h a
possible_allows k h a same possible p v e =
    let both = cond_some (has_bit k.seen p) (the_values k p) v (sym (ap (λ f. f p) same) ∙ e) in
    subst (λ w. MarkFits w (a p)) both.1 (possible p both.0)

allows_possible : (k : Known) (h : History) (a : Label) → h.told ≡ known_value k → IsOnLetters a → allows h a ≡ true →
    IsPossible (is_known k) (the_values k) a
allows_possible k h a same below e p known = elim (cases_lt p 52) [
  | inl inside ↦ allows_below h a e p (the_values k p) inside
      (ap (λ f. f p) same ∙ ap (λ b. if b then Some (the_values k p) else None) known)
  | inr past ↦ fits_absent (the_values k p) (a p) (below p past)
]

-- the program's test whether what is told allows a label
pub allowed_is : (k : Known) (h : History) (a : Label) (b : Bool) → h.told ≡ known_value k → IsOnLetters a →
    (IsTrue b ↔ IsPossible (is_known k) (the_values k) a) → b ≡ allows h a
allowed_is k h a b same below test = same_truth b (allows h a)
    (λ e. allows_true h a (possible_allows k h a same (test.0 e)))
    (λ e. test.1 (allows_possible k h a same below e))

settle_right : (o : Option Bool) (a : Mark) → settles_mark o a ≡ true → SettlesMark o a
settle_right None a e = grind arith
settle_right (Some v) a e = grind arith

settle_true : (o : Option Bool) (a : Mark) → SettlesMark o a → settles_mark o a ≡ true
settle_true None a s = grind arith
settle_true (Some v) a s = grind arith

settle_absent : (o : Option Bool) (a : Mark) → a ≡ Absent → SettlesMark o a
settle_absent None a e = e
settle_absent (Some v) a e = fits_absent v a e

pub settles_true : (h : History) (a : Label) → Settles h a → settles h a ≡ true
unfolding settles
settles_true h a s = list_all-from_AllPass (λ p. settles_mark (h.told p) (a p)) (range_with_len 0 52)
    (range_all (λ p. settles_mark (h.told p) (a p) ≡ true) 0 52 (λ p low high. settle_true (h.told p) (a p) (s p)))

pub settles_back : (h : History) (a : Label) → IsOnLetters a → settles h a ≡ true → Settles h a
unfolding settles
settles_back h a below e p = elim (cases_lt p 52) [
  | inl inside ↦ settle_right (h.told p) (a p) (All-contains (λ q. settles_mark (h.told q) (a q) ≡ true) (range_with_len 0 52) p
      (AllPass-from_list_all (λ q. settles_mark (h.told q) (a q)) (range_with_len 0 52) e) (range_contains 52 p inside))
  | inr past ↦ settle_absent (h.told p) (a p) (below p past)
]

settle_by : (o : Option Bool) (a : Mark) → ((v : Bool) → o ≡ Some v → MarkFits v a) → mark_left o a ≡ Absent → SettlesMark o a
settle_by None a fits gone = gone
settle_by (Some v) a fits gone = fits v refl

-- the program's test whether what is told settles a label: nothing is left of it, and it is allowed
pub settled_is : (h : History) (a : Label) (b : Bool) → IsOnLetters a → b ≡ allows h a → ((p : ℕ) → label_left h a p ≡ Absent) → b ≡ settles h a
settled_is h a b below allowed gone = same_truth b (settles h a)
    (λ e. settles_true h a (λ p. settle_by (h.told p) (a p) (fits (sym allowed ∙ e) p) (gone p)))
    (λ e. allowed ∙ allows_true h a (settles_allows h a (settles_back h a below e)))
  where
    fits : allows h a ≡ true → (p : ℕ) (v : Bool) → h.told p ≡ Some v → MarkFits v (a p)
    fits e p v is = elim (cases_lt p 52) [
      | inl inside ↦ allows_below h a e p v inside is
      | inr past ↦ fits_absent v (a p) (below p past)
    ]

pub unsettled_is : (h : History) (a : Label) (p : ℕ) → IsOnLetters a → (label_left h a p ≡ Absent → ⊥) → false ≡ settles h a
unsettled_is h a p below stays = same_truth false (settles h a) (λ e. absurd (cc))
    (λ e. absurd (stays (settles_left h a p (settles_back h a below e))))

-- one mark is taken off where its proposition was told
left_more : (o : Option Bool) (a : Mark) → mark_left o Absent ≡ Absent
left_more None a = refl
left_more (Some v) a = refl

module _ (h : History) (a b d : Label) (from p : ℕ) (mark : (q : ℕ) → d q ≡ (if q == p then mark_left (h.told q) (b q) else b q)) where
  there : d p ≡ mark_left (h.told p) (b p)
  there = mark p ∙ ap (λ t. if t then mark_left (h.told p) (b p) else b p) (eq-eqb p p refl)

  pub elsewhere : (q : ℕ) → (q ≡ p → ⊥) → d q ≡ b q
  elsewhere q other = mark q ∙ ap (λ t. if t then mark_left (h.told q) (b q) else b q) (ne_eqb q p other)

  pub turn_left : from ≤ p → ((q : ℕ) → q < from → b q ≡ mark_left (h.told q) (a q)) → ((q : ℕ) → from ≤ q → b q ≡ a q) →
      ((q : ℕ) → from ≤ q → q < p → a q ≡ Absent) → (q : ℕ) → q < p + 1 → d q ≡ mark_left (h.told q) (a q)
  turn_left low before ahead skipped q upto = elim (cases_eq q p) [
    | inl same ↦
        subst (λ r. d r ≡ mark_left (h.told r) (a r)) (sym same) (there ∙ ap (mark_left (h.told p)) (ahead p low))
    | inr other ↦ elim (cases_lt q from) [
      | inl earlier ↦ elsewhere q other ∙ before q earlier
      | inr later ↦
          let none = skipped q later (omega arith) in
          elsewhere q other ∙ ahead q later ∙ none ∙ sym (ap (mark_left (h.told q)) none ∙ left_more (h.told q) (a q))
    ]
  ]

pub left_end : (h : History) (a b : Label) (from : ℕ) → ((q : ℕ) → q < from → b q ≡ mark_left (h.told q) (a q)) →
    ((q : ℕ) → from ≤ q → b q ≡ a q) → ((q : ℕ) → from ≤ q → a q ≡ Absent) → b ≡ label_left h a
left_end h a b from before ahead none = fun_ext (λ q. elim (cases_lt q from) [
  | inl earlier ↦ before q earlier
  | inr later ↦
      let gone = none q later in
      ahead q later ∙ gone ∙ sym (ap (mark_left (h.told q)) gone ∙ left_more (h.told q) (a q))
])

-- the label without its mark on p, which was told
pub mark_taken : (told : ℕ → Option Bool) (a : Label) (p : ℕ) → is_some (told p) ≡ true → (q : ℕ) →
    without a p q ≡ (if q == p then mark_left (told q) (a q) else a q)
mark_taken told a p e q = elim (cases_eq q p) [
  | inl same ↦
      let some : is_some (told q) ≡ true = ap (λ r. is_some (told r)) same ∙ e in
      ap (λ t. cond t Absent (a q)) (eq-eqb q p same) ∙ sym (ap (λ t. if t then mark_left (told q) (a q) else a q) (eq-eqb q p same) ∙ taken (told q) (a q) some)
  | inr other ↦
      ap (λ t. cond t Absent (a q)) (ne_eqb q p other) ∙ sym (ap (λ t. if t then mark_left (told q) (a q) else a q) (ne_eqb q p other))
]
  where
    taken : (o : Option Bool) (b : Mark) → is_some o ≡ true → mark_left o b ≡ Absent
    taken None b f = absurd (cc)
    taken (Some v) b f = refl

pub allows_both : (h : History) (a : Label) → IsOnLetters a → IsTrue (allows h a) ↔ IsAllowed h a
allows_both h a below = (
  (λ e p v is. elim (cases_lt p 52) [
    | inl inside ↦ allows_below h a e p v inside is
    | inr past ↦ fits_absent v (a p) (below p past)
  ]),
  allows_true h a,
)

pub settles_both : (h : History) (a : Label) → IsOnLetters a → IsTrue (settles h a) ↔ Settles h a
settles_both h a below = (settles_back h a below, settles_true h a)
