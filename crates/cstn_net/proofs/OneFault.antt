-- A builder has at most one lowest fault.
use Rattle.std.proofs.Common.{ℕ, ◌≡◌, inl, inr, ◌<◌, ◌≤◌, Option, Some, None, List, [], ◌∷◌, length, get_or, refl, sym, subst, arith, ◌∙◌}
use Rattle.std.specs.List.{HoldsAt}
use Rattle.std.proofs.lemmas.Bool.{cases_lt}
use Rattle.cstn_label.specs.declared.nodes.NodeId.{NodeId}
use Rattle.cstn_label.specs.declared.props.Prop.{Prop}
use Rattle.cstn_label.specs.Labels.{IsPlain}
use Rattle.cstn_label.specs.Read.{marks}
use Rattle.cstn_net.specs.declared.errors.NetError.{NetError}
use Rattle.cstn_net.specs.declared.errors.NetError.TheVariants.{TooManyNodes, NoOrigin, TooManyConstraints, DeadlineRange, ValueRange, NotObserved, TwoObservers, NotPlain, ReactionRange, Memory}
use Rattle.cstn_net.specs.Networks.{IsValue}
use Rattle.cstn_net.specs.Drafts.{BuilderParts, LacksObserver, IsLeastOfFirst, AreFirstTwins, HasReaction, HasNetFault, IsLowestNetFault, net_number, observations}
use Rattle.cstn_net.proofs.Same.{same_prop, same_node}
use Rattle.cstn_net.proofs.Lowest.{first_once, least_once, lowest_once}

-- what holds at a place of the list doesn't fail there
not_both : {X : Type 0} (P : X → Type 0) (xs : List X) (k : ℕ) → k < length xs → HoldsAt P xs k → HoldsAt (λ x. P x → ⊥) xs k → ⊥
not_both P [] k inside holds fails = omega arith
not_both P (x ∷ xs) k inside holds fails = fails x (holds x)

-- at most one number is the least at the first place
least_first_once : {X : Type 0} (P : ℕ → X → Type 0) (xs : List X) (p q : ℕ) → IsLeastOfFirst P xs p → IsLeastOfFirst P xs q → p ≡ q
least_first_once {X} P xs p q one other =
    let same : one.place ≡ other.place = first_once (length xs) (HoldsAt (λ x. (r : ℕ) × P r x) xs) one.place other.place one.first other.first in
    let at : (r : ℕ) → HoldsAt (P r) xs one.place → HoldsAt (P r) xs other.place = λ r. subst (HoldsAt (P r) xs) same in
    let back : (r : ℕ) → HoldsAt (P r) xs other.place → HoldsAt (P r) xs one.place = λ r. subst (HoldsAt (P r) xs) (sym same) in
    least_once (λ r. HoldsAt (P r) xs one.place) p q one.has
    (λ r below held. not_both (P r) xs one.place one.first.inside held (one.least r below))
    (back q other.has)
    (λ r below held. not_both (P r) xs other.place other.first.inside (at r held) (other.least r below))

module _ (observes : List (Option ℕ)) where
  -- the second of the first twins of one kind isn't before that of the other
  not_before : (p q a b c d : ℕ) → AreFirstTwins observes p a b → AreFirstTwins observes q c d → d ≤ b
  not_before p q a b c d one other = elim (cases_lt b d) [
    | inl before ↦ absurd (other.none_before (record {
      x = a;
      y = b;
      p = p;
      ordered = one.ordered;
      before = before;
      one = one.one;
      other = one.other;
    }))
    | inr upto ↦ upto
  ]

  -- the first of the first twins isn't before that of the other, where they observe one proposition
  not_earlier : (p q a b c d : ℕ) → p ≡ q → AreFirstTwins observes p a b → AreFirstTwins observes q c d → c ≤ a
  not_earlier p q a b c d same one other = elim (cases_lt a c) [
    | inl before ↦
        let downto = not_before p q a b c d one other in
        let ordered = other.ordered in
        absurd (one.none_before (record {
          x = a;
          y = c;
          p = p;
          ordered = before;
          before = omega arith;
          one = one.one;
          other = subst (λ r. get_or observes c None ≡ Some r) (sym same) other.one;
        }))
    | inr upto ↦ upto
  ]

  twins_prop : (p q a b c d : ℕ) → b ≡ d → AreFirstTwins observes p a b → AreFirstTwins observes q c d → p ≡ q
  twins_prop p q a b c d same one other =
      let here = one.other in
      let there : get_or observes b None ≡ Some q = subst (λ y. get_or observes y None ≡ Some q) (sym same) other.other in
      cc

  twins_once : (p q : Prop) (a b c d : NodeId) → AreFirstTwins observes p.index a.0 b.0 → AreFirstTwins observes q.index c.0 d.0 →
      TwoObservers p a b ≡ TwoObservers q c d
  twins_once p q a b c d one other =
      let downto = not_before p.index q.index a.0 b.0 c.0 d.0 one other in
      let upto = not_before q.index p.index c.0 d.0 a.0 b.0 other one in
      let second : b.0 ≡ d.0 = omega arith in
      let prop = twins_prop p.index q.index a.0 b.0 c.0 d.0 second one other in
      let low = not_earlier p.index q.index a.0 b.0 c.0 d.0 prop one other in
      let high = not_earlier q.index p.index c.0 d.0 a.0 b.0 (sym prop) other one in
      let first : a.0 ≡ c.0 = omega arith in
      let same_p = same_prop p q prop in
      let same_a = same_node a c first in
      let same_b = same_node b d second in
      cc

-- two faults of a builder with one number are one
one_by_number : (b : BuilderParts) (e f : NetError) → HasNetFault b e → HasNetFault b f → net_number e ≡ net_number f → e ≡ f
one_by_number b TooManyNodes TooManyNodes one other same = refl
one_by_number b NoOrigin NoOrigin one other same = refl
one_by_number b TooManyConstraints TooManyConstraints one other same = refl
one_by_number b (DeadlineRange h) (DeadlineRange k) one other same = let e : h ≡ k = one.0 ∙ sym other.0 in cc
one_by_number b (ValueRange k) (ValueRange l) one other same =
    let e = first_once (length b.drafts) (HoldsAt (λ d. IsValue d.most → ⊥) b.drafts) k l one other in cc
one_by_number b (NotObserved p) (NotObserved q) one other same =
    let e = same_prop p q (least_first_once (λ r d. LacksObserver (observations b) (marks d.label) r) b.drafts p.index q.index one other) in cc
one_by_number b (TwoObservers p x y) (TwoObservers q v w) one other same = twins_once (observations b) p q x y v w one other
one_by_number b (NotPlain k) (NotPlain l) one other same =
    let e = first_once (length b.drafts) (HoldsAt (λ d. IsPlain (marks d.label) → ⊥) b.drafts) k l one other in cc
one_by_number b (ReactionRange x) (ReactionRange y) one other same =
    let e = same_node x y (first_once (length b.points) (HoldsAt (λ t. HasReaction t → ⊥) b.points) x.0 y.0 one other) in cc
one_by_number b (Memory d) f one other same = absurd one
one_by_number b e (Memory d) one other same = absurd other
one_by_number b e f one other same = absurd (omega arith)

pub one_lowest : (b : BuilderParts) (e f : NetError) → IsLowestNetFault b e → IsLowestNetFault b f → e ≡ f
one_lowest b e f one other = lowest_once (HasNetFault b) net_number (one_by_number b) e f one other
