-- The tests decide the definitions.
use Rattle.std.proofs.Common.{ℕ, ◌≡◌, inl, inr, ◌<◌, true, false, not, ◌&&◌, eqb, ltb, Some, None, arith, sym, ap, ◌∙◌}
use Rattle.std.specs.Prelude.{ℤ, pos, ◌≤ℤ◌, int_lt, ◌-ℤ◌, ◌+ℤ◌}
use Rattle.std.specs.Int.{int_min}
use Rattle.std.proofs.lemmas.Int.{ints}
use Rattle.std.proofs.lemmas.Bool.{cases_lt, and_parts, and_from, eqb-true, eq-eqb, lt-ltb, cond-true, cond-false}
use Rattle.cstn_facts.proofs.Integers.{lt-int_lt}
use Rattle.cstn_label.specs.declared.marks.Mark.{Mark}
use Rattle.cstn_label.specs.Labels.{Label, IsMarkWithin, IsWithin, joined, without}
use Rattle.cstn_label.specs.declared.marks.Mark.TheVariants.{Absent}
use Rattle.cstn_net.specs.Networks.{Network, Constraint, Observes, count, limit}
use Rattle.cstn_label.specs.Bounds.{Bound, Dominates}
use Rattle.cstn_label.specs.Marks.{is_absent, is_plain}
use Rattle.cstn_label.proofs.PlainLabels.{each_at, each_from, plain_true}
use Rattle.cstn_rules.specs.Rules.{Refutes, finished, IsChain, IsWait}
use Rattle.cstn_rules.specs.Tests.{refutes, chain_of, wait_for, wait_of}
use Rattle.cstn_label.specs.Tests.{is_mark_within, is_within, dominates}
use Rattle.cstn_label.proofs.MarkLemmas.{absent_within}
use Rattle.cstn_label.specs.OnLetters.{IsOnLetters}

-- each observed proposition is one of the 52 letters
abbrev pub HasLetters : Network → Type 0
HasLetters net = (x p : ℕ) → Observes net x p → p < 52

mark_within_true : (m n : Mark) → IsMarkWithin m n → is_mark_within m n ≡ true
mark_within_true m n h = grind arith

true_mark_within : (m n : Mark) → is_mark_within m n ≡ true → IsMarkWithin m n
true_mark_within m n h = grind arith

not_absent : (m : Mark) → (m ≡ Absent → ⊥) → is_absent m ≡ false
not_absent m h = grind arith

pub false_absent : (m : Mark) → is_absent m ≡ false → m ≡ Absent → ⊥
false_absent m h e = grind arith

pub within_true : (a b : Label) → IsWithin a b → is_within a b ≡ true
within_true a b h = each_from (λ p. is_mark_within (a p) (b p)) 52 (λ p. mark_within_true (a p) (b p) (h p))

pub true_within : (a b : Label) → IsOnLetters a → is_within a b ≡ true → IsWithin a b
true_within a b small e = λ p. elim (cases_lt p 52) [
  | inl below ↦ true_mark_within (a p) (b p) (each_at (λ q. is_mark_within (a q) (b q)) 52 p below e)
  | inr above ↦ absent_within (a p) (b p) (small p above)
]

not_less : (a b : ℤ) → b ≤ℤ a → not (int_lt a b) ≡ true
not_less a b h = grind (arith, ints)

less_not : (a b : ℤ) → not (int_lt a b) ≡ true → b ≤ℤ a
less_not a b h = grind (arith, ints)

pub dominates_true : (a b : Bound) → Dominates a b → dominates a b ≡ true
dominates_true a b d =
    and_from (eqb a.node b.node) (not (int_lt a.least b.least) && is_within a.label b.label) (eq-eqb a.node b.node d.node)
    (and_from (not (int_lt a.least b.least)) (is_within a.label b.label) (not_less a.least b.least d.least)
    (within_true a.label b.label d.label))

pub true_dominates : (a b : Bound) → IsOnLetters a.label → dominates a b ≡ true → Dominates a b
true_dominates a b small e =
    let one = and_parts (eqb a.node b.node) (not (int_lt a.least b.least) && is_within a.label b.label) e in
    let two = and_parts (not (int_lt a.least b.least)) (is_within a.label b.label) one.1 in
    record {
      node = eqb-true a.node b.node one.0;
      least = less_not a.least b.least two.0;
      label = true_within a.label b.label small two.1;
    }

pub refutes_true : (net : Network) (b : Bound) → Refutes net b → refutes net b ≡ true
refutes_true net b r =
    and_from (ltb b.node (count net)) (is_plain b.label && int_lt (pos (limit net b.node)) b.least)
    (lt-ltb b.node (count net) r.node)
    (and_from (is_plain b.label) (int_lt (pos (limit net b.node)) b.least) (plain_true b.label r.plain)
    (lt-int_lt (pos (limit net b.node)) b.least r.above))

-- the rules' conclusions are what the functions give
pub chain_gives : (net : Network) (c : Constraint) (b r : Bound) → IsChain net c b r → chain_of net c b ≡ Some r
chain_gives net c b r chain =
    let made = finished net (record { node = c.from; least = b.least -ℤ c.most; label = joined b.label c.label }) in
    cond-true ((eqb b.node c.to) && (is_plain b.label && is_plain (joined b.label c.label))) (Some made) None
    (and_from (eqb b.node c.to) (is_plain b.label && is_plain (joined b.label c.label)) (eq-eqb b.node c.to chain.at)
    (and_from (is_plain b.label) (is_plain (joined b.label c.label)) (plain_true b.label chain.plain)
    (plain_true (joined b.label c.label) chain.together)))
    ∙ sym (ap (λ x. Some x) chain.gives)

pub wait_gives : (net : Network) (p : ℕ) (seen b r : Bound) → IsWait net p seen b r → wait_of net seen b ≡ Some r
wait_gives net p seen b r wait =
    let made = finished net (record {
      node = b.node;
      least = int_min (seen.least +ℤ pos (net.reaction p)) b.least;
      label = joined seen.label (without b.label p);
    }) in
    let at : wait_of net seen b ≡ wait_for net (Some p) seen b = ap (λ o. wait_for net o seen b) wait.observes.what in
    at ∙ cond-false (is_absent (b.label p)) None (Some made) (not_absent (b.label p) wait.marked)
    ∙ sym (ap (λ x. Some x) wait.gives)
