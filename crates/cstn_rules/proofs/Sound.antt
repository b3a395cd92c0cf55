-- What a rule gives holds in each strategy in which its premises hold, and a refuting bound in none.
use Rattle.std.proofs.Common.{ℕ, ◌≡◌, ◌<◌, inl, inr, Option, Some, None, false, arith, refl, sym, subst}
use Rattle.std.specs.Prelude.{pos, ◌≤ℤ◌, slice_index_or}
use Rattle.std.specs.List.{Contains}
use Rattle.std.proofs.lemmas.Int.{ints, clamps}
use Rattle.std.proofs.lemmas.List.Elements.{All-contains}
use Rattle.cstn_label.specs.Labels.{Label, Scenario, Holds, IsPossible, IsPlain, MarkFits, joined, without}
use Rattle.cstn_label.specs.Bounds.{Bound}
use Rattle.cstn_label.proofs.LabelLemmas.{made_true, made_holds, made_agrees, holds_left, holds_right, possible_left, possible_right, possible_earlier, without_other}
use Rattle.cstn_net.specs.Networks.{Network, IsNetwork, IsConstraint, Constraint, Observes, count}
use Rattle.cstn_net.specs.Strategies.{Schedule, Table, IsKnown, IsDynamic, IsStrategy, Meets}
use Rattle.cstn_net.specs.Bounds.{HoldsIn}
use Rattle.cstn_net.proofs.Knowledge.{known_later, known_or_not, unknown_at_observer, base_holds}
use Rattle.cstn_rules.specs.Rules.{finished, carried, awaited, without_own, IsBase, IsChain, IsWait, Refutes}

-- where p isn't known, a label is possible if it is possible without its mark on p
possible_without : (known : ℕ → Type 0) (s : Scenario) (a : Label) (p : ℕ) → (known p → ⊥) →
    IsPossible known s (without a p) → IsPossible known s a
possible_without known s a p not_known possible = λ q k.
    let other : q ≡ p → ⊥ = λ e. not_known (subst known e k) in
    subst (λ m. MarkFits (s q) m) (without_other a p q other) (possible q k)

-- at an observer's moment a label is possible if it is possible without its mark on what that observes
own_possible : (net : Network) (at : Schedule) (s : Scenario) (x : ℕ) (a : Label) (o : Option ℕ) → IsNetwork net →
    slice_index_or net.observes x None ≡ o →
    IsPossible (IsKnown net at (at x)) s (without_own o a) → IsPossible (IsKnown net at (at x)) s a
own_possible net at s x a None good e possible = possible
own_possible net at s x a (Some p) good e possible =
    possible_without (IsKnown net at (at x)) s a p (unknown_at_observer net at x p good (record { what = e })) possible

finished_holds : (net : Network) (table : Table) (b : Bound) → IsNetwork net → HoldsIn net table b →
    HoldsIn net table (finished net b)
finished_holds net table b good h = record {
  holds = λ s possible.
      let asked = h.holds s (own_possible net (table s) s b.node b.label (slice_index_or net.observes b.node None) good refl possible) in
      omega (arith, ints, clamps);
}

pub base_sound : (net : Network) (table : Table) (r : Bound) → IsBase net r → HoldsIn net table r
base_sound net table r b = subst (λ x. HoldsIn net table x) (sym b.gives) (base_holds net table r.node)

chain_before : (net : Network) (table : Table) (c : Constraint) (b : Bound) → IsDynamic net table →
    ((s : Scenario) → Holds s c.label → Meets (table s) c) → c.from < count net → b.node ≡ c.to →
    IsPlain (joined b.label c.label) → HoldsIn net table b →
    HoldsIn net table (carried c b)
chain_before net table c b dynamic meets here at together h = record {
  holds = λ s possible.
      let label = joined b.label c.label in
      let r = made_true label s in
      let true_there = made_holds label s together in
      let same = dynamic s r c.from here (made_agrees (IsKnown net (table s) (table s c.from)) s label possible) in
      let met = meets r (holds_right r b.label c.label true_there) in
      let asked = h.holds r (λ p k. holds_left r b.label c.label true_there p) in
      let asked_there = subst (λ x. b.least ≤ℤ pos (table r x)) at asked in
      omega (arith, ints);
}

-- what chain gives holds in a dynamic table that meets the constraint, where its premise does
pub chain_sound : (net : Network) (table : Table) (c : Constraint) (b r : Bound) → IsNetwork net → IsDynamic net table →
    ((s : Scenario) → Holds s c.label → Meets (table s) c) → c.from < count net → IsChain net c b r →
    HoldsIn net table b → HoldsIn net table r
chain_sound net table c b r good dynamic meets here chain h =
    subst (λ x. HoldsIn net table x) (sym chain.gives)
    (finished_holds net table (carried c b) good (chain_before net table c b dynamic meets here chain.at chain.together h))

-- what chain gives holds in a strategy, where its premise does
pub chain_in_strategy : (net : Network) (table : Table) (c : Constraint) (b r : Bound) → IsNetwork net →
    IsStrategy net table → Contains net.constraints c → IsChain net c b r → HoldsIn net table b → HoldsIn net table r
chain_in_strategy net table c b r good strategy has chain h =
    chain_sound net table c b r good strategy.dynamic (λ s. strategy.meets s c has)
    (All-contains (IsConstraint net) net.constraints c good.constraints has).from chain h

wait_before : (net : Network) (table : Table) (p : ℕ) (seen b : Bound) → IsNetwork net → Observes net seen.node p →
    HoldsIn net table seen → HoldsIn net table b →
    HoldsIn net table (awaited net p seen b)
wait_before net table p seen b good observes seen_holds h = record {
  holds = λ s possible.
      let at = table s in
      let known = IsKnown net at (at b.node) in
      elim (known_or_not net at (at b.node) seen.node p good observes) [
        | inl late ↦
            let before = possible_earlier (IsKnown net at (at seen.node)) known s seen.label
            (λ q k. known_later net at (at seen.node) (at b.node) q (omega arith) k)
            (possible_left known s seen.label (without b.label p) possible) in
            let asked = seen_holds.holds s before in
            omega (arith, ints, clamps)
        | inr early ↦
            let asked = h.holds s (possible_without known s b.label p early.1
            (possible_right known s seen.label (without b.label p) possible)) in
            omega (arith, ints, clamps)
      ];
}

-- what wait gives holds in any table, where its premises do
pub wait_sound : (net : Network) (table : Table) (p : ℕ) (seen b r : Bound) → IsNetwork net → IsWait net p seen b r →
    HoldsIn net table seen → HoldsIn net table b → HoldsIn net table r
wait_sound net table p seen b r good wait seen_holds h =
    subst (λ x. HoldsIn net table x) (sym wait.gives)
    (finished_holds net table (awaited net p seen b) good (wait_before net table p seen b good wait.observes seen_holds h))

-- in the scenario where the literals of its label are true, a refuting bound asks for more than the limit
pub refuting_fails : (net : Network) (table : Table) (b : Bound) → IsStrategy net table → Refutes net b →
    HoldsIn net table b → ⊥
refuting_fails net table b strategy refutes h =
    let s = made_true b.label (λ p. false) in
    let true_there = made_holds b.label (λ p. false) refutes.plain in
    let asked = h.holds s (λ p k. true_there p) in
    let limited = strategy.within s b.node refutes.node in
    let above = refutes.above in
    omega (arith, ints)
