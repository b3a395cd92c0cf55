-- Where conclusions are, and what they mark.
use Rattle.std.proofs.Common.{ℕ, zero, suc, ◌≡◌, ◌+◌, ◌<◌, ◌≤◌, Option, None, Some, arith, refl, sym, subst, ap, ◌∙◌}
use Rattle.std.specs.Prelude.{ℤ, pos, ◌≤ℤ◌, ◌↔◌, slice_index_or}
use Rattle.std.proofs.lemmas.Int.{ints, clamps}
use Rattle.cstn_label.specs.declared.marks.Mark.TheVariants.{Absent}
use Rattle.cstn_label.specs.Labels.{Label, IsMarked, IsPlain, joined, without}
use Rattle.cstn_label.specs.Bounds.{Bound, Dominates}
use Rattle.cstn_label.proofs.LabelLemmas.{kept_without, absent_joined, plain_left}
use Rattle.cstn_net.specs.Limits.{most_deadline}
use Rattle.cstn_net.specs.Networks.{Network, IsWellFormed, IsConstraint, Constraint, Observes, count, limit}
use Rattle.cstn_net.proofs.Knowledge.{one_observed}
use Rattle.cstn_rules.specs.Rules.{base, finished, carried, awaited, without_own, IsBase, IsChain, IsWait, IsBoundOf}

pub finished_high : (net : Network) (b : Bound) → (finished net b).least ≤ℤ pos (limit net b.node + 1)
finished_high net b = omega (arith, ints, clamps)

absent_without_own : (o : Option ℕ) (a : Label) (q : ℕ) → a q ≡ Absent → without_own o a q ≡ Absent
absent_without_own None a q gone = gone
absent_without_own (Some p) a q gone = kept_without (λ m. m ≡ Absent) a p q refl gone

pub chain_within : (net : Network) (c : Constraint) (b r : Bound) → IsConstraint net c → IsChain net c b r →
    (r.node < count net) × (r.least ≤ℤ pos (limit net r.node + 1))
chain_within net c b r good chain =
    subst (λ x. (x.node < count net) × (x.least ≤ℤ pos (limit net x.node + 1))) (sym chain.gives)
    (good.from, finished_high net (carried c b))

pub wait_within : (net : Network) (p : ℕ) (seen b r : Bound) → b.node < count net → IsWait net p seen b r →
    (r.node < count net) × (r.least ≤ℤ pos (limit net r.node + 1))
wait_within net p seen b r here wait =
    subst (λ x. (x.node < count net) × (x.least ≤ℤ pos (limit net x.node + 1))) (sym wait.gives)
    (here, finished_high net (awaited net p seen b))

-- wait asks for 0 or more where its premises do
pub wait_low : (net : Network) (p : ℕ) (seen b r : Bound) → pos 0 ≤ℤ seen.least → pos 0 ≤ℤ b.least →
    IsWait net p seen b r → pos 0 ≤ℤ r.least
wait_low net p seen b r low high wait =
    subst (λ x. pos 0 ≤ℤ x.least) (sym wait.gives) (omega (arith, ints, clamps))

pub chain_marks : (net : Network) (c : Constraint) (b r : Bound) (q : ℕ) → IsChain net c b r →
    b.label q ≡ Absent → c.label q ≡ Absent → r.label q ≡ Absent
chain_marks net c b r q chain gone none =
    subst (λ x. x.label q ≡ Absent) (sym chain.gives)
    (absent_without_own (slice_index_or net.observes c.from None) (joined b.label c.label) q
    (absent_joined b.label c.label q gone none))

pub wait_marks : (net : Network) (p : ℕ) (seen b r : Bound) (q : ℕ) → IsWait net p seen b r →
    seen.label q ≡ Absent → b.label q ≡ Absent → r.label q ≡ Absent
wait_marks net p seen b r q wait none gone =
    subst (λ x. x.label q ≡ Absent) (sym wait.gives)
    (absent_without_own (slice_index_or net.observes b.node None) (joined seen.label (without b.label p)) q
    (absent_joined seen.label (without b.label p) q none (kept_without (λ m. m ≡ Absent) b.label p q refl gone)))

-- a bound that asks for nothing is dominated by base
pub base_dominates : (r : Bound) → r.least ≤ℤ pos 0 → Dominates (base r.node) r
base_dominates r low = record { node = refl; least = low; label = λ p. tt }

-- a rule has at most one conclusion
pub one_chain : (net : Network) (c : Constraint) (b r q : Bound) → IsChain net c b r → IsChain net c b q → r ≡ q
one_chain net c b r q one other = one.gives ∙ sym other.gives

pub one_wait : (net : Network) (p q : ℕ) (seen b r s : Bound) → IsWait net p seen b r → IsWait net q seen b s → r ≡ s
one_wait net p q seen b r s one other =
    one.gives ∙ ap (λ o. finished net (awaited net o seen b)) (one_observed net seen.node p q one.observes other.observes)
    ∙ sym other.gives

pub one_base : (net : Network) (r q : Bound) → IsBase net r → IsBase net q → r.node ≡ q.node → r ≡ q
one_base net r q one other same = one.gives ∙ ap base same ∙ sym other.gives

-- chain and wait have a conclusion exactly where their premises fit
pub chained : (net : Network) (c : Constraint) (b : Bound) →
    ((r : Bound) × IsChain net c b r) ↔ ((b.node ≡ c.to) × IsPlain (joined b.label c.label))
chained net c b = (
  (λ h. (h.1.at, h.1.together)),
  (λ h. (
    finished net (carried c b),
    record { at = h.0; plain = plain_left b.label c.label h.1; together = h.1; gives = refl },
  )),
)

pub waited : (net : Network) (p : ℕ) (seen b : Bound) →
    ((r : Bound) × IsWait net p seen b r) ↔ (Observes net seen.node p × IsMarked b.label p)
waited net p seen b = (
  (λ h. (h.1.observes, h.1.marked)),
  (λ h. (finished net (awaited net p seen b), record { observes = h.0; marked = h.1; gives = refl })),
)

-- a limit is at most 1,000,000
pub limit_small : (net : Network) (x : ℕ) → IsWellFormed net → limit net x ≤ most_deadline
limit_small net zero good = omega arith
limit_small net (suc x) good = good.in_time

pub same_bound : (node : ℕ) (d e : ℤ) (a b : Label) → d ≡ e → a ≡ b →
    ◌≡◌ {A = Bound} (record { node = node; least = d; label = a }) (record { node = node; least = e; label = b })
same_bound node d e a b same alike = cc

-- wait gives a bound of the network from bounds of it
pub wait_bound : (net : Network) (p : ℕ) (seen b r : Bound) → IsBoundOf net seen → IsBoundOf net b →
    IsWait net p seen b r → IsBoundOf net r
wait_bound net p seen b r first second wait =
    let within = wait_within net p seen b r second.node wait in
    record {
      node = within.0;
      low = wait_low net p seen b r first.low second.low wait;
      high = within.1;
    }
