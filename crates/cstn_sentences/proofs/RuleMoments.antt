-- What a rule says, by all moments that it counts from.
use Rattle.std.proofs.Common.{◌≡◌, ◌↔◌, ℕ, ◌+◌, ◌≤◌, List, [], ◌∷◌, subst, Option}
use Rattle.std.specs.Prelude.{All, flat_map, ℤ, pos, ◌+ℤ◌, ◌≤ℤ◌}
use Rattle.std.proofs.lemmas.List.Elements.{All-nil, All-cons, All-head}
use Rattle.cstn_label.specs.Labels.{Label}
use Rattle.cstn_net.specs.Networks.{Network, Observes, IsWellFormed}
use Rattle.cstn_net.specs.Strategies.{Schedule, IsKnown}
use Rattle.cstn_graphml.specs.DrawnGraph.{DrawnConstraint}
use Rattle.cstn_sentences.specs.declared.lines.Range.{Range}
use Rattle.cstn_sentences.specs.declared.lines.Says.{Says}
use Rattle.cstn_sentences.specs.declared.lines.Says.TheVariants.{At, By, Between, ByAfter, Within, NotBefore, Together}
use Rattle.cstn_sentences.specs.declared.lines.Span.{Span}
use Rattle.cstn_sentences.specs.Meaning.{Moment_after, on_clock, bounds_of, since_origin, constraints_of}
use Rattle.cstn_sentences.specs.Moments.{tick_of, IsAtLeast, IsAtMost, IsAtMostSo, IsByTickSo, IsSaid, MeetsEach, FormAsks}
use Rattle.cstn_sentences.proofs.MomentLemmas.{through, all_same, each_met, passed_by}

-- what each form asks by one moment
pub record FormsAsk : Type 0 where
  pub at_ticks : (first : Option ℤ) (at : Schedule) (x : ℕ) (r : Range) → at 0 ≡ 0 → FormAsks first at x (At r) (0, pos 0) ((on_clock first r.least ≤ℤ pos (at x)) × IsByTickSo first at x r.most)
  pub by_tick : (first : Option ℤ) (at : Schedule) (x : ℕ) (t : Span) → at 0 ≡ 0 → FormAsks first at x (By t) (0, pos 0) (pos (at x) ≤ℤ on_clock first t)
  pub in_range : (first : Option ℤ) (at : Schedule) (x : ℕ) (r : Range) (m : Moment_after) → FormAsks first at x (Between r) m (((tick_of at m +ℤ r.least.ticks) ≤ℤ pos (at x)) × IsAtMostSo at x m r.most)
  pub by_after : (first : Option ℤ) (at : Schedule) (x : ℕ) (t : Span) (m : Moment_after) → FormAsks first at x (ByAfter t) m (pos (at x) ≤ℤ (tick_of at m +ℤ t.ticks))
  pub within : (first : Option ℤ) (at : Schedule) (x : ℕ) (t : Span) (m : Moment_after) → FormAsks first at x (Within t) m ((tick_of at m ≤ℤ pos (at x)) × (pos (at x) ≤ℤ (tick_of at m +ℤ t.ticks)))
  pub not_before : (first : Option ℤ) (at : Schedule) (x : ℕ) (m : Moment_after) → FormAsks first at x NotBefore m (tick_of at m ≤ℤ pos (at x))
  pub together : (first : Option ℤ) (at : Schedule) (x : ℕ) (m : Moment_after) → FormAsks first at x Together m (pos (at x) ≡ tick_of at m)

alone : {X : Type 0} (P : X → Type 0) (x : X) → All P (x ∷ []) ↔ P x
alone P x = (λ all. All-head P x [] all, λ h. All-cons P x [] h (All-nil P))

-- the constraints of a rule, by all moments
abbrev RuleAsks : Option ℤ → Schedule → ℕ → Says → List Moment_after → Label → Type 0
RuleAsks first at x says ms label = MeetsEach at (flat_map (constraints_of x (bounds_of first says) label) (since_origin says ms)) ↔ IsSaid first at x says ms

by_origin : (first : Option ℤ) (at : Schedule) (x : ℕ) (says : Says) (label : Label) (holds : Type 0) → FormAsks first at x says (0, pos 0) holds
    → MeetsEach at (flat_map (constraints_of x (bounds_of first says) label) ((0, pos 0) ∷ [])) ↔ holds
by_origin first at x says label holds asks =
    let cs : Moment_after → List DrawnConstraint = constraints_of x (bounds_of first says) label in
    through (each_met at cs ((0, pos 0) ∷ [])) (through (alone (λ m. MeetsEach at (cs m)) (0, pos 0)) (asks label))

by_each : (first : Option ℤ) (at : Schedule) (x : ℕ) (says : Says) (label : Label) (ms : List Moment_after) (holds : Moment_after → Type 0)
    → ((m : Moment_after) → FormAsks first at x says m (holds m)) → MeetsEach at (flat_map (constraints_of x (bounds_of first says) label) ms) ↔ All holds ms
by_each first at x says label ms holds asks =
    let cs : Moment_after → List DrawnConstraint = constraints_of x (bounds_of first says) label in
    through (each_met at cs ms) (all_same (λ m. MeetsEach at (cs m)) holds ms (λ m. asks m label))

pub rule_asks : FormsAsk → (first : Option ℤ) (at : Schedule) (x : ℕ) (says : Says) (ms : List Moment_after) (label : Label) → at 0 ≡ 0 → RuleAsks first at x says ms label
rule_asks f first at x (At r) ms label zero = by_origin first at x (At r) label ((on_clock first r.least ≤ℤ pos (at x)) × IsByTickSo first at x r.most) (f.at_ticks first at x r zero)
rule_asks f first at x (By t) ms label zero = by_origin first at x (By t) label (pos (at x) ≤ℤ on_clock first t) (f.by_tick first at x t zero)
rule_asks f first at x (Between r) ms label zero = by_each first at x (Between r) label ms (λ m. IsAtLeast at x m r.least.ticks × IsAtMostSo at x m r.most) (f.in_range first at x r)
rule_asks f first at x (ByAfter t) ms label zero = by_each first at x (ByAfter t) label ms (λ m. IsAtMost at x m t.ticks) (f.by_after first at x t)
rule_asks f first at x (Within t) ms label zero = by_each first at x (Within t) label ms (λ m. (tick_of at m ≤ℤ pos (at x)) × IsAtMost at x m t.ticks) (f.within first at x t)
rule_asks f first at x NotBefore ms label zero = by_each first at x NotBefore label ms (λ m. tick_of at m ≤ℤ pos (at x)) (f.not_before first at x)
rule_asks f first at x Together ms label zero = by_each first at x Together label ms (λ m. pos (at x) ≡ tick_of at m) (f.together first at x)

-- what isn't before the outcome of a proposition isn't before the moment at which it is known
pub known : (net : Network) (at : Schedule) (x y p : ℕ) → Observes net x p → tick_of at (x, pos (net.reaction p)) ≤ℤ pos (at y) → IsKnown net at (at y) p
known net at x y p observes h = record { observer = x; observes = observes; passed = (passed_by (at x) (net.reaction p) (at y)).0 h }

-- where a proposition has one observer, it isn't known before
pub unknown : (net : Network) (at : Schedule) (x y p : ℕ) → IsWellFormed net → Observes net x p → IsKnown net at (at y) p → tick_of at (x, pos (net.reaction p)) ≤ℤ pos (at y)
unknown net at x y p formed observes known =
    let same = formed.network.one_observer known.observer x p known.observes observes in
    (passed_by (at x) (net.reaction p) (at y)).1 (subst (λ z. at z + net.reaction p ≤ at y) same known.passed)
