-- A turn's chains go past the constraints that end elsewhere.
use Rattle.std.proofs.Common.{ℕ, zero, suc, ◌≡◌, inl, inr, ◌+◌, ◌<◌, ◌≤◌, false, ◌&&◌, eqb, List, [], ◌∷◌, length, map, get_or, take, Some, None, arith, refl, sym, ap, ◌∙◌}
use Rattle.std.specs.Prelude.{slice_get}
use Rattle.std.proofs.lemmas.Bool.{cases_Bool, cases_lt, and_parts, eqb-true, cond-false}
use Rattle.std.proofs.lemmas.Option.{slice_get_within}
use Rattle.cstn_label.specs.Marks.{is_plain}
use Rattle.cstn_label.specs.Labels.{joined}
use Rattle.cstn_net.specs.declared.constraints.Constraint.{Constraint as DeclaredConstraint}
use Rattle.cstn_net.specs.Links.{ends}
use Rattle.cstn_net.specs.Networks.{Network, Constraint}
use Rattle.cstn_net.specs.Read.{the_constraint}
use Rattle.cstn_rules.specs.Derivations.{Entry}
use Rattle.cstn_rules.specs.Rules.{finished, carried}
use Rattle.cstn_log.specs.Entries.{State, the_entries}
use Rattle.cstn_rules.specs.Tests.{chain_of}
use Rattle.cstn_check.specs.Growth.{Instance, is_refuted, of_one, step, tried, chains_at}
use Rattle.cstn_check.specs.Growth.Instance.{chain_at}
use Rattle.cstn_check.specs.Turns.{HasBecome}
use Rattle.cstn_check.proofs.Lists.{get_kept}
use Rattle.cstn_check.proofs.Grows.{step_idle, tried_extends}
use Rattle.cstn_check.proofs.Sequences.{tried_append, chains_next}
use Rattle.cstn_check.proofs.Skips.{IsIdle}

-- chain is idle where the entry isn't at the constraint's end
chain_elsewhere : (net : Network) (L : List Entry) (c : Constraint) (j : ℕ) (e : Entry) → slice_get L j ≡ Some e →
    (e.bound.node ≡ c.to → ⊥) → IsIdle net L (chain_at c j)
chain_elsewhere net L c j e there ne =
    let b = e.bound in
    step_idle net L (chain_at c j) (ap (of_one (chain_of net c)) there
    ∙ elim (cases_Bool ((eqb b.node c.to) && (is_plain b.label && is_plain (joined b.label c.label)))) [
      | inl t ↦ absurd (ne (eqb-true b.node c.to (and_parts (eqb b.node c.to) (is_plain b.label && is_plain (joined b.label c.label)) t).0))
      | inr f ↦ cond-false _ (Some (finished net (carried c b))) None f
    ])

constraint_there : (cs : List DeclaredConstraint) (k : ℕ) → k < length cs → (c : DeclaredConstraint) × (c ≡ get_or cs k c) × (get_or (ends cs) k 0 ≡ c.to.0)
constraint_there [] k h = absurd (omega arith)
constraint_there (c ∷ cs) zero h = (c, refl, refl)
constraint_there (c ∷ cs) (suc k) h = constraint_there cs k (omega arith)

pub chains_passed : (net : Network) (L M : List Entry) (cs : List DeclaredConstraint) (j low p : ℕ) (e : Entry) → low ≤ p → p ≤ length cs →
    slice_get M j ≡ Some e → ((k : ℕ) → low ≤ k → k < p → k < length cs → get_or (ends cs) k 0 ≡ e.bound.node → ⊥) →
    M ≡ tried net L (chains_at (map the_constraint (take low cs)) j) → M ≡ tried net L (chains_at (map the_constraint (take p cs)) j)
chains_passed net L M cs j low zero e upto short there none is =
    let z : low ≡ 0 = omega arith in is ∙ ap (λ k. tried net L (chains_at (map the_constraint (take k cs)) j)) z
chains_passed net L M cs j low (suc p) e upto short there none is = elim (cases_lt p low) [
  | inl last ↦ let z : low ≡ suc p = omega arith in is ∙ ap (λ k. tried net L (chains_at (map the_constraint (take k cs)) j)) z
  | inr before ↦
      let so_far = chains_passed net L M cs j low p e before (omega arith) there (λ k a b d. none k a (omega arith) d) is in
      let c = constraint_there cs p (omega arith) in
      let idle = chain_elsewhere net M (the_constraint c.0) j e there (λ same. none p before (omega arith) (omega arith) (c.2 ∙ sym same)) in
      let s : p + 1 ≡ suc p = omega arith in
      sym (ap (λ k. tried net L (chains_at (map the_constraint (take k cs)) j)) (sym s)
      ∙ ap (tried net L) (sym (chains_next cs j p c.0 c.1 (omega arith)))
      ∙ tried_append net (chains_at (map the_constraint (take p cs)) j) (chain_at (the_constraint c.0) j ∷ []) L
      ∙ ap (λ l. step net l (chain_at (the_constraint c.0) j)) (sym so_far) ∙ idle)
]

-- an entry stays at its place
pub entry_stays : (net : Network) (old new : State) (is : List Instance) (j : ℕ) (e : Entry) →
    HasBecome net old new (tried net (the_entries old.entries) is) false → slice_get (the_entries old.entries) j ≡ Some e →
    slice_get (the_entries new.entries) j ≡ Some e
entry_stays net old new is j e t there =
    let L = the_entries old.entries in
    ap (λ l. slice_get l j) t.entries ∙ get_kept L (tried net L is) j (tried_extends net is L) (slice_get_within L j e there) ∙ there

-- a turn's chains go on at the next constraint that ends at the entry's time-point
pub chains_to : (net : Network) (old new : State) (cs : List DeclaredConstraint) (j low p : ℕ) (e : Entry) → low ≤ p → p ≤ length cs →
    slice_get (the_entries old.entries) j ≡ Some e → ((k : ℕ) → low ≤ k → k < p → k < length cs → get_or (ends cs) k 0 ≡ e.bound.node → ⊥) →
    HasBecome net old new (tried net (the_entries old.entries) (chains_at (map the_constraint (take low cs)) j)) false →
    HasBecome net old new (tried net (the_entries old.entries) (chains_at (map the_constraint (take p cs)) j)) false
chains_to net old new cs j low p e upto short there none t =
    let is = chains_passed net (the_entries old.entries) (the_entries new.entries) cs j low p e upto short
    (entry_stays net old new (chains_at (map the_constraint (take low cs)) j) j e t there) none t.entries in
    record { entries = is; refuted_is = t.refuted_is ∙ ap (is_refuted net) (sym t.entries ∙ is); longer = t.longer }
