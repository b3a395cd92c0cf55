-- The clauses of a verdict.
use Rattle.std.proofs.Common.{ℕ, ◌≡◌, ◌<◌, ◌≤◌, true, false, List, Option, Some, arith, refl, sym, subst, ap, ◌∙◌}
use Rattle.std.specs.Prelude.{◌↔◌}
use Rattle.std.proofs.lemmas.Bool.{false≢true}
use Rattle.cstn_net.specs.Networks.{Network, IsWellFormed}
use Rattle.cstn_net.specs.Read.{NetworkParts, the_network}
use Rattle.cstn_net.specs.Strategies.{IsConsistent}
use Rattle.cstn_rules.specs.Derivations.{Entry}
use Rattle.cstn_log.specs.Entries.{State, the_entries}
use Rattle.cstn_check.specs.Growth.{is_refuted, log_of, load_of, most_entries}
use Rattle.cstn_check.specs.Turns.{LastRefutes}
use Rattle.cstn_check.specs.Checks.{CheckParts, IsVerdict, HasAnswered}
use Rattle.cstn_check.specs.declared.verdicts.Verdict.{Verdict}
use Rattle.cstn_check.specs.declared.verdicts.Verdict.TheVariants.{Yes, No, Full}
use Rattle.cstn_check.proofs.Last.{last_refuted}
use Rattle.cstn_check.proofs.Decides.{log_decides, load_bounded}

module _ (net : Network) (cap : ℕ) (list : List Entry) (good : IsWellFormed net) where
  over : LastRefutes net (log_of net) → is_refuted net (log_of net) ≡ true
  over = last_refuted net (log_of net)

  pub full_clause : (v : Verdict) → IsVerdict net cap list v → (v ≡ Full ↔ (cap < load_of net))
  full_clause (Yes load) is = (λ e. cc, λ more. let few = is.1 in absurd (omega arith))
  full_clause (No load) is = (λ e. cc, λ more. let few = is.1 in absurd (omega arith))
  full_clause Full is = (λ e. is.0, λ more. refl)

  pub bounded_clause : (v : Verdict) → IsVerdict net cap list v → v ≡ Full → cap < most_entries net
  bounded_clause v is e =
      let more = (full_clause v is).0 e in
      let most = load_bounded net good in
      omega arith

  pub no_clause : (v : Verdict) → IsVerdict net cap list v → (load : ℕ) →
      (v ≡ No load ↔ ((load ≡ load_of net) × (load_of net ≤ cap) × LastRefutes net (log_of net)))
  no_clause (Yes n) is load = (λ e. cc, λ p. absurd (false≢true (sym is.3 ∙ over p.2)))
  no_clause (No n) is load = (λ e. let same : n ≡ load = cc in (sym same ∙ is.0, is.1, is.3), λ p. ap (λ k. No k) (is.0 ∙ sym p.0))
  no_clause Full is load = (λ e. cc, λ p. let few = p.1 in let more = is.0 in absurd (omega arith))

  pub yes_clause : (v : Verdict) → IsVerdict net cap list v → (load : ℕ) →
      (v ≡ Yes load ↔ ((load ≡ load_of net) × (load_of net ≤ cap) × ¬ LastRefutes net (log_of net)))
  yes_clause (Yes n) is load =
      (λ e. let same : n ≡ load = cc in (sym same ∙ is.0, is.1, λ l. false≢true (sym is.3 ∙ over l)), λ p. ap (λ k. Yes k) (is.0 ∙ sym p.0))
  yes_clause (No n) is load = (λ e. cc, λ p. absurd (p.2 is.3))
  yes_clause Full is load = (λ e. cc, λ p. let few = p.1 in let more = is.0 in absurd (omega arith))

  consistent : is_refuted net (log_of net) ≡ false → IsConsistent net
  consistent = (log_decides net good.network good.letters).1

  inconsistent : LastRefutes net (log_of net) → ¬ IsConsistent net
  inconsistent last is = false≢true (sym ((log_decides net good.network good.letters).0 is) ∙ over last)

  pub exactly_yes : (v : Verdict) → IsVerdict net cap list v → (load : ℕ) →
      (v ≡ Yes load ↔ ((load ≡ load_of net) × (load_of net ≤ cap) × IsConsistent net))
  exactly_yes (Yes n) is load =
      (λ e. let same : n ≡ load = cc in (sym same ∙ is.0, is.1, consistent is.3), λ p. ap (λ k. Yes k) (is.0 ∙ sym p.0))
  exactly_yes (No n) is load = (λ e. cc, λ p. absurd (inconsistent is.3 p.2))
  exactly_yes Full is load = (λ e. cc, λ p. let few = p.1 in let more = is.0 in absurd (omega arith))

  pub exactly_no : (v : Verdict) → IsVerdict net cap list v → (load : ℕ) →
      (v ≡ No load ↔ ((load ≡ load_of net) × (load_of net ≤ cap) × ¬ IsConsistent net))
  exactly_no (Yes n) is load = (λ e. cc, λ p. absurd (p.2 (consistent is.3)))
  exactly_no (No n) is load =
      (λ e. let same : n ≡ load = cc in (sym same ∙ is.0, is.1, inconsistent is.3), λ p. ap (λ k. No k) (is.0 ∙ sym p.0))
  exactly_no Full is load = (λ e. cc, λ p. let few = p.1 in let more = is.0 in absurd (omega arith))

pub held : (net : Network) (log : State) (o : Option Verdict) (v : Verdict) → o ≡ Some v → HasAnswered net log o →
    IsVerdict net log.cap (the_entries log.entries) v
held net log o v e is = subst (λ x. HasAnswered net log x) e is

-- what holds of the fields of a check holds of the value that contracts see
pub seen_so : (n : NetworkParts) (cap : ℕ) (list : List Entry) (v : Verdict) (parts : CheckParts) → n ≡ parts.net → cap ≡ parts.cap →
    IsVerdict (the_network n) cap list v → IsVerdict (the_network parts.net) parts.cap list v
seen_so n cap list v parts e f is =
    subst (λ k. IsVerdict (the_network parts.net) k list v) f (subst (λ (m : NetworkParts). IsVerdict (the_network m) cap list v) e is)

pub seen_good : (n : NetworkParts) (parts : CheckParts) → n ≡ parts.net → IsWellFormed (the_network n) → IsWellFormed (the_network parts.net)
seen_good n parts e good = subst (λ (m : NetworkParts). IsWellFormed (the_network m)) e good
