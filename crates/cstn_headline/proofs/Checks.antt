-- What the outcome of a check tells, without what is written.
use Rattle.std.proofs.Common.{◌≡◌, ℕ, ◌<◌, List, ap, sym, subst}
use Rattle.cstn_net.specs.Networks.{Network, IsWellFormed}
use Rattle.cstn_check.specs.Growth.{load_of}
use Rattle.cstn_check.specs.declared.verdicts.Verdict.{Verdict}
use Rattle.cstn_check.specs.declared.verdicts.Verdict.TheVariants.{Yes, No, Full as IsFullVerdict}
use Rattle.cstn_reply.specs.Texts.{Said, yes_line}
use Rattle.cstn_top.specs.Verdicts.{IsLabelledYes}
use Rattle.cstn_lift.specs.Labelled.{Labelled}
use Rattle.cstn_lift.specs.Lowered.{lowered}
use Rattle.cstn_lift.specs.Strategies.{IsEquivalent}
use Rattle.cstn_check.specs.Decisions.{verdict, unless_yes, said_instead, checked, IsYes, IsNo}
use Rattle.cstn_reply.specs.declared.output.Outcome.{Outcome}
use Rattle.cstn_reply.specs.declared.output.Outcome.TheVariants.{Good, Bad, Words, Document, Full, Unfinished, Script, Wide}
use Rattle.cstn_check.proofs.Deciding.{Tells, verdict_tells}
use Rattle.cstn_headline.specs.Verdicts.{IsLabelledNo}
use Rattle.cstn_top.proofs.Labels.{IsOfLabelled}

-- what the outcome of a check tells of a network
abbrev pub Verdicts : ℕ → Network → Outcome → Type 0
Verdicts cap net Good = IsYes cap net
Verdicts cap net Bad = IsNo cap net
Verdicts cap net Full = cap < load_of net
Verdicts cap net Words = ⊥
Verdicts cap net Document = ⊥
Verdicts cap net Unfinished = ⊥
Verdicts cap net Script = ⊥
Verdicts cap net Wide = ⊥

verdict_says : (cap : ℕ) (names : List (List ℕ)) (net : Network) (said : Said) → IsWellFormed net → said ≡ checked cap names net → Verdicts cap net said.outcome
verdict_says cap names net said good is =
    subst (Verdicts cap net) (sym (ap (λ (s : Said). s.outcome) is)) (by_verdict (verdict cap net) (verdict_tells cap net good))
  where
    by_verdict : (v : Verdict) → Tells cap net v → Verdicts cap net (said_instead (unless_yes cap names net v) (record { outcome = Good; text = yes_line (load_of net) })).outcome
    by_verdict (Yes load) tells' = tells'
    by_verdict (No load) tells' = tells'
    by_verdict IsFullVerdict tells' = tells'

-- what the outcome of a check tells of a labelled network, where the network that it is lowered to is checked
abbrev pub VerdictsLabelled : ℕ → Labelled → Outcome → Type 0
VerdictsLabelled cap m Good = IsLabelledYes cap m
VerdictsLabelled cap m Bad = IsLabelledNo cap m
VerdictsLabelled cap m Full = cap < load_of (lowered m)
VerdictsLabelled cap m Words = ⊥
VerdictsLabelled cap m Document = ⊥
VerdictsLabelled cap m Unfinished = ⊥
VerdictsLabelled cap m Script = ⊥
VerdictsLabelled cap m Wide = ⊥

pub verdicts_labelled : (cap : ℕ) (m : Labelled) (o : Outcome) → IsEquivalent m (lowered m) → Verdicts cap (lowered m) o → VerdictsLabelled cap m o
verdicts_labelled cap m Good same is = (same.consistent.1 is.0, is.1)
verdicts_labelled cap m Bad same is = (λ has. is.0 (same.consistent.0 has), is.1)
verdicts_labelled cap m Full same is = is
verdicts_labelled cap m Words same is = is
verdicts_labelled cap m Document same is = is
verdicts_labelled cap m Unfinished same is = is
verdicts_labelled cap m Script same is = is
verdicts_labelled cap m Wide same is = is

pub check_verdicts : (cap : ℕ) (said : Said) (names : List (List ℕ)) (m : Labelled) → IsOfLabelled names m → said ≡ checked cap names (lowered m) → VerdictsLabelled cap m said.outcome
check_verdicts cap said names m of is = verdicts_labelled cap m said.outcome of.same (verdict_says cap names (lowered m) said of.plain.good is)
