-- What `plan` tells.
use Rattle.std.proofs.Common.{ℕ, List, ap, inl, inr}
use Rattle.std.specs.Prelude.{Result, Ok, Err}
use Rattle.cstn_graphml.specs.Document.{Parts}
use Rattle.cstn_graphml.proofs.Fits.{fits}
use Rattle.cstn_reply.specs.Texts.{Said}
use Rattle.cstn_sentences.specs.Refusals.{PlanRefusal}
use Rattle.cstn_top.specs.commands.Plan.{planned_of}
use Rattle.cstn_headline.specs.commands.Plan.{OfPlanned}
use Rattle.cstn_headline.proofs.Telling.{only_told}

pub plan_tells : (parsed : Result Parts PlanRefusal) (live : List ℕ) (said : Said) → (planned_of parsed).output live said → OfPlanned parsed said.outcome said.text
plan_tells (Err refusal) live said is = inl (ap (λ (s : Said). s.outcome) is, λ has. has)
plan_tells (Ok parts) live said (inl fit) = inr (fit.0, only_told _ said.outcome (ap (λ (s : Said). s.outcome) fit.1) (ap (λ (s : Said). s.text) fit.1))
plan_tells (Ok parts) live said (inr (inl unfit)) = inl (ap (λ (s : Said). s.outcome) unfit.2, λ has. fits parts unfit.0 has.0.labelled.base unfit.1)
plan_tells (Ok parts) live said (inr (inr wrong_labels)) = inl (ap (λ (s : Said). s.outcome) wrong_labels.2, λ has. has.0.faultless wrong_labels.0 wrong_labels.1.fault.has)
