-- Conclusions that are finished.
use Rattle.std.proofs.Common.{ℕ, Option, Some, None}
use Rattle.cstn_label.specs.declared.marks.Mark.{Mark}
use Rattle.cstn_label.specs.declared.marks.Mark.TheVariants.{Absent}
use Rattle.cstn_label.specs.Labels.{Label}
use Rattle.cstn_label.proofs.LabelLemmas.{kept_without}
use Rattle.cstn_rules.specs.Rules.{without_own}

-- a property of the absent mark and of a conclusion's mark is one of that mark when the conclusion is finished
pub kept_own : (P : Mark → Type 0) (o : Option ℕ) (a : Label) (q : ℕ) → P Absent → P (a q) → P (without_own o a q)
kept_own P None a q none h = h
kept_own P (Some p) a q none h = kept_without P a p q none h
