use Rattle.std.proofs.Common.{ℕ, take}
use Rattle.std.specs.List.{All}
use Rattle.cstn_label.specs.Read.{marks}
use Rattle.cstn_net.specs.Observers.{IsUnseen}
use Rattle.cstn_net.proofs.scans.first_unobserved.Given as goal

abbrev pub invariant-loop-draft : goal.invariant-loop-draft
invariant-loop-draft l = All (λ d. (q : ℕ) → IsUnseen l.table (marks d.label) q → ⊥) (take l.draft-index l.drafts)
