-- When a session is sound, and when a verdict is true.
use Rattle.std.specs.Prelude.{ℕ, ◌≡◌, ◌<◌, List, Option, Some, None, slice_get}
use Rattle.std.specs.List.{All}
use Rattle.cstn_label.specs.Bounds.{Dominates}
use Rattle.cstn_net.specs.Networks.{Network, IsWellFormed, count}
use Rattle.cstn_net.specs.Strategies.{IsConsistent}
use Rattle.cstn_rules.specs.Derivations.{Entry, IsDerivation}
use Rattle.cstn_log.specs.Entries.{bases}
use Rattle.cstn_check.specs.declared.verdicts.Verdict.{Verdict}
use Rattle.cstn_check.specs.declared.verdicts.Verdict.TheVariants.{Yes, No, Full}
use Rattle.cstn_check.specs.Checks.{IsPrefix}
use Rattle.cstn_check.specs.Turns.{IsRefutedLast}
use Rattle.cstn_edit.specs.declared.outcomes.Outcome.{Outcome}
use Rattle.cstn_edit.specs.Edits.{Session}

-- no entry is dominated by an earlier one
pub record NoneDominated (list : List Entry) : Type 0 where
  pub apart : (i j : ℕ) (e f : Entry) → i < j → slice_get list i ≡ Some e → slice_get list j ≡ Some f → Dominates e.bound f.bound → ⊥

-- yes is said of consistent networks alone, and no of inconsistent ones
abbrev pub IsTrueOf : Network → Verdict → Type 0
IsTrueOf net (Yes load) = IsConsistent net
IsTrueOf net (No load) = IsConsistent net → ⊥
IsTrueOf net Full = Unit {0}

-- the last outcome, if there is one, is true
abbrev pub IsLastTrue : Network → Option Outcome → Type 0
IsLastTrue net None = Unit {0}
IsLastTrue net (Some o) = IsTrueOf net o.verdict

-- the network is well-formed, with ids below the next one; the kept list is a derivation of it from the base bounds, in which
-- no entry but perhaps the last refutes and none is dominated by an earlier one; and the last outcome is true
pub record IsSoundSession (s : Session) : Type 0 where
  pub well_formed : IsWellFormed s.net
  pub below : All (λ c. c.id < s.next) s.net.constraints
  pub derivation : IsDerivation s.net s.kept
  pub based : IsPrefix (bases (count s.net)) s.kept
  pub refuted : IsRefutedLast s.net s.kept
  pub apart : NoneDominated s.kept
  pub last : IsLastTrue s.net s.last
