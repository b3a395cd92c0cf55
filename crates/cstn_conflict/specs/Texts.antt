-- What is said of a no: the constraints that can't be met together.
use Rattle.std.specs.Prelude.{ℕ, List, ◌∷◌, ◌++◌, Option, None, Some, flat_map, codes, decimal}
use Rattle.cstn_net.specs.Networks.{Network}
use Rattle.cstn_log.specs.Cuts.{last_with_ancestors}
use Rattle.cstn_check.specs.Decisions.{verdict}
use Rattle.cstn_check.specs.Givers.{with_ids}
use Rattle.cstn_check.specs.Growth.{log_of, load_of}
use Rattle.cstn_check.specs.declared.verdicts.Verdict.{Verdict}
use Rattle.cstn_check.specs.declared.verdicts.Verdict.TheVariants.{Yes, No, Full as IsFull}
use Rattle.cstn_refute.specs.Texts.{refutation_shown}
use Rattle.cstn_conflict.specs.Conflicts.{conflict_set}
use Rattle.cstn_reply.specs.Texts.{Said, line, yes_line, full_line}
use Rattle.cstn_reply.specs.declared.output.Outcome.TheVariants.{Good, Bad, Full}

-- the line of the ids, each after a space
abbrev pub ids_line : List ℕ → List ℕ
ids_line ids = line (codes "conflict" ++ flat_map (λ id. 32 ∷ decimal id) ids)

-- the ids, and the refutation of the network that has these constraints alone
abbrev pub blame_text : List (List ℕ) → Network → List ℕ → List ℕ
blame_text names net ids = ids_line ids ++ refutation_shown names (load_of (with_ids net ids)) (last_with_ancestors (log_of (with_ids net ids)))

-- what is said of a network that isn't consistent: its conflict set, or the cap where a log that was tried is full
abbrev pub blamed_after_no : ℕ → List (List ℕ) → Network → Option (List ℕ) → Said
blamed_after_no cap names net None = record { outcome = Full; text = full_line cap }
blamed_after_no cap names net (Some ids) = record { outcome = Bad; text = blame_text names net ids }

-- what is said of a network by the verdict on it
abbrev pub blamed_by : ℕ → List (List ℕ) → Network → Verdict → Said
blamed_by cap names net (Yes load) = record { outcome = Good; text = yes_line load }
blamed_by cap names net (No load) = blamed_after_no cap names net (conflict_set cap net)
blamed_by cap names net IsFull = record { outcome = Full; text = full_line cap }

-- what `conflict` says of a network
abbrev pub blamed : ℕ → List (List ℕ) → Network → Said
blamed cap names net = blamed_by cap names net (verdict cap net)
