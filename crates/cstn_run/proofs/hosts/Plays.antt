-- How a session of host lines ends.
use Rattle.std.proofs.Common.{ℕ, ◌+◌, List, [], ◌∷◌, Bool, true, false}
use Rattle.std.specs.Prelude.{if◌then◌else◌, Option, None, Some}
use Rattle.cstn_lines.specs.Pieces.{is_past}
use Rattle.cstn_lines.specs.HostLines.{Hosted, host_read}
use Rattle.cstn_reply.specs.Texts.{after_text}
use Rattle.cstn_reply.specs.Sessions.{on_turn, script, play}
use Rattle.cstn_reply.specs.declared.output.Outcome.{Outcome}
use Rattle.cstn_reply.specs.declared.output.Outcome.TheVariants.{Good, Bad, Words, Document, Full, Unfinished, Script, Wide}
use Rattle.cstn_run.specs.hosted.Sessions.{HostSession, unfinished, host_ended, hosted_turn, host_turn, host_ending}

-- a session ends in one of these ways
abbrev pub IsEnd : Outcome → Type 0
IsEnd Good = Unit {0}
IsEnd Bad = ⊥
IsEnd Words = ⊥
IsEnd Document = ⊥
IsEnd Full = ⊥
IsEnd Unfinished = Unit {0}
IsEnd Script = Unit {0}
IsEnd Wide = ⊥

ending_is : (found : Option (ℕ × ℕ)) → IsEnd (host_ended found).outcome
ending_is None = tt
ending_is (Some found) = tt

pub plays : (session : HostSession) (count : ℕ) (lines : List (List ℕ)) → IsEnd (play host_turn host_ending session count lines).outcome
plays session count [] = ending_is (unfinished session)
plays session count (first ∷ lines) = by_past (λ next. plays next (count + 1) lines) (is_past (count + 1) first)
  where
    by_turn : ((next : HostSession) → IsEnd (play host_turn host_ending next (count + 1) lines).outcome) → (o : Option Hosted) → IsEnd (on_turn (hosted_turn session o) (λ text next. after_text text (play host_turn host_ending next (count + 1) lines)) (λ said. said) (script (count + 1))).outcome
    by_turn rest None = tt
    by_turn rest (Some hosted) = rest _

    by_past : ((next : HostSession) → IsEnd (play host_turn host_ending next (count + 1) lines).outcome) → (past : Bool) → IsEnd (if past then script (count + 1) else on_turn (host_turn session first) (λ text next. after_text text (play host_turn host_ending next (count + 1) lines)) (λ said. said) (script (count + 1))).outcome
    by_past rest true = tt
    by_past rest false = by_turn rest (host_read first)
