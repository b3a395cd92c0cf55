-- The outcomes of answers to requests: any but Words, which says that the words are no request.
use Rattle.std.proofs.Common.{◌≡◌, ℕ, Bool, List, ap, sym, subst, inl, inr}
use Rattle.cstn_net.specs.Networks.{Network}
use Rattle.cstn_lines.specs.Pieces.{heard_lines}
use Rattle.cstn_check.specs.Decisions.{unless_yes, said_instead}
use Rattle.cstn_check.specs.declared.verdicts.Verdict.{Verdict}
use Rattle.cstn_check.specs.declared.verdicts.Verdict.TheVariants.{Yes, No, Full as IsFullVerdict}
use Rattle.cstn_reply.specs.Texts.{Said}
use Rattle.cstn_reply.specs.Sessions.{Turn, play}
use Rattle.cstn_reply.specs.declared.output.Outcome.{Outcome}
use Rattle.cstn_reply.specs.declared.output.Outcome.TheVariants.{Good, Bad, Words, Document, Full, Unfinished, Script, Wide}
use Rattle.cstn_top.specs.Plans.{Plan, says, says_such, talks_by}
use Rattle.cstn_top.specs.Answers.{plan_on_verdict, IsByText}
use Rattle.cstn_top.proofs.Played.{TurnIs, Played, all_answered, one_last, one_stops, played}

-- an outcome of an answer to a request, where a document may be refused only if this holds
abbrev pub IsAnswerIf : Type 0 → Outcome → Type 0
IsAnswerIf refused Good = Unit {0}
IsAnswerIf refused Bad = Unit {0}
IsAnswerIf refused Words = ⊥
IsAnswerIf refused Document = refused
IsAnswerIf refused Full = Unit {0}
IsAnswerIf refused Unfinished = Unit {0}
IsAnswerIf refused Script = Unit {0}
IsAnswerIf refused Wide = Unit {0}

-- an outcome of an answer to a request
abbrev pub IsAnswer : Outcome → Type 0
IsAnswer = IsAnswerIf (Unit {0})

-- each output of the plan has such an outcome
abbrev pub IsAnswered : Type 0 → Plan → Type 0
IsAnswered refused plan = (live : List ℕ) (said : Said) → plan.output live said → IsAnswerIf refused said.outcome

module _ (refused : Type 0) where
  pub as_said : (said other : Said) → said ≡ other → IsAnswerIf refused other.outcome → IsAnswerIf refused said.outcome
  as_said said other is answer = subst (IsAnswerIf refused) (sym (ap (λ (s : Said). s.outcome) is)) answer

  -- ---- plans

  pub says_answered : (said : Said) → IsAnswerIf refused said.outcome → IsAnswered refused (says said)
  says_answered said answer live other is = as_said other said is answer

  pub verdict_answered : (cap : ℕ) (names : List (List ℕ)) (net : Network) (after_yes : Plan) (v : Verdict) → IsAnswered refused after_yes → IsAnswered refused (plan_on_verdict cap names net after_yes v)
  verdict_answered cap names net after_yes (Yes load) later live said output = later live said output
  verdict_answered cap names net after_yes (No load) later live said output = as_said said _ output tt
  verdict_answered cap names net after_yes IsFullVerdict later live said output = as_said said _ output tt

  pub by_text_answered : (speaks : Said → Type 0) (text : List ℕ) → ((said : Said) → speaks said → IsAnswerIf refused said.outcome) → IsAnswered refused (says_such (IsByText speaks text))
  by_text_answered speaks text each live said (inl long) = as_said said _ long.1 tt
  by_text_answered speaks text each live said (inr short) = each said short.1

  -- a session, none of whose last answers says that the words are no request
  pub session_answered : {S : Type 0} (ends : Bool) (wants : List ℕ → Bool) (turn : S → List ℕ → Turn S) (ending : S → Said) (opening : List ℕ) (state : S) (IsUnread : List ℕ → Type 0) (Ends : Outcome → Type 0) →
      ((s : S) (text : List ℕ) → TurnIs (IsUnread text) Ends (turn s text)) → ((o : Outcome) → Ends o → IsAnswerIf refused o) → ((s : S) → IsAnswerIf refused (ending s).outcome) →
      IsAnswered refused (talks_by ends wants turn ending opening state)
  session_answered ends wants turn ending opening state IsUnread Ends each last at_end live said output =
      as_said said _ output (by_played (play turn ending state 0 (heard_lines ends live)) (played turn ending IsUnread Ends each state 0 (heard_lines ends live)))
    where
      by_played : (end : Said) → Played turn ending IsUnread Ends state 0 (heard_lines ends live) end → IsAnswerIf refused end.outcome
      by_played end (all_answered reached leads same) = as_said end _ same (at_end reached)
      by_played end (one_last answer) = last end.outcome answer
      by_played end (one_stops at stops) = subst (IsAnswerIf refused) (sym at) tt

  pub good_answers : (o : Outcome) → o ≡ Good → IsAnswerIf refused o
  good_answers o is = subst (IsAnswerIf refused) (sym is) tt

  pub none_last : (o : Outcome) → ⊥ → IsAnswerIf refused o
  none_last o never = absurd never

  -- what is said of a verdict, where this is said after yes
  pub or_else_answers : (cap : ℕ) (names : List (List ℕ)) (net : Network) (after_yes : Said) (v : Verdict) → IsAnswerIf refused after_yes.outcome → IsAnswerIf refused (said_instead (unless_yes cap names net v) after_yes).outcome
  or_else_answers cap names net after_yes (Yes load) later = later
  or_else_answers cap names net after_yes (No load) later = tt
  or_else_answers cap names net after_yes IsFullVerdict later = tt
