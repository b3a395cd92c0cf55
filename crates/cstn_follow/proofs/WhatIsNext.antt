-- What is said where it is asked what is next.
use Rattle.std.proofs.Common.{ℕ, ◌≡◌, List, Some, None, map, sym, ap, ◌∙◌}
use Rattle.std.specs.Prelude.{codes}
use Rattle.cstn_label.specs.Bounds.{Bound}
use Rattle.cstn_lift.specs.Lowered.{lowered}
use Rattle.cstn_check.specs.Growth.{log_of, live_bounds}
use Rattle.cstn_check.specs.declared.verdicts.Verdict.TheVariants.{Yes}
use Rattle.cstn_next.specs.declared.moments.NextMoment.{NextMoment}
use Rattle.cstn_next.specs.Next.{TellsNext, awaited_props}
use Rattle.cstn_reply.specs.Texts.{line}
use Rattle.cstn_follow.specs.Following.{Following, says, left_now, verdict_now}
use Rattle.cstn_follow.specs.Questions.{next_text, next_at, next_after, on_next}

module _ (s : Following) (load : ℕ) (said_yes : verdict_now s ≡ Yes load) (text : List ℕ) where
  abbrev bounds : List Bound
  bounds = live_bounds (log_of (lowered (left_now s)))

  pub moment_said : (n : NextMoment) → TellsNext s.network s.history bounds (Some n)
      → text ≡ line (next_text s.names n.moment (map (λ x. x.0) n.named.items) (map (λ p. p.index) n.awaited.items)) → on_next s ≡ says text s
  moment_said n told is =
      ap (next_after s) said_yes
      ∙ ap (λ o. says (next_at s bounds o) s) told.0
      ∙ ap (λ xs. says (line (next_text s.names n.moment xs (awaited_props s.network s.history n.moment))) s) (sym told.1)
      ∙ ap (λ ps. says (line (next_text s.names n.moment (map (λ x. x.0) n.named.items) ps)) s) (sym told.2)
      ∙ ap (λ t. says t s) (sym is)

  pub finish_said : TellsNext s.network s.history bounds None → text ≡ line (codes "done") → on_next s ≡ says text s
  finish_said told is = ap (next_after s) said_yes ∙ ap (λ o. says (next_at s bounds o) s) told ∙ ap (λ t. says t s) (sym is)
