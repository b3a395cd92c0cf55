-- A time-point that a builder was handed with its reaction.
use Rattle.std.proofs.Common.{◌≡◌, ℕ, List, [], ◌∷◌, ◌++◌, length, ap, ◌∙◌, Some}
use Rattle.cstn_net.specs.declared.points.TimePoint.{TimePoint}
use Rattle.cstn_net.specs.Drafts.{BuilderParts, with_reaction}
use Rattle.cstn_graphml.specs.declared.drawn_graph.Observation.{Observation as Lent}
use Rattle.cstn_graphml.specs.Networks.{point_of}
use Rattle.cstn_graphml.proofs.Built.{last_reacts}

-- a time-point whose reaction is set after it was put in
pub point_put : (before middle new : BuilderParts) (n : ℕ) (o : Lent) → middle ≡ record before { points = before.points ++ (record { observes = Some o.prop; reaction = 1 } ∷ []) } → n ≡ length before.points
    → new ≡ record middle { points = with_reaction n o.reaction middle.points } → new ≡ record before { points = before.points ++ (point_of (Some o) ∷ []) }
point_put before middle new n o put number reacts =
    let t : TimePoint = record { observes = Some o.prop; reaction = 1 } in
    reacts ∙ ap (λ (b : BuilderParts). record b { points = with_reaction n o.reaction b.points }) put
    ∙ ap (λ (k : ℕ). record before { points = with_reaction k o.reaction (before.points ++ (t ∷ [])) }) number
    ∙ ap (λ (ts : List TimePoint). record before { points = ts }) (last_reacts before.points t o.reaction)
