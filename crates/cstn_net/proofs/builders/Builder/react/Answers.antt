use Rattle.std.proofs.Common.{◌∙◌, ap}
use Rattle.cstn_net.specs.Drafts.{BuilderParts, with_reaction}
use Rattle.cstn_net.proofs.DraftLemmas.{reaction_is_set}
use Rattle.cstn_net.proofs.builders.Builder.react.Goals as goal

pub returns : goal.returns
returns c =
    let inside = c.self.inside in
    record {
      react = ap {B = BuilderParts} (λ ps. record { deadline = inside.deadline; points = ps; drafts = inside.drafts.items })
          (reaction_is_set c.args.ticks inside.points.items c.args.node c.index_mut.result.now c.index_mut.ensures.value)
          ∙ ap {A = BuilderParts} (λ v. record v { points = with_reaction c.args.node c.args.ticks v.points }) c.self.view_is;
    }
