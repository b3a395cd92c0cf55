use Rattle.std.proofs.Common.{◌≡◌, ◌++◌, ◌∷◌, [], ap, ◌∙◌}
use Rattle.std.specs.Prelude.{map}
use Rattle.std.proofs.lemmas.List.{map-append}
use Rattle.cstn_label.specs.Read.{marks}
use Rattle.cstn_lift.specs.Read.{the_labelled}
use Rattle.cstn_history.specs.Read.{the_history}
use Rattle.cstn_history.proofs.FurtherBuilt.{labels_whole}
use Rattle.cstn_history.proofs.steps.labels_stepped.Goals as goal

pub returns : goal.returns
returns c = record {
  labels =
      let m = the_labelled c.args.network.now in
      let labels = c.in_ok-labels.labels.items in
      let e = c.empty.result in
      ap (map marks) c.in_ok-push.ensures.items
      ∙ map-append marks labels (e ∷ [])
      ∙ ap (λ l. l ++ marks e ∷ []) (c.in_ok-labels.ensures ∙ labels_whole m (the_history c.args.nothing.now) c.requires.labelled c.requires.nothing)
      ∙ ap (λ a. m.labels ++ a ∷ []) c.empty.ensures.empty;
}
