use Rattle.std.proofs.Common.{◌≡◌, ◌++◌, ◌∙◌, ap, subst, Option, Some, OnOk}
use Rattle.std.specs.Option.{option_map}
use Rattle.cstn_net.specs.Networks.{Network}
use Rattle.cstn_net.specs.Read.{the_network}
use Rattle.cstn_sentences.specs.declared.lines.Observed.{Observed}
use Rattle.cstn_sentences.specs.Printed.{spaced_words, observed_words}
use Rattle.cstn_sentences.specs.Sentences.{observed_after, observed_of, step_observed}
use Rattle.cstn_sentences.proofs.writing.push_observation.Goals as goal

pub returns-in-Some : goal.returns-in-Some
returns-in-Some c =
    let net : Network = the_network c.args.net.now in
    let same : Some (observed_after c.reaction.result c.in-Some.p.index) ≡ step_observed net c.args.x.0 =
    ap (λ r. Some (observed_after r c.in-Some.p.index)) c.reaction.ensures.reaction ∙ ap (option_map (observed_of net.reaction)) c.in-Some.ensures.observes in
    subst (λ (o : Option Observed). OnOk c.push_observed.result (c.push_observed.new.text.items ≡ c.args.text.now.items ++ spaced_words (observed_words o))) same c.push_observed.ensures
