use Rattle.std.proofs.Common.{◌≡◌, ◌<◌, ◌∙◌, [], take, map, length, get_or, ap, sym, subst}
use Rattle.std.specs.Prelude.{string_bytes, codes}
use Rattle.std.specs.List.{All}
use Rattle.std.proofs.Math.Seq.{take_all}
use Rattle.cstn_rules.specs.Read.{the_entry}
use Rattle.cstn_text.specs.PrintedNames.{printed_name}
use Rattle.cstn_refute.specs.Refutations.{AreSteps}
use Rattle.cstn_refute.specs.Steps.{printed_step}
use Rattle.cstn_refute.specs.Texts.{refutation_shown}
use Rattle.std.proofs.lemmas.List.Elements.{All-more, All-get_or}
use Rattle.cstn_refute.specs.Written.{ArePlaces}
use Rattle.cstn_refute.proofs.BackLemmas.{listing_grows}
use Rattle.cstn_refute.proofs.PrintLemmas.{line_of}
use Rattle.cstn_refute.proofs.WrittenLemmas.{refutation_back}
use Rattle.cstn_refute.proofs.refutations.Refutation.print.Goals as goal

pub loop-k-preserved : goal.loop-k-preserved
loop-k-preserved c =
    let names = c.args.names.now in
    let steps = c.steps-steps.result.now in
    let step = c.index-steps-k.result in
    let named : All (λ e. e.bound.node.0 < length names) steps = subst (All (λ e. e.bound.node.0 < length names)) (sym c.steps-steps.ensures.steps) c.requires.named in
    let inside : step.bound.node.0 < length names = subst (λ e. e.bound.node.0 < length names) (sym c.index-steps-k.is) (All-get_or (λ e. e.bound.node.0 < length names) steps c.loop-k.k step c.loop-k-test.true named) in
    let texts = c.in_ok-printed.printed.items in
    let other = c.index-in-loop-k.result.now in
    let name : c.deref.result.now ≡ printed_name (get_or names step.bound.node.0 []) =
    c.deref.ensures
    ∙ ap string_bytes (c.index-in-loop-k.ensures ∙ ap (λ i. get_or texts i other) c.index.ensures.index)
    ∙ c.in_ok-printed.ensures.each step.bound.node.0 other inside in
    record {
      text =
          line_of names c.loop-k.k step c.deref.result.now (string_bytes c.loop-k.text) (string_bytes c.push_step.new.text) name c.in_ok-push_step.ensures.pushed
          ∙ listing_grows the_entry (codes "no") (printed_step names) c.args.self.now.load steps c.loop-k.k step _ c.loop-k-test.true c.index-steps-k.is c.loop-k.invariant.text;
      places =
          All-more (λ e. ArePlaces e.why) steps c.loop-k.k step c.loop-k-test.true c.loop-k.invariant.places
          (subst (λ e. ArePlaces e.why) c.index-steps-k.is c.in_ok-push_step.ensures.places);
    }

pub returns-clause-back : goal.returns-clause-back
returns-clause-back c fits =
    let xs = c.steps-steps.result.now in
    let all : take c.loop-k.k xs ≡ c.args.self.now.steps = take_all c.loop-k.k xs c.loop-k-test.false ∙ c.steps-steps.ensures.steps in
    refutation_back c.labels_are_their_marks.ensures.above c.args.names.now c.args.self.now (string_bytes c.loop-k.text) c.print_names.ensures.names
    (subst AreSteps c.steps-steps.ensures.steps c.steps-steps.ensures.form) c.requires.named
    (subst (All (λ e. ArePlaces e.why)) all c.loop-k.invariant.places) fits
    (c.loop-k.invariant.text
    ∙ ap (λ steps. refutation_shown c.args.names.now c.args.self.now.load (map the_entry steps)) all)
