use Rattle.std.proofs.Common.{◌≡◌, ◌∙◌, [], take, map, get_or, ap, sym, subst}
use Rattle.std.specs.Prelude.{string_bytes, codes}
use Rattle.std.specs.List.{All}
use Rattle.std.proofs.Math.Seq.{take_all}
use Rattle.std.proofs.lemmas.List.Elements.{All-get_or}
use Rattle.cstn_label.specs.Read.{the_bound}
use Rattle.cstn_text.specs.PrintedNames.{printed_name}
use Rattle.cstn_closed.specs.Texts.{printed_bound_line, closed_shown}
use Rattle.cstn_closed.specs.Written.{IsNamedBound}
use Rattle.cstn_closed.proofs.BackLemmas.{listing_grows}
use Rattle.cstn_closed.proofs.PrintLemmas.{line_of, closed_back}
use Rattle.cstn_closed.proofs.lists.Closed.print.Goals as goal

pub loop-bound-preserved : goal.loop-bound-preserved
loop-bound-preserved c =
    let names = c.args.names.now in
    let bounds = c.bounds-bounds.result.now in
    let bound = c.bound-item.result in
    let named : All (IsNamedBound names) bounds = subst (All (IsNamedBound names)) (sym c.bounds-bounds.ensures.bounds) c.requires.named in
    let its = subst (IsNamedBound names) (sym c.bound-item.is) (All-get_or (IsNamedBound names) bounds c.loop-bound.bound-index bound c.loop-bound-test.true named) in
    let texts = c.in_ok-printed.printed.items in
    let other = c.index-in-loop-bound.result.now in
    let name : c.deref.result.now ≡ printed_name (get_or names bound.node.0 []) =
    c.deref.ensures
    ∙ ap string_bytes (c.index-in-loop-bound.ensures ∙ ap (λ i. get_or texts i other) c.index.ensures.index)
    ∙ c.in_ok-printed.ensures.each bound.node.0 other its.node in
    line_of names bound c.deref.result.now (string_bytes c.loop-bound.text) (string_bytes c.push_bound.new.text) name c.in_ok-push_bound.ensures.pushed
    ∙ listing_grows the_bound (codes "yes") (printed_bound_line names) c.args.self.now.load bounds c.loop-bound.bound-index bound _ c.loop-bound-test.true c.bound-item.is c.loop-bound.invariant

pub returns-clause-back : goal.returns-clause-back
returns-clause-back c fits =
    let bounds = c.bounds-bounds.result.now in
    let all : take c.loop-bound.bound-index bounds ≡ c.args.self.now.bounds = take_all c.loop-bound.bound-index bounds c.loop-bound-test.false ∙ c.bounds-bounds.ensures.bounds in
    closed_back c.labels_are_their_marks.ensures.above c.args.names.now c.args.self.now (string_bytes c.loop-bound.text) c.print_names.ensures.names c.requires.named fits
    (c.loop-bound.invariant
    ∙ ap (λ bs. closed_shown c.args.names.now c.args.self.now.load (map the_bound bs)) all)
