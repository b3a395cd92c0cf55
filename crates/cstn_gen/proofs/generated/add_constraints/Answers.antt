use Rattle.std.proofs.Common.{◌+◌, ◌≡◌, arith, sym, subst, ap, length, ◌∙◌}
use Rattle.std.proofs.lemmas.List.{length-append}
use Rattle.cstn_gen.specs.Generated.{literals_at, label_from, props_of}
use Rattle.cstn_gen.specs.Made.{HasDrawnConstraints}
use Rattle.cstn_gen.proofs.MadeLemmas.{one_more_constraint, drawn_is_at, state_more}
use Rattle.cstn_gen.proofs.generated.add_constraints.Goals as goal

pub loop-preserved : goal.loop-preserved
loop-preserved c =
    let loop = c.loop.invariant in
    let added = c.in_ok-add_constraint.ensures.added in
    let x = c.loop.draws.state in
    let drawn : label_from c.props_of-props.result c.draw_span-span.new.draws.state ≡ literals_at c.args.size x =
    ap (λ k. label_from k c.draw_span-span.new.draws.state) c.props_of-props.ensures.props
    ∙ ap (label_from (props_of c.args.size)) c.draw_span-span.ensures.state in
    record {
      end = loop.end;
      constraints = subst (HasDrawnConstraints c.args.number c.args.size (c.loop.counter + 1)) (sym (ap (λ b. b.drafts) added))
          (one_more_constraint c.args.number c.args.size c.loop.counter c.loop.builder.drafts _
          (c.drafts_are_numbered.ensures.more 0 c.loop.counter c.loop.builder.drafts _ (omega (arith, loop.drafts))) loop.constraints
          (drawn_is_at c.args.number c.args.size c.loop.counter x c.draw_span-span.result c.draw_label-label.result loop.state
          c.draw_span-span.ensures.span (c.draw_label-label.ensures.label ∙ ap (λ l. l.label) drawn)));
      drafts = ap (λ b. length b.drafts) added ∙ length-append c.loop.builder.drafts _ ∙ ap (λ n. n + 1) loop.drafts;
      state = c.draw_label-label.ensures.state ∙ ap (λ l. l.state) drawn ∙ ap (λ y. (literals_at c.args.size y).state) loop.state ∙ sym (state_more c.args.number c.args.size c.loop.counter);
      deadline = ap (λ b. b.deadline) added ∙ loop.deadline;
      points = ap (λ b. b.points) added ∙ loop.points;
    }
