use Rattle.std.proofs.Common.{length, arith, ap, sym, ◌∙◌, [], ◌∷◌}
use Rattle.std.proofs.lemmas.List.{length-append}
use Rattle.cstn_net.specs.Drafts.{BuilderParts}
use Rattle.cstn_graphml.specs.Networks.{with_drafts, draft_of}
use Rattle.cstn_graphml.proofs.Built.{among_rest}
use Rattle.cstn_graphml.proofs.networks.put_constraints.Goals as goal

pub loop-c-preserved : goal.loop-c-preserved
loop-c-preserved c =
    let e = c.in-Some.ensures.cases.0 in
    let a = c.in_ok-put_constraint.ensures in
    record {
      put = c.loop-c.invariant.put ∙ ap (λ r. with_drafts r c.loop-c.builder) e ∙ ap (with_drafts c.in-Some.next.now) (sym a);
      room = omega (arith, c.loop-c.invariant.room, ap length e, ap (λ (b : BuilderParts). length b.drafts) a, length-append c.loop-c.builder.drafts (draft_of c.in-Some.c.now ∷ []));
      among = among_rest _ _ c.in-Some.c.now _ _ e (ap (λ (b : BuilderParts). length b.points) a) c.loop-c.invariant.among;
    }
