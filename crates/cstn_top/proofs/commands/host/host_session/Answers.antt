use Rattle.std.proofs.Common.{List, [], ◌∷◌, ◌++◌, length, map, ap, sym, subst, ◌∙◌, arith, append_assoc}
use Rattle.std.proofs.lemmas.List.{map-append, length-map}
use Rattle.std.specs.Vec.Iter.{into_iter_items}
use Rattle.cstn_check.specs.Decisions.{TellsVerdict}
use Rattle.cstn_check.specs.declared.decisions.Judged.{Judged}
use Rattle.cstn_check.specs.declared.decisions.Judged.TheVariants.{Yes}
use Rattle.cstn_run.specs.hosted.Files.{Named}
use Rattle.cstn_top.specs.Begun.{the_named, HasBegun}
use Rattle.cstn_request.specs.declared.reading.NamedNetwork.{NamedNetwork}
use Rattle.cstn_top.proofs.BegunHosts.{begun_none, begun_more, all_taken, told_at, all_begun, opening_ends}
use Rattle.cstn_top.proofs.commands.host.host_session.Goals as goal

pub loop-document-init : goal.loop-document-init
loop-document-init c =
    let given = c.into_iter-document-iterator.ensures.into_iter_gives in
    record {
      documents = sym given.0;
      left = ap length given.0 ∙ sym (given.1 ∙ c.args.documents.ok.0);
      begun = begun_none c.args.cap.entries _ c.new.ensures.items c.new-2.ensures.items c.new-3.ensures.items;
    }

pub returns-in-Told-clause-comes : goal.returns-in-Told-clause-comes
returns-in-Told-clause-comes c =
    let inv = c.loop-document.invariant in
    let document = c.in-Some.document in
    told_at c.args.cap.entries c.args.documents.items c.loop-document.yielded (into_iter_items c.next.new.self) document c.loop-document.begun c.in-Told.said
    (inv.documents ∙ ap (λ (ds : List NamedNetwork). c.loop-document.yielded ++ ds) c.in-Some.ensures.steps.0)
    inv.begun
    (subst (λ (d : Judged). TellsVerdict c.args.cap.entries document.names document.network d) c.in-Told.is c.in_ok-load.ensures.judged)

pub loop-document-preserved : goal.loop-document-preserved
loop-document-preserved c =
    let inv = c.loop-document.invariant in
    let document = c.in-Some.document in
    let steps = c.in-Some.ensures.steps in
    let front = c.loop-document.yielded in
    let added = c.in_ok-add-in-Yes.ensures in
    let decided : TellsVerdict c.args.cap.entries document.names document.network (Yes c.in-Yes.load c.in-Yes.check) = subst (λ (d : Judged). TellsVerdict c.args.cap.entries document.names document.network d) c.in-Yes.is c.in_ok-load.ensures.judged in
    record {
      documents =
          inv.documents ∙ ap (λ (ds : List NamedNetwork). front ++ ds) steps.0
          ∙ sym (append_assoc front (document ∷ []) (into_iter_items c.next.new.self));
      left = omega (arith, inv.left, ap length steps.0, steps.1);
      begun =
          subst (λ (ns : List Named). HasBegun c.args.cap.entries ns c.add.new.self) (sym (map-append the_named front (document ∷ [])))
          (begun_more c.args.cap.entries (map the_named front) c.loop-document.begun c.add.new.self document.network c.in-Yes.check.net document.names c.in-Yes.load c.into_plan.result inv.begun decided.0 decided.1 decided.2 c.into_plan.ensures.network c.into_plan.ensures.live
          added.opening added.plans added.names added.short);
    }

pub begin-requires-clause-some : goal.begin-requires-clause-some
begin-requires-clause-some c =
    let inv = c.loop-document.invariant in
    let all = all_taken c.args.documents.items c.loop-document.yielded (into_iter_items c.loop-document.document-iterator) inv.documents (inv.left ∙ c.in-None.ensures.steps.0) in
    let size = length-map c.loop-document.yielded the_named in
    omega (arith, ap length all, size, inv.begun.many, c.requires.some_documents)

pub begin-requires-clause-few : goal.begin-requires-clause-few
begin-requires-clause-few c =
    let inv = c.loop-document.invariant in
    let all = all_taken c.args.documents.items c.loop-document.yielded (into_iter_items c.loop-document.document-iterator) inv.documents (inv.left ∙ c.in-None.ensures.steps.0) in
    let size = length-map c.loop-document.yielded the_named in
    omega (arith, ap length all, size, inv.begun.many, c.requires.few_documents)

pub begin-requires-clause-named : goal.begin-requires-clause-named
begin-requires-clause-named c = c.loop-document.invariant.begun.hosted

pub returns-clause-comes : goal.returns-clause-comes
returns-clause-comes c =
    let inv = c.loop-document.invariant in
    let all = all_taken c.args.documents.items c.loop-document.yielded (into_iter_items c.loop-document.document-iterator) inv.documents (inv.left ∙ c.in-None.ensures.steps.0) in
    all_begun c.args.cap.entries c.args.documents.items c.loop-document.yielded c.loop-document.begun c.begin.result all inv.begun c.begin.ensures.begins

pub returns-clause-fits : goal.returns-clause-fits
returns-clause-fits c = opening_ends c.args.cap.entries (map the_named c.loop-document.yielded) c.loop-document.begun c.begin.result c.loop-document.invariant.begun c.begin.ensures.begins
