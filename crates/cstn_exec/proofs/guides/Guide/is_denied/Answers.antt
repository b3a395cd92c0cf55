use Rattle.std.proofs.Common.{ℕ, ◌≡◌, false, arith, sym, subst, ap, ◌∙◌}
use Rattle.std.specs.Prelude.{slice_index_or, Some, None}
use Rattle.std.proofs.lemmas.List.{get_or_default}
use Rattle.cstn_net.specs.Networks.{Observes}
use Rattle.cstn_net.specs.Read.{NetworkParts, the_network}
use Rattle.cstn_lift.specs.Lowered.{lowered, observer_of}
use Rattle.cstn_lift.specs.Read.{the_labelled}
use Rattle.cstn_exec.specs.Guides.{is_among, is_denied}
use Rattle.cstn_exec.specs.GuideRead.{GuideParts}
use Rattle.cstn_exec.proofs.guides.Guide.is_denied.Goals as goal

pub returns-in-Some : goal.returns-in-Some
returns-in-Some c =
    let m = the_labelled c.self.inside.labels in
    let left = c.self.inside.left.items in
    let sees = subst (λ (n : NetworkParts). Observes (the_network n) c.in-Some.x.0 c.args.p.index) c.base.ensures.base c.in-Some.ensures.observer in
    let at : observer_of m.base c.args.p.index ≡ Some c.in-Some.x.0 =
    c.observers_are_found.ensures.found m.base c.in-Some.x.0 c.args.p.index c.self.invariant.labelled.base.network sees in
    let here = c.observers_are_time_points.ensures.within m.base c.in-Some.x.0 c.args.p.index sees in
    let size = c.self.invariant.guided.size in
    let index = c.index.ensures.index in
    subst (λ (v : GuideParts). c.index-in-Some.result.now ≡ is_denied (lowered (the_labelled v.labelled)) v.state c.args.p.index) c.self.view_is
    (c.index-in-Some.ensures ∙ get_or_default left c.index.result c.index-in-Some.result.now false (omega arith)
    ∙ ap (λ (i : ℕ). slice_index_or left i false) index ∙ sym (ap (is_among left) at))

pub returns-in-None : goal.returns-in-None
returns-in-None c =
    let m = the_labelled c.self.inside.labels in
    let left = c.self.inside.left.items in
    let nobody = subst (λ (n : NetworkParts). (x : ℕ) → Observes (the_network n) x c.args.p.index → ⊥) c.base.ensures.base c.in-None.ensures.observer in
    let at : observer_of m.base c.args.p.index ≡ None = c.observers_are_found.ensures.none m.base c.args.p.index nobody in
    subst (λ (v : GuideParts). false ≡ is_denied (lowered (the_labelled v.labelled)) v.state c.args.p.index) c.self.view_is
    (sym (ap (is_among left) at))
