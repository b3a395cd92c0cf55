use Rattle.std.proofs.Common.{ap, sym, ◌∙◌}
use Rattle.cstn_exec.specs.Answers.{Moment, Names}
use Rattle.cstn_run.specs.hosted.Hosts.{HostParts, named_in}
use Rattle.cstn_run.specs.hosted.Calls.{Pass, Told, answer_on, host_after}
use Rattle.cstn_run.specs.hosted.Read.{answer_of}
use Rattle.cstn_run.proofs.hosts.CaseLemmas.{IsAt, over_at, answered_at, after_put, put_there}
use Rattle.cstn_run.proofs.hosted.hosts.Host.moment.Goals as goal

pub returns-clause-answer : goal.returns-clause-answer
returns-clause-answer c =
    let plans = c.self.inside.plans.items in
    let cases = c.self.inside.cases.items in
    let place = c.in_ok-place.place in
    let d = c.index_mut.result.now in
    let here : IsAt cases c.args.id place d = record { is_place = c.in_ok-place.ensures.place.0; is_small = c.in_ok-place.ensures.place.1; is_item = c.index_mut.ensures.value } in
    ap (λ o. answer_of (λ _. Told (Names (named_in o))) c.pass_moment.result) (put_there plans cases c.args.id place d c.pass_moment.new.case c.self.invariant here)
    ∙ c.pass_moment.ensures.answer plans (over_at plans cases c.args.id place d c.self.invariant here)
    ∙ sym (answered_at plans cases c.args.id place d (Pass (Moment c.args.t)) c.self.invariant here)
    ∙ ap (λ (h : HostParts). answer_on h c.args.id (Pass (Moment c.args.t))) c.self.view_is

pub returns-clause-after : goal.returns-clause-after
returns-clause-after c =
    let plans = c.self.inside.plans.items in
    let cases = c.self.inside.cases.items in
    let place = c.in_ok-place.place in
    let d = c.index_mut.result.now in
    let here : IsAt cases c.args.id place d = record { is_place = c.in_ok-place.ensures.place.0; is_small = c.in_ok-place.ensures.place.1; is_item = c.index_mut.ensures.value } in
    after_put plans cases c.args.id place d c.pass_moment.new.case (Pass (Moment c.args.t)) c.self.invariant here
    (c.pass_moment.ensures.after plans (over_at plans cases c.args.id place d c.self.invariant here))
    ∙ ap (λ (h : HostParts). host_after h c.args.id (Pass (Moment c.args.t))) c.self.view_is
