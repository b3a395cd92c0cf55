use Rattle.std.proofs.Common.{◌≡◌, None, sym, subst, ap, ◌∙◌}
use Rattle.std.specs.Option.{option_map}
use Rattle.cstn_lift.specs.Read.{the_labelled}
use Rattle.cstn_history.specs.Read.{HistoryParts, the_history, IsKeptFor, the_fact_refusal}
use Rattle.cstn_history.specs.Facts.{told_refusal}
use Rattle.cstn_history.specs.contracts.histories.History.{the_view}
use Rattle.cstn_history.proofs.Recorded.{kept_told}
use Rattle.cstn_history.proofs.histories.History.observe.Goals as goal

pub returns-clause-kept : goal.returns-clause-kept
returns-clause-kept c =
    let m = the_labelled c.args.network.now in
    let q = the_view c.self.inside in
    let t = c.args.moment in
    let was = subst (IsKeptFor m) (sym c.self.view_is) c.requires.kept in
    let free = subst (λ (p : HistoryParts). told_refusal m (the_history p) t c.args.p.index ≡ None) (sym c.self.view_is)
    (sym c.told_refusal.ensures.refusal ∙ ap (option_map the_fact_refusal) c.in_default.is) in
    let now = kept_told m c.told_refusal.ensures.labelled q was t c.args.p c.args.value c.with-self-inside.result free c.with-self-inside.ensures.known in
    subst (λ n. IsKeptFor m (record { time = n; done = q.done; told = c.with-self-inside.result; expected = q.expected; ready = q.ready })) (sym c.max-self-inside.ensures) now
