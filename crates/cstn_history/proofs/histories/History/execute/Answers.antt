use Rattle.std.proofs.Common.{◌≡◌, None, Some, sym, subst, ap, ◌∙◌}
use Rattle.std.specs.Option.{option_map}
use Rattle.std.specs.Prelude.{max, slice_set}
use Rattle.cstn_lift.specs.Read.{the_labelled}
use Rattle.cstn_history.specs.Read.{HistoryParts, the_history, IsKeptFor, the_fact_refusal}
use Rattle.cstn_history.specs.Facts.{done_refusal}
use Rattle.cstn_history.specs.contracts.histories.History.{the_view}
use Rattle.cstn_history.proofs.Recorded.{kept_done}
use Rattle.cstn_history.proofs.histories.History.execute.Goals as goal

pub returns-clause-kept : goal.returns-clause-kept
returns-clause-kept c =
    let m = the_labelled c.args.network.now in
    let q = the_view c.self.inside in
    let t = c.args.moment in
    let was = subst (IsKeptFor m) (sym c.self.view_is) c.requires.kept in
    let free = subst (λ (p : HistoryParts). done_refusal m (the_history p) t c.args.x.0 ≡ None) (sym c.self.view_is)
    (sym c.done_refusal.ensures.refusal ∙ ap (option_map the_fact_refusal) c.in_default.is) in
    let now = kept_done m c.done_refusal.ensures.labelled q was t c.args.x.0 free in
    let there = subst (λ i. IsKeptFor m (record { time = max q.time t; done = slice_set q.done i (Some t); told = q.told; expected = q.expected; ready = q.ready }))
    (sym c.index.ensures.index) now in
    subst (λ n. IsKeptFor m (record { time = n; done = slice_set q.done c.index.result (Some t); told = q.told; expected = q.expected; ready = q.ready }))
    (sym c.max-self-inside.ensures) there
