use Rattle.std.proofs.Common.{◌≡◌, None, sym, subst, ap, ◌∙◌}
use Rattle.std.specs.Option.{option_map}
use Rattle.std.specs.Prelude.{slice_set}
use Rattle.cstn_lift.specs.Read.{the_labelled}
use Rattle.cstn_history.specs.Read.{HistoryParts, the_history, IsKeptFor, the_fact_refusal}
use Rattle.cstn_history.specs.Facts.{wait_refusal}
use Rattle.cstn_history.specs.contracts.histories.History.{the_view}
use Rattle.cstn_history.proofs.Recorded.{kept_ready, ready_free}
use Rattle.cstn_history.proofs.histories.History.make_ready.Goals as goal

pub returns-clause-kept : goal.returns-clause-kept
returns-clause-kept c =
    let m = the_labelled c.args.network.now in
    let q = the_view c.self.inside in
    let t = c.args.moment in
    let was = subst (IsKeptFor m) (sym c.self.view_is) c.requires.kept in
    let free = subst (λ (p : HistoryParts). wait_refusal m (the_history p) c.args.x.0 ≡ None) (sym c.self.view_is)
    (sym c.wait_refusal.ensures.refusal ∙ ap (option_map the_fact_refusal) c.in_default.is) in
    let now = kept_ready m c.wait_refusal.ensures.labelled q was t c.args.x.0
    (ready_free m (the_history q) t c.args.x.0 (sym c.is_beyond.ensures ∙ c.if-is_beyond.false) free) in
    subst (λ i. IsKeptFor m (record { time = q.time; done = q.done; told = q.told; expected = q.expected; ready = slice_set q.ready i t }))
    (sym c.index.ensures.index) now
