use Rattle.std.proofs.Common.{ℕ, ◌≡◌, false, subst}
use Rattle.std.specs.Prelude.{Some, slice_get}
use Rattle.cstn_label.specs.Labels.{IsMarked}
use Rattle.cstn_label.specs.Read.{marks}
use Rattle.cstn_rules.specs.declared.entries.Entry.{Entry}
use Rattle.cstn_log.specs.Entries.{State, IsLive}
use Rattle.cstn_log.proofs.KeptLemmas.{placed_live}
use Rattle.cstn_log.proofs.log.Log.may_mark.Goals as goal

pub returns : goal.returns
returns c = record {
  none = subst (λ (v : State). c.may_mark.result ≡ false → (k : ℕ) (e : Entry) → slice_get v.entries k ≡ Some e → IsLive v.entries k → e.bound.node.0 ≡ c.args.x.0
      → ¬ IsMarked (marks e.bound.label) c.args.p.index) c.self.view_is
      (λ off k e there live at marked.
      let placed = placed_live _ _ _ _ _ _ k e c.self.invariant.kept there live in
      c.may_mark.ensures.none off placed.0.slot (placed.0.birth, e.bound) placed.2 at marked);
}
