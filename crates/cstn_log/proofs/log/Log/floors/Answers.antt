use Rattle.std.proofs.Common.{ℕ, ◌≡◌, ◌⊎◌, ◌<◌, inl, inr, subst}
use Rattle.std.specs.Prelude.{pos, slice_index_or}
use Rattle.cstn_label.specs.Labels.{without}
use Rattle.cstn_label.specs.Read.{marks}
use Rattle.cstn_log.specs.Entries.{State, HasLeast}
use Rattle.cstn_log.proofs.KeptLemmas.{least_there}
use Rattle.cstn_log.proofs.log.Log.floors.Goals as goal

pub returns : goal.returns
returns c =
    let floors = c.floors.result in
    record {
      floors = subst (λ (v : State). (p : ℕ) → p < 52 → (slice_index_or floors p (pos 0) ≡ pos 0)
          ⊎ HasLeast v.entries c.args.x.0 (without (marks c.args.label) p) (slice_index_or floors p (pos 0))) c.self.view_is
          (λ p low. elim (c.floors.ensures.floors p low) [
            | inl ground ↦ inl ground
            | inr some ↦
                inr (least_there c.self.inside.minimal.table c.self.inside.list.entries c.self.inside.list.ids c.args.x.0 (without (marks c.args.label) p)
                (slice_index_or floors p (pos 0)) c.self.invariant.kept.tabled some)
          ]);
    }
