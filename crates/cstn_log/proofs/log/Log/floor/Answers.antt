use Rattle.std.proofs.Common.{◌≡◌, ◌⊎◌, inl, inr, subst, rules, SFits, w32}
use Rattle.std.specs.Prelude.{pos}
use Rattle.std.proofs.lemmas.Int.{to_z-of_z}
use Rattle.cstn_label.specs.Read.{marks}
use Rattle.cstn_log.specs.Entries.{State, HasLeast}
use Rattle.cstn_log.proofs.KeptLemmas.{least_there}
use Rattle.cstn_log.proofs.log.Log.floor.Goals as goal

pub returns : goal.returns
returns c =
    let least = c.floor.result in
    let fits : SFits w32 least = search rules in
    let told : (least ≡ pos 0) ⊎ HasLeast c.args.self.now.entries c.args.x.0 (marks c.args.label) least =
    subst (λ (v : State). (least ≡ pos 0) ⊎ HasLeast v.entries c.args.x.0 (marks c.args.label) least) c.self.view_is
    (elim c.floor.ensures.floor [
      | inl ground ↦ inl ground
      | inr some ↦
          inr (least_there c.self.inside.minimal.table c.self.inside.list.entries c.self.inside.list.ids c.args.x.0 (marks c.args.label) least
          c.self.invariant.kept.tabled some)
    ]) in
    record { floor = rw (to_z-of_z w32 least fits) told }
