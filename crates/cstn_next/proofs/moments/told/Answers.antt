use Rattle.std.proofs.Common.{ℕ, ◌≡◌, Some, Option, length, arith, sym, ap, ◌∙◌}
use Rattle.cstn_net.specs.Networks.{count}
use Rattle.cstn_plan.specs.Plans.{the_bounds}
use Rattle.cstn_lift.specs.Read.{the_labelled}
use Rattle.cstn_history.specs.Read.{the_history}
use Rattle.cstn_next.specs.Next.{coming_at, coming_moments, awaited_from, earlier, earliest, next_moment}
use Rattle.cstn_next.proofs.Filled.{filled_long}
use Rattle.cstn_next.proofs.Told.{told_by}
use Rattle.cstn_next.proofs.moments.told.Goals as goal

pub next_at-requires : goal.next_at-requires
next_at-requires c =
    let m = the_labelled c.args.network.now in
    let h = the_history c.args.history.now in
    let coming = ap length (c.deref-3.ensures.value ∙ c.in_ok-coming.ensures) in
    let points = filled_long (coming_at m h (the_bounds c.args.plan.now.bounds)) (count m.base) in
    let few = c.base.ensures.well_formed.few_points in
    record { few = omega arith; size = ap length (c.deref-4.ensures.value ∙ c.in_ok-awaited.ensures) ∙ filled_long (awaited_from m h) 52 }

pub returns : goal.returns
returns c =
    let m = the_labelled c.args.network.now in
    let h = the_history c.args.history.now in
    let bounds = the_bounds c.args.plan.now.bounds in
    let coming = coming_moments m h bounds in
    let first : Some c.in-Some.moment ≡ next_moment m h bounds =
    sym c.in-Some.is ∙ c.earlier.ensures
    ∙ ap (λ (o : Option ℕ). earlier o c.earliest-2.result) (c.earliest.ensures ∙ ap earliest (c.deref.ensures.value ∙ c.in_ok-coming.ensures))
    ∙ ap (λ (o : Option ℕ). earlier (earliest coming) o) (c.earliest-2.ensures ∙ ap earliest (c.deref-2.ensures.value ∙ c.in_ok-awaited.ensures)) in
    record {
      told = told_by m h bounds c.in_ok-next.next c.in-Some.moment c.deref-3.result.now c.deref-4.result.now
          (c.deref-3.ensures.value ∙ c.in_ok-coming.ensures) (c.deref-4.ensures.value ∙ c.in_ok-awaited.ensures) first
          c.in_ok-next.ensures.moment c.in_ok-next.ensures.named c.in_ok-next.ensures.awaited;
    }
