use Rattle.std.proofs.Common.{arith, ◌≡◌, to_z, of_z, sym, subst, ap, ◌∙◌}
use Rattle.std.specs.Prelude.{ℤ, pos, ◌+ℤ◌, ◌-ℤ◌, int_lt, if◌then◌else◌}
use Rattle.std.specs.Int.{w32, int_max}
use Rattle.std.proofs.lemmas.Int.{ints, to_z-of_z}
use Rattle.std.proofs.lemmas.Result.{IfOk-weaker}
use Rattle.cstn_lift.specs.Read.{the_labelled}
use Rattle.cstn_history.specs.Read.{the_history}
use Rattle.cstn_follow.specs.Raises.{said_raised, raise_first, least_tried}
use Rattle.cstn_follow.specs.Sessions.{SessionParts}
use Rattle.cstn_follow.specs.declared.answers.Raise.TheVariants.{Never}
use Rattle.cstn_net.proofs.Values.{value_fits}
use Rattle.cstn_follow.proofs.session.Session.raise_stuck.Goals as goal

pub returns-in_ok-said : goal.returns-in_ok-said
returns-in_ok-said c =
    let s = c.args.self.now in
    let m = the_labelled s.network in
    let h = the_history s.history in
    let id = c.args.id in
    let own = c.args.own in
    let high = c.highest-high.result in
    let low = c.least_tried.result in
    let high_is = to_z-of_z w32 high (value_fits high c.highest-high.ensures.value) ∙ c.highest-high.ensures.highest in
    let own_is = to_z-of_z w32 own c.ranges.own in
    let range = c.highest-high.ensures.range in
    let order = c.least_tried.ensures.order in
    let from = c.least_tried.ensures.low in
    let value_is = c.highest-high.ensures.highest in
    let fits = value_fits low (omega (arith, ints), omega (arith, ints)) in
    let low_is = to_z-of_z w32 low fits ∙ c.least_tried.ensures.tried
    ∙ ap (λ (z : ℤ). int_max (z +ℤ pos 1) (pos 0 -ℤ to_z w32 (of_z w32 high))) own_is ∙ ap (λ (z : ℤ). int_max (own +ℤ pos 1) (pos 0 -ℤ z)) high_is in
    let said_is = subst (λ (k : SessionParts). c.in_ok-said.said ≡ said_raised (the_labelled k.network) (the_history k.history) k.fresh k.cap id (to_z w32 (of_z w32 high)))
    c.self.view_is c.in_ok-said.ensures.said ∙ ap (said_raised m h s.fresh s.cap id) high_is in
    let test = sym (ap (λ (z : ℤ). int_lt z (to_z w32 (of_z w32 high))) own_is ∙ ap (int_lt own) high_is) ∙ c.if-own-high.true in
    record {
      told = IfOk-weaker c.raise_first.result _ _
          (λ r is. is ∙ ap (λ (z : ℤ). raise_first m h s.fresh s.cap id z c.in_ok-said.said) low_is ∙ ap (raise_first m h s.fresh s.cap id (least_tried m own)) said_is
          ∙ sym (ap (λ b. if b then raise_first m h s.fresh s.cap id (least_tried m own) (said_raised m h s.fresh s.cap id (pos m.base.deadline)) else Never) test))
          c.raise_first.ensures.told;
    }
