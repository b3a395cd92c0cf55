use Rattle.std.proofs.Common.{suc, ◌≡◌, ◌+◌, arith, sym, subst, ap, ◌∙◌, refl}
use Rattle.cstn_label.specs.Labels.{IsWithin}
use Rattle.cstn_label.specs.Read.{marks}
use Rattle.cstn_net.specs.Networks.{count}
use Rattle.cstn_net.specs.Read.{the_network}
use Rattle.cstn_lift.specs.Completion.{joined_upto, rounds}
use Rattle.cstn_lift.specs.Read.{the_labelled}
use Rattle.cstn_history.proofs.Rounds.{rounds_are_over, round_begins}
use Rattle.cstn_history.proofs.completion.completed.Goals as goal

pub loop-round-init : goal.loop-round-init
loop-round-init c = refl

pub loop-round-preserved : goal.loop-round-preserved
loop-round-preserved c =
    let m = the_labelled c.args.network.now in
    let a = marks c.args.label in
    let next : c.loop-round._round + 1 ≡ suc c.loop-round._round = omega arith in
    c.with_observers-next.ensures.joined ∙ ap (λ l. joined_upto m (count m.base) l) c.loop-round.invariant ∙ ap (λ n. rounds m n a) (sym next)

pub returns-then-is_within : goal.returns-then-is_within
returns-then-is_within c =
    let m = the_labelled c.args.network.now in
    let a = marks c.args.label in
    let whole = marks c.loop-round.whole in
    let so_far = c.loop-round.invariant in
    let next = c.with_observers-next.ensures.joined in
    let below = c.is_within.ensures.within.0 c.if-is_within.true in
    let fixed : joined_upto m (count m.base) whole ≡ whole = c.within_is_an_order.ensures.antisymmetric (joined_upto m (count m.base) whole) whole
    (subst (λ l. IsWithin l whole) next below) (round_begins m whole) in
    record { completed = so_far ∙ rounds_are_over m c.loop-round._round a (sym (ap (joined_upto m (count m.base)) so_far) ∙ fixed ∙ so_far) }

pub returns : goal.returns
returns c =
    let m = the_labelled c.args.network.now in
    let count_is = c.count-round-end.ensures.count in
    let base_is = ap (λ n. count (the_network n)) c.base.ensures.base in
    let all : c.loop-round._round ≡ count m.base = omega arith in
    record { completed = c.loop-round.invariant ∙ ap (λ n. rounds m n (marks c.args.label)) all }
