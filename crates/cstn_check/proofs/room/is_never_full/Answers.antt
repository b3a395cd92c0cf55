use Rattle.std.proofs.Common.{ℕ, ◌*◌, ap, sym, ◌∙◌, rules, arith}
use Rattle.cstn_net.specs.Networks.{count}
use Rattle.cstn_net.specs.Read.{the_network}
use Rattle.cstn_check.specs.Room.{factor}
use Rattle.cstn_check.proofs.RoomLemmas.{most_by, most_next, most_upto}
use Rattle.cstn_check.proofs.room.is_never_full.Goals as goal

pub loop-x-preserved : goal.loop-x-preserved
loop-x-preserved c =
    let net = the_network c.args.net.now in
    record {
      end = c.loop-x.invariant.end;
      most = ap (λ (m : ℕ). m * c.factor-most.result) c.loop-x.invariant.most
          ∙ ap (λ (k : ℕ). most_by (count net) net.deadline net.observes c.loop-x.x * k) (c.factor-most.ensures ∙ ap factor c.observes.ensures.observes)
          ∙ sym (most_next (count net) net.deadline net.observes c.loop-x.x (search rules));
    }

pub returns-then-most-cap-clause-beyond : goal.returns-then-most-cap-clause-beyond
returns-then-most-cap-clause-beyond c = λ full.
    let net = the_network c.args.net.now in
    omega (arith, c.if-most-cap.true, c.loop-x.invariant.most, most_upto (count net) net.deadline net.observes c.loop-x.x)
