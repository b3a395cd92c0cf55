use Rattle.std.proofs.Common.{rules, refl}
use Rattle.cstn_label.specs.Read.{the_bound}
use Rattle.cstn_closed.proofs.CoverLemmas.{put_covers}
use Rattle.cstn_closed.proofs.minimal.put_in.Goals as goal

pub returns : goal.returns
returns c = record {
  put = put_covers _ (the_bound c.args.b.now) _ (λ x v g k. search rules) c.args.list.now.items c.retain.new.self.items c.push.new.self.items c.args.b.now
      c.retain.ensures.filtered c.in_ok-push.ensures.items refl;
}
