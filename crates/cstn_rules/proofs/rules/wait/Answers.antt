use Rattle.std.proofs.lemmas.Option.{IfSome_then}
use Rattle.cstn_label.specs.Read.{the_bound}
use Rattle.cstn_net.specs.Bounds.{HoldsIn}
use Rattle.cstn_net.specs.Strategies.{Table}
use Rattle.cstn_net.specs.Read.{the_network}
use Rattle.cstn_rules.proofs.Sound.{wait_sound}
use Rattle.cstn_rules.proofs.Shapes.{wait_bound}
use Rattle.cstn_rules.proofs.rules.wait.Goals as goal

pub returns-in-Some-clause-range : goal.returns-in-Some-clause-range
returns-in-Some-clause-range c =
    IfSome_then _ c.wait_for.ensures.wait (λ r w. wait_bound (the_network c.args.net.now) c.in-Some.p.index
    (the_bound c.args.seen.now) (the_bound c.args.b.now) (the_bound r) c.requires.seen c.requires.bound w)

pub returns-in-Some-clause-sound : goal.returns-in-Some-clause-sound
returns-in-Some-clause-sound c =
    IfSome_then c.wait_for.result {Q = λ r. (table : Table) → HoldsIn (the_network c.args.net.now) table (the_bound c.args.seen.now) →
    HoldsIn (the_network c.args.net.now) table (the_bound c.args.b.now) →
    HoldsIn (the_network c.args.net.now) table (the_bound r)}
    c.wait_for.ensures.wait
    (λ r w table seen_holds holds. wait_sound (the_network c.args.net.now) table
    c.in-Some.p.index (the_bound c.args.seen.now) (the_bound c.args.b.now) (the_bound r) c.network_is_well_formed.ensures.network w
    seen_holds holds)
