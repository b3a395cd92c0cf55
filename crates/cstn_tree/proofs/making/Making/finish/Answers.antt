use Rattle.std.proofs.Common.{sym, ap, ◌∙◌}
use Rattle.std.proofs.lemmas.List.{nil_from_length}
use Rattle.cstn_net.specs.Read.{the_network}
use Rattle.cstn_plan.specs.Plans.{the_bounds}
use Rattle.cstn_exec.specs.Moves.{handed}
use Rattle.cstn_exec.specs.Read.{ExecParts}
use Rattle.cstn_tree.proofs.MakingLemmas.{making_turn, making_end}
use Rattle.cstn_tree.proofs.making.Making.finish.Goals as goal

pub returns-in-Some-clause-goes_on : goal.returns-in-Some-clause-goes_on
returns-in-Some-clause-goes_on c = λ h.
    making_turn (the_network c.args.exec.now.net) (the_bounds c.args.exec.now.bounds) c.args.exec.now.run c.see.new.exec.run c.args.self.now _ c.in-Some.ask
    c.requires.over c.requires.making c.in-Some.ensures.items c.in_ok-push.ensures.items
    (ap (λ (e : ExecParts). e.run) c.see.ensures.handed ∙ ap (λ (e : ExecParts). handed e.run c.in-Some.ask.prop.index _) c.go_back.ensures.back)

pub returns-in-None-clause-ends : goal.returns-in-None-clause-ends
returns-in-None-clause-ends c = λ h.
    making_end (the_network c.args.exec.now.net) (the_bounds c.args.exec.now.bounds) c.args.exec.now.run c.args.self.now c.push.new.self.items c.requires.over c.requires.making
    (nil_from_length c.args.self.now.asks.items (sym c.args.self.now.asks.ok.0 ∙ c.in-None.ensures.cases.0)) c.in_ok-push.ensures.items
