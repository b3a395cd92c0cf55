use Rattle.cstn_plan.proofs.Strategies.{asked_strategy, asked_least, held_before, held_then}
use Rattle.cstn_plan.proofs.laws.closed_lists_have_strategies.Goals as goal

pub returns-clause-strategy : goal.returns-clause-strategy
returns-clause-strategy c = asked_strategy

pub returns-clause-least : goal.returns-clause-least
returns-clause-least c = asked_least

pub returns-clause-held : goal.returns-clause-held
returns-clause-held c net bounds wf closed s t x here =
    (held_then net bounds wf closed s t x here, held_before net bounds wf closed s t x here)
