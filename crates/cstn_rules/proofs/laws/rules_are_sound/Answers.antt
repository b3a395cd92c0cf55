use Rattle.cstn_rules.proofs.Sound.{base_sound, chain_sound, wait_sound, refuting_fails}
use Rattle.cstn_rules.proofs.laws.rules_are_sound.Goals as goal

pub returns-clause-base : goal.returns-clause-base
returns-clause-base c = base_sound

pub returns-clause-chain : goal.returns-clause-chain
returns-clause-chain c = chain_sound

pub returns-clause-wait : goal.returns-clause-wait
returns-clause-wait c = wait_sound

pub returns-clause-refuting : goal.returns-clause-refuting
returns-clause-refuting c = refuting_fails
