use Rattle.cstn_net.proofs.HandedLemmas.{prompt_is_timely, prompt_reaction}
use Rattle.cstn_net.proofs.handing.reactions_are_a_tick_at_first.Goals as goal

pub returns : goal.returns
returns c = record { timely = prompt_is_timely; reaction = prompt_reaction }
