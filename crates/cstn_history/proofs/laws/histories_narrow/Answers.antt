use Rattle.cstn_history.proofs.Narrows.{narrower, told_continues}
use Rattle.cstn_history.proofs.laws.histories_narrow.Goals as goal

pub returns : goal.returns
returns c = record {
  time_and_steps = λ m h later table good before after on goes. narrower m h later good before after on table goes;
  told = λ m h later table on goes. told_continues m h later on table goes;
}
