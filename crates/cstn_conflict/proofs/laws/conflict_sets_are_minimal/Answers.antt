use Rattle.cstn_conflict.proofs.ConflictLemmas.{inconsistent, needed, ascends, some_ids, one_set}
use Rattle.cstn_conflict.proofs.laws.conflict_sets_are_minimal.Goals as goal

pub returns : goal.returns
returns c = record {
  inconsistent = λ net cap ids good never is. inconsistent cap net ids is good never;
  needed = λ net cap id ids good is. needed cap net ids is good id;
  ascending = λ net cap ids good is. ascends cap net ids is good;
  some = λ net cap ids good never is. some_ids net ids (inconsistent cap net ids is good never);
  one = one_set;
}
