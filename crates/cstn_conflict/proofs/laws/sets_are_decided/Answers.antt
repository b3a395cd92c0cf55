use Rattle.cstn_check.specs.Givers.{is_of, with_ids}
use Rattle.cstn_check.proofs.Decides.{decided}
use Rattle.cstn_check.proofs.Fewer.{some_well_formed}
use Rattle.cstn_check.proofs.Parts.{whole_ids}
use Rattle.cstn_conflict.proofs.ConflictLemmas.{fewer_some}
use Rattle.cstn_conflict.proofs.laws.sets_are_decided.Goals as goal

pub returns : goal.returns
returns c = record {
  well_formed = λ net set. some_well_formed net (λ c. is_of set c.id);
  whole = whole_ids;
  decided = λ net set good. decided (with_ids net set) (some_well_formed net (λ c. is_of set c.id) good);
  more = λ net a b. fewer_some net (is_of a) (is_of b);
}
