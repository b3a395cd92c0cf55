use Rattle.std.proofs.Common.{◌≡◌, true, false}
use Rattle.std.proofs.lemmas.Bool.{both_ways, false_from_ne_true}
use Rattle.cstn_check.specs.Givers.{with_some, with_ids}
use Rattle.cstn_check.proofs.Leaving.{found_stops, found_needed}
use Rattle.cstn_check.proofs.search_laws.leaving_out_finds_least_sets.Goals as goal

pub returns : goal.returns
returns c says goes net ids right fewer never is = (
  false_from_ne_true (goes (with_ids net ids)) (found_stops says net ids is (λ n. goes n ≡ true) (λ test e. right (with_some net test) true e)
      (λ test e went. both_ways (goes (with_some net test)) (right (with_some net test) false e) went) fewer (λ went. both_ways (goes net) never went)),
  found_needed says net ids is (λ n. goes n ≡ true) (λ test e. right (with_some net test) true e)
      (λ test e went. both_ways (goes (with_some net test)) (right (with_some net test) false e) went) fewer,
)
