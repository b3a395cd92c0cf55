use Rattle.cstn_change.proofs.RefusalLemmas.{least_first, none_first, on_observed}
use Rattle.cstn_change.proofs.laws.unobserved_is_found.Goals as goal

pub returns-clause-found : goal.returns-clause-found
returns-clause-found c = least_first

pub returns-clause-none : goal.returns-clause-none
returns-clause-none c net a small = (on_observed net a small, none_first net a)
