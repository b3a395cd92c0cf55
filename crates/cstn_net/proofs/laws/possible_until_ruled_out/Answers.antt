use Rattle.cstn_label.proofs.LabelLemmas.{possible_within, possible_joined, possible_left, possible_right, possible_earlier, possible_alike, holds_from_possible}
use Rattle.cstn_net.specs.Strategies.{IsKnown}
use Rattle.cstn_net.proofs.Knowledge.{known_later, flipped, holds_possible}
use Rattle.cstn_net.proofs.laws.possible_until_ruled_out.Goals as goal

pub returns-clause-within : goal.returns-clause-within
returns-clause-within c net at t s a b = possible_within (IsKnown net at t) s a b

pub returns-clause-joined : goal.returns-clause-joined
returns-clause-joined c net at t s a b = (
  (λ h. (possible_left (IsKnown net at t) s a b h, possible_right (IsKnown net at t) s a b h)),
  (λ h. possible_joined (IsKnown net at t) s a b h.0 h.1),
)

pub returns-clause-earlier : goal.returns-clause-earlier
returns-clause-earlier c net at t u s a upto = possible_earlier (IsKnown net at t) (IsKnown net at u) s a (λ p k. known_later net at t u p upto k)

pub returns-clause-agrees : goal.returns-clause-agrees
returns-clause-agrees c net at t s r a agrees = possible_alike (IsKnown net at t) s r a agrees

pub returns-clause-holds : goal.returns-clause-holds
returns-clause-holds c = holds_possible

pub returns-clause-settled : goal.returns-clause-settled
returns-clause-settled c net at t s a all = holds_from_possible (IsKnown net at t) s a all

pub returns-clause-flipped : goal.returns-clause-flipped
returns-clause-flipped c = flipped
