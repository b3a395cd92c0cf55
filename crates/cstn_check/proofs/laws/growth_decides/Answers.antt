use Rattle.cstn_check.proofs.Decides.{log_derived, log_closed, log_last, log_decides, least_exists}
use Rattle.cstn_check.proofs.laws.growth_decides.Goals as goal

pub returns-clause-derivation : goal.returns-clause-derivation
returns-clause-derivation c net good = log_derived net good.network good.letters

pub returns-clause-last : goal.returns-clause-last
returns-clause-last c net e good = log_last net good.network good.letters e

pub returns-clause-closed : goal.returns-clause-closed
returns-clause-closed c net good = log_closed net good.network good.letters

pub returns-clause-decides : goal.returns-clause-decides
returns-clause-decides c net good = log_decides net good.network good.letters

pub returns-clause-least : goal.returns-clause-least
returns-clause-least c net good = least_exists net good.network good.letters
