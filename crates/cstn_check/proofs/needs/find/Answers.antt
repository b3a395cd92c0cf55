use Rattle.std.proofs.Common.{◌≤◌, false, sym, subst, ap, ◌∙◌}
use Rattle.cstn_net.specs.Strategies.{IsConsistent}
use Rattle.cstn_net.specs.Read.{NetworkParts, the_network}
use Rattle.cstn_check.specs.Growth.{load_of}
use Rattle.cstn_check.specs.Checks.{CheckParts}
use Rattle.cstn_check.specs.Needs.{IsNeeded}
use Rattle.cstn_check.proofs.Said.{said_is, said_no}
use Rattle.cstn_check.proofs.Needed.{still_no}
use Rattle.cstn_check.proofs.needs.find.Goals as goal

pub returns-clause-said : goal.returns-clause-said
returns-clause-said c =
    let told = (c.run.ensures.exactly_no c.in-No.load).0 c.in-No.is in
    let of_net = subst (λ (k : CheckParts). (load_of (the_network k.net) ≤ k.cap) × (IsConsistent (the_network k.net) → ⊥))
    c.in_ok-check.ensures.start (told.1, told.2) in
    sym (said_no c.args.cap.entries (the_network c.args.net) c.network_is_well_formed.ensures of_net.0 of_net.1)

pub returns-clause-stands : goal.returns-clause-stands
returns-clause-stands c =
    let net = the_network c.args.net in
    let told = (c.run.ensures.exactly_no c.in-No.load).0 c.in-No.is in
    let of_net = subst (λ (k : CheckParts). (load_of (the_network k.net) ≤ k.cap) × (IsConsistent (the_network k.net) → ⊥))
    c.in_ok-check.ensures.start (told.1, told.2) in
    let refuted = (said_is c.args.cap.entries net false (said_no c.args.cap.entries net c.network_is_well_formed.ensures of_net.0 of_net.1)).0 in
    let checked = ap (λ (k : CheckParts). k.net) c.run.ensures.answered ∙ ap (λ (k : CheckParts). k.net) c.in_ok-check.ensures.start in
    let needed = c.in_ok-needed-in-No.needed.items in
    let found = subst (λ (n : NetworkParts). IsNeeded c.args.cap.entries (the_network n) needed) checked c.in_ok-needed-in-No.ensures.needed in
    λ test has. still_no c.args.cap.entries net needed found test has c.network_is_well_formed.ensures refuted of_net.0
