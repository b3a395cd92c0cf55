use Rattle.std.proofs.Common.{◌≤◌, subst, sym}
use Rattle.cstn_net.specs.Strategies.{IsConsistent}
use Rattle.cstn_net.specs.Read.{the_network}
use Rattle.cstn_check.specs.Growth.{load_of}
use Rattle.cstn_check.specs.Checks.{CheckParts}
use Rattle.cstn_check.proofs.Said.{said_no}
use Rattle.cstn_follow.proofs.tries.said.Goals as goal

pub returns-in-No : goal.returns-in-No
returns-in-No c =
    let told = (c.run.ensures.exactly_no c.in-No.load).0 c.in-No.is in
    let of_net = subst (λ (k : CheckParts). (load_of (the_network k.net) ≤ k.cap) × (IsConsistent (the_network k.net) → ⊥)) c.in_ok-check.ensures.start (told.1, told.2) in
    record { said = sym (said_no c.args.cap.entries (the_network c.args.net) c.network_is_well_formed.ensures of_net.0 of_net.1) }
