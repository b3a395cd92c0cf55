-- Documents with more constraints than a network holds.
use Rattle.std.proofs.Common.{◌<◌, ◌≤◌, length, ap, arith}
use Rattle.std.proofs.lemmas.List.{length-map}
use Rattle.cstn_net.specs.Limits.{most_constraints}
use Rattle.cstn_net.specs.declared.errors.NetError.{NetError}
use Rattle.cstn_net.specs.declared.errors.NetError.TheVariants.{TooManyConstraints}
use Rattle.cstn_net.specs.Drafts.{net_number}
use Rattle.cstn_net.specs.Networks.{IsWellFormed}
use Rattle.cstn_graphml.specs.Document.{Parts}
use Rattle.cstn_graphml.specs.Networks.{network_of, drawn_of, IsUnfit}
use Rattle.cstn_graphml.proofs.Built.{numbered_length}

pub no_network : (parts : Parts) → most_constraints < length parts.constraints → IsWellFormed (network_of parts) → ⊥
no_network parts many good = absurd (omega (arith, many, good.few_constraints, numbered_length 0 parts.constraints))

pub lowest : (parts : Parts) (error : NetError) → most_constraints < length parts.constraints → IsUnfit parts error → net_number error ≤ net_number TooManyConstraints
lowest parts error many unfit =
    unfit.fault.lowest TooManyConstraints (omega (arith, many, length-map unfit.builder.drafts drawn_of, ap length unfit.parts_are.constraints))
