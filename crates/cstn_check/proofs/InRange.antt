-- The bounds of the live entries of a log are in range.
use Rattle.std.proofs.Common.{◌+◌, length, subst}
use Rattle.std.specs.List.{Contains}
use Rattle.cstn_label.specs.Bounds.{Bound}
use Rattle.cstn_net.specs.Networks.{Network, IsWellFormed, count}
use Rattle.cstn_rules.specs.Rules.{IsBoundOf}
use Rattle.cstn_log.specs.Entries.{bases}
use Rattle.cstn_check.specs.Growth.{live_bounds, log_of, most_entries}
use Rattle.cstn_check.specs.Kept.{IsKeptList}
use Rattle.cstn_check.proofs.Bounded.{bases_kept, grown_kept}
use Rattle.cstn_check.proofs.GoodLemmas.{good_at}
use Rattle.cstn_check.proofs.Lists.{listed_live}

pub live_in_range : (net : Network) → IsWellFormed net → (b : Bound) → Contains (live_bounds (log_of net)) b → IsBoundOf net b
live_in_range net wf b has =
    let kept : IsKeptList net (log_of net) = grown_kept net wf.network wf.letters (bases (count net)) (length (bases (count net)) + most_entries net) (bases_kept net wf.network wf.letters) in
    let at = listed_live (log_of net) b has in
    let good = good_at net (log_of net) at.place at.entry kept.good at.there in
    let ranged = kept.ranged at.place at.entry at.there in
    subst (λ x. IsBoundOf net x) at.bound (record { node = good.node; low = ranged.low; high = ranged.high })
