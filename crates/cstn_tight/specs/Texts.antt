-- What is said of the least deadline.
use Rattle.std.specs.Prelude.{ℕ, ◌-◌, nat_eq, if◌then◌else◌, List, [], ◌++◌, codes, decimal}
use Rattle.cstn_net.specs.Networks.{Network}
use Rattle.cstn_log.specs.Cuts.{last_with_ancestors}
use Rattle.cstn_check.specs.Growth.{log_of, load_of, live_bounds}
use Rattle.cstn_check.specs.Decisions.{on_verdict}
use Rattle.cstn_refute.specs.Texts.{refutation_shown}
use Rattle.cstn_closed.specs.Texts.{closed_shown as shown_bounds}
use Rattle.cstn_tight.specs.Deadlines.{at_deadline, least_deadline}
use Rattle.cstn_reply.specs.Texts.{Said, line}
use Rattle.cstn_reply.specs.declared.output.Outcome.TheVariants.{Good}

-- the text of the refutation of a network
abbrev pub refuted_text : List (List ℕ) → Network → List ℕ
refuted_text names net = refutation_shown names (load_of net) (last_with_ancestors (log_of net))

-- the deadline, the bounds of the network at it, and the refutation of the network one tick below, unless the deadline is 0
abbrev pub tight_text : List (List ℕ) → Network → ℕ → List ℕ
tight_text names net h =
    line (codes "least " ++ decimal h) ++ shown_bounds names (load_of (at_deadline net h)) (live_bounds (log_of (at_deadline net h)))
    ++ (if nat_eq h 0 then [] else refuted_text names (at_deadline net (h - 1)))

-- what is said of a consistent network: the least deadline at which it is
abbrev pub tight_said : List (List ℕ) → Network → Said
tight_said names net = record { outcome = Good; text = tight_text names net (least_deadline net) }

-- what `tight` says of a network: this after yes
abbrev pub tightened : ℕ → List (List ℕ) → Network → Said
tightened cap names net = on_verdict cap names net (tight_said names net)
