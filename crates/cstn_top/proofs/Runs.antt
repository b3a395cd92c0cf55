-- A run that was prepared.
use Rattle.std.proofs.Common.{◌≡◌, ℕ, List, map, refl, ap, subst}
use Rattle.std.specs.Prelude.{Option, Some}
use Rattle.cstn_net.specs.Networks.{Network, count}
use Rattle.cstn_text.specs.PrintedNames.{printed_name}
use Rattle.cstn_lift.specs.Labelled.{Labelled}
use Rattle.cstn_lift.specs.Lowered.{lowered}
use Rattle.cstn_check.specs.Growth.{log_of, load_of, live_bounds}
use Rattle.cstn_check.specs.declared.verdicts.Verdict.TheVariants.{Yes}
use Rattle.cstn_exec.specs.Guides.{guide_begun}
use Rattle.cstn_reply.specs.Texts.{yes_line}
use Rattle.cstn_reply.specs.Texts.{Said}
use Rattle.cstn_top.specs.Plans.{Plan, says, unless_said, ComesTo, session}
use Rattle.cstn_top.specs.commands.Run.{run_answer}
use Rattle.cstn_check.specs.Decisions.{verdict, unless_yes}
use Rattle.cstn_run.specs.Sessions.{guide_turn, guide_ending}

-- a yes on a network is a yes on an equal network
pub verdict_for : (cap : ℕ) (net other : Network) → net ≡ other → verdict cap net ≡ Yes (load_of net) → verdict cap other ≡ Yes (load_of other)
verdict_for cap net other same is = subst (λ (n : Network). verdict cap n ≡ Yes (load_of n)) same is

-- what is said after no, or where the log has more entries than it may
pub told_for : (cap : ℕ) (names : List (List ℕ)) (net : Network) (m : Labelled) (said : Said) → net ≡ lowered m → unless_yes cap names net (verdict cap net) ≡ Some said → ComesTo (run_answer cap names m) (says said)
told_for cap names net m said same source =
    subst (ComesTo (run_answer cap names m)) (ap (λ (o : Option Said). unless_said o after_yes) (subst (λ (n : Network). unless_yes cap names n (verdict cap n) ≡ Some said) same source))
    (record { output = λ live s is. is; talks = λ may. may; fault = λ may taken. refl; stops = λ source said is. is })
  where
    after_yes : Plan
    after_yes =
        session (guide_turn (map printed_name names) m (live_bounds (log_of (lowered m)))) (guide_ending m (live_bounds (log_of (lowered m))))
        (yes_line (load_of (lowered m))) (guide_begun (count m.base))
