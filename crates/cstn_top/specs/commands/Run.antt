-- `run FILE [--deadline N] [--cap CAP]`: a network is carried out by the lines of the live source.
use Rattle.std.specs.Prelude.{ℕ, List, map}
use Rattle.cstn_label.specs.Bounds.{Bound}
use Rattle.cstn_net.specs.Networks.{count}
use Rattle.cstn_text.specs.PrintedNames.{printed_name}
use Rattle.cstn_lift.specs.Labelled.{Labelled}
use Rattle.cstn_lift.specs.Lowered.{lowered}
use Rattle.cstn_check.specs.Growth.{log_of, load_of, live_bounds}
use Rattle.cstn_check.specs.Decisions.{verdict}
use Rattle.cstn_exec.specs.Guides.{guide_begun}
use Rattle.cstn_reply.specs.Texts.{yes_line}
use Rattle.cstn_run.specs.Sessions.{guide_turn, guide_ending}
use Rattle.cstn_top.specs.Plans.{session}
use Rattle.cstn_top.specs.Answers.{LabelledAnswer, plan_on_verdict}

-- what `run` says of a labelled network: after yes the answers to the live lines, by the bounds of the live entries of its log
abbrev pub run_answer : ℕ → LabelledAnswer
run_answer cap names m =
    plan_on_verdict cap names (lowered m)
    (session (guide_turn (map printed_name names) m (live_bounds (log_of (lowered m)))) (guide_ending m (live_bounds (log_of (lowered m))))
    (yes_line (load_of (lowered m))) (guide_begun (count m.base)))
    (verdict cap (lowered m))

-- the bounds by which a labelled network is carried out: those of the live entries of the log of the lowered network
abbrev pub run_bounds : Labelled → List Bound
run_bounds m = live_bounds (log_of (lowered m))
