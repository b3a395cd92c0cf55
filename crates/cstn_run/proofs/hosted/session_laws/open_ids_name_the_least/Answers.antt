use Rattle.cstn_net.specs.Networks.{count}
use Rattle.cstn_exec.specs.Runs.{start_of_run}
use Rattle.cstn_exec.specs.Right.{IsRightRun}
use Rattle.cstn_run.specs.hosted.Sessions.{no_file}
use Rattle.cstn_run.specs.hosted.Alone.{own_file, own_run}
use Rattle.cstn_run.specs.hosted.Least.{HasPlanBounds}
use Rattle.cstn_run.proofs.hosts.Own.{file_inside}
use Rattle.cstn_run.proofs.hosts.Least.{all_planned, right_after_all, names_least, tells_due, is_due_moment}
use Rattle.cstn_run.proofs.hosted.session_laws.open_ids_name_the_least.Goals as goal

pub returns-clause-planned : goal.returns-clause-planned
returns-clause-planned c all = all_planned all (λ named wf. (c.growth_decides.ensures.decides named.net wf).0)

pub returns-clause-least : goal.returns-clause-least
returns-clause-least c files lines id t own plans is accepted =
    let file = own_file files own in
    let plan : HasPlanBounds file = plans own.file no_file (file_inside files lines id own is) in
    let right : IsRightRun file.net (own_run files own) =
    right_after_all file plan (λ run u. c.runs_stay_right.ensures.moved file.net file.bounds run u plan) (λ run p. c.runs_stay_right.ensures.handed file.net run p plan.well_formed)
    (start_of_run (count file.net)) own.lives (c.runs_stay_right.ensures.start file.net file.bounds plan) in
    names_least files lines id own is t accepted (c.the_named_are_called.ensures.named file.net file.bounds (own_run files own) t plan right accepted)
    (c.the_named_are_called.ensures.ascending file.net file.bounds (own_run files own) t)

pub returns-clause-due : goal.returns-clause-due
returns-clause-due c files lines id own plans is =
    let file = own_file files own in
    let plan : HasPlanBounds file = plans own.file no_file (file_inside files lines id own is) in
    let right : IsRightRun file.net (own_run files own) =
    right_after_all file plan (λ run u. c.runs_stay_right.ensures.moved file.net file.bounds run u plan) (λ run p. c.runs_stay_right.ensures.handed file.net run p plan.well_formed)
    (start_of_run (count file.net)) own.lives (c.runs_stay_right.ensures.start file.net file.bounds plan) in
    tells_due files lines id own is
    (is_due_moment file (own_run files own) (c.due_is_exact.ensures.none file.net file.bounds (own_run files own) plan right).0 (λ t. c.due_is_exact.ensures.due file.net file.bounds (own_run files own) t plan right))
