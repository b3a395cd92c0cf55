-- What the session of a guide says is what `run` says.
use Rattle.std.proofs.Common.{◌≡◌, ℕ, List, [], ◌++◌, ap, sym, subst, ◌∙◌}
use Rattle.std.specs.Prelude.{map, true, false}
use Rattle.std.specs.Option.{option_map}
use Rattle.cstn_label.specs.Bounds.{Bound}
use Rattle.cstn_net.specs.Networks.{count}
use Rattle.cstn_plan.specs.Plans.{PlanParts, the_bounds}
use Rattle.cstn_lift.specs.Labelled.{Labelled}
use Rattle.cstn_lift.specs.Lowered.{lowered}
use Rattle.cstn_lift.specs.Read.{LabelledParts, the_labelled}
use Rattle.cstn_check.specs.Growth.{log_of, load_of, live_bounds}
use Rattle.cstn_check.specs.declared.verdicts.Verdict.TheVariants.{Yes}
use Rattle.cstn_text.specs.PrintedNames.{printed_name}
use Rattle.cstn_lines.specs.Pieces.{lines_of, whole_lines}
use Rattle.cstn_exec.specs.Guides.{Guided, guide_begun as begun_guide}
use Rattle.cstn_exec.specs.GuideRead.{GuideParts}
use Rattle.cstn_reply.specs.Texts.{yes_line, after_text}
use Rattle.cstn_top.specs.Plans.{Plan, ComesTo, session}
use Rattle.cstn_top.specs.Answers.{plan_on_verdict}
use Rattle.cstn_top.specs.commands.Run.{run_answer}
use Rattle.cstn_check.specs.Decisions.{verdict}
use Rattle.cstn_run.specs.Sessions.{RunSessionParts, guide_turn, guide_ending, guided_turn, guided_ending}
use Rattle.cstn_run.proofs.Runs.{turn_of, ending_of, play_as, heard_as}

-- what the session of a labelled network says is what the program says
pub comes_guided : (opening : List ℕ) (r : RunSessionParts) → ComesTo (session (turn_of r) (ending_of r) opening r.state) (session guided_turn guided_ending opening r)
comes_guided opening r = record {
  output = λ live said is. is ∙ ap (after_text opening) (play_as r 0 (lines_of live));
  talks = λ may. tt;
  fault = λ may taken. ap (option_map (λ (xs : List ℕ). opening ++ xs)) (heard_as r (whole_lines taken));
  stops = λ source said is. absurd (let never : false ≡ true = is.2.is_kind in let f : ⊥ = cc in f);
}

-- after yes, a session from the beginning on, by the bounds of the log, says what is said of the labelled network
pub comes_begun : (cap : ℕ) (names : List (List ℕ)) (m : Labelled) (opening : List ℕ) (r : RunSessionParts) → verdict cap (lowered m) ≡ Yes (load_of (lowered m)) → opening ≡ yes_line (load_of (lowered m)) → the_labelled r.labelled ≡ m → the_bounds r.bounds ≡ live_bounds (log_of (lowered m)) → r.state ≡ begun_guide (count m.base) → r.names ≡ map printed_name names → ComesTo (run_answer cap names m) (session guided_turn guided_ending opening r)
comes_begun cap names m opening r yes' opening_is m_is bounds_is state_is names_are =
    let talk : List ℕ → List (List ℕ) → Labelled → List Bound → Guided → Plan = λ o ns l bs g. session (guide_turn ns l bs) (guide_ending l bs) o g in
    let same : talk opening r.names (the_labelled r.labelled) (the_bounds r.bounds) r.state ≡ run_answer cap names m =
    ap (λ (o : List ℕ). talk o r.names (the_labelled r.labelled) (the_bounds r.bounds) r.state) opening_is
    ∙ ap (λ (ns : List (List ℕ)). talk (yes_line (load_of (lowered m))) ns (the_labelled r.labelled) (the_bounds r.bounds) r.state) names_are
    ∙ ap (λ (l : Labelled). talk (yes_line (load_of (lowered m))) (map printed_name names) l (the_bounds r.bounds) r.state) m_is
    ∙ ap (λ (bs : List Bound). talk (yes_line (load_of (lowered m))) (map printed_name names) m bs r.state) bounds_is
    ∙ ap (λ (g : Guided). talk (yes_line (load_of (lowered m))) (map printed_name names) m (live_bounds (log_of (lowered m))) g) state_is
    ∙ sym (ap (plan_on_verdict cap names (lowered m) (talk (yes_line (load_of (lowered m))) (map printed_name names) m (live_bounds (log_of (lowered m))) (begun_guide (count m.base)))) yes') in
    subst (λ (p : Plan). ComesTo p (session guided_turn guided_ending opening r)) same (comes_guided opening r)

-- likewise where the session was started with a guide, and the guide with a plan of the log
pub begun : (cap : ℕ) (names : List (List ℕ)) (labels : LabelledParts) (opening : List ℕ) (plan : PlanParts) (guide : GuideParts) (r : RunSessionParts) → verdict cap (lowered (the_labelled labels)) ≡ Yes (load_of (lowered (the_labelled labels))) → opening ≡ yes_line (load_of (lowered (the_labelled labels))) → the_bounds plan.bounds ≡ live_bounds (log_of (lowered (the_labelled labels))) → guide ≡ record { labelled = labels; bounds = plan.bounds; state = begun_guide (count (the_labelled labels).base); named = [] } → r ≡ record { labelled = guide.labelled; bounds = guide.bounds; state = guide.state; names = map printed_name names } → ComesTo (run_answer cap names (the_labelled labels)) (session guided_turn guided_ending opening r)
begun cap names labels opening plan guide r yes' opening_is live guide_is r_is =
    comes_begun cap names (the_labelled labels) opening r yes' opening_is
    (ap (λ (x : RunSessionParts). the_labelled x.labelled) r_is ∙ ap (λ (x : GuideParts). the_labelled x.labelled) guide_is)
    (ap (λ (x : RunSessionParts). the_bounds x.bounds) r_is ∙ ap (λ (x : GuideParts). the_bounds x.bounds) guide_is ∙ live)
    (ap (λ (x : RunSessionParts). x.state) r_is ∙ ap (λ (x : GuideParts). x.state) guide_is)
    (ap (λ (x : RunSessionParts). x.names) r_is)
