-- The program's guided session says what the definitions say of its labelled network.
use Rattle.std.proofs.Common.{◌≡◌, ℕ, List, [], ◌++◌, refl, ap, sym, subst, inr, ◌∙◌, String, Global, string_bytes}
use Rattle.std.specs.Prelude.{map, Option, None, Some, codes}
use Rattle.cstn_label.specs.declared.nodes.NodeId.{NodeId}
use Rattle.cstn_net.specs.Networks.{count}
use Rattle.cstn_plan.specs.Plans.{the_bounds}
use Rattle.cstn_lift.specs.Lowered.{lowered}
use Rattle.cstn_lift.specs.Read.{the_labelled}
use Rattle.cstn_lines.specs.LiveLines.{Live, due_now, live_read}
use Rattle.cstn_exec.specs.Runs.{due}
use Rattle.cstn_exec.specs.Moves.{EventRefusal, moment_refusal}
use Rattle.cstn_exec.specs.Guides.{Guided, named, advanced}
use Rattle.cstn_exec.specs.GuideRead.{GuideParts, advanced_on}
use Rattle.cstn_reply.specs.Texts.{line, Said}
use Rattle.cstn_reply.specs.Written.{EndsLine}
use Rattle.cstn_reply.specs.Sessions.{Turn, more, last, play, the_turn}
use Rattle.cstn_reply.specs.Reached.{heard}
use Rattle.cstn_reply.specs.declared.session.Answer.{Answer}
use Rattle.cstn_reply.specs.declared.output.Outcome.TheVariants.{Good}
use Rattle.cstn_exec.specs.Running.{the_nodes, moment_line, refused_text, executing, due_text, turn_with}
use Rattle.cstn_run.specs.Sessions.{RunSessionParts, named_turn, answer_turn, guide_turn, guide_ending, with_state, guided_turn, guided_ending}
use Rattle.cstn_run.proofs.Images.{same_play, same_heard}

-- the answers of the session, and how it ends
abbrev pub turn_of : RunSessionParts → Guided → List ℕ → Turn Guided
turn_of r = guide_turn r.names (the_labelled r.labelled) (the_bounds r.bounds)

abbrev pub ending_of : RunSessionParts → Guided → Said
ending_of r = guide_ending (the_labelled r.labelled) (the_bounds r.bounds)

pub play_as : (r : RunSessionParts) (count : ℕ) (lines : List (List ℕ)) → play guided_turn guided_ending r count lines ≡ play (turn_of r) (ending_of r) r.state count lines
play_as r count lines =
    same_play (turn_of r) guided_turn (with_state r) (λ g. Unit {0}) (λ g first text next holds is. tt) (λ g first holds. refl) (ending_of r) guided_ending (λ g. refl)
    r.state count lines tt

pub heard_as : (r : RunSessionParts) (lines : List (List ℕ)) → heard guided_turn r lines ≡ heard (turn_of r) r.state lines
heard_as r lines = same_heard (turn_of r) guided_turn (with_state r) (λ g. Unit {0}) (λ g first text next holds is. tt) (λ g first holds. refl) r.state lines tt

-- ---- the answers to live lines

-- the answer to a moment, as the program has it
abbrev named_by : RunSessionParts → ℕ → Turn RunSessionParts
named_by r t = turn_with (with_state r) (named_turn r.names (the_labelled r.labelled) (the_bounds r.bounds) r.state t (moment_refusal (lowered (the_labelled r.labelled)) (the_bounds r.bounds) r.state.run t))

moment_accepted : (r : RunSessionParts) (t : ℕ) (o : Option ℕ) → None ≡ moment_refusal (lowered (the_labelled r.labelled)) (the_bounds r.bounds) r.state.run t → due (lowered (the_labelled r.labelled)) (the_bounds r.bounds) (advanced (the_labelled r.labelled) (the_bounds r.bounds) r.state t).run ≡ o → named_by r t ≡ turn_with (with_state r) (executing (moment_line r.names t (named (the_labelled r.labelled) (the_bounds r.bounds) r.state.run t)) (advanced (the_labelled r.labelled) (the_bounds r.bounds) r.state t) o)
moment_accepted r t o is due_is =
    ap (λ (x : Option EventRefusal). turn_with (with_state r) (named_turn r.names (the_labelled r.labelled) (the_bounds r.bounds) r.state t x)) (sym is)
    ∙ ap (λ (x : Option ℕ). turn_with (with_state r) (executing (moment_line r.names t (named (the_labelled r.labelled) (the_bounds r.bounds) r.state.run t)) (advanced (the_labelled r.labelled) (the_bounds r.bounds) r.state t) x)) due_is

-- the session of a guide under printed names
abbrev seen_with : GuideParts → List (List ℕ) → RunSessionParts
seen_with e names = record { labelled = e.labelled; bounds = e.bounds; state = e.state; names = names }

-- a moment that is refused
pub moment_refused : (old : RunSessionParts) (e new : GuideParts) (names : List (List ℕ)) (t : ℕ) (why : EventRefusal) (text : List ℕ) → seen_with e names ≡ old → Some why ≡ moment_refusal (lowered (the_labelled e.labelled)) (the_bounds e.bounds) e.state.run t → new ≡ e → text ≡ line (refused_text why) → named_by old t ≡ more text (seen_with new names)
moment_refused old e new names t why text view is same text_is =
    subst (λ (r : RunSessionParts). named_by r t ≡ more text (seen_with new names)) view
    (ap (λ (x : Option EventRefusal). turn_with (with_state (seen_with e names)) (named_turn names (the_labelled e.labelled) (the_bounds e.bounds) e.state t x)) (sym is)
    ∙ ap (λ (xs : List ℕ). more xs (seen_with e names)) (sym text_is)
    ∙ ap (λ (x : GuideParts). more text (seen_with x names)) (sym same))

-- a moment after which something is due
pub moment_goes_on : (old : RunSessionParts) (e new : GuideParts) (names : List (List ℕ)) (t u : ℕ) (text : List ℕ) → seen_with e names ≡ old → None ≡ moment_refusal (lowered (the_labelled e.labelled)) (the_bounds e.bounds) e.state.run t → new ≡ advanced_on e t → Some u ≡ due (lowered (the_labelled new.labelled)) (the_bounds new.bounds) new.state.run → text ≡ moment_line names t (named (the_labelled e.labelled) (the_bounds e.bounds) e.state.run t) → named_by old t ≡ more text (seen_with new names)
moment_goes_on old e new names t u text view is new_is due_is text_is =
    subst (λ (r : RunSessionParts). named_by r t ≡ more text (seen_with new names)) view
    (moment_accepted (seen_with e names) t (Some u) is (sym (due_is ∙ ap (λ (x : GuideParts). due (lowered (the_labelled x.labelled)) (the_bounds x.bounds) x.state.run) new_is))
    ∙ ap (λ (x : GuideParts). more (moment_line names t (named (the_labelled e.labelled) (the_bounds e.bounds) e.state.run t)) (seen_with x names)) (sym new_is)
    ∙ ap (λ (xs : List ℕ). more xs (seen_with new names)) (sym text_is))

-- a moment after which nothing is due
pub moment_ends : (old : RunSessionParts) (e new : GuideParts) (names : List (List ℕ)) (t : ℕ) (text all : List ℕ) → seen_with e names ≡ old → None ≡ moment_refusal (lowered (the_labelled e.labelled)) (the_bounds e.bounds) e.state.run t → new ≡ advanced_on e t → None ≡ due (lowered (the_labelled new.labelled)) (the_bounds new.bounds) new.state.run → text ≡ moment_line names t (named (the_labelled e.labelled) (the_bounds e.bounds) e.state.run t) → all ≡ text ++ line (codes "done") → named_by old t ≡ last (record { outcome = Good; text = all })
moment_ends old e new names t text all view is new_is due_is text_is all_is =
    subst (λ (r : RunSessionParts). named_by r t ≡ last (record { outcome = Good; text = all })) view
    (moment_accepted (seen_with e names) t None is (sym (due_is ∙ ap (λ (x : GuideParts). due (lowered (the_labelled x.labelled)) (the_bounds x.bounds) x.state.run) new_is))
    ∙ ap (λ (xs : List ℕ). last (record { outcome = Good; text = xs })) (sym (all_is ∙ ap (λ (xs : List ℕ). xs ++ line (codes "done")) text_is)))

-- the line of a moment, which was put from borrowed names and time-points
pub moment_text : (names lent : List (String Global)) (t : ℕ) (xs : List NodeId) (named' text : List ℕ) → text ≡ moment_line (map string_bytes lent) t (the_nodes xs) → lent ≡ names → the_nodes xs ≡ named' → text ≡ moment_line (map string_bytes names) t named'
moment_text names lent t xs named' text is same named_is =
    is ∙ ap (λ (ns : List (String Global)). moment_line (map string_bytes ns) t (the_nodes xs)) same ∙ ap (λ (ys : List ℕ). moment_line (map string_bytes names) t ys) named_is

-- the answer to a live line, by what it says
pub answered : (old new : RunSessionParts) (bytes : List ℕ) (o : Option Live) (a : Answer) (text : List ℕ) → o ≡ live_read bytes → turn_with (with_state old) (answer_turn old.names (the_labelled old.labelled) (the_bounds old.bounds) old.state o) ≡ the_turn a new text → guided_turn old bytes ≡ the_turn a new text
answered old new bytes o a text is turned = ap (λ (x : Option Live). turn_with (with_state old) (answer_turn old.names (the_labelled old.labelled) (the_bounds old.bounds) old.state x)) (sym is) ∙ turned

-- the answer to `due`
pub due_answered : (old : RunSessionParts) (text : List ℕ) → text ≡ line (due_text (due (lowered (the_labelled old.labelled)) (the_bounds old.bounds) old.state.run)) → turn_with (with_state old) (answer_turn old.names (the_labelled old.labelled) (the_bounds old.bounds) old.state (Some due_now)) ≡ more text old
due_answered old text is = ap (λ (xs : List ℕ). more xs old) (sym is)

-- a line ends with LF
pub line_ends : (text front : List ℕ) → text ≡ line front → EndsLine text
line_ends text front is = inr (front, is)

-- what is put into a text that was empty is the text
pub from_empty : (old new piece : List ℕ) → new ≡ old ++ piece → old ≡ [] → new ≡ piece
from_empty old new piece is empty = is ∙ ap (λ (xs : List ℕ). xs ++ piece) empty
