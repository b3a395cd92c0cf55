-- What is answered to live lines.
use Rattle.std.specs.Prelude.{◌≡◌, ◌≤◌, ℕ, Bool, List, [], ◌∷◌, ◌++◌, length, map, flat_map, get_or, Option, None, Some, codes, decimal}
use Rattle.std.specs.List.{All}
use Rattle.cstn_label.specs.declared.nodes.NodeId.{NodeId}
use Rattle.cstn_label.specs.Bounds.{Bound}
use Rattle.cstn_label.specs.Letters.{letter_of}
use Rattle.cstn_net.specs.Limits.{most_time_points}
use Rattle.cstn_net.specs.Networks.{Network, count}
use Rattle.cstn_net.specs.Read.{NetworkParts, the_network}
use Rattle.cstn_lines.specs.LiveLines.{Live, moment_at, seen, due_now, live_read, printed_truth}
use Rattle.cstn_exec.specs.Runs.{Run, called, due}
use Rattle.cstn_exec.specs.Moves.{EventRefusal, Done, Past, Late, Awaiting, NotExecuted, Known, moment_refusal, run_moved, outcome_refusal, handed}
use Rattle.cstn_reply.specs.Texts.{line, Said, say}
use Rattle.cstn_reply.specs.Sessions.{Turn, more, last, wrong}
use Rattle.cstn_reply.specs.declared.output.Outcome.TheVariants.{Good, Unfinished}

-- the names of time-points, each after a space
abbrev pub spaced : List (List ℕ) → List ℕ → List ℕ
spaced names xs = flat_map (λ x. 32 ∷ get_or names x []) xs

-- the line that names the time-points of a moment, perhaps none
abbrev pub moment_line : List (List ℕ) → ℕ → List ℕ → List ℕ
moment_line names t xs = line (codes "at " ++ decimal t ++ spaced names xs)

-- a proposition's letter
abbrev pub letter : ℕ → List ℕ
letter p = letter_of p ∷ []

-- what is said of a refused moment or outcome
abbrev pub refused_text : EventRefusal → List ℕ
refused_text Done = codes "refused E6"
refused_text (Past now) = codes "refused E1 " ++ decimal now
refused_text (Late u) = codes "refused E2 " ++ decimal u
refused_text (Awaiting p) = codes "refused E3 " ++ letter p
refused_text (NotExecuted p) = codes "refused E4 " ++ letter p
refused_text (Known p value) = codes "refused E5 " ++ letter p ++ 32 ∷ printed_truth value

-- what is said of an accepted outcome
abbrev pub seen_text : ℕ → Bool → List ℕ
seen_text p value = codes "seen " ++ letter p ++ 32 ∷ printed_truth value

-- the moment that is due, or that all is executed
abbrev pub due_text : Option ℕ → List ℕ
due_text None = codes "done"
due_text (Some t) = codes "due " ++ decimal t

-- the answer to a moment that was accepted, by what is due after it: it is the last where all is executed and nothing is due
abbrev pub executing : {State : Type 0} → List ℕ → State → Option ℕ → Turn State
executing text state None = last (record { outcome = Good; text = text ++ line (codes "done") })
executing text state (Some t) = more text state

abbrev pub moment_turn : List (List ℕ) → Network → List Bound → Run → ℕ → Option EventRefusal → Turn Run
moment_turn names net bounds run t None = executing (moment_line names t (called net bounds run t)) (run_moved net bounds run t) (due net bounds (run_moved net bounds run t))
moment_turn names net bounds run t (Some refusal) = more (line (refused_text refusal)) run

abbrev pub seen_turn : Run → ℕ → Bool → Option EventRefusal → Turn Run
seen_turn run p value None = more (line (seen_text p value)) (handed run p value)
seen_turn run p value (Some refusal) = more (line (refused_text refusal)) run

-- the answer to what a live line says
abbrev pub live_turn : List (List ℕ) → Network → List Bound → Run → Option Live → Turn Run
live_turn names net bounds run None = wrong
live_turn names net bounds run (Some (moment_at t)) = moment_turn names net bounds run t (moment_refusal net bounds run t)
live_turn names net bounds run (Some (seen p value)) = seen_turn run p value (outcome_refusal net run p)
live_turn names net bounds run (Some due_now) = more (line (due_text (due net bounds run))) run

-- the answer to a live line of a run of a network by the bounds of a plan, under printed names
abbrev pub run_turn : List (List ℕ) → Network → List Bound → Run → List ℕ → Turn Run
run_turn names net bounds run text = live_turn names net bounds run (live_read text)

-- what is said where the live lines end
abbrev pub unfinished : Option ℕ → Said
unfinished None = say Good (codes "done")
unfinished (Some t) = say Unfinished (codes "unfinished " ++ decimal t)

abbrev pub run_ending : Network → List Bound → Run → Said
run_ending net bounds run = unfinished (due net bounds run)

-- the answer, with `f` applied to the state after it
abbrev pub turn_with : {S R : Type 0} → (S → R) → Turn S → Turn R
turn_with f (more text state) = more text (f state)
turn_with f (last said) = last said
turn_with f wrong = wrong

-- each time-point has a printed name, which is at most 192 bytes long
pub record AreShort (net : NetworkParts) (names : List (List ℕ)) : Type 0 where
  pub all : length names ≡ count (the_network net)
  pub few : count (the_network net) ≤ most_time_points
  pub each : All (λ name. length name ≤ 192) names

-- the numbers of these time-points
abbrev pub the_nodes : List NodeId → List ℕ
the_nodes xs = map (λ (x : NodeId). x.0) xs
