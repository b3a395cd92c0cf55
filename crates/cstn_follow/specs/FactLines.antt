-- What is said to a fact.
use Rattle.std.specs.Prelude.{ℕ, Bool, List, [], ◌∷◌, ◌++◌, Option, None, Some, Result, Ok, Err, if◌then◌else◌, codes, decimal}
use Rattle.std.specs.Option.{is_none, option_map}
use Rattle.std.specs.List.{filter_map, find}
use Rattle.cstn_label.specs.Letters.{letter_of}
use Rattle.cstn_label.specs.declared.nodes.NodeId.{NodeId}
use Rattle.cstn_text.specs.Names.{number_of}
use Rattle.cstn_text.specs.PrintedNames.{printed_name}
use Rattle.cstn_lines.specs.LiveLines.{printed_truth}
use Rattle.cstn_lift.specs.Labelled.{Labelled}
use Rattle.cstn_history.specs.Histories.{History}
use Rattle.cstn_history.specs.Facts.{FactRefusal, Past, OutOfRange, NoSuch, Done, Undecided, NotObserved, Told}
use Rattle.cstn_history.specs.Facts.{is_beyond, now_refusal, done_refusal, told_refusal, expected_refusal, ready_refusal, at_now, with_done, with_told, with_expected, with_ready}
use Rattle.cstn_reply.specs.Texts.{line}
use Rattle.cstn_follow.specs.Following.{Following, Heard, says, name_of_point, verdict_line, follows}

-- F1 to F7: what is said of a refused fact
abbrev pub refused_fact : List (List ℕ) → FactRefusal → List ℕ
refused_fact names (Past now) = codes "refused F1 " ++ decimal now
refused_fact names (OutOfRange moment) = codes "refused F2 " ++ decimal moment
refused_fact names (NoSuch x) = codes "refused F3 " ++ printed_name (name_of_point names x)
refused_fact names (Done x moment) = codes "refused F4 " ++ printed_name (name_of_point names x) ++ 32 ∷ decimal moment
refused_fact names (Undecided x) = codes "refused F5 " ++ printed_name (name_of_point names x)
refused_fact names (NotObserved p) = codes "refused F6 " ++ letter_of p ∷ []
refused_fact names (Told p v) = codes "refused F7 " ++ letter_of p ∷ 32 ∷ printed_truth v

-- F3: what is said where no time-point has the name
abbrev pub unknown_name : List ℕ → List ℕ
unknown_name name = codes "refused F3 " ++ printed_name name

-- a fact is refused, or it is recorded: this is what has happened then
abbrev pub refuses : Following → FactRefusal → Heard
refuses s e = says (line (refused_fact s.names e)) s

abbrev pub records : Following → History → Heard
records s h = follows s (record s { history = h }) (verdict_line s.cap)

-- why a fact is refused, or what has happened once it is recorded
abbrev pub on_result : Following → Result History FactRefusal → Heard
on_result s (Err e) = refuses s e
on_result s (Ok h) = records s h

abbrev pub unless_fact_refused : Option FactRefusal → Result History FactRefusal → Result History FactRefusal
unless_fact_refused None more = more
unless_fact_refused (Some e) more = Err e

-- what has happened once these time-points were done at t, one after the other; the first that can't be done refuses all
abbrev pub all_done : Labelled → ℕ → History → List NodeId → Result History FactRefusal
all_done m t h [] = Ok h
all_done m t h (x ∷ xs) = unless_fact_refused (done_refusal m h t x.0) (all_done m t (with_done h t x.0) xs)

-- the first of these names that no time-point has, and the time-points that have these names
abbrev pub unknown_of : List (List ℕ) → List (List ℕ) → Option (List ℕ)
unknown_of names given = find (λ name. is_none (number_of names name)) given

abbrev pub node_numbered : ℕ → NodeId
node_numbered n = record { 0 = n }

abbrev pub node_named : List (List ℕ) → List ℕ → Option NodeId
node_named names name = option_map node_numbered (number_of names name)

abbrev pub nodes_of : List (List ℕ) → List (List ℕ) → List NodeId
nodes_of names given = filter_map (node_named names) given

abbrev pub on_known : Following → ℕ → List (List ℕ) → Option (List ℕ) → Heard
on_known s t given (Some name) = says (line (unknown_name name)) s
on_known s t given None = on_result s (all_done s.network t s.history (nodes_of s.names given))

-- `did`: these were done at t
abbrev pub on_did : Following → ℕ → List (List ℕ) → Heard
on_did s t given = if is_beyond t then refuses s (OutOfRange t) else on_known s t given (unknown_of s.names given)

-- a fact is refused for this, or this is what has happened once it is recorded
abbrev pub on_fact : Following → Option FactRefusal → History → Heard
on_fact s refusal h = on_result s (unless_fact_refused refusal (Ok h))

-- `now`: it is t
abbrev pub on_now : Following → ℕ → Heard
on_now s t = on_fact s (now_refusal s.history t) (at_now s.history t)

-- `saw`: the outcome of p came at t
abbrev pub on_saw : Following → ℕ → ℕ → Bool → Heard
on_saw s t p v = on_fact s (told_refusal s.network s.history t p) (with_told s.history t p v)

-- `await`: the outcome of p is expected at t
abbrev pub on_await : Following → ℕ → ℕ → Heard
on_await s t p = on_fact s (expected_refusal s.network s.history t p) (with_expected s.history t p)

-- `expect`: the time-point of this name can't be done before t
abbrev pub on_ready : Following → ℕ → List ℕ → Option NodeId → Heard
on_ready s t name None = says (line (unknown_name name)) s
on_ready s t name (Some x) = on_fact s (ready_refusal s.network s.history t x.0) (with_ready s.history t x.0)

abbrev pub on_expect : Following → ℕ → List ℕ → Heard
on_expect s t name = if is_beyond t then refuses s (OutOfRange t) else on_ready s t name (node_named s.names name)
